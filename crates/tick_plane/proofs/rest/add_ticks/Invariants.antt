use Rattle.std.proofs.Common.{◌≡◌, ◌++◌, ◌-◌}
use Rattle.tick_plane.specs.Rounds.{ticks_from}
use Rattle.tick_plane.proofs.rest.add_ticks.Given as goal

-- the ticks of the links so far
abbrev pub invariant-loop-number : goal.invariant-loop-number
invariant-loop-number l = l.asks.items ≡ l.initial.asks.items ++ ticks_from l.from (l.number - l.from)
