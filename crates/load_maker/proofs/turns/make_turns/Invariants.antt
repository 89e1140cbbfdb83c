use Rattle.std.proofs.Common.{◌≡◌}
use Rattle.load_maker.proofs.WatchedTurns.{TurnsSoFar}
use Rattle.load_maker.proofs.turns.make_turns.Given as goal

-- the steps so far were made by turns, and this is where the circle goes on
abbrev pub invariant-loop : goal.invariant-loop
invariant-loop g l = record { turns : TurnsSoFar g.W.Watch.saw l.plan l.engine l.watch l.next l.counter; table : g.W.Watch.has_table l.watch ≡ g.W.Watch.has_table l.initial.watch }
