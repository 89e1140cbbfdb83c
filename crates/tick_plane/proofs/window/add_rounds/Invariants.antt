use Rattle.std.proofs.Common.{◌≡◌, ◌++◌, ◌-◌, ◌≤◌, drop, length}
use Rattle.tick_plane.specs.Coming.{AreLeft, rounds_in}
use Rattle.tick_plane.proofs.window.add_rounds.Given as goal

-- the rounds so far are asked, and the flights from the place `next` on haven't arrived
abbrev pub invariant-loop-round : goal.invariant-loop-round
invariant-loop-round l = record {
  asked : l.asks.items ≡ l.initial.asks.items ++ rounds_in l.from (l.round - l.from) (drop l.first l.coming);
  inside : l.next ≤ length l.coming;
  left : AreLeft l.round (drop l.first l.coming) (drop l.next l.coming);
}
