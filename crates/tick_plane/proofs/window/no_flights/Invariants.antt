use Rattle.std.proofs.Common.{◌≡◌, [], length}
use Rattle.link_steps.specs.Lists.{Each}
use Rattle.tick_plane.proofs.window.no_flights.Given as goal

-- so many empty lists
abbrev pub invariant-loop : goal.invariant-loop
invariant-loop l = record {
  long : length l.lists.items ≡ l.counter;
  empty : Each (λ own. own.items ≡ []) l.lists.items;
}
