use Rattle.std.proofs.Common.{◌≡◌, ◌≤◌, ◌+◌, ◌++◌, List, length, vec_capacity}
use Rattle.shared_network.proofs.Words.{into_iter_items, pass_table, pass_view, Token}
use Rattle.shared_network.specs.Closing.{HaveGivenUp}
use Rattle.shared_network.specs.Gathering.{AreGathered}
use Rattle.shared_network.proofs.closing.gather.Given as goal

-- the seats of some passes are joined, and the others are left
abbrev pub invariant-loop-pass : goal.invariant-loop-pass
invariant-loop-pass g l = record {
  done : List Token;
  split : done ++ into_iter_items l.pass-iterator ≡ l.fn.passes.items;
  gathered : AreGathered (length l.fn.passes.items) done (pass_view l.seat);
  given_up : HaveGivenUp done l.closed.items;
  table : pass_table l.seat ≡ g.H.Home.table;
  room : length l.closed.items + length (into_iter_items l.pass-iterator) ≤ vec_capacity l.closed;
}
