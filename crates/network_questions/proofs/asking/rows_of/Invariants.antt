use Rattle.std.proofs.Common.{◌≡◌, ◌≤◌, length}
use Rattle.network_questions.specs.Asked.{AreRowsFrom}
use Rattle.network_questions.proofs.asking.rows_of.Given as goal

-- the rows so far, one for each number
abbrev pub invariant-loop-number : goal.invariant-loop-number
invariant-loop-number l = record {
  are : AreRowsFrom l.network l.asking 0 l.rows.items;
  many : length l.rows.items ≡ l.number;
  most : l.number ≤ length l.network.plan.requests;
}
