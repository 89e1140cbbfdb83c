use Rattle.std.proofs.Common.{◌≡◌, length, take}
use Rattle.race_run.specs.Order.{HasOrder}
use Rattle.race_run.proofs.order.order_of.Given as goal

-- the table has the order of the journals so far
abbrev pub invariant-loop-number : goal.invariant-loop-number
invariant-loop-number l = record {
  long : length l.order.items ≡ l.count;
  has : HasOrder (take l.number l.journals) l.order.items;
}
