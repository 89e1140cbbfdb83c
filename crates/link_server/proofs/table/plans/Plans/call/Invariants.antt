-- What holds while the rows of the due entries are called.
use Rattle.std.proofs.Common.{◌≡◌, length}
use Rattle.std.specs.Vec.{vec_capacity}
use Rattle.link_server.specs.Plans.{AreCalled}
use Rattle.link_server.proofs.table.plans.Plans.call.Given as goal

-- the rows whose entries were taken have their turn, if a packet is planned for them
abbrev pub invariant-loop-number : goal.invariant-loop-number
invariant-loop-number l = record {
  called : AreCalled l.clock l.self.calendar l.self.turns.items l.rows.items;
  capacity : vec_capacity l.self.turns ≡ vec_capacity l.fn.self.turns;
}

-- each turn takes an entry out
abbrev pub decreases-loop-number : goal.decreases-loop-number
decreases-loop-number l = length l.self.calendar.entries
