use Rattle.step_stamp.specs.Opening.{IsNewLink}
use Rattle.step_stamp.specs.Seats.{stamps_table}
use Rattle.lock_bench.proofs.SeatsUnused.{popped, all-unused}
use Rattle.lock_bench.proofs.opening.opened.Goals as goal

pub returns-clause-link : goal.returns-clause-link
returns-clause-link c =
    let new = popped (IsNewLink (stamps_table c.in_ok-stamps.stamps) c.args.actors) _ _ _ _ c.in-Some.is c.pop.ensures.items c.in_ok-stamps.ensures.links.new in
    (new.from_table, new.empty)

pub returns-clause-passes : goal.returns-clause-passes
returns-clause-passes c = all-unused (stamps_table c.in_ok-stamps.stamps) c.args.actors _ c.in_ok-stamps.ensures.passes.new
