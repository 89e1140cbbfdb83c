use Rattle.std.proofs.Common.{◌∙◌}
use Rattle.question_plans.proofs.OpensMade.{none-opened, opens-more, opens-all}
use Rattle.question_plans.proofs.alone.opens_among.Goals as goal

pub loop-op-init : goal.loop-op-init
loop-op-init c = none-opened c.args.ops.now c.new-opens.result.items c.new-opens.ensures.items

pub loop-op-preserved : goal.loop-op-preserved
loop-op-preserved c =
    c.in_ok-add_open.ensures ∙ opens-more c.args.ops.now c.loop-op.op-index c.op-item.result c.loop-op.opens.items c.loop-op-test.true c.op-item.is c.loop-op.invariant

pub returns : goal.returns
returns c = opens-all c.args.ops.now c.loop-op.op-index c.loop-op.opens.items c.loop-op-test.false c.loop-op.invariant
