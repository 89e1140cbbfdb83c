use Rattle.std.proofs.Common.{◌∙◌}
use Rattle.question_plans.proofs.OpensMade.{put-ops, with-same-ops}
use Rattle.question_plans.proofs.kept.callers_of.Goals as goal
use Rattle.net_units.proofs.ListSteps.{copied-more, copied-all}

pub loop-caller-preserved : goal.loop-caller-preserved
loop-caller-preserved c =
    c.in_ok-push.ensures.items
    ∙ copied-more c.args.callers.now c.loop-caller.caller-index c.caller-item.result (put-ops c.caller-item.result c.new.result) c.loop-caller.copied.items c.loop-caller-test.true c.caller-item.is c.loop-caller.invariant
    (with-same-ops c.caller-item.result c.new.result (c.new.ensures ∙ c.in_ok-ops.ensures ∙ c.as_slice.ensures))

pub returns : goal.returns
returns c = copied-all c.args.callers.now c.loop-caller.caller-index c.loop-caller.copied.items c.loop-caller-test.false c.loop-caller.invariant
