use Rattle.std.proofs.Common.{ap, ◌∙◌}
use Rattle.question_plans.specs.Alone.{opens_in, opens_of}
use Rattle.question_plans.proofs.OpensMade.{put-ops, with-ops}
use Rattle.question_plans.proofs.alone.opening_callers.Goals as goal
use Rattle.net_units.proofs.ListSteps.{mapped-more, mapped-all}

pub loop-caller-preserved : goal.loop-caller-preserved
loop-caller-preserved c =
    c.in_ok-push.ensures.items
    ∙ mapped-more opens_of c.args.callers.now c.loop-caller.caller-index c.caller-item.result (put-ops c.caller-item.result c.new.result) c.loop-caller.made.items c.loop-caller-test.true c.caller-item.is c.loop-caller.invariant
    (with-ops c.caller-item.result c.new.result (c.new.ensures ∙ c.in_ok-ops.ensures ∙ ap opens_in c.as_slice.ensures))

pub returns : goal.returns
returns c = mapped-all opens_of c.args.callers.now c.loop-caller.caller-index c.loop-caller.made.items c.loop-caller-test.false c.loop-caller.invariant
