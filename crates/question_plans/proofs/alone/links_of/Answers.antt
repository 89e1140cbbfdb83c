use Rattle.std.proofs.Common.{◌∙◌}
use Rattle.question_plans.proofs.OpensMade.{put-quotas, with-quotas}
use Rattle.question_plans.proofs.alone.links_of.Goals as goal
use Rattle.net_units.proofs.ListSteps.{copied-more, copied-all}

pub loop-link-preserved : goal.loop-link-preserved
loop-link-preserved c =
    c.in_ok-push.ensures.items
    ∙ copied-more c.args.links.now c.loop-link.link-index c.link-item.result (put-quotas c.link-item.result c.new.result) c.loop-link.copied.items c.loop-link-test.true c.link-item.is c.loop-link.invariant
    (with-quotas c.link-item.result c.new.result (c.new.ensures ∙ c.in_ok-quotas.ensures ∙ c.as_slice.ensures))

pub returns : goal.returns
returns c = copied-all c.args.links.now c.loop-link.link-index c.loop-link.copied.items c.loop-link-test.false c.loop-link.invariant
