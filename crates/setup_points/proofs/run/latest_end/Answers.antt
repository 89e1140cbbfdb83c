use Rattle.std.proofs.Common.{ap, max, reverse, ◌∙◌}
use Rattle.setup_points.proofs.Ends.{none-latest, latest-more, latest-all}
use Rattle.setup_points.proofs.run.latest_end.Goals as goal

pub loop-number-init : goal.loop-number-init
loop-number-init c = none-latest c.args.plan.now.requests (reverse c.args.entries.now) c.args.numbers.now

pub loop-number-preserved : goal.loop-number-preserved
loop-number-preserved c =
    c.later-latest.ensures ∙ ap (max c.loop-number.latest) c.end_in.ensures
    ∙ latest-more c.args.plan.now.requests (reverse c.args.entries.now) c.args.numbers.now c.loop-number.number-index c.loop-number.latest c.loop-number-test.true c.loop-number.invariant

pub returns : goal.returns
returns c = latest-all c.args.plan.now.requests (reverse c.args.entries.now) c.args.numbers.now c.loop-number.number-index c.loop-number.latest c.loop-number-test.false c.loop-number.invariant
