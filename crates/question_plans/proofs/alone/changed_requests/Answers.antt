use Rattle.std.proofs.Common.{refl, ◌∙◌}
use Rattle.question_plans.specs.Alone.{changed}
use Rattle.question_plans.proofs.alone.changed_requests.Goals as goal
use Rattle.net_units.proofs.ListSteps.{mapped-more, mapped-all}

pub loop-entry-preserved : goal.loop-entry-preserved
loop-entry-preserved c =
    c.in_ok-add_changed.ensures
    ∙ mapped-more (changed c.args.change.now) c.args.requests.now c.loop-entry.entry-index c.entry-item.result (changed c.args.change.now c.entry-item.result) c.loop-entry.made.items
    c.loop-entry-test.true c.entry-item.is c.loop-entry.invariant refl

pub returns : goal.returns
returns c = mapped-all (changed c.args.change.now) c.args.requests.now c.loop-entry.entry-index c.loop-entry.made.items c.loop-entry-test.false c.loop-entry.invariant
