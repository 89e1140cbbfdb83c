use Rattle.std.proofs.Common.{sym, ◌∙◌}
use Rattle.design_scale.specs.Serving.{serves}
use Rattle.design_scale.proofs.CoarsestServes.{none-at-all, first-serves}
use Rattle.design_scale.proofs.choice.first_serving.Goals as goal

pub returns-then-serves : goal.returns-then-serves
returns-then-serves c =
    first-serves (serves c.args.parts c.args.run c.args.design.now) c.args.scales.now c.loop-scale.scale-index c.scale-item.result c.loop-scale-test.true c.scale-item.is
    (sym c.serves.ensures ∙ c.if-serves.true) c.loop-scale.invariant

pub returns : goal.returns
returns c = none-at-all (serves c.args.parts c.args.run c.args.design.now) c.args.scales.now c.loop-scale.scale-index c.loop-scale-test.false c.loop-scale.invariant
