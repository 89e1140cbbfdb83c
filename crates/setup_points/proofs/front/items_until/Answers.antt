use Rattle.std.proofs.Common.{◌≡◌, ◌-◌, [], ◌∷◌, ◌++◌, min, refl, ap, ◌∙◌}
use Rattle.setup_points.specs.Points.{with_count}
use Rattle.setup_points.proofs.Fronts.{front-begins, front-more}
use Rattle.setup_points.proofs.front.items_until.Goals as goal

pub loop-item-init : goal.loop-item-init
loop-item-init c = front-begins c.args.items.now c.new-front.result.items c.args.steps c.args.steps c.new-front.ensures.items refl

pub loop-item-preserved : goal.loop-item-preserved
loop-item-preserved c =
    let item = c.item-item.result in
    let count : c.least_of-count.result ≡ min item.count c.loop-item.left = c.least_of-count.ensures in
    front-more c.args.items.now c.args.steps c.loop-item.item-index c.loop-item.front.items c.add_item.new.front.items c.loop-item.left (c.loop-item.left - c.least_of-count.result) item c.loop-item-test.true c.item-item.is c.loop-item.invariant
    (c.in_ok-add_item.ensures ∙ ap (λ n. c.loop-item.front.items ++ with_count item n ∷ []) count) (ap (λ n. c.loop-item.left - n) count)
