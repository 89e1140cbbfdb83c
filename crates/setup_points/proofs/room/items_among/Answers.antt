use Rattle.std.proofs.Common.{ap, ◌∷◌, [], ◌++◌, ◌∙◌}
use Rattle.setup_points.specs.Rooms.{steps_by}
use Rattle.setup_points.proofs.Among.{among-none, among-one, among-all}
use Rattle.setup_points.proofs.room.items_among.Goals as goal

pub loop-item-init : goal.loop-item-init
loop-item-init c = among-none c.args.callers c.args.more c.new-made.result.items c.new-made.ensures.items

pub loop-item-preserved : goal.loop-item-preserved
loop-item-preserved c =
    let item = c.item-item.result in
    among-one c.args.callers c.args.more c.args.items.now c.loop-item.item-index item c.loop-item.made.items c.add_item.new.items.items c.loop-item-test.true c.item-item.is c.loop-item.invariant
    (c.in_ok-add_item.ensures ∙ ap (λ actor. c.loop-item.made.items ++ steps_by actor item.count ∷ []) c.actor_among.ensures)

pub returns : goal.returns
returns c = among-all c.args.callers c.args.more c.args.items.now c.loop-item.item-index c.loop-item.made.items c.loop-item-test.false c.loop-item.invariant
