use Rattle.network_variants.specs.Variants.{own_of}
use Rattle.network_variants.proofs.CutLines.{none-written, place-cut}
use Rattle.network_variants.proofs.cutting.cut.Goals as goal

pub loop-mark-init : goal.loop-mark-init
loop-mark-init c = none-written own_of c.new-places.result.items c.args.line.now c.new-places.ensures.items

pub loop-mark-preserved : goal.loop-mark-preserved
loop-mark-preserved c =
    place-cut c.loop-mark.places.items c.push.new.self.items c.in_ok-place_of.field-0 c.loop-mark.rest.now
    c.split_at.result.0.now c.split_at.result.1.now c.split_at-in-loop-mark.result.0.now c.split_at-in-loop-mark.result.1.now c.args.line.now c.in-Some-Some.before c.in-Some-Some.long
    c.loop-mark.invariant c.in_ok-place_of.ensures.front c.in_ok-place_of.ensures.own c.split_at.ensures.front c.split_at.ensures.back
    c.split_at-in-loop-mark.ensures.front c.split_at-in-loop-mark.ensures.back c.in_ok-push.ensures.items
