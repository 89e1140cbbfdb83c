-- One flight more is listed.
use Rattle.std.proofs.Common.{◌≡◌, ◌+◌, ◌++◌, ◌∷◌, [], suc, length, take, sym, ap, subst, arith, ◌∙◌}
use Rattle.std.proofs.lemmas.List.{with_items_is}
use Rattle.std.proofs.Math.Seq.{take-suc}
use Rattle.tick_plane.specs.Coming.{AreByLink}
use Rattle.tick_plane.proofs.ComingInOrder.{one-listed}
use Rattle.tick_plane.proofs.window.by_link.Goals as goal

pub loop-flight-preserved : goal.loop-flight-preserved
loop-flight-preserved c =
    let v = c.loop-flight.lists in
    let f = c.flight-item.result in
    let k = c.loop-flight.flight-index in
    let long : length c.list_flight.new.lists ≡ v.len = omega (arith, c.in_ok-list_flight.ensures.long, ap length c.deref_mut.ensures.value, v.ok.0) in
    let more : take (k + 1) c.args.flights.now ≡ take k c.args.flights.now ++ f ∷ [] = (let next : k + 1 ≡ suc k = omega arith in ap (λ j. take j c.args.flights.now) next ∙ take-suc c.args.flights.now k f c.loop-flight-test.true ∙ ap (λ g. take k c.args.flights.now ++ g ∷ []) (sym c.flight-item.is)) in
    subst (λ ls. AreByLink (λ own. own.items) (take (k + 1) c.args.flights.now) ls) (sym (with_items_is v c.list_flight.new.lists long))
    (subst (λ fs. AreByLink (λ own. own.items) fs c.list_flight.new.lists) (sym more)
    (one-listed (λ own. own.items) (take k c.args.flights.now) f c.deref_mut.result.now c.list_flight.new.lists
    (subst (AreByLink (λ own. own.items) (take k c.args.flights.now)) (sym c.deref_mut.ensures.value) c.loop-flight.invariant)
    c.in_ok-list_flight.ensures.long c.in_ok-list_flight.ensures.others c.in_ok-list_flight.ensures.own))
