use Rattle.std.proofs.Common.{◌≡◌, length, replicate, refl, sym, ap, ◌∙◌, subst, arith}
use Rattle.std.proofs.lemmas.List.{take_all, length-replicate}
use Rattle.link_ledger.specs.declared.entries.Journal.{Journal}
use Rattle.race_run.specs.Order.{AreBelow, HasOrder, IsMarked}
use Rattle.race_run.proofs.Weave.StampTable.{order-none, order-more, all-below, journal-below}
use Rattle.race_run.proofs.order.order_of.Goals as goal

pub loop-number-init : goal.loop-number-init
loop-number-init c =
    let items : c.in_ok-order.order.items ≡ replicate c.in-Some.count 255 = c.in_ok-order.ensures.items_if_clones_equal (λ y same. same) in
    record { long = ap length items ∙ length-replicate c.in-Some.count 255; has = order-none c.in-Some.count c.in_ok-order.order.items items }

pub mark-requires : goal.mark-requires
mark-requires c =
    let long = c.loop-number.invariant.long in
    let count = c.in-Some.ensures in
    subst (AreBelow (length c.loop-number.order.items)) (ap (λ (j : Journal). j.entries) c.index-journals-number.is ∙ sym c.as_slice.ensures)
    (journal-below c.latest_in.result (length c.loop-number.order.items) c.args.journals.now c.loop-number.number c.index-journals-number.result (omega (arith, long, count)) c.latest_in.ensures c.loop-number-test.true c.index-journals-number.is)

pub loop-number-preserved : goal.loop-number-preserved
loop-number-preserved c = record {
  long = c.mark.ensures.long ∙ c.loop-number.invariant.long;
  has = order-more c.args.journals.now c.loop-number.number c.loop-number.number c.index-journals-number.result c.loop-number.order.items c.mark.new.order.items c.loop-number-test.true c.index-journals-number.is refl c.loop-number.invariant.has
      (subst (λ es. IsMarked c.loop-number.number es c.loop-number.order.items c.mark.new.order.items) (c.as_slice.ensures ∙ ap (λ (j : Journal). j.entries) (sym c.index-journals-number.is)) c.mark.ensures);
}

pub returns : goal.returns
returns c =
    let long = c.loop-number.invariant.long in
    let count = c.in-Some.ensures in
    record {
      all = all-below c.latest_in.result (length c.loop-number.order.items) c.args.journals.now (omega (arith, long, count)) c.latest_in.ensures;
      has = subst (λ js. HasOrder js c.loop-number.order.items) (take_all c.loop-number.number c.args.journals.now (omega (arith, c.loop-number-test.false))) c.loop-number.invariant.has;
    }
