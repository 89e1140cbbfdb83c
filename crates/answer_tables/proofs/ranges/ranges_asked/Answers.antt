use Rattle.std.proofs.Common.{ℕ, Bool, false, List, sym, ap, ◌∙◌, subst}
use Rattle.answer_tables.specs.Ranges.{AreRangesOf, HasSeen, hops_of}
use Rattle.answer_tables.specs.declared.ranges.Range.{Range}
use Rattle.answer_tables.proofs.RangesSeen.{none-seen, all-denied-last, all-accepted-last}
use Rattle.answer_tables.proofs.ranges.ranges_asked.Goals as goal
use Rattle.answer_tables.proofs.ranges.ranges_asked.Goals.{then-sweep+in_ok-add, else-sweep}

pub loop-sweep-init : goal.loop-sweep-init
loop-sweep-init g c =
    let gives : ℕ → Bool → Type 0 = g.A.AskedWithin.gives c.args.asked.now c.args.plan.now c.args.number in
    let hops = hops_of c.args.plan.now c.args.number in
    subst (λ (ranges : List Range). HasSeen gives hops ranges (record { at = 0; accepted = false; first = 0 })) (sym c.new-ranges.ensures.items)
    (none-seen gives hops)

pub returns : goal.returns
returns g c =
    let gives : ℕ → Bool → Type 0 = g.A.AskedWithin.gives c.args.asked.now c.args.plan.now c.args.number in
    let hops = hops_of c.args.plan.now c.args.number in
    elim c.if-sweep.branch [
      | then-sweep+in_ok-add w ↦ subst (AreRangesOf gives hops) (sym (ap (λ v. v.items) w.ranges-is ∙ w.in_ok-add.ensures))
          (all-accepted-last gives hops c.loop-sweep.ranges.items c.loop-sweep.sweep c.loop-sweep.invariant c.loop-sweep-test.false w.if-sweep.true)
      | else-sweep w ↦ subst (AreRangesOf gives hops) (sym (ap (λ v. v.items) w.ranges-is))
          (all-denied-last gives hops c.loop-sweep.ranges.items c.loop-sweep.sweep c.loop-sweep.invariant c.loop-sweep-test.false w.if-sweep.false)
    ]
