use Rattle.std.proofs.Common.{◌≡◌, ℕ, ◌+◌, Bool, true, false, not, List, sym, subst, arith}
use Rattle.std.proofs.lemmas.Grind.{common_steps}
use Rattle.answer_tables.specs.Ranges.{DelayIs, HasSeen, hops_of}
use Rattle.answer_tables.specs.declared.ranges.Range.{Range}
use Rattle.answer_tables.proofs.BoundsOver.{bounds-at}
use Rattle.answer_tables.proofs.RangesSeen.{seen-same, seen-opens, seen-closes}
use Rattle.answer_tables.proofs.ranges.step.Goals as goal

pub returns-then-accepted-sweep-clause-seen : goal.returns-then-accepted-sweep-clause-seen
returns-then-accepted-sweep-clause-seen g c =
    let parts = c.args.plan.now in
    let number = c.args.number in
    let gives : ℕ → Bool → Type 0 = g.A.AskedWithin.gives c.args.asked.now parts number in
    let hops = hops_of parts number in
    let at = c.next_after-at.result in
    let next = bounds-at parts c.requests.result.now number c.args.sweep.at at c.index-requests-number.result c.requests.ensures.value c.requires.inside c.next_after-at.ensures.next in
    let same : c.in_ok-accepted.accepted ≡ c.args.sweep.accepted = grind (arith, common_steps) in
    seen-same gives hops c.args.ranges.now.items c.args.sweep at c.in_ok-accepted.accepted c.requires.seen c.next_after-at.ensures.further c.next_after-at.ensures.most next same c.in_ok-accepted.ensures

pub returns-then-accepted-clause-seen : goal.returns-then-accepted-clause-seen
returns-then-accepted-clause-seen g c =
    let parts = c.args.plan.now in
    let number = c.args.number in
    let gives : ℕ → Bool → Type 0 = g.A.AskedWithin.gives c.args.asked.now parts number in
    let hops = hops_of parts number in
    let at = c.next_after-at.result in
    let edge = c.in_ok-edge.edge in
    let next = bounds-at parts c.requests.result.now number c.args.sweep.at at c.index-requests-number.result c.requests.ensures.value c.requires.inside c.next_after-at.ensures.next in
    let accepts : c.in_ok-accepted.accepted ≡ true = c.if-accepted.true in
    let was : c.args.sweep.accepted ≡ false = grind (arith, common_steps) in
    subst (λ (accepted : Bool). HasSeen gives hops c.args.ranges.now.items (record { at = at; accepted = accepted; first = edge + 1 })) (sym accepts)
    (seen-opens gives hops c.args.ranges.now.items c.args.sweep at edge c.requires.seen c.next_after-at.ensures.most next was (subst (gives at) accepts c.in_ok-accepted.ensures)
    c.in_ok-edge.ensures.from c.in_ok-edge.ensures.below (subst (DelayIs gives edge) was c.in_ok-edge.ensures.is)
    (subst (λ (accepted : Bool). gives (edge + 1) (not accepted)) was c.in_ok-edge.ensures.next))

pub returns-clause-seen : goal.returns-clause-seen
returns-clause-seen g c =
    let parts = c.args.plan.now in
    let number = c.args.number in
    let gives : ℕ → Bool → Type 0 = g.A.AskedWithin.gives c.args.asked.now parts number in
    let hops = hops_of parts number in
    let at = c.next_after-at.result in
    let edge = c.in_ok-edge.edge in
    let next = bounds-at parts c.requests.result.now number c.args.sweep.at at c.index-requests-number.result c.requests.ensures.value c.requires.inside c.next_after-at.ensures.next in
    let denies : c.in_ok-accepted.accepted ≡ false = c.if-accepted.false in
    let was : c.args.sweep.accepted ≡ true = grind (arith, common_steps) in
    subst (λ (accepted : Bool). HasSeen gives hops c.add.new.ranges.items (record { at = at; accepted = accepted; first = 0 })) (sym denies)
    (subst (λ (ranges : List Range). HasSeen gives hops ranges (record { at = at; accepted = false; first = 0 })) (sym c.in_ok-add.ensures)
    (seen-closes gives hops c.args.ranges.now.items c.args.sweep at edge c.requires.seen c.next_after-at.ensures.most next was (subst (gives at) denies c.in_ok-accepted.ensures)
    c.in_ok-edge.ensures.from c.in_ok-edge.ensures.below (subst (DelayIs gives edge) was c.in_ok-edge.ensures.is)
    (subst (λ (accepted : Bool). gives (edge + 1) (not accepted)) was c.in_ok-edge.ensures.next)))
