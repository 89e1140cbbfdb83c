-- The links have the clock and the plane its steps, and all else stays.
use Rattle.std.proofs.Common.{◌≡◌, ℕ, ◌+◌, ◌<◌, length, get_or, refl, sym, ap, ◌∙◌, subst, arith}
use Rattle.std.proofs.lemmas.List.{get_or_default, with_items_is}
use Rattle.run_engine.proofs.Keeping.KeptActors.{plane-number}
use Rattle.channel_report.specs.Tallies.{HaveClock}
use Rattle.channel_report.proofs.LaggingTallies.{counts-short, lag-short, plane-below, steps-caught, tally-caught}
use Rattle.channel_report.proofs.tally.TallyWatch.catch_up.Goals as goal

pub index_mut-requires : goal.index_mut-requires
index_mut-requires c =
    let by = c.requires.1.1 in
    let below = plane-below c.args.plan.now c.args.self.now c.requires.0 c.requires.1.0 c.args.clock c.args.steps by in
    let number = plane-number c.args.plan.now in
    let there = ap length c.callers.ensures.value in
    let all = by.lag.made.all in
    let whole = c.args.self.now.made.ok.0 in
    omega (arith, below, number, there, all, whole)

pub overflow_add-index_mut : goal.overflow_add-index_mut
overflow_add-index_mut c =
    let by = c.requires.1.1 in
    let below = plane-below c.args.plan.now c.args.self.now c.requires.0 c.requires.1.0 c.args.clock c.args.steps by in
    let number = plane-number c.args.plan.now in
    let there = ap length c.callers.ensures.value in
    let small = counts-short c.args.plan.now c.args.self.now c.requires.0 c.requires.1.0 c.args.clock c.args.steps by (length c.callers.result.now) c.index_mut.result.now (omega (arith, below, number, there)) in
    let was = c.index_mut.ensures.value in
    omega (arith, small, was)

pub overflow_add-self : goal.overflow_add-self
overflow_add-self c =
    let by = c.requires.1.1 in
    let short = lag-short c.args.plan.now c.args.self.now c.requires.0 c.requires.1.0 c.args.clock c.args.steps by in
    let steps = by.lag.steps in
    omega (arith, short, steps)

pub returns-clause-seen : goal.returns-clause-seen
returns-clause-seen c = λ past run by.
    let parts = c.args.plan.now in
    let tally = c.args.self.now in
    let clock = c.args.clock in
    let steps = c.args.steps in
    let place = length c.callers.result.now in
    let now = c.index_mut.result.now in
    let below = plane-below parts tally past run clock steps by in
    let number = plane-number parts in
    let there : place ≡ length parts.callers = ap length c.callers.ensures.value in
    let all = by.lag.made.all in
    let within : place < length tally.made.items = omega (arith, below, number, there, all) in
    let long : length c.set_clocks.new.links ≡ tally.links.len = omega (arith, c.set_clocks.ensures.same, ap length c.deref_mut.ensures.value, tally.links.ok.0) in
    let have : HaveClock clock tally.links.items c.set_clocks.new.links = subst (λ ls. HaveClock clock ls c.set_clocks.new.links) c.deref_mut.ensures.value c.set_clocks.ensures in
    let more : (d : ℕ) → now + steps ≡ get_or tally.made.items place d + steps = λ d. ap (λ n. n + steps) (c.index_mut.ensures.value ∙ get_or_default tally.made.items place now d within) in
    tally-caught parts tally past run clock steps by _ (subst (HaveClock clock tally.links.items) (sym (with_items_is tally.links c.set_clocks.new.links long)) have) refl refl refl refl refl
    (steps-caught parts tally past run clock steps by _ place (now + steps) there more refl) refl
