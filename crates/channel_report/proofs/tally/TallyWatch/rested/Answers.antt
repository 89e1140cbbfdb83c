-- The clocks and the counts of steps go on, and all else stays.
use Rattle.std.proofs.Common.{◌≡◌, ℕ, ◌+◌, ◌*◌, ◌^◌, ◌<◌, length, get_or, refl, sym, ap, ◌∙◌, subst, arith}
use Rattle.std.proofs.lemmas.List.{get_or_default, with_items_is}
use Rattle.run_engine.proofs.Keeping.KeptActors.{plane-number}
use Rattle.channel_report.specs.Tallies.{HaveRested}
use Rattle.channel_report.specs.declared.link_tally.LinkTally.{LinkTally}
use Rattle.channel_report.proofs.RestTallies.{clocks-small, counts-small, plane-few, rested-short, steps-rested, tally-rested}
use Rattle.channel_report.proofs.tally.TallyWatch.rested.Goals as goal

pub overflow_mul-steps : goal.overflow_mul-steps
overflow_mul-steps c =
    let short = rested-short c.args.plan.now c.args.self.now c.requires.0 c.args._first c.args.rounds c.requires.1 in
    let times = ap (λ l. c.args.rounds * length l) c.links.ensures.value in
    omega (arith, short, times)

pub rest_links-requires : goal.rest_links-requires
rest_links-requires c =
    subst (λ ls. (k : ℕ) (d : LinkTally) → k < length ls → (get_or ls k d).clock + c.args.rounds < 2 ^ 62) (sym c.deref_mut.ensures.value)
    (clocks-small c.args.plan.now c.args.self.now c.requires.0 c.args._first c.args.rounds c.requires.1)

pub index_mut-requires : goal.index_mut-requires
index_mut-requires c =
    let few = plane-few c.args.plan.now c.args.self.now c.requires.0 c.args._first c.args.rounds c.requires.1 in
    let number = plane-number c.args.plan.now in
    let there = ap length c.callers.ensures.value in
    let all = c.requires.1.seen.made.all in
    let whole = c.args.self.now.made.ok.0 in
    omega (arith, few, number, there, all, whole)

pub overflow_add-index_mut : goal.overflow_add-index_mut
overflow_add-index_mut c =
    let few = plane-few c.args.plan.now c.args.self.now c.requires.0 c.args._first c.args.rounds c.requires.1 in
    let number = plane-number c.args.plan.now in
    let there = ap length c.callers.ensures.value in
    let small = counts-small c.args.plan.now c.args.self.now c.requires.0 c.args._first c.args.rounds c.requires.1 (length c.callers.result.now) c.index_mut.result.now (omega (arith, few, number, there)) in
    let was = c.index_mut.ensures.value in
    let times = ap (λ l. c.args.rounds * length l) c.links.ensures.value in
    omega (arith, small, was, times)

pub overflow_add-self : goal.overflow_add-self
overflow_add-self c =
    let short = rested-short c.args.plan.now c.args.self.now c.requires.0 c.args._first c.args.rounds c.requires.1 in
    let times = ap (λ l. c.args.rounds * length l) c.links.ensures.value in
    let steps = c.requires.1.seen.steps in
    omega (arith, short, times, steps)

pub returns-clause-seen : goal.returns-clause-seen
returns-clause-seen c = λ past next.
    let parts = c.args.plan.now in
    let tally = c.args.self.now in
    let rounds = c.args.rounds in
    let place = length c.callers.result.now in
    let now = c.index_mut.result.now in
    let few = plane-few parts tally past c.args._first rounds next in
    let number = plane-number parts in
    let there : place ≡ length parts.callers = ap length c.callers.ensures.value in
    let all = next.seen.made.all in
    let within : place < length tally.made.items = omega (arith, few, number, there, all) in
    let times : rounds * length c.links.result.now ≡ rounds * length parts.links = ap (λ l. rounds * length l) c.links.ensures.value in
    let long : length c.rest_links.new.links ≡ tally.links.len = omega (arith, c.rest_links.ensures.same, ap length c.deref_mut.ensures.value, tally.links.ok.0) in
    let have : HaveRested rounds tally.links.items c.rest_links.new.links = subst (λ ls. HaveRested rounds ls c.rest_links.new.links) c.deref_mut.ensures.value c.rest_links.ensures in
    let more : (d : ℕ) → now + rounds * length c.links.result.now ≡ get_or tally.made.items place d + rounds * length parts.links = λ d.
    (let was : now ≡ get_or tally.made.items place d = c.index_mut.ensures.value ∙ get_or_default tally.made.items place now d within in
    omega (arith, was, times)) in
    tally-rested parts tally past c.args._first rounds next _ (subst (HaveRested rounds tally.links.items) (sym (with_items_is tally.links c.rest_links.new.links long)) have) refl refl refl refl refl
    (steps-rested parts tally past c.args._first rounds next _ place (now + rounds * length c.links.result.now) there more refl) (ap (λ steps. tally.steps + steps) times)
