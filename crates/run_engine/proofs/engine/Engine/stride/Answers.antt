-- The links have rested for the rounds, and the plane has made them.
use Rattle.std.proofs.Common.{◌≡◌, ◌+◌, ◌^◌, ◌≤◌, length, refl, sym, ap, subst, arith}
use Rattle.run_engine.proofs.Words.{with_items_is, any_clock, Each}
use Rattle.run_engine.specs.schedules.Resting.{HaveRested}
use Rattle.run_engine.proofs.Watched.RestedRounds.{all-early, makes-stride}
use Rattle.run_engine.proofs.engine.Engine.stride.Goals as goal

pub rest_links-requires-clause-early : goal.rest_links-requires-clause-early
rest_links-requires-clause-early c =
    subst (Each (λ link. any_clock link + c.args.rounds ≤ 2 ^ 61)) (sym c.deref_mut.ensures.value)
    (all-early c.requires.stands.0 c.args.self.now c.requires.stands.1 c.args.rounds c.requires.stands.2 c.requires.rests.plane)

pub returns : goal.returns
returns c = λ parts run stands.
    let long : length c.rest_links.new.links ≡ c.args.self.now.links.len = omega (arith, c.rest_links.ensures.same, ap length c.deref_mut.ensures.value, c.args.self.now.links.ok.0) in
    let have : HaveRested c.args.rounds c.args.self.now.links.items c.rest_links.new.links = subst (λ ls. HaveRested c.args.rounds ls c.rest_links.new.links) c.deref_mut.ensures.value c.rest_links.ensures in
    makes-stride parts c.args.self.now c.rest_links.new.links run c.args.rounds stands c.requires.rests.plane have _ (with_items_is c.args.self.now.links c.rest_links.new.links long) refl c.stride.ensures
