-- One more link has rested, and then all.
use Rattle.std.proofs.Common.{◌+◌, ◌^◌, ◌<◌, ◌≤◌, length, get_or, refl, sym, subst, arith}
use Rattle.run_engine.proofs.Words.{any_clock, AnyLink}
use Rattle.link_steps.proofs.ListParts.{Each-at}
use Rattle.run_engine.specs.schedules.Resting.{HasRested, RestsBy}
use Rattle.run_engine.proofs.Watched.RestedRounds.{rested-more, next-stays, all-rested}
use Rattle.run_engine.proofs.links.rest_links.Goals as goal

pub loop-link-init : goal.loop-link-init
loop-link-init c = record { same = refl; made = λ k link next less found after. absurd (omega (arith, less)); left = λ k from. refl }

pub loop-link-preserved : goal.loop-link-preserved
loop-link-preserved c =
    let own = get_or c.loop-link.links c.loop-link.link-index c.link-item.result in
    let rested : HasRested c.args.ticks own c.rest.new.self = record { rules = c.rest.ensures.same; made = c.rest.ensures.made; legal = c.rest.ensures.legal } in
    rested-more c.args.ticks c.args.links.now c.loop-link.links c.loop-link.link-index c.link-item.result c.rest.new.self
    (let same = c.loop-link.auto.links in let below = c.loop-link-test.true in let end = c.loop-link.auto.link-index-end in omega (arith, same, below, end)) c.link-item.is
    (subst (λ l. HasRested c.args.ticks l c.rest.new.self) (sym c.link-item.is) rested) c.loop-link.invariant

pub returns : goal.returns
returns c =
    all-rested c.args.ticks c.args.links.now c.loop-link.links c.loop-link.link-index
    (let same = c.loop-link.auto.links in let past = c.loop-link-test.false in let end = c.loop-link.auto.link-index-end in omega (arith, same, past, end)) c.loop-link.invariant

pub rest-requires-clause-rests : goal.rest-requires-clause-rests
rest-requires-clause-rests c =
    let within : c.loop-link.link-index < length c.loop-link.links = (let same = c.loop-link.auto.links in let below = c.loop-link-test.true in let end = c.loop-link.auto.link-index-end in omega (arith, same, below, end)) in
    subst (RestsBy c.args.ticks) c.link-item.is
    (Each-at (RestsBy c.args.ticks) c.args.links.now c.loop-link.link-index c.link-item.result c.requires.rests
    (next-stays c.args.ticks c.args.links.now c.loop-link.links c.loop-link.link-index c.link-item.result within c.link-item.is c.loop-link.invariant))

pub rest-requires-clause-early : goal.rest-requires-clause-early
rest-requires-clause-early c =
    let within : c.loop-link.link-index < length c.loop-link.links = (let same = c.loop-link.auto.links in let below = c.loop-link-test.true in let end = c.loop-link.auto.link-index-end in omega (arith, same, below, end)) in
    subst (λ (l : AnyLink). any_clock l + c.args.ticks ≤ 2 ^ 61) c.link-item.is
    (Each-at (λ (l : AnyLink). any_clock l + c.args.ticks ≤ 2 ^ 61) c.args.links.now c.loop-link.link-index c.link-item.result c.requires.early
    (next-stays c.args.ticks c.args.links.now c.loop-link.links c.loop-link.link-index c.link-item.result within c.link-item.is c.loop-link.invariant))
