use Rattle.std.proofs.Common.{◌≡◌, true, reverse, refl, sym, ◌∙◌, subst, arith}
use Rattle.std.proofs.lemmas.List.{take_all}
use Rattle.traffic_contract.specs.Keeping.{keeps_newest_first}
use Rattle.packet_answers.proofs.SourceSteps.{broken-at, kept-more}
use Rattle.packet_answers.proofs.sources.first_break.Goals as goal

pub loop-tick-init : goal.loop-tick-init
unfolding keeps_newest_first
loop-tick-init c = record { place = refl; keeps = refl }

pub loop-tick-preserved : goal.loop-tick-preserved
loop-tick-preserved c = record {
  place = omega (arith, c.loop-tick.invariant.place);
  keeps = kept-more c.args.contract.now c.args.ticks.now c.loop-tick.number c.loop-tick.tick-index c.loop-tick.invariant.place c.loop-tick-test.true (sym c.follows.ensures ∙ c.if-not-follows.false) c.loop-tick.invariant.keeps;
}

pub returns-then-not-follows : goal.returns-then-not-follows
returns-then-not-follows c =
    broken-at c.args.contract.now c.args.ticks.now c.loop-tick.number c.loop-tick.tick-index c.loop-tick.invariant.place c.loop-tick-test.true (sym c.follows.ensures ∙ c.if-not-follows.true) c.loop-tick.invariant.keeps

pub returns : goal.returns
returns c = subst (λ ticks. keeps_newest_first c.args.contract.now (reverse ticks) ≡ true) (take_all c.loop-tick.tick-index c.args.ticks.now c.loop-tick-test.false) c.loop-tick.invariant.keeps
