-- None is answered yet, and then some more.
use Rattle.std.proofs.Common.{refl, ap, sym, ◌∙◌, subst, arith}
use Rattle.link_steps.specs.Legal.{AskFits}
use Rattle.link_steps.specs.Lists.{Each}
use Rattle.link_steps.specs.Split.{Link}
use Rattle.plane_workers.specs.Said.{said_in}
use Rattle.plane_workers.proofs.LinkAnswers.{all-answered, none-yet}
use Rattle.plane_workers.proofs.SaidInTurn.{none-said}
use Rattle.plane_workers.proofs.answering.answer_asks.Goals as goal

pub loop-made-init : goal.loop-made-init
loop-made-init g c = record {
  within = omega arith;
  so_far = none-yet c.args.link.now c.args.asks.now (said_in c.args.said.now.items) (ap said_in c.requires.none ∙ none-said);
  clock = refl;
}

pub answer_some-requires-clause-fits : goal.answer_some-requires-clause-fits
answer_some-requires-clause-fits g c = subst (λ (l : Link). Each (AskFits l.shape) c.args.asks.now) (sym c.loop-made.invariant.so_far.same) c.requires.fits

pub answer_some-requires-clause-early : goal.answer_some-requires-clause-early
answer_some-requires-clause-early g c = (let clock = c.loop-made.invariant.clock in let early = c.requires.early in omega (arith, clock, early))

pub loop-made-preserved : goal.loop-made-preserved
loop-made-preserved g c = record { within = c.in_ok-more.ensures.within; so_far = c.in_ok-more.ensures.answered c.args.link.now c.loop-made.invariant.so_far; clock = c.in_ok-more.ensures.clock ∙ c.loop-made.invariant.clock }

pub returns : goal.returns
returns g c = all-answered c.args.link.now c.loop-made.link c.args.asks.now c.loop-made.made (said_in c.loop-made.said.items) (let over = c.loop-made-test.false in omega (arith, over)) c.loop-made.invariant.so_far
