-- So many ticks at rest, or one ask.
use Rattle.std.proofs.Common.{arith}
use Rattle.link_quota.specs.Any.{any_clock}
use Rattle.plane_workers.specs.Said.{said_in}
use Rattle.plane_workers.proofs.AsksInTurn.{clock-step}
use Rattle.plane_workers.proofs.LinkAnswers.{ask-left, rest-more, step-more, ticks-left}
use Rattle.plane_workers.proofs.answering.answer_some.Goals as goal

pub returns-then-ticks-gt0-clause-clock : goal.returns-then-ticks-gt0-clause-clock
returns-then-ticks-gt0-clause-clock g c =
    let clock = c.in_ok-rest.ensures.clock in
    let left = ticks-left c.args.asks.now c.args.made c.ticks_at_rest-ticks.result c.ticks_at_rest-ticks.ensures.ticks in
    omega (arith, clock, left)

pub returns-then-ticks-gt0-clause-answered : goal.returns-then-ticks-gt0-clause-answered
returns-then-ticks-gt0-clause-answered g c = λ first before.
    rest-more first c.args.link.now c.rest.new.link c.args.asks.now c.args.made c.ticks_at_rest-ticks.result (said_in c.args.said.now.items) (said_in c.rest.new.said.items) c.ticks_at_rest-ticks.ensures.ticks c.in_ok-rest.ensures.rested c.in_ok-rest.ensures.said before

pub returns-clause-clock : goal.returns-clause-clock
returns-clause-clock g c =
    let clock = c.in_ok-step.ensures.clock in
    let step = clock-step c.index-asks-made.result (any_clock c.args.link.now) in
    let left = ask-left c.args.asks.now c.args.made c.index-asks-made.result c.requires.inside c.index-asks-made.is in
    omega (arith, clock, step, left)

pub returns-clause-answered : goal.returns-clause-answered
returns-clause-answered g c = λ first before.
    let stepped = c.in_ok-step.ensures.stepped in
    step-more first c.args.link.now c.step.new.link c.args.asks.now c.args.made c.index-asks-made.result stepped.0 (said_in c.args.said.now.items) (said_in c.step.new.said.items) c.requires.inside c.index-asks-made.is stepped.1.0 stepped.1.1 before

pub rest-requires-clause-early : goal.rest-requires-clause-early
rest-requires-clause-early g c =
    let early = c.requires.early in
    let left = ticks-left c.args.asks.now c.args.made c.ticks_at_rest-ticks.result c.ticks_at_rest-ticks.ensures.ticks in
    omega (arith, early, left)
