-- The round goes on, or another one begins.
use Rattle.std.proofs.Common.{sym, ◌∙◌}
use Rattle.call_times.proofs.making.Making.make_round.Goals as goal

pub loop-init : goal.loop-init
loop-init c = record { in_round = λ times between. record { run = between.run; made = between.made; starts = λ other. between.starts }; now = sym c.round-round.ensures }

pub make_step-requires-clause-stands : goal.make_step-requires-clause-stands
make_step-requires-clause-stands c = (c.requires.0, c.loop.invariant.in_round c.requires.0 c.requires.1)

pub returns-then-not-branch-clause-made : goal.returns-then-not-branch-clause-made
returns-then-not-branch-clause-made c = λ times between. (let at = c.in_ok-make_step.ensures times (c.loop.invariant.in_round times between) in record { run = at.run; made = at.made })

pub returns-then-round-clause-made : goal.returns-then-round-clause-made
returns-then-round-clause-made c = λ times between. (let at = c.in_ok-make_step.ensures times (c.loop.invariant.in_round times between) in record { run = at.run; made = at.made })

pub loop-preserved : goal.loop-preserved
loop-preserved c = record { in_round = λ times between. c.in_ok-make_step.ensures times (c.loop.invariant.in_round times between); now = sym c.round.ensures ∙ c.if-round.false }

pub returns-clause-made : goal.returns-clause-made
returns-clause-made c = λ times between. (let at = c.loop.invariant.in_round times between in record { run = at.run; made = at.made })
