-- A run was made that far.
use Rattle.call_times.proofs.making.Making.play_to.Goals as goal

pub returns-then-round-clause-made : goal.returns-then-round-clause-made
returns-then-round-clause-made c = λ times between. (let at = c.loop.invariant times between in record { run = at.run; made = at.made })

pub returns-then-round-clause-between : goal.returns-then-round-clause-between
returns-then-round-clause-between c = λ _ times between. c.loop.invariant times between

pub returns-then-not-branch-clause-made : goal.returns-then-not-branch-clause-made
returns-then-not-branch-clause-made c = λ times between. c.in_ok-play_some.ensures.made times (c.loop.invariant times between)

pub returns-clause-made : goal.returns-clause-made
returns-clause-made c = λ times between. (let at = c.loop.invariant times between in record { run = at.run; made = at.made })
