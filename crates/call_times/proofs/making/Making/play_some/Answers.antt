-- There are links to divide by, and rounds are made.
use Rattle.std.proofs.Common.{length, ap, arith}
use Rattle.run_engine.proofs.Watched.WatchedStrides.{links-some}
use Rattle.call_times.proofs.making.Making.play_some.Goals as goal

pub nonzero_div-links : goal.nonzero_div-links
nonzero_div-links c = (let some = links-some c.args.plan.now c.links.ensures.valid in let same = ap length c.links.ensures.value in omega (arith, some, same))

pub returns-then-rounds-gt0-clause-made : goal.returns-then-rounds-gt0-clause-made
returns-then-rounds-gt0-clause-made c = λ times between. (let at = c.in_ok-rest.ensures times between in record { run = at.run; made = at.made })
