-- What the whole list of eligible ticks says follows from the count and the last tick.
use Rattle.std.proofs.Common.{arith}
use Rattle.std.proofs.lemmas.Bool.Decides.{nat_tests}
use Rattle.release_hold.proofs.Draining.due.Goals as goal
use Rattle.release_hold.proofs.NewestDecidesHold.{is_over-counted}

pub returns-then-self-clause-over : goal.returns-then-self-clause-over
returns-then-self-clause-over c ticks counts =
    grind (arith, nat_tests, is_over-counted c.args.self.now.last c.args.self.now.eligible c.args.self.now.last_tick c.args.top c.args.now ticks counts)
