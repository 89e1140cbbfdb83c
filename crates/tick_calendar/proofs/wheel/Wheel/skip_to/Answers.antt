-- All are ahead of the tick, and so of a slot up to it.
use Rattle.std.proofs.Common.{arith}
use Rattle.tick_calendar.specs.Wheel.{entries_in}
use Rattle.tick_calendar.proofs.Ahead.{all-earlier}
use Rattle.tick_calendar.proofs.wheel.Wheel.skip_to.Goals as goal

pub returns-then-slot-self-clause-ahead : goal.returns-then-slot-self-clause-ahead
returns-then-slot-self-clause-ahead g c = all-earlier c.args.tick _ (entries_in c.args.self.now.places.items) (omega (arith, c.if-slot-self.true, c.min-slot.ensures, c.saturating_sub.ensures)) c.requires.from

pub returns-then-slot-self-clause-begun : goal.returns-then-slot-self-clause-begun
returns-then-slot-self-clause-begun g c = λ now upto begun. omega (arith, c.if-slot-self.true, c.min-slot.ensures, c.saturating_sub.ensures, upto)
