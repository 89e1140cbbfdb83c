-- A turn begins at the tick that has come, so that no entry lies before it.
use Rattle.std.proofs.Common.{ap, arith, length}
use Rattle.tick_calendar.proofs.wheel.Wheel.clear_if_full.Goals as goal

pub returns-clause-room : goal.returns-clause-room
returns-clause-room g c = omega (arith, c.turn.ensures.full, ap length c.turn.ensures.entries, c.turn.ensures.capacity, c.requires.room)

pub returns-clause-begun : goal.returns-clause-begun
returns-clause-begun g c = omega (arith, c.turn.ensures.base, c.turn.ensures.slot)
