-- Nothing is made.
use Rattle.std.proofs.Common.{refl}
use Rattle.call_times.proofs.RunsInTime.{none-made}
use Rattle.call_times.proofs.making.Making.new.Goals as goal

pub returns : goal.returns
returns c = none-made c.args.plan.now (record { engine = c.in_ok-new.field-0; items = c.new-2.result; ticks = c.new-3.result; actor = c.plane_of.result; count = 0; tick = 0 }) c.in_ok-new.ensures c.new-2.ensures.items refl c.plane_of.ensures
