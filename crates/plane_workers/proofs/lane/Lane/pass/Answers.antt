-- All of the run is handed on, or what comes first of it.
use Rattle.std.proofs.Common.{refl}
use Rattle.plane_workers.proofs.SaidInTurn.{hand-all, hand-some}
use Rattle.plane_workers.proofs.lane.Lane.pass.Goals as goal

pub returns-then-ticks-run : goal.returns-then-ticks-run
returns-then-ticks-run c = record { link = refl; told = hand-all c.args.self.now.said.items c.args.self.now.told c.args.run.now c.requires.next c.args.ticks c.if-ticks-run.true }

pub returns-else-ticks-run : goal.returns-else-ticks-run
returns-else-ticks-run c = record { link = refl; told = hand-some c.args.self.now.said.items c.args.self.now.told c.args.run.now c.requires.next c.args.ticks c.after.result c.requires.within c.after.ensures.clock c.after.ensures.ticks }
