-- The link has answered an arrival.
use Rattle.plane_workers.proofs.LinkTells.{arrival-told}
use Rattle.plane_workers.proofs.told.arrive.Goals as goal

pub returns : goal.returns
returns g c = arrival-told c.args.link.now c.step_into.new.self c.args.packet.now c.step_into.new.reply (record { same = c.step_into.ensures.same; legal = c.step_into.ensures.legal; entered = c.step_into.ensures.entered })
