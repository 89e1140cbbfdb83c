use Rattle.std.proofs.Common.{None, refl}
use Rattle.call_script.specs.declared.tasks.Task.TheVariants.{Sends}
use Rattle.race_run.proofs.Operations.OperationAtPlace.{here-with}
use Rattle.race_run.proofs.Operations.SendOver.{best-there, best-fits, best-over}
use Rattle.race_run.proofs.callers.send_best_effort.Goals as goal

pub submit-requires-clause-link : goal.submit-requires-clause-link
submit-requires-clause-link g c κs within =
    let here = here-with c.args.plan.now c.args.at.0 c.args.at.1 _ (Sends c.args.packets.0 None c.args.packets.1 c.args.packets.2 c.args.packets.3) c.args.pass.now c.args.channels.now.by_number.items c.requires.at c.requires.op refl in
    best-there c.args.plan.now g.H.Home.links g.H.Home.owners c.args.at.0 c.args.at.1 c.args.packets.0 c.args.packets.1 c.args.packets.2 c.args.packets.3 c.args.pass.now c.args.channels.now.by_number.items c.links-valid.ensures.valid c.requires.network here

pub submit-requires-clause-fits : goal.submit-requires-clause-fits
submit-requires-clause-fits g c κs within =
    let here = here-with c.args.plan.now c.args.at.0 c.args.at.1 _ (Sends c.args.packets.0 None c.args.packets.1 c.args.packets.2 c.args.packets.3) c.args.pass.now c.args.channels.now.by_number.items c.requires.at c.requires.op refl in
    best-fits c.args.plan.now g.H.Home.links g.H.Home.owners c.args.at.0 c.args.at.1 c.args.packets.0 c.args.packets.1 c.args.packets.2 c.args.packets.3 c.args.pass.now c.args.channels.now.by_number.items c.links-valid.ensures.valid c.requires.network here

pub returns-in-Ok-clause-at : goal.returns-in-Ok-clause-at
returns-in-Ok-clause-at g c =
    let here = here-with c.args.plan.now c.args.at.0 c.args.at.1 _ (Sends c.args.packets.0 None c.args.packets.1 c.args.packets.2 c.args.packets.3) c.args.pass.now c.args.channels.now.by_number.items c.requires.at c.requires.op refl in
    best-over c.args.plan.now c.args.at.0 c.args.at.1 c.args.packets.0 c.args.packets.1 c.args.packets.2 c.args.packets.3 c.in-Ok.field-0 c.args.pass.now c.submit.new.pass c.args.channels.now.by_number.items here c.submit.ensures.same.actor c.in-Ok.ensures.made c.in-Ok.ensures.established c.in-Ok.ensures.unopened
