use Rattle.std.proofs.Common.{List, length, subst}
use Rattle.link_steps.specs.Split.{Link}
use Rattle.shared_network.specs.Planes.{IsPlanes}
use Rattle.call_script.specs.Tasks.{network_of}
use Rattle.call_script.proofs.PlansFit.{plan-fits}
use Rattle.race_run.proofs.PieceSteps.PlaneWithPass.{adds-one, few-drawn, on-next, on-ready, step-made, stepped-from}
use Rattle.race_run.proofs.rounds.make_step.Goals as goal

pub plane_step-requires-clause-few : goal.plane_step-requires-clause-few
plane_step-requires-clause-few g c κs within =
    few-drawn g.H.Home.table g.H.Home.owners g.H.Home.links (network_of c.args.plan.now) c.args.plane.now c.args.pass.now (plan-fits c.args.plan.now c.links-valid.ensures.valid) c.requires.on c.requires.pass

pub returns-in-Ok-clause-on : goal.returns-in-Ok-clause-on
returns-in-Ok-clause-on g c =
    let ready = on-ready (network_of c.args.plan.now) c.args.plane.now c.ready.new.self c.args.pass.now c.in_ok-ready.ensures.kept c.requires.on in
    let planes = subst (λ (links : List Link). IsPlanes (length links) c.plane_step.new.plane c.plane_step.new.pass.own) c.requires.network.links_are c.in-Ok.ensures.planes in
    on-next (network_of c.args.plan.now) c.ready.new.self c.plane_step.new.plane c.args.pass.now c.plane_step.new.pass c.in-Ok.field-0 ready c.in-Ok.ensures.made planes c.plane_step.ensures.same.actor

pub returns-in-Ok-clause-stepped : goal.returns-in-Ok-clause-stepped
returns-in-Ok-clause-stepped g c =
    let ready = on-ready (network_of c.args.plan.now) c.args.plane.now c.ready.new.self c.args.pass.now c.in_ok-ready.ensures.kept c.requires.on in
    stepped-from c.args.plane.now c.ready.new.self c.plane_step.new.plane c.in_ok-ready.ensures.kept
    (step-made (network_of c.args.plan.now) c.ready.new.self c.plane_step.new.plane c.args.pass.now c.plane_step.new.pass c.in-Ok.field-0 (plan-fits c.args.plan.now c.links-valid.ensures.valid) ready c.in-Ok.ensures.made)

pub returns-in-Ok-clause-one : goal.returns-in-Ok-clause-one
returns-in-Ok-clause-one g c =
    let ready = adds-one c.ready.new.self c.plane_step.new.plane c.args.pass.now c.plane_step.new.pass c.in-Ok.field-0 c.in-Ok.ensures.made in
    record { entry = ready.entry; own = ready.own }
