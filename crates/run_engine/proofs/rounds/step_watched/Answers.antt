-- The link makes the step for each run that both stand for, the plane gets the reply, and the step is seen after that run.
use Rattle.std.proofs.Common.{refl}
use Rattle.run_engine.proofs.Words.{network_of}
use Rattle.run_engine.specs.schedules.PlaneSteps.{plane_step}
use Rattle.run_engine.specs.schedules.Quiet.{the_plane}
use Rattle.run_engine.proofs.Keeping.EngineStep.{still-about}
use Rattle.run_engine.proofs.Keeping.NextPlaneStep.{makes-step, plane-gets}
use Rattle.run_engine.proofs.Watched.WatchedSteps.{about, goes-on}
use Rattle.run_engine.proofs.rounds.step_watched.Goals as goal

pub ask_into-requires-clause-about : goal.ask_into-requires-clause-about
ask_into-requires-clause-about g c =
    let parts = c.args.plan.now in
    let plane = the_plane (network_of parts) in
    let run = c.requires.asked.0 in
    let asked = c.requires.asked.1 in (
      parts,
      run,
      plane,
      still-about parts c.args.engine.now c.ready.new.self run plane c.args.link c.args.ask.now
          (about g.W.Watch.saw parts c.args.engine.now c.args.watch.now run plane c.args.link c.args.ask.now asked) (c.ready.ensures.stand parts run asked.stand.stands.actors),
    )

pub take_plane-requires : goal.take_plane-requires
take_plane-requires g c =
    let parts = c.args.plan.now in
    let plane = the_plane (network_of parts) in
    let run = c.requires.asked.0 in
    let asked = c.requires.asked.1 in
    let answered = c.ask_into.ensures parts run plane (still-about parts c.args.engine.now c.ready.new.self run plane c.args.link c.args.ask.now
    (about g.W.Watch.saw parts c.args.engine.now c.args.watch.now run plane c.args.link c.args.ask.now asked) (c.ready.ensures.stand parts run asked.stand.stands.actors)) in
    (parts, run, plane_step (network_of parts) c.args.link c.args.ask.now c.ask_into.new.reply, plane-gets parts c.ask_into.new.self run c.args.link c.args.ask.now c.ask_into.new.reply answered)

pub see_plane-requires : goal.see_plane-requires
see_plane-requires g c =
    let parts = c.args.plan.now in
    let plane = the_plane (network_of parts) in
    let run = c.requires.asked.0 in
    let asked = c.requires.asked.1 in
    let answered = c.ask_into.ensures parts run plane (still-about parts c.args.engine.now c.ready.new.self run plane c.args.link c.args.ask.now
    (about g.W.Watch.saw parts c.args.engine.now c.args.watch.now run plane c.args.link c.args.ask.now asked) (c.ready.ensures.stand parts run asked.stand.stands.actors)) in
    (run, record { plan = answered.due.plan; run = answered.due.run; next = answered.due.next; seen = asked.stand.seen })

pub returns-clause-goes_on : goal.returns-clause-goes_on
returns-clause-goes_on g c = λ past asked.
    let parts = c.args.plan.now in
    let plane = the_plane (network_of parts) in
    let done = plane_step (network_of parts) c.args.link c.args.ask.now c.ask_into.new.reply in
    let answered = c.ask_into.ensures parts past plane (still-about parts c.args.engine.now c.ready.new.self past plane c.args.link c.args.ask.now
    (about g.W.Watch.saw parts c.args.engine.now c.args.watch.now past plane c.args.link c.args.ask.now asked) (c.ready.ensures.stand parts past asked.stand.stands.actors)) in
    let stand = c.take_plane.ensures parts past done (plane-gets parts c.ask_into.new.self past c.args.link c.args.ask.now c.ask_into.new.reply answered) in
    let made = makes-step parts c.ask_into.new.self (record { links = c.ask_into.new.self.links; actors = c.take_plane.new.self }) past done answered refl stand in
    goes-on g.W.Watch.saw parts (record { links = c.ask_into.new.self.links; actors = c.take_plane.new.self }) c.see_plane.new.self past plane done made
    (c.in_ok-see_plane.ensures.seen past (record { plan = answered.due.plan; run = answered.due.run; next = answered.due.next; seen = asked.stand.seen }))
