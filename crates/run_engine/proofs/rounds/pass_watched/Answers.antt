-- The link makes the tick for each run that both stand for, the plane goes on, and the tick is seen after that run.
use Rattle.std.proofs.Common.{refl}
use Rattle.run_engine.proofs.Words.{network_of, Tick, quiet_reply}
use Rattle.run_engine.specs.schedules.PlaneSteps.{plane_step}
use Rattle.run_engine.specs.schedules.Quiet.{the_plane}
use Rattle.run_engine.proofs.Keeping.NextPlaneStep.{makes-step, plane-gets}
use Rattle.run_engine.proofs.Watched.WatchedSteps.{about, goes-on}
use Rattle.run_engine.proofs.rounds.pass_watched.Goals as goal

pub pass_link-requires-clause-about : goal.pass_link-requires-clause-about
pass_link-requires-clause-about g c =
    let parts = c.args.plan.now in
    let plane = the_plane (network_of parts) in
    let asked = c.requires.asked in
    (parts, asked.0, plane, about g.W.Watch.saw parts c.args.engine.now c.args.watch.now asked.0 plane c.args.link Tick asked.1)

pub pass_plane-requires : goal.pass_plane-requires
pass_plane-requires g c =
    let parts = c.args.plan.now in
    let plane = the_plane (network_of parts) in
    let run = c.requires.asked.0 in
    let reply = quiet_reply c.in_ok-clock.clock in
    let answered = c.in_ok-clock.ensures parts run plane (about g.W.Watch.saw parts c.args.engine.now c.args.watch.now run plane c.args.link Tick c.requires.asked.1) in
    (parts, run, plane_step (network_of parts) c.args.link Tick reply, c.in_ok-clock.clock, plane-gets parts c.pass_link.new.self run c.args.link Tick reply answered)

pub passed-requires : goal.passed-requires
passed-requires g c =
    let parts = c.args.plan.now in
    let plane = the_plane (network_of parts) in
    let run = c.requires.asked.0 in
    let answered = c.in_ok-clock.ensures parts run plane (about g.W.Watch.saw parts c.args.engine.now c.args.watch.now run plane c.args.link Tick c.requires.asked.1) in
    (run, record { plan = answered.due.plan; run = answered.due.run; next = answered.due.next; seen = c.requires.asked.1.stand.seen })

pub returns-clause-goes_on : goal.returns-clause-goes_on
returns-clause-goes_on g c = λ past asked.
    let parts = c.args.plan.now in
    let plane = the_plane (network_of parts) in
    let reply = quiet_reply c.in_ok-clock.clock in
    let done = plane_step (network_of parts) c.args.link Tick reply in
    let answered = c.in_ok-clock.ensures parts past plane (about g.W.Watch.saw parts c.args.engine.now c.args.watch.now past plane c.args.link Tick asked) in
    let stand = c.pass_plane.ensures parts past done c.in_ok-clock.clock (plane-gets parts c.pass_link.new.self past c.args.link Tick reply answered) in
    let made = makes-step parts c.pass_link.new.self (record { links = c.pass_link.new.self.links; actors = c.pass_plane.new.self }) past done answered refl stand in
    goes-on g.W.Watch.saw parts (record { links = c.pass_link.new.self.links; actors = c.pass_plane.new.self }) c.passed.new.self past plane done made
    (c.in_ok-passed.ensures.seen past (record { plan = answered.due.plan; run = answered.due.run; next = answered.due.next; seen = asked.stand.seen }))
