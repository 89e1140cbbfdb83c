-- Some steps of the plane more, until none is left. A run is too short for the loop to end before.
use Rattle.std.proofs.Common.{refl, ◌∙◌, arith}
use Rattle.run_engine.proofs.Words.{network_of}
use Rattle.run_engine.specs.schedules.Quiet.{the_plane}
use Rattle.run_engine.proofs.Watched.WatchedStrides.{least-none, least-more, out-now}
use Rattle.run_engine.proofs.Watched.WatchedSteps.{never-ending}
use Rattle.run_engine.proofs.rounds.play_plane.Goals as goal

pub loop-init : goal.loop-init
loop-init g c = record { made = λ past stand. least-none g.W.Watch.saw c.args.plan.now c.args.engine.now c.args.watch.now past (the_plane (network_of c.args.plan.now)) stand; table = refl }

pub make_plane_steps-requires-clause-stand : goal.make_plane_steps-requires-clause-stand
make_plane_steps-requires-clause-stand g c = (let least = c.loop.invariant.made c.requires.0 c.requires.1 in (least.plays.run, least.plays.stand))

pub unreachable-requires : goal.unreachable-requires
unreachable-requires g c =
    let least = c.loop.invariant.made c.requires.0 c.requires.1 in
    let many = least.many in
    let ending = never-ending g.W.Watch.saw c.args.plan.now c.args.engine.now c.loop.engine c.args.watch.now c.loop.watch c.requires.0 (the_plane (network_of c.args.plan.now)) least.count c.requires.1 least.plays in
    omega (arith, ending, many, c.loop-test.false)

pub returns-then-branch-eq0-clause-out : goal.returns-then-branch-eq0-clause-out
returns-then-branch-eq0-clause-out g c = λ past stand.
    let made = c.in_ok-make_plane_steps.field-0 in
    out-now g.W.Watch.saw c.args.plan.now c.loop.engine c.make_plane_steps.new.engine c.loop.watch c.make_plane_steps.new.watch past (the_plane (network_of c.args.plan.now)) c.loop.counter made (c.loop.invariant.made past stand) c.if-branch-eq0.true c.in_ok-make_plane_steps.ensures.plays (c.in_ok-make_plane_steps.ensures.over c.if-branch-eq0.true)

pub loop-preserved : goal.loop-preserved
loop-preserved g c = record {
  made = λ past stand.
      least-more g.W.Watch.saw c.args.plan.now c.loop.engine c.make_plane_steps.new.engine c.loop.watch c.make_plane_steps.new.watch past (the_plane (network_of c.args.plan.now)) c.loop.counter c.in_ok-make_plane_steps.field-0 (c.loop.invariant.made past stand) (let some = c.if-branch-eq0.false in omega (arith, some)) c.in_ok-make_plane_steps.ensures.plays;
  table = c.in_ok-make_plane_steps.ensures.table ∙ c.loop.invariant.table;
}
