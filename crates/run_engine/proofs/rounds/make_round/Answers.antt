-- One turn more, or none is left.
use Rattle.std.proofs.Common.{refl, ◌∙◌, arith}
use Rattle.run_engine.proofs.Words.{network_of}
use Rattle.run_engine.specs.schedules.Quiet.{the_plane}
use Rattle.run_engine.proofs.Watched.WatchedStrides.{none-made}
use Rattle.run_engine.proofs.Watched.WatchedSteps.{plays-none, plays-one, plays-again}
use Rattle.run_engine.proofs.rounds.make_round.Goals as goal

pub loop-made-init : goal.loop-made-init
loop-made-init g c = record {
  few = omega arith;
  plays = λ past stand. plays-none g.W.Watch.saw c.args.plan.now c.args.engine.now c.args.watch.now past (the_plane (network_of c.args.plan.now)) stand;
  table = refl;
}

pub make_plane_step-requires : goal.make_plane_step-requires
make_plane_step-requires g c = (let plays = c.loop-made.invariant.plays c.requires.stand.0 c.requires.stand.1 in (plays.run, plays.stand))

pub returns-then-not-branch-clause-over : goal.returns-then-not-branch-clause-over
returns-then-not-branch-clause-over g c = λ none past stand.
    let plane = the_plane (network_of c.args.plan.now) in
    (c.in_ok-make_plane_step.ensures.over c.if-not-branch.true past (none-made g.W.Watch.saw c.args.plan.now c.loop-made.engine c.loop-made.watch past plane c.loop-made.made none (c.loop-made.invariant.plays past stand))).none

pub returns-then-round-clause-plays : goal.returns-then-round-clause-plays
returns-then-round-clause-plays g c = λ past stand.
    let plane = the_plane (network_of c.args.plan.now) in
    plays-again g.W.Watch.saw c.args.plan.now c.loop-made.engine c.make_plane_step.new.engine c.loop-made.watch c.make_plane_step.new.watch past plane c.loop-made.made (c.loop-made.invariant.plays past stand)
    (λ run stands. plays-one g.W.Watch.saw c.args.plan.now c.make_plane_step.new.engine c.make_plane_step.new.watch run plane (c.in_ok-make_plane_step.ensures.goes_on c.if-not-branch.false run stands))

pub loop-made-preserved : goal.loop-made-preserved
loop-made-preserved g c =
    let plane = the_plane (network_of c.args.plan.now) in
    record {
      few = (let more = c.loop-made-test.true in omega (arith, more));
      plays = λ past stand.
          plays-again g.W.Watch.saw c.args.plan.now c.loop-made.engine c.make_plane_step.new.engine c.loop-made.watch c.make_plane_step.new.watch past plane c.loop-made.made (c.loop-made.invariant.plays past stand)
          (λ run stands. plays-one g.W.Watch.saw c.args.plan.now c.make_plane_step.new.engine c.make_plane_step.new.watch run plane (c.in_ok-make_plane_step.ensures.goes_on c.if-not-branch.false run stands));
      table = c.in_ok-make_plane_step.ensures.table ∙ c.loop-made.invariant.table;
    }
