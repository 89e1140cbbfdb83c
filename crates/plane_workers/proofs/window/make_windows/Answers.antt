-- The first window, and then one more.
use Rattle.std.proofs.Common.{◌∙◌, refl, arith}
use Rattle.call_script.specs.Tasks.{network_of}
use Rattle.plane_workers.specs.Lanes.{lane_rules, lane_stands}
use Rattle.plane_workers.specs.Seen.{SeenBetween}
use Rattle.plane_workers.proofs.NextWindowStep.{comes-both, comes-none}
use Rattle.plane_workers.proofs.window.make_windows.Goals as goal

pub loop-pace-init : goal.loop-pace-init
loop-pace-init g c = record {
  goes = λ past stand. comes-none (network_of c.args.job.now.plan.now) c.args.job.now.actor past (SeenBetween lane_rules lane_stands g.W.Watch.saw c.args.job.now.plan.now c.args.job.now.gap c.make_noted.new.lanes c.make_noted.new.plane c.make_noted.new.watch) stand;
  at = c.in_ok-make_noted.ensures.at;
  rounds = c.in_ok-make_noted.ensures.rounds ∙ c.requires.rounds;
  gap = c.in_ok-make_noted.ensures.gap ∙ c.requires.gap;
  table = refl;
}

pub loop-pace-preserved : goal.loop-pace-preserved
loop-pace-preserved g c = record {
  goes = λ past stand.
      comes-both (network_of c.args.job.now.plan.now) c.args.job.now.actor past (SeenBetween lane_rules lane_stands g.W.Watch.saw c.args.job.now.plan.now c.args.job.now.gap c.loop-pace.lanes c.loop-pace.plane c.loop-pace.watch)
      (SeenBetween lane_rules lane_stands g.W.Watch.saw c.args.job.now.plan.now c.args.job.now.gap c.make_noted-in-loop-pace.new.lanes c.make_noted-in-loop-pace.new.plane c.make_noted-in-loop-pace.new.watch) (c.loop-pace.invariant.goes past stand) c.in_ok-make_noted-2.ensures.goes;
  at = (let early = c.next-next.ensures.early in let now = c.in_ok-make_noted-2.ensures.at in let was = c.loop-pace.invariant.at in let round = c.round-in-loop-pace.ensures in omega (arith, early, now, was, round));
  rounds = c.in_ok-make_noted-2.ensures.rounds ∙ c.loop-pace.invariant.rounds;
  gap = c.in_ok-make_noted-2.ensures.gap ∙ c.loop-pace.invariant.gap;
  table = c.in_ok-make_noted-2.ensures.table ∙ c.loop-pace.invariant.table;
}

pub make_noted-requires-in-loop-pace-clause-between : goal.make_noted-requires-in-loop-pace-clause-between
make_noted-requires-in-loop-pace-clause-between g c κs within = (let first = c.in_ok-make_noted.ensures.goes c.requires.between.0 c.requires.between.1 in let goes = c.loop-pace.invariant.goes first.run first.comes in (goes.run, goes.comes))

pub returns-then-next-lt2-clause-goes : goal.returns-then-next-lt2-clause-goes
returns-then-next-lt2-clause-goes g c = λ past stand. comes-both (network_of c.args.job.now.plan.now) c.args.job.now.actor past (SeenBetween lane_rules lane_stands g.W.Watch.saw c.args.job.now.plan.now c.args.job.now.gap c.make_noted.new.lanes c.make_noted.new.plane c.make_noted.new.watch)
    (SeenBetween lane_rules lane_stands g.W.Watch.saw c.args.job.now.plan.now c.args.job.now.gap c.loop-pace.lanes c.loop-pace.plane c.loop-pace.watch) (c.in_ok-make_noted.ensures.goes past stand) c.loop-pace.invariant.goes

pub returns-clause-goes : goal.returns-clause-goes
returns-clause-goes g c = λ past stand. comes-both (network_of c.args.job.now.plan.now) c.args.job.now.actor past (SeenBetween lane_rules lane_stands g.W.Watch.saw c.args.job.now.plan.now c.args.job.now.gap c.make_noted.new.lanes c.make_noted.new.plane c.make_noted.new.watch)
    (SeenBetween lane_rules lane_stands g.W.Watch.saw c.args.job.now.plan.now c.args.job.now.gap c.loop-pace.lanes c.loop-pace.plane c.loop-pace.watch) (c.in_ok-make_noted.ensures.goes past stand) c.loop-pace.invariant.goes
