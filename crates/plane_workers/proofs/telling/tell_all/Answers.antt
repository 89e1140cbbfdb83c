-- No step yet, and then one more.
use Rattle.std.proofs.Common.{refl, ◌∙◌}
use Rattle.call_script.specs.Tasks.{network_of}
use Rattle.run_engine.specs.schedules.Quiet.{the_plane}
use Rattle.plane_workers.specs.Lanes.{lane_left, lane_rules, lane_stands}
use Rattle.plane_workers.specs.Seen.{SeenWithin}
use Rattle.plane_workers.proofs.NextWindowStep.{comes-none, comes-both}
use Rattle.plane_workers.proofs.telling.tell_all.Goals as goal

pub loop-plane-init : goal.loop-plane-init
loop-plane-init g c = record {
  goes = λ past stand. comes-none (network_of c.args.plan.now) (the_plane (network_of c.args.plan.now)) past (SeenWithin lane_rules lane_stands lane_left g.W.Watch.saw c.args.plan.now c.args.from c.args.until c.args.lanes.now c.args.plane.now c.args.watch.now) stand;
  rounds = refl;
  table = refl;
}

pub tell_some-requires-clause-within : goal.tell_some-requires-clause-within
tell_some-requires-clause-within g c = (let goes = c.loop-plane.invariant.goes c.requires.within.0 c.requires.within.1 in (goes.run, goes.comes))

pub loop-plane-preserved : goal.loop-plane-preserved
loop-plane-preserved g c = record {
  goes = λ past stand.
      comes-both (network_of c.args.plan.now) (the_plane (network_of c.args.plan.now)) past (SeenWithin lane_rules lane_stands lane_left g.W.Watch.saw c.args.plan.now c.args.from c.args.until c.loop-plane.lanes c.loop-plane.plane c.loop-plane.watch)
      (SeenWithin lane_rules lane_stands lane_left g.W.Watch.saw c.args.plan.now c.args.from c.args.until c.tell_some.new.lanes c.tell_some.new.plane c.tell_some.new.watch) (c.loop-plane.invariant.goes past stand) c.in_ok-more.ensures.goes;
  rounds = c.in_ok-more.ensures.rounds ∙ c.loop-plane.invariant.rounds;
  table = c.in_ok-more.ensures.table ∙ c.loop-plane.invariant.table;
}
