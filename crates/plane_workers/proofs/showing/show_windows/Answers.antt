-- The first window, and then one more.
use Rattle.std.proofs.Common.{◌∙◌, refl, arith}
use Rattle.call_script.specs.Tasks.{network_of}
use Rattle.plane_workers.specs.Tracks.{track_rules, track_stands}
use Rattle.plane_workers.specs.Seen.{SeenBetween}
use Rattle.plane_workers.proofs.NextWindowStep.{comes-both, comes-none}
use Rattle.plane_workers.proofs.showing.show_windows.Goals as goal

pub loop-pace-init : goal.loop-pace-init
loop-pace-init g c = record {
  goes = λ past stand. comes-none (network_of c.args.job.now.plan.now) c.args.job.now.actor past (SeenBetween track_rules track_stands g.W.Watch.saw c.args.job.now.plan.now c.args.job.now.gap c.show_noted.new.tracks c.show_noted.new.plane c.show_noted.new.watch) stand;
  at = (let now = c.in_ok-show_noted.ensures.at in omega (arith, now));
  starts = c.in_ok-show_noted.ensures.starts;
  rounds = c.in_ok-show_noted.ensures.rounds ∙ c.requires.rounds;
  gap = c.in_ok-show_noted.ensures.gap ∙ c.requires.gap;
  table = refl;
}

pub loop-pace-preserved : goal.loop-pace-preserved
loop-pace-preserved g c = record {
  goes = λ past stand.
      comes-both (network_of c.args.job.now.plan.now) c.args.job.now.actor past (SeenBetween track_rules track_stands g.W.Watch.saw c.args.job.now.plan.now c.args.job.now.gap c.loop-pace.tracks c.loop-pace.plane c.loop-pace.watch)
      (SeenBetween track_rules track_stands g.W.Watch.saw c.args.job.now.plan.now c.args.job.now.gap c.show_noted-in-loop-pace.new.tracks c.show_noted-in-loop-pace.new.plane c.show_noted-in-loop-pace.new.watch) (c.loop-pace.invariant.goes past stand) c.in_ok-show_noted-2.ensures.goes;
  at = (let early = c.next-next.ensures.early in let now = c.in_ok-show_noted-2.ensures.at in let was = c.loop-pace.invariant.at in let round = c.round-in-loop-pace.ensures in omega (arith, early, now, was, round));
  starts = c.in_ok-show_noted-2.ensures.starts;
  rounds = c.in_ok-show_noted-2.ensures.rounds ∙ c.loop-pace.invariant.rounds;
  gap = c.in_ok-show_noted-2.ensures.gap ∙ c.loop-pace.invariant.gap;
  table = c.in_ok-show_noted-2.ensures.table ∙ c.loop-pace.invariant.table;
}

pub show_noted-requires-in-loop-pace-clause-between : goal.show_noted-requires-in-loop-pace-clause-between
show_noted-requires-in-loop-pace-clause-between g c κs within = (let first = c.in_ok-show_noted.ensures.goes c.requires.between.0 c.requires.between.1 in let goes = c.loop-pace.invariant.goes first.run first.comes in (goes.run, goes.comes))

pub returns-then-next-lt2-clause-goes : goal.returns-then-next-lt2-clause-goes
returns-then-next-lt2-clause-goes g c = λ past stand. comes-both (network_of c.args.job.now.plan.now) c.args.job.now.actor past (SeenBetween track_rules track_stands g.W.Watch.saw c.args.job.now.plan.now c.args.job.now.gap c.show_noted.new.tracks c.show_noted.new.plane c.show_noted.new.watch)
    (SeenBetween track_rules track_stands g.W.Watch.saw c.args.job.now.plan.now c.args.job.now.gap c.loop-pace.tracks c.loop-pace.plane c.loop-pace.watch) (c.in_ok-show_noted.ensures.goes past stand) c.loop-pace.invariant.goes

pub returns-clause-goes : goal.returns-clause-goes
returns-clause-goes g c = λ past stand. comes-both (network_of c.args.job.now.plan.now) c.args.job.now.actor past (SeenBetween track_rules track_stands g.W.Watch.saw c.args.job.now.plan.now c.args.job.now.gap c.show_noted.new.tracks c.show_noted.new.plane c.show_noted.new.watch)
    (SeenBetween track_rules track_stands g.W.Watch.saw c.args.job.now.plan.now c.args.job.now.gap c.loop-pace.tracks c.loop-pace.plane c.loop-pace.watch) (c.in_ok-show_noted.ensures.goes past stand) c.loop-pace.invariant.goes
