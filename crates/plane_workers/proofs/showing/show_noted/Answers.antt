-- Each link may answer, what it told is shown, and the plan's gap is kept.
use Rattle.std.proofs.Common.{subst, sym}
use Rattle.net_units.specs.declared.numbers.ActorNo.{ActorNo}
use Rattle.call_script.specs.Tasks.{network_of}
use Rattle.link_quota.specs.Any.{any_clock, any-clock-is}
use Rattle.run_engine.specs.schedules.Quiet.{the_plane}
use Rattle.plane_workers.specs.Seen.{GoesTo, SeenBetween}
use Rattle.plane_workers.specs.Tracks.{track_rules, track_stands}
use Rattle.plane_workers.proofs.WholeWindow.{links-few, asks-fit, asks-early}
use Rattle.plane_workers.proofs.WindowShown.{gap-again, has-history, shows-begins}
use Rattle.plane_workers.proofs.showing.show_noted.Goals as goal

pub tell_until-requires-clause-few : goal.tell_until-requires-clause-few
tell_until-requires-clause-few g c κs within = links-few track_rules track_stands c.args.job.now.plan.now c.args.job.now.gap c.args.part.now.until c.args.tracks.now c.args.plane.now c.requires.between.0 c.requires.between.1.between

pub tell_until-requires-clause-stand : goal.tell_until-requires-clause-stand
tell_until-requires-clause-stand g c κs within =
    has-history g.W.Watch.saw g.W.Watch.lags c.requires.laws c.args.job.now.plan.now c.args.job.now.gap c.args.part.now.until c.args.tracks.now c.args.tracks.now c.args.plane.now c.args.watch.now c.requires.between.0 c.requires.between.1

pub tell_until-requires-clause-fits : goal.tell_until-requires-clause-fits
tell_until-requires-clause-fits g c κs within = asks-fit track_rules track_stands c.args.job.now.plan.now c.args.job.now.gap c.args.part.now.until c.args.tracks.now c.args.plane.now c.requires.between.0 c.requires.between.1.between

pub tell_until-requires-clause-early : goal.tell_until-requires-clause-early
tell_until-requires-clause-early g c κs within =
    asks-early track_rules track_stands c.args.job.now.plan.now c.args.job.now.gap c.args.part.now.until c.args.tracks.now c.args.plane.now c.requires.between.0 c.requires.between.1.between
    (λ l. any_clock l.link) (λ n l h found stands. any-clock-is l.link h stands) c.requires.all c.requires.early

pub show_window-requires-clause-shows : goal.show_window-requires-clause-shows
show_window-requires-clause-shows g c = (
  c.requires.between.0,
  shows-begins g.W.Watch.saw g.W.Watch.lags c.requires.laws c.args.job.now.plan.now c.args.job.now.gap c.args.part.now.until c.args.tracks.now c.tell_until.new.tracks c.args.plane.now c.args.watch.now c.requires.between.0 c.requires.between.1
      c.requires.starts c.requires.near c.requires.early c.requires.all c.in_ok-tell_until.ensures.long c.in_ok-tell_until.ensures.told,
)

pub returns-clause-goes : goal.returns-clause-goes
returns-clause-goes g c = λ past stand.
    subst (λ (actor : ActorNo). GoesTo (network_of c.args.job.now.plan.now) actor past (SeenBetween track_rules track_stands g.W.Watch.saw c.args.job.now.plan.now c.args.job.now.gap c.show_window.new.tracks c.show_window.new.plane c.show_window.new.watch))
    (sym c.requires.job.plane)
    (gap-again g.W.Watch.saw c.args.job.now.plan.now (the_plane (network_of c.args.job.now.plan.now)) c.args.job.now.gap _ c.show_window.new.tracks c.show_window.new.plane c.show_window.new.watch past stand.between.keeps
    (c.in_ok-busy.ensures.goes past
    (shows-begins g.W.Watch.saw g.W.Watch.lags c.requires.laws c.args.job.now.plan.now c.args.job.now.gap c.args.part.now.until c.args.tracks.now c.tell_until.new.tracks c.args.plane.now c.args.watch.now past stand
    c.requires.starts c.requires.near c.requires.early c.requires.all c.in_ok-tell_until.ensures.long c.in_ok-tell_until.ensures.told)))
