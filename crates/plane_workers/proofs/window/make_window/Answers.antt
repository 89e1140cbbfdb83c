-- Each link may answer what it is asked, and then the window is told.
use Rattle.std.proofs.Common.{subst, sym}
use Rattle.net_units.specs.declared.numbers.ActorNo.{ActorNo}
use Rattle.call_script.specs.Tasks.{network_of}
use Rattle.run_engine.specs.schedules.Quiet.{the_plane}
use Rattle.link_quota.specs.Any.{any_clock, any-clock-is}
use Rattle.plane_workers.specs.Lanes.{lane_left, lane_rules, lane_stands}
use Rattle.plane_workers.specs.Seen.{GoesTo, SeenBetween}
use Rattle.plane_workers.proofs.WholeWindow.{links-few, asks-fit, asks-early, seen-begins, seen-again, on-ok}
use Rattle.plane_workers.proofs.window.make_window.Goals as goal

pub answer_until-requires-clause-few : goal.answer_until-requires-clause-few
answer_until-requires-clause-few g c κs within = links-few lane_rules lane_stands c.args.job.now.plan.now c.args.job.now.gap c.args.until c.args.lanes.now c.args.plane.now c.requires.between.0 c.requires.between.1.between

pub answer_until-requires-clause-fits : goal.answer_until-requires-clause-fits
answer_until-requires-clause-fits g c κs within = asks-fit lane_rules lane_stands c.args.job.now.plan.now c.args.job.now.gap c.args.until c.args.lanes.now c.args.plane.now c.requires.between.0 c.requires.between.1.between

pub answer_until-requires-clause-early : goal.answer_until-requires-clause-early
answer_until-requires-clause-early g c κs within =
    asks-early lane_rules lane_stands c.args.job.now.plan.now c.args.job.now.gap c.args.until c.args.lanes.now c.args.plane.now c.requires.between.0 c.requires.between.1.between
    (λ l. any_clock l.link) (λ n l h found stands. any-clock-is l.link h stands) c.requires.all c.requires.early

pub tell_all-requires : goal.tell_all-requires
tell_all-requires g c = record {
  within = (
    c.requires.between.0,
    seen-begins lane_rules lane_stands lane_left g.W.Watch.saw c.args.job.now.plan.now c.args.job.now.gap c.round-from.result c.args.until c.args.lanes.now c.answer_until.new.lanes c.args.plane.now c.args.watch.now c.requires.between.0 c.requires.between.1
        c.round-from.ensures c.requires.near c.requires.early c.requires.all c.in_ok-answer_until.ensures.long
        (λ n x y found after. let is = c.in_ok-answer_until.ensures.answered n x y found after in record { same = is.same; long = is.long; stands_on = is.stands_on; replied = is.replied }),
  );
}

pub returns-clause-goes : goal.returns-clause-goes
returns-clause-goes g c =
    on-ok c.tell_all.result
    (λ goes over past stand.
    subst (λ (actor : ActorNo). GoesTo (network_of c.args.job.now.plan.now) actor past (SeenBetween lane_rules lane_stands g.W.Watch.saw c.args.job.now.plan.now c.args.job.now.gap c.tell_all.new.lanes c.tell_all.new.plane c.tell_all.new.watch))
    (sym c.requires.job.plane)
    (seen-again lane_rules lane_stands lane_left g.W.Watch.saw c.args.job.now.plan.now c.args.job.now.gap c.round-from.result c.args.until (the_plane (network_of c.args.job.now.plan.now)) c.tell_all.new.lanes c.tell_all.new.plane c.tell_all.new.watch past stand.between.keeps over
    (goes past
    (seen-begins lane_rules lane_stands lane_left g.W.Watch.saw c.args.job.now.plan.now c.args.job.now.gap c.round-from.result c.args.until c.args.lanes.now c.answer_until.new.lanes c.args.plane.now c.args.watch.now past stand
    c.round-from.ensures c.requires.near c.requires.early c.requires.all c.in_ok-answer_until.ensures.long
    (λ n x y found after. let is = c.in_ok-answer_until.ensures.answered n x y found after in record { same = is.same; long = is.long; stands_on = is.stands_on; replied = is.replied })))))
    c.tell_all.ensures.goes c.tell_all.ensures.over
