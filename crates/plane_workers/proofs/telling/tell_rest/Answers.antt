-- The lanes hand on their quiet ticks, and links and plane stand for the run with the quiet rounds.
use Rattle.std.proofs.Common.{sym, ap, subst}
use Rattle.call_script.specs.Tasks.{network_of}
use Rattle.link_steps.specs.Lists.{Each}
use Rattle.tick_plane.specs.PlaneAccount.{PlaneAccount}
use Rattle.run_engine.specs.schedules.Quiet.{rested}
use Rattle.run_engine.specs.schedules.Watching.{IsRestSeen}
use Rattle.plane_workers.specs.Lanes.{HaveHanded, IsQuietNext, lane_left, lane_rules, lane_stands}
use Rattle.plane_workers.proofs.LanesHandOn.{rested-on}
use Rattle.plane_workers.proofs.WindowRests.{rest-fewer, rest-goes, rest-seen, rest-within}
use Rattle.plane_workers.proofs.telling.tell_rest.Goals as goal

pub pass_lanes-requires-clause-quiet : goal.pass_lanes-requires-clause-quiet
pass_lanes-requires-clause-quiet g c = subst (λ t. Each (IsQuietNext t c.args.rounds) c.args.lanes.now) (sym c.round-first.ensures) c.requires.lanes

pub rested-requires : goal.rested-requires
rested-requires g c =
    let have : HaveHanded c.args.plane.now.at.round c.args.rounds c.args.lanes.now c.pass_lanes.new.lanes = subst (λ t. HaveHanded t c.args.rounds c.args.lanes.now c.pass_lanes.new.lanes) c.round-first.ensures c.pass_lanes.ensures in
    let on = rested-on c.args.plane.now.at.round c.args.rounds c.args.lanes.now c.pass_lanes.new.lanes have in (
      c.requires.within.0,
      subst (λ t. IsRestSeen g.W.Watch.saw c.args.plan.now c.args.watch.now c.requires.within.0 t c.args.rounds) (sym c.round-first.ensures)
          (rest-seen lane_rules lane_stands lane_left c.args.plan.now c.args.from c.args.until c.args.rounds c.args.lanes.now c.pass_lanes.new.lanes c.args.plane.now c.stride.new.self c.requires.within.0 c.requires.within.1.within c.requires.plane c.requires.over on g.W.Watch.saw c.args.watch.now c.requires.within.1.seen),
    )

pub returns-clause-goes : goal.returns-clause-goes
returns-clause-goes g c = λ past stand.
    let have : HaveHanded c.args.plane.now.at.round c.args.rounds c.args.lanes.now c.pass_lanes.new.lanes = subst (λ t. HaveHanded t c.args.rounds c.args.lanes.now c.pass_lanes.new.lanes) c.round-first.ensures c.pass_lanes.ensures in
    let on = rested-on c.args.plane.now.at.round c.args.rounds c.args.lanes.now c.pass_lanes.new.lanes have in
    let seen = subst (λ t. IsRestSeen g.W.Watch.saw c.args.plan.now c.args.watch.now past t c.args.rounds) (sym c.round-first.ensures)
    (rest-seen lane_rules lane_stands lane_left c.args.plan.now c.args.from c.args.until c.args.rounds c.args.lanes.now c.pass_lanes.new.lanes c.args.plane.now c.stride.new.self past stand.within c.requires.plane c.requires.over on g.W.Watch.saw c.args.watch.now stand.seen) in
    record {
      run = rested (network_of c.args.plan.now) c.args.rounds past;
      goes = rest-goes lane_rules lane_stands lane_left c.args.plan.now c.args.from c.args.until c.args.rounds c.args.lanes.now c.pass_lanes.new.lanes c.args.plane.now c.stride.new.self past stand.within c.requires.plane c.requires.over on;
      comes = record {
        within = rest-within lane_rules lane_stands lane_left c.args.plan.now c.args.from c.args.until c.args.rounds c.args.lanes.now c.pass_lanes.new.lanes c.args.plane.now c.stride.new.self past stand.within c.requires.plane c.requires.over on c.stride.ensures;
        seen = c.in_ok-rested.ensures.seen past seen;
      };
    }

pub returns-clause-fewer : goal.returns-clause-fewer
returns-clause-fewer g c =
    let have : HaveHanded c.args.plane.now.at.round c.args.rounds c.args.lanes.now c.pass_lanes.new.lanes = subst (λ t. HaveHanded t c.args.rounds c.args.lanes.now c.pass_lanes.new.lanes) c.round-first.ensures c.pass_lanes.ensures in
    let on = rested-on c.args.plane.now.at.round c.args.rounds c.args.lanes.now c.pass_lanes.new.lanes have in
    rest-fewer lane_rules lane_stands lane_left c.args.plan.now c.args.from c.args.until c.args.rounds c.args.lanes.now c.pass_lanes.new.lanes c.args.plane.now c.stride.new.self c.requires.within.0 c.requires.within.1.within c.requires.plane c.requires.over on c.stride.ensures c.requires.some

pub returns-clause-rounds : goal.returns-clause-rounds
returns-clause-rounds g c = ap (λ (p : PlaneAccount). p.rounds) c.stride.ensures
