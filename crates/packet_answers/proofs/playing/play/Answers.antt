use Rattle.std.proofs.Common.{sym, subst, reverse, ap}
use Rattle.call_script.specs.Tasks.{network_of}
use Rattle.run_engine.specs.runs.Runs.{IsRun}
use Rattle.run_engine.specs.schedules.Schedules.{IsPlayed}
use Rattle.run_engine.specs.schedules.Standing.{CallersStand}
use Rattle.run_record.specs.Entries.{Entries}
use Rattle.packet_answers.proofs.playing.play.Goals as goal

pub play_watched-requires-clause-fresh : goal.play_watched-requires-clause-fresh
play_watched-requires-clause-fresh c = ap (λ (e : Entries). reverse e.entries) c.new-record.ensures

pub returns-clause-stands : goal.returns-clause-stands
returns-clause-stands c =
    let seen = c.in_ok-callers.ensures.played in
    record {
      plan = seen.plan;
      run = subst (IsRun (network_of c.args.plan.now)) (sym seen.seen.seen) seen.run_is;
      callers = subst (CallersStand c.args.plan.now c.in_ok-callers.callers) (sym seen.seen.seen) seen.seen.stand;
    }

pub returns-clause-played : goal.returns-clause-played
returns-clause-played c = subst (IsPlayed (network_of c.args.plan.now) c.args.schedule.now) (sym c.in_ok-callers.ensures.played.seen.seen) c.in_ok-callers.ensures.played.played
