-- The record has the run that was seen.
use Rattle.std.proofs.Common.{sym, subst, reverse, ap}
use Rattle.call_script.specs.Tasks.{network_of}
use Rattle.run_engine.specs.schedules.Schedules.{IsPlayed}
use Rattle.run_engine.specs.runs.Runs.{IsRun}
use Rattle.run_record.specs.Entries.{Entries}
use Rattle.plane_workers.proofs.playing.played.Goals as goal

pub played_watched-requires-clause-fresh : goal.played_watched-requires-clause-fresh
played_watched-requires-clause-fresh g c κs within = ap (λ (e : Entries). reverse e.entries) c.new-record.ensures

pub returns-clause-played : goal.returns-clause-played
returns-clause-played g c = subst (IsPlayed (network_of c.args.plan.now) c.args.schedule.now) (sym c.in_ok-played_watched.ensures.played.seen.seen) c.in_ok-played_watched.ensures.played.played

pub returns-clause-run : goal.returns-clause-run
returns-clause-run g c = subst (IsRun (network_of c.args.plan.now)) (sym c.in_ok-played_watched.ensures.played.seen.seen) c.in_ok-played_watched.ensures.played.run_is
