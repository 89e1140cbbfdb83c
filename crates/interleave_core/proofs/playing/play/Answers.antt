-- The record has the run that was seen.
use Rattle.std.proofs.Common.{sym, subst, reverse, ap}
use Rattle.run_engine.proofs.Words.{network_of}
use Rattle.run_engine.specs.schedules.Schedules.{IsPlayed}
use Rattle.interleave_core.specs.channels.Laws.{IsGuaranteedRun}
use Rattle.run_record.specs.Entries.{Entries}
use Rattle.interleave_core.proofs.Channels.GuaranteeLaw.{plan-guaranteed}
use Rattle.interleave_core.proofs.playing.play.Goals as goal

pub play_watched-requires-clause-fresh : goal.play_watched-requires-clause-fresh
play_watched-requires-clause-fresh c = ap (λ (e : Entries). reverse e.entries) c.new-record.ensures

pub returns-clause-played : goal.returns-clause-played
returns-clause-played c = subst (IsPlayed (network_of c.args.plan.now) c.args.schedule.now) (sym c.in_ok-play_watched.ensures.played.seen.seen) c.in_ok-play_watched.ensures.played.played

pub returns-clause-guaranteed : goal.returns-clause-guaranteed
returns-clause-guaranteed c =
    let seen = c.in_ok-play_watched.ensures.played in
    subst (IsGuaranteedRun c.args.plan.now) (sym seen.seen.seen) (plan-guaranteed c.args.plan.now seen.run seen.plan seen.run_is)
