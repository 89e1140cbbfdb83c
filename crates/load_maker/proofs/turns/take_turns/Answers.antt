-- The record has the run that was seen.
use Rattle.std.proofs.Common.{sym, subst, reverse, ap}
use Rattle.call_script.specs.Tasks.{network_of}
use Rattle.run_record.specs.Entries.{Entries}
use Rattle.load_maker.specs.TurnRuns.{IsTurnsRun}
use Rattle.load_maker.proofs.turns.take_turns.Goals as goal

pub take_watched_turns-requires : goal.take_watched_turns-requires
take_watched_turns-requires c = ap (λ (e : Entries). reverse e.entries) c.new-record.ensures

pub returns : goal.returns
returns c = subst (IsTurnsRun (network_of c.args.plan.now)) (sym c.in_ok-take_watched_turns.ensures.turns.seen.seen) c.in_ok-take_watched_turns.ensures.turns.turns
