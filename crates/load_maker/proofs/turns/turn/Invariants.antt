use Rattle.std.proofs.Common.{◌≡◌, ℕ, ◌<◌, List, None}
use Rattle.call_script.specs.Tasks.{network_of}
use Rattle.run_engine.specs.runs.Runs.{next_for}
use Rattle.load_maker.specs.SeenTurns.{IsCircleAt}
use Rattle.load_maker.specs.TurnRuns.{further}
use Rattle.run_record.specs.declared.done.Done.{Done}
use Rattle.load_maker.proofs.turns.turn.Given as goal

-- those so far are passed over
abbrev pub invariant-loop-passed : goal.invariant-loop-passed
invariant-loop-passed l = (run : List Done) → IsCircleAt l.plan l.engine l.next run → (n : ℕ) → n < l.passed → next_for (network_of l.plan) (further (network_of l.plan) run n) run ≡ None
