use Rattle.std.proofs.Common.{◌≡◌, ℕ, ◌<◌, List, None}
use Rattle.call_script.specs.Tasks.{network_of}
use Rattle.run_engine.specs.runs.Runs.{next_for}
use Rattle.run_engine.specs.schedules.Standing.{EngineStands}
use Rattle.run_record.specs.declared.done.Done.{Done}
use Rattle.call_times.proofs.scheduling.check_over.Given as goal

-- those so far have none left
abbrev pub invariant-loop-number : goal.invariant-loop-number
invariant-loop-number l = (run : List Done) → EngineStands l.plan l.engine run → (actor : ℕ) → actor < l.number → next_for (network_of l.plan) actor run ≡ None
