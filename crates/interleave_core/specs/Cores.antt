-- What a core keeps stands for the run that it has recorded; and why it makes no step.
use Rattle.std.specs.Prelude.{◌≡◌, ℕ, suc, ◌≤◌, None, IsSome, List, length, reverse}
use Rattle.call_script.specs.Parts.{PlanParts}
use Rattle.call_script.specs.Tasks.{network_of}
use Rattle.interleave_core.specs.declared.refusal.CoreRefusal.{CoreRefusal}
use Rattle.interleave_core.specs.declared.refusal.CoreRefusal.TheVariants.{NoSuchActor, NoStepLeft, Memory}
use Rattle.interleave_core.specs.declared.stepping.Core.{Core}
use Rattle.run_engine.specs.runs.Runs.{next_for}
use Rattle.run_engine.specs.schedules.Standing.{EngineStands}
use Rattle.run_record.specs.Runs.{replies_to}
use Rattle.run_record.specs.declared.done.Done.{Done}

-- the run that it has recorded, newest first
abbrev pub run_in : Core → List Done
run_in core = reverse core.steps.entries

-- a core stands for it
abbrev pub CoreStands : PlanParts → Core → Type 0
CoreStands parts core = EngineStands parts core.engine (run_in core)

-- why one of the callers and the plane, by its number, has no step left
abbrev pub IsLeft : ℕ → ℕ → List Done → CoreRefusal → Type 0
IsLeft callers actor run (NoSuchActor actors) = (actors ≡ suc callers) × (actors ≤ actor)
IsLeft callers actor run (NoStepLeft made) = (actor ≤ callers) × (made ≡ length (replies_to actor run))
IsLeft callers actor run Memory = ⊥

-- a refusal is right: without such an actor, or a step of it left, memory isn't wanted
abbrev pub IsRightRefusal : PlanParts → ℕ → List Done → CoreRefusal → Type 0
IsRightRefusal parts actor run (NoSuchActor actors) = (actors ≡ suc (length parts.callers)) × (actors ≤ actor)
IsRightRefusal parts actor run (NoStepLeft made) = (actor ≤ length parts.callers) × (next_for (network_of parts) actor run ≡ None) × (made ≡ length (replies_to actor run))
IsRightRefusal parts actor run Memory = IsSome (next_for (network_of parts) actor run)
