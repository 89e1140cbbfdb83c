-- The run of a plan by turns. The actors stand in a circle: the callers by their numbers, and then the plane. The circle begins at
-- the first caller, and goes on after the actor of the last step. It is the turn of the first actor from there on that has a step
-- left; those that have none are passed over. Each turn makes one step, and the run ends when nobody has a step left. A plan has one
-- such run.
use Rattle.std.specs.Prelude.{◌≡◌, ℕ, suc, ◌+◌, ◌%◌, ◌<◌, ◌≤◌, None, IsSome, List, [], ◌∷◌}
use Rattle.net_units.specs.Numbers.{actor_number}
use Rattle.call_script.specs.Parts.{PlanParts}
use Rattle.call_script.specs.Plans.{IsPlan}
use Rattle.call_script.specs.Tasks.{Network, network_of}
use Rattle.run_engine.specs.runs.Runs.{plane_no, next_for, IsRun}
use Rattle.run_record.specs.declared.done.Done.{Done}

-- ---- whose turn it is

-- the number at which the circle goes on: the one after the actor of the last step
abbrev pub goes_on_at : List Done → ℕ
goes_on_at [] = 0
goes_on_at (done ∷ past) = suc (actor_number done.actor)

-- the actor that stands this many places further in the circle
abbrev pub further : Network → List Done → ℕ → ℕ
further network past places = (goes_on_at past + places) % suc (plane_no network)

-- the turn is this actor's: it has a step left, and a number of actors before it, which have none, are passed over
pub record IsItsTurn (network : Network) (past : List Done) (actor : ℕ) : Type 0 where
  pub passed : ℕ
  pub within : passed ≤ plane_no network
  pub stands : actor ≡ further network past passed
  pub left : IsSome (next_for network actor past)
  pub none : (n : ℕ) → n < passed → next_for network (further network past n) past ≡ None

-- nobody has a step left
abbrev pub NobodyIsLeft : Network → List Done → Type 0
NobodyIsLeft network run = (actor : ℕ) → next_for network actor run ≡ None

-- ---- the run

-- each step is of the actor whose turn it was
unfoldable pub GoesByTurns : Network → List Done → Type 0
GoesByTurns network [] = Unit {0}
GoesByTurns network (done ∷ past) = GoesByTurns network past × IsItsTurn network past (actor_number done.actor)

-- the run by turns
pub record IsTurnsRun (network : Network) (run : List Done) : Type 0 where
  pub run_is : IsRun network run
  pub turns : GoesByTurns network run
  pub over : NobodyIsLeft network run

-- ---- the law

pub record TurnsMakeOneRun : Type 0 where
  -- a plan has a run by turns
  pub some : (parts : PlanParts) → IsPlan parts → (run : List Done) × IsTurnsRun (network_of parts) run
  -- and only one
  pub one : (network : Network) (run other : List Done) → IsTurnsRun network run → IsTurnsRun network other → run ≡ other
