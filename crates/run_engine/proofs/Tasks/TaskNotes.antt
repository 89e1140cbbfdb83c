-- What a task notes once it is over: what its request has come to, that its packets were planned, or what its move has told; or nothing.
use Rattle.std.proofs.Common.{◌≡◌, ℕ, List, ◌∷◌, ◌++◌, Option, Some, None, refl}
use Rattle.run_engine.proofs.Words.{ChanNo, LinkNo, Reply, Planned, first_told, Shifted, Outcome, verdict_of, Request, Learnt, Settles, PlannedOn, MovedTo, settled_as, planned_as, moved_as, outcome_by, Task, Opens, Sends, Closes, Moves}

-- so what each of these notes keeps, and what is so without one, is so of what its caller has learnt then
pub once-over : (P : List Learnt → Type 0) (task : Task) (replies : List Reply) (outcomes : List Learnt)
    → ((request : Request) (outcome : Outcome) → task ≡ Opens request → verdict_of request replies ≡ Some outcome → P (Settles request.chan outcome ∷ outcomes))
    → ((link : LinkNo) (chan : ChanNo) (count gap size clock : ℕ) (rest : List Reply) → task ≡ Sends link (Some chan) count gap size → replies ≡ Planned clock ∷ rest → P (PlannedOn chan gap size ∷ outcomes))
    → ((old new : Request) (gap size : ℕ) (told : Shifted) → task ≡ Moves old new gap size → first_told replies ≡ Some told → P (MovedTo old.chan new.chan told gap size ∷ outcomes))
    → P outcomes → P (outcome_by task replies ++ outcomes)
once-over P (Opens request) replies outcomes settles plans moves none = by (verdict_of request replies) refl where
  by : (verdict : Option Outcome) → verdict_of request replies ≡ verdict → P (settled_as request verdict ++ outcomes)
  by None is = none
  by (Some outcome) is = settles request outcome refl is
once-over P (Sends link None count gap size) replies outcomes settles plans moves none = none
once-over P (Sends link (Some chan) count gap size) replies outcomes settles plans moves none = by replies refl where
  by : (rs : List Reply) → replies ≡ rs → P (planned_as (Some chan) gap size rs ++ outcomes)
  by (Planned clock ∷ rest) is = plans link chan count gap size clock rest refl is
  by _ is = none
once-over P (Closes request) replies outcomes settles plans moves none = none
once-over P (Moves old new gap size) replies outcomes settles plans moves none = by (first_told replies) refl where
  by : (told : Option Shifted) → first_told replies ≡ told → P (moved_as old new gap size told ++ outcomes)
  by None is = none
  by (Some told) is = moves old new gap size told refl is
