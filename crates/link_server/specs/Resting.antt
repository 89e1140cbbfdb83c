-- That a link rests until a tick has at most one proof, so a state may keep it as a fact beside its fields. It is kept of the
-- ticks from its clock on: of a tick that the clock has reached nothing is said.
use Rattle.std.specs.Prelude.{ℕ, ◌<◌, List, Option, Some, None}
use Rattle.std.specs.Coded.{le_prop}
use Rattle.std.proofs.Math.Bool.{Bool-set}
use Rattle.link_steps.specs.declared.shape.LinkShape.{LinkShape}
use Rattle.link_steps.specs.Account.{Account, AccountRow}
use Rattle.link_steps.specs.Quiet.{IsEligibleFrom, RowRests, ServiceRests, RestsUntil}
use Rattle.link_steps.specs.Service.{Arrival, Start}
use Rattle.link_server.specs.SoundProp.{Each-prop}

-- from its clock on, the account rests until this tick
abbrev pub RestsFromClock : LinkShape → ℕ → Account → Type 0
RestsFromClock shape until k = k.clock < until → RestsUntil shape until k

RowRests-prop : (bounds : List ℕ) (clock until : ℕ) (row : AccountRow) → IsProp (RowRests bounds clock until row)
RowRests-prop bounds clock until row = Prim.hlevel (le_prop, Bool-set, Each-prop)

ServiceRests-prop : (rate until : ℕ) (here : List Arrival) (on : Option Start) → IsProp (ServiceRests rate until here on)
ServiceRests-prop rate until here None = Each-prop (IsEligibleFrom until) (λ p. le_prop) here
ServiceRests-prop rate until here (Some start) = le_prop

RestsUntil-prop : (shape : LinkShape) (until : ℕ) (k : Account) → IsProp (RestsUntil shape until k)
RestsUntil-prop shape until k = Prim.hlevel (le_prop, Each-prop, RowRests-prop, ServiceRests-prop)

pub RestsFromClock-prop : (shape : LinkShape) (until : ℕ) (k : Account) → IsProp (RestsFromClock shape until k)
RestsFromClock-prop shape until k = Prim.hlevel RestsUntil-prop
