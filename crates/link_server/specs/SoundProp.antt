-- That an account is sound has at most one proof, so a state may keep it as a fact beside its fields.
use Rattle.std.specs.Prelude.{ℕ, List, [], ◌∷◌}
use Rattle.std.specs.Coded.{×_prop, Unit-prop, le_prop}
use mathlib.Core.HLevel.{×₃_prop}
use mathlib.Core.Sum.{⊎_set}
use native.Mathlib.Nat.{ℕ_set}
use Rattle.link_steps.specs.declared.shape.LinkShape.{LinkShape}
use Rattle.link_steps.specs.Account.{Account, AccountRow}
use Rattle.link_steps.specs.Lists.{Each}
use Rattle.link_steps.specs.Rows.{SourcePacket}
use Rattle.link_steps.specs.Service.{Arrival, Start}
use Rattle.link_server.specs.Sound.{AreNumberedWithin, IsSoundPacket, IsRunning, HasSize, AreAhead, IsApartFrom, HaveOwnLeads, IsSoundRow, IsSound}

-- a fact of each element, where it has one proof of each
pub Each-prop : {X : Type 0} (P : X → Type 0) → ((x : X) → IsProp (P x)) → (xs : List X) → IsProp (Each P xs)
Each-prop P once [] = Unit-prop
Each-prop P once (x ∷ xs) = ×_prop (once x) (Each-prop P once xs)

-- ---- packets

pub AreNumberedWithin-prop : (low : ℕ) (ps : List Arrival) (high : ℕ) → IsProp (AreNumberedWithin low ps high)
AreNumberedWithin-prop low [] high = le_prop
AreNumberedWithin-prop low (p ∷ ps) high = ×_prop le_prop (AreNumberedWithin-prop p.place ps high)

IsSoundPacket-prop : (levels taken : ℕ) (p : Arrival) → IsProp (IsSoundPacket levels taken p)
IsSoundPacket-prop levels taken p = Prim.hlevel le_prop

-- packets are equal in at most one way
Arrival-set : IsSet Arrival
Arrival-set = Prim.hlevel (ℕ_set, le_prop, ⊎_set)

IsRunning-prop : (rate clock : ℕ) (here : List Arrival) (start : Start) → IsProp (IsRunning rate clock here start)
IsRunning-prop rate clock here start = Prim.hlevel (Arrival-set, le_prop, ⊎_set)

-- ---- rows

HasSize-prop : (p : SourcePacket) → IsProp (HasSize p)
HasSize-prop p = Prim.hlevel le_prop

AreAhead-prop : (t : ℕ) (plan : List SourcePacket) → IsProp (AreAhead t plan)
AreAhead-prop t [] = Unit-prop
AreAhead-prop t (p ∷ plan) = ×₃_prop le_prop (HasSize-prop p) (AreAhead-prop _ plan)

AreApart-prop : (rows : List AccountRow) → IsProp (HaveOwnLeads rows)
AreApart-prop [] = Unit-prop
AreApart-prop (row ∷ rows) = ×_prop (Each-prop (IsApartFrom row.lead) (λ other. Prim.hlevel ℕ_set) rows) (AreApart-prop rows)

IsSoundRow-prop : (levels clock taken : ℕ) (row : AccountRow) → IsProp (IsSoundRow levels clock taken row)
IsSoundRow-prop levels clock taken row = Prim.hlevel (le_prop, AreAhead-prop)

-- ---- the account

pub IsSound-prop : (shape : LinkShape) (room : ℕ) (k : Account) → IsProp (IsSound shape room k)
IsSound-prop shape room k = Prim.hlevel (le_prop, AreAhead-prop, AreNumberedWithin-prop, Each-prop, AreApart-prop, IsSoundPacket-prop, IsSoundRow-prop, IsRunning-prop)
