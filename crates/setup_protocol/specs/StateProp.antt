-- That a state is one of a route's has at most one proof, so a setup may keep it as a fact beside its fields.
use Rattle.std.specs.Prelude.{ℕ, true, List, [], ◌∷◌}
use Rattle.std.specs.Coded.{×_prop, Unit-prop, le_prop}
use Rattle.std.proofs.Math.Bool.{Bool-set}
use native.Mathlib.Nat.{ℕ_set}
use Rattle.net_units.specs.Allotted.{levels_of}
use Rattle.hop_reservation.specs.Offers.{IsLevelOf, AreLevels}
use Rattle.hop_reservation.specs.declared.route.Hop.{Hop}
use Rattle.setup_protocol.specs.Setup.{is_reserve_refusal}
use Rattle.setup_protocol.specs.State.{IsPlace, HaveLevels, IsDenyOf, IsVerdictOf, IsStateOf}
use Rattle.setup_protocol.specs.declared.verdict.Deny.{Deny}
use Rattle.setup_protocol.specs.declared.verdict.Deny.TheVariants.{Hop as AtHop, End}
use Rattle.setup_protocol.specs.declared.verdict.Verdict.{Verdict}
use Rattle.setup_protocol.specs.declared.verdict.Verdict.TheVariants as verdict
use Rattle.setup_protocol.specs.declared.setup.State.{State}
use Rattle.setup_protocol.specs.declared.setup.State.TheVariants as state

IsLevelOf-prop : (hop : Hop) (level : ℕ) → IsProp (IsLevelOf hop level)
IsLevelOf-prop hop level = Prim.hlevel le_prop

AreLevels-prop : (hops : List Hop) (levels : List ℕ) → IsProp (AreLevels hops levels)
unfolding AreLevels
AreLevels-prop hops [] = Unit-prop
AreLevels-prop [] (level ∷ levels) = λ one other. absurd one
AreLevels-prop (hop ∷ hops) (level ∷ levels) = ×_prop (IsLevelOf-prop hop level) (AreLevels-prop hops levels)

IsPlace-prop : (route : List Hop) (place : ℕ) → IsProp (IsPlace route place)
IsPlace-prop route place = Prim.hlevel le_prop

HaveLevels-prop : (route : List Hop) (levels : List ℕ) → IsProp (HaveLevels route levels)
HaveLevels-prop route levels = Prim.hlevel (AreLevels-prop, ℕ_set)

IsDenyOf-prop : (route : List Hop) (deny : Deny) → IsProp (IsDenyOf route deny)
IsDenyOf-prop route (AtHop hop refusal) = ×_prop (IsPlace-prop route hop) (Bool-set (is_reserve_refusal refusal) true)
IsDenyOf-prop route (End denial) = Unit-prop

IsVerdictOf-prop : (route : List Hop) (verdict : Verdict) → IsProp (IsVerdictOf route verdict)
IsVerdictOf-prop route (verdict.Accepted levels delay) = HaveLevels-prop route (levels_of levels)
IsVerdictOf-prop route (verdict.Denied deny) = IsDenyOf-prop route deny

pub IsStateOf-prop : (route : List Hop) (offers : List ℕ) (state : State) → IsProp (IsStateOf route offers state)
IsStateOf-prop route offers state.Reserving = le_prop
IsStateOf-prop route offers (state.Undoing left deny) = ×_prop (IsPlace-prop route left) (IsDenyOf-prop route deny)
IsStateOf-prop route offers (state.Relaxing left levels) = ×_prop (IsPlace-prop route left) (HaveLevels-prop route (levels_of levels))
IsStateOf-prop route offers (state.Settled verdict) = IsVerdictOf-prop route verdict
