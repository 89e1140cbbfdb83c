-- The rule by which a row expires agrees with the rule of holds, which goes by all eligible ticks.
use Rattle.std.proofs.Common.{◌≡◌, ℕ, ◌+◌, ◌≤◌, Bool, true, ◌&&◌, ◌||◌, inl, inr, List, [], ◌∷◌, length, refl, sym, ap}
use Rattle.std.proofs.lemmas.Bool.{cases_Bool, eqb-false, leb-true, ne_eqb}
use Rattle.std.specs.List.{list_all}
use Rattle.std.specs.Prelude.{nat_eq, nat_le, All}
use Rattle.link_server.proofs.Words.{last_bound, newest, Closing, is_phase}
use Rattle.release_hold.specs.Hold.{has_passed}
use Rattle.release_hold.proofs.NewestDecidesHold.{all-passed}
use Rattle.link_steps.specs.Hold.{hold_ended}
use Rattle.link_server.specs.HoldsAgree.{HoldsAgree}

-- without a tick, a hold is over where no packet is to come
over-without : (count : ℕ) (passed : Bool) → (nat_eq count 0 || (nat_eq 0 count && passed)) ≡ (nat_eq count 0 || (nat_eq 0 count && true))
over-without count passed = elim (cases_Bool (nat_eq count 0)) [
  | inl none ↦ rw none refl
  | inr some ↦ rw (some, ne_eqb 0 count (λ none. eqb-false count 0 some (sym none))) refl
]

-- the bounds of all ticks have passed where that of the newest one has
all-with-newest : (top t tick : ℕ) (past : List ℕ) → All (λ earlier. earlier ≤ tick) past → nat_le (tick + top) t ≡ (nat_le (tick + top) t && list_all (has_passed top t) past)
all-with-newest top t tick past least = elim (cases_Bool (nat_le (tick + top) t)) [
  | inl is ↦ rw (is, all-passed top t tick past least (leb-true (tick + top) t is)) refl
  | inr is ↦ rw is refl
]

pub holds-agree : HoldsAgree
unfolding hold_ended
holds-agree bounds terms [] t least = ap (λ over. is_phase terms.phase Closing && over) (over-without terms.count (nat_le (newest [] + last_bound bounds) t))
holds-agree bounds terms (tick ∷ past) t least =
    ap (λ passed. is_phase terms.phase Closing && (nat_eq terms.count 0 || (nat_eq (length (tick ∷ past)) terms.count && passed))) (all-with-newest (last_bound bounds) t tick past least)
