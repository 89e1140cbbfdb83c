-- The seats of an opening were never used, and so the first link's list is empty.
use Rattle.std.proofs.Common.{◌≡◌, ℕ, zero, suc, ◌<◌, Option, Some, List, [], ◌∷◌, ◌++◌, length, get_or, refl, sym, ap, ◌∙◌, subst, inl, arith}
use Rattle.std.specs.Prelude.{option_to_list}
use Rattle.atomic_table.specs.Seated.{TableId}
use Rattle.link_steps.specs.Lists.{Each}
use Rattle.link_steps.proofs.SearchAndFilter.{Each-if}
use Rattle.step_stamp.specs.Opening.{IsNewPass}
use Rattle.step_stamp.specs.declared.seats.PassSeat.{PassSeat}
use Rattle.step_stamp.specs.declared.views.View.{View}
use Rattle.step_stamp.proofs.ListMembers.{each-has, has-right}
use Rattle.lock_bench.specs.Ready.{IsUnused}

-- what holds of each element holds of the one that was taken from the end
pub popped : {X : Type 0} (P : X → Type 0) (old new : List X) (taken : Option X) (x : X) → taken ≡ Some x → old ≡ new ++ option_to_list taken → Each P old → P x
popped P old new taken x is items each =
    each-has P x (new ++ x ∷ []) (subst (Each P) (items ∙ ap (λ o. new ++ option_to_list o) is) each) (has-right x new (x ∷ []) (inl refl))

-- and of the one at a place
pub each-at : {X : Type 0} (P : X → Type 0) (xs : List X) (i : ℕ) (x : X) → i < length xs → x ≡ get_or xs i x → Each P xs → P x
each-at P [] i x below is each = absurd (omega (arith, below))
each-at P (y ∷ xs) zero x below is each = subst P (sym is) each.0
each-at P (y ∷ xs) (suc i) x below is each = each-at P xs i x (omega (arith, below)) is each.1

new-unused : (table : TableId) (n : ℕ) (seat : PassSeat) → IsNewPass table n seat → IsUnused table seat
new-unused table n seat new = record { table_is = new.from_table; drawn = ap (λ (v : View). v.drawn) new.view_is }

pub all-unused : (table : TableId) (n : ℕ) (seats : List PassSeat) → Each (IsNewPass table n) seats → Each (IsUnused table) seats
all-unused table n seats new = Each-if (IsNewPass table n) (IsUnused table) seats (new-unused table n) new
