-- A row that expires is taken out, and the others stay.
use Rattle.std.proofs.Common.{◌≡◌, ℕ, zero, suc, ◌<◌, Bool, false, not, List, [], ◌∷◌, length, map, get_or, set, refl, sym, ap, ◌∙◌, arith}
use Rattle.std.proofs.lemmas.Bool.{eq-eqb, ne_eqb}
use Rattle.std.proofs.lemmas.List.{length-map, get_or-map}
use Rattle.link_server.proofs.Words.{remove, if◌then◌else◌, filter, channel_number, key_of, IsDistinct, AccountRow, account_stays, Each, reservation_in, row_in, is_served_row_of, summed, IsPlaceOf, ServedRow}
use Rattle.link_steps.specs.Hold.{hold_ended}
use Rattle.rcsp_admission.proofs.OneRowPerKey.{distinct-later}

-- the row at a place is its channel's, and the only one
pub place-distinct : (rows : List ServedRow) (i : ℕ) (d : ServedRow) → IsDistinct (map summed rows) → i < length rows → IsPlaceOf (get_or rows i d).chan rows i
place-distinct [] i d distinct inside = absurd (omega arith)
place-distinct (row ∷ rows) zero d distinct inside = record {
  inside = inside;
  here = λ other. eq-eqb (channel_number row.chan) (channel_number row.chan) refl;
  before = λ k other below. absurd (omega arith);
}
place-distinct (row ∷ rows) (suc i) d distinct inside =
    let later = place-distinct rows i d (distinct-later (summed row) (map summed rows) distinct) (omega arith) in
    record {
      inside = inside;
      here = later.here;
      before = place-before row rows i (get_or rows i d) (other-channel row rows i d distinct (omega arith)) later;
    } where
      -- no earlier row has the channel of a later one
      other-channel : (row : ServedRow) (rows : List ServedRow) (i : ℕ) (d : ServedRow) → IsDistinct (map summed (row ∷ rows)) → i < length rows → channel_number row.chan ≡ channel_number (get_or rows i d).chan → ⊥
      other-channel row rows i d distinct inside same = distinct.apart 0 (suc i) (summed row) (omega arith) (let long = length-map rows summed in omega (arith, long, inside)) (same ∙ sym (ap key_of (get_or-map summed rows i d (summed row) inside)))

      place-before : (row : ServedRow) (rows : List ServedRow) (i : ℕ) (found : ServedRow) → (channel_number row.chan ≡ channel_number found.chan → ⊥) → IsPlaceOf found.chan rows i → (k : ℕ) (d : ServedRow) → k < suc i → is_served_row_of found.chan (get_or (row ∷ rows) k d) ≡ false
      place-before row rows i found other later zero d below = ne_eqb (channel_number row.chan) (channel_number found.chan) other
      place-before row rows i found other later (suc k) d below = later.before k d (omega arith)

-- a row stays where its hold hasn't ended
pub stays-is : (bounds : List ℕ) (t : ℕ) (row : ServedRow) (ended : Bool) → ended ≡ hold_ended bounds (reservation_in row) row.taken row.last t → account_stays bounds t (row_in row) ≡ not ended
stays-is bounds t row ended same = ap (λ last. not (hold_ended bounds (reservation_in row) row.taken last t)) (sym row.newest) ∙ ap not (sym same)

-- where there is a place, there is a row
pub a-row : (rows : List ServedRow) (i : ℕ) → i < length rows → ServedRow
a-row [] i inside = absurd (omega arith)
a-row (row ∷ rows) i inside = row

-- one that doesn't stay may be taken out
pub filter-without : (test : AccountRow → Bool) (rows : List ServedRow) (i : ℕ) (d : ServedRow) → i < length rows → test (row_in (get_or rows i d)) ≡ false → filter test (map row_in (remove rows i)) ≡ filter test (map row_in rows)
filter-without test [] i d inside is = absurd (omega (arith, inside))
filter-without test (row ∷ rows) zero d inside is = rw is refl
filter-without test (row ∷ rows) (suc i) d inside is = ap (λ rest. if test (row_in row) then row_in row ∷ rest else rest) (filter-without test rows i d (omega (arith, inside)) is)

-- a fact of each row stays where one is taken out, is one of the row at a place, and stays where one that has it is put
pub each-without : (P : AccountRow → Type 0) (rows : List ServedRow) (i : ℕ) → Each P (map row_in rows) → Each P (map row_in (remove rows i))
each-without P [] zero each = each
each-without P [] (suc i) each = each
each-without P (row ∷ rows) zero each = each.1
each-without P (row ∷ rows) (suc i) each = (each.0, each-without P rows i each.1)

pub each-at : (P : AccountRow → Type 0) (rows : List ServedRow) (i : ℕ) (d : ServedRow) → i < length rows → Each P (map row_in rows) → P (row_in (get_or rows i d))
each-at P [] i d inside each = absurd (omega arith)
each-at P (row ∷ rows) zero d inside each = each.0
each-at P (row ∷ rows) (suc i) d inside each = each-at P rows i d (omega arith) each.1

pub each-set : (P : AccountRow → Type 0) (rows : List ServedRow) (i : ℕ) (new : ServedRow) → P (row_in new) → Each P (map row_in rows) → Each P (map row_in (set rows i new))
each-set P [] i new is each = each
each-set P (row ∷ rows) zero new is each = (is, each.1)
each-set P (row ∷ rows) (suc i) new is each = (each.0, each-set P rows i new is each.1)
