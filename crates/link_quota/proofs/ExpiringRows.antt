-- The rows that expire in a tick are closing ones, and what is summed over the listed rows that are gone is what the rows held
-- lose.
use Rattle.std.proofs.Common.{◌≡◌, ℕ, zero, suc, ◌+◌, inl, inr, Bool, true, false, cond, List, [], ◌∷◌, map, Some, None, refl, sym, ap, ◌∙◌, subst, arith}
use Rattle.std.proofs.lemmas.Bool.{cases_Bool, eqb-true, eq-eqb}
use Rattle.std.proofs.lemmas.Option.{same_Some}
use Rattle.std.specs.Prelude.{filter, find, not, ◌&&◌, is_some, slice_get}
use Rattle.std.specs.Option.{option_map}
use Rattle.net_units.specs.Numbers.{channel_number}
use Rattle.traffic_contract.specs.Admission.{total}
use Rattle.traffic_contract.proofs.AdmissionTest.{total-map}
use Rattle.link_steps.specs.declared.replies.Phase.TheVariants.{Closing}
use Rattle.link_steps.specs.Hold.{hold_ended, stays}
use Rattle.link_steps.specs.Lists.{Each}
use Rattle.link_steps.specs.Reservation.{is_phase}
use Rattle.link_steps.specs.Rows.{Row, row_terms}
use Rattle.link_steps.specs.Scan.{is_row_of}
use Rattle.link_steps.proofs.AdmissionHolds.{find-terms}
use Rattle.link_steps.proofs.LegalChannels.{DifferInChannel}
use Rattle.link_server.specs.Held.{seen}
use Rattle.link_server.specs.declared.held_row.HeldRow.{HeldRow}
use Rattle.link_quota.specs.Closing.{closing_part, is_held, if_held, if_gone}
use Rattle.link_quota.proofs.RowChanges.{none-of, find-none}

-- ---- which rows a channel still has

each-filter : (P : Row → Type 0) (p : Row → Bool) (rows : List Row) → Each P rows → Each P (filter p rows)
each-filter P p [] all = tt
each-filter P p (row ∷ rows) all = elim (p row) as (λ b. Each P (cond b (row ∷ filter p rows) (filter p rows))) [ true ↦ (all.0, each-filter P p rows all.1) | false ↦ each-filter P p rows all.1 ]

each-at : (P : Row → Type 0) (rows : List Row) (n : ℕ) (row : Row) → slice_get rows n ≡ Some row → Each P rows → P row
each-at P [] n row at all = absurd (let clash : None ≡ Some row = at in cc)
each-at P (x ∷ rows) zero row at all = subst P (same_Some x row at) all.0
each-at P (x ∷ rows) (suc n) row at all = each-at P rows n row at all.1

own : (row : Row) → is_row_of row.terms.chan row ≡ true
own row = eq-eqb (channel_number row.terms.chan) (channel_number row.terms.chan) refl

-- of two rows, either is the other's or neither
turned : (row x : Row) → is_row_of x.terms.chan row ≡ false → is_row_of row.terms.chan x ≡ false
turned row x other =
    elim (cases_Bool (is_row_of row.terms.chan x)) [
      | inl is ↦ absurd (let back = eq-eqb (channel_number row.terms.chan) (channel_number x.terms.chan) (sym (eqb-true (channel_number x.terms.chan) (channel_number row.terms.chan) is)) in let clash : true ≡ false = sym back ∙ other in cc)
      | inr apart ↦ apart
    ]

-- the channel of a row has it among those that a filter passes, if that passes it, and else none
pub passed-find : (p : Row → Bool) (rows : List Row) (n : ℕ) (row : Row) → DifferInChannel rows → slice_get rows n ≡ Some row → find (is_row_of row.terms.chan) (filter p rows) ≡ cond (p row) (Some row) None
passed-find p [] n row differ at = absurd (let clash : None ≡ Some row = at in cc)
passed-find p (x ∷ rows) zero row differ at =
    subst (λ (r : Row). find (is_row_of r.terms.chan) (filter p (x ∷ rows)) ≡ cond (p r) (Some r) None) (same_Some x row at)
    (elim (p x) as (λ b. find (is_row_of x.terms.chan) (cond b (x ∷ filter p rows) (filter p rows)) ≡ cond b (Some x) None) [
      | true ↦ rw (own x) refl
      | false ↦ find-none (is_row_of x.terms.chan) (filter p rows) (each-filter (λ (r : Row). is_row_of x.terms.chan r ≡ false) p rows (none-of x.terms.chan x rows (own x) differ.0))
    ])
passed-find p (x ∷ rows) (suc n) row differ at =
    let other = turned row x (each-at (λ (r : Row). is_row_of x.terms.chan r ≡ false) rows n row at (none-of x.terms.chan x rows (own x) differ.0)) in
    elim (p x) as (λ b. find (is_row_of row.terms.chan) (cond b (x ∷ filter p rows) (filter p rows)) ≡ cond (p row) (Some row) None) [
      | true ↦ rw other (passed-find p rows n row differ.1 at)
      | false ↦ passed-find p rows n row differ.1 at
    ]

-- so a row is still held where the filter passes it
pub held-passed : (bounds : List ℕ) (p : Row → Bool) (rows : List Row) (n : ℕ) (row : Row) → DifferInChannel rows → slice_get rows n ≡ Some row → is_held bounds (map row_terms (filter p rows)) (seen bounds row.terms) ≡ p row
held-passed bounds p rows n row differ at =
    ap (λ found. is_some (option_map (seen bounds) found)) (find-terms row.terms.chan (filter p rows))
    ∙ ap (λ found. is_some (option_map (seen bounds) (option_map row_terms found))) (passed-find p rows n row differ at)
    ∙ (elim (p row) as (λ b. is_some (option_map (seen bounds) (option_map row_terms (cond b (Some row) None))) ≡ b) [ true ↦ refl | false ↦ refl ])

-- ---- sums

pub total-same : {X : Type 0} (f g : X → ℕ) (xs : List X) → ((n : ℕ) (x : X) → slice_get xs n ≡ Some x → f x ≡ g x) → total f xs ≡ total g xs
total-same f g [] same = refl
total-same f g (x ∷ xs) same =
    let first = same 0 x refl in
    let rest = total-same f g xs (λ n y at. same (suc n) y at) in
    omega (arith, first, rest)

-- a sum of what a filter passes
pub total-filtered : {X : Type 0} (f : X → ℕ) (p : X → Bool) (xs : List X) → total f (filter p xs) ≡ total (λ x. cond (p x) (f x) 0) xs
total-filtered f p [] = refl
total-filtered f p (x ∷ xs) =
    let rest = total-filtered f p xs in
    elim (p x) as (λ b. total f (cond b (x ∷ filter p xs) (filter p xs)) ≡ cond b (f x) 0 + total (λ y. cond (p y) (f y) 0) xs) [ true ↦ omega (arith, rest) | false ↦ omega (arith, rest) ]

-- and of what it doesn't
total-both : {X : Type 0} (f : X → ℕ) (p : X → Bool) (xs : List X) → total (λ x. cond (p x) 0 (f x)) xs + total f (filter p xs) ≡ total f xs
total-both f p [] = refl
total-both f p (x ∷ xs) =
    let rest = total-both f p xs in
    elim (p x) as (λ b. cond b 0 (f x) + total (λ y. cond (p y) 0 (f y)) xs + total f (cond b (x ∷ filter p xs) (filter p xs)) ≡ f x + total f xs) [ true ↦ omega (arith, rest) | false ↦ omega (arith, rest) ]

either : (c : Bool) (x : ℕ) → cond c x x ≡ x
either true x = refl
either false x = refl

-- ---- the rows that a filter leaves, of which all others are closing

-- what the closing ones that are gone had is what the rows lose
pub gone-total : (bounds : List ℕ) (f : HeldRow → ℕ) (p : Row → Bool) (rows : List Row) → DifferInChannel rows → ((row : Row) → p row ≡ false → is_phase row.terms.phase Closing ≡ true)
    → total (closing_part bounds (if_gone bounds (map row_terms (filter p rows)) f)) (map row_terms rows) + total (λ terms. f (seen bounds terms)) (map row_terms (filter p rows)) ≡ total (λ terms. f (seen bounds terms)) (map row_terms rows)
gone-total bounds f p rows differ closes =
    let own = λ (row : Row). f (seen bounds row.terms) in
    let one = total-map (closing_part bounds (if_gone bounds (map row_terms (filter p rows)) f)) row_terms rows
    ∙ total-same (λ (row : Row). closing_part bounds (if_gone bounds (map row_terms (filter p rows)) f) row.terms) (λ (row : Row). cond (p row) 0 (f (seen bounds row.terms))) rows
    (λ n row at. each (is_held bounds (map row_terms (filter p rows)) (seen bounds row.terms)) (p row) row (held-passed bounds p rows n row differ at) refl) in
    let two = total-map (λ terms. f (seen bounds terms)) row_terms (filter p rows) in
    let three = total-map (λ terms. f (seen bounds terms)) row_terms rows in
    let four = total-both (λ (row : Row). f (seen bounds row.terms)) p rows in
    omega (arith, one, two, three, four) where
      each : (b q : Bool) (row : Row) → b ≡ q → p row ≡ q → cond (is_phase row.terms.phase Closing) (cond b 0 (f (seen bounds row.terms))) 0 ≡ cond q 0 (f (seen bounds row.terms))
      each true true row same is = either (is_phase row.terms.phase Closing) 0
      each false false row same is = rw (closes row is) refl
      each true false row same is = cc
      each false true row same is = cc

-- and those that are not are the closing ones of the rows left
pub left-total : (bounds : List ℕ) (f : HeldRow → ℕ) (p : Row → Bool) (rows : List Row) → DifferInChannel rows
    → total (closing_part bounds (if_held bounds (map row_terms (filter p rows)) f)) (map row_terms rows) ≡ total (closing_part bounds f) (map row_terms (filter p rows))
left-total bounds f p rows differ =
    total-map (closing_part bounds (if_held bounds (map row_terms (filter p rows)) f)) row_terms rows
    ∙ total-same (λ (row : Row). closing_part bounds (if_held bounds (map row_terms (filter p rows)) f) row.terms) (λ (row : Row). cond (p row) (closing_part bounds f row.terms) 0) rows
    (λ n row at. each (is_held bounds (map row_terms (filter p rows)) (seen bounds row.terms)) (p row) (is_phase row.terms.phase Closing) (f (seen bounds row.terms)) (held-passed bounds p rows n row differ at))
    ∙ sym (total-filtered (λ (row : Row). closing_part bounds f row.terms) p rows)
    ∙ sym (total-map (closing_part bounds f) row_terms (filter p rows)) where
      each : (b q c : Bool) (x : ℕ) → b ≡ q → cond c (cond b x 0) 0 ≡ cond q (cond c x 0) 0
      each true true c x same = refl
      each false false c x same = either c 0
      each true false c x same = cc
      each false true c x same = cc

-- a row that a tick doesn't leave is closing
pub expires-closing : (bounds : List ℕ) (t : ℕ) (row : Row) → stays bounds t row ≡ false → is_phase row.terms.phase Closing ≡ true
unfolding hold_ended
expires-closing bounds t row goes = one (is_phase row.terms.phase Closing) _ goes where
  one : (a b : Bool) → not (a && b) ≡ false → a ≡ true
  one true b is = refl
  one false b is = cc
