-- The rows and the admission sums, each row under the number of its channel, go together.
use Rattle.std.proofs.Common.{◌≡◌, ℕ, zero, suc, ◌<◌, ◌≤◌, false, List, [], ◌∷◌, length, map, get_or, set, refl, sym, ap, ◌∙◌, arith}
use Rattle.std.proofs.lemmas.Bool.{ne_eqb, eqb-true, eqb-false}
use Rattle.link_server.proofs.Words.{remove, channel_number, level_number, ChanNo, Level, account_terms, new_account, account_relaxed, Each, Reservation, admitted, ServedRow, reservation_in, row_in, is_served_row_of, summed, IsAbsent, IsPlaceOf, IsWithinLevels}
use Rattle.traffic_contract.specs.Admission.{Admitted}
use Rattle.rcsp_admission.specs.Sums.{Sums, Held, row_held, key_of, admitted_rows, has_key, Holds, HoldsUpTo, put_at, moved, without_key, IsDistinct}
use Rattle.link_server.proofs.RowsOfTable.Places.{place-later, terms-kept}
use Rattle.rcsp_admission.proofs.OneRowPerKey.{distinct-later}

-- the admission test sees the reservations
summed-rows : (rows : List ServedRow) → admitted_rows (map summed rows) ≡ map admitted (map reservation_in rows)
summed-rows [] = refl
summed-rows (row ∷ rows) = ap (λ all. admitted (reservation_in row) ∷ all) (summed-rows rows)

others-apart : (key : ℕ) (rows : List Held) → ((k : ℕ) (d : Held) → k < length rows → (get_or rows k d).key ≡ key → ⊥) → Each (λ held. has_key key held ≡ false) rows
others-apart key [] other = tt
others-apart key (held ∷ rows) other = (ne_eqb held.key key (other 0 held (omega arith)), others-apart key rows (λ k d inside. other (suc k) d (omega arith)))

-- no later row has the key of the first
later-apart : (key : ℕ) (held : Held) (rows : List Held) → held.key ≡ key → IsDistinct (held ∷ rows) → Each (λ other. has_key key other ≡ false) rows
later-apart key held rows same distinct = others-apart key rows (λ k d inside again. distinct.apart 0 (suc k) d (omega arith) (omega arith) (same ∙ sym again))

-- rows of other keys stay as they are
moved-others : (key level : ℕ) (rows : List Held) → Each (λ held. has_key key held ≡ false) rows → moved rows key level ≡ rows
moved-others key level [] each = refl
moved-others key level (held ∷ rows) each = rw each.0 (ap (λ all. held ∷ all) (moved-others key level rows each.1))

without-others : (key : ℕ) (rows : List Held) → Each (λ held. has_key key held ≡ false) rows → without_key rows key ≡ rows
without-others key [] each = refl
without-others key (held ∷ rows) each = rw each.0 (ap (λ all. held ∷ all) (without-others key rows each.1))

-- what the sums take out under the channel's number is the row at its place
pub summed-without : (chan : ChanNo) (rows : List ServedRow) (i : ℕ) → IsDistinct (map summed rows) → IsPlaceOf chan rows i → without_key (map summed rows) (channel_number chan) ≡ map summed (remove rows i)
summed-without chan [] i distinct place = let h = place.inside in absurd (omega arith)
summed-without chan (row ∷ rows) zero distinct place =
    rw (place.here row) (without-others (channel_number chan) (map summed rows) (later-apart (channel_number chan) (summed row) (map summed rows) (eqb-true (channel_number row.chan) (channel_number chan) (place.here row)) distinct))
summed-without chan (row ∷ rows) (suc i) distinct place =
    rw (place.before 0 row (omega arith)) (ap (λ all. summed row ∷ all) (summed-without chan rows i (distinct-later (summed row) (map summed rows) distinct) (place-later (is_served_row_of chan) row rows i place)))

-- and what they move is that row
pub summed-moved : (chan : ChanNo) (level : ℕ) (rows : List ServedRow) (i : ℕ) (new d : ServedRow) → IsDistinct (map summed rows) → IsPlaceOf chan rows i → summed new ≡ put_at level (summed (get_or rows i d)) → moved (map summed rows) (channel_number chan) level ≡ map summed (set rows i new)
summed-moved chan level [] i new d distinct place same = let h = place.inside in absurd (omega arith)
summed-moved chan level (row ∷ rows) zero new d distinct place same =
    let rest = moved-others (channel_number chan) level (map summed rows) (later-apart (channel_number chan) (summed row) (map summed rows) (eqb-true (channel_number row.chan) (channel_number chan) (place.here d)) distinct) in
    rw (place.here d, rest) (ap (λ held. held ∷ map summed rows) (sym same))
summed-moved chan level (row ∷ rows) (suc i) new d distinct place same =
    rw (place.before 0 d (omega arith)) (ap (λ all. summed row ∷ all) (summed-moved chan level rows i new d (distinct-later (summed row) (map summed rows) distinct) (place-later (is_served_row_of chan) row rows i place) same))

-- the sums hold a key at the place of the channel
pub place-holds : (chan : ChanNo) (rows : List ServedRow) (i : ℕ) → IsPlaceOf chan rows i → Holds (map summed rows) (channel_number chan)
place-holds chan [] i place = let h = place.inside in absurd (omega arith)
place-holds chan (row ∷ rows) zero place = (0, omega arith, eqb-true (channel_number row.chan) (channel_number chan) (place.here row))
place-holds chan (row ∷ rows) (suc i) place =
    let rest = place-holds chan rows i (place-later (is_served_row_of chan) row rows i place) in
    (suc rest.0, omega (arith, rest.1), rest.2)

-- and at its level
pub place-holds-upto : (chan : ChanNo) (level : ℕ) (rows : List ServedRow) (i : ℕ) (d : ServedRow) → IsPlaceOf chan rows i → level_number (get_or rows i d).level ≤ level → HoldsUpTo (map summed rows) (channel_number chan) level
place-holds-upto chan level [] i d place up = let h = place.inside in absurd (omega arith)
place-holds-upto chan level (row ∷ rows) zero d place up = (0, summed row, omega arith, refl, (eqb-true (channel_number row.chan) (channel_number chan) (place.here d), up))
place-holds-upto chan level (row ∷ rows) (suc i) d place up =
    let rest = place-holds-upto chan level rows i d (place-later (is_served_row_of chan) row rows i place) up in
    (suc rest.0, rest.1, omega (arith, rest.2), rest.3, rest.4)

-- and none where the channel has no row
pub absent-new : (chan : ChanNo) (rows : List ServedRow) → IsAbsent chan rows → Holds (map summed rows) (channel_number chan) → ⊥
absent-new chan rows absent (k, inside, at) = absent-at chan rows absent k inside at where
  absent-at : (chan : ChanNo) (rows : List ServedRow) → IsAbsent chan rows → (k : ℕ) → k < length (map key_of (map summed rows)) → get_or (map key_of (map summed rows)) k (channel_number chan) ≡ channel_number chan → ⊥
  absent-at chan [] absent k inside at = absurd (omega arith)
  absent-at chan (row ∷ rows) absent zero inside at = eqb-false (channel_number row.chan) (channel_number chan) (absent 0 row (omega arith)) at
  absent-at chan (row ∷ rows) absent (suc k) inside at = absent-at chan rows (λ j d within. absent (suc j) d (omega arith)) k (omega arith) at

-- a row that is committed is moved in the sums
pub summed-committed : (new old : ServedRow) (level : Level) (up_bound : ℕ) → row_in new ≡ account_relaxed level up_bound (row_in old) → summed new ≡ put_at (level_number level) (summed old)
summed-committed new old level up_bound same = ap (λ row. row_held (channel_number row.terms.chan) row.terms.contract (level_number row.terms.level)) same

-- and its levels are still the link's
pub within-committed : (levels : ℕ) (new old : ServedRow) (level : Level) (up_bound : ℕ) → row_in new ≡ account_relaxed level up_bound (row_in old) → level_number level ≤ levels → IsWithinLevels levels old → IsWithinLevels levels new
within-committed levels new old level up_bound same upto within =
    let at : level_number new.level ≡ level_number level = ap (λ row. level_number row.terms.level) same in
    let far : level_number new.reach ≡ level_number old.reach = ap (λ row. level_number row.terms.reach) same in
    let most = within.reach in
    record { level = omega arith; reach = omega (arith, most) }

-- a row that is reserved has the levels of its offer
pub within-reserved : (levels : ℕ) (new : ServedRow) (terms : Reservation) → row_in new ≡ new_account terms → level_number terms.level ≤ levels → level_number terms.reach ≤ levels → IsWithinLevels levels new
within-reserved levels new terms same near most =
    let at : level_number new.level ≡ level_number terms.level = ap (λ row. level_number row.terms.level) same in
    let far : level_number new.reach ≡ level_number terms.reach = ap (λ row. level_number row.terms.reach) same in
    record { level = omega (arith, near); reach = omega (arith, most) }

-- what the admission test says of the sums it says of the reservations of the account
pub same-admission : {X : Type 0} (answer : List Admitted → X) (sums : Sums) (rows : List ServedRow) → sums.rows ≡ map summed rows → answer (admitted_rows sums.rows) ≡ answer (map admitted (map account_terms (map row_in rows)))
same-admission answer sums rows same = ap answer (ap admitted_rows same ∙ summed-rows rows ∙ ap (map admitted) (sym (terms-kept rows)))
