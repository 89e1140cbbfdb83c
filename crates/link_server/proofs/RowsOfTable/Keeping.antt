-- The running numbers of what the rows keep go with the rows: one more, one less, one that changes.
use Rattle.std.proofs.Common.{◌≡◌, None, ℕ, zero, suc, ◌+◌, ◌-◌, ◌*◌, ◌^◌, ◌<◌, ◌≤◌, List, [], ◌∷◌, ◌++◌, length, map, get_or, set, refl, sym, ap, ◌∙◌, subst, arith}
use Rattle.std.proofs.Math.Nat.{mul-le-mul_left, mul-le-mul_right}
use Rattle.std.proofs.lemmas.List.{map_push}
use Rattle.link_server.proofs.Words.{Level, Committed, not_in_phase, is_phase, remove, total, IsContract, most_in, Arrival, SourceStep, Rests, Brings, Drops, taken_by, ServedRow, reservation_in, row_in}
use Rattle.link_steps.specs.declared.replies.Refusal.TheVariants.{NotInPhase}
use Rattle.link_steps.proofs.RulesPassed.{unless-none}
use Rattle.link_steps.proofs.ReservationFound.{phase-is}
use Rattle.buffer_budget.specs.Parts.{whole_of, with_held, with_freed}
use Rattle.traffic_contract.proofs.AdmissionTest.{total-push, total-map}
use Rattle.link_steps.specs.Buffer.{stay_in, stay_of, slots_of, held_units}
use Rattle.link_steps.specs.Account.{AccountRow, account_relaxed, account_terms, account_step, account_after_step, account_rows_after}
use Rattle.link_steps.specs.Reservation.{Reservation, closing}
use Rattle.link_server.specs.declared.table.keeping.Keeping.{Keeping}
use Rattle.link_server.specs.Keeping.{places_for, IsKeeping}
use Rattle.link_server.specs.Sound.{all_places_of}
use Rattle.link_server.proofs.RowsOfTable.Places.{terms-kept}
use Rattle.link_steps.proofs.SlotsHeld.{slots-closed}

-- ---- sums over rows

-- the one at a place has its share of the sum
total-at : (f : Reservation → ℕ) (rows : List ServedRow) (i : ℕ) (d : ServedRow) → i < length rows → f (reservation_in (get_or rows i d)) ≤ total f (map reservation_in rows)
total-at f [] i d inside = absurd (omega arith)
total-at f (row ∷ rows) zero d inside = omega arith
total-at f (row ∷ rows) (suc i) d inside = (let rest = total-at f rows i d (omega (arith, inside)) in omega (arith, rest))

-- it takes its share along
total-removed : (f : Reservation → ℕ) (rows : List ServedRow) (i : ℕ) (d : ServedRow) → i < length rows → total f (map reservation_in (remove rows i)) + f (reservation_in (get_or rows i d)) ≡ total f (map reservation_in rows)
total-removed f [] i d inside = absurd (omega arith)
total-removed f (row ∷ rows) zero d inside = omega arith
total-removed f (row ∷ rows) (suc i) d inside = (let rest = total-removed f rows i d (omega (arith, inside)) in omega (arith, rest))

-- and another in its place brings its own
total-set : (f : Reservation → ℕ) (rows : List ServedRow) (i : ℕ) (new d : ServedRow) → i < length rows → total f (map reservation_in (set rows i new)) + f (reservation_in (get_or rows i d)) ≡ total f (map reservation_in rows) + f (reservation_in new)
total-set f [] i new d inside = absurd (omega arith)
total-set f (row ∷ rows) zero new d inside = omega arith
total-set f (row ∷ rows) (suc i) new d inside = (let rest = total-set f rows i new d (omega (arith, inside)) in omega (arith, rest))

-- ---- what is kept

-- the free units are those that the rows don't keep
pub keeping-free : (buffer : ℕ) (bounds : List ℕ) (keeping : Keeping) (rows : List ServedRow) → IsKeeping buffer bounds keeping (map reservation_in rows) → keeping.budget.free ≡ buffer - total (held_units bounds) (map account_terms (map row_in rows))
keeping-free buffer bounds keeping rows keeps = (let whole = keeps.whole in let units = keeps.units in let same = ap (total (held_units bounds)) (terms-kept rows) in omega (arith, whole, units, same))

-- the places are those of the account
pub keeping-places : (buffer : ℕ) (bounds : List ℕ) (keeping : Keeping) (rows : List ServedRow) → IsKeeping buffer bounds keeping (map reservation_in rows) → keeping.places ≡ total (all_places_of bounds) (map row_in rows)
keeping-places buffer bounds keeping rows keeps =
    keeps.places ∙ total-map (places_for bounds) reservation_in rows ∙ sym (total-map (all_places_of bounds) row_in rows)

-- a row holds its units, and has its places
pub row-held : (buffer : ℕ) (bounds : List ℕ) (keeping : Keeping) (rows : List ServedRow) (i : ℕ) (d : ServedRow) → IsKeeping buffer bounds keeping (map reservation_in rows) → i < length rows → held_units bounds (reservation_in (get_or rows i d)) ≤ keeping.budget.held
row-held buffer bounds keeping rows i d keeps inside = (let units = keeps.units in let at = total-at (held_units bounds) rows i d inside in omega (arith, units, at))

pub row-places : (buffer : ℕ) (bounds : List ℕ) (keeping : Keeping) (rows : List ServedRow) (i : ℕ) (d : ServedRow) → IsKeeping buffer bounds keeping (map reservation_in rows) → i < length rows → places_for bounds (reservation_in (get_or rows i d)) ≤ keeping.places
row-places buffer bounds keeping rows i d keeps inside = (let places = keeps.places in let at = total-at (places_for bounds) rows i d inside in omega (arith, places, at))

-- ---- what changes

-- one row more holds its share
pub keeps-pushed : (buffer : ℕ) (bounds : List ℕ) (old new : Keeping) (rows : List ServedRow) (row : ServedRow) → IsKeeping buffer bounds old (map reservation_in rows)
    → held_units bounds (reservation_in row) ≤ old.budget.free → new.budget ≡ with_held old.budget (held_units bounds (reservation_in row)) → new.places ≡ old.places + places_for bounds (reservation_in row)
    → IsKeeping buffer bounds new (map reservation_in (rows ++ row ∷ []))
keeps-pushed buffer bounds old new rows row keeps free budget places =
    let whole = keeps.whole in
    let units = keeps.units in
    let all = keeps.places in
    let left : new.budget.free ≡ old.budget.free - held_units bounds (reservation_in row) = ap (λ p. p.free) budget in
    let held : new.budget.held ≡ old.budget.held + held_units bounds (reservation_in row) = ap (λ p. p.held) budget in
    let more = ap (total (held_units bounds)) (map_push reservation_in rows row) ∙ total-push (held_units bounds) (map reservation_in rows) (reservation_in row) in
    let wider = ap (total (places_for bounds)) (map_push reservation_in rows row) ∙ total-push (places_for bounds) (map reservation_in rows) (reservation_in row) in
    record {
      whole = omega (arith, whole, free, left, held);
      units = omega (arith, units, held, more);
      places = omega (arith, all, places, wider);
    }

-- one that is taken out gives it back
pub keeps-removed : (buffer : ℕ) (bounds : List ℕ) (old new : Keeping) (rows : List ServedRow) (i : ℕ) (row : ServedRow) → IsKeeping buffer bounds old (map reservation_in rows) → i < length rows → row ≡ get_or rows i row
    → new.budget ≡ with_freed old.budget (held_units bounds (reservation_in row)) → new.places ≡ old.places - places_for bounds (reservation_in row)
    → IsKeeping buffer bounds new (map reservation_in (remove rows i))
keeps-removed buffer bounds old new rows i row keeps inside is budget places =
    let whole = keeps.whole in
    let units = keeps.units in
    let all = keeps.places in
    let own = subst (λ r. held_units bounds (reservation_in r) ≤ old.budget.held) (sym is) (row-held buffer bounds old rows i row keeps inside) in
    let wide = subst (λ r. places_for bounds (reservation_in r) ≤ old.places) (sym is) (row-places buffer bounds old rows i row keeps inside) in
    let free : new.budget.free ≡ old.budget.free + held_units bounds (reservation_in row) = ap (λ p. p.free) budget in
    let held : new.budget.held ≡ old.budget.held - held_units bounds (reservation_in row) = ap (λ p. p.held) budget in
    let fewer = subst (λ r. total (held_units bounds) (map reservation_in (remove rows i)) + held_units bounds (reservation_in r) ≡ total (held_units bounds) (map reservation_in rows)) (sym is) (total-removed (held_units bounds) rows i row inside) in
    let narrower = subst (λ r. total (places_for bounds) (map reservation_in (remove rows i)) + places_for bounds (reservation_in r) ≡ total (places_for bounds) (map reservation_in rows)) (sym is) (total-removed (places_for bounds) rows i row inside) in
    record {
      whole = omega (arith, whole, own, free, held);
      units = omega (arith, units, own, held, fewer);
      places = omega (arith, all, wide, places, narrower);
    }

-- one that changes gives back its share and holds the new one
pub keeps-changed : (buffer : ℕ) (bounds : List ℕ) (old mid new : Keeping) (rows : List ServedRow) (i : ℕ) (changed d : ServedRow) → IsKeeping buffer bounds old (map reservation_in rows) → i < length rows
    → mid.budget ≡ with_freed old.budget (held_units bounds (reservation_in (get_or rows i d))) → mid.places ≡ old.places - places_for bounds (reservation_in (get_or rows i d))
    → held_units bounds (reservation_in changed) ≤ mid.budget.free → new.budget ≡ with_held mid.budget (held_units bounds (reservation_in changed)) → new.places ≡ mid.places + places_for bounds (reservation_in changed)
    → IsKeeping buffer bounds new (map reservation_in (set rows i changed))
keeps-changed buffer bounds old mid new rows i changed d keeps inside freed given fits held wanted =
    let whole = keeps.whole in
    let units = keeps.units in
    let all = keeps.places in
    let own = row-held buffer bounds old rows i d keeps inside in
    let wide = row-places buffer bounds old rows i d keeps inside in
    let mid_free : mid.budget.free ≡ old.budget.free + held_units bounds (reservation_in (get_or rows i d)) = ap (λ p. p.free) freed in
    let mid_held : mid.budget.held ≡ old.budget.held - held_units bounds (reservation_in (get_or rows i d)) = ap (λ p. p.held) freed in
    let new_free : new.budget.free ≡ mid.budget.free - held_units bounds (reservation_in changed) = ap (λ p. p.free) held in
    let new_held : new.budget.held ≡ mid.budget.held + held_units bounds (reservation_in changed) = ap (λ p. p.held) held in
    let sum = total-set (held_units bounds) rows i changed d inside in
    let places = total-set (places_for bounds) rows i changed d inside in
    record {
      whole = omega (arith, whole, own, mid_free, mid_held, fits, new_free, new_held);
      units = omega (arith, units, own, mid_held, new_held, sum);
      places = omega (arith, all, wide, given, wanted, places);
    }

-- one that changes and has the same share leaves them as they are
pub keeps-swapped : (buffer : ℕ) (bounds : List ℕ) (keeping : Keeping) (rows : List ServedRow) (i : ℕ) (changed d : ServedRow) → IsKeeping buffer bounds keeping (map reservation_in rows) → i < length rows
    → held_units bounds (reservation_in changed) ≡ held_units bounds (reservation_in (get_or rows i d)) → slots_of bounds (reservation_in changed) ≡ slots_of bounds (reservation_in (get_or rows i d))
    → IsKeeping buffer bounds keeping (map reservation_in (set rows i changed))
keeps-swapped buffer bounds keeping rows i changed d keeps inside same alike =
    let units = keeps.units in
    let all = keeps.places in
    let sum = total-set (held_units bounds) rows i changed d inside in
    let places = total-set (places_for bounds) rows i changed d inside in
    record { whole = keeps.whole; units = omega (arith, units, sum, same); places = omega (arith, all, places, alike) }

-- the sources' steps leave the reservations as they are
step-terms : (step : SourceStep) (t place : ℕ) (row : AccountRow) → account_terms (account_after_step step t place row) ≡ account_terms row
step-terms Rests t place row = refl
step-terms Drops t place row = refl
step-terms (Brings size) t place row = refl

terms-after : (bounds : List ℕ) (here : List Arrival) (t taken : ℕ) (rows : List AccountRow) → map account_terms (account_rows_after bounds here t taken rows) ≡ map account_terms rows
unfolding account_rows_after
terms-after bounds here t taken [] = refl
terms-after bounds here t taken (row ∷ rows) =
    ap (λ terms. terms ∷ map account_terms (account_rows_after bounds here t (taken + taken_by (account_step bounds here t row)) rows)) (step-terms (account_step bounds here t row) t (suc taken) row)
    ∙ ap (λ all. account_terms row ∷ all) (terms-after bounds here t (taken + taken_by (account_step bounds here t row)) rows)

pub reservations-after : (bounds : List ℕ) (here : List Arrival) (t taken : ℕ) (old new : List ServedRow) → map row_in new ≡ account_rows_after bounds here t taken (map row_in old) → map reservation_in new ≡ map reservation_in old
reservations-after bounds here t taken old new same =
    sym (terms-kept new) ∙ ap (map account_terms) same ∙ terms-after bounds here t taken (map row_in old) ∙ terms-kept old

-- ---- shares

-- no slot is narrower than a unit
pub slots-units : (bounds : List ℕ) (terms : Reservation) → IsContract terms.contract → slots_of bounds terms ≤ held_units bounds terms
unfolding slots_of held_units
slots-units bounds terms valid =
    let e : most_in terms.contract (stay_of bounds terms) * 1 ≤ most_in terms.contract (stay_of bounds terms) * terms.contract.smax = mul-le-mul_left (most_in terms.contract (stay_of bounds terms)) valid.smax_least in
    omega (arith, e)

-- fewer slots of the same contract keep fewer units
pub units-narrower : (bounds : List ℕ) (one other : Reservation) → other.contract ≡ one.contract → slots_of bounds other ≤ slots_of bounds one → held_units bounds other ≤ held_units bounds one
unfolding slots_of held_units
units-narrower bounds one other same fewer =
    let e : most_in other.contract (stay_of bounds other) * other.contract.smax ≤ most_in one.contract (stay_of bounds one) * other.contract.smax = mul-le-mul_right other.contract.smax fewer in
    subst (λ c. most_in other.contract (stay_of bounds other) * other.contract.smax ≤ most_in one.contract (stay_of bounds one) * c.smax) same e

-- a row that is relaxed and has no more slots than before keeps no more units
pub relaxed-units : (bounds : List ℕ) (level : Level) (up_bound : ℕ) (changed old : ServedRow) → row_in changed ≡ account_relaxed level up_bound (row_in old) → slots_of bounds (reservation_in changed) ≤ slots_of bounds (reservation_in old) → held_units bounds (reservation_in changed) ≤ held_units bounds (reservation_in old)
relaxed-units bounds level up_bound changed old same fewer = units-narrower bounds (reservation_in old) (reservation_in changed) (ap (λ row. row.terms.contract) same) fewer

-- a row that is closed has the same share
closed-units : (bounds : List ℕ) (count : ℕ) (terms : Reservation) → terms.phase ≡ Committed → held_units bounds (closing count terms) ≡ held_units bounds terms
unfolding held_units
closed-units bounds count terms phase = ap (λ p. most_in terms.contract (stay_in p bounds terms) * terms.contract.smax) (sym phase)

pub keeps-closed : (buffer : ℕ) (bounds : List ℕ) (keeping : Keeping) (rows : List ServedRow) (i : ℕ) (changed d : ServedRow) (count : ℕ) → IsKeeping buffer bounds keeping (map reservation_in rows) → i < length rows
    → reservation_in changed ≡ closing count (reservation_in (get_or rows i d)) → None ≡ not_in_phase Committed (reservation_in (get_or rows i d))
    → IsKeeping buffer bounds keeping (map reservation_in (set rows i changed))
keeps-closed buffer bounds keeping rows i changed d count keeps inside same phase =
    let terms = reservation_in (get_or rows i d) in
    let is = phase-is terms.phase Committed (unless-none (is_phase terms.phase Committed) (NotInPhase terms.phase) (sym phase)) in
    keeps-swapped buffer bounds keeping rows i changed d keeps inside
    (ap (held_units bounds) same ∙ closed-units bounds count terms is)
    (ap (slots_of bounds) same ∙ slots-closed bounds count terms is)

-- what the rows hold leaves room to count their places
places-least : (bounds : List ℕ) (rows : List ServedRow) → total (places_for bounds) (map reservation_in rows) ≤ length rows + total (held_units bounds) (map reservation_in rows)
places-least bounds [] = omega arith
places-least bounds (row ∷ rows) =
    let one = slots-units bounds (reservation_in row) row.is_contract in
    omega (arith, one, places-least bounds rows)

-- the places are few
pub places-few : (buffer : ℕ) (bounds : List ℕ) (keeping : Keeping) (rows : List ServedRow) → IsKeeping buffer bounds keeping (map reservation_in rows) → buffer < 2 ^ 32 → length rows < 2 ^ 32 → keeping.places < 2 ^ 40
places-few buffer bounds keeping rows keeps small few =
    let least = places-least bounds rows in
    let whole = keeps.whole in
    let units = keeps.units in
    let places = keeps.places in
    omega (arith, least, whole, units, places, few, small)

-- the numbers tell the buffer themselves
pub own-whole : (buffer : ℕ) (bounds : List ℕ) (keeping : Keeping) (held : List Reservation) → IsKeeping buffer bounds keeping held → IsKeeping (whole_of keeping.budget) bounds keeping held
own-whole buffer bounds keeping held keeps = record { whole = refl; units = keeps.units; places = keeps.places }
