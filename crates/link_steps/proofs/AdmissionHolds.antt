-- In every admissible history the held rows pass the admission test after every entry.
use Rattle.std.proofs.Common.{◌≡◌, ℕ, suc, ◌+◌, ◌≤◌, List, [], ◌∷◌, ◌++◌, map, refl, sym, ap, ◌∙◌, subst, arith, length}
use Rattle.std.proofs.lemmas.List.{map-append}
use Rattle.std.specs.Prelude.{filter, find}
use Rattle.std.specs.Option.{option_map}
use Rattle.net_units.proofs.BoundsInOrder.{bound_at-rising}
use Rattle.net_units.specs.Numbers.{level_number}
use Rattle.net_units.specs.Quotient.{ceil_quotient}
use Rattle.net_units.specs.LevelBounds.{bound_at}
use Rattle.net_units.specs.declared.numbers.ChanNo.{ChanNo}
use Rattle.traffic_contract.specs.Admission.{Admitted, total, work_up_to, load, Passes, with_row}
use Rattle.traffic_contract.proofs.AdmissionTest.{Passes-le, Passes-nil, total-map, total-filter-le, work_up_to-le, Decides-admits}
use Rattle.link_steps.specs.declared.replies.Entry.{Entry}
use Rattle.link_steps.specs.declared.shape.LinkShape.{LinkShape}
use Rattle.link_steps.specs.Admissible.{IsAdmissible}
use Rattle.link_steps.specs.HopGuarantee.{AfterEach, HeldRowsPass}
use Rattle.link_steps.specs.Reservation.{admitted, is_of, Reservation}
use Rattle.link_steps.specs.Scan.{Scan, is_row_of, with_arrival, without_expired, with_sources, with_best, after_tick, scan_of, arrived_row, clock_of}
use Rattle.link_steps.specs.Service.{Arrival}
use Rattle.link_steps.specs.Shape.{server_of}
use Rattle.link_steps.specs.Rows.{Row, row_terms, new_row}
use Rattle.link_steps.specs.Sources.{SourceStep, Rests, Brings, Drops, step_of, row_after, rows_after, taken_by}
use Rattle.link_steps.specs.Effects.{Change, Commits, Plans, Closes, Effect, Adds, Changes, Removes, Takes, Ticks, changed_row, is_changed, with_effect}
use Rattle.link_steps.proofs.EntryEffects.{AddFits, ChangeFits, EffectFits, by-fit}
use Rattle.link_steps.proofs.SearchAndFilter.{find-map, map-change_first-same, total-change_first-le, total-without_first-le}
use Rattle.traffic_contract.proofs.LoadLimits.{ceil_quotient-some}

-- what a row adds to the load of the levels up to m in a window of w ticks
abbrev pub row_load : ℕ → ℕ → ℕ → Row → ℕ
row_load rate m w row = work_up_to rate m w (admitted row.terms)

-- the rows as the admission test sees them
abbrev pub as_admitted : List Row → List Admitted
as_admitted rows = map admitted (map row_terms rows)

abbrev Pass : LinkShape → List Row → Type 0
Pass shape rows = Passes (server_of shape) (as_admitted rows)

-- the load of rows is the sum of what each adds
pub total-as_admitted : (rate m w : ℕ) (rows : List Row) → total (work_up_to rate m w) (as_admitted rows) ≡ total (row_load rate m w) rows
total-as_admitted rate m w rows =
    total-map (work_up_to rate m w) admitted (map row_terms rows) ∙ total-map (λ terms. work_up_to rate m w (admitted terms)) row_terms rows

-- rows that are no heavier than rows that pass do pass
Pass-lighter : (shape : LinkShape) (rows others : List Row) → ((m w : ℕ) → total (row_load shape.rate m w) others ≤ total (row_load shape.rate m w) rows) → Pass shape rows → Pass shape others
unfolding load
Pass-lighter shape rows others lighter =
    Passes-le (server_of shape) (as_admitted rows) (as_admitted others) (λ m w.
    let e = total-as_admitted shape.rate m w rows in
    let f = total-as_admitted shape.rate m w others in
    let g = lighter m w in
    omega (arith, e, f, g))

-- rows with the same terms pass alike
Pass-same : (shape : LinkShape) (rows others : List Row) → map row_terms others ≡ map row_terms rows → Pass shape rows → Pass shape others
Pass-same shape rows others same pass = subst (λ all. Passes (server_of shape) (map admitted all)) (sym same) pass

-- ---- no rows

-- the blocking is at most the first bound, and so at most each
Pass-none : (shape : LinkShape) → Pass shape []
Pass-none shape =
    Passes-nil (server_of shape) (ceil_quotient-some shape.cap shape.rate shape.rate_least shape.cap_least) (λ m from upto.
    let least = bound_at-rising shape.bounds 1 m shape.bounds_rise (omega arith) from upto in
    let first : ceil_quotient shape.cap shape.rate ≤ bound_at shape.bounds 1 = shape.blocking_fits in
    omega (arith, least, first))

-- ---- a reserve

-- the rows with the one reserved pass
Pass-added : (shape : LinkShape) (scan : Scan) (terms : Reservation) → AddFits shape scan terms → Pass shape (scan.rows ++ new_row terms ∷ [])
Pass-added shape scan terms fits =
    let e : as_admitted (scan.rows ++ new_row terms ∷ []) ≡ with_row (as_admitted scan.rows) terms.contract (level_number terms.level) =
    ap (λ all. map admitted all) (map-append row_terms scan.rows (new_row terms ∷ [])) ∙ map-append admitted (map row_terms scan.rows) (terms ∷ []) in
    subst (Passes (server_of shape)) (sym e) ((Decides-admits (server_of shape) (as_admitted scan.rows) terms.contract (level_number terms.level)).0 fits.may.passes)

-- ---- a change leaves a row at its level or moves it to a larger one

-- the reservation of a channel is that of its row
pub find-terms : (chan : ChanNo) (rows : List Row) → find (is_of chan) (map row_terms rows) ≡ option_map row_terms (find (is_row_of chan) rows)
find-terms chan rows = find-map row_terms (is_row_of chan) (is_of chan) (λ row. refl) rows

load-changed : (shape : LinkShape) (t m w : ℕ) (change : Change) (row : Row) → ChangeFits shape t change row → row_load shape.rate m w (changed_row t change row) ≤ row_load shape.rate m w row
load-changed shape t m w (Commits level up_bound) row fits = work_up_to-le shape.rate m w (admitted row.terms) (admitted (changed_row t (Commits level up_bound) row).terms) refl fits.offer.level_least
load-changed shape t m w (Plans count gap size) row fits = omega arith
load-changed shape t m w (Closes first count) row fits = omega arith

-- ---- a tick and a packet don't touch what the test sees

-- the sources of a tick change no reservation
pub rows_after-terms : (bounds : List ℕ) (here : List Arrival) (t taken : ℕ) (rows : List Row) → map row_terms (rows_after bounds here t taken rows) ≡ map row_terms rows
unfolding rows_after
rows_after-terms bounds here t taken [] = refl
rows_after-terms bounds here t taken (row ∷ rows) =
    rw (row_after-terms (step_of bounds here t row) t (suc taken) row)
    (ap (λ all. row.terms ∷ all) (rows_after-terms bounds here t (taken + taken_by (step_of bounds here t row)) rows)) where
      row_after-terms : (step : SourceStep) (t place : ℕ) (row : Row) → (row_after step t place row).terms ≡ row.terms
      row_after-terms Rests t place row = refl
      row_after-terms (Brings size) t place row = refl
      row_after-terms Drops t place row = refl

Pass-tick : (shape : LinkShape) (t : ℕ) (scan : Scan) → Pass shape scan.rows → Pass shape (after_tick shape t scan).rows
unfolding after_tick with_best with_sources without_expired
Pass-tick shape t scan pass =
    Pass-same shape (filter _ scan.rows) _ (rows_after-terms _ _ _ _ (filter _ scan.rows))
    (Pass-lighter shape scan.rows (filter _ scan.rows) (λ m w. total-filter-le (row_load shape.rate m w) _ scan.rows) pass)

-- ---- one effect

Pass-effect : (shape : LinkShape) (t : ℕ) (scan : Scan) (effect : Effect) → EffectFits shape t scan effect → Pass shape scan.rows → Pass shape (with_effect shape t scan effect).rows
unfolding with_effect with_arrival
Pass-effect shape t scan (Adds terms) fits pass = Pass-added shape scan terms fits
Pass-effect shape t scan (Changes chan change) fits pass =
    Pass-lighter shape scan.rows _ (λ m w. total-change_first-le (row_load shape.rate m w) (is_changed chan change) (changed_row t change) scan.rows (λ row found. load-changed shape t m w change row (fits row found))) pass
Pass-effect shape t scan (Removes chan) fits pass = Pass-lighter shape scan.rows _ (λ m w. total-without_first-le (row_load shape.rate m w) (is_row_of chan) scan.rows) pass
Pass-effect shape t scan (Takes packet row) fits pass =
    Pass-same shape scan.rows _ (map-change_first-same row_terms (is_row_of packet.chan) (arrived_row t (suc (length scan.packets)) packet) (λ r. refl) scan.rows) pass
Pass-effect shape t scan Ticks fits pass = Pass-tick shape t scan pass
Pass-effect shape t scan _ fits pass = pass

-- ---- every entry

-- what holds after each entry holds after the last
pub last-pass : (shape : LinkShape) (h : List Entry) → AfterEach (HeldRowsPass shape) h → HeldRowsPass shape h
last-pass shape [] each = each
last-pass shape (e ∷ past) each = each.1

-- so in an admissible history the rows held pass after every entry
pub held_rows-pass : (shape : LinkShape) (h : List Entry) → IsAdmissible shape h → AfterEach (HeldRowsPass shape) h
unfolding IsAdmissible scan_of
held_rows-pass shape [] legal = Pass-none shape
held_rows-pass shape (e ∷ past) legal =
    let before = held_rows-pass shape past legal.0 in
    (before, by-fit (λ t scan. Pass shape scan.rows) shape past e legal.1 (λ effect new fits. Pass-effect shape (clock_of past) (scan_of shape past) effect fits (last-pass shape past before)))
