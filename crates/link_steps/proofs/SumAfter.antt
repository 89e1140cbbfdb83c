-- A sum over the reservations of the held rows that neither a relax nor a release raises is raised by a new row alone.
use Rattle.std.proofs.Common.{◌≡◌, ℕ, suc, ◌+◌, ◌≤◌, List, [], ◌∷◌, ◌++◌, length, map, Option, Some, None, refl, ap, arith}
use Rattle.std.specs.Prelude.{filter}
use Rattle.net_units.specs.declared.numbers.Level.{Level}
use Rattle.traffic_contract.specs.Admission.{total}
use Rattle.traffic_contract.specs.Contract.{IsContract}
use Rattle.traffic_contract.proofs.AdmissionTest.{total-map, total-append, total-filter-le}
use Rattle.net_units.specs.Numbers.{level_number}
use Rattle.link_steps.specs.declared.replies.Phase.TheVariants.{Committed}
use Rattle.link_steps.specs.declared.shape.LinkShape.{LinkShape}
use Rattle.link_steps.specs.Hold.{stays}
use Rattle.link_steps.specs.Lists.{Each}
use Rattle.link_steps.specs.Reservation.{Reservation, committed, closing}
use Rattle.link_steps.specs.Rows.{Row, row_terms, new_row}
use Rattle.link_steps.specs.Scan.{Scan, is_row_of, arrived_row, with_arrival, without_expired, with_sources, with_best, after_tick}
use Rattle.link_steps.specs.Service.{here_at}
use Rattle.link_steps.specs.Effects.{Change, Commits, Plans, Closes, Effect, Adds, Changes, Removes, Takes, Ticks, changed_row, is_changed, with_effect}
use Rattle.link_steps.proofs.EntryEffects.{ChangeFits, EffectFits, new_in}
use Rattle.link_steps.proofs.AdmissionHolds.{rows_after-terms}
use Rattle.link_steps.proofs.RowsInOrder.{IsInOrder}
use Rattle.link_steps.proofs.SearchAndFilter.{Each-find, map-change_first-same, total-change_first-le, total-without_first-le}
use Rattle.link_steps.proofs.ReservationFound.{FitsOffer}

-- neither a relax that fits nor a release raises f
pub record OnlyNewRaise (shape : LinkShape) (f : Reservation → ℕ) : Type 0 where
  pub relaxed : (level : Level) (up_bound : ℕ) (terms : Reservation) → FitsOffer terms level up_bound → IsContract terms.contract → level_number terms.reach ≤ length shape.bounds → f (committed level up_bound terms) ≤ f terms
  pub closed : (count : ℕ) (terms : Reservation) → terms.phase ≡ Committed → f (closing count terms) ≤ f terms

-- what a new reservation adds to the sum
abbrev pub added_by : (Reservation → ℕ) → Option Reservation → ℕ
added_by f None = 0
added_by f (Some terms) = f terms

-- rows with the same reservations have the same sum
same-sum : (f : Reservation → ℕ) (rows others : List Row) → map row_terms others ≡ map row_terms rows → total f (map row_terms others) ≤ total f (map row_terms rows)
same-sum f rows others same = (let e = ap (total f) same in omega (arith, e))

-- rows whose sum, row by row, is no larger
less-sum : (f : Reservation → ℕ) (rows others : List Row) → total (λ row. f row.terms) others ≤ total (λ row. f row.terms) rows → total f (map row_terms others) ≤ total f (map row_terms rows)
less-sum f rows others less = (let e = total-map f row_terms rows in let g = total-map f row_terms others in omega (arith, less, e, g))

sum-tick : (f : Reservation → ℕ) (shape : LinkShape) (t : ℕ) (scan : Scan) → total f (map row_terms (after_tick shape t scan).rows) ≤ total f (map row_terms scan.rows)
unfolding after_tick with_best with_sources without_expired
sum-tick f shape t scan =
    let e = ap (total f) (rows_after-terms shape.bounds (here_at shape.rate scan.packets t) t (length scan.packets) (filter (stays shape.bounds t) scan.rows)) in
    let less = less-sum f scan.rows (filter (stays shape.bounds t) scan.rows) (total-filter-le (λ row. f row.terms) (stays shape.bounds t) scan.rows) in
    omega (arith, e, less)

less-changed : (f : Reservation → ℕ) (shape : LinkShape) (t : ℕ) (change : Change) (row : Row) → OnlyNewRaise shape f → ChangeFits shape t change row → IsInOrder shape t row → f (changed_row t change row).terms ≤ f row.terms
less-changed f shape t (Commits level up_bound) row raise fits order = raise.relaxed level up_bound row.terms fits.offer order.contract order.reach_most
less-changed f shape t (Plans count gap size) row raise fits order = omega arith
less-changed f shape t (Closes first count) row raise fits order = raise.closed count row.terms fits.phase

-- with an effect that fits
pub sum-effect : (f : Reservation → ℕ) (shape : LinkShape) (t : ℕ) (scan : Scan) (effect : Effect) → OnlyNewRaise shape f → EffectFits shape t scan effect → Each (IsInOrder shape t) scan.rows → total f (map row_terms (with_effect shape t scan effect).rows) ≤ total f (map row_terms scan.rows) + added_by f (new_in effect)
unfolding with_effect with_arrival
sum-effect f shape t scan (Adds terms) raise fits order =
    let e = total-map f row_terms (scan.rows ++ new_row terms ∷ []) in
    let g = total-append (λ r. f r.terms) scan.rows (new_row terms ∷ []) in
    let h = total-map f row_terms scan.rows in
    omega (arith, e, g, h)
sum-effect f shape t scan (Changes chan change) raise fits order =
    let less = less-sum f scan.rows _ (total-change_first-le (λ row. f row.terms) (is_changed chan change) (changed_row t change) scan.rows (λ row found.
    less-changed f shape t change row raise (fits row found) (Each-find (IsInOrder shape t) (is_changed chan change) scan.rows row order found))) in
    omega (arith, less)
sum-effect f shape t scan (Removes chan) raise fits order = (let less = less-sum f scan.rows _ (total-without_first-le (λ row. f row.terms) (is_row_of chan) scan.rows) in omega (arith, less))
sum-effect f shape t scan (Takes packet row) raise fits order =
    (let less = same-sum f scan.rows _ (map-change_first-same row_terms (is_row_of packet.chan) (arrived_row t (suc (length scan.packets)) packet) (λ r. refl) scan.rows) in omega (arith, less))
sum-effect f shape t scan Ticks raise fits order = (let less = sum-tick f shape t scan in omega (arith, less))
sum-effect f shape t scan _ raise fits order = omega arith
