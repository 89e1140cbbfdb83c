-- What is kept of the rows above tells the same as they do, and goes on with each row that passes.
use Rattle.std.proofs.Common.{◌≡◌, ℕ, zero, suc, ◌+◌, ◌-◌, ◌^◌, ◌<◌, ◌≤◌, Bool, true, false, ◌&&◌, ◌||◌, List, [], ◌∷◌, ◌++◌, length, get_or, map, replicate, take, drop, Option, Some, None, refl, sym, ap, ◌∙◌, subst, inl, inr, arith}
use Rattle.std.proofs.lemmas.Bool.{cases_Bool, cases_eq, eq-eqb, ne_eqb, eqb-true, leb-true, leb-false, le-leb, and_parts, and_from, and_right, false≢true}
use Rattle.std.proofs.lemmas.Bool.Decides.{same_from_decides}
use Rattle.std.proofs.lemmas.List.{get_or-replicate, length-replicate, get_or-set_same, get_or-set_other, length-set, take_more, take_all, drop_more, drop_all, length-take-le, length-reverse, append-nil, append_assoc, reverse-append}
use Rattle.std.proofs.lemmas.Option.{same_Some, slice_get_within, slice_get-get_or, get_or_from_slice_get}
use Rattle.std.proofs.Math.ListN.{set}
use Rattle.std.specs.List.{slice_get}
use Rattle.std.specs.Prelude.{Result, Ok, Err, IfOk, nat_eq, nat_le, reverse}
use Rattle.net_units.specs.Numbers.{channel_number}
use Rattle.net_units.specs.declared.levels.Levels.{Levels}
use Rattle.traffic_contract.specs.Contract.{Traffic, IsContract, burst_of}
use Rattle.traffic_contract.specs.Keeping.{Keeps}
use Rattle.net_units.specs.declared.Kind.{Kind}
use Rattle.setup_protocol.specs.Requests.{kind_of}
use Rattle.call_script.specs.declared.entries.RequestEntry.{RequestEntry}
use Rattle.traffic_contract.specs.Eligible.{IsEligible, eligible, newest}
use Rattle.traffic_contract.proofs.BurstIsPositive.{burst-least}
use Rattle.traffic_contract.proofs.LeastEligibleTick.{eligible-is, newest-take}
use Rattle.regulator_core.specs.Kept.{RegulatorStandsFor, regulator_with, kept_ticks}
use Rattle.regulator_core.proofs.NewestSuffice.{eligible-stands, StandsFor-answered}
use Rattle.link_steps.specs.Lists.{Each}
use Rattle.link_steps.proofs.SearchAndFilter.{filter-none, Each-filter}
use Rattle.link_steps.proofs.ListParts.{Each-at}
use Rattle.call_script.specs.Parts.{PlanParts}
use Rattle.call_script.specs.Plans.{IsPlan, HasTerms}
use Rattle.run_record.specs.declared.rows.HopRow.{HopRow}
use Rattle.trace_audit.specs.declared.terms.Terms.{Terms}
use Rattle.trace_audit.specs.declared.hop_trail.HopTrail.{HopTrail}
use Rattle.trace_audit.specs.declared.trail.Trail.{Trail}
use Rattle.trace_audit.specs.Above.{is_at, rows_at, row_at, ticks_above, tick_of, hop_before, packet_before}
use Rattle.run_record.specs.SmallRows.{IsSmall, AreSmall}
use Rattle.trace_audit.specs.Checks.{is_there, begins, follows_row, is_in_order, fits_size, is_not_sooner, arrives_from, arrives, may_go_from, is_eligible, is_within_bound, unless_passed, fault_with, fault_under, fault_of, found, finding_below, finding_of, IsSound, AllPass}
use Rattle.trace_audit.specs.declared.finding.Finding.TheVariants.{Sound, Fault}
use Rattle.trace_audit.proofs.PassingRow.{passes-told}
use Rattle.trace_audit.specs.declared.finding.Check.{Check}
use Rattle.trace_audit.specs.declared.finding.Check.TheVariants.{Known, Order, Size, Arrive, Eligible, Bound}
use Rattle.trace_audit.specs.Kept.{fresh_hop, hop_with, size_fits, arrival_fits, tick_fits, hop_fault, number_in, number_kept, is_kept_order, near_kept, hops_for, IsReady, fault_at, kept_fault, set_hop, hops_after}
use Rattle.trace_audit.specs.Standing.{head_of, newest_arrival, IsKept, HopsStand, Stands}
use Rattle.trace_audit.specs.Terms.{terms_at, terms_of_row}
use Rattle.trace_audit.proofs.RowTerms.{hop-told, row-known, IsKnown}
use Rattle.trace_audit.proofs.HopToHop.{row-at, ticks-keep}
use Rattle.trace_audit.proofs.TableInOrder.{RowsAreNumbered, Follows, GoesOn, IsNext, IsLater, follows-told, CountsFromOne, IsBelow, number-le, found-among, at-parts, numbered, order-parts, below-order, each-counts, near-order, next-order}

-- ---- the packet before

-- a packet of these has a row exactly where it is numbered within them
there-told : (c n hop : ℕ) (rows : List HopRow) → RowsAreNumbered (rows_at c hop rows) → is_there (row_at c n hop rows) ≡ true → n ≤ length (rows_at c hop rows)
there-told c n hop rows are there = by-found (row_at c n hop rows) refl there where
  by-found : (found : Option HopRow) → row_at c n hop rows ≡ found → is_there found ≡ true → n ≤ length (rows_at c hop rows)
  by-found None found there = absurd (false≢true there)
  by-found (Some x) found there =
      let is = found-among c n hop rows x found in
      let most = number-le (rows_at c hop rows) x are is.0 in
      let e = is.1 in
      omega (arith, most, e)

pub there-found : (c n hop : ℕ) (rows : List HopRow) → RowsAreNumbered (rows_at c hop rows) → 1 ≤ n → n ≤ length (rows_at c hop rows) → is_there (row_at c n hop rows) ≡ true
there-found c n hop [] are some within = absurd (omega (arith, some, within))
there-found c n hop (row ∷ rows) are some within =
    elim (cases_Bool (is_at c hop row)) [
      | inl at ↦ elim (cases_Bool (nat_eq row.number n)) [
        | inl same ↦ rw (at, same) refl
        | inr other ↦
            (let numbers : RowsAreNumbered (row ∷ rows_at c hop rows) = rw at at are in
            let long : n ≤ suc (length (rows_at c hop rows)) = rw at at within in
            let number = numbers.0 in
            let rest = there-found c n hop rows numbers.1 some (elim (cases_eq row.number n) [ inl e ↦ absurd (let t = eq-eqb row.number n e in let clash : true ≡ false = sym t ∙ other in cc) | inr d ↦ omega (arith, number, long, d) ]) in
            rw (at, other) rest)
      ]
      | inr off ↦ (let rest = there-found c n hop rows (rw off at are) some (rw off at within) in rw off rest)
    ]

-- the newest of them is the packet with the number of how many there are
newest-row : (c hop : ℕ) (rows : List HopRow) → RowsAreNumbered (rows_at c hop rows) → row_at c (length (rows_at c hop rows)) hop rows ≡ head_of (rows_at c hop rows)
newest-row c hop [] are = refl
newest-row c hop (row ∷ rows) are =
    elim (cases_Bool (is_at c hop row)) [
      | inl at ↦
          (let numbers : RowsAreNumbered (row ∷ rows_at c hop rows) = rw at at are in
          let same = eq-eqb row.number (suc (length (rows_at c hop rows))) numbers.0 in
          rw at (rw same refl))
      | inr off ↦
          (let same : rows_at c hop (row ∷ rows) ≡ rows_at c hop rows = rw off refl in
          let rest = newest-row c hop rows (rw off at are) in
          let skip : row_at c (length (rows_at c hop rows)) hop (row ∷ rows) ≡ row_at c (length (rows_at c hop rows)) hop rows = rw off refl in
          ap (λ rs. row_at c (length rs) hop (row ∷ rows)) same ∙ skip ∙ rest ∙ ap head_of (sym same))
    ]

-- ---- order

same-or : (small a b : Bool) → (small ≡ false → a ≡ b) → (small || a) ≡ (small || b)
same-or true a b same = refl
same-or false a b same = same refl

same-and : (first a b : Bool) → (first ≡ true → a ≡ b) → (first && a) ≡ (first && b)
same-and true a b same = same refl
same-and false a b same = refl

begins-one : (row : HopRow) → begins row ≡ true → nat_le row.number 1 ≡ true
begins-one row is = (let both = and_parts (nat_eq row.hop 1) (nat_eq row.number 1) is in let n = eqb-true row.number 1 both.1 in le-leb row.number 1 (omega (arith, n)))

first-order : (row : HopRow) (rest : Bool) → begins row ≡ (begins row && (nat_le row.number 1 || rest))
first-order row rest =
    elim (cases_Bool (begins row)) [
      | inl is ↦ (let one = begins-one row is in rw (is, one) refl)
      | inr not ↦ rw not refl
    ]

-- past the first packet of a channel, what is kept is of that channel
before-same : (plan : PlanParts) (levels : List (Option Levels)) (trail : Trail) (last row : HopRow) (rest : List HopRow) (terms : Terms) → Stands plan levels trail (last ∷ rest) → terms_of_row plan levels row ≡ Some terms → follows_row last row ≡ true → nat_le row.number 1 ≡ false → nat_le (row.number - 1) (number_kept trail.hops.items row.hop) ≡ is_there (packet_before (last ∷ rest) row)
before-same plan levels trail last row rest terms stands has order many = by-how (follows-told last row order) where
  known : IsKnown plan levels row terms
  known = row-known plan levels row terms has

  more : 1 < row.number
  more = leb-false row.number 1 many

  by-chan : channel_number row.chan ≡ channel_number last.chan → nat_le (row.number - 1) (number_kept trail.hops.items row.hop) ≡ is_there (packet_before (last ∷ rest) row)
  by-chan chan =
      let kept = stands.hops last refl known.index terms (ap (λ n. terms_at plan levels n known.index) (sym chan) ∙ known.at) in
      let place = known.place in
      let index : row.hop - 1 ≡ known.index = omega (arith, place) in
      let number : number_kept trail.hops.items row.hop ≡ length (rows_at (channel_number row.chan) row.hop (last ∷ rest)) =
      ap (λ n. number_in (slice_get trail.hops.items n)) index ∙ ap number_in kept.found ∙ kept.number ∙ ap (λ n. length (rows_at n (suc known.index) (last ∷ rest))) (sym chan) ∙ ap (λ h. length (rows_at (channel_number row.chan) h (last ∷ rest))) (sym place) in
      let are = numbered plan levels (last ∷ rest) stands.pass (channel_number row.chan) row.hop in
      same_from_decides _ _
      (λ e. (let h = leb-true (row.number - 1) (number_kept trail.hops.items row.hop) e in there-found (channel_number row.chan) (row.number - 1) row.hop (last ∷ rest) are (let m = more in omega (arith, m)) (omega (arith, h, number))), λ t. (let h = there-told (channel_number row.chan) (row.number - 1) row.hop (last ∷ rest) are t in le-leb (row.number - 1) (number_kept trail.hops.items row.hop) (omega (arith, h, number))))
      (λ e. e, λ e. e)

  by-how : Follows last row → nat_le (row.number - 1) (number_kept trail.hops.items row.hop) ≡ is_there (packet_before (last ∷ rest) row)
  by-how (GoesOn chan number hop) = by-chan chan
  by-how (IsNext chan number hop) = by-chan chan
  by-how (IsLater chan number hop) = absurd (let m = more in omega (arith, number, m))

pub order-same : (plan : PlanParts) (levels : List (Option Levels)) (trail : Trail) (rows : List HopRow) (row : HopRow) (terms : Terms) → Stands plan levels trail rows → terms_of_row plan levels row ≡ Some terms → is_kept_order trail.last trail.hops.items row ≡ is_in_order rows row
unfolding is_in_order
order-same plan levels trail [] row terms stands has = ap (λ o. is_kept_order o trail.hops.items row) stands.last ∙ first-order row (is_there (packet_before [] row))
order-same plan levels trail (last ∷ rest) row terms stands has =
    ap (λ o. is_kept_order o trail.hops.items row) stands.last
    ∙ same-and (follows_row last row) (nat_le row.number 1 || nat_le (row.number - 1) (number_kept trail.hops.items row.hop)) (nat_le row.number 1 || is_there (packet_before (last ∷ rest) row))
    (λ order. same-or (nat_le row.number 1) (nat_le (row.number - 1) (number_kept trail.hops.items row.hop)) (is_there (packet_before (last ∷ rest) row)) (λ many. before-same plan levels trail last row rest terms stands has order many))

-- ---- the hop before

pub near-same : (plan : PlanParts) (levels : List (Option Levels)) (trail : Trail) (rows : List HopRow) (row : HopRow) → Stands plan levels trail rows → 1 ≤ row.hop → is_in_order rows row ≡ true → near_kept trail.last row ≡ hop_before rows row
near-same plan levels trail rows row stands some order =
    elim (cases_eq row.hop 1) [
      | inl first ↦ (let one = eq-eqb row.hop 1 first in rw (one) refl)
      | inr far ↦
          (let near = near-order plan levels rows row stands.pass order (omega (arith, some, far)) in
          let two = ne_eqb row.hop 1 far in
          let kept : near_kept trail.last row ≡ trail.last = rw two refl in
          kept ∙ stands.last ∙ ap head_of near.1.is ∙ sym near.1.found)
    ]

-- ---- the checks at the hop

-- at the first hop no sooner than the newest there
first-arrival : (hop : HopTrail) (rows : List HopRow) (row : HopRow) → hop.at ≡ newest_arrival rows → nat_le hop.at row.at ≡ is_not_sooner (head_of rows) row
first-arrival hop [] row at = le-leb hop.at row.at (omega (arith, at))
first-arrival hop (newest ∷ rows) row at = ap (λ t. nat_le t row.at) at

arrival-same : (plan : PlanParts) (levels : List (Option Levels)) (rows : List HopRow) (row : HopRow) (terms : Terms) (hop : HopTrail) (near : Option HopRow) (c i : ℕ) → AllPass plan levels rows → is_in_order rows row ≡ true → is_at c (suc i) row ≡ true → hop.at ≡ newest_arrival (rows_at c (suc i) rows) → near ≡ hop_before rows row → arrival_fits terms hop near row ≡ arrives terms rows row
unfolding arrives
arrival-same plan levels rows row terms hop None c i all order at arrival near =
    let parts = at-parts c (suc i) row at in
    let are = numbered plan levels rows all c (suc i) in
    let next = next-order plan levels rows row all order c (suc i) at are in
    let count : row.number - 1 ≡ length (rows_at c (suc i) rows) = omega (arith, next) in
    let before : packet_before rows row ≡ head_of (rows_at c (suc i) rows) =
    ap (λ n. row_at n (row.number - 1) row.hop rows) parts.0 ∙ ap (λ h. row_at c (row.number - 1) h rows) parts.1 ∙ ap (λ n. row_at c n (suc i) rows) count ∙ newest-row c (suc i) rows are in
    first-arrival hop (rows_at c (suc i) rows) row arrival ∙ ap (λ o. is_not_sooner o row) (sym before) ∙ ap (arrives_from terms rows row) near
arrival-same plan levels rows row terms hop (Some earlier) c i all order at arrival near = ap (arrives_from terms rows row) near

tick-same : (terms : Terms) (hop : HopTrail) (c i : ℕ) (rows : List HopRow) (row : HopRow) (near : Option HopRow) → IsContract terms.contract → hop.regulator.contract ≡ terms.contract → RegulatorStandsFor hop.regulator (ticks_above c (suc i) rows) → is_at c (suc i) row ≡ true → near ≡ hop_before rows row → tick_fits terms hop near row ≡ is_eligible terms rows row
unfolding is_eligible
tick-same terms hop c i rows row near valid contract stands at is =
    let parts = at-parts c (suc i) row at in
    let low : ℕ = may_go_from terms row near in
    let same : eligible terms.contract hop.regulator.recent (may_go_from terms row near) ≡ eligible terms.contract (ticks_above c (suc i) rows) (may_go_from terms row near) =
    ap (λ k. eligible k hop.regulator.recent (may_go_from terms row near)) (sym contract) ∙ eligible-stands hop.regulator (ticks_above c (suc i) rows) (may_go_from terms row near) (subst IsContract (sym contract) valid) stands ∙ ap (λ k. eligible k (ticks_above c (suc i) rows) (may_go_from terms row near)) contract in
    let there : eligible terms.contract (ticks_above c (suc i) rows) (may_go_from terms row near) ≡ eligible terms.contract (ticks_above (channel_number row.chan) row.hop rows) (may_go_from terms row (hop_before rows row)) =
    ap (λ n. eligible terms.contract (ticks_above n (suc i) rows) (may_go_from terms row near)) (sym parts.0) ∙ ap (λ h. eligible terms.contract (ticks_above (channel_number row.chan) h rows) (may_go_from terms row near)) (sym parts.1)
    ∙ ap (λ o. eligible terms.contract (ticks_above (channel_number row.chan) row.hop rows) (may_go_from terms row o)) is in
    ap (nat_eq row.eligible) (same ∙ there)

size-same : (terms : Terms) (rows : List HopRow) (row : HopRow) (near : Option HopRow) → near ≡ hop_before rows row → size_fits terms near row ≡ fits_size terms rows row
unfolding fits_size
size-same terms rows row near is = ap (λ o. size_fits terms o row) is

checks-same : (terms : Terms) (rows : List HopRow) (row : HopRow) (a b d : Bool) → is_in_order rows row ≡ true → a ≡ fits_size terms rows row → b ≡ arrives terms rows row → d ≡ is_eligible terms rows row
    → unless_passed a Size (unless_passed b Arrive (unless_passed d Eligible (unless_passed (is_within_bound terms row) Bound None))) ≡ fault_with terms rows row
unfolding fault_with
checks-same terms rows row a b d order size arrive tick = rw (order, ← size, ← arrive, ← tick) refl

-- ---- the fault

own-at : (row : HopRow) (i : ℕ) → row.hop ≡ suc i → is_at (channel_number row.chan) (suc i) row ≡ true
own-at row i place = and_from (nat_eq (channel_number row.chan) (channel_number row.chan)) (nat_eq row.hop (suc i)) (eq-eqb (channel_number row.chan) (channel_number row.chan) refl) (eq-eqb row.hop (suc i) place)

contract-valid : (plan : PlanParts) (levels : List (Option Levels)) (c i : ℕ) (terms : Terms) → IsPlan plan → terms_at plan levels c i ≡ Some terms → IsContract terms.contract
contract-valid plan levels c i terms is has =
    let told = hop-told plan levels c i terms has in
    let valid = (Each-at HasTerms plan.requests c told.channel.entry is.terms told.channel.requested).contract in
    subst IsContract (sym (ap (λ (t : Terms). t.contract) told.is)) valid

pub hop-same : (plan : PlanParts) (levels : List (Option Levels)) (trail : Trail) (rows : List HopRow) (row : HopRow) (terms : Terms) (hops : List HopTrail) (i : ℕ) → IsPlan plan → Stands plan levels trail rows → row.hop ≡ suc i → terms_at plan levels (channel_number row.chan) i ≡ Some terms → is_in_order rows row ≡ true → (kept : IsKept terms (channel_number row.chan) i hops rows)
    → hop_fault terms kept.hop (near_kept trail.last row) row ≡ fault_with terms rows row
unfolding hop_fault
hop-same plan levels trail rows row terms hops i is stands place has order kept =
    let near = near-same plan levels trail rows row stands (omega (arith, place)) order in
    let at : is_at (channel_number row.chan) (suc i) row ≡ true = own-at row i place in
    checks-same terms rows row (size_fits terms (near_kept trail.last row) row) (arrival_fits terms kept.hop (near_kept trail.last row) row) (tick_fits terms kept.hop (near_kept trail.last row) row) order
    (size-same terms rows row (near_kept trail.last row) near)
    (arrival-same plan levels rows row terms kept.hop (near_kept trail.last row) (channel_number row.chan) i stands.pass order at kept.at near)
    (tick-same terms kept.hop (channel_number row.chan) i rows row (near_kept trail.last row) (contract-valid plan levels (channel_number row.chan) i terms is has) kept.contract kept.stands at near)

-- ---- the hops of the row's channel

-- none of these rows is of a channel that begins
no-rows : (plan : PlanParts) (levels : List (Option Levels)) (rows : List HopRow) (row : HopRow) (hop : ℕ) → AllPass plan levels rows → is_in_order rows row ≡ true → begins row ≡ true → rows_at (channel_number row.chan) hop rows ≡ []
no-rows plan levels rows row hop all order first =
    filter-none (is_at (channel_number row.chan) hop) rows (each-off rows (below-order plan levels row rows all order) (each-counts plan levels rows all)) where
      off : (x : HopRow) → IsBelow row x → CountsFromOne x → is_at (channel_number row.chan) hop x ≡ false
      off x below counts =
          elim (cases_eq (channel_number x.chan) (channel_number row.chan)) [
            | inl same ↦
                (let both = and_parts (nat_eq row.hop 1) (nat_eq row.number 1) first in
                let h = eqb-true row.hop 1 both.0 in
                let n = eqb-true row.number 1 both.1 in
                let most = below.number same in
                let least = counts.number in
                let equal : x.number ≡ row.number = omega (arith, most, least, n) in
                let far = below.hop same equal in
                let some = counts.hop in
                absurd (omega (arith, far, some, h)))
            | inr other ↦ (let no = ne_eqb (channel_number x.chan) (channel_number row.chan) other in rw no refl)
          ]

      each-off : (xs : List HopRow) → Each (IsBelow row) xs → Each CountsFromOne xs → Each (λ x. is_at (channel_number row.chan) hop x ≡ false) xs
      each-off [] below counts = tt
      each-off (x ∷ xs) below counts = (off x below.0 counts.0, each-off xs below.1 counts.1)

same-channel : (plan : PlanParts) (levels : List (Option Levels)) (c i j : ℕ) (one other : Terms) → terms_at plan levels c i ≡ Some one → terms_at plan levels c j ≡ Some other → (one.contract ≡ other.contract) × (one.kind ≡ other.kind) × (i < one.hops) × (one.hops ≡ other.hops)
same-channel plan levels c i j one other has_one has_other =
    let first = hop-told plan levels c i one has_one in
    let second = hop-told plan levels c j other has_other in
    let entry : first.channel.entry ≡ second.channel.entry = same_Some first.channel.entry second.channel.entry (sym first.channel.requested ∙ second.channel.requested) in
    let within = slice_get_within first.channel.entry.request.route i first.hop first.stands in
    let hops : one.hops ≡ length first.channel.entry.request.route = ap (λ (t : Terms). t.hops) first.is in (
      ap (λ (t : Terms). t.contract) first.is ∙ ap (λ (e : RequestEntry). e.request.contract) entry ∙ sym (ap (λ (t : Terms). t.contract) second.is),
      ap (λ (t : Terms). t.kind) first.is ∙ ap (λ (e : RequestEntry). kind_of e.request.control) entry ∙ sym (ap (λ (t : Terms). t.kind) second.is),
      omega (arith, within, hops),
      hops ∙ ap (λ (e : RequestEntry). length e.request.route) entry ∙ sym (ap (λ (t : Terms). t.hops) second.is),
    )

fresh-at : (n i : ℕ) (hop : HopTrail) → i < n → slice_get (replicate n hop) i ≡ Some hop
fresh-at n i hop within =
    slice_get-get_or (replicate n hop) i hop (let l = length-replicate n hop in omega (arith, l, within)) ∙ ap (λ h. Some h) (get_or-replicate n i hop hop within)

take-none : (n : ℕ) → (let none : List ℕ = [] in take n none ≡ none)
take-none zero = refl
take-none (suc n) = refl

fresh-stands : (contract : Traffic) (kind : Kind) → RegulatorStandsFor (kept_ticks contract kind []) []
fresh-stands contract kind = record {
  keeps = record { neighbours = record { apart = λ k within. absurd (omega arith) }; bursts = record { apart = λ k within. absurd (omega arith) } };
  latest = take-none (burst_of contract);
}

pub hops-ready : (plan : PlanParts) (levels : List (Option Levels)) (trail : Trail) (rows : List HopRow) (row : HopRow) (terms : Terms) → Stands plan levels trail rows → terms_of_row plan levels row ≡ Some terms → is_in_order rows row ≡ true → HopsStand plan levels (channel_number row.chan) (hops_for terms trail.hops.items row) rows
hops-ready plan levels trail rows row terms stands has order j other has_other =
    elim (cases_Bool (begins row)) [
      | inl first ↦
          (let known = row-known plan levels row terms has in
          let same = same-channel plan levels (channel_number row.chan) j known.index other terms has_other known.at in
          let hops : hops_for terms trail.hops.items row ≡ replicate terms.hops (fresh_hop terms.contract terms.kind) = rw first refl in
          let within = same.2 in
          let count = same.3 in
          let none = no-rows plan levels rows row (suc j) stands.pass order first in
          subst (λ hs. IsKept other (channel_number row.chan) j hs rows) (sym hops) (record {
            hop = fresh_hop terms.contract terms.kind;
            found = fresh-at terms.hops j (fresh_hop terms.contract terms.kind) (omega (arith, within, count));
            number = sym (ap length none);
            at = sym (ap newest_arrival none);
            contract = sym same.0;
            kind = sym same.1;
            stands = subst (λ rs. RegulatorStandsFor (kept_ticks terms.contract terms.kind []) (map tick_of rs)) (sym none) (fresh-stands terms.contract terms.kind);
          }))
      | inr on ↦
          (let hops : hops_for terms trail.hops.items row ≡ trail.hops.items = rw on refl in
          subst (λ hs. IsKept other (channel_number row.chan) j hs rows) (sym hops) (by-rows rows stands order on))
    ] where
      by-how : (last : HopRow) (rest : List HopRow) → Stands plan levels trail (last ∷ rest) → Follows last row → begins row ≡ false → IsKept other (channel_number row.chan) j trail.hops.items (last ∷ rest)
      by-how last rest stands (GoesOn chan number hop) on = subst (λ n. IsKept other n j trail.hops.items (last ∷ rest)) (sym chan) (stands.hops last refl j other (ap (λ n. terms_at plan levels n j) (sym chan) ∙ has_other))
      by-how last rest stands (IsNext chan number hop) on = subst (λ n. IsKept other n j trail.hops.items (last ∷ rest)) (sym chan) (stands.hops last refl j other (ap (λ n. terms_at plan levels n j) (sym chan) ∙ has_other))
      by-how last rest stands (IsLater chan number hop) on = absurd (let a = eq-eqb row.hop 1 hop in let b = eq-eqb row.number 1 number in let yes : begins row ≡ true = rw (a, b) refl in let clash : true ≡ false = sym yes ∙ on in cc)

      by-rows : (rows : List HopRow) → Stands plan levels trail rows → is_in_order rows row ≡ true → begins row ≡ false → IsKept other (channel_number row.chan) j trail.hops.items rows
      by-rows [] stands order on = absurd (let yes = (order-parts [] row order).0 in let clash : true ≡ false = sym yes ∙ on in cc)
      by-rows (last ∷ rest) stands order on = by-how last rest stands (follows-told last row (order-parts (last ∷ rest) row order).0) on

-- ---- one row more

hop-more : (terms other : Terms) (c i j : ℕ) (hops : List HopTrail) (rows : List HopRow) (row : HopRow) (kept : IsKept terms c i hops rows) → IsContract terms.contract → is_at c (suc i) row ≡ true → row.number ≡ suc (length (rows_at c (suc i) rows)) → row.eligible ≡ eligible terms.contract (ticks_above c (suc i) rows) (may_go_from terms row (hop_before rows row))
    → Keeps terms.contract (reverse (ticks_above c (suc i) rows)) → IsKept other c j hops rows → (j ≡ i → other ≡ terms) → IsKept other c j (set hops i (hop_with kept.hop row)) (row ∷ rows)
hop-more terms other c i j hops rows row kept valid at number tick keeps own same =
    let inside = slice_get_within hops i kept.hop kept.found in
    let long : length (set hops i (hop_with kept.hop row)) ≡ length hops = length-set hops i (hop_with kept.hop row) in
    elim (cases_eq j i) [
      | inl is ↦ subst (λ t. IsKept t c j (set hops i (hop_with kept.hop row)) (row ∷ rows)) (sym (same is)) (subst (λ k. IsKept terms c k (set hops i (hop_with kept.hop row)) (row ∷ rows)) (sym is) (here inside long))
      | inr apart ↦
          (let hop = (at-parts c (suc i) row at).1 in
          let off : is_at c (suc j) row ≡ false = (let n = ne_eqb row.hop (suc j) (λ e. (let x : suc i ≡ suc j = sym hop ∙ e in apart (omega (arith, x)))) in and_right (nat_eq (channel_number row.chan) c) (nat_eq row.hop (suc j)) n) in
          let rows_same : rows_at c (suc j) (row ∷ rows) ≡ rows_at c (suc j) rows = rw off refl in
          let within = slice_get_within hops j own.hop own.found in
          record {
            hop = own.hop;
            found = slice_get-get_or (set hops i (hop_with kept.hop row)) j own.hop (omega (arith, long, within)) ∙ ap (λ h. Some h) (get_or-set_other hops i j (hop_with kept.hop row) own.hop apart ∙ get_or_from_slice_get hops j own.hop own.hop own.found);
            number = own.number ∙ ap length (sym rows_same);
            at = own.at ∙ ap newest_arrival (sym rows_same);
            contract = own.contract;
            kind = own.kind;
            stands = subst (λ rs. RegulatorStandsFor own.hop.regulator (map tick_of rs)) (sym rows_same) own.stands;
          })
    ] where
      here : i < length hops → length (set hops i (hop_with kept.hop row)) ≡ length hops → IsKept terms c i (set hops i (hop_with kept.hop row)) (row ∷ rows)
      here inside long =
          let rows_more : rows_at c (suc i) (row ∷ rows) ≡ row ∷ rows_at c (suc i) rows = rw at refl in
          let is = eligible-is terms.contract (ticks_above c (suc i) rows) (may_go_from terms row (hop_before rows row)) valid (burst-least terms.contract valid) keeps in
          let is_own : IsEligible kept.hop.regulator.contract (reverse (ticks_above c (suc i) rows)) (may_go_from terms row (hop_before rows row)) row.eligible = subst (λ k. IsEligible k (reverse (ticks_above c (suc i) rows)) (may_go_from terms row (hop_before rows row)) row.eligible) (sym kept.contract) (subst (IsEligible terms.contract (reverse (ticks_above c (suc i) rows)) (may_go_from terms row (hop_before rows row))) (sym tick) is) in
          record {
            hop = hop_with kept.hop row;
            found = slice_get-get_or (set hops i (hop_with kept.hop row)) i (hop_with kept.hop row) (omega (arith, long, inside)) ∙ ap (λ h. Some h) (get_or-set_same hops i (hop_with kept.hop row) (hop_with kept.hop row) inside);
            number = number ∙ ap length (sym rows_more);
            at = ap newest_arrival (sym rows_more);
            contract = kept.contract;
            kind = kept.kind;
            stands = subst (λ rs. RegulatorStandsFor (regulator_with kept.hop.regulator row.eligible) (map tick_of rs)) (sym rows_more) (StandsFor-answered kept.hop.regulator (ticks_above c (suc i) rows) (may_go_from terms row (hop_before rows row)) row.eligible kept.stands is_own);
          }

-- ---- the whole check of a row

newest-small : (rows : List HopRow) → Each IsSmall rows → newest (map tick_of rows) < 2 ^ 40
newest-small [] small = omega arith
newest-small (row ∷ rows) small = small.0.eligible

kept-small : (terms : Terms) (c i : ℕ) (hops : List HopTrail) (rows : List HopRow) → IsContract terms.contract → AreSmall rows → (kept : IsKept terms c i hops rows) → newest kept.hop.regulator.recent < 2 ^ 63
kept-small terms c i hops rows valid small kept =
    let some = burst-least kept.hop.regulator.contract (subst IsContract (sym kept.contract) valid) in
    let same : newest kept.hop.regulator.recent ≡ newest (ticks_above c (suc i) rows) = ap newest (sym kept.stands.latest) ∙ newest-take (burst_of kept.hop.regulator.contract) (ticks_above c (suc i) rows) some in
    let few = newest-small (rows_at c (suc i) rows) (Each-filter IsSmall (is_at c (suc i)) rows small) in
    omega (arith, same, few)

-- the hop of a row that stands in its order
row-kept-hop : (plan : PlanParts) (levels : List (Option Levels)) (trail : Trail) (rows : List HopRow) (row : HopRow) (terms : Terms) → Stands plan levels trail rows → (has : terms_of_row plan levels row ≡ Some terms) → is_in_order rows row ≡ true → IsKept terms (channel_number row.chan) (row.hop - 1) (hops_for terms trail.hops.items row) rows × (terms_at plan levels (channel_number row.chan) (row.hop - 1) ≡ Some terms) × (row.hop ≡ suc (row.hop - 1))
row-kept-hop plan levels trail rows row terms stands has order =
    let known = row-known plan levels row terms has in
    let place = known.place in
    let index : known.index ≡ row.hop - 1 = omega (arith, place) in
    let at : terms_at plan levels (channel_number row.chan) (row.hop - 1) ≡ Some terms = ap (terms_at plan levels (channel_number row.chan)) (sym index) ∙ known.at in
    (hops-ready plan levels trail rows row terms stands has order (row.hop - 1) terms at, at, omega (arith, place))

pub row-ready : (plan : PlanParts) (levels : List (Option Levels)) (trail : Trail) (rows : List HopRow) (row : HopRow) (terms : Terms) → IsPlan plan → Stands plan levels trail rows → terms_of_row plan levels row ≡ Some terms → is_kept_order trail.last trail.hops.items row ≡ true → IsReady terms (hops_for terms trail.hops.items row) row
row-ready plan levels trail rows row terms is stands has order =
    let own = row-kept-hop plan levels trail rows row terms stands has (sym (order-same plan levels trail rows row terms stands has) ∙ order) in
    record {
      hop = own.0.hop;
      found = own.0.found;
      contract = own.0.contract;
      kind = own.0.kind;
      last = kept-small terms (channel_number row.chan) (row.hop - 1) (hops_for terms trail.hops.items row) rows (contract-valid plan levels (channel_number row.chan) (row.hop - 1) terms is own.1) stands.small own.0;
    }

out-of-order : (terms : Terms) (rows : List HopRow) (row : HopRow) → is_in_order rows row ≡ false → Some Order ≡ fault_with terms rows row
unfolding fault_with
out-of-order terms rows row order = rw order refl

pub kept-same : (plan : PlanParts) (levels : List (Option Levels)) (trail : Trail) (rows : List HopRow) (row : HopRow) (terms : Terms) → IsPlan plan → Stands plan levels trail rows → terms_of_row plan levels row ≡ Some terms → kept_fault terms trail row ≡ fault_of plan levels rows row
unfolding fault_of
kept-same plan levels trail rows row terms is stands has =
    let fault : fault_with terms rows row ≡ fault_under (terms_of_row plan levels row) rows row = ap (λ t. fault_under t rows row) (sym has) in
    let same = order-same plan levels trail rows row terms stands has in
    let rest : Option Check = fault_at terms (slice_get (hops_for terms trail.hops.items row) (row.hop - 1)) (near_kept trail.last row) row in
    elim (cases_Bool (is_in_order rows row)) [
      | inr not ↦ ap (λ b. unless_passed b Order (fault_at terms (slice_get (hops_for terms trail.hops.items row) (row.hop - 1)) (near_kept trail.last row) row)) (same ∙ not) ∙ out-of-order terms rows row not ∙ fault
      | inl order ↦
          (let own = row-kept-hop plan levels trail rows row terms stands has order in
          ap (λ b. unless_passed b Order (fault_at terms (slice_get (hops_for terms trail.hops.items row) (row.hop - 1)) (near_kept trail.last row) row)) (same ∙ order)
          ∙ ap (λ h. fault_at terms h (near_kept trail.last row) row) own.0.found
          ∙ hop-same plan levels trail rows row terms (hops_for terms trail.hops.items row) (row.hop - 1) is stands own.2 own.1 order own.0
          ∙ fault)
    ]

pub none-known : (plan : PlanParts) (levels : List (Option Levels)) (rows : List HopRow) (row : HopRow) → terms_of_row plan levels row ≡ None → Some Known ≡ fault_of plan levels rows row
unfolding fault_of
none-known plan levels rows row none = ap (λ t. fault_under t rows row) (sym none)

-- with a row that passes
pub stands-more : (plan : PlanParts) (levels : List (Option Levels)) (trail new : Trail) (rows : List HopRow) (row : HopRow) (terms : Terms) → IsPlan plan → Stands plan levels trail rows → IsSmall row → terms_of_row plan levels row ≡ Some terms → fault_of plan levels rows row ≡ None → new.last ≡ Some row → new.hops.items ≡ hops_after terms trail.hops.items row → Stands plan levels new (row ∷ rows)
unfolding AllPass
stands-more plan levels trail new rows row terms is stands small has none last hops = record {
  pass = (stands.pass, none);
  small = (small, stands.small);
  last = last;
  hops = λ r found. subst (λ x. HopsStand plan levels (channel_number x.chan) new.hops.items (row ∷ rows)) (same_Some row r found) own;
} where
  own : HopsStand plan levels (channel_number row.chan) new.hops.items (row ∷ rows)
  own j other has_other =
      let order = (passes-told plan levels rows row none).order in
      let here = row-kept-hop plan levels trail rows row terms stands has order in
      let valid = contract-valid plan levels (channel_number row.chan) (row.hop - 1) terms is here.1 in
      let at = own-at row (row.hop - 1) here.2 in
      let hops_are : new.hops.items ≡ set (hops_for terms trail.hops.items row) (row.hop - 1) (hop_with here.0.hop row) = hops ∙ ap (λ h. set_hop (hops_for terms trail.hops.items row) (row.hop - 1) h row) here.0.found in
      let next = next-order plan levels rows row stands.pass order (channel_number row.chan) (suc (row.hop - 1)) at (numbered plan levels rows stands.pass (channel_number row.chan) (suc (row.hop - 1))) in
      let tick = (row-at plan levels (channel_number row.chan) (row.hop - 1) terms rows row (stands.pass, none) here.1 at).eligible in
      subst (λ hs. IsKept other (channel_number row.chan) j hs (row ∷ rows)) (sym hops_are)
      (hop-more terms other (channel_number row.chan) (row.hop - 1) j (hops_for terms trail.hops.items row) rows row here.0 valid at next tick (ticks-keep plan levels (channel_number row.chan) (row.hop - 1) terms rows stands.pass here.1 valid)
      (hops-ready plan levels trail rows row terms stands has order j other has_other)
      (λ e. same_Some other terms (sym has_other ∙ ap (terms_at plan levels (channel_number row.chan)) e ∙ here.1)))

-- of no row
pub stands-none : (plan : PlanParts) (levels : List (Option Levels)) (trail : Trail) → trail.last ≡ None → Stands plan levels trail []
unfolding AllPass
stands-none plan levels trail last = record {
  pass = tt;
  small = tt;
  last = last;
  hops = λ r found. absurd (let clash : None ≡ Some r = found in cc);
}

-- ---- the table

pub sound-told : (plan : PlanParts) (levels : List (Option Levels)) (above table : List HopRow) (n : ℕ) → AllPass plan levels above → finding_below plan levels above table ≡ Sound n → AllPass plan levels (reverse table ++ above)
unfolding finding_below AllPass
sound-told plan levels above [] n all is = all
sound-told plan levels above (row ∷ table) n all is =
    by-fault (fault_of plan levels above row) refl is (λ now rest. sound-told plan levels (row ∷ above) table n (all, now) rest) where
      by-fault : (fault : Option Check) → fault_of plan levels above row ≡ fault → found fault (length above) (finding_below plan levels (row ∷ above) table) ≡ Sound n
          → (fault_of plan levels above row ≡ None → finding_below plan levels (row ∷ above) table ≡ Sound n → AllPass plan levels (reverse table ++ (row ∷ above))) → AllPass plan levels (reverse (row ∷ table) ++ above)
      by-fault (Some word) told is rest = absurd (let clash : Fault (suc (length above)) word ≡ Sound n = is in cc)
      by-fault None told is rest =
          subst (AllPass plan levels) (sym (append_assoc (reverse table) (row ∷ []) above) ∙ ap (λ rs. rs ++ above) (sym (reverse-append (row ∷ []) table))) (rest told is)

pub table-sound : (plan : PlanParts) (levels : List (Option Levels)) (table : List HopRow) (n : ℕ) → finding_of plan levels table ≡ Sound n → IsSound plan levels table
unfolding AllPass
table-sound plan levels table n is = subst (AllPass plan levels) (append-nil (reverse table)) (sound-told plan levels [] table n tt is)

-- one row of the table after another
pub record AtRow (table : List HopRow) (i : ℕ) (row : HopRow) : Type 0 where
  pub front : reverse (take (i + 1) table) ≡ row ∷ reverse (take i table)
  pub back : drop i table ≡ row ∷ drop (i + 1) table
  pub count : length (reverse (take i table)) ≡ i

pub at-row : (table : List HopRow) (i : ℕ) (row : HopRow) → i < length table → row ≡ get_or table i row → AtRow table i row
at-row table i row within is = record {
  front = ap reverse (take_more table i row within ∙ ap (λ r. take i table ++ r ∷ []) (sym is)) ∙ reverse-append (take i table) (row ∷ []);
  back = drop_more table i row within ∙ ap (λ r. r ∷ drop (i + 1) table) (sym is);
  count = length-reverse (take i table) ∙ length-take-le i table (omega (arith, within));
}

pub finding-step : (plan : PlanParts) (levels : List (Option Levels)) (above rest : List HopRow) (row : HopRow) → fault_of plan levels above row ≡ None → finding_below plan levels above (row ∷ rest) ≡ finding_below plan levels (row ∷ above) rest
unfolding finding_below
finding-step plan levels above rest row none = rw none refl

pub finding-fault : (plan : PlanParts) (levels : List (Option Levels)) (above rest : List HopRow) (row : HopRow) (word : Check) → fault_of plan levels above row ≡ Some word → finding_below plan levels above (row ∷ rest) ≡ Fault (suc (length above)) word
unfolding finding_below
finding-fault plan levels above rest row word fault = rw fault refl

pub finding-end : (plan : PlanParts) (levels : List (Option Levels)) (table : List HopRow) (i : ℕ) → length table ≤ i → finding_below plan levels (reverse (take i table)) (drop i table) ≡ Sound (length table)
unfolding finding_below
finding-end plan levels table i past =
    ap (λ rest. finding_below plan levels (reverse (take i table)) rest) (drop_all i table past) ∙ ap (λ n. Sound n) (length-reverse (take i table) ∙ ap length (take_all i table past))

-- ---- results

pub if-three : {X E : Type 0} (r : Result X E) (P Q R S : X → Type 0) → ((x : X) → P x → Q x → R x → S x) → IfOk r P → IfOk r Q → IfOk r R → IfOk r S
if-three (Ok x) P Q R S all p q r = all x p q r
if-three (Err e) P Q R S all p q r = tt
