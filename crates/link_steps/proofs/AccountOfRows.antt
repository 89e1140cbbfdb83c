-- What is kept of a row is all that the rules need of it.
use Rattle.std.proofs.Common.{◌≡◌, ℕ, zero, suc, ◌+◌, ◌-◌, ◌<◌, ◌≤◌, Bool, true, false, ◌&&◌, List, [], ◌∷◌, ◌++◌, length, map, refl, ap, ◌∙◌, ⊎_elim, arith, length-append}
use Rattle.std.proofs.Math.Bool.{and-false}
use Rattle.std.proofs.lemmas.Bool.{le-leb, lt-leb, eqb-true, cases_lt, le-ltb}
use Rattle.std.proofs.lemmas.List.Elements.{filter-append}
use Rattle.std.specs.Prelude.{filter}
use Rattle.net_units.specs.declared.Kind.{Kind}
use Rattle.net_units.specs.declared.Kind.TheVariants.{Rate, Jitter}
use Rattle.traffic_contract.specs.Contract.{Traffic, IsContract, burst_of}
use Rattle.traffic_contract.specs.Eligible.{eligible, newest, newest_burst}
use Rattle.traffic_contract.specs.Keeping.{may_follow}
use Rattle.traffic_contract.proofs.BurstIsPositive.{burst-least}
use Rattle.traffic_contract.proofs.LeastEligibleTick.{eligible-take, first_from-reached, newest-take, take-cons-take}
use Rattle.link_steps.specs.Buffer.{has_slot}
use Rattle.link_steps.specs.Hold.{stays}
use Rattle.link_steps.specs.Account.{account_row, account_stays, account_step, account_tick, account_packet, account_with, past_tick, account_after_step, account_packets, account_rows_after, account_dropped}
use Rattle.link_steps.specs.Lists.{Each}
use Rattle.link_steps.specs.Reservation.{Reservation}
use Rattle.link_steps.specs.Service.{Arrival}
use Rattle.link_steps.specs.Regulator.{waits_until, eligible_next}
use Rattle.link_steps.specs.Rows.{Row, SourcePacket, planned_from, is_for, is_from, is_before, left_at, made_by}
use Rattle.link_steps.specs.Sources.{SourceStep, Rests, Brings, Drops, with_packet, source_step, step_of, source_tick, packet_of, row_after, taken_by, source_packets, rows_after, dropped_in}
use Rattle.link_steps.proofs.SearchAndFilter.{Each-from, Each-if, Each-append, filter-same, filter-none, filter-map, filter-filter, find-filter, filter-all}
use Rattle.link_steps.proofs.ServiceStarts.{IsFrom}
use Rattle.link_steps.proofs.AccountOfService.{IsAbove, IsUpTo}

-- a row has a contract
abbrev pub RowHasContract : Row → Type 0
RowHasContract row = IsContract row.terms.contract

-- ---- eligible ticks

-- the newest tick is kept
newest-recent : (contract : Traffic) (ticks : List ℕ) → IsContract contract → newest (newest_burst contract ticks) ≡ newest ticks
newest-recent contract ticks is = newest-take (burst_of contract) ticks (burst-least contract is)

-- the next eligible tick needs no more than the kept ones
pub eligible-recent : (terms : Reservation) (ticks : List ℕ) (t due : ℕ) → IsContract terms.contract → eligible_next terms (newest_burst terms.contract ticks) t due ≡ eligible_next terms ticks t due
unfolding eligible_next
eligible-recent terms ticks t due is = eligible-take terms.contract ticks (waits_until terms.kind terms.first t due) (burst-least terms.contract is)

-- one more tick in front
recent-more : (contract : Traffic) (e : ℕ) (ticks : List ℕ) → newest_burst contract (e ∷ newest_burst contract ticks) ≡ newest_burst contract (e ∷ ticks)
recent-more contract e ticks = take-cons-take (burst_of contract) e ticks

-- no packet is eligible before it arrives
pub eligible-from : (terms : Reservation) (ticks : List ℕ) (t due : ℕ) → t ≤ eligible_next terms ticks t due
unfolding eligible_next eligible
eligible-from terms ticks t due =
    let low = waits-from terms.kind terms.first t due in
    let reached = first_from-reached (may_follow terms.contract ticks) (waits_until terms.kind terms.first t due) (newest ticks + terms.contract.interval - waits_until terms.kind terms.first t due) in
    omega (arith, low, reached) where
      waits-from : (kind : Kind) (first : Bool) (t due : ℕ) → t ≤ waits_until kind first t due
      waits-from kind true t due = omega arith
      waits-from Jitter false t due = omega arith
      waits-from Rate false t due = omega arith

-- ---- planned packets

-- what is left later is left of what is left
pub left-left : (t u : ℕ) (plan : List SourcePacket) → t ≤ u → left_at u (left_at t plan) ≡ left_at u plan
left-left t u plan later =
    filter-filter (is_from u) (is_from t) plan ∙ filter-same (λ p. is_from t p && is_from u p) (is_from u) plan (Each-from _ plan both) where
      both : (p : SourcePacket) → (is_from t p && is_from u p) ≡ is_from u p
      both p =
          ⊎_elim (λ (early : p.tick < u). (rw (lt-leb u p.tick early) (and-false (is_from t p))))
          (λ (late : u ≤ p.tick). (rw (le-leb t p.tick (omega arith)) refl))
          (cases_lt p.tick u)

planned-later : (t u gap size count : ℕ) → t ≤ u → Each (λ p. is_from t p ≡ true) (planned_from u gap size count)
unfolding planned_from
planned-later t u gap size zero later = tt
planned-later t u gap size (suc count) later = (le-leb t u later, planned-later t (u + gap) gap size count (omega arith))

-- packets from a tick u on are all left at each clock up to u
pub left_at-planned : (t u gap size count : ℕ) → t ≤ u → left_at t (planned_from u gap size count) ≡ planned_from u gap size count
left_at-planned t u gap size count later = filter-all (is_from t) (planned_from u gap size count) (planned-later t u gap size count later)

-- so a plan that goes on from t is left whole there
pub left-planned : (t count gap size : ℕ) (plan : List SourcePacket) → left_at t (plan ++ planned_from t gap size count) ≡ left_at t plan ++ planned_from t gap size count
left-planned t count gap size plan =
    filter-append (is_from t) plan (planned_from t gap size count)
    ∙ ap (λ all. left_at t plan ++ all) (left_at-planned t t gap size count (omega arith))

-- a cancelled plan is not left
pub left-cancelled : (t : ℕ) (plan : List SourcePacket) → left_at t (made_by t plan) ≡ []
left-cancelled t plan =
    filter-filter (is_from t) (is_before t) plan ∙ filter-none _ plan (Each-from _ plan neither) where
      neither : (p : SourcePacket) → (is_before t p && is_from t p) ≡ false
      neither p =
          ⊎_elim (λ (early : p.tick < t). (rw (lt-leb t p.tick early) (and-false (is_before t p))))
          (λ (late : t ≤ p.tick). (rw (le-ltb p.tick t late) refl))
          (cases_lt p.tick t)

-- ---- one row in tick t

stays-kept : (bounds : List ℕ) (t : ℕ) (row : Row) → RowHasContract row → account_stays bounds t (account_row t row) ≡ stays bounds t row
stays-kept bounds t row is = rw (newest-recent row.terms.contract row.ticks is) refl

-- the rows that stay held are the same ones
pub held-kept : (bounds : List ℕ) (t : ℕ) (rows : List Row) → Each RowHasContract rows → filter (account_stays bounds t) (map (account_row t) rows) ≡ map (account_row t) (filter (stays bounds t) rows)
held-kept bounds t rows each =
    filter-map (account_row t) (stays bounds t) (account_stays bounds t) rows (Each-if RowHasContract _ rows (stays-kept bounds t) each)

step-kept : (bounds : List ℕ) (here : List Arrival) (t : ℕ) (row : Row) → account_step bounds here t (account_row t row) ≡ step_of bounds here t row
unfolding account_step step_of
step-kept bounds here t row =
    ap (source_step (has_slot bounds row.terms row.lead here))
    (find-filter (is_for t) (is_from t) (λ p same. le-leb t p.tick (let e = eqb-true p.tick t same in omega (arith, e))) row.plan)

tick-kept : (t : ℕ) (row : Row) → RowHasContract row → account_tick (account_row t row) t ≡ source_tick row t
tick-kept t row is = eligible-recent row.terms row.ticks t 0 is

packet-kept : (step : SourceStep) (t place : ℕ) (row : Row) → RowHasContract row → account_packet step t place (account_row t row) ≡ packet_of step t place row
packet-kept (Brings size) t place row is = rw (tick-kept t row is) refl
packet-kept Rests t place row is = refl
packet-kept Drops t place row is = refl

-- the row with one more packet, as it is kept at t or at the tick after it
pub kept-packet : (t place e : ℕ) (row : Row) → account_with place e (account_row t row) ≡ account_row t (with_packet place e row)
kept-packet t place e row = rw (recent-more row.terms.contract e row.ticks) refl

past-kept : (t : ℕ) (row : Row) → past_tick t (account_row t row) ≡ account_row (suc t) row
past-kept t row = rw (left-left t (suc t) row.plan (omega arith)) refl

after-kept : (step : SourceStep) (t place : ℕ) (row : Row) → RowHasContract row → account_after_step step t place (account_row t row) ≡ account_row (suc t) (row_after step t place row)
after-kept (Brings size) t place row is =
    rw (tick-kept t row is) (ap (λ k. account_with place (source_tick row t) k) (past-kept t row) ∙ kept-packet (suc t) place (source_tick row t) row)
after-kept Rests t place row is = past-kept t row
after-kept Drops t place row is = past-kept t row

-- ---- all rows in tick t

module _ (bounds : List ℕ) (here : List Arrival) (t : ℕ) where
  -- the account tells the packets that all sources bring, the rows afterwards, and the packets dropped
  pub packets-kept : (taken : ℕ) (rows : List Row) → Each RowHasContract rows → account_packets bounds here t taken (map (account_row t) rows) ≡ source_packets bounds here t taken rows
  unfolding account_packets source_packets
  packets-kept taken [] each = refl
  packets-kept taken (row ∷ rows) each =
      rw (step-kept bounds here t row, packet-kept (step_of bounds here t row) t (suc taken) row each.0)
      (ap (λ all. packet_of (step_of bounds here t row) t (suc taken) row ++ all) (packets-kept (taken + taken_by (step_of bounds here t row)) rows each.1))

  pub rows-kept : (taken : ℕ) (rows : List Row) → Each RowHasContract rows → account_rows_after bounds here t taken (map (account_row t) rows) ≡ map (account_row (suc t)) (rows_after bounds here t taken rows)
  unfolding account_rows_after rows_after
  rows-kept taken [] each = refl
  rows-kept taken (row ∷ rows) each =
      rw (step-kept bounds here t row, after-kept (step_of bounds here t row) t (suc taken) row each.0)
      (ap (λ all. account_row (suc t) (row_after (step_of bounds here t row) t (suc taken) row) ∷ all) (rows-kept (taken + taken_by (step_of bounds here t row)) rows each.1))

  pub lost-kept : (rows : List Row) → account_dropped bounds here t (map (account_row t) rows) ≡ dropped_in bounds here t rows
  unfolding account_dropped dropped_in
  lost-kept [] = refl
  lost-kept (row ∷ rows) = rw (step-kept bounds here t row, lost-kept rows) refl

  -- ---- the packets that sources bring

  -- they have arrival numbers above `taken`
  pub source_packets-above : (taken : ℕ) (rows : List Row) → Each (IsAbove taken) (source_packets bounds here t taken rows)
  unfolding source_packets
  source_packets-above taken [] = tt
  source_packets-above taken (row ∷ rows) =
      Each-append (IsAbove taken) (packet_of (step_of bounds here t row) t (suc taken) row) _ (packet-above (step_of bounds here t row))
      (Each-if (IsAbove (taken + taken_by (step_of bounds here t row))) (IsAbove taken) _ (λ p above. omega arith) (source_packets-above (taken + taken_by (step_of bounds here t row)) rows)) where
        packet-above : (step : SourceStep) → Each (IsAbove taken) (packet_of step t (suc taken) row)
        packet-above (Brings size) = (omega arith, tt)
        packet-above Rests = tt
        packet-above Drops = tt

  -- up to `taken` and their number
  pub source_packets-upto : (taken : ℕ) (rows : List Row) → Each (IsUpTo (taken + length (source_packets bounds here t taken rows))) (source_packets bounds here t taken rows)
  unfolding source_packets
  source_packets-upto taken [] = tt
  source_packets-upto taken (row ∷ rows) =
      let step : SourceStep = step_of bounds here t row in
      let rest : List Arrival = source_packets bounds here t (taken + taken_by (step_of bounds here t row)) rows in
      let n = length-append (packet_of (step_of bounds here t row) t (suc taken) row) (source_packets bounds here t (taken + taken_by (step_of bounds here t row)) rows) in
      let m = taken-length (step_of bounds here t row) in
      Each-append (IsUpTo (taken + length (packet_of (step_of bounds here t row) t (suc taken) row ++ source_packets bounds here t (taken + taken_by (step_of bounds here t row)) rows))) (packet_of (step_of bounds here t row) t (suc taken) row) _
      (Each-if (IsUpTo (taken + taken_by (step_of bounds here t row))) (IsUpTo (taken + length (packet_of (step_of bounds here t row) t (suc taken) row ++ source_packets bounds here t (taken + taken_by (step_of bounds here t row)) rows))) _ (λ p upto. omega (arith, n, m)) (packet-upto (step_of bounds here t row)))
      (Each-if (IsUpTo (taken + taken_by (step_of bounds here t row) + length (source_packets bounds here t (taken + taken_by (step_of bounds here t row)) rows))) (IsUpTo (taken + length (packet_of (step_of bounds here t row) t (suc taken) row ++ source_packets bounds here t (taken + taken_by (step_of bounds here t row)) rows))) _ (λ p upto. omega (arith, n, m)) (source_packets-upto (taken + taken_by (step_of bounds here t row)) rows)) where
        taken-length : (step : SourceStep) → length (packet_of step t (suc taken) row) ≡ taken_by step
        taken-length (Brings size) = refl
        taken-length Rests = refl
        taken-length Drops = refl

        packet-upto : (step : SourceStep) → Each (IsUpTo (taken + taken_by step)) (packet_of step t (suc taken) row)
        packet-upto (Brings size) = (omega arith, tt)
        packet-upto Rests = tt
        packet-upto Drops = tt

  -- and are eligible from t on
  pub source_packets-from : (taken : ℕ) (rows : List Row) → Each (IsFrom t) (source_packets bounds here t taken rows)
  unfolding source_packets
  source_packets-from taken [] = tt
  source_packets-from taken (row ∷ rows) =
      Each-append (IsFrom t) (packet_of (step_of bounds here t row) t (suc taken) row) _ (packet-from (step_of bounds here t row)) (source_packets-from (taken + taken_by (step_of bounds here t row)) rows) where
        packet-from : (step : SourceStep) → Each (IsFrom t) (packet_of step t (suc taken) row)
        packet-from (Brings size) = (eligible-from row.terms row.ticks t 0, tt)
        packet-from Rests = tt
        packet-from Drops = tt
