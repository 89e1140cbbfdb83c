-- The departures of a run of a plan are as a sound table has them, and so its table is sound.
use Rattle.std.proofs.Common.{◌≡◌, ℕ, suc, ◌+◌, ◌<◌, ◌≤◌, List, [], ◌∷◌, ◌++◌, length, map, Option, Some, refl, sym, ap, ◌∙◌, subst, inl, inr, arith}
use Rattle.run_engine.proofs.Words.{cases_Bool, eqb-true, eq-eqb, append-nil, append_assoc, same_Some, slice_get, nat_eq, filter, reverse, link_number, channel_number, Hop, Entry, Each, Among, Arrival, HopTerms, AllOfferTerms, offers_to, tick_of_packet, AreNumberedAfter, PlanParts, IsPlan, network_of, part_of, Done, IsRun}
use Rattle.std.proofs.lemmas.Bool.Decides.{same_from_decides}
use Rattle.net_units.specs.declared.levels.Levels.{Levels}
use Rattle.hop_reservation.proofs.DistinctLinks.{index-apart}
use Rattle.link_steps.proofs.SearchAndFilter.{Among-filter, Each-among, Each-if, filter-same}
use Rattle.link_steps.proofs.FoundElements.{Each-from_among}
use Rattle.call_script.specs.declared.entries.RequestEntry.{RequestEntry}
use Rattle.call_script.proofs.PlansFit.{plan-fits}
use Rattle.call_script.proofs.OneOwner.{all-owned}
use Rattle.run_record.specs.declared.rows.HopRow.{HopRow}
use Rattle.run_engine.specs.channels.Hops.{terms_at as asked_at}
use Rattle.trace_audit.specs.Above.{is_at, rows_at, tick_of}
use Rattle.audit_laws.specs.RunLevels.{AreLevelsOf}
use Rattle.trace_audit.proofs.TableInOrder.{at-parts}
use Rattle.run_engine.specs.channels.Departures.{AreCounted, is_over}
use Rattle.run_engine.proofs.Channels.Leaving.{run-leaves}
use Rattle.audit_laws.proofs.RunSound.{RowIs, row-is, departures_of}
use Rattle.trace_audit.proofs.SortedRows.{counted-above}
use Rattle.trace_audit.proofs.Turns.{IsInTurn, AreInTurn}

-- ---- rows of one channel

-- rows of one channel have one request
pub same-entry : (plan : PlanParts) (run : List Done) (levels : List (Option Levels)) (x r : HopRow) → (one : RowIs plan run levels x) → (other : RowIs plan run levels r) → channel_number r.chan ≡ channel_number x.chan → other.own.entry ≡ one.own.entry
same-entry plan run levels x r one other same =
    let c : channel_number other.start.packet.chan ≡ channel_number one.start.packet.chan = sym (ap channel_number other.chan) ∙ same ∙ ap channel_number one.chan in
    same_Some other.own.entry one.own.entry (sym other.own.requested ∙ ap (slice_get plan.requests) c ∙ one.own.requested)

-- one hop has one link, and one link one hop
pub hop-link : (plan : PlanParts) (run : List Done) (levels : List (Option Levels)) (x r : HopRow) → (one : RowIs plan run levels x) → (other : RowIs plan run levels r) → channel_number r.chan ≡ channel_number x.chan → r.hop ≡ x.hop → link_number r.link ≡ link_number x.link
hop-link plan run levels x r one other same hop =
    let e = same-entry plan run levels x r one other same in
    let a = one.hop in
    let b = other.hop in
    let index : other.own.index ≡ one.own.index = omega (arith, a, b, hop) in
    let stands : slice_get one.own.entry.request.route one.own.index ≡ Some other.own.at.hop = ap (slice_get one.own.entry.request.route) (sym index) ∙ ap (λ (en : RequestEntry). slice_get en.request.route other.own.index) (sym e) ∙ other.own.at.stands in
    let same_hop : other.own.at.hop ≡ one.own.at.hop = same_Some other.own.at.hop one.own.at.hop (sym stands ∙ one.own.at.stands) in
    sym other.own.on ∙ ap (λ (h : Hop). link_number h.link) same_hop ∙ one.own.on

link-hop : (plan : PlanParts) (run : List Done) (levels : List (Option Levels)) (x r : HopRow) → (one : RowIs plan run levels x) → (other : RowIs plan run levels r) → channel_number r.chan ≡ channel_number x.chan → link_number r.link ≡ link_number x.link → r.hop ≡ x.hop
link-hop plan run levels x r one other same link =
    let e = same-entry plan run levels x r one other same in
    let stands : slice_get one.own.entry.request.route other.own.index ≡ Some other.own.at.hop = ap (λ (en : RequestEntry). slice_get en.request.route other.own.index) (sym e) ∙ other.own.at.stands in
    let index = index-apart one.own.entry.request.route other.own.index one.own.index other.own.at.hop one.own.at.hop one.own.sound.route stands one.own.at.stands (other.own.on ∙ link ∙ sym one.own.on) in
    let a = one.hop in
    let b = other.hop in
    omega (arith, a, b, index)

pub rows-over : (plan : PlanParts) (run : List Done) (levels : List (Option Levels)) (x : HopRow) → IsPlan plan → IsRun (network_of plan) run → AreLevelsOf plan run levels → (one : RowIs plan run levels x) → rows_at (channel_number x.chan) x.hop (departures_of run) ≡ filter (is_over (channel_number x.chan) (link_number x.link)) (departures_of run)
rows-over plan run levels x is run_is are one =
    filter-same (is_at (channel_number x.chan) x.hop) (is_over (channel_number x.chan) (link_number x.link)) (departures_of run) (Each-from_among _ (departures_of run) (λ r among. same-test r among)) where
      same-test : (r : HopRow) → Among r (departures_of run) → is_at (channel_number x.chan) x.hop r ≡ is_over (channel_number x.chan) (link_number x.link) r
      same-test r among =
          elim (cases_Bool (nat_eq (channel_number r.chan) (channel_number x.chan))) [
            | inr off ↦ rw off refl
            | inl on ↦
                (let chan = eqb-true (channel_number r.chan) (channel_number x.chan) on in
                let other = row-is plan run levels r is run_is are among in
                let same : nat_eq r.hop x.hop ≡ nat_eq (link_number r.link) (link_number x.link) = same_from_decides _ _
                (λ e. hop-link plan run levels x r one other chan (eqb-true r.hop x.hop e), λ e. eq-eqb r.hop x.hop (link-hop plan run levels x r one other chan e))
                (λ e. eqb-true (link_number r.link) (link_number x.link) e, λ e. eq-eqb (link_number r.link) (link_number x.link) e) in
                rw (on, same) refl)
          ]

pub asked-past : (plan : PlanParts) (run : List Done) (levels : List (Option Levels)) (x : HopRow) → (one : RowIs plan run levels x) → (past : List Done) → IsRun (network_of plan) past → AllOfferTerms (asked_at one.own.entry.request one.own.index) (channel_number x.chan) (part_of (link_number x.link) past) × (offers_to (channel_number x.chan) (part_of (link_number x.link) past) ≤ 1)
asked-past plan run levels x one past past_is =
    let asked = one.own.asked past past_is in
    let c : channel_number one.own.entry.request.chan ≡ channel_number x.chan = one.own.chan ∙ ap channel_number (sym one.chan) in (
      subst (λ k. AllOfferTerms (asked_at one.own.entry.request one.own.index) k (part_of (link_number x.link) past)) c (subst (λ n. AllOfferTerms (asked_at one.own.entry.request one.own.index) (channel_number one.own.entry.request.chan) (part_of n past)) one.own.on (asked.names one.own.index one.own.at.hop one.own.at.stands)),
      subst (λ k. offers_to k (part_of (link_number x.link) past) ≤ 1) c (asked.once (link_number x.link)),
    )

counted-at : (plan : PlanParts) (run : List Done) (levels : List (Option Levels)) (x : HopRow) → IsPlan plan → IsRun (network_of plan) run → AreLevelsOf plan run levels → (one : RowIs plan run levels x) → AreCounted 0 (rows_at (channel_number x.chan) x.hop (departures_of run))
counted-at plan run levels x is run_is are one =
    let leaves = run-leaves (network_of plan) (asked_at one.own.entry.request one.own.index) (channel_number x.chan) (link_number x.link) one.link (reverse run) run (plan-fits plan is) (all-owned plan is) one.linked (asked-past plan run levels x one) run_is in
    subst (AreCounted 0) (sym (rows-over plan run levels x is run_is are one)) leaves.counted

pub counted : (plan : PlanParts) (run : List Done) (levels : List (Option Levels)) → IsPlan plan → IsRun (network_of plan) run → AreLevelsOf plan run levels → (c hop : ℕ) → AreCounted 0 (rows_at c hop (departures_of run))
counted plan run levels is run_is are c hop = by-rows (rows_at c hop (departures_of run)) refl where
  by-rows : (rows : List HopRow) → rows_at c hop (departures_of run) ≡ rows → AreCounted 0 (rows_at c hop (departures_of run))
  by-rows [] none = subst (AreCounted 0) (sym none) tt
  by-rows (x ∷ rest) some =
      let first : Among x (rows_at c hop (departures_of run)) = subst (Among x) (sym some) (inl refl) in
      let inside = Among-filter (is_at c hop) x (departures_of run) first in
      let parts = at-parts c hop x inside.1 in
      let one = row-is plan run levels x is run_is are inside.0 in
      subst (λ h. AreCounted 0 (rows_at c h (departures_of run))) parts.1 (subst (λ k. AreCounted 0 (rows_at k x.hop (departures_of run))) parts.0 (counted-at plan run levels x is run_is are one))

-- ---- the eligible ticks of the rows are the first of the packets'

pub record HasPacket (own : List Arrival) (row : HopRow) : Type 0 where
  pub packet : Arrival
  pub among : Among packet own
  pub number : packet.number ≡ row.number
  pub eligible : packet.eligible ≡ row.eligible
  pub at : packet.at ≡ row.at

pub numbers-above : (n : ℕ) (own : List Arrival) → AreNumberedAfter n own → Each (λ q. n < q.number) own
numbers-above n [] are = tt
numbers-above n (q ∷ own) are = ((let e = are.0 in omega (arith, e)), Each-if (λ p. suc n < p.number) (λ p. n < p.number) own (λ p more. omega (arith, more)) (numbers-above (suc n) own are.1))

has-later : (n : ℕ) (q : Arrival) (own : List Arrival) (rows : List HopRow) → q.number ≡ suc n → Each (λ x. suc n < x.number) rows → Each (HasPacket (q ∷ own)) rows → Each (HasPacket own) rows
has-later n q own [] number above has = tt
has-later n q own (x ∷ rows) number above has = (here has.0 (has.0).among, has-later n q own rows number above.1 has.1) where
  here : (h : HasPacket (q ∷ own) x) → Among h.packet (q ∷ own) → HasPacket own x
  here h (inl same) = absurd (let e : h.packet.number ≡ q.number = ap (λ (p : Arrival). p.number) same in let m = h.number in let a = above.0 in omega (arith, e, m, a, number))
  here h (inr later) = record { packet = h.packet; among = later; number = h.number; eligible = h.eligible; at = h.at }

pub ticks-front : (n : ℕ) (rows : List HopRow) (own : List Arrival) → AreCounted n rows → AreNumberedAfter n own → Each (HasPacket own) rows → (rest : List ℕ) × (map tick_of_packet own ≡ map tick_of rows ++ rest)
ticks-front n [] own counted numbered has = (map tick_of_packet own, refl)
ticks-front n (x ∷ rows) [] counted numbered has = absurd (has.0).among
ticks-front n (x ∷ rows) (q ∷ own) counted numbered has =
    let rest = ticks-front (suc n) rows own counted.1 numbered.1 (has-later n q own rows numbered.0 (counted-above (suc n) rows counted.1) has.1) in
    let same : q.eligible ≡ x.eligible = first has.0 (has.0).among in
    (rest.0, ap (λ t. t ∷ map tick_of_packet own) same ∙ ap (λ ts. x.eligible ∷ ts) rest.1) where
      first : (h : HasPacket (q ∷ own) x) → Among h.packet (q ∷ own) → q.eligible ≡ x.eligible
      first h (inl same) = ap (λ (p : Arrival). p.eligible) (sym same) ∙ h.eligible
      first h (inr later) = absurd (let above = Each-among (λ (p : Arrival). suc n < p.number) h.packet own (numbers-above (suc n) own numbered.1) later in let m = h.number in let e = counted.0 in omega (arith, above, m, e))

pub counted-le : (n : ℕ) (rows : List HopRow) (x : HopRow) → AreCounted n rows → Among x rows → x.number ≤ length rows + n
counted-le n [] x are among = absurd among
counted-le n (first ∷ rows) x are (inl same) = (let e : x.number ≡ first.number = ap (λ (r : HopRow). r.number) same in let f = are.0 in omega (arith, e, f))
counted-le n (first ∷ rows) x are (inr among) = (let h = counted-le (suc n) rows x are.1 among in omega (arith, h))

-- ---- a packet in turn

pub record TurnAt (terms : HopTerms) (c : ℕ) (h : List Entry) (before own : List Arrival) (p : Arrival) : Type 0 where
  pub front : List Arrival
  pub back : List Arrival
  pub is : own ≡ front ++ p ∷ back
  pub turn : IsInTurn terms c h (before ++ front) p

pub turn-at : (terms : HopTerms) (c : ℕ) (h : List Entry) (before own : List Arrival) (p : Arrival) → AreInTurn terms c h before own → Among p own → TurnAt terms c h before own p
turn-at terms c h before [] p turns among = absurd among
turn-at terms c h before (q ∷ own) p turns (inl same) = record { front = []; back = own; is = ap (λ x. x ∷ own) (sym same); turn = subst (λ b. IsInTurn terms c h b p) (sym (append-nil before)) (subst (IsInTurn terms c h before) (sym same) turns.0) }
turn-at terms c h before (q ∷ own) p turns (inr among) =
    let rest = turn-at terms c h (before ++ q ∷ []) own p turns.1 among in
    record { front = q ∷ rest.front; back = rest.back; is = ap (λ xs. q ∷ xs) rest.is; turn = subst (λ b. IsInTurn terms c h b p) (append_assoc before (q ∷ []) rest.front) rest.turn }
