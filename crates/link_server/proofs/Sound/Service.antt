-- The service of a tick keeps an account sound: at most one packet leaves, and it was eligible by then.
use Rattle.std.proofs.Common.{◌≡◌, ℕ, ◌+◌, ◌<◌, ◌≤◌, true, false, cond, not, List, [], ◌∷◌, length, Option, Some, None, inl, inr, refl, sym, ap, subst, arith}
use Rattle.std.proofs.lemmas.Bool.{cases_Bool, eqb-true, eq-eqb, ne_eqb, leb-true}
use Rattle.std.proofs.lemmas.Option.{same_Some}
use Rattle.link_server.proofs.Words.{filter, find, nat_eq, total, LinkShape, AccountRow, is_eligible_by, start_at, served, is_other, Each}
use Rattle.std.specs.Option.{ForSome}
use Rattle.link_steps.specs.Buffer.{has_lead, held_packets}
use Rattle.link_steps.specs.Service.{Arrival, Start, first_in_line}
use Rattle.link_steps.proofs.FoundElements.{Each-passes}
use Rattle.link_steps.proofs.SearchAndFilter.{Each-both, Each-filter, Each-if, filter-all}
use Rattle.link_steps.proofs.ServiceStarts.{first_in_line-fact}
use Rattle.traffic_contract.proofs.LoadLimits.{ceil_quotient-some}
use Rattle.link_server.specs.Sound.{places_of, places, AreNumberedWithin, IsApartFrom, HaveOwnLeads, IsSoundPacket, has_arrival_number, IsRunning}
use Rattle.link_server.proofs.Sound.Packets.{HasLead, numbered-above}

-- ---- the packet that occupies the link

-- each packet here is the one of its arrival number
abbrev IsFound : List Arrival → Arrival → Type 0
IsFound here p = find (has_arrival_number p.place) here ≡ Some p

numbered-found : (low : ℕ) (here : List Arrival) (high : ℕ) → AreNumberedWithin low here high → Each (IsFound here) here
numbered-found low [] high numbered = tt
numbered-found low (p ∷ here) high numbered = (
  rw (eq-eqb p.place p.place refl) refl,
  Each-if (λ q. (p.place < q.place) × IsFound here q) (IsFound (p ∷ here)) here
      (λ q both. rw (ne_eqb p.place q.place (λ same. absurd (omega (arith, same, both.0)))) both.1)
      (Each-both (λ q. p.place < q.place) (IsFound here) here (numbered-above p.place here high numbered.1) (numbered-found p.place here high numbered.1)),
)

-- a packet that can start
record CanStart (t : ℕ) (here : List Arrival) (p : Arrival) : Type 0 where
  is_here : IsFound here p
  eligible : p.eligible ≤ t
  size : 1 ≤ p.size

can-start : (levels taken t : ℕ) (here : List Arrival) → AreNumberedWithin 0 here taken → Each (IsSoundPacket levels taken) here → Each (CanStart t here) (filter (is_eligible_by t) here)
can-start levels taken t here numbered each =
    let both = Each-both (IsFound here) (IsSoundPacket levels taken) here (numbered-found 0 here taken numbered) each in
    let facts : Each (λ p. IsFound here p × IsSoundPacket levels taken p) (filter (is_eligible_by t) here) = Each-filter (λ p. IsFound here p × IsSoundPacket levels taken p) (is_eligible_by t) here both in
    Each-if (λ p. (IsFound here p × IsSoundPacket levels taken p) × (is_eligible_by t p ≡ true)) (CanStart t here) (filter (is_eligible_by t) here)
    (λ p all. record { is_here = all.0.0; eligible = leb-true p.eligible t all.1; size = all.0.1.size_least })
    (Each-both (λ p. IsFound here p × IsSoundPacket levels taken p) (λ p. is_eligible_by t p ≡ true) (filter (is_eligible_by t) here) facts (Each-passes (is_eligible_by t) here))

-- one that starts occupies the link
starts-running : (shape : LinkShape) (t : ℕ) (here : List Arrival) (best : Option Arrival) → ((p : Arrival) → best ≡ Some p → CanStart t here p) → ForSome (start_at t best) (IsRunning shape.rate t here)
starts-running shape t here None can = λ start some. cc
starts-running shape t here (Some p) can = λ start some.
    let first : record { packet = p; tick = t } ≡ start = same_Some _ start some in
    let starts = can p refl in
    let work = ceil_quotient-some p.size shape.rate shape.rate_least starts.size in
    subst (IsRunning shape.rate t here) first (record { is_here = starts.is_here; eligible = starts.eligible; begun = omega arith; leaves_later = omega (arith, work) })

-- the one that occupies the link in the tick
pub served-running : (shape : LinkShape) (levels taken t : ℕ) (here : List Arrival) (on : Option Start) → AreNumberedWithin 0 here taken → Each (IsSoundPacket levels taken) here → ForSome on (IsRunning shape.rate t here) → ForSome (served t here on) (IsRunning shape.rate t here)
served-running shape levels taken t here (Some start) numbered each running = running
served-running shape levels taken t here None numbered each running =
    starts-running shape t here (first_in_line (filter (is_eligible_by t) here))
    (λ p first. first_in_line-fact (CanStart t here) (filter (is_eligible_by t) here) p (can-start levels taken t here numbered each) first)

-- ---- the packet that leaves

-- of these packets the others are left when at most one leaves, which has this lead
pub record LeavesOne (here others : List Arrival) : Type 0 where
  pub lead : ℕ
  pub count : ℕ
  pub most : count ≤ 1
  pub has_lead : count ≤ lead
  pub fewer : length others + count ≡ length here
  pub held : (l : ℕ) → held_packets l here ≤ held_packets l others + cond (nat_eq lead l) count 0

-- packets of larger arrival numbers are others
pub above-others : (start : Start) (p : Arrival) (here : List Arrival) → start.packet.place ≡ p.place → Each (λ q. p.place < q.place) here → filter (is_other start) here ≡ here
above-others start p here same above =
    filter-all (is_other start) here (Each-if (λ q. p.place < q.place) (λ q. is_other start q ≡ true) here (λ q later. ap not (ne_eqb start.packet.place q.place (λ e. absurd (omega (arith, same, later, e))))) above)

pub one-leaves : (start : Start) (low : ℕ) (here : List Arrival) (high : ℕ) → AreNumberedWithin low here high → Each HasLead here → LeavesOne here (filter (is_other start) here)
unfolding held_packets
one-leaves start low [] high numbered leads = record {
  lead = 0;
  count = 0;
  most = omega arith;
  has_lead = omega arith;
  fewer = omega arith;
  held = λ l. omega arith;
}
one-leaves start low (p ∷ here) high numbered leads =
    elim (cases_Bool (nat_eq start.packet.place p.place)) [
      | inl this ↦ (
          let same = above-others start p here (eqb-true start.packet.place p.place this) (numbered-above p.place here high numbered.1) in
          rw (this, same) (record {
            lead = p.lead;
            count = 1;
            most = omega arith;
            has_lead = leads.0;
            fewer = omega arith;
            held = λ l. elim (nat_eq p.lead l) as (λ b. length (cond b (p ∷ filter (has_lead l) here) (filter (has_lead l) here)) ≤ length (filter (has_lead l) here) + cond b 1 0) [ true ↦ omega arith | false ↦ omega arith ];
          }))
      | inr other ↦ (
          let rest = one-leaves start p.place here high numbered.1 leads.1 in
          rw other (record {
            lead = rest.lead;
            count = rest.count;
            most = rest.most;
            has_lead = rest.has_lead;
            fewer = omega (arith, rest.fewer);
            held = λ l.
                let less = rest.held l in
                elim (nat_eq p.lead l) as (λ b. length (cond b (p ∷ filter (has_lead l) here) (filter (has_lead l) here)) ≤ length (cond b (p ∷ filter (has_lead l) (filter (is_other start) here)) (filter (has_lead l) (filter (is_other start) here))) + cond (nat_eq rest.lead l) rest.count 0) [ true ↦ omega (arith, less) | false ↦ omega (arith, less) ];
          }))
    ]

-- ---- the rows' places

-- what the slots of a row gain by it
abbrev gain : ℕ → ℕ → AccountRow → ℕ
gain lead count row = cond (nat_eq lead row.lead) count 0

-- a row of another lead gains nothing
gain-none : (lead count : ℕ) (rows : List AccountRow) → count ≤ lead → Each (IsApartFrom lead) rows → total (gain lead count) rows ≡ 0
gain-none lead count [] some apart = refl
gain-none lead count (row ∷ rows) some apart =
    let rest = gain-none lead count rows some apart.1 in
    elim (cases_Bool (nat_eq lead row.lead)) [
      | inl same ↦ (let e = apart.0 (sym (eqb-true lead row.lead same)) in rw same (omega (arith, e, some, rest)))
      | inr other ↦ rw other (omega (arith, rest))
    ]

-- of rows whose leads are apart one gains at most
gain-one : (lead count : ℕ) (rows : List AccountRow) → count ≤ lead → HaveOwnLeads rows → total (gain lead count) rows ≤ count
gain-one lead count [] some apart = omega arith
gain-one lead count (row ∷ rows) some apart =
    elim (cases_Bool (nat_eq lead row.lead)) [
      | inl same ↦ (
          let rest = gain-none lead count rows some (subst (λ l. Each (IsApartFrom l) rows) (sym (eqb-true lead row.lead same)) apart.0) in
          rw same (omega (arith, rest)))
      | inr other ↦ (let rest = gain-one lead count rows some apart.1 in rw other (omega (arith, rest)))
    ]

total-le-both : {X : Type 0} (f g h : X → ℕ) (xs : List X) → ((x : X) → f x ≤ g x + h x) → total f xs ≤ total g xs + total h xs
total-le-both f g h [] less = omega arith
total-le-both f g h (x ∷ xs) less = omega (arith, less x, total-le-both f g h xs less)

-- so the places are enough for the packets that are left
pub left-places : (bounds : List ℕ) (here others : List Arrival) (rows : List AccountRow) → HaveOwnLeads rows → LeavesOne here others → places bounds others rows ≤ places bounds here rows
unfolding places
left-places bounds here others rows apart leaves =
    let gained = gain-one leaves.lead leaves.count rows leaves.has_lead apart in
    let more = total-le-both (places_of bounds others) (places_of bounds here) (gain leaves.lead leaves.count) rows (λ row. omega (arith, leaves.held row.lead)) in
    omega (arith, gained, more, leaves.fewer)
