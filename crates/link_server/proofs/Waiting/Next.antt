-- The first in line of the packets here is the one that the link's line has next: it goes before all others that are eligible.
use Rattle.std.proofs.Common.{◌≡◌, ◌≢◌, ℕ, ◌<◌, ◌≤◌, true, false, not, Option, Some, None, List, [], ◌∷◌, refl, sym, ap, ◌∙◌, subst, arith, inl, inr}
use Rattle.std.proofs.lemmas.Bool.{cases_Bool, eqb-false, le-leb, lt-leb, leb-true}
use Rattle.std.proofs.lemmas.Bool.Decides.{nat_tests}
use Rattle.std.proofs.lemmas.Option.{same_Some}
use Rattle.link_server.proofs.Words.{filter, find, is_eligible_by, Each, HeldPacket}
use Rattle.link_steps.specs.Quiet.{IsEligibleFrom}
use Rattle.link_steps.specs.Service.{Arrival, goes_before, sooner, first_in_line}
use Rattle.link_steps.proofs.SearchAndFilter.{Each-if, Each-map, Each-both, Each-filter, filter-none}
use Rattle.link_steps.proofs.ServiceStarts.{first_in_line-fact}
use Rattle.link_server.specs.Arrived.{arrived, HaveOwnNumbers, AreNumberedUpTo}
use Rattle.link_server.specs.Line.{AreAfter, AreFrom, IsBehind}
use Rattle.link_server.specs.Packets.{arrival_in, here_in}
use Rattle.link_server.specs.Order.{stands_before}
use Rattle.link_server.specs.Sound.{AreNumberedWithin, has_arrival_number}
use Rattle.link_server.proofs.Sound.Packets.{numbered-above}
use Rattle.link_server.proofs.Waiting.Arrived.{arrived-each, arrived-numbered, find-arrived}
use Rattle.link_server.proofs.Waiting.Serving.{IsDue, are-due}

-- ---- where none is eligible

-- where no packet is before a tick, none by arrival is
pub none-before : (until : ℕ) (packets : List HeldPacket) (taken : ℕ) → AreFrom until packets → Each (IsEligibleFrom until) (arrived (here_in packets) taken)
none-before until packets taken from = arrived-each (IsEligibleFrom until) (here_in packets) taken (Each-map (IsEligibleFrom until) arrival_in packets from)

pub none-first : (tick : ℕ) (packets : List HeldPacket) (taken : ℕ) → AreAfter tick packets → None ≡ first_in_line (filter (is_eligible_by tick) (arrived (here_in packets) taken))
unfolding first_in_line
none-first tick packets taken after =
    let late = arrived-each (λ p. tick < p.eligible) (here_in packets) taken (Each-map (λ p. tick < p.eligible) arrival_in packets after) in
    rw (filter-none (is_eligible_by tick) (arrived (here_in packets) taken)
    (Each-if (λ p. tick < p.eligible) (λ p. is_eligible_by tick p ≡ false) (arrived (here_in packets) taken) (λ p past. lt-leb p.eligible tick past) late)) refl

-- ---- where one is

-- no other packet that is eligible goes before this one
abbrev LetsGo : ℕ → Arrival → Arrival → Type 0
LetsGo tick q p = p.eligible ≤ tick → q.place ≢ p.place → goes_before p q ≡ false

-- the packets stand in line as they go
stands-goes : (p q : HeldPacket) → stands_before p q ≡ goes_before (arrival_in p) (arrival_in q)
unfolding goes_before
stands-goes p q = refl

let-go : (tick : ℕ) (q : HeldPacket) (others : List HeldPacket) → Each (IsBehind tick q) others → Each (LetsGo tick (arrival_in q)) (here_in (q ∷ others))
let-go tick q others behind = (
  (λ by apart. absurd (apart refl)),
  Each-map (LetsGo tick (arrival_in q)) arrival_in others (Each-if (IsBehind tick q) (λ p. LetsGo tick (arrival_in q) (arrival_in p)) others (λ p rest by apart. sym (stands-goes p q) ∙ rest by) behind),
)

-- p goes before q or q before p, but not both, where their arrival numbers differ
before-either : (p q : Arrival) → p.place ≢ q.place → goes_before p q ≡ not (goes_before q p)
unfolding goes_before
before-either p q apart = grind (arith, nat_tests)

sooner-first : (x : Arrival) (best : Option Arrival) → ((r : Arrival) → best ≡ Some r → goes_before r x ≡ false) → sooner x best ≡ x
sooner-first x None rest = refl
sooner-first x (Some r) rest = rw (rest r refl) refl

-- it is at the head of those here
first-head : (tick : ℕ) (x : Arrival) (xs : List Arrival) → Each (λ p. x.place < p.place) xs → Each (LetsGo tick x) xs → x.eligible ≤ tick → first_in_line (filter (is_eligible_by tick) (x ∷ xs)) ≡ Some x
unfolding first_in_line
first-head tick x xs above go by =
    rw (le-leb x.eligible tick by)
    (ap Some (sooner-first x (first_in_line (filter (is_eligible_by tick) xs))
    (λ r first. first_in_line-fact (λ p. goes_before p x ≡ false) (filter (is_eligible_by tick) xs) r rest first))) where
      rest : Each (λ p. goes_before p x ≡ false) (filter (is_eligible_by tick) xs)
      rest =
          Each-if (λ p. IsDue tick p × ((x.place < p.place) × LetsGo tick x p)) (λ p. goes_before p x ≡ false) (filter (is_eligible_by tick) xs)
          (λ p all. all.1.1 all.0 (λ same. absurd (let higher = all.1.0 in omega (arith, higher, same))))
          (Each-both (IsDue tick) (λ p. (x.place < p.place) × LetsGo tick x p) (filter (is_eligible_by tick) xs) (are-due tick xs)
          (Each-filter (λ p. (x.place < p.place) × LetsGo tick x p) (is_eligible_by tick) xs (Each-both (λ p. x.place < p.place) (LetsGo tick x) xs above go)))

-- or after one that doesn't go before it
first-after : (tick : ℕ) (x q : Arrival) (xs : List Arrival) → x.place ≢ q.place → LetsGo tick q x → first_in_line (filter (is_eligible_by tick) xs) ≡ Some q → first_in_line (filter (is_eligible_by tick) (x ∷ xs)) ≡ Some q
unfolding first_in_line
first-after tick x q xs apart go found =
    elim (cases_Bool (is_eligible_by tick x)) [
      | inl by ↦ (
          let due : x.eligible ≤ tick = leb-true x.eligible tick by in
          let before : goes_before q x ≡ true = before-either q x (λ same. apart (sym same)) ∙ ap not (go due (λ same. apart (sym same))) in
          rw (by, found, before) refl)
      | inr late ↦ rw late found
    ]

first-is : (tick low high : ℕ) (here : List Arrival) (q : Arrival) → AreNumberedWithin low here high → find (has_arrival_number q.place) here ≡ Some q → q.eligible ≤ tick → Each (LetsGo tick q) here → first_in_line (filter (is_eligible_by tick) here) ≡ Some q
first-is tick low high [] q rising found by go = cc
first-is tick low high (x ∷ xs) q rising found by go =
    elim (cases_Bool (has_arrival_number q.place x)) [
      | inl at ↦ (
          let same : x ≡ q = same_Some x q (rw at at found) in
          subst (λ p. first_in_line (filter (is_eligible_by tick) (x ∷ xs)) ≡ Some p) same
          (first-head tick x xs (numbered-above x.place xs high rising.1) (subst (λ p. Each (LetsGo tick p) xs) (sym same) go.1) (subst (λ p. p.eligible ≤ tick) (sym same) by)))
      | inr off ↦ first-after tick x q xs (eqb-false x.place q.place off) go.0 (first-is tick x.place high xs q rising.1 (rw off at found) by go.1)
    ]

-- so the next packet is the first in line
pub next-first : (tick taken : ℕ) (q : HeldPacket) (others : List HeldPacket) → HaveOwnNumbers (here_in (q ∷ others)) → AreNumberedUpTo taken (here_in (q ∷ others)) → q.eligible ≤ tick → Each (IsBehind tick q) others
    → first_in_line (filter (is_eligible_by tick) (arrived (here_in (q ∷ others)) taken)) ≡ Some (arrival_in q)
next-first tick taken q others own numbered by behind =
    let here = here_in (q ∷ others) in
    first-is tick 0 taken (arrived here taken) (arrival_in q) (arrived-numbered here taken own) (find-arrived (arrival_in q) (here_in others) taken numbered.0.least numbered.0.most) by
    (arrived-each (LetsGo tick (arrival_in q)) here taken (let-go tick q others behind))
