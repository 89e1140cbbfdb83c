-- Packets start in order: each ahead of all others that wait, and so those of one level in turn.
use Rattle.std.proofs.Common.{◌≡◌, ℕ, zero, suc, ◌<◌, ◌≤◌, true, false, not, List, [], ◌∷◌, Option, Some, None, ⊎_elim, refl, sym, subst, arith}
use Rattle.std.proofs.lemmas.Bool.{cases_lt, leb-true, le-leb, ltb-true, ltb-false, eqb-true, eq-eqb, and_parts, and_from, or_cases, or_parts, not-true, cond_both}
use Rattle.std.proofs.lemmas.Option.{same_Some}
use Rattle.std.specs.Prelude.{filter, nat_eq, nat_lt, nat_le, ◌&&◌, ◌||◌}
use Rattle.link_steps.specs.Lists.{Each, Among}
use Rattle.link_steps.specs.Service.{Arrival, Start, goes_before, sooner, first_in_line, has_started, is_waiting, is_busy, add_start, serve_tick, starts_below}
use Rattle.link_steps.specs.ServiceOrder.{ComesBehind, AreByPriority, GoesBehind, AreInTurn, PacketsStartInOrder}
use Rattle.link_steps.proofs.FoundElements.{Each-from_among, Each-passes}
use Rattle.link_steps.proofs.SearchAndFilter.{Each-both, Each-filter, Each-if, Each-among}
use Rattle.link_steps.proofs.PacketRows.{Among-passes}
use Rattle.link_steps.proofs.ServiceStarts.{first_in_line-fact}

-- ---- the order of two packets

-- p goes no later than q: by level, by eligible tick and by arrival number
record IsUpTo (p q : Arrival) : Type 0 where
  level : p.level ≤ q.level
  eligible : p.level ≡ q.level → p.eligible ≤ q.eligible
  place : p.level ≡ q.level → p.eligible ≡ q.eligible → p.place ≤ q.place

upto-same : (p : Arrival) → IsUpTo p p
upto-same p = record { level = omega arith; eligible = λ l. omega arith; place = λ l e. omega arith }

upto-trans : (p q r : Arrival) → IsUpTo p q → IsUpTo q r → IsUpTo p r
upto-trans p q r pq qr = record {
  level = omega (arith, pq.level, qr.level);
  eligible = λ l. (let one = pq.eligible (omega (arith, l, pq.level, qr.level)) in let other = qr.eligible (omega (arith, l, pq.level, qr.level)) in omega (arith, one, other));
  place = λ l e.
      let first : p.level ≡ q.level = omega (arith, l, pq.level, qr.level) in
      let second : q.level ≡ r.level = omega (arith, l, pq.level, qr.level) in
      let one = pq.eligible first in
      let other = qr.eligible second in
      let before = pq.place first (omega (arith, e, one, other)) in
      let after = qr.place second (omega (arith, e, one, other)) in
      omega (arith, before, after);
}

-- where q doesn't go before p
not_before-upto : (p q : Arrival) → goes_before q p ≡ false → IsUpTo p q
unfolding goes_before
not_before-upto p q out =
    let parts = or_parts (nat_lt q.level p.level) _ out in
    let level = ltb-false q.level p.level parts.0 in
    let within : p.level ≡ q.level → (nat_lt q.eligible p.eligible ≡ false) × (p.eligible ≡ q.eligible → nat_lt q.place p.place ≡ false) = λ l.
    let own : nat_eq q.level p.level ≡ true = eq-eqb q.level p.level (sym l) in
    let rest = or_parts (nat_lt q.eligible p.eligible) _ (rw own at parts.1) in
    (rest.0, λ e. (let same : nat_eq q.eligible p.eligible ≡ true = eq-eqb q.eligible p.eligible (sym e) in rw same at rest.1)) in
    record {
      level = omega (arith, level);
      eligible = λ l. ltb-false q.eligible p.eligible (within l).0;
      place = λ l e. ltb-false q.place p.place ((within l).1 e);
    }

-- and where it does
before-upto : (p q : Arrival) → goes_before p q ≡ true → IsUpTo p q
unfolding goes_before
before-upto p q before =
    ⊎_elim
    (λ (less : nat_lt p.level q.level ≡ true).
    let l = ltb-true p.level q.level less in
    record { level = omega (arith, l); eligible = λ same. absurd (omega (arith, l, same)); place = λ same e. absurd (omega (arith, l, same)) })
    (λ (same : (nat_eq p.level q.level && (nat_lt p.eligible q.eligible || (nat_eq p.eligible q.eligible && nat_lt p.place q.place))) ≡ true).
    let parts = and_parts (nat_eq p.level q.level) _ same in
    let l = eqb-true p.level q.level parts.0 in
    ⊎_elim
    (λ (less : nat_lt p.eligible q.eligible ≡ true).
    let e = ltb-true p.eligible q.eligible less in
    record { level = omega (arith, l); eligible = λ _. omega (arith, e); place = λ _ is. absurd (omega (arith, e, is)) })
    (λ (last : (nat_eq p.eligible q.eligible && nat_lt p.place q.place) ≡ true).
    let rest = and_parts (nat_eq p.eligible q.eligible) _ last in
    let e = eqb-true p.eligible q.eligible rest.0 in
    let n = ltb-true p.place q.place rest.1 in
    record { level = omega (arith, l); eligible = λ _. omega (arith, e); place = λ _ _. omega (arith, n) })
    (or_cases (nat_lt p.eligible q.eligible) _ parts.1))
    (or_cases (nat_lt p.level q.level) _ before)

-- ---- the first in line

-- none is in line where none is first
line-empty : (ps : List Arrival) (p : Arrival) → first_in_line ps ≡ None → Each (IsUpTo p) ps
unfolding first_in_line
line-empty [] p none = tt
line-empty (q ∷ ps) p none = absurd (let clash : Some (sooner q (first_in_line ps)) ≡ None = none in cc)

-- the first in line goes no later than each of the others
first-upto : (ps : List Arrival) (p : Arrival) → first_in_line ps ≡ Some p → Each (IsUpTo p) ps
unfolding first_in_line
first-upto [] p found = cc
first-upto (q ∷ ps) p found = subst (λ r. Each (IsUpTo r) (q ∷ ps)) (same_Some _ _ found) (sooner-upto (first_in_line ps) refl (λ r is. first-upto ps r is)) where
  sooner-upto : (best : Option Arrival) → first_in_line ps ≡ best → ((r : Arrival) → first_in_line ps ≡ Some r → Each (IsUpTo r) ps) → Each (IsUpTo (sooner q best)) (q ∷ ps)
  sooner-upto None is rest = (upto-same q, line-empty ps q is)
  sooner-upto (Some r) is rest =
      cond_both (goes_before r q) r q (λ s. Each (IsUpTo s) (q ∷ ps)) (λ before. (before-upto r q before, rest r is))
      (λ after. (let own = not_before-upto q r after in (upto-same q, Each-if (IsUpTo r) (IsUpTo q) ps (λ s upto. upto-trans q r s own upto) (rest r is))))

-- ---- a start

-- a packet that waits among others, the first of them
record IsNext (packets : List Arrival) (starts : List Start) (t : ℕ) (p : Arrival) : Type 0 where
  among : Among p packets
  waits : is_waiting starts t p ≡ true
  first : Each (IsUpTo p) (filter (is_waiting starts t) packets)

next-is : (packets : List Arrival) (starts : List Start) (t : ℕ) (p : Arrival) → first_in_line (filter (is_waiting starts t) packets) ≡ Some p → IsNext packets starts t p
next-is packets starts t p found =
    let all = Each-filter (λ q. Among q packets) (is_waiting starts t) packets (Each-from_among (λ q. Among q packets) packets (λ q among. among)) in
    let both = first_in_line-fact (λ q. Among q packets × (is_waiting starts t q ≡ true)) (filter (is_waiting starts t) packets) p
    (Each-both (λ q. Among q packets) (λ q. is_waiting starts t q ≡ true) (filter (is_waiting starts t) packets) all (Each-passes (is_waiting starts t) packets)) found in
    record { among = both.0; waits = both.1; first = first-upto (filter (is_waiting starts t) packets) p found }

-- the packets after it
next-after : (packets : List Arrival) (starts : List Start) (t : ℕ) (p : Arrival) → IsNext packets starts t p → Each (ComesBehind (record { packet = p; tick = t }) starts) packets
unfolding is_waiting
next-after packets starts t p next =
    Each-from_among (ComesBehind (record { packet = p; tick = t }) starts) packets (λ q among eligible out.
    let parts = or_parts (nat_eq p.place q.place) (has_started starts q) out in
    let waits : is_waiting starts t q ≡ true = and_from (nat_le q.eligible t) (not (has_started starts q)) (le-leb q.eligible t eligible) (rw parts.1 refl) in
    let upto = Each-among (IsUpTo p) q (filter (is_waiting starts t) packets) next.first (Among-passes (is_waiting starts t) q packets waits among) in
    record {
      level = upto.level;
      sooner = λ l. record {
        eligible = upto.eligible l;
        arrived = λ e. ⊎_elim (λ (less : p.place < q.place). less)
            (λ (more : q.place ≤ p.place). absurd (let n = upto.place l e in let same : nat_eq p.place q.place ≡ true = eq-eqb p.place q.place (omega (arith, n, more)) in let clash : true ≡ false = rw same at parts.0 in cc))
            (cases_lt p.place q.place);
      };
    })

-- where starts are by priority, a packet that hasn't started goes after those of its level
waits-after : (packets : List Arrival) (starts : List Start) (start : Start) → Among start.packet packets → has_started starts start.packet ≡ false → AreByPriority packets starts → Each (GoesBehind start) starts
waits-after packets [] start among out by = tt
waits-after packets (other ∷ earlier) start among out by =
    let parts = or_parts (nat_eq other.packet.place start.packet.place) (has_started earlier start.packet) out in
    let after : GoesBehind start other = λ l. ⊎_elim
    (λ (later : other.tick < start.packet.eligible). (let own = by.0 in record { eligible = omega (arith, later, own); arrived = λ e. absurd (omega (arith, later, own, e)) }))
    (λ (eligible : start.packet.eligible ≤ other.tick). (Each-among (ComesBehind other earlier) start.packet packets by.1 among eligible out).sooner l)
    (cases_lt other.tick start.packet.eligible) in
    (after, waits-after packets earlier start among parts.1 by.2)

-- ---- all starts

pub start-in-order : PacketsStartInOrder
unfolding starts_below serve_tick is_waiting
start-in-order rate packets zero = record { by_priority = tt; in_turn = tt }
start-in-order rate packets (suc t) =
    let before = start-in-order rate packets t in
    let parts = cond_both (is_busy rate (starts_below rate packets t) t) (starts_below rate packets t) (add_start (first_in_line (filter (is_waiting (starts_below rate packets t) t) packets)) t (starts_below rate packets t)) (λ starts. AreByPriority packets starts × AreInTurn starts)
    (λ _. (before.by_priority, before.in_turn))
    (λ _. add-order (first_in_line (filter (is_waiting (starts_below rate packets t) t) packets)) (starts_below rate packets t) (λ p found. next-is packets (starts_below rate packets t) t p found) before.by_priority before.in_turn) in
    record { by_priority = parts.0; in_turn = parts.1 }
  where
    add-order : (best : Option Arrival) (starts : List Start) → ((p : Arrival) → best ≡ Some p → IsNext packets starts t p) → AreByPriority packets starts → AreInTurn starts
        → AreByPriority packets (add_start best t starts) × AreInTurn (add_start best t starts)
    add-order None starts next by turn = (by, turn)
    add-order (Some p) starts next by turn =
        let is = next p refl in
        let parts = and_parts (nat_le p.eligible t) (not (has_started starts p)) is.waits in
        ((leb-true p.eligible t parts.0, next-after packets starts t p is, by), (waits-after packets starts (record { packet = p; tick = t }) is.among (not-true (has_started starts p) parts.1) by, turn))
