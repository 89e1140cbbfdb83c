-- A packet that goes before another and is eligible when that one starts has started by then.
use Rattle.std.proofs.Common.{◌≡◌, ℕ, zero, suc, ◌<◌, ◌≤◌, ◌⊎◌, true, false, ◌&&◌, List, [], ◌∷◌, Option, Some, None, refl, sym, ◌∙◌, subst, inl, inr, ⊎_elim, arith}
use Rattle.std.proofs.lemmas.Bool.{cases_Bool, cases_lt, cond_both, lt-ltb, ltb-true, le-leb, eq-eqb, eqb-true, and_parts, and_from, or_cases, or_left, or_right, not_from_false}
use Rattle.std.proofs.lemmas.Option.{same_Some}
use Rattle.std.specs.Prelude.{filter, nat_eq, nat_lt, nat_le, ◌||◌}
use Rattle.link_steps.specs.Lists.{Each, Among}
use Rattle.link_steps.specs.Service.{Arrival, Start, goes_before, sooner, first_in_line, is_start_of, has_started, is_waiting, is_busy, add_start, serve_tick, starts_below}
use Rattle.link_steps.proofs.SearchAndFilter.{Each-if}
use Rattle.link_steps.proofs.PacketRows.{Among-passes}

-- p goes before q
pub data IsBefore (p q : Arrival) : Type 0 where
  Level : p.level < q.level → IsBefore p q
  Tick : p.level ≡ q.level → p.eligible < q.eligible → IsBefore p q
  Place : p.level ≡ q.level → p.eligible ≡ q.eligible → p.place < q.place → IsBefore p q

pub before-true : (p q : Arrival) → goes_before p q ≡ true → IsBefore p q
unfolding goes_before
before-true p q is =
    ⊎_elim
    (λ (level : nat_lt p.level q.level ≡ true). Level (ltb-true p.level q.level level))
    (λ (same : (nat_eq p.level q.level && (nat_lt p.eligible q.eligible || (nat_eq p.eligible q.eligible && nat_lt p.place q.place))) ≡ true).
    let both = and_parts (nat_eq p.level q.level) _ same in
    let level : p.level ≡ q.level = eqb-true p.level q.level both.0 in
    ⊎_elim
    (λ (tick : nat_lt p.eligible q.eligible ≡ true). Tick level (ltb-true p.eligible q.eligible tick))
    (λ (rest : (nat_eq p.eligible q.eligible && nat_lt p.place q.place) ≡ true). let parts = and_parts (nat_eq p.eligible q.eligible) (nat_lt p.place q.place) rest in Place level (eqb-true p.eligible q.eligible parts.0) (ltb-true p.place q.place parts.1))
    (or_cases (nat_lt p.eligible q.eligible) _ both.1))
    (or_cases (nat_lt p.level q.level) _ is)

pub true-before : (p q : Arrival) → IsBefore p q → goes_before p q ≡ true
unfolding goes_before
true-before p q (Level level) = or_left (nat_lt p.level q.level) _ (lt-ltb p.level q.level level)
true-before p q (Tick level tick) = or_right (nat_lt p.level q.level) _ (and_from (nat_eq p.level q.level) _ (eq-eqb p.level q.level level) (or_left (nat_lt p.eligible q.eligible) _ (lt-ltb p.eligible q.eligible tick)))
true-before p q (Place level tick place) =
    or_right (nat_lt p.level q.level) _ (and_from (nat_eq p.level q.level) _ (eq-eqb p.level q.level level)
    (or_right (nat_lt p.eligible q.eligible) _ (and_from (nat_eq p.eligible q.eligible) (nat_lt p.place q.place) (eq-eqb p.eligible q.eligible tick) (lt-ltb p.place q.place place))))

-- what goes before h goes before r, or r goes before h
by-place : (p r h : Arrival) → p.level ≡ r.level → r.level ≡ h.level → p.eligible ≡ r.eligible → r.eligible ≡ h.eligible → p.place < h.place → IsBefore p r ⊎ IsBefore r h
by-place p r h lpr lrh epr erh place =
    elim (cases_lt p.place r.place) [
      | inl less ↦ inl (Place lpr epr less)
      | inr more ↦ inr (Place lrh erh (omega arith))
    ]

by-tick : (p r h : Arrival) → p.level ≡ r.level → r.level ≡ h.level → p.eligible ≤ h.eligible → (p.eligible ≡ h.eligible → p.place < h.place) → IsBefore p r ⊎ IsBefore r h
by-tick p r h lpr lrh upto place =
    elim (cases_lt p.eligible r.eligible) [
      | inl less ↦ inl (Tick lpr less)
      | inr more ↦ elim (cases_lt r.eligible h.eligible) [
        | inl less ↦ inr (Tick lrh less)
        | inr same ↦ by-place p r h lpr lrh (omega arith) (omega arith) (place (omega arith))
      ]
    ]

before-split : (p r h : Arrival) → IsBefore p h → IsBefore p r ⊎ IsBefore r h
before-split p r h before =
    elim (cases_lt p.level r.level) [
      | inl less ↦ inl (Level less)
      | inr more ↦ elim (cases_lt r.level h.level) [
        | inl less ↦ inr (Level less)
        | inr same ↦ levels-same before more same
      ]
    ] where
      levels-same : IsBefore p h → r.level ≤ p.level → h.level ≤ r.level → IsBefore p r ⊎ IsBefore r h
      levels-same (Level less) more same = absurd (omega arith)
      levels-same (Tick level tick) more same = by-tick p r h (omega arith) (omega arith) (omega arith) (λ e. omega (arith, e))
      levels-same (Place level tick place) more same = by-tick p r h (omega arith) (omega arith) (omega arith) (λ e. place)

before-self : (p : Arrival) → IsBefore p p → ⊥
before-self p (Level less) = omega arith
before-self p (Tick level less) = omega arith
before-self p (Place level tick less) = omega arith

before-asym : (p q : Arrival) → IsBefore p q → IsBefore q p → ⊥
before-asym p q (Level a) (Level b) = omega arith
before-asym p q (Level a) (Tick l b) = omega arith
before-asym p q (Level a) (Place l e b) = omega arith
before-asym p q (Tick l a) (Level b) = omega arith
before-asym p q (Tick l a) (Tick m b) = omega arith
before-asym p q (Tick l a) (Place m e b) = omega arith
before-asym p q (Place l e a) (Level b) = omega arith
before-asym p q (Place l e a) (Tick m b) = omega arith
before-asym p q (Place l e a) (Place m f b) = omega arith

-- none goes before the first in line
first-least : (ps : List Arrival) (q : Arrival) → first_in_line ps ≡ Some q → Each (λ p. IsBefore p q → ⊥) ps
unfolding first_in_line
first-least [] q found = cc
first-least (h ∷ ps) q found = by-rest (first_in_line ps) refl found (λ r best. first-least ps r best) where
  by-rest : (best : Option Arrival) → first_in_line ps ≡ best → Some (sooner h best) ≡ Some q → ((r : Arrival) → first_in_line ps ≡ Some r → Each (λ p. IsBefore p r → ⊥) ps) → Each (λ p. IsBefore p q → ⊥) (h ∷ ps)
  by-rest None none same rest = (let e : h ≡ q = same_Some h q same in subst (λ x. Each (λ p. IsBefore p x → ⊥) (h ∷ ps)) e (before-self h, none-left ps none)) where
    none-left : (qs : List Arrival) → first_in_line qs ≡ None → Each (λ p. IsBefore p h → ⊥) qs
    none-left [] is = tt
    none-left (x ∷ qs) is = cc
  by-rest (Some r) best same rest =
      elim (cases_Bool (goes_before r h)) [
        | inl goes ↦ (let e : r ≡ q = same_Some r q (rw goes at same) in subst (λ x. Each (λ p. IsBefore p x → ⊥) (h ∷ ps)) e ((λ before. before-asym h r before (before-true r h goes)), rest r best))
        | inr stays ↦ (let e : h ≡ q = same_Some h q (rw stays at same) in subst (λ x. Each (λ p. IsBefore p x → ⊥) (h ∷ ps)) e (before-self h, Each-if (λ p. IsBefore p r → ⊥) (λ p. IsBefore p h → ⊥) ps (λ p none before. ⊎_elim (λ (a : IsBefore p r). none a) (λ (b : IsBefore r h). (let clash : true ≡ false = sym (true-before r h b) ∙ stays in absurd (clash-none clash))) (before-split p r h before)) (rest r best)))
      ] where
        clash-none : true ≡ false → ⊥
        clash-none same = cc

-- ---- starts

-- a packet that goes before one that has started, and was eligible by then, has started too
started-more : (start : Start) (starts : List Start) (p : Arrival) → has_started starts p ≡ true → has_started (start ∷ starts) p ≡ true
started-more start starts p before = or_right (is_start_of p start) (has_started starts p) before

order-more : (packets : List Arrival) (start : Start) (starts : List Start) → Each (λ s. (p : Arrival) → Among p packets → goes_before p s.packet ≡ true → p.eligible ≤ s.tick → has_started starts p ≡ true) starts → Each (λ s. (p : Arrival) → Among p packets → goes_before p s.packet ≡ true → p.eligible ≤ s.tick → has_started (start ∷ starts) p ≡ true) starts
order-more packets start starts each = Each-if _ _ starts (λ s own p among before early. started-more start starts p (own p among before early)) each

pub order-start : (packets : List Arrival) (starts : List Start) (t : ℕ) (q : Arrival) → first_in_line (filter (is_waiting starts t) packets) ≡ Some q → (p : Arrival) → Among p packets → goes_before p q ≡ true → p.eligible ≤ t → has_started starts p ≡ true
unfolding is_waiting
order-start packets starts t q first p among before early =
    elim (cases_Bool (has_started starts p)) [
      | inl started ↦ started
      | inr fresh ↦ absurd (let waits = and_from (nat_le p.eligible t) _ (le-leb p.eligible t early) (not_from_false (has_started starts p) fresh) in
          least (filter (is_waiting starts t) packets) p (first-least (filter (is_waiting starts t) packets) q first) (Among-passes (is_waiting starts t) p packets waits among) (before-true p q before))
    ] where
      least : (ps : List Arrival) (x : Arrival) → Each (λ y. IsBefore y q → ⊥) ps → Among x ps → IsBefore x q → ⊥
      least [] x each there is = there
      least (y ∷ ps) x each (inl same) is = each.0 (subst (λ z. IsBefore z q) same is)
      least (y ∷ ps) x each (inr there) is = least ps x each.1 there is

pub starts-in-order : (rate : ℕ) (packets : List Arrival) (t : ℕ) → Each (λ s. (p : Arrival) → Among p packets → goes_before p s.packet ≡ true → p.eligible ≤ s.tick → has_started (starts_below rate packets t) p ≡ true) (starts_below rate packets t)
unfolding starts_below serve_tick
starts-in-order rate packets zero = tt
starts-in-order rate packets (suc t) =
    let before = starts-in-order rate packets t in
    cond_both (is_busy rate (starts_below rate packets t) t) (starts_below rate packets t) (add_start (first_in_line (filter (is_waiting (starts_below rate packets t) t) packets)) t (starts_below rate packets t)) (λ starts. Each (λ s. (p : Arrival) → Among p packets → goes_before p s.packet ≡ true → p.eligible ≤ s.tick → has_started starts p ≡ true) starts)
    (λ _. before) (λ _. added (first_in_line (filter (is_waiting (starts_below rate packets t) t) packets)) refl before) where
      added : (best : Option Arrival) → first_in_line (filter (is_waiting (starts_below rate packets t) t) packets) ≡ best → Each (λ s. (p : Arrival) → Among p packets → goes_before p s.packet ≡ true → p.eligible ≤ s.tick → has_started (starts_below rate packets t) p ≡ true) (starts_below rate packets t)
          → Each (λ s. (p : Arrival) → Among p packets → goes_before p s.packet ≡ true → p.eligible ≤ s.tick → has_started (add_start best t (starts_below rate packets t)) p ≡ true) (add_start best t (starts_below rate packets t))
      added None none before = before
      added (Some q) first before = (
        (λ p among goes early. started-more (record { packet = q; tick = t }) (starts_below rate packets t) p (order-start packets (starts_below rate packets t) t q first p among goes early)),
        order-more packets (record { packet = q; tick = t }) (starts_below rate packets t) before,
      )
