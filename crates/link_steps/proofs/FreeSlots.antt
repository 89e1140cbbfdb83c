-- A source that has kept its contract so far, and keeps it with a packet at tick t, finds a slot free at t, and the
-- packet is eligible at t. For the packets that are still here were eligible within the bound of the level before t:
-- with the new one they fall into a window as long as that bound, and the row has a slot for each packet that the
-- contract lets into a longer one.
use Rattle.std.proofs.Common.{◌≡◌, ℕ, suc, ◌+◌, ◌-◌, ◌<◌, ◌≤◌, Bool, true, false, cond, not, List, [], ◌∷◌, ◌++◌, length, map, inl, inr, refl, sym, ap, ◌∙◌, subst, arith, length-append}
use Rattle.std.proofs.lemmas.Bool.{cases_Bool, cases_lt, le-leb, lt-ltb, and_parts}
use Rattle.std.proofs.lemmas.List.{reverse-append, reverse-reverse}
use Rattle.std.proofs.lemmas.List.Elements.{filter-append}
use Rattle.std.specs.Prelude.{filter, reverse}
use Rattle.net_units.specs.Numbers.{level_number}
use Rattle.net_units.specs.LevelBounds.{bound_at}
use Rattle.net_units.specs.declared.Kind.{Kind}
use Rattle.net_units.proofs.BoundsInOrder.{bound-least}
use Rattle.traffic_contract.specs.Contract.{Traffic, IsContract, burst_of, most_in}
use Rattle.traffic_contract.specs.Eligible.{eligible, newest}
use Rattle.traffic_contract.specs.Keeping.{Keeps, may_follow, keeps_newest_first}
use Rattle.traffic_contract.specs.Window.{is_in_window, count_in}
use Rattle.traffic_contract.proofs.LeastEligibleTick.{first_from-reached, first_from-least}
use Rattle.traffic_contract.proofs.LongerWindows.{most_in-mono}
use Rattle.traffic_contract.proofs.NewestFirst.{Decides-keeps_newest_first}
use Rattle.traffic_contract.proofs.WindowsAreBounded.{count_in-le}
use Rattle.link_steps.specs.declared.replies.Phase.{Phase}
use Rattle.link_steps.specs.declared.replies.Phase.TheVariants.{Tentative, Committed, Closing}
use Rattle.link_steps.specs.declared.shape.LinkShape.{LinkShape}
use Rattle.link_steps.specs.Buffer.{slots_of, stay_in}
use Rattle.link_steps.specs.HopGuarantee.{HasLeftInTime}
use Rattle.link_steps.specs.Belonging.{eligible_of}
use Rattle.link_steps.specs.Lists.{Each}
use Rattle.link_steps.specs.Regulator.{waits_until, eligible_next}
use Rattle.link_steps.specs.Reservation.{Reservation}
use Rattle.link_steps.specs.Service.{Arrival, Start, is_here, has_departed}

-- ---- a list that keeps a contract with t

-- what comes before t keeps the contract, and t may follow it
pub keeps-parts : (c : Traffic) (ticks : List ℕ) (t : ℕ) → 1 ≤ burst_of c → Keeps c (ticks ++ t ∷ []) → Keeps c ticks × (may_follow c (reverse ticks) t ≡ true)
unfolding keeps_newest_first
keeps-parts c ticks t some kept =
    let turned : reverse (t ∷ reverse ticks) ≡ ticks ++ t ∷ [] = reverse-append (t ∷ []) (reverse ticks) ∙ ap (λ front. front ++ t ∷ []) (reverse-reverse ticks) in
    let newest : keeps_newest_first c (t ∷ reverse ticks) ≡ true = (Decides-keeps_newest_first c (t ∷ reverse ticks) some).1 (subst (Keeps c) (sym turned) kept) in
    let both = and_parts (may_follow c (reverse ticks) t) (keeps_newest_first c (reverse ticks)) newest in
    (subst (Keeps c) (reverse-reverse ticks) ((Decides-keeps_newest_first c (reverse ticks) some).0 both.1), both.0)

-- a tick that may follow is eligible itself
eligible-now : (c : Traffic) (past : List ℕ) (t : ℕ) → may_follow c past t ≡ true → eligible c past t ≡ t
unfolding eligible
eligible-now c past t follows =
    let least = first_from-least (may_follow c past) t (newest past + c.interval - t) t (omega arith) follows in
    let reached = first_from-reached (may_follow c past) t (newest past + c.interval - t) in
    omega (arith, least, reached)

-- so is the packet that arrives at it at a first hop
pub source-now : (terms : Reservation) (ticks : List ℕ) (t : ℕ) → terms.first ≡ true → may_follow terms.contract ticks t ≡ true → eligible_next terms ticks t 0 ≡ t
unfolding eligible_next
source-now terms ticks t first follows =
    rw (waits terms.kind terms.first first) (eligible-now terms.contract ticks t follows) where
      waits : (kind : Kind) (at_first : Bool) → at_first ≡ true → waits_until kind at_first t 0 ≡ t
      waits kind true is = refl
      waits kind false is = cc

-- ---- the packets here

-- a packet that is here was eligible less than its level's bound before t
here-late : (shape : LinkShape) (starts : List Start) (t level : ℕ) (p : Arrival) → level ≤ length shape.bounds → p.level ≡ level → is_here shape.rate starts t p ≡ true → HasLeftInTime shape t starts p → suc t - bound_at shape.bounds level ≤ p.eligible
here-late shape starts t level p upto is here left =
    elim (cases_lt t (p.eligible + bound_at shape.bounds p.level)) [
      | inl late ↦ (let e : bound_at shape.bounds p.level ≡ bound_at shape.bounds level = ap (bound_at shape.bounds) is in omega (arith, late, e))
      | inr reached ↦ absurd (away (has_departed shape.rate starts t p) (left.gone (omega (arith, is, upto)) reached) here)
    ] where
      away : (departed : Bool) → departed ≡ true → not departed ≡ true → ⊥
      away true departed stays = cc
      away false departed stays = cc

-- those here are among those eligible in a window as long as the bound
count-here : (shape : LinkShape) (starts : List Start) (t level : ℕ) (own : List Arrival) → level ≤ length shape.bounds → Each (λ p. p.level ≡ level) own → Each (HasLeftInTime shape t starts) own → Each (λ e. e < t) (map eligible_of own) → length (filter (is_here shape.rate starts t) own) ≤ count_in (map eligible_of own) (suc t - bound_at shape.bounds level) (bound_at shape.bounds level)
unfolding count_in
count-here shape starts t level [] upto levels left before = omega arith
count-here shape starts t level (p ∷ own) upto levels left before =
    let rest = count-here shape starts t level own upto levels.1 left.1 before.1 in
    let early = before.0 in
    elim (cases_Bool (is_here shape.rate starts t p)) [
      | inl here ↦ (let from = here-late shape starts t level p upto levels.0 here left.0 in rw (here, le-leb (suc t - bound_at shape.bounds level) p.eligible from, lt-ltb p.eligible (suc t - bound_at shape.bounds level + bound_at shape.bounds level) (omega (arith, early))) (omega (arith, rest)))
      | inr away ↦ rw away (more (is_in_window (suc t - bound_at shape.bounds level) (bound_at shape.bounds level) p.eligible) (length (filter (is_here shape.rate starts t) own)) (filter (is_in_window (suc t - bound_at shape.bounds level) (bound_at shape.bounds level)) (map eligible_of own)) rest)
    ] where
      more : (b : Bool) (n : ℕ) (inside : List ℕ) → n ≤ length inside → n ≤ length (cond b (p.eligible ∷ inside) inside)
      more true n inside rest = omega (arith, rest)
      more false n inside rest = rest

-- t itself is one more in the window
count-push : (ticks : List ℕ) (t u w : ℕ) → u ≤ t → t < u + w → count_in (ticks ++ t ∷ []) u w ≡ count_in ticks u w + 1
unfolding count_in
count-push ticks t u w from upto =
    let parts = filter-append (is_in_window u w) ticks (t ∷ []) in
    let sizes = length-append (filter (is_in_window u w) ticks) (t ∷ []) in
    rw parts (rw (le-leb u t from, lt-ltb t (u + w) upto) sizes)

-- ---- a slot is free

-- the slots of a row that isn't tentative are those of a window as long as its bound, or longer
slots-most : (bounds : List ℕ) (terms : Reservation) → IsContract terms.contract → (terms.phase ≡ Tentative → ⊥) → most_in terms.contract (bound_at bounds (level_number terms.level)) ≤ slots_of bounds terms
unfolding slots_of
slots-most bounds terms valid settled =
    most_in-mono terms.contract (bound_at bounds (level_number terms.level)) (stay_in terms.phase bounds terms) valid (stay terms.phase settled) where
      stay : (phase : Phase) → (phase ≡ Tentative → ⊥) → bound_at bounds (level_number terms.level) ≤ stay_in phase bounds terms
      stay Tentative settled = absurd (settled refl)
      stay Committed settled = omega arith
      stay Closing settled = omega arith

-- fewer packets of the row are here than it has slots
pub slot-free : (shape : LinkShape) (starts : List Start) (t : ℕ) (terms : Reservation) (own : List Arrival) → IsContract terms.contract → (terms.phase ≡ Tentative → ⊥) → 1 ≤ level_number terms.level → level_number terms.level ≤ length shape.bounds → Each (λ p. p.level ≡ level_number terms.level) own → Each (HasLeftInTime shape t starts) own → Each (λ e. e < t) (map eligible_of own) → Keeps terms.contract (map eligible_of own ++ t ∷ []) → length (filter (is_here shape.rate starts t) own) < slots_of shape.bounds terms
slot-free shape starts t terms own valid settled least most levels left before kept =
    let some = bound-least shape.bounds (level_number terms.level) shape.bounds_rise least most in
    let here = count-here shape starts t (level_number terms.level) own most levels left before in
    let one = count-push (map eligible_of own) t (suc t - bound_at shape.bounds (level_number terms.level)) (bound_at shape.bounds (level_number terms.level)) (omega (arith, some)) (omega arith) in
    let fits = count_in-le terms.contract (map eligible_of own ++ t ∷ []) (suc t - bound_at shape.bounds (level_number terms.level)) (bound_at shape.bounds (level_number terms.level)) valid kept in
    let slots = slots-most shape.bounds terms valid settled in
    omega (arith, here, one, fits, slots)
