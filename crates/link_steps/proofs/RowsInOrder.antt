-- The rows of an admissible history, held or gone, are in order: each has a contract that its eligible ticks keep, no larger
-- packets than the link carries, and one of the link's levels. A row that isn't committed yet has no packets. One that
-- is closing has taken no more than its count, and nothing is planned for it any more.
use Rattle.std.proofs.Common.{◌≡◌, ℕ, zero, suc, ◌+◌, ◌-◌, ◌<◌, ◌≤◌, Bool, true, false, List, [], ◌∷◌, length, max, Option, Some, None, inl, inr, refl, sym, ap, ◌∙◌, subst, arith}
use Rattle.std.proofs.lemmas.Bool.{cases_Bool, ltb-true, eqb-true, and_from}
use Rattle.std.proofs.lemmas.Option.{same_Some}
use Rattle.std.specs.Prelude.{find}
use Rattle.net_units.specs.Numbers.{level_number}
use Rattle.net_units.specs.declared.numbers.Level.{Level}
use Rattle.traffic_contract.specs.Contract.{Traffic, IsContract}
use Rattle.traffic_contract.specs.Eligible.{eligible, newest}
use Rattle.traffic_contract.specs.Keeping.{may_follow, keeps_newest_first}
use Rattle.traffic_contract.proofs.LeastEligibleTick.{first_from-passes, may_follow-late}
use Rattle.link_steps.specs.declared.replies.Phase.TheVariants.{Tentative, Committed, Closing}
use Rattle.link_steps.specs.declared.shape.LinkShape.{LinkShape}
use Rattle.link_steps.specs.Lists.{Each}
use Rattle.link_steps.specs.Regulator.{waits_until, eligible_next}
use Rattle.link_steps.specs.Rows.{Row, SourcePacket, is_for, is_before, made_by, planned_from}
use Rattle.link_steps.specs.Scan.{relax_row, plan_row, close_row}
use Rattle.link_steps.specs.Service.{Arrival}
use Rattle.link_steps.specs.Sources.{with_packet, source_step, step_of, row_after, rows_after, taken_by}
use Rattle.link_steps.specs.Buffer.{has_slot}
use Rattle.link_steps.proofs.SearchAndFilter.{Each-append, Each-filter, Each-if, Each-find}
use Rattle.link_steps.proofs.FoundElements.{Each-passes}

-- a planned packet has a size from 1 to the largest
pub record SizeFits (most : ℕ) (p : SourcePacket) : Type 0 where
  pub size_least : 1 ≤ p.size
  pub size_most : p.size ≤ most

-- its tick was made by the clock
abbrev pub IsMade : ℕ → SourcePacket → Type 0
IsMade clock p = p.tick < clock

-- a row at this clock is in order
pub record IsInOrder (shape : LinkShape) (clock : ℕ) (row : Row) : Type 0 where
  pub contract : IsContract row.terms.contract
  pub narrow : row.terms.contract.smax ≤ shape.cap
  pub level_least : 1 ≤ level_number row.terms.level
  pub level_most : level_number row.terms.level ≤ length shape.bounds
  pub reach_most : level_number row.terms.reach ≤ length shape.bounds
  pub keeps : keeps_newest_first row.terms.contract row.ticks ≡ true
  pub planned : Each (SizeFits row.terms.contract.smax) row.plan
  pub fresh : row.terms.phase ≡ Tentative → (row.ticks ≡ []) × (row.plan ≡ [])
  pub counted : row.terms.phase ≡ Closing → length row.ticks ≤ row.terms.count
  pub cancelled : row.terms.phase ≡ Closing → Each (IsMade clock) row.plan

-- ---- one more eligible tick

-- the eligible tick keeps the contract with those before it
pub keeps-more : (c : Traffic) (past : List ℕ) (low : ℕ) → IsContract c → keeps_newest_first c past ≡ true → keeps_newest_first c (eligible c past low ∷ past) ≡ true
unfolding keeps_newest_first eligible
keeps-more c past low valid kept =
    let wide : c.xmin ≤ c.interval = omega (arith, valid.xave_least, valid.interval_least) in
    let follows = first_from-passes (may_follow c past) low (newest past + c.interval - low) (max low (newest past + c.interval)) (omega arith) (omega arith)
    (may_follow-late c past (max low (newest past + c.interval)) wide kept (omega arith)) in
    and_from _ _ follows kept

-- a row that isn't tentative, and that may take one more where it is closing, stays in order with one more packet
pub order-packet : (shape : LinkShape) (clock t place due : ℕ) (row : Row) → (row.terms.phase ≡ Tentative → ⊥) → (row.terms.phase ≡ Closing → length row.ticks < row.terms.count) → IsInOrder shape clock row → IsInOrder shape clock (with_packet place (eligible_next row.terms row.ticks t due) row)
unfolding eligible_next
order-packet shape clock t place due row settled counts order = record {
  contract = order.contract;
  narrow = order.narrow;
  level_least = order.level_least;
  level_most = order.level_most;
  reach_most = order.reach_most;
  keeps = keeps-more row.terms.contract row.ticks (waits_until row.terms.kind row.terms.first t due) order.contract order.keeps;
  planned = order.planned;
  fresh = λ tentative. absurd (settled tentative);
  counted = λ closes. (let h = counts closes in omega (arith, h));
  cancelled = order.cancelled;
}

-- ---- a tick later

-- a row in order is so a tick later
pub order-later : (shape : LinkShape) (t : ℕ) (row : Row) → IsInOrder shape t row → IsInOrder shape (suc t) row
order-later shape t row order = record {
  contract = order.contract;
  narrow = order.narrow;
  level_least = order.level_least;
  level_most = order.level_most;
  reach_most = order.reach_most;
  keeps = order.keeps;
  planned = order.planned;
  fresh = order.fresh;
  counted = order.counted;
  cancelled = λ closes. Each-if (IsMade t) (IsMade (suc t)) row.plan (λ p before. omega arith) (order.cancelled closes);
}

-- the packet that is found for t is planned for t
pub find-for : (t : ℕ) (plan : List SourcePacket) (p : SourcePacket) → find (is_for t) plan ≡ Some p → p.tick ≡ t
find-for t [] p found = cc
find-for t (q ∷ plan) p found =
    elim (cases_Bool (is_for t q)) [
      | inl passed ↦ subst (λ r. r.tick ≡ t) (same_Some q p (rw passed at found)) (eqb-true q.tick t passed)
      | inr failed ↦ find-for t plan p (rw failed at found)
    ]

-- nothing made before t is planned for t
made-none : (t : ℕ) (plan : List SourcePacket) (p : SourcePacket) → Each (IsMade t) plan → find (is_for t) plan ≡ Some p → ⊥
made-none t plan p made found =
    let before = Each-find (IsMade t) (is_for t) plan p made found in
    let now = find-for t plan p found in
    omega (arith, before, now)

-- a row of which a packet is planned for t is committed, and the packet has a size
pub source-settled : (shape : LinkShape) (t : ℕ) (row : Row) (p : SourcePacket) → find (is_for t) row.plan ≡ Some p → IsInOrder shape t row → (row.terms.phase ≡ Tentative → ⊥) × (row.terms.phase ≡ Closing → ⊥)
source-settled shape t row p found order =
    (λ tentative. none (ap (find (is_for t)) (order.fresh tentative).1 ∙ refl), λ closes. made-none t row.plan p (order.cancelled closes) found) where
      none : find (is_for t) row.plan ≡ None → ⊥
      none nothing = cc

-- a row after the step of its source
pub order-source : (shape : LinkShape) (t place : ℕ) (row : Row) (slot : Bool) (found : Option SourcePacket) → find (is_for t) row.plan ≡ found → IsInOrder shape t row → IsInOrder shape (suc t) (row_after (source_step slot found) t place row)
order-source shape t place row slot None is order = order-later shape t row order
order-source shape t place row true (Some p) is order =
    let settled = source-settled shape t row p is order in
    order-later shape t _ (order-packet shape t t place 0 row settled.0 (λ closes. absurd (settled.1 closes)) order)
order-source shape t place row false (Some p) is order = (let later = order-later shape t row order in record {
  contract = later.contract;
  narrow = later.narrow;
  level_least = later.level_least;
  level_most = later.level_most;
  reach_most = later.reach_most;
  keeps = later.keeps;
  planned = later.planned;
  fresh = later.fresh;
  counted = later.counted;
  cancelled = later.cancelled;
})

-- the rows after the sources of a tick
pub order-rows_after : (shape : LinkShape) (here : List Arrival) (t taken : ℕ) (rows : List Row) → Each (IsInOrder shape t) rows → Each (IsInOrder shape (suc t)) (rows_after shape.bounds here t taken rows)
unfolding rows_after step_of
order-rows_after shape here t taken [] each = tt
order-rows_after shape here t taken (row ∷ rows) each =
    (order-source shape t (suc taken) row (has_slot shape.bounds row.terms row.lead here) (find (is_for t) row.plan) refl each.0, order-rows_after shape here t (taken + taken_by (source_step (has_slot shape.bounds row.terms row.lead here) (find (is_for t) row.plan))) rows each.1)

-- ---- the changes of a row by an ask

-- a tentative row that is committed at one of the link's levels
pub order-relaxed : (shape : LinkShape) (t up_bound : ℕ) (level : Level) (row : Row) → level_number level ≤ length shape.bounds → IsInOrder shape t row → IsInOrder shape t (relax_row level up_bound row)
order-relaxed shape t up_bound level row most order = record {
  contract = order.contract;
  narrow = order.narrow;
  level_least = level.least;
  level_most = most;
  reach_most = order.reach_most;
  keeps = order.keeps;
  planned = order.planned;
  fresh = λ tentative. cc;
  counted = λ closes. cc;
  cancelled = λ closes. cc;
}

-- packets that are planned have the size of the submit
pub planned-sizes : (most u gap size count : ℕ) → 1 ≤ size → size ≤ most → Each (SizeFits most) (planned_from u gap size count)
unfolding planned_from
planned-sizes most u gap size zero least fits = tt
planned-sizes most u gap size (suc count) least fits = (record { size_least = least; size_most = fits }, planned-sizes most (u + gap) gap size count least fits)

-- a committed row for which packets are planned
pub order-planned : (shape : LinkShape) (t count gap size : ℕ) (row : Row) → row.terms.phase ≡ Committed → 1 ≤ size → size ≤ row.terms.contract.smax → IsInOrder shape t row → IsInOrder shape t (plan_row t count gap size row)
order-planned shape t count gap size row is least most order = record {
  contract = order.contract;
  narrow = order.narrow;
  level_least = order.level_least;
  level_most = order.level_most;
  reach_most = order.reach_most;
  keeps = order.keeps;
  planned = Each-append _ row.plan _ order.planned (planned-sizes row.terms.contract.smax t gap size count least most);
  fresh = λ tentative. absurd (let h : Committed ≡ Tentative = sym is ∙ tentative in cc);
  counted = order.counted;
  cancelled = λ closes. absurd (let h : Committed ≡ Closing = sym is ∙ closes in cc);
}

-- a row that is released with at least the count of its packets
pub order-closed : (shape : LinkShape) (t count : ℕ) (row : Row) → length row.ticks ≤ count → IsInOrder shape t row → IsInOrder shape t (close_row t count row)
order-closed shape t count row counts order = record {
  contract = order.contract;
  narrow = order.narrow;
  level_least = order.level_least;
  level_most = order.level_most;
  reach_most = order.reach_most;
  keeps = order.keeps;
  planned = Each-filter _ (is_before t) row.plan order.planned;
  fresh = λ tentative. cc;
  counted = λ closes. counts;
  cancelled = λ closes. Each-if (λ p. is_before t p ≡ true) (IsMade t) (made_by t row.plan) (λ p before. ltb-true p.tick t before) (Each-passes (is_before t) row.plan);
}
