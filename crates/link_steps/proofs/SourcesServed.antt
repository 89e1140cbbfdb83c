-- In every admissible history a source that keeps its contract finds a slot for each packet, and each is eligible in the tick
-- in which it arrives.
use Rattle.std.proofs.Common.{◌≡◌, ℕ, suc, ◌<◌, Bool, true, false, List, [], ◌∷◌, ◌++◌, length, map, Option, Some, None, refl, sym, ap, ◌∙◌, subst, arith, append-nil}
use Rattle.std.proofs.lemmas.Bool.{lt-ltb}
use Rattle.std.proofs.lemmas.List.{map-append, reverse-append, reverse-reverse}
use Rattle.std.specs.Prelude.{filter, find, reverse}
use Rattle.net_units.specs.Numbers.{level_number}
use Rattle.traffic_contract.specs.Keeping.{Keeps, may_follow}
use Rattle.traffic_contract.proofs.BurstIsPositive.{burst-least}
use Rattle.link_steps.specs.declared.shape.LinkShape.{LinkShape}
use Rattle.link_steps.specs.Buffer.{has_slot, held_packets, slots_of}
use Rattle.link_steps.specs.HopGuarantee.{HasLeftInTime}
use Rattle.link_steps.specs.Belonging.{eligible_of}
use Rattle.link_steps.specs.Lists.{Each}
use Rattle.link_steps.specs.Rows.{Row, SourcePacket, is_for, offered_by, tick_of}
use Rattle.link_steps.specs.Service.{Arrival, Start, is_here}
use Rattle.link_steps.specs.SourceGuarantee.{SourceKeeps}
use Rattle.link_steps.specs.Sources.{source_step, source_tick, step_of, packet_of, row_after}
use Rattle.link_steps.proofs.FreeSlots.{keeps-parts, source-now, slot-free}
use Rattle.link_steps.proofs.RowsInOrder.{IsInOrder, IsMade, source-settled}
use Rattle.link_steps.proofs.SearchAndFilter.{Each-append}
use Rattle.link_steps.proofs.PlanRises.{Rises, made-rests, made-next, made-before, made-all}

-- a row's source has lost nothing: its packets were eligible as they were offered, each in the tick of its arrival
pub record IsPrompt (clock : ℕ) (row : Row) (own : List Arrival) : Type 0 where
  pub none_dropped : row.dropped ≡ []
  pub as_offered : reverse row.ticks ≡ offered_by clock row
  pub at_once : Each (λ p. p.eligible ≡ p.at) own

-- a row and its packets: these have its eligible ticks, and its level, and where its source keeps the contract it has
-- lost nothing
pub record HasSource (clock : ℕ) (row : Row) (own : List Arrival) : Type 0 where
  pub eligible : reverse row.ticks ≡ map eligible_of own
  pub levels : Each (λ p. p.level ≡ level_number row.terms.level) own
  pub rises : Rises row.plan
  pub served : SourceKeeps clock row → IsPrompt clock row own

-- ---- what changes nothing of a source

-- the same of a row that has offered the same, and lost and taken the same
pub served-same : (t u : ℕ) (row after : Row) (own : List Arrival) → after.terms.first ≡ row.terms.first → after.terms.contract ≡ row.terms.contract → after.ticks ≡ row.ticks → after.dropped ≡ row.dropped → offered_by u after ≡ offered_by t row → (SourceKeeps t row → IsPrompt t row own) → SourceKeeps u after → IsPrompt u after own
served-same t u row after own first contract ticks dropped offered served kept =
    let keeps = subst (Keeps row.terms.contract) offered (subst (λ c. Keeps c (offered_by u after)) contract kept.keeps) in
    let before = served (record { first = sym first ∙ kept.first; keeps = keeps }) in
    record { none_dropped = dropped ∙ before.none_dropped; as_offered = ap reverse ticks ∙ before.as_offered ∙ sym offered; at_once = before.at_once }

-- a tick later nothing changes of a row of which all is made
pub source-later : (t : ℕ) (row : Row) (own : List Arrival) → Each (IsMade t) row.plan → HasSource t row own → HasSource (suc t) row own
source-later t row own made source = record {
  eligible = source.eligible;
  levels = source.levels;
  rises = source.rises;
  served = served-same t (suc t) row row own refl refl refl refl (ap (map tick_of) (made-all t (suc t) row.plan (omega arith) made ∙ sym (made-all t t row.plan (omega arith) made))) source.served;
}

-- the ticks and levels with one more packet
pub ticks-more : (row : Row) (own : List Arrival) (p : Arrival) → reverse row.ticks ≡ map eligible_of own → reverse (p.eligible ∷ row.ticks) ≡ map eligible_of (own ++ p ∷ [])
ticks-more row own p same =
    reverse-append (p.eligible ∷ []) row.ticks ∙ ap (λ ticks. ticks ++ p.eligible ∷ []) same ∙ sym (map-append eligible_of own (p ∷ []))

-- ---- a tick

-- a row as tick t begins, with the packets that are here
pub record IsReady (shape : LinkShape) (starts : List Start) (here : List Arrival) (t : ℕ) (row : Row) (own : List Arrival) : Type 0 where
  pub order : IsInOrder shape t row
  pub source : HasSource t row own
  pub held : held_packets row.lead here ≡ length (filter (is_here shape.rate starts t) own)
  pub left : Each (HasLeftInTime shape t starts) own

-- the source has lost nothing before t, its packet of tick t finds a slot, and is eligible at t
record FindsSlot (shape : LinkShape) (here : List Arrival) (t : ℕ) (row : Row) (own : List Arrival) : Type 0 where
  offered : offered_by (suc t) row ≡ offered_by t row ++ t ∷ []
  before : IsPrompt t row own
  now : source_tick row t ≡ t
  free : held_packets row.lead here < slots_of shape.bounds row.terms

-- where it keeps the contract with that packet
finds-slot : (shape : LinkShape) (starts : List Start) (here : List Arrival) (t : ℕ) (row : Row) (own : List Arrival) (p : SourcePacket) → find (is_for t) row.plan ≡ Some p → row.terms.first ≡ true → Keeps row.terms.contract (offered_by (suc t) row) → IsReady shape starts here t row own → FindsSlot shape here t row own
finds-slot shape starts here t row own p found first keeps ready =
    let next : offered_by (suc t) row ≡ offered_by t row ++ t ∷ [] = made-next t row.plan p ready.source.rises found in
    let kept = subst (Keeps row.terms.contract) next keeps in
    let parts = keeps-parts row.terms.contract (offered_by t row) t (burst-least row.terms.contract ready.order.contract) kept in
    let before = ready.source.served (record { first = first; keeps = parts.0 }) in
    let mapped : map eligible_of own ≡ offered_by t row = sym ready.source.eligible ∙ before.as_offered in
    let ticks : row.ticks ≡ reverse (offered_by t row) = sym (reverse-reverse row.ticks) ∙ ap reverse before.as_offered in
    let free = slot-free shape starts t row.terms own ready.order.contract (source-settled shape t row p found ready.order).0 ready.order.level_least ready.order.level_most ready.source.levels ready.left
    (subst (Each (λ e. e < t)) (sym mapped) (made-before t row.plan)) (subst (λ all. Keeps row.terms.contract (all ++ t ∷ [])) (sym mapped) kept) in
    let held = ready.held in
    record {
      offered = next;
      before = before;
      now = source-now row.terms row.ticks t first (subst (λ all. may_follow row.terms.contract all t ≡ true) (sym ticks) parts.1);
      free = omega (arith, held, free);
    }

-- a row after the step of its source
source-steps : (shape : LinkShape) (starts : List Start) (here : List Arrival) (t place : ℕ) (row : Row) (own : List Arrival) (slot : Bool) (found : Option SourcePacket) → has_slot shape.bounds row.terms row.lead here ≡ slot → find (is_for t) row.plan ≡ found → IsReady shape starts here t row own → HasSource (suc t) (row_after (source_step slot found) t place row) (own ++ packet_of (source_step slot found) t place row)
source-steps shape starts here t place row own slot None free is ready =
    rw (append-nil own) (record {
      eligible = ready.source.eligible;
      levels = ready.source.levels;
      rises = ready.source.rises;
      served = served-same t (suc t) row row own refl refl refl refl (ap (map tick_of) (made-rests t row.plan is)) ready.source.served;
    })
source-steps shape starts here t place row own true (Some p) free is ready =
    record {
      eligible = ticks-more row own _ ready.source.eligible;
      levels = Each-append _ own _ ready.source.levels (refl, tt);
      rises = ready.source.rises;
      served = λ kept.
          let finds = finds-slot shape starts here t row own p is kept.first kept.keeps ready in
          record {
            none_dropped = finds.before.none_dropped;
            as_offered = reverse-append (source_tick row t ∷ []) row.ticks ∙ ap (λ ticks. ticks ++ source_tick row t ∷ []) finds.before.as_offered ∙ ap (λ e. offered_by t row ++ e ∷ []) finds.now ∙ sym finds.offered;
            at_once = Each-append _ own _ finds.before.at_once (finds.now, tt);
          };
    }
source-steps shape starts here t place row own false (Some p) free is ready =
    rw (append-nil own) (record {
      eligible = ready.source.eligible;
      levels = ready.source.levels;
      rises = ready.source.rises;
      served = λ kept.
          let finds = finds-slot shape starts here t row own p is kept.first kept.keeps ready in
          absurd (let h : false ≡ true = sym free ∙ lt-ltb (held_packets row.lead here) (slots_of shape.bounds row.terms) finds.free in cc);
    })

-- the same of the step that its plan and the packets here give
pub source-step : (shape : LinkShape) (starts : List Start) (here : List Arrival) (t : ℕ) (row : Row) (own : List Arrival) (place : ℕ) → IsReady shape starts here t row own → HasSource (suc t) (row_after (step_of shape.bounds here t row) t place row) (own ++ packet_of (step_of shape.bounds here t row) t place row)
unfolding step_of
source-step shape starts here t row own place ready =
    source-steps shape starts here t place row own (has_slot shape.bounds row.terms row.lead here) (find (is_for t) row.plan) refl refl ready
