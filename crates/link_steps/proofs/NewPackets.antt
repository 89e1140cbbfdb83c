-- What an entry adds to the packets of a link stands after them, has the next arrival numbers, and is eligible at the clock of
-- the entry or later.
use Rattle.std.proofs.Common.{◌≡◌, ℕ, suc, ◌+◌, ◌<◌, List, [], ◌∷◌, ◌++◌, length, inl, inr, refl, sym, ap, ◌∙◌, subst, arith, append-nil, append_assoc, length-append}
use Rattle.std.specs.Prelude.{filter}
use Rattle.link_steps.specs.declared.asks.Ask.{Ask}
use Rattle.link_steps.specs.declared.replies.Entry.{Entry}
use Rattle.link_steps.specs.declared.replies.Reply.{Reply}
use Rattle.link_steps.specs.declared.shape.LinkShape.{LinkShape}
use Rattle.link_steps.specs.BestEffort.{best_packet}
use Rattle.link_steps.specs.Hold.{stays}
use Rattle.link_steps.specs.Belonging.{AreNumberedFrom}
use Rattle.link_steps.specs.Lists.{Each, Among}
use Rattle.link_steps.specs.Rows.{Row}
use Rattle.link_steps.specs.Scan.{Scan, clock_of, scan_of, arrived_packet, with_arrival, without_expired, with_sources, with_best, best_step_at, after_tick, after}
use Rattle.link_steps.specs.Service.{Arrival, here_at}
use Rattle.link_steps.specs.Sources.{SourceStep, Rests, Brings, Drops, step_of, packet_of, taken_by, source_packets}
use Rattle.link_steps.specs.Effects.{Effect, Takes, Ticks, effect_of, with_effect}
use Rattle.link_steps.proofs.EntryEffects.{by-effect}
use Rattle.link_steps.proofs.AccountOfRows.{eligible-from, source_packets-from}
use Rattle.link_steps.proofs.SearchAndFilter.{Each-append}
use Rattle.link_steps.proofs.ServiceStarts.{IsFrom}

-- the packets of two lists that are numbered one after the other
numbered-append : (n : ℕ) (packets more : List Arrival) → AreNumberedFrom n packets → AreNumberedFrom (n + length packets) more → AreNumberedFrom n (packets ++ more)
numbered-append n [] more first rest = subst (λ k. AreNumberedFrom k more) (omega arith) rest
numbered-append n (p ∷ packets) more first rest = (first.0, numbered-append (suc n) packets more first.1 (subst (λ k. AreNumberedFrom k more) (omega arith) rest))

-- `after` has new packets after those before, eligible at t or later
pub record AddsPackets (t : ℕ) (before after : List Arrival) : Type 0 where
  pub new : List Arrival
  pub are : after ≡ before ++ new
  pub from : Each (IsFrom t) new
  pub numbered : AreNumberedFrom (length before) new

adds-none : (t : ℕ) (packets : List Arrival) → AddsPackets t packets packets
adds-none t packets = record { new = []; are = sym (append-nil packets); from = tt; numbered = tt }

-- a best-effort packet is eligible in its tick
pub best-from : (bounds : List ℕ) (t place : ℕ) (step : SourceStep) → Each (IsFrom t) (best_packet step bounds place t)
best-from bounds t place Rests = tt
best-from bounds t place Drops = tt
best-from bounds t place (Brings size) = (omega arith, tt)

best-numbered : (bounds : List ℕ) (t taken : ℕ) (step : SourceStep) → AreNumberedFrom taken (best_packet step bounds (suc taken) t)
best-numbered bounds t taken Rests = tt
best-numbered bounds t taken Drops = tt
best-numbered bounds t taken (Brings size) = (refl, tt)

sources-numbered : (bounds : List ℕ) (here : List Arrival) (t taken : ℕ) (rows : List Row) → AreNumberedFrom taken (source_packets bounds here t taken rows)
unfolding source_packets
sources-numbered bounds here t taken [] = tt
sources-numbered bounds here t taken (row ∷ rows) = by-step (step_of bounds here t row) (sources-numbered bounds here t (taken + taken_by (step_of bounds here t row)) rows) where
  by-step : (step : SourceStep) → AreNumberedFrom (taken + taken_by step) (source_packets bounds here t (taken + taken_by step) rows) → AreNumberedFrom taken (packet_of step t (suc taken) row ++ source_packets bounds here t (taken + taken_by step) rows)
  by-step Rests rest = subst (λ n. AreNumberedFrom n (source_packets bounds here t (taken + 0) rows)) (omega arith) rest
  by-step Drops rest = subst (λ n. AreNumberedFrom n (source_packets bounds here t (taken + 0) rows)) (omega arith) rest
  by-step (Brings size) rest = (refl, subst (λ n. AreNumberedFrom n (source_packets bounds here t (taken + 1) rows)) (omega arith) rest)

pub adds-tick : (shape : LinkShape) (t : ℕ) (scan : Scan) → AddsPackets t scan.packets (after_tick shape t scan).packets
unfolding after_tick with_best with_sources without_expired
adds-tick shape t scan = adds (source_packets shape.bounds (here_at shape.rate scan.packets t) t (length scan.packets) (filter (stays shape.bounds t) scan.rows)) (source_packets-from shape.bounds (here_at shape.rate scan.packets t) t (length scan.packets) (filter (stays shape.bounds t) scan.rows)) (sources-numbered shape.bounds (here_at shape.rate scan.packets t) t (length scan.packets) (filter (stays shape.bounds t) scan.rows)) (best_step_at shape t scan) where
  adds : (sources : List Arrival) → Each (IsFrom t) sources → AreNumberedFrom (length scan.packets) sources → (step : SourceStep) → AddsPackets t scan.packets ((scan.packets ++ sources) ++ best_packet step shape.bounds (suc (length (scan.packets ++ sources))) t)
  adds sources from numbered step = record {
    new = sources ++ best_packet step shape.bounds (suc (length (scan.packets ++ sources))) t;
    are = append_assoc scan.packets sources (best_packet step shape.bounds (suc (length (scan.packets ++ sources))) t);
    from = Each-append (IsFrom t) sources _ from (best-from shape.bounds t (suc (length (scan.packets ++ sources))) step);
    numbered = numbered-append (length scan.packets) sources (best_packet step shape.bounds (suc (length (scan.packets ++ sources))) t) numbered
        (subst (λ n. AreNumberedFrom n (best_packet step shape.bounds (suc (length (scan.packets ++ sources))) t)) (length-append scan.packets sources) (best-numbered shape.bounds t (length (scan.packets ++ sources)) step));
  }

effect-packets : (shape : LinkShape) (t : ℕ) (scan : Scan) (effect : Effect) → AddsPackets t scan.packets (with_effect shape t scan effect).packets
unfolding with_effect with_arrival
effect-packets shape t scan (Takes packet row) = record {
  new = arrived_packet t (suc (length scan.packets)) packet row ∷ [];
  are = refl;
  from = (eligible-from row.terms row.ticks t packet.due, tt);
  numbered = (refl, tt);
}
effect-packets shape t scan Ticks = adds-tick shape t scan
effect-packets shape t scan _ = adds-none t scan.packets

pub packets-after : (shape : LinkShape) (t : ℕ) (scan : Scan) (ask : Ask) (reply : Reply) → AddsPackets t scan.packets (after shape t scan ask reply).packets
packets-after shape t scan ask reply = by-effect (λ clock later. AddsPackets t scan.packets later.packets) shape t scan ask reply (effect-packets shape t scan (effect_of scan ask reply))

-- ---- every entry

-- so the packets of every history have the arrival numbers from 1 on, in their order
pub packets-numbered : (shape : LinkShape) (h : List Entry) → AreNumberedFrom 0 (scan_of shape h).packets
unfolding scan_of
packets-numbered shape [] = tt
packets-numbered shape (e ∷ past) =
    let adds = packets-after shape (clock_of past) (scan_of shape past) e.ask e.reply in
    subst (AreNumberedFrom 0) (sym adds.are) (numbered-append 0 (scan_of shape past).packets adds.new (packets-numbered shape past) (subst (λ n. AreNumberedFrom n adds.new) (omega arith) adds.numbered))

-- ---- arrival numbers tell packets apart

number-above : (n : ℕ) (p : Arrival) (packets : List Arrival) → AreNumberedFrom n packets → Among p packets → n < p.place
number-above n p [] numbered among = absurd among
number-above n p (q ∷ packets) numbered (inl same) = (let place : p.place ≡ q.place = ap (λ r. r.place) same in omega (arith, place, numbered.0))
number-above n p (q ∷ packets) numbered (inr among) = (let above = number-above (suc n) p packets numbered.1 among in omega (arith, above))

pub same-number : (n : ℕ) (p q : Arrival) (packets : List Arrival) → AreNumberedFrom n packets → Among p packets → Among q packets → p.place ≡ q.place → p ≡ q
same-number n p q [] numbered one other same = absurd one
same-number n p q (r ∷ packets) numbered (inl first) (inl second) same = first ∙ sym second
same-number n p q (r ∷ packets) numbered (inl first) (inr second) same =
    absurd (let above = number-above (suc n) q packets numbered.1 second in let place : p.place ≡ r.place = ap (λ x. x.place) first in omega (arith, above, place, numbered.0, same))
same-number n p q (r ∷ packets) numbered (inr first) (inl second) same =
    absurd (let above = number-above (suc n) p packets numbered.1 first in let place : q.place ≡ r.place = ap (λ x. x.place) second in omega (arith, above, place, numbered.0, same))
same-number n p q (r ∷ packets) numbered (inr first) (inr second) same = same-number (suc n) p q packets numbered.1 first second same
