-- In an admissible history a packet of one of the link's levels has a number, which counts the packets of its row from 1, and a
-- best-effort packet has the number 0.
use Rattle.std.proofs.Common.{◌≡◌, ℕ, suc, ◌+◌, ◌<◌, ◌≤◌, List, [], ◌∷◌, length, refl, arith}
use Rattle.std.specs.Prelude.{filter}
use Rattle.link_steps.specs.declared.replies.Entry.{Entry}
use Rattle.link_steps.specs.declared.shape.LinkShape.{LinkShape}
use Rattle.link_steps.specs.Admissible.{IsAdmissible}
use Rattle.link_steps.specs.BestEffort.{best_packet}
use Rattle.link_steps.specs.Hold.{stays}
use Rattle.link_steps.specs.Lists.{Each}
use Rattle.link_steps.specs.Rows.{Row}
use Rattle.link_steps.specs.Scan.{Scan, clock_of, is_row_of, with_arrival, without_expired, with_sources, with_best, best_step_at, after_tick, scan_of}
use Rattle.link_steps.specs.Service.{Arrival, here_at}
use Rattle.link_steps.specs.Sources.{SourceStep, Rests, Brings, Drops, step_of, packet_of, taken_by, source_packets}
use Rattle.link_steps.specs.Effects.{Effect, Takes, Ticks, with_effect}
use Rattle.link_steps.proofs.EntryEffects.{EffectFits, each-admissible}
use Rattle.link_steps.proofs.LegalOrder.{ScanInOrder, legal-order}
use Rattle.link_steps.proofs.RowsInOrder.{IsInOrder}
use Rattle.link_steps.proofs.SearchAndFilter.{Each-append, Each-filter, Each-find}

pub record HasNumber (bounds : List ℕ) (p : Arrival) : Type 0 where
  pub some : p.level ≤ length bounds → 1 ≤ p.number
  pub none : length bounds < p.level → p.number ≡ 0

step-numbers : (shape : LinkShape) (now t place : ℕ) (row : Row) (step : SourceStep) → IsInOrder shape now row → Each (HasNumber shape.bounds) (packet_of step t place row)
step-numbers shape now t place row Rests order = tt
step-numbers shape now t place row Drops order = tt
step-numbers shape now t place row (Brings size) order = (record { some = λ few. omega arith; none = λ over. absurd (let most = order.level_most in omega (arith, most, over)) }, tt)

source-numbers : (shape : LinkShape) (now : ℕ) (here : List Arrival) (t taken : ℕ) (rows : List Row) → Each (IsInOrder shape now) rows → Each (HasNumber shape.bounds) (source_packets shape.bounds here t taken rows)
unfolding source_packets
source-numbers shape now here t taken [] order = tt
source-numbers shape now here t taken (row ∷ rows) order =
    Each-append (HasNumber shape.bounds) (packet_of (step_of shape.bounds here t row) t (suc taken) row) _ (step-numbers shape now t (suc taken) row (step_of shape.bounds here t row) order.0)
    (source-numbers shape now here t (taken + taken_by (step_of shape.bounds here t row)) rows order.1)

best-numbers : (bounds : List ℕ) (place t : ℕ) (step : SourceStep) → Each (HasNumber bounds) (best_packet step bounds place t)
best-numbers bounds place t Rests = tt
best-numbers bounds place t Drops = tt
best-numbers bounds place t (Brings size) = (record { some = λ few. absurd (omega (arith, few)); none = λ over. refl }, tt)

tick-numbers : (shape : LinkShape) (t : ℕ) (scan : Scan) → ScanInOrder shape t scan → Each (HasNumber shape.bounds) scan.packets → Each (HasNumber shape.bounds) (after_tick shape t scan).packets
unfolding after_tick with_best with_sources without_expired
tick-numbers shape t scan order each =
    Each-append (HasNumber shape.bounds) _ _
    (Each-append (HasNumber shape.bounds) scan.packets _ each (source-numbers shape t (here_at shape.rate scan.packets t) t (length scan.packets) (filter (stays shape.bounds t) scan.rows) (Each-filter (IsInOrder shape t) (stays shape.bounds t) scan.rows order.held)))
    (best-numbers shape.bounds _ t (best_step_at shape t scan))

effect-numbers : (shape : LinkShape) (t : ℕ) (scan : Scan) (effect : Effect) → EffectFits shape t scan effect → ScanInOrder shape t scan → Each (HasNumber shape.bounds) scan.packets → Each (HasNumber shape.bounds) (with_effect shape t scan effect).packets
unfolding with_effect with_arrival
effect-numbers shape t scan (Takes packet row) fits order each =
    let number = fits.takes.number in
    let most = (Each-find (IsInOrder shape t) (is_row_of packet.chan) scan.rows row order.held fits.found).level_most in
    Each-append (HasNumber shape.bounds) scan.packets _ each (record { some = λ few. omega (arith, number); none = λ over. absurd (omega (arith, most, over)) }, tt)
effect-numbers shape t scan Ticks fits order each = tick-numbers shape t scan order each
effect-numbers shape t scan _ fits order each = each

pub packets-have_numbers : (shape : LinkShape) (h : List Entry) → IsAdmissible shape h → Each (HasNumber shape.bounds) (scan_of shape h).packets
packets-have_numbers shape h may =
    each-admissible (λ t scan. Each (HasNumber shape.bounds) scan.packets) shape tt
    (λ past effect before fits. effect-numbers shape (clock_of past) (scan_of shape past) effect fits (legal-order shape past before)) h may
