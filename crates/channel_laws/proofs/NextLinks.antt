-- Where each reserve of a history names a next link that has some property, or none, the rows and the packets of the link go on to
-- such links, and so does the packet that leaves in a tick.
use Rattle.std.proofs.Common.{◌≡◌, ℕ, suc, ◌+◌, true, List, [], ◌∷◌, Option, Some, None, length, refl, sym, subst, inl, inr}
use Rattle.std.proofs.lemmas.Bool.{cases_Bool}
use Rattle.std.proofs.lemmas.Option.{same_Some}
use Rattle.std.specs.Prelude.{filter, find, nat_eq, ◌&&◌, not, Bool}
use Rattle.net_units.specs.declared.numbers.LinkNo.{LinkNo}
use Rattle.link_steps.specs.declared.asks.Ask.{Ask}
use Rattle.link_steps.specs.declared.asks.Ask.TheVariants.{Reserve, Relax, Deny, Submit, Release, Arrive, Tick}
use Rattle.link_steps.specs.declared.asks.Packet.{Packet}
use Rattle.link_steps.specs.declared.replies.Entry.{Entry}
use Rattle.link_steps.specs.declared.replies.Reply.{Reply}
use Rattle.link_steps.specs.declared.replies.Reply.TheVariants as Is
use Rattle.link_steps.specs.declared.replies.Sent.{Sent}
use Rattle.link_steps.specs.declared.shape.LinkShape.{LinkShape}
use Rattle.link_steps.specs.BestEffort.{best_packet, is_best}
use Rattle.link_steps.specs.Hold.{stays}
use Rattle.link_steps.specs.Lists.{Each}
use Rattle.link_steps.specs.Replies.{sent_of, sent_at, tick_reply}
use Rattle.link_steps.specs.Rows.{Row}
use Rattle.link_steps.specs.Scan.{Scan, clock_of, is_row_of, is_row_at_hop, names_first_hop, relax_row, plan_row, close_row, arrived_row, with_arrival, without_expired, with_sources, with_best, best_step_at, after_tick, after, scan_of}
use Rattle.link_steps.specs.Service.{Arrival, Start, here_at, leaves_at, starts_below}
use Rattle.link_steps.specs.Sources.{SourceStep, Rests, Brings, Drops, step_of, packet_of, row_after, taken_by, source_packets, rows_after}
use Rattle.link_steps.proofs.SearchAndFilter.{Each-append, Each-filter, Each-find, Each-change_first, Each-without_first}
use Rattle.link_steps.proofs.ServiceStarts.{starts-fact}
use Rattle.channel_laws.proofs.SentInTime.{ticked-sent}

-- the ask reserves with such a next link, or reserves nothing
abbrev pub NamesNext : (Option LinkNo → Type 0) → Ask → Type 0
NamesNext P (Reserve chan contract kind delay up_reach first next) = P next
NamesNext P _ = Unit {0}

pub record NextsAre (P : Option LinkNo → Type 0) (scan : Scan) : Type 0 where
  pub rows : Each (λ (row : Row). P row.terms.next) scan.rows
  pub packets : Each (λ (p : Arrival). P p.next) scan.packets

module _ (P : Option LinkNo → Type 0) (none : P None) where
  abbrev RowNext : Row → Type 0
  RowNext row = P row.terms.next

  abbrev PacketNext : Arrival → Type 0
  PacketNext p = P p.next

  -- ---- a tick

  step-row : (t place : ℕ) (row : Row) (step : SourceStep) → RowNext row → RowNext (row_after step t place row)
  step-row t place row Rests is = is
  step-row t place row Drops is = is
  step-row t place row (Brings size) is = is

  step-packet : (t place : ℕ) (row : Row) (step : SourceStep) → RowNext row → Each PacketNext (packet_of step t place row)
  step-packet t place row Rests is = tt
  step-packet t place row Drops is = tt
  step-packet t place row (Brings size) is = (is, tt)

  source-rows : (bounds : List ℕ) (here : List Arrival) (t taken : ℕ) (rows : List Row) → Each RowNext rows → Each RowNext (rows_after bounds here t taken rows)
  unfolding rows_after
  source-rows bounds here t taken [] are = tt
  source-rows bounds here t taken (row ∷ rows) are = (step-row t (suc taken) row (step_of bounds here t row) are.0, source-rows bounds here t (taken + taken_by (step_of bounds here t row)) rows are.1)

  source-nexts : (bounds : List ℕ) (here : List Arrival) (t taken : ℕ) (rows : List Row) → Each RowNext rows → Each PacketNext (source_packets bounds here t taken rows)
  unfolding source_packets
  source-nexts bounds here t taken [] are = tt
  source-nexts bounds here t taken (row ∷ rows) are =
      Each-append PacketNext (packet_of (step_of bounds here t row) t (suc taken) row) _ (step-packet t (suc taken) row (step_of bounds here t row) are.0)
      (source-nexts bounds here t (taken + taken_by (step_of bounds here t row)) rows are.1)

  best-nexts : (bounds : List ℕ) (place t : ℕ) (step : SourceStep) → Each PacketNext (best_packet step bounds place t)
  best-nexts bounds place t Rests = tt
  best-nexts bounds place t Drops = tt
  best-nexts bounds place t (Brings size) = (none, tt)

  tick-nexts : (shape : LinkShape) (t : ℕ) (scan : Scan) → NextsAre P scan → NextsAre P (after_tick shape t scan)
  unfolding after_tick with_best with_sources without_expired
  tick-nexts shape t scan are =
      let held : Each RowNext (filter (stays shape.bounds t) scan.rows) = Each-filter RowNext (stays shape.bounds t) scan.rows are.rows in
      record {
        rows = source-rows shape.bounds (here_at shape.rate scan.packets t) t (length scan.packets) (filter (stays shape.bounds t) scan.rows) held;
        packets = Each-append PacketNext _ _ (Each-append PacketNext scan.packets _ are.packets (source-nexts shape.bounds (here_at shape.rate scan.packets t) t (length scan.packets) (filter (stays shape.bounds t) scan.rows) held)) (best-nexts shape.bounds _ t (best_step_at shape t scan));
      }

  -- ---- one entry

  arrival-nexts : (t : ℕ) (packet : Packet) (scan : Scan) (found : Option Row) → find (is_row_of packet.chan) scan.rows ≡ found → NextsAre P scan → NextsAre P (with_arrival t packet scan found)
  unfolding with_arrival
  arrival-nexts t packet scan None is are = are
  arrival-nexts t packet scan (Some row) is are = record {
    rows = Each-change_first RowNext (is_row_of packet.chan) (arrived_row t (suc (length scan.packets)) packet) scan.rows (λ r next. next) are.rows;
    packets = Each-append PacketNext scan.packets _ are.packets (Each-find RowNext (is_row_of packet.chan) scan.rows row are.rows is, tt);
  }

  pub after-nexts : (shape : LinkShape) (t : ℕ) (scan : Scan) (ask : Ask) (reply : Reply) → NamesNext P ask → NextsAre P scan → NextsAre P (after shape t scan ask reply)
  unfolding after
  after-nexts shape t scan (Reserve chan contract kind delay up_reach first next) (Is.Offer level reach) named are = record { rows = Each-append RowNext scan.rows _ are.rows (named, tt); packets = are.packets }
  after-nexts shape t scan (Relax chan level up_bound) (Is.Relaxed clock) named are = record { rows = Each-change_first RowNext (is_row_of chan) (relax_row level up_bound) scan.rows (λ r next. next) are.rows; packets = are.packets }
  after-nexts shape t scan (Deny chan) Is.Denied named are = record { rows = Each-without_first RowNext (is_row_of chan) scan.rows are.rows; packets = are.packets }
  after-nexts shape t scan (Submit chan count gap size) (Is.Planned clock) named are = record { rows = Each-change_first RowNext (is_row_at_hop chan true) (plan_row t count gap size) scan.rows (λ r next. next) are.rows; packets = are.packets }
  after-nexts shape t scan (Release chan upstream) (Is.Closing count cancelled) named are = record { rows = Each-change_first RowNext (is_row_at_hop chan (names_first_hop upstream)) (close_row t count) scan.rows (λ r next. next) are.rows; packets = are.packets }
  after-nexts shape t scan (Arrive packet) (Is.Taken clock eligible) named are = arrival-nexts t packet scan (find (is_row_of packet.chan) scan.rows) refl are
  after-nexts shape t scan Tick reply named are = tick-nexts shape t scan are
  after-nexts shape t scan _ (Is.Planned clock) named are = record { rows = are.rows; packets = are.packets }
  after-nexts shape t scan _ _ named are = are

  -- ---- a history

  pub history-nexts : (shape : LinkShape) (h : List Entry) → Each (λ (e : Entry). NamesNext P e.ask) h → NextsAre P (scan_of shape h)
  unfolding scan_of
  history-nexts shape [] named = record { rows = tt; packets = tt }
  history-nexts shape (e ∷ past) named = after-nexts shape (clock_of past) (scan_of shape past) e.ask e.reply named.0 (history-nexts shape past named.1)

  -- ---- what leaves in a tick

  first-next : (shape : LinkShape) (t : ℕ) (starts : List Start) (sent : Sent) → Each (λ (start : Start). P start.packet.next) starts → Some sent ≡ sent_at shape t starts → P sent.next
  unfolding sent_at
  first-next shape t [] sent are same = cc
  first-next shape t (start ∷ earlier) sent are same =
      elim (cases_Bool (nat_eq (leaves_at shape.rate start) t && not (is_best shape.bounds start.packet))) [
        | inl leaves ↦ (let is : sent ≡ sent_of shape start = same_Some sent (sent_of shape start) (rw leaves at same) in subst (λ s. P s.next) (sym is) are.0)
        | inr stays' ↦ (let clash : Some sent ≡ None = rw stays' at same in cc)
      ]

  pub sent-next : (shape : LinkShape) (t : ℕ) (scan : Scan) (clock full : ℕ) (sent : Sent) (best_sent best_lost : Bool) → NextsAre P scan → Is.Ticked clock full (Some sent) best_sent best_lost ≡ tick_reply shape t scan → P sent.next
  sent-next shape t scan clock full sent best_sent best_lost are same =
      let starts = starts-fact PacketNext shape.rate (after_tick shape t scan).packets (suc t) (tick-nexts shape t scan are).packets in
      first-next shape (suc t) (starts_below shape.rate (after_tick shape t scan).packets (suc t)) sent starts (ticked-sent _ _ _ _ _ _ _ _ _ _ same)
