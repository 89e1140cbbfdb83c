-- In an admissible history each packet of a channel has a size within the contract that the channel's reserves name.
use Rattle.std.proofs.Common.{◌≡◌, ℕ, suc, ◌+◌, Bool, true, false, List, [], ◌∷◌, length, Option, Some, None, refl, sym, ap, subst, inl, inr, arith}
use Rattle.std.proofs.lemmas.Bool.{cases_Bool, eqb-true, eqb-false, lt-ltb}
use Rattle.std.proofs.lemmas.List.Elements.{filter-append}
use Rattle.std.specs.Prelude.{filter, find, nat_eq}
use Rattle.link_steps.specs.declared.asks.Packet.{Packet}
use Rattle.link_steps.specs.declared.replies.Entry.{Entry}
use Rattle.link_steps.specs.declared.shape.LinkShape.{LinkShape}
use Rattle.link_steps.specs.Buffer.{has_slot}
use Rattle.link_steps.specs.Hold.{stays}
use Rattle.link_steps.specs.Admissible.{IsAdmissible}
use Rattle.link_steps.specs.Lists.{Each}
use Rattle.link_steps.specs.Rows.{Row, SourcePacket, is_for}
use Rattle.link_steps.specs.Scan.{Scan, clock_of, scan_of, is_row_of, arrived_packet, arrived_row, with_arrival, without_expired, with_sources, with_best, after_tick}
use Rattle.link_steps.specs.Service.{Arrival, here_at}
use Rattle.link_steps.specs.Sources.{source_step, step_of, packet_of, row_after, taken_by, source_packets, rows_after}
use Rattle.link_steps.specs.Effects.{Effect, Adds, Changes, Removes, Takes, Ticks, with_effect}
use Rattle.link_steps.proofs.EntryEffects.{TakeFits, EffectFits, by-fit, new_in}
use Rattle.link_steps.proofs.LegalOrder.{legal-order}
use Rattle.link_steps.proofs.RowsInOrder.{SizeFits, IsInOrder}
use Rattle.link_steps.proofs.SearchAndFilter.{Each-append, Each-filter, Each-find, Each-change_first, Each-without_first}
use Rattle.channel_laws.specs.Channels.{SizeWithin, HopTerms, is_of_channel, channel_packets, channel_of, AllOfferTerms}
use Rattle.channel_laws.proofs.ChannelRows.{NewTerms, new-terms, packets-on, packets-off, tick-packets}

abbrev pub NamesContract : HopTerms → ℕ → Row → Type 0
NamesContract terms c row = channel_of row ≡ c → row.terms.contract ≡ terms.contract

pub record SizesStand (terms : HopTerms) (c : ℕ) (scan : Scan) : Type 0 where
  pub rows : Each (NamesContract terms c) scan.rows
  pub sizes : Each (SizeWithin terms) (channel_packets c scan.packets)

-- a row's source
step-sizes : (terms : HopTerms) (c t place : ℕ) (shape : LinkShape) (now : ℕ) (row : Row) (slot : Bool) (found : Option SourcePacket) → find (is_for t) row.plan ≡ found → IsInOrder shape now row → NamesContract terms c row
    → Each (SizeWithin terms) (channel_packets c (packet_of (source_step slot found) t place row)) × NamesContract terms c (row_after (source_step slot found) t place row)
step-sizes terms c t place shape now row slot None is order names = (tt, names)
step-sizes terms c t place shape now row false (Some p) is order names = (tt, names)
step-sizes terms c t place shape now row true (Some p) is order names =
    elim (cases_Bool (nat_eq (channel_of row) c)) [
      | inl on ↦
          (let fits = (Each-find (SizeFits row.terms.contract.smax) (is_for t) row.plan p order.planned is).size_most in
          let same : row.terms.contract.smax ≡ terms.contract.smax = ap (λ k. k.smax) (names (eqb-true (channel_of row) c on)) in
          (rw (on, lt-ltb 0 (suc (length row.ticks)) (omega arith)) ((omega (arith, fits, same)), tt), names))
      | inr off ↦ (rw off tt, names)
    ]

sources-sizes : (terms : HopTerms) (c t : ℕ) (shape : LinkShape) (now : ℕ) (here : List Arrival) (taken : ℕ) (rows : List Row) → Each (IsInOrder shape now) rows → Each (NamesContract terms c) rows
    → Each (SizeWithin terms) (channel_packets c (source_packets shape.bounds here t taken rows)) × Each (NamesContract terms c) (rows_after shape.bounds here t taken rows)
unfolding source_packets rows_after step_of
sources-sizes terms c t shape now here taken [] order names = (tt, tt)
sources-sizes terms c t shape now here taken (row ∷ rows) order names =
    let one = step-sizes terms c t (suc taken) shape now row (has_slot shape.bounds row.terms row.lead here) (find (is_for t) row.plan) refl order.0 names.0 in
    let rest = sources-sizes terms c t shape now here (taken + taken_by (step_of shape.bounds here t row)) rows order.1 names.1 in (
      subst (Each (SizeWithin terms)) (sym (filter-append (is_of_channel c) (packet_of (step_of shape.bounds here t row) t (suc taken) row) (source_packets shape.bounds here t (taken + taken_by (step_of shape.bounds here t row)) rows))) (Each-append (SizeWithin terms) _ _ one.0 rest.0),
      (one.1, rest.1),
    )

module _ (shape : LinkShape) (terms : HopTerms) (c : ℕ) where
  tick-sizes : (t now : ℕ) (scan : Scan) → Each (IsInOrder shape now) scan.rows → SizesStand terms c scan → SizesStand terms c (after_tick shape t scan)
  unfolding after_tick with_best with_sources without_expired
  tick-sizes t now scan order stands =
      let new = sources-sizes terms c t shape now (here_at shape.rate scan.packets t) (length scan.packets) (filter (stays shape.bounds t) scan.rows) (Each-filter (IsInOrder shape now) (stays shape.bounds t) scan.rows order) (Each-filter (NamesContract terms c) (stays shape.bounds t) scan.rows stands.rows) in
      record {
        rows = new.1;
        sizes = subst (Each (SizeWithin terms)) (sym (tick-packets shape c t scan)) (Each-append (SizeWithin terms) _ _ stands.sizes new.0);
      }

  taken-sizes : (t : ℕ) (packet : Packet) (scan : Scan) (row : Row) → TakeFits shape t scan packet row → SizesStand terms c scan → SizesStand terms c (with_arrival t packet scan (Some row))
  unfolding with_arrival
  taken-sizes t packet scan row taken stands =
      let number = taken.takes.number in
      let fits = taken.takes.fits in
      let names = Each-find (NamesContract terms c) (is_row_of packet.chan) scan.rows row stands.rows taken.found in
      record {
        rows = Each-change_first (NamesContract terms c) (is_row_of packet.chan) (arrived_row t (suc (length scan.packets)) packet) scan.rows (λ r x. x) stands.rows;
        sizes = elim (cases_Bool (nat_eq (channel_of row) c)) [
          | inl on ↦
              (let own = eqb-true (channel_of row) c on in
              let contract : row.terms.contract.smax ≡ terms.contract.smax = ap (λ k. k.smax) (names own) in
              subst (Each (SizeWithin terms)) (sym (packets-on c scan.packets (arrived_packet t (suc (length scan.packets)) packet row) own (omega (arith, number)))) (Each-append (SizeWithin terms) _ _ stands.sizes ((omega (arith, fits, contract)), tt)))
          | inr off ↦ subst (Each (SizeWithin terms)) (sym (packets-off c scan.packets (arrived_packet t (suc (length scan.packets)) packet row) (eqb-false (channel_of row) c off))) stands.sizes
        ];
      }

  effect-sizes : (t : ℕ) (scan : Scan) (effect : Effect) → EffectFits shape t scan effect → Each (IsInOrder shape t) scan.rows → NewTerms terms c (new_in effect) → SizesStand terms c scan → SizesStand terms c (with_effect shape t scan effect)
  unfolding with_effect
  effect-sizes t scan (Adds new) fits order names stands = record { rows = Each-append (NamesContract terms c) scan.rows _ stands.rows ((λ own. (names own).contract_is), tt); sizes = stands.sizes }
  effect-sizes t scan (Changes chan change) fits order names stands = record { rows = Each-change_first (NamesContract terms c) _ _ scan.rows (λ r x. x) stands.rows; sizes = stands.sizes }
  effect-sizes t scan (Removes chan) fits order names stands = record { rows = Each-without_first (NamesContract terms c) _ scan.rows stands.rows; sizes = stands.sizes }
  effect-sizes t scan (Takes packet row) fits order names stands = taken-sizes t packet scan row fits stands
  effect-sizes t scan Ticks fits order names stands = tick-sizes t t scan order stands
  effect-sizes t scan _ fits order names stands = record { rows = stands.rows; sizes = stands.sizes }

  -- in every admissible history
  pub legal-sizes : (h : List Entry) → IsAdmissible shape h → AllOfferTerms terms c h → SizesStand terms c (scan_of shape h)
  unfolding IsAdmissible scan_of clock_of
  legal-sizes [] legal names = record { rows = tt; sizes = tt }
  legal-sizes (e ∷ past) legal names =
      by-fit (λ t scan. SizesStand terms c scan) shape past e legal.1
      (λ effect new fits. effect-sizes (clock_of past) (scan_of shape past) effect fits (legal-order shape past legal.0).held (new-terms terms c e.ask e.reply (new_in effect) new names.0) (legal-sizes past legal.0 names.1))

  pub legal-within : (h : List Entry) → IsAdmissible shape h → AllOfferTerms terms c h → Each (SizeWithin terms) (channel_packets c (scan_of shape h).packets)
  legal-within h legal names = (legal-sizes h legal names).sizes
