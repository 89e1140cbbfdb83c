-- In an admissible history that offers to a channel at most once, all packets of the channel are those of its one row.
use Rattle.std.proofs.Common.{◌≡◌, ◌≢◌, ℕ, suc, ◌+◌, ◌≤◌, Bool, true, false, List, [], ◌∷◌, ◌++◌, length, map, Option, Some, None, refl, sym, ap, ◌∙◌, subst, inl, inr, arith, append-nil}
use Rattle.std.proofs.lemmas.Bool.{cases_Bool, eqb-true, eqb-false, eq-eqb, ne_eqb, lt-ltb, and_parts}
use Rattle.std.proofs.lemmas.List.{length-reverse, map-append, reverse-append, length-map}
use Rattle.std.proofs.lemmas.List.Elements.{filter-append}
use Rattle.std.proofs.lemmas.Option.{same_Some}
use Rattle.std.specs.Prelude.{filter, find, reverse, nat_eq, if◌then◌else◌}
use Rattle.net_units.specs.Numbers.{channel_number, level_number}
use Rattle.net_units.specs.declared.numbers.ChanNo.{ChanNo}
use Rattle.traffic_contract.specs.Contract.{IsContract}
use Rattle.traffic_contract.specs.Keeping.{keeps_newest_first}
use Rattle.link_steps.specs.declared.asks.Ask.{Ask}
use Rattle.link_steps.specs.declared.asks.Ask.TheVariants.{Reserve}
use Rattle.link_steps.specs.declared.asks.Packet.{Packet}
use Rattle.link_steps.specs.declared.replies.Entry.{Entry}
use Rattle.link_steps.specs.declared.replies.Reply.{Reply}
use Rattle.link_steps.specs.declared.replies.Reply.TheVariants as Is
use Rattle.link_steps.specs.declared.shape.LinkShape.{LinkShape}
use Rattle.link_steps.specs.Hold.{stays}
use Rattle.link_steps.specs.Admissible.{IsAdmissible}
use Rattle.link_steps.specs.Lists.{Each, change_first}
use Rattle.link_steps.specs.Regulator.{eligible_next}
use Rattle.link_steps.specs.Replies.{arrive_reply}
use Rattle.link_steps.specs.Reservation.{Reservation, is_of, is_same}
use Rattle.link_steps.specs.Rows.{Row, new_row, is_for, made_by}
use Rattle.link_steps.specs.Scan.{Scan, clock_of, is_row_of, is_row_at_hop, arrived_packet, arrived_row, with_arrival, without_expired, with_sources, with_best, best_step_at, after_tick, scan_of}
use Rattle.link_steps.specs.Service.{Arrival, here_at}
use Rattle.link_steps.specs.Buffer.{has_slot}
use Rattle.link_steps.specs.Sources.{SourceStep, Rests, Brings, Drops, source_step, arrival_at, with_packet, source_tick, step_of, packet_of, row_after, taken_by, source_packets, rows_after}
use Rattle.link_steps.specs.BestEffort.{best_packet}
use Rattle.link_steps.specs.Effects.{Change, Commits, Plans, Closes, Effect, Adds, Changes, Removes, Takes, Ticks, changed_row, is_changed, level_with, plan_with, with_effect}
use Rattle.link_steps.proofs.EntryEffects.{ChangeFits, TakeFits, EffectFits, changed-row, by-fit, new_in, offer_of}
use Rattle.link_steps.proofs.FoundElements.{Each-change_found}
use Rattle.link_steps.proofs.LegalChannels.{DifferInChannel, legal-channels, differ-filter}
use Rattle.link_steps.proofs.LegalOrder.{ScanInOrder, legal-order}
use Rattle.link_steps.proofs.RowsInOrder.{IsInOrder, keeps-more}
use Rattle.link_steps.proofs.SearchAndFilter.{Each-append, Each-filter, Each-find, Each-if, Each-change_first, Each-without_first, Each-mapped}
use Rattle.link_steps.proofs.ReservationFound.{arrive-tells}
use Rattle.channel_laws.specs.Channels.{HopTerms, is_of_channel, channel_packets, tick_of_packet, channel_of, offers_with, offers_to, OffersTerms, AllOfferTerms, AreNumberedAfter, RowTells, IsElsewhere, IsOnly, IsFree, HasOneRow, ChannelStands, NamesTerms}

-- ---- packets

numbered-push : (n : ℕ) (own : List Arrival) (p : Arrival) → AreNumberedAfter n own → p.number ≡ suc (n + length own)
    → AreNumberedAfter n (own ++ p ∷ [])
numbered-push n [] p are is = (omega (arith, is), tt)
numbered-push n (q ∷ own) p are is = (are.0, numbered-push (suc n) own p are.1 (omega (arith, is)))

none-mapped : (own : List Arrival) → map tick_of_packet own ≡ [] → own ≡ []
none-mapped [] none = refl
none-mapped (p ∷ own) none = cc

pub own-count : (ticks : List ℕ) (own : List Arrival) → reverse ticks ≡ map tick_of_packet own → length own ≡ length ticks
own-count ticks own same = sym (length-map own tick_of_packet) ∙ ap length (sym same) ∙ length-reverse ticks

pub packets-on : (c : ℕ) (packets : List Arrival) (p : Arrival) → channel_number p.chan ≡ c → 1 ≤ p.number
    → channel_packets c (packets ++ p ∷ []) ≡ channel_packets c packets ++ p ∷ []
packets-on c packets p same numbered = filter-append (is_of_channel c) packets (p ∷ []) ∙ rw (eq-eqb (channel_number p.chan) c same, lt-ltb 0 p.number numbered) refl

pub packets-off : (c : ℕ) (packets : List Arrival) (p : Arrival) → channel_number p.chan ≢ c
    → channel_packets c (packets ++ p ∷ []) ≡ channel_packets c packets
packets-off c packets p other = filter-append (is_of_channel c) packets (p ∷ []) ∙ rw (ne_eqb (channel_number p.chan) c other) (append-nil (channel_packets c packets))

-- best-effort packets are no channel's
best-none : (c place t : ℕ) (bounds : List ℕ) (step : SourceStep) → channel_packets c (best_packet step bounds place t) ≡ []
best-none c place t bounds (Brings size) =
    elim (cases_Bool (nat_eq 0 c)) [
      | inl same ↦ rw same refl
      | inr other ↦ rw other refl
    ]
best-none c place t bounds Rests = refl
best-none c place t bounds Drops = refl

-- the packets of a channel after a tick are those before it and those that the sources bring
pub tick-packets : (shape : LinkShape) (c t : ℕ) (scan : Scan)
    → channel_packets c (after_tick shape t scan).packets ≡ channel_packets c scan.packets ++ channel_packets c (source_packets shape.bounds (here_at shape.rate scan.packets t) t (length scan.packets) (filter (stays shape.bounds t) scan.rows))
unfolding after_tick with_best with_sources without_expired
tick-packets shape c t scan =
    filter-append (is_of_channel c) (scan.packets ++ source_packets shape.bounds (here_at shape.rate scan.packets t) t (length scan.packets) (filter (stays shape.bounds t) scan.rows)) _
    ∙ ap (λ x. channel_packets c (scan.packets ++ source_packets shape.bounds (here_at shape.rate scan.packets t) t (length scan.packets) (filter (stays shape.bounds t) scan.rows)) ++ x) (best-none c _ t shape.bounds (best_step_at shape t scan))
    ∙ append-nil _ ∙ filter-append (is_of_channel c) scan.packets _

-- ---- the row with one packet more

tells-more : (terms : HopTerms) (c place t due size : ℕ) (row : Row) (own : List Arrival) (p : Arrival) → RowTells terms c row own
    → p.eligible ≡ eligible_next row.terms row.ticks t due → p.number ≡ suc (length row.ticks) → p.level ≡ level_number row.terms.level
    → p.next ≡ row.terms.next → RowTells terms c (with_packet place (eligible_next row.terms row.ticks t due) row) (own ++ p ∷ [])
unfolding eligible_next
tells-more terms c place t due size row own p tells e number level next = record {
  chan = tells.chan;
  contract_is = tells.contract_is;
  kind_is = tells.kind_is;
  first_is = tells.first_is;
  next_is = tells.next_is;
  valid = tells.valid;
  keeps = subst (λ k. keeps_newest_first terms.contract (eligible_next row.terms row.ticks t due ∷ row.ticks) ≡ true) tells.contract_is (subst (λ k. keeps_newest_first k (eligible_next row.terms row.ticks t due ∷ row.ticks) ≡ true) tells.contract_is (keeps-more row.terms.contract row.ticks _ (subst IsContract (sym tells.contract_is) tells.valid) (subst (λ k. keeps_newest_first k row.ticks ≡ true) (sym tells.contract_is) tells.keeps)));
  eligible = reverse-append (eligible_next row.terms row.ticks t due ∷ []) row.ticks ∙ ap (λ ticks. ticks ++ eligible_next row.terms row.ticks t due ∷ []) tells.eligible ∙ ap (λ x. map tick_of_packet own ++ x ∷ []) (sym e) ∙ sym (map-append tick_of_packet own (p ∷ []));
  numbered = numbered-push 0 own p tells.numbered (let count = own-count row.ticks own tells.eligible in omega (arith, number, count));
  levels = Each-append (λ q. q.level ≡ level_number row.terms.level) own (p ∷ []) tells.levels (level, tt);
  nexts = Each-append (λ q. q.next ≡ terms.next) own (p ∷ []) tells.nexts (next ∙ tells.next_is, tt);
  unplanned = tells.unplanned;
}

-- ---- rows change

-- where nothing is found nothing changes
unchanged : (test : Row → Bool) (change : Row → Row) (rows : List Row) → find test rows ≡ None → change_first test change rows ≡ rows
unfolding change_first
unchanged test change [] none = refl
unchanged test change (row ∷ rows) none =
    elim (cases_Bool (test row)) [
      | inl passed ↦ absurd (let clash : Some row ≡ None = rw passed at none in cc)
      | inr failed ↦ rw failed (ap (λ rest. row ∷ rest) (unchanged test change rows (rw failed at none)))
    ]

-- the rows after one of the channel are of others
pub others-elsewhere : (c : ℕ) (row : Row) (rows : List Row) → channel_of row ≡ c → DifferInChannel (row ∷ rows) → Each (IsElsewhere c) rows
others-elsewhere c row rows same differ =
    Each-if (λ r. channel_of r ≢ channel_of row) (IsElsewhere c) rows (λ r other is. other (is ∙ sym same)) (Each-mapped (λ n. n ≢ channel_of row) channel_of rows differ.0)

only-elsewhere : (c : ℕ) (row : Row) (rows : List Row) → Each (IsElsewhere c) rows → Each (IsOnly c row) rows
only-elsewhere c row rows each = Each-if (IsElsewhere c) (IsOnly c row) rows (λ r other is. absurd (other is)) each

only-changed : (test : Row → Bool) (change : Row → Row) (c : ℕ) (row : Row) (rows : List Row)
    → ((r : Row) → test r ≡ true → channel_of r ≡ c) → DifferInChannel rows → find test rows ≡ Some row → Each (IsOnly c row) rows
    → Each (IsOnly c (change row)) (change_first test change rows)
unfolding change_first
only-changed test change c row [] tests differ found only = cc
only-changed test change c row (r ∷ rows) tests differ found only =
    elim (cases_Bool (test r)) [
      | inl passed ↦ (let same : r ≡ row = same_Some r row (rw passed at found) in rw passed ((λ is. ap change same), only-elsewhere c (change row) rows (others-elsewhere c r rows (tests r passed) differ)))
      | inr failed ↦ (let rest : find test rows ≡ Some row = rw failed at found in rw failed (
        (λ is. absurd (found-elsewhere rows (others-elsewhere c r rows is differ) rest)),
        only-changed test change c row rows tests differ.1 rest only.1,
      ))
    ] where
      found-elsewhere : (rs : List Row) → Each (IsElsewhere c) rs → find test rs ≡ Some row → ⊥
      found-elsewhere rs each is = Each-find (IsElsewhere c) test rs row each is (tests row (find-passes rs is)) where
        find-passes : (more : List Row) → find test more ≡ Some row → test row ≡ true
        find-passes [] none = cc
        find-passes (x ∷ more) some =
            elim (cases_Bool (test x)) [
              | inl passed ↦ subst (λ y. test y ≡ true) (same_Some x row (rw passed at some)) passed
              | inr failed ↦ find-passes more (rw failed at some)
            ]

pub find-passes : (test : Row → Bool) (row : Row) (more : List Row) → find test more ≡ Some row → test row ≡ true
find-passes test row [] none = cc
find-passes test row (x ∷ more) some =
    elim (cases_Bool (test x)) [
      | inl passed ↦ subst (λ y. test y ≡ true) (same_Some x row (rw passed at some)) passed
      | inr failed ↦ find-passes test row more (rw failed at some)
    ]

-- a change of the row of a channel found by its number
changed-stands : (terms : HopTerms) (c n : ℕ) (chan : ChanNo) (scan : Scan) (test : Row → Bool) (change : Row → Row)
    → ((r : Row) → test r ≡ true → channel_of r ≡ channel_number chan) → ((r : Row) → channel_of (change r) ≡ channel_of r)
    → DifferInChannel scan.rows
    → ((r : Row) → find test scan.rows ≡ Some r → RowTells terms c r (channel_packets c scan.packets) → RowTells terms c (change r) (channel_packets c scan.packets))
    → ChannelStands terms c n scan → ChannelStands terms c n (record scan { rows = change_first test change scan.rows })
changed-stands terms c n chan scan test change tests keeps differ tells stands = record {
  free = λ none. (let is = stands.free none in record { rows = Each-change_first (IsElsewhere c) test change scan.rows (λ r other same. other (sym (keeps r) ∙ same)) is.rows; packets = is.packets });
  known = λ one. by-channel (stands.known one);
} where
  by-found : (is : HasOneRow terms c scan) → channel_number chan ≡ c → (found : Option Row) → find test scan.rows ≡ found → HasOneRow terms c (record scan { rows = change_first test change scan.rows })
  by-found is same None none = record { row = is.row; tells = is.tells; only = subst (Each (IsOnly c is.row)) (sym (unchanged test change scan.rows none)) is.only }
  by-found is same (Some r) found =
      let own : r ≡ is.row = Each-find (IsOnly c is.row) test scan.rows r is.only found (tests r (find-passes test r scan.rows found) ∙ same) in
      let found' : find test scan.rows ≡ Some is.row = found ∙ ap Some own in
      record {
        row = change is.row;
        tells = tells is.row found' is.tells;
        only = only-changed test change c is.row scan.rows (λ x passed. tests x passed ∙ same) differ found' is.only;
      }

  by-channel : HasOneRow terms c scan → HasOneRow terms c (record scan { rows = change_first test change scan.rows })
  by-channel is =
      elim (cases_Bool (nat_eq (channel_number chan) c)) [
        | inl on ↦ by-found is (eqb-true (channel_number chan) c on) (find test scan.rows) refl
        | inr off ↦ record {
          row = is.row;
          tells = is.tells;
          only = Each-change_found (IsOnly c is.row) test change scan.rows (λ r found only same. absurd (eqb-false (channel_number chan) c off (sym (tests r (find-passes test r scan.rows found)) ∙ sym (keeps r) ∙ same))) is.only;
        }
      ]

pub row-of : (chan : ChanNo) (r : Row) → is_row_of chan r ≡ true → channel_of r ≡ channel_number chan
row-of chan r passed = eqb-true (channel_of r) (channel_number chan) passed

pub row-at-hop : (chan : ChanNo) (first : Bool) (r : Row) → is_row_at_hop chan first r ≡ true → channel_of r ≡ channel_number chan
row-at-hop chan first r passed = eqb-true (channel_of r) (channel_number chan) (and_parts (is_of chan r.terms) (is_same r.terms.first first) passed).0

at-first : (chan : ChanNo) (r : Row) → is_row_at_hop chan true r ≡ true → r.terms.first ≡ true
at-first chan r passed = same-true r.terms.first (and_parts (is_of chan r.terms) (is_same r.terms.first true) passed).1 where
  same-true : (b : Bool) → is_same b true ≡ true → b ≡ true
  same-true true is = refl
  same-true false is = cc

-- ---- an arrive

pub arrive-number : (bounds : List ℕ) (t : ℕ) (packet : Packet) (terms : Reservation) (taken held e clock eligible : ℕ)
    → Is.Taken clock eligible ≡ arrive_reply bounds t packet terms taken held e → packet.number ≡ suc taken
arrive-number bounds t packet terms taken held e clock eligible same = (arrive-tells bounds t packet terms taken held e clock eligible same).number

taken-stands : (shape : LinkShape) (terms : HopTerms) (c n t : ℕ) (packet : Packet) (scan : Scan) (row : Row)
    → TakeFits shape t scan packet row → DifferInChannel scan.rows → ChannelStands terms c n scan
    → ChannelStands terms c n (with_arrival t packet scan (Some row))
unfolding with_arrival
taken-stands shape terms c n t packet scan row fits differ stands =
    let is = fits.found in
    let chan : channel_of row ≡ channel_number packet.chan = row-of packet.chan row (find-passes (is_row_of packet.chan) row scan.rows is) in
    let number = fits.takes.number in
    record {
      free = λ none. (let was = stands.free none in
          let other : channel_of row ≢ c = Each-find (IsElsewhere c) (is_row_of packet.chan) scan.rows row was.rows is in record {
            rows = Each-change_first (IsElsewhere c) (is_row_of packet.chan) (arrived_row t (suc (length scan.packets)) packet) scan.rows (λ r x. x) was.rows;
            packets = packets-off c scan.packets (arrived_packet t (suc (length scan.packets)) packet row) other ∙ was.packets;
          });
      known = λ one. (let was = stands.known one in
          elim (cases_Bool (nat_eq (channel_of row) c)) [
            | inl on ↦ (let own : row ≡ was.row = Each-find (IsOnly c was.row) (is_row_of packet.chan) scan.rows row was.only is (eqb-true (channel_of row) c on) in
                record {
                  row = arrived_row t (suc (length scan.packets)) packet row;
                  tells = subst (RowTells terms c (arrived_row t (suc (length scan.packets)) packet row)) (sym (packets-on c scan.packets (arrived_packet t (suc (length scan.packets)) packet row) (eqb-true (channel_of row) c on) (omega (arith, number))))
                      (tells-more terms c (suc (length scan.packets)) t packet.due packet.size row (channel_packets c scan.packets) (arrived_packet t (suc (length scan.packets)) packet row) (subst (λ r. RowTells terms c r (channel_packets c scan.packets)) (sym own) was.tells) refl number refl refl);
                  only = only-changed (is_row_of packet.chan) (arrived_row t (suc (length scan.packets)) packet) c row scan.rows (λ r passed. row-of packet.chan r passed ∙ sym chan ∙ eqb-true (channel_of row) c on) differ is (subst (λ r. Each (IsOnly c r) scan.rows) (sym own) was.only);
                })
            | inr off ↦ (let other : channel_of row ≢ c = eqb-false (channel_of row) c off in record {
              row = was.row;
              tells = subst (RowTells terms c was.row) (sym (packets-off c scan.packets (arrived_packet t (suc (length scan.packets)) packet row) other)) was.tells;
              only = Each-change_found (IsOnly c was.row) (is_row_of packet.chan) (arrived_row t (suc (length scan.packets)) packet) scan.rows (λ r found only same'. absurd (other (chan ∙ sym (row-of packet.chan r (find-passes (is_row_of packet.chan) r scan.rows found)) ∙ same'))) was.only;
            })
          ]);
    }

-- ---- a tick

pub packet-elsewhere : (c t place : ℕ) (row : Row) (step : SourceStep) → channel_of row ≢ c
    → channel_packets c (packet_of step t place row) ≡ []
packet-elsewhere c t place row (Brings size) other = rw (ne_eqb (channel_of row) c other) refl
packet-elsewhere c t place row Rests other = refl
packet-elsewhere c t place row Drops other = refl

row-elsewhere : (c t place : ℕ) (row : Row) (step : SourceStep) → channel_of row ≢ c → channel_of (row_after step t place row) ≢ c
row-elsewhere c t place row (Brings size) other = other
row-elsewhere c t place row Rests other = other
row-elsewhere c t place row Drops other = other

pub sources-elsewhere : (c : ℕ) (bounds : List ℕ) (here : List Arrival) (t taken : ℕ) (rows : List Row) → Each (IsElsewhere c) rows
    → (channel_packets c (source_packets bounds here t taken rows) ≡ []) × Each (IsElsewhere c) (rows_after bounds here t taken rows)
unfolding source_packets rows_after
sources-elsewhere c bounds here t taken [] each = (refl, tt)
sources-elsewhere c bounds here t taken (row ∷ rows) each =
    let step : SourceStep = step_of bounds here t row in
    let rest = sources-elsewhere c bounds here t (taken + taken_by (step_of bounds here t row)) rows each.1 in (
      filter-append (is_of_channel c) (packet_of (step_of bounds here t row) t (suc taken) row) _ ∙ rw (packet-elsewhere c t (suc taken) row (step_of bounds here t row) each.0, rest.0) refl,
      (row-elsewhere c t (suc taken) row (step_of bounds here t row) each.0, rest.1),
    )

-- a row and its packets after the step of its source
tells-step : (terms : HopTerms) (c t place : ℕ) (row : Row) (own : List Arrival) (step : SourceStep) → RowTells terms c row own
    → RowTells terms c (row_after step t place row) (own ++ channel_packets c (packet_of step t place row))
tells-step terms c t place row own Rests tells = rw (append-nil own) tells
tells-step terms c t place row own Drops tells = rw (append-nil own) (record {
  chan = tells.chan;
  contract_is = tells.contract_is;
  kind_is = tells.kind_is;
  first_is = tells.first_is;
  next_is = tells.next_is;
  valid = tells.valid;
  keeps = tells.keeps;
  eligible = tells.eligible;
  numbered = tells.numbered;
  levels = tells.levels;
  nexts = tells.nexts;
  unplanned = tells.unplanned;
})
tells-step terms c t place row own (Brings size) tells =
    rw (eq-eqb (channel_of row) c tells.chan, lt-ltb 0 (suc (length row.ticks)) (omega arith))
    (tells-more terms c place t 0 size row own (arrival_at row.terms row.lead place (suc (length row.ticks)) size t (source_tick row t)) tells refl refl refl refl)

pub record SourcesTell (terms : HopTerms) (c : ℕ) (own new : List Arrival) (rows : List Row) : Type 0 where
  pub row : Row
  pub tells : RowTells terms c row (own ++ new)
  pub only : Each (IsOnly c row) rows

sources-tell : (terms : HopTerms) (c : ℕ) (bounds : List ℕ) (here : List Arrival) (t taken : ℕ) (rows : List Row) (row : Row) (own : List Arrival)
    → DifferInChannel rows → RowTells terms c row own → Each (IsOnly c row) rows
    → SourcesTell terms c own (channel_packets c (source_packets bounds here t taken rows)) (rows_after bounds here t taken rows)
unfolding source_packets rows_after
sources-tell terms c bounds here t taken [] row own differ tells only = record { row = row; tells = rw (append-nil own) tells; only = tt }
sources-tell terms c bounds here t taken (r ∷ rows) row own differ tells only =
    elim (cases_Bool (nat_eq (channel_of r) c)) [
      | inl on ↦
          (let is : channel_of r ≡ c = eqb-true (channel_of r) c on in
          let same : r ≡ row = only.0 is in
          let rest = sources-elsewhere c bounds here t (taken + taken_by (step_of bounds here t r)) rows (others-elsewhere c r rows is differ) in
          let new : channel_packets c (packet_of (step_of bounds here t r) t (suc taken) r ++ source_packets bounds here t (taken + taken_by (step_of bounds here t r)) rows) ≡ channel_packets c (packet_of (step_of bounds here t r) t (suc taken) r) =
          filter-append (is_of_channel c) (packet_of (step_of bounds here t r) t (suc taken) r) _ ∙ ap (λ x. channel_packets c (packet_of (step_of bounds here t r) t (suc taken) r) ++ x) rest.0 ∙ append-nil _ in
          record {
            row = row_after (step_of bounds here t r) t (suc taken) r;
            tells = subst (λ x. RowTells terms c (row_after (step_of bounds here t r) t (suc taken) r) (own ++ x)) (sym new) (tells-step terms c t (suc taken) r own (step_of bounds here t r) (subst (λ x. RowTells terms c x own) (sym same) tells));
            only = ((λ any. refl), only-elsewhere c _ _ rest.1);
          })
      | inr off ↦
          (let other : channel_of r ≢ c = eqb-false (channel_of r) c off in
          let rest = sources-tell terms c bounds here t (taken + taken_by (step_of bounds here t r)) rows row own differ.1 tells only.1 in
          let new : channel_packets c (packet_of (step_of bounds here t r) t (suc taken) r ++ source_packets bounds here t (taken + taken_by (step_of bounds here t r)) rows) ≡ channel_packets c (source_packets bounds here t (taken + taken_by (step_of bounds here t r)) rows) =
          filter-append (is_of_channel c) (packet_of (step_of bounds here t r) t (suc taken) r) _ ∙ ap (λ x. x ++ channel_packets c (source_packets bounds here t (taken + taken_by (step_of bounds here t r)) rows)) (packet-elsewhere c t (suc taken) r (step_of bounds here t r) other) in
          record {
            row = rest.row;
            tells = subst (λ x. RowTells terms c rest.row (own ++ x)) (sym new) rest.tells;
            only = ((λ is. absurd (row-elsewhere c t (suc taken) r (step_of bounds here t r) other is)), rest.only);
          })
    ]

tick-stands : (shape : LinkShape) (terms : HopTerms) (c n t : ℕ) (scan : Scan) → DifferInChannel scan.rows → ChannelStands terms c n scan
    → ChannelStands terms c n (after_tick shape t scan)
unfolding after_tick with_best with_sources without_expired
tick-stands shape terms c n t scan differ stands = record {
  free = λ none. (let was = stands.free none in
      let new = sources-elsewhere c shape.bounds (here_at shape.rate scan.packets t) t (length scan.packets) (filter (stays shape.bounds t) scan.rows) (Each-filter (IsElsewhere c) (stays shape.bounds t) scan.rows was.rows) in
      record { rows = new.1; packets = tick-packets shape c t scan ∙ rw (was.packets, new.0) refl });
  known = λ one. (let was = stands.known one in
      let new = sources-tell terms c shape.bounds (here_at shape.rate scan.packets t) t (length scan.packets) (filter (stays shape.bounds t) scan.rows) was.row (channel_packets c scan.packets) (differ-filter (stays shape.bounds t) scan.rows differ) was.tells (Each-filter (IsOnly c was.row) (stays shape.bounds t) scan.rows was.only) in
      record { row = new.row; tells = subst (RowTells terms c new.row) (sym (tick-packets shape c t scan)) new.tells; only = new.only });
}

-- the sources of a tick bring no packet of a channel whose first hop isn't here
pub sources-none : (c : ℕ) (bounds : List ℕ) (here : List Arrival) (t taken : ℕ) (rows : List Row) (row : Row) → row.plan ≡ []
    → DifferInChannel rows → Each (IsOnly c row) rows → channel_packets c (source_packets bounds here t taken rows) ≡ []
unfolding source_packets step_of
sources-none c bounds here t taken [] row none differ only = refl
sources-none c bounds here t taken (r ∷ rows) row none differ only =
    elim (cases_Bool (nat_eq (channel_of r) c)) [
      | inl on ↦
          (let is : channel_of r ≡ c = eqb-true (channel_of r) c on in
          let rest = sources-elsewhere c bounds here t (taken + taken_by (step_of bounds here t r)) rows (others-elsewhere c r rows is differ) in
          let rests : step_of bounds here t r ≡ Rests = ap (λ p. source_step (has_slot bounds r.terms r.lead here) (find (is_for t) p)) (ap (λ x. x.plan) (only.0 is) ∙ none) in
          filter-append (is_of_channel c) (packet_of (step_of bounds here t r) t (suc taken) r) _ ∙ ap (λ x. channel_packets c (packet_of (step_of bounds here t r) t (suc taken) r) ++ x) rest.0 ∙ ap (λ step. channel_packets c (packet_of step t (suc taken) r) ++ []) rests)
      | inr off ↦
          (let other : channel_of r ≢ c = eqb-false (channel_of r) c off in
          let rest = sources-none c bounds here t (taken + taken_by (step_of bounds here t r)) rows row none differ.1 only.1 in
          filter-append (is_of_channel c) (packet_of (step_of bounds here t r) t (suc taken) r) _ ∙ ap (λ x. x ++ channel_packets c (source_packets bounds here t (taken + taken_by (step_of bounds here t r)) rows)) (packet-elsewhere c t (suc taken) r (step_of bounds here t r) other) ∙ rest)
    ]

pub tick-none : (shape : LinkShape) (terms : HopTerms) (c t : ℕ) (scan : Scan) → terms.first ≡ false → DifferInChannel scan.rows
    → HasOneRow terms c scan → channel_packets c (after_tick shape t scan).packets ≡ channel_packets c scan.packets
unfolding after_tick with_best with_sources without_expired
tick-none shape terms c t scan later differ has =
    tick-packets shape c t scan ∙ ap (λ x. channel_packets c scan.packets ++ x) (sources-none c shape.bounds (here_at shape.rate scan.packets t) t (length scan.packets) (filter (stays shape.bounds t) scan.rows) has.row (has.tells.unplanned later) (differ-filter (stays shape.bounds t) scan.rows differ) (Each-filter (IsOnly c has.row) (stays shape.bounds t) scan.rows has.only)) ∙ append-nil _

-- nor of one that has no row here
pub tick-free : (shape : LinkShape) (c t : ℕ) (scan : Scan) → IsFree c scan
    → channel_packets c (after_tick shape t scan).packets ≡ channel_packets c scan.packets
unfolding after_tick with_best with_sources without_expired
tick-free shape c t scan free =
    tick-packets shape c t scan ∙ ap (λ x. channel_packets c scan.packets ++ x) (sources-elsewhere c shape.bounds (here_at shape.rate scan.packets t) t (length scan.packets) (filter (stays shape.bounds t) scan.rows) (Each-filter (IsElsewhere c) (stays shape.bounds t) scan.rows free.rows)).0 ∙ append-nil _

-- ---- a reserve

-- the number of offers to the channel with a new reservation, if there is one, and that this names the terms if it is the channel's
abbrev pub offers_new : ℕ → ℕ → Option Reservation → ℕ
offers_new c n None = n
offers_new c n (Some new) = if nat_eq (channel_number new.chan) c then suc n else n

abbrev pub NewTerms : HopTerms → ℕ → Option Reservation → Type 0
NewTerms terms c None = Unit {0}
NewTerms terms c (Some new) = channel_number new.chan ≡ c → NamesTerms terms new.contract new.kind new.first new.next

pub offers-new : (c n : ℕ) (ask : Ask) (reply : Reply) (new : Option Reservation) → new ≡ offer_of ask reply
    → offers_new c n new ≡ offers_with c n ask reply
offers-new c n ask reply new is = ap (offers_new c n) is ∙ offered ask reply where
  offered : (ask : Ask) (reply : Reply) → offers_new c n (offer_of ask reply) ≡ offers_with c n ask reply
  offered (Reserve chan contract kind delay up_reach first next) (Is.Offer level reach) = refl
  offered _ _ = refl

pub new-terms : (terms : HopTerms) (c : ℕ) (ask : Ask) (reply : Reply) (new : Option Reservation) → new ≡ offer_of ask reply
    → OffersTerms terms c ask reply → NewTerms terms c new
new-terms terms c ask reply new is names = subst (NewTerms terms c) (sym is) (offered ask reply names) where
  offered : (ask : Ask) (reply : Reply) → OffersTerms terms c ask reply → NewTerms terms c (offer_of ask reply)
  offered (Reserve chan contract kind delay up_reach first next) (Is.Offer level reach) names = names
  offered _ _ names = tt

added-stands : (terms : HopTerms) (c n : ℕ) (scan : Scan) (new : Reservation) → IsContract new.contract → NewTerms terms c (Some new)
    → ChannelStands terms c n scan
    → ChannelStands terms c (offers_new c n (Some new)) (record scan { rows = scan.rows ++ new_row new ∷ [] })
unfolding keeps_newest_first
added-stands terms c n scan new valid names stands =
    elim (cases_Bool (nat_eq (channel_number new.chan) c)) [
      | inl on ↦
          (let is : channel_number new.chan ≡ c = eqb-true (channel_number new.chan) c on in
          let tells = names is in
          rw on (record {
            free = λ none. absurd (omega (arith, none));
            known = λ one. (let was = stands.free (omega (arith, one)) in record {
              row = new_row new;
              tells = record {
                chan = is;
                contract_is = tells.contract_is;
                kind_is = tells.kind_is;
                first_is = tells.first_is;
                next_is = tells.next_is;
                valid = subst IsContract tells.contract_is valid;
                keeps = refl;
                eligible = ap (map tick_of_packet) (sym was.packets);
                numbered = subst (AreNumberedAfter 0) (sym was.packets) tt;
                levels = subst (Each (λ p. p.level ≡ level_number new.level)) (sym was.packets) tt;
                nexts = subst (Each (λ p. p.next ≡ terms.next)) (sym was.packets) tt;
                unplanned = λ later. refl;
              };
              only = Each-append (IsOnly c _) scan.rows _ (only-elsewhere c _ scan.rows was.rows) ((λ any. refl), tt);
            });
          }))
      | inr off ↦
          (let other : channel_number new.chan ≢ c = eqb-false (channel_number new.chan) c off in
          rw off (record {
            free = λ none. (let was = stands.free (omega (arith, none)) in record { rows = Each-append (IsElsewhere c) scan.rows _ was.rows (other, tt); packets = was.packets });
            known = λ one. (let was = stands.known (omega (arith, one)) in record { row = was.row; tells = was.tells; only = Each-append (IsOnly c was.row) scan.rows _ was.only ((λ is. absurd (other is)), tt) });
          }))
    ]

-- ---- a changed row

levels-changed : (shape : LinkShape) (terms : HopTerms) (c t : ℕ) (change : Change) (row : Row) (own : List Arrival)
    → ChangeFits shape t change row → IsInOrder shape t row → RowTells terms c row own
    → Each (λ p. p.level ≡ level_number (level_with change row.terms.level)) own
levels-changed shape terms c t (Commits level up_bound) row own fits order tells =
    let none : own ≡ [] = none-mapped own (sym tells.eligible ∙ ap reverse (order.fresh fits.offer.phase).0) in
    subst (Each (λ p. p.level ≡ level_number level)) (sym none) tt
levels-changed shape terms c t (Plans count gap size) row own fits order tells = tells.levels
levels-changed shape terms c t (Closes first count) row own fits order tells = tells.levels

unplanned-changed : (terms : HopTerms) (c t : ℕ) (chan : ChanNo) (change : Change) (row : Row) (own : List Arrival)
    → is_changed chan change row ≡ true → RowTells terms c row own → terms.first ≡ false → plan_with t change row.plan ≡ []
unplanned-changed terms c t chan (Commits level up_bound) row own passed tells later = tells.unplanned later
unplanned-changed terms c t chan (Plans count gap size) row own passed tells later = absurd (let clash : false ≡ true = sym later ∙ sym tells.first_is ∙ at-first chan row passed in cc)
unplanned-changed terms c t chan (Closes first count) row own passed tells later = ap (made_by t) (tells.unplanned later)

tells-changed : (shape : LinkShape) (terms : HopTerms) (c t : ℕ) (chan : ChanNo) (change : Change) (row : Row) (own : List Arrival)
    → is_changed chan change row ≡ true → ChangeFits shape t change row → IsInOrder shape t row → RowTells terms c row own
    → RowTells terms c (changed_row t change row) own
tells-changed shape terms c t chan change row own passed fits order tells = record {
  chan = tells.chan;
  contract_is = tells.contract_is;
  kind_is = tells.kind_is;
  first_is = tells.first_is;
  next_is = tells.next_is;
  valid = tells.valid;
  keeps = tells.keeps;
  eligible = tells.eligible;
  numbered = tells.numbered;
  levels = levels-changed shape terms c t change row own fits order tells;
  nexts = tells.nexts;
  unplanned = unplanned-changed terms c t chan change row own passed tells;
}

-- ---- each effect

effect-stands : (shape : LinkShape) (terms : HopTerms) (c n t : ℕ) (scan : Scan) (effect : Effect) → EffectFits shape t scan effect
    → ScanInOrder shape t scan → DifferInChannel scan.rows → NewTerms terms c (new_in effect) → ChannelStands terms c n scan
    → ChannelStands terms c (offers_new c n (new_in effect)) (with_effect shape t scan effect)
unfolding with_effect
effect-stands shape terms c n t scan (Adds new) fits order differ names stands = added-stands terms c n scan new fits.asked.is_contract names stands
effect-stands shape terms c n t scan (Changes chan change) fits order differ names stands =
    changed-stands terms c n chan scan (is_changed chan change) (changed_row t change) (changed-row chan change) (λ r. refl) differ (λ r found tells.
    tells-changed shape terms c t chan change r (channel_packets c scan.packets) (find-passes (is_changed chan change) r scan.rows found) (fits r found) (Each-find (IsInOrder shape t) (is_changed chan change) scan.rows r order.held found) tells) stands
effect-stands shape terms c n t scan (Removes chan) fits order differ names stands = record {
  free = λ none. (let was = stands.free none in record { rows = Each-without_first (IsElsewhere c) (is_row_of chan) scan.rows was.rows; packets = was.packets });
  known = λ one. (let was = stands.known one in record { row = was.row; tells = was.tells; only = Each-without_first (IsOnly c was.row) (is_row_of chan) scan.rows was.only });
}
effect-stands shape terms c n t scan (Takes packet row) fits order differ names stands = taken-stands shape terms c n t packet scan row fits differ stands
effect-stands shape terms c n t scan Ticks fits order differ names stands = tick-stands shape terms c n t scan differ stands
effect-stands shape terms c n t scan _ fits order differ names stands = record {
  free = λ none. (let was = stands.free none in record { rows = was.rows; packets = was.packets });
  known = λ one. (let was = stands.known one in record { row = was.row; tells = was.tells; only = was.only });
}

-- so after a legal history
pub legal-stands : (shape : LinkShape) (terms : HopTerms) (c : ℕ) (h : List Entry) → IsAdmissible shape h → AllOfferTerms terms c h
    → ChannelStands terms c (offers_to c h) (scan_of shape h)
unfolding IsAdmissible scan_of clock_of offers_to
legal-stands shape terms c [] legal names = record { free = λ none. record { rows = tt; packets = refl }; known = λ one. absurd (omega (arith, one)) }
legal-stands shape terms c (e ∷ past) legal names =
    by-fit (λ t scan. ChannelStands terms c (offers_with c (offers_to c past) e.ask e.reply) scan) shape past e legal.1 (λ effect new fits.
    subst (λ n. ChannelStands terms c n (with_effect shape (clock_of past) (scan_of shape past) effect)) (offers-new c (offers_to c past) e.ask e.reply (new_in effect) new)
    (effect-stands shape terms c (offers_to c past) (clock_of past) (scan_of shape past) effect fits (legal-order shape past legal.0) (legal-channels shape past legal.0)
    (new-terms terms c e.ask e.reply (new_in effect) new names.0) (legal-stands shape terms c past legal.0 names.1)))

-- where nothing was offered to the channel, any terms do
none-offered : (terms : HopTerms) (c : ℕ) (ask : Ask) (reply : Reply) (n : ℕ) → offers_with c n ask reply ≡ 0
    → (n ≡ 0) × OffersTerms terms c ask reply
none-offered terms c (Reserve chan contract kind delay up_reach first next) (Is.Offer level reach) n none =
    elim (cases_Bool (nat_eq (channel_number chan) c)) [
      | inl on ↦ absurd (let h : suc n ≡ 0 = rw on at none in omega (arith, h))
      | inr off ↦ (rw off at none, λ same. absurd (eqb-false (channel_number chan) c off same))
    ]
none-offered terms c _ _ n none = (none, tt)

all-none : (terms : HopTerms) (c : ℕ) (h : List Entry) → offers_to c h ≡ 0 → AllOfferTerms terms c h
unfolding offers_to
all-none terms c [] none = tt
all-none terms c (e ∷ past) none = (let one = none-offered terms c e.ask e.reply (offers_to c past) none in (one.1, all-none terms c past one.0))

pub legal-free : (shape : LinkShape) (terms : HopTerms) (c : ℕ) (h : List Entry) → IsAdmissible shape h → offers_to c h ≡ 0
    → IsFree c (scan_of shape h)
legal-free shape terms c h legal none = (legal-stands shape terms c h legal (all-none terms c h none)).free none
