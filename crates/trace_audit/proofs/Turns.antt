-- At a link the packets of a channel are taken in turn: each is eligible at the tick that its regulator says after those before
-- it, from its arrival on at a first hop, and later from when the packet that arrived says.
use Rattle.std.proofs.Common.{◌≡◌, ◌≢◌, ℕ, suc, ◌+◌, ◌≤◌, Bool, true, false, List, [], ◌∷◌, ◌++◌, length, map, Option, Some, None, refl, sym, ap, ◌∙◌, subst, inl, inr, arith, append-nil}
use Rattle.std.proofs.lemmas.Bool.{cases_Bool, cases_lt, eqb-true, eqb-false, eq-eqb, lt-ltb}
use Rattle.std.proofs.lemmas.List.{append_assoc, length-reverse, length-map, reverse-reverse}
use Rattle.std.proofs.lemmas.List.Elements.{filter-append}
use Rattle.std.specs.Prelude.{filter, find, nat_eq, reverse}
use Rattle.net_units.specs.Numbers.{channel_number}
use Rattle.traffic_contract.specs.Eligible.{eligible}
use Rattle.link_steps.specs.declared.asks.Ask.{Ask}
use Rattle.link_steps.specs.declared.asks.Ask.TheVariants.{Reserve, Arrive}
use Rattle.link_steps.specs.declared.asks.Packet.{Packet}
use Rattle.link_steps.specs.declared.replies.Entry.{Entry}
use Rattle.link_steps.specs.declared.replies.Reply.{Reply}
use Rattle.link_steps.specs.declared.replies.Reply.TheVariants as Is
use Rattle.link_steps.specs.declared.shape.LinkShape.{LinkShape}
use Rattle.link_steps.specs.Buffer.{has_slot, slots_of}
use Rattle.link_steps.specs.Hold.{stays}
use Rattle.link_steps.specs.Admissible.{MayAnswer, IsAdmissible}
use Rattle.link_steps.specs.Lists.{Each, Among}
use Rattle.link_steps.specs.Regulator.{waits_until, eligible_next}
use Rattle.link_steps.specs.Replies.{arrive_reply, arrive_to, reply_at}
use Rattle.link_steps.specs.Rows.{Row, SourcePacket, is_for}
use Rattle.link_steps.specs.Scan.{Scan, clock_with, clock_of, scan_of, is_row_of, arrived_packet, after_tick, after}
use Rattle.link_steps.specs.Service.{Arrival, here_at}
use Rattle.link_steps.specs.Sources.{source_step, source_tick, step_of, packet_of, taken_by, source_packets, arrival_at}
use Rattle.link_steps.proofs.LegalChannels.{DifferInChannel, legal-channels, differ-filter}
use Rattle.link_steps.proofs.SearchAndFilter.{Each-append, Each-filter, Each-find, Each-if}
use Rattle.link_steps.proofs.ReservationFound.{arrive-tells}
use Rattle.link_steps.proofs.RulesPassed.{kept-rule}
use Rattle.link_steps.specs.Refusals.{first_hop, uncommitted, wrong_number, past_count, big, full}
use Rattle.link_steps.specs.Reservation.{Reservation}
use Rattle.channel_laws.specs.Channels.{HopTerms, is_of_channel, channel_packets, tick_of_packet, channel_of, offers_with, offers_to, AllOfferTerms, RowTells, IsElsewhere, IsOnly, IsFree, HasOneRow}
use Rattle.channel_laws.proofs.ChannelRows.{arrive-number, packets-on, packets-off, tick-packets, tick-free, others-elsewhere, sources-elsewhere, packet-elsewhere, row-of, find-passes, legal-stands}
use Rattle.link_steps.proofs.EntryEffects.{packets-by}

-- where a packet came from: a source, or the link before, from when it is due
pub data CameFrom (terms : HopTerms) (c : ℕ) (h : List Entry) (p : Arrival) (due : ℕ) : Type 0 where
  FromSource : terms.first ≡ true → CameFrom terms c h p due
  FromLink : (packet : Packet) (tick : ℕ) → Among (record { ask = Arrive packet; reply = Is.Taken p.at tick }) h → terms.first ≡ false → channel_number packet.chan ≡ c → packet.number ≡ p.number → packet.size ≡ p.size → packet.due ≡ due → CameFrom terms c h p due

-- a packet is the next of its channel after these
pub record IsInTurn (terms : HopTerms) (c : ℕ) (h : List Entry) (before : List Arrival) (p : Arrival) : Type 0 where
  pub due : ℕ
  pub from : CameFrom terms c h p due
  pub number : p.number ≡ suc (length before)
  pub eligible : p.eligible ≡ eligible terms.contract (reverse (map tick_of_packet before)) (waits_until terms.kind terms.first p.at due)
  pub sooner : Each (λ q. q.at ≤ p.at) before

abbrev pub AreInTurn : HopTerms → ℕ → List Entry → List Arrival → List Arrival → Type 0
AreInTurn terms c h before [] = Unit {0}
AreInTurn terms c h before (p ∷ own) = IsInTurn terms c h before p × AreInTurn terms c h (before ++ p ∷ []) own

came-later : (terms : HopTerms) (c : ℕ) (e : Entry) (h : List Entry) (p : Arrival) (due : ℕ) → CameFrom terms c h p due → CameFrom terms c (e ∷ h) p due
came-later terms c e h p due (FromSource first) = FromSource first
came-later terms c e h p due (FromLink packet tick among later chan number size is) = FromLink packet tick (inr among) later chan number size is

turn-later : (terms : HopTerms) (c : ℕ) (e : Entry) (h : List Entry) (before : List Arrival) (p : Arrival) → IsInTurn terms c h before p → IsInTurn terms c (e ∷ h) before p
turn-later terms c e h before p turn = record { due = turn.due; from = came-later terms c e h p turn.due turn.from; number = turn.number; eligible = turn.eligible; sooner = turn.sooner }

turns-later : (terms : HopTerms) (c : ℕ) (e : Entry) (h : List Entry) (before own : List Arrival) → AreInTurn terms c h before own → AreInTurn terms c (e ∷ h) before own
turns-later terms c e h before [] turns = tt
turns-later terms c e h before (p ∷ own) turns = (turn-later terms c e h before p turns.0, turns-later terms c e h (before ++ p ∷ []) own turns.1)

turns-more : (terms : HopTerms) (c : ℕ) (h : List Entry) (before own : List Arrival) (p : Arrival) → AreInTurn terms c h before own → IsInTurn terms c h (before ++ own) p → AreInTurn terms c h before (own ++ p ∷ [])
turns-more terms c h before [] p turns turn = (subst (λ b. IsInTurn terms c h b p) (append-nil before) turn, tt)
turns-more terms c h before (q ∷ own) p turns turn = (turns.0, turns-more terms c h (before ++ q ∷ []) own p turns.1 (subst (λ b. IsInTurn terms c h b p) (sym (append_assoc before (q ∷ []) own)) turn))

-- what stands after a history
pub record TurnsStand (terms : HopTerms) (c : ℕ) (h : List Entry) (t : ℕ) (own : List Arrival) : Type 0 where
  pub turns : AreInTurn terms c h [] own
  pub ats : Each (λ q. q.at ≤ t) own

turns-none : (terms : HopTerms) (c : ℕ) (h : List Entry) (t : ℕ) (own : List Arrival) → own ≡ [] → TurnsStand terms c h t own
turns-none terms c h t own none = subst (TurnsStand terms c h t) (sym none) (record { turns = tt; ats = tt })

-- the same packets
turns-kept : (terms : HopTerms) (c : ℕ) (e : Entry) (h : List Entry) (t now : ℕ) (own new : List Arrival) → t ≤ now → new ≡ own → TurnsStand terms c h t own → TurnsStand terms c (e ∷ h) now new
turns-kept terms c e h t now own new upto same stands = subst (TurnsStand terms c (e ∷ h) now) (sym same) (record { turns = turns-later terms c e h [] own stands.turns; ats = Each-if (λ q. q.at ≤ t) (λ q. q.at ≤ now) own (λ q at. omega (arith, at, upto)) stands.ats })

-- one more, which the channel's row takes at the clock
taken-more : (terms : HopTerms) (c : ℕ) (e : Entry) (h : List Entry) (t now : ℕ) (own new : List Arrival) (row : Row) (p : Arrival) (due : ℕ) → t ≤ now → new ≡ own ++ p ∷ [] → RowTells terms c row own → p.at ≡ t → p.number ≡ suc (length row.ticks) → p.eligible ≡ eligible_next row.terms row.ticks t due → CameFrom terms c (e ∷ h) p due → TurnsStand terms c h t own → TurnsStand terms c (e ∷ h) now new
unfolding eligible_next
taken-more terms c e h t now own new row p due upto same tells at number tick from stands =
    let count : length row.ticks ≡ length own = sym (length-reverse row.ticks) ∙ ap length tells.eligible ∙ length-map own tick_of_packet in
    let ticks : row.ticks ≡ reverse (map tick_of_packet own) = sym (reverse-reverse row.ticks) ∙ ap reverse tells.eligible in
    let turn : IsInTurn terms c (e ∷ h) own p = record {
      due = due;
      from = from;
      number = number ∙ ap suc count;
      eligible = tick ∙ ap (λ k. eligible k row.ticks (waits_until row.terms.kind row.terms.first t due)) tells.contract_is ∙ ap (λ ts. eligible terms.contract ts (waits_until row.terms.kind row.terms.first t due)) ticks
          ∙ ap (λ k. eligible terms.contract (reverse (map tick_of_packet own)) (waits_until k row.terms.first t due)) tells.kind_is ∙ ap (λ b. eligible terms.contract (reverse (map tick_of_packet own)) (waits_until terms.kind b t due)) tells.first_is
          ∙ ap (λ n. eligible terms.contract (reverse (map tick_of_packet own)) (waits_until terms.kind terms.first n due)) (sym at);
      sooner = Each-if (λ q. q.at ≤ t) (λ q. q.at ≤ p.at) own (λ q before. omega (arith, before, at)) stands.ats;
    } in
    subst (TurnsStand terms c (e ∷ h) now) (sym same) (record {
      turns = turns-more terms c (e ∷ h) [] own p (turns-later terms c e h [] own stands.turns) turn;
      ats = Each-append (λ q. q.at ≤ now) own (p ∷ []) (Each-if (λ q. q.at ≤ t) (λ q. q.at ≤ now) own (λ q before. omega (arith, before, upto)) stands.ats) (omega (arith, at, upto), tt);
    })

-- ---- a tick

-- the packet that the sources bring of the channel, if they do
pub data SourceBrings (c t : ℕ) (row : Row) (new : List Arrival) : Type 0 where
  BringsNone : new ≡ [] → SourceBrings c t row new
  BringsOne : (p : Arrival) (size place : ℕ) → new ≡ p ∷ [] → row.plan ≢ [] → p ≡ arrival_at row.terms row.lead place (suc (length row.ticks)) size t (source_tick row t) → SourceBrings c t row new

step-brings : (c t place : ℕ) (row : Row) (slot : Bool) (found : Option SourcePacket) → find (is_for t) row.plan ≡ found → channel_of row ≡ c → SourceBrings c t row (channel_packets c (packet_of (source_step slot found) t place row))
step-brings c t place row slot None is chan = BringsNone refl
step-brings c t place row false (Some p) is chan = BringsNone refl
step-brings c t place row true (Some p) is chan =
    let own = eq-eqb (channel_of row) c chan in
    let some = lt-ltb 0 (suc (length row.ticks)) (omega arith) in
    BringsOne (arrival_at row.terms row.lead place (suc (length row.ticks)) p.size t (source_tick row t)) p.size place (rw (own, some) refl) (λ none. (let clash : None ≡ Some p = sym (ap (find (is_for t)) none) ∙ is in cc)) refl

sources-bring : (c : ℕ) (bounds : List ℕ) (here : List Arrival) (t taken : ℕ) (rows : List Row) (row : Row) → DifferInChannel rows → Each (IsOnly c row) rows → SourceBrings c t row (channel_packets c (source_packets bounds here t taken rows))
unfolding source_packets step_of
sources-bring c bounds here t taken [] row differ only = BringsNone refl
sources-bring c bounds here t taken (r ∷ rows) row differ only =
    elim (cases_Bool (nat_eq (channel_of r) c)) [
      | inl on ↦
          (let is : channel_of r ≡ c = eqb-true (channel_of r) c on in
          let same : r ≡ row = only.0 is in
          let rest = sources-elsewhere c bounds here t (taken + taken_by (step_of bounds here t r)) rows (others-elsewhere c r rows is differ) in
          let new : channel_packets c (packet_of (step_of bounds here t r) t (suc taken) r ++ source_packets bounds here t (taken + taken_by (step_of bounds here t r)) rows) ≡ channel_packets c (packet_of (step_of bounds here t r) t (suc taken) r) =
          filter-append (is_of_channel c) (packet_of (step_of bounds here t r) t (suc taken) r) _ ∙ ap (λ x. channel_packets c (packet_of (step_of bounds here t r) t (suc taken) r) ++ x) rest.0 ∙ append-nil _ in
          subst (SourceBrings c t row) (sym new) (subst (λ x. SourceBrings c t x (channel_packets c (packet_of (step_of bounds here t r) t (suc taken) r))) same (step-brings c t (suc taken) r (has_slot bounds r.terms r.lead here) (find (is_for t) r.plan) refl is)))
      | inr off ↦
          (let other : channel_of r ≢ c = eqb-false (channel_of r) c off in
          let rest = sources-bring c bounds here t (taken + taken_by (step_of bounds here t r)) rows row differ.1 only.1 in
          let new : channel_packets c (packet_of (step_of bounds here t r) t (suc taken) r ++ source_packets bounds here t (taken + taken_by (step_of bounds here t r)) rows) ≡ channel_packets c (source_packets bounds here t (taken + taken_by (step_of bounds here t r)) rows) =
          filter-append (is_of_channel c) (packet_of (step_of bounds here t r) t (suc taken) r) _ ∙ ap (λ x. x ++ channel_packets c (source_packets bounds here t (taken + taken_by (step_of bounds here t r)) rows)) (packet-elsewhere c t (suc taken) r (step_of bounds here t r) other) in
          subst (SourceBrings c t row) (sym new) rest)
    ]

first-plans : (terms : HopTerms) (c : ℕ) (row : Row) (own : List Arrival) → RowTells terms c row own → row.plan ≢ [] → terms.first ≡ true
first-plans terms c row own tells some = by-first terms.first refl where
  by-first : (b : Bool) → terms.first ≡ b → terms.first ≡ true
  by-first true is = is
  by-first false is = absurd (some (tells.unplanned is))

tick-turns : (shape : LinkShape) (terms : HopTerms) (c : ℕ) (e : Entry) (h : List Entry) (t : ℕ) (scan : Scan) → DifferInChannel scan.rows → HasOneRow terms c scan → TurnsStand terms c h t (channel_packets c scan.packets) → TurnsStand terms c (e ∷ h) (suc t) (channel_packets c (after_tick shape t scan).packets)
tick-turns shape terms c e h t scan differ has stands =
    by-brings (sources-bring c shape.bounds (here_at shape.rate scan.packets t) t (length scan.packets) (filter (stays shape.bounds t) scan.rows) has.row (differ-filter (stays shape.bounds t) scan.rows differ) (Each-filter (IsOnly c has.row) (stays shape.bounds t) scan.rows has.only)) where
      by-brings : SourceBrings c t has.row (channel_packets c (source_packets shape.bounds (here_at shape.rate scan.packets t) t (length scan.packets) (filter (stays shape.bounds t) scan.rows))) → TurnsStand terms c (e ∷ h) (suc t) (channel_packets c (after_tick shape t scan).packets)
      by-brings (BringsNone none) = turns-kept terms c e h t (suc t) (channel_packets c scan.packets) _ (omega arith) (tick-packets shape c t scan ∙ ap (λ x. channel_packets c scan.packets ++ x) none ∙ append-nil _) stands
      by-brings (BringsOne p size place one planned is) =
          let first = first-plans terms c has.row (channel_packets c scan.packets) has.tells planned in
          taken-more terms c e h t (suc t) (channel_packets c scan.packets) _ has.row p 0 (omega arith) (tick-packets shape c t scan ∙ ap (λ x. channel_packets c scan.packets ++ x) one) has.tells (ap (λ q. q.at) is) (ap (λ q. q.number) is) (ap (λ q. q.eligible) is) (FromSource first) stands

-- ---- a packet that arrives

-- the reply tells the clock, and when it is eligible
pub arrive-answer : (bounds : List ℕ) (t : ℕ) (packet : Packet) (terms : Reservation) (taken held e clock tick : ℕ) → Is.Taken clock tick ≡ arrive_reply bounds t packet terms taken held e → (clock ≡ t) × (tick ≡ e)
unfolding arrive_reply
arrive-answer bounds t packet terms taken held e clock tick same =
    let hop = kept-rule (first_hop terms) _ (Is.Taken clock tick) tt same in
    let ready = kept-rule (uncommitted terms) _ (Is.Taken clock tick) tt hop.1 in
    let number = kept-rule (wrong_number packet.number (suc taken)) _ (Is.Taken clock tick) tt ready.1 in
    let past = kept-rule (past_count terms taken) _ (Is.Taken clock tick) tt number.1 in
    let wide = kept-rule (big terms packet.size) _ (Is.Taken clock tick) tt past.1 in
    let slot = kept-rule (full held (slots_of bounds terms)) _ (Is.Taken clock tick) tt wide.1 in
    let last : Is.Taken clock tick ≡ Is.Taken t e = slot.1 in
    (taken-clock clock t tick e last, taken-tick clock t tick e last) where
      taken-clock : (a b x y : ℕ) → Is.Taken a x ≡ Is.Taken b y → a ≡ b
      taken-clock a b x y same = cc

      taken-tick : (a b x y : ℕ) → Is.Taken a x ≡ Is.Taken b y → x ≡ y
      taken-tick a b x y same = cc

entry-arrive : (packet : Packet) (clock tick at : ℕ) → clock ≡ at → ◌≡◌ {A = Entry} (record { ask = Arrive packet; reply = Is.Taken at tick }) (record { ask = Arrive packet; reply = Is.Taken clock tick })
entry-arrive packet clock tick at same = ap (λ n. record { ask = Arrive packet; reply = Is.Taken n tick }) (sym same)

arrive-turns : (shape : LinkShape) (terms : HopTerms) (c : ℕ) (h : List Entry) (t : ℕ) (packet : Packet) (scan : Scan) (row : Row) (clock tick : ℕ) → find (is_row_of packet.chan) scan.rows ≡ Some row → Is.Taken clock tick ≡ arrive_to shape t scan.packets packet (Some row) → HasOneRow terms c scan → TurnsStand terms c h t (channel_packets c scan.packets)
    → TurnsStand terms c (record { ask = Arrive packet; reply = Is.Taken clock tick } ∷ h) t (channel_packets c (scan.packets ++ arrived_packet t (suc (length scan.packets)) packet row ∷ []))
arrive-turns shape terms c h t packet scan row clock tick is same was stands =
    let chan : channel_of row ≡ channel_number packet.chan = row-of packet.chan row (find-passes (is_row_of packet.chan) row scan.rows is) in
    let number = arrive-number shape.bounds t packet row.terms (length row.ticks) _ _ clock tick same in
    let answer = arrive-answer shape.bounds t packet row.terms (length row.ticks) _ _ clock tick same in
    let takes = arrive-tells shape.bounds t packet row.terms (length row.ticks) _ _ clock tick same in
    elim (cases_Bool (nat_eq (channel_of row) c)) [
      | inl on ↦
          (let own : channel_of row ≡ c = eqb-true (channel_of row) c on in
          let one : row ≡ was.row = Each-find (IsOnly c was.row) (is_row_of packet.chan) scan.rows row was.only is own in
          let first : terms.first ≡ false = sym was.tells.first_is ∙ ap (λ r. r.terms.first) (sym one) ∙ takes.later in
          taken-more terms c _ h t t (channel_packets c scan.packets) _ row (arrived_packet t (suc (length scan.packets)) packet row) packet.due (omega arith)
          (packets-on c scan.packets (arrived_packet t (suc (length scan.packets)) packet row) own (omega (arith, number)))
          (subst (λ r. RowTells terms c r (channel_packets c scan.packets)) (sym one) was.tells) refl number refl
          (FromLink packet tick (inl (entry-arrive packet clock tick t answer.0)) first (sym chan ∙ own) refl refl refl) stands)
      | inr off ↦
          turns-kept terms c _ h t t (channel_packets c scan.packets) _ (omega arith) (packets-off c scan.packets (arrived_packet t (suc (length scan.packets)) packet row) (eqb-false (channel_of row) c off)) stands
    ]

-- ---- each entry

after-turns : (shape : LinkShape) (terms : HopTerms) (c : ℕ) (h : List Entry) (t : ℕ) (scan : Scan) (ask : Ask) (reply : Reply) → MayAnswer shape t scan ask reply → DifferInChannel scan.rows → HasOneRow terms c scan → TurnsStand terms c h t (channel_packets c scan.packets)
    → TurnsStand terms c (record { ask = ask; reply = reply } ∷ h) (clock_with ask t) (channel_packets c (after shape t scan ask reply).packets)
unfolding MayAnswer reply_at
after-turns shape terms c h t scan ask reply same differ has stands =
    packets-by (λ a r clock packets. MayAnswer shape t scan a r → TurnsStand terms c (record { ask = a; reply = r } ∷ h) clock (channel_packets c packets)) shape t scan
    (λ a r may. turns-kept terms c _ h t t _ _ (omega arith) refl stands)
    (λ packet row clock tick found may. arrive-turns shape terms c h t packet scan row clock tick found (may ∙ ap (arrive_to shape t scan.packets packet) found) has stands)
    (λ r may. tick-turns shape terms c _ h t scan differ has stands)
    ask reply same

-- where nothing was offered to the channel there is no packet of it
after-none : (shape : LinkShape) (c t : ℕ) (scan : Scan) (ask : Ask) (reply : Reply) → IsFree c scan → channel_packets c (after shape t scan ask reply).packets ≡ []
after-none shape c t scan ask reply free =
    packets-by (λ a r clock packets. channel_packets c packets ≡ []) shape t scan (λ a r. free.packets)
    (λ packet row clock tick found. packets-off c scan.packets (arrived_packet t (suc (length scan.packets)) packet row) (Each-find (IsElsewhere c) (is_row_of packet.chan) scan.rows row free.rows found) ∙ free.packets)
    (λ r. tick-free shape c t scan free ∙ free.packets)
    ask reply

offers-up : (c n : ℕ) (ask : Ask) (reply : Reply) → n ≤ offers_with c n ask reply
offers-up c n (Reserve chan contract kind delay up_reach first next) (Is.Offer level reach) =
    elim (cases_Bool (nat_eq (channel_number chan) c)) [ inl on ↦ rw on (omega arith) | inr off ↦ rw off (omega arith) ]
offers-up c n _ _ = omega arith

-- after every history that offers to the channel at most once, on these terms
pub legal-turns : (shape : LinkShape) (terms : HopTerms) (c : ℕ) (h : List Entry) → IsAdmissible shape h → AllOfferTerms terms c h → offers_to c h ≤ 1 → TurnsStand terms c h (clock_of h) (channel_packets c (scan_of shape h).packets)
unfolding IsAdmissible scan_of clock_of offers_to
legal-turns shape terms c [] legal names once = record { turns = tt; ats = tt }
legal-turns shape terms c (e ∷ past) legal names once =
    let up = offers-up c (offers_to c past) e.ask e.reply in
    let rest = legal-turns shape terms c past legal.0 names.1 (omega (arith, up, once)) in
    let stands = legal-stands shape terms c past legal.0 names.1 in
    elim (cases_lt 0 (offers_to c past)) [
      | inl some ↦ after-turns shape terms c past (clock_of past) (scan_of shape past) e.ask e.reply legal.1.answered (legal-channels shape past legal.0) (stands.known (omega (arith, some, up, once))) rest
      | inr none ↦ turns-none terms c (e ∷ past) (clock_with e.ask (clock_of past)) _ (after-none shape c (clock_of past) (scan_of shape past) e.ask e.reply (stands.free (omega (arith, none))))
    ]
