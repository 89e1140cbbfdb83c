-- The account of a link gives the legal reply to each ask, and goes on with each entry.
use Rattle.std.proofs.lemmas.Bool.{le-leb, eqb-true}
use Rattle.std.proofs.Common.{◌≡◌, ℕ, suc, ◌+◌, ◌≤◌, Bool, true, List, [], ◌∷◌, ◌++◌, length, map, Option, Some, None, refl, sym, ap, ◌∙◌, subst, arith, add-one, length-append, append_assoc, ◌<◌, nat_eq, nat_lt}
use Rattle.std.proofs.Math.Seq.{take-nil}
use Rattle.std.proofs.lemmas.List.{map-append, length_push}
use Rattle.std.specs.Prelude.{filter, find}
use Rattle.std.specs.Option.{option_map}
use Rattle.net_units.specs.declared.numbers.ChanNo.{ChanNo}
use Rattle.traffic_contract.specs.Contract.{burst_of}
use Rattle.link_steps.specs.declared.asks.Ask.{Ask}
use Rattle.link_steps.specs.declared.asks.Ask.TheVariants.{Reserve, Relax, Deny, Submit, Release, Arrive, Tick, Pour}
use Rattle.link_steps.specs.declared.asks.Packet.{Packet}
use Rattle.link_steps.specs.declared.replies.Entry.{Entry}
use Rattle.link_steps.specs.declared.replies.Reply.{Reply}
use Rattle.link_steps.specs.declared.replies.Reply.TheVariants as Is
use Rattle.link_steps.specs.declared.shape.LinkShape.{LinkShape}
use Rattle.link_steps.specs.Split.{Link}
use Rattle.link_steps.specs.Buffer.{held_packets}
use Rattle.link_steps.specs.Hold.{stays}
use Rattle.link_steps.specs.Account.{HasContract, HasContracts, StandsFor, empty_account, Account, AccountRow, account_row, start_on, new_account, with_account_rows, account_at, account_of, account_terms, held_rows, brought, present, occupies, account_dropped, account_rows_after, account_after_tick, account_tick_reply, is_account_of, is_account_at_hop, account_submit, account_release, account_arrive, account_reply, account_relaxed, account_planned, account_closed, account_arrived_row, account_arrived, account_with_arrival, account_after, from_sources, account_best, account_waiting, waits_here}
use Rattle.link_steps.specs.Lists.{Each}
use Rattle.link_steps.specs.Replies.{submit_to, release_to, arrive_to, arrive_reply, tick_reply, reply_at, reply_to}
use Rattle.link_steps.specs.Reservation.{Reservation, tentative}
use Rattle.link_steps.specs.Scan.{Scan, clock_with, clock_of, is_row_of, is_row_at_hop, names_first_hop, relax_row, plan_row, close_row, with_rows, arrived_tick, arrived_row, arrived_packet, with_arrival, without_expired, with_sources, with_best, best_step_at, after_tick, after, scan_of}
use Rattle.link_steps.specs.Service.{Arrival, starts_below, here_at}
use Rattle.link_steps.specs.Rows.{Row, SourcePacket, row_terms, new_row, is_for, is_from, left_at}
use Rattle.link_steps.specs.Sources.{SourceStep, Rests, Brings, Drops, source_step, dropped_by, dropped_in, source_packets}
use Rattle.link_steps.specs.BestEffort.{best_packet, best_step}
use Rattle.link_steps.specs.declared.replies.Sent.{Sent}
use Rattle.link_steps.specs.Effects.{Effect, Takes, Ticks, with_effect}
use Rattle.link_steps.proofs.EntryEffects.{each-history}
use Rattle.link_steps.proofs.AccountOfRows.{RowHasContract, left-left, eligible-recent, left-planned, left-cancelled, held-kept, kept-packet, packets-kept, rows-kept, lost-kept, eligible-from, source_packets-above, source_packets-upto, source_packets-from}
use Rattle.link_steps.proofs.AccountOfService.{IsUpTo, IsAbove, waiting-kept, ShowsTick, here_at-append, shows-tick-append}
use Rattle.link_steps.proofs.SearchAndFilter.{find-filter, Each-append, Each-filter, Each-if, Each-find, Each-mapped, find-map, map-change_first, map-without_first}
use Rattle.link_steps.proofs.ServiceStarts.{IsFrom, starts_below-append}
use Rattle.link_steps.proofs.NewPackets.{best-from}

-- ---- arrival numbers

-- no packet of the scan has an arrival number above their count
abbrev IsNumbered : Scan → Type 0
IsNumbered scan = Each (IsUpTo (length scan.packets)) scan.packets

numbered-append : (packets new : List Arrival) → Each (IsUpTo (length packets)) packets → Each (IsUpTo (length packets + length new)) new
    → Each (IsUpTo (length (packets ++ new))) (packets ++ new)
numbered-append packets new before rest =
    rw (length-append packets new)
    (Each-append (IsUpTo (length packets + length new)) packets new (Each-if (IsUpTo (length packets)) (IsUpTo (length packets + length new)) packets (λ p upto. omega arith) before) rest)

best-numbered : (bounds : List ℕ) (t n : ℕ) (step : SourceStep)
    → Each (IsUpTo (n + length (best_packet step bounds (suc n) t))) (best_packet step bounds (suc n) t)
best-numbered bounds t n Rests = tt
best-numbered bounds t n Drops = tt
best-numbered bounds t n (Brings size) = (omega arith, tt)

best-above : (bounds : List ℕ) (t n place : ℕ) (step : SourceStep) → n < place → Each (IsAbove n) (best_packet step bounds place t)
best-above bounds t n place Rests above = tt
best-above bounds t n place Drops above = tt
best-above bounds t n place (Brings size) above = (omega (arith, above), tt)

numbered-effect : (shape : LinkShape) (t : ℕ) (scan : Scan) (effect : Effect) → IsNumbered scan
    → IsNumbered (with_effect shape t scan effect)
unfolding with_effect with_arrival after_tick with_best with_sources without_expired
numbered-effect shape t scan (Takes packet row) before = numbered-append scan.packets (arrived_packet t (suc (length scan.packets)) packet row ∷ []) before (omega arith, tt)
numbered-effect shape t scan Ticks before =
    numbered-append (scan.packets ++ source_packets shape.bounds (here_at shape.rate scan.packets t) t (length scan.packets) (filter (stays shape.bounds t) scan.rows)) (best_packet (best_step_at shape t scan) shape.bounds (suc (length (scan.packets ++ source_packets shape.bounds (here_at shape.rate scan.packets t) t (length scan.packets) (filter (stays shape.bounds t) scan.rows)))) t)
    (numbered-append scan.packets _ before (source_packets-upto shape.bounds (here_at shape.rate scan.packets t) t (length scan.packets) (filter (stays shape.bounds t) scan.rows)))
    (best-numbered shape.bounds t (length (scan.packets ++ source_packets shape.bounds (here_at shape.rate scan.packets t) t (length scan.packets) (filter (stays shape.bounds t) scan.rows))) (best_step_at shape t scan))
numbered-effect shape t scan _ before = before

-- the packets of every history are numbered so
scan-numbered : (shape : LinkShape) (h : List Entry) → IsNumbered (scan_of shape h)
scan-numbered shape h = each-history (λ t scan. IsNumbered scan) shape tt (λ t scan effect. numbered-effect shape t scan effect) h

-- ---- a tick

-- the rows of a scan have contracts
abbrev HaveContracts : Scan → Type 0
HaveContracts scan = Each RowHasContract scan.rows

-- the rows that stay held in tick t, and the packets that their sources bring
abbrev held_in : LinkShape → ℕ → Scan → List Row
held_in shape t scan = filter (stays shape.bounds t) scan.rows

abbrev sources_in : LinkShape → ℕ → Scan → List Arrival
sources_in shape t scan = source_packets shape.bounds (here_at shape.rate scan.packets t) t (length scan.packets) (held_in shape t scan)

abbrev new_in : LinkShape → ℕ → Scan → List Arrival
new_in shape t scan = sources_in shape t scan ++ best_packet (best_step_at shape t scan) shape.bounds (suc (length scan.packets + length (sources_in shape t scan))) t

sources-tick : (shape : LinkShape) (t : ℕ) (scan : Scan) → HaveContracts scan
    → from_sources shape (account_at shape t scan) ≡ sources_in shape t scan
unfolding account_at
sources-tick shape t scan each =
    rw (held-kept shape.bounds t scan.rows each)
    (packets-kept shape.bounds (here_at shape.rate scan.packets t) t (length scan.packets) (held_in shape t scan) (Each-filter RowHasContract (stays shape.bounds t) scan.rows each))

-- the one planned for t is left at t
find-planned : (t : ℕ) (plan : List SourcePacket) → find (is_for t) (left_at t plan) ≡ find (is_for t) plan
find-planned t plan = find-filter (is_for t) (is_from t) (λ p now. (let e = eqb-true p.tick t now in le-leb t p.tick (omega (arith, e)))) plan

best-tick : (shape : LinkShape) (t : ℕ) (scan : Scan) → account_best shape (account_at shape t scan) ≡ best_step_at shape t scan
unfolding account_at account_best best_step_at best_step account_waiting
best-tick shape t scan =
    ap (λ found. source_step (nat_lt (length (filter (waits_here shape.bounds (start_on shape.rate (starts_below shape.rate scan.packets t) t)) (here_at shape.rate scan.packets t))) shape.best) found) (find-planned t scan.best_plan)
    ∙ ap (λ n. source_step (nat_lt n shape.best) (find (is_for t) scan.best_plan)) (sym (waiting-kept shape.bounds shape.rate t scan.packets))

brought-tick : (shape : LinkShape) (t : ℕ) (scan : Scan) → HaveContracts scan
    → brought shape (account_at shape t scan) ≡ new_in shape t scan
brought-tick shape t scan each =
    ap (λ all. all ++ best_packet (account_best shape (account_at shape t scan)) shape.bounds (suc ((account_at shape t scan).taken + length all)) (account_at shape t scan).clock) (sources-tick shape t scan each)
    ∙ (unfold account_at in ap (λ step. sources_in shape t scan ++ best_packet step shape.bounds (suc (length scan.packets + length (sources_in shape t scan))) t) (best-tick shape t scan))

packets-tick : (shape : LinkShape) (t : ℕ) (scan : Scan) → (after_tick shape t scan).packets ≡ scan.packets ++ new_in shape t scan
unfolding after_tick with_best with_sources without_expired
packets-tick shape t scan =
    ap (λ n. (scan.packets ++ sources_in shape t scan) ++ best_packet (best_step_at shape t scan) shape.bounds (suc n) t) (length-append scan.packets (sources_in shape t scan))
    ∙ append_assoc scan.packets (sources_in shape t scan) (best_packet (best_step_at shape t scan) shape.bounds (suc (length scan.packets + length (sources_in shape t scan))) t)

-- the starts after the tick show what the account says of it
shows-after : (shape : LinkShape) (t : ℕ) (scan : Scan) → HaveContracts scan → IsNumbered scan
    → ShowsTick shape t (after_tick shape t scan).packets (present shape (account_at shape t scan)) (occupies shape (account_at shape t scan)) (starts_below shape.rate (after_tick shape t scan).packets (suc t))
shows-after shape t scan each numbered =
    rw (brought-tick shape t scan each, packets-tick shape t scan)
    (unfold account_at in
    shows-tick-append shape t (length scan.packets) scan.packets (new_in shape t scan) numbered
    (Each-append (IsAbove (length scan.packets)) (sources_in shape t scan) _ (source_packets-above shape.bounds (here_at shape.rate scan.packets t) t (length scan.packets) (held_in shape t scan)) (best-above shape.bounds t (length scan.packets) _ (best_step_at shape t scan) (omega arith)))
    (Each-append (IsFrom t) (sources_in shape t scan) _ (source_packets-from shape.bounds (here_at shape.rate scan.packets t) t (length scan.packets) (held_in shape t scan)) (best-from shape.bounds t _ (best_step_at shape t scan))))

lost-tick : (shape : LinkShape) (t : ℕ) (scan : Scan) → HaveContracts scan
    → dropped_in shape.bounds (here_at shape.rate scan.packets t) t (without_expired shape.bounds t scan).rows ≡ account_dropped shape.bounds (account_at shape t scan).here (account_at shape t scan).clock (held_rows shape (account_at shape t scan))
unfolding account_at without_expired
lost-tick shape t scan each =
    rw (held-kept shape.bounds t scan.rows each) (sym (lost-kept shape.bounds (here_at shape.rate scan.packets t) t (held_in shape t scan)))

-- the parts of the account after the tick, and the reply
taken-tick : (shape : LinkShape) (t : ℕ) (scan : Scan) → HaveContracts scan
    → (account_at shape (suc t) (after_tick shape t scan)).taken ≡ (account_at shape t scan).taken + length (brought shape (account_at shape t scan))
unfolding account_at
taken-tick shape t scan each = ap length (packets-tick shape t scan) ∙ length-append scan.packets (new_in shape t scan) ∙ ap (λ all. length scan.packets + length all) (sym (brought-tick shape t scan each))

rows-tick : (shape : LinkShape) (t : ℕ) (scan : Scan) → HaveContracts scan
    → (account_at shape (suc t) (after_tick shape t scan)).rows ≡ account_rows_after shape.bounds (account_at shape t scan).here (account_at shape t scan).clock (account_at shape t scan).taken (held_rows shape (account_at shape t scan))
unfolding account_at after_tick with_best with_sources without_expired
rows-tick shape t scan each =
    rw (held-kept shape.bounds t scan.rows each)
    (sym (rows-kept shape.bounds (here_at shape.rate scan.packets t) t (length scan.packets) (held_in shape t scan) (Each-filter RowHasContract (stays shape.bounds t) scan.rows each)))

reply-tick : (shape : LinkShape) (t : ℕ) (scan : Scan) → HaveContracts scan → IsNumbered scan
    → tick_reply shape t scan ≡ account_tick_reply shape (account_at shape t scan)
unfolding account_tick_reply account_at
reply-tick shape t scan each numbered =
    let shows = shows-after shape t scan each numbered in
    same-ticked t _ _ _ _ _ _ _ _ (lost-tick shape t scan each) shows.departure shows.best_departure (ap (λ step. nat_eq (dropped_by step) 1) (sym (best-tick shape t scan))) where
      same-ticked : (t full other : ℕ) (sent left : Option Sent) (best gone lost missing : Bool) → full ≡ other → sent ≡ left → best ≡ gone → lost ≡ missing → Is.Ticked t full sent best lost ≡ Is.Ticked t other left gone missing
      same-ticked t full other sent left best gone lost missing a b c d = λ i. Is.Ticked t (a i) (b i) (c i) (d i)

-- accounts with the same parts
pub same-kept : (k other : Account) → k.clock ≡ other.clock → k.taken ≡ other.taken → k.rows ≡ other.rows → k.here ≡ other.here
    → k.on ≡ other.on → k.best_left ≡ other.best_left → k ≡ other
same-kept k other clock taken rows here on left = λ i. record { clock = clock i; taken = taken i; rows = rows i; here = here i; on = on i; best_left = left i }

-- so the account of the scan after the tick is the one that the account goes on to
after-tick : (shape : LinkShape) (t : ℕ) (scan : Scan) → HaveContracts scan → IsNumbered scan
    → account_at shape (suc t) (after_tick shape t scan) ≡ account_after_tick shape (account_at shape t scan)
unfolding account_at account_after_tick here_at after_tick with_best with_sources without_expired
after-tick shape t scan each numbered =
    let shows = shows-after shape t scan each numbered in
    same-kept (account_at shape (suc t) (after_tick shape t scan)) (account_after_tick shape (account_at shape t scan))
    refl (taken-tick shape t scan each) (rows-tick shape t scan each) shows.next_here shows.next_on (sym (left-left t (suc t) scan.best_plan (omega arith)))

-- ---- the other asks

-- what the other asks find in the account is what they find in the scan
pub terms-scanned : (t : ℕ) (rows : List Row) → map account_terms (map (account_row t) rows) ≡ map row_terms rows
terms-scanned t [] = refl
terms-scanned t (row ∷ rows) = ap (λ all. row.terms ∷ all) (terms-scanned t rows)

find-kept : (t : ℕ) (chan : ChanNo) (rows : List Row)
    → find (is_account_of chan) (map (account_row t) rows) ≡ option_map (account_row t) (find (is_row_of chan) rows)
find-kept t chan rows = find-map (account_row t) (is_row_of chan) (is_account_of chan) (λ row. refl) rows

find-kept-hop : (t : ℕ) (chan : ChanNo) (first : Bool) (rows : List Row)
    → find (is_account_at_hop chan first) (map (account_row t) rows) ≡ option_map (account_row t) (find (is_row_at_hop chan first) rows)
find-kept-hop t chan first rows = find-map (account_row t) (is_row_at_hop chan first) (is_account_at_hop chan first) (λ row. refl) rows

submit-kept : (t size : ℕ) (found : Option Row) → submit_to t size found ≡ account_submit t size (option_map (account_row t) found)
submit-kept t size None = refl
submit-kept t size (Some row) = refl

release-kept : (t : ℕ) (upstream : Option ℕ) (found : Option Row)
    → release_to t upstream found ≡ account_release upstream (option_map (account_row t) found)
release-kept t upstream None = refl
release-kept t upstream (Some row) = refl

arrive-kept : (shape : LinkShape) (t : ℕ) (packets : List Arrival) (packet : Packet) (found : Option Row)
    → ((row : Row) → found ≡ Some row → RowHasContract row)
    → arrive_to shape t packets packet found ≡ account_arrive shape t (here_at shape.rate packets t) packet (option_map (account_row t) found)
arrive-kept shape t packets packet None each = refl
arrive-kept shape t packets packet (Some row) each =
    ap (λ e. arrive_reply shape.bounds t packet row.terms (length row.ticks) (held_packets row.lead (here_at shape.rate packets t)) e)
    (sym (eligible-recent row.terms row.ticks t packet.due (each row refl)))

-- the reply of the scan is that of the account
reply-at : (link : Link) (t : ℕ) (scan : Scan) (ask : Ask) → HaveContracts scan → IsNumbered scan
    → reply_at link t scan ask ≡ account_reply link (account_at link.shape t scan) ask
unfolding reply_at account_reply account_at
reply-at link t scan (Reserve chan contract kind delay up_reach first next) each numbered = rw (terms-scanned t scan.rows) refl
reply-at link t scan (Relax chan level up_bound) each numbered = rw (terms-scanned t scan.rows) refl
reply-at link t scan (Deny chan) each numbered = rw (terms-scanned t scan.rows) refl
reply-at link t scan (Submit chan count gap size) each numbered = rw (find-kept-hop t chan true scan.rows) (submit-kept t size (find (is_row_at_hop chan true) scan.rows))
reply-at link t scan (Release chan upstream) each numbered =
    rw (find-kept-hop t chan (names_first_hop upstream) scan.rows) (release-kept t upstream (find (is_row_at_hop chan (names_first_hop upstream)) scan.rows))
reply-at link t scan (Arrive packet) each numbered =
    rw (find-kept t packet.chan scan.rows)
    (arrive-kept link.shape t scan.packets packet (find (is_row_of packet.chan) scan.rows) (λ row found. Each-find RowHasContract (is_row_of packet.chan) scan.rows row each found))
reply-at link t scan Tick each numbered = reply-tick link.shape t scan each numbered
reply-at link t scan (Pour count gap size) each numbered = refl

-- ---- the account goes on

-- a row that takes a packet that arrives, as it is kept
arrived-kept : (t place : ℕ) (packet : Packet) (row : Row) → RowHasContract row
    → account_arrived_row t place packet (account_row t row) ≡ account_row t (arrived_row t place packet row)
arrived-kept t place packet row is =
    rw (eligible-recent row.terms row.ticks t packet.due is) (kept-packet t place (arrived_tick t packet row) row)

-- the account with a packet that arrives
arrival-kept : (shape : LinkShape) (t : ℕ) (packet : Packet) (scan : Scan) (found : Option Row)
    → ((row : Row) → found ≡ Some row → RowHasContract row) → HaveContracts scan → IsNumbered scan
    → account_at shape t (with_arrival t packet scan found) ≡ account_with_arrival packet (account_at shape t scan) (option_map (account_row t) found)
unfolding with_arrival account_with_arrival account_at
arrival-kept shape t packet scan None one each numbered = refl
arrival-kept shape t packet scan (Some row) one each numbered =
    let later : t ≤ arrived_tick t packet row = eligible-from row.terms row.ticks t packet.due in
    let same : arrived_packet t (suc (length scan.packets)) packet row ≡ account_arrived t (suc (length scan.packets)) packet (account_row t row) =
    rw (eligible-recent row.terms row.ticks t packet.due (one row refl)) refl in
    same-kept (account_at shape t (with_arrival t packet scan (Some row))) (account_with_arrival packet (account_at shape t scan) (Some (account_row t row)))
    refl
    (length_push scan.packets (arrived_packet t (suc (length scan.packets)) packet row) ∙ add-one (length scan.packets))
    (map-change_first RowHasContract (account_row t) (is_row_of packet.chan) (is_account_of packet.chan) (arrived_row t (suc (length scan.packets)) packet) (account_arrived_row t (suc (length scan.packets)) packet)
    (λ r. refl) (arrived-kept t (suc (length scan.packets)) packet) scan.rows each)
    (here_at-append shape.rate t (length scan.packets) scan.packets (arrived_packet t (suc (length scan.packets)) packet row ∷ []) numbered (omega arith, tt) (later, tt)
    ∙ ap (λ p. here_at shape.rate scan.packets t ++ p ∷ []) same)
    (ap (λ starts. start_on shape.rate starts t) (starts_below-append shape.rate scan.packets (arrived_packet t (suc (length scan.packets)) packet row ∷ []) t (later, tt)))
    refl

-- a change of the rows alone
rows-kept-at : (shape : LinkShape) (t : ℕ) (scan : Scan) (rows : List Row) (kept : List AccountRow) → map (account_row t) rows ≡ kept
    → account_at shape t (with_rows scan rows) ≡ with_account_rows (account_at shape t scan) kept
unfolding account_at
rows-kept-at shape t scan rows kept same = ap (λ all. with_account_rows (account_at shape t scan) all) same

new-kept : (t : ℕ) (terms : Reservation) → account_row t (new_row terms) ≡ new_account terms
new-kept t terms = rw (take-nil {A = ℕ} (burst_of terms.contract)) refl

planned-kept : (t count gap size : ℕ) (row : Row) → RowHasContract row
    → account_planned t count gap size (account_row t row) ≡ account_row t (plan_row t count gap size row)
planned-kept t count gap size row is = rw (left-planned t count gap size row.plan) refl

closed-kept : (t count : ℕ) (row : Row) → RowHasContract row
    → account_closed count (account_row t row) ≡ account_row t (close_row t count row)
closed-kept t count row is = rw (left-cancelled t row.plan) refl

-- the account after an entry, from the account before
after-at : (shape : LinkShape) (t : ℕ) (scan : Scan) (ask : Ask) (reply : Reply) → HaveContracts scan → IsNumbered scan
    → account_at shape (clock_with ask t) (after shape t scan ask reply) ≡ account_after shape (account_at shape t scan) ask reply
unfolding after account_after account_at
after-at shape t scan (Reserve chan contract kind delay up_reach first next) (Is.Offer level reach) each numbered =
    let row : Row = new_row (tentative chan contract kind first next up_reach level reach) in
    rows-kept-at shape t scan (scan.rows ++ row ∷ []) _ (map-append (account_row t) scan.rows (row ∷ []) ∙ ap (λ k. map (account_row t) scan.rows ++ k ∷ []) (new-kept t row.terms))
after-at shape t scan (Relax chan level up_bound) (Is.Relaxed clock) each numbered =
    rows-kept-at shape t scan _ _
    (map-change_first RowHasContract (account_row t) (is_row_of chan) (is_account_of chan) (relax_row level up_bound) (account_relaxed level up_bound) (λ row. refl) (λ row is. refl) scan.rows each)
after-at shape t scan (Deny chan) Is.Denied each numbered =
    rows-kept-at shape t scan _ _ (map-without_first (account_row t) (is_row_of chan) (is_account_of chan) (λ row. refl) scan.rows)
after-at shape t scan (Submit chan count gap size) (Is.Planned clock) each numbered =
    rows-kept-at shape t scan _ _
    (map-change_first RowHasContract (account_row t) (is_row_at_hop chan true) (is_account_at_hop chan true) (plan_row t count gap size) (account_planned t count gap size) (λ row. refl) (planned-kept t count gap size) scan.rows each)
after-at shape t scan (Release chan upstream) (Is.Closing count cancelled) each numbered =
    rows-kept-at shape t scan _ _
    (map-change_first RowHasContract (account_row t) (is_row_at_hop chan (names_first_hop upstream)) (is_account_at_hop chan (names_first_hop upstream)) (close_row t count) (account_closed count) (λ row. refl) (closed-kept t count) scan.rows each)
after-at shape t scan (Arrive packet) (Is.Taken clock eligible) each numbered =
    arrival-kept shape t packet scan (find (is_row_of packet.chan) scan.rows) (λ row found. Each-find RowHasContract (is_row_of packet.chan) scan.rows row each found) each numbered
    ∙ ap (λ found. account_with_arrival packet (account_at shape t scan) found) (sym (find-kept t packet.chan scan.rows))
after-at shape t scan Tick reply each numbered = after-tick shape t scan each numbered
after-at shape t scan (Pour count gap size) (Is.Planned clock) each numbered = ap (λ left. record (account_at shape t scan) { best_left = left }) (left-planned t count gap size scan.best_plan)
after-at shape t scan _ _ each numbered = refl

-- ---- every history

-- the rows of an account have contracts where those of the scan have
contracts-scan : (shape : LinkShape) (h : List Entry) → HasContracts (account_of shape h) → HaveContracts (scan_of shape h)
unfolding account_at
contracts-scan shape h each = Each-mapped HasContract (account_row (clock_of h)) (scan_of shape h).rows each

-- the legal reply after a history is that of its account
pub reply_to-account : (link : Link) (h : List Entry) (ask : Ask) → HasContracts (account_of link.shape h)
    → reply_to link h ask ≡ account_reply link (account_of link.shape h) ask
unfolding reply_to
reply_to-account link h ask each = reply-at link (clock_of h) (scan_of link.shape h) ask (contracts-scan link.shape h each) (scan-numbered link.shape h)

-- and the account with one more entry is the next of the account before
pub account_of-entry : (shape : LinkShape) (h : List Entry) (e : Entry) → HasContracts (account_of shape h)
    → account_of shape (e ∷ h) ≡ account_after shape (account_of shape h) e.ask e.reply
unfolding clock_of scan_of
account_of-entry shape h e each = after-at shape (clock_of h) (scan_of shape h) e.ask e.reply (contracts-scan shape h each) (scan-numbered shape h)

-- ---- what stands for a history

-- a link that keeps nothing stands for no history
pub nothing-stands : (shape : LinkShape) → StandsFor shape empty_account []
unfolding account_at clock_of scan_of here_at starts_below
nothing-stands shape = refl

-- a link that stands for a history gives the legal reply from what it keeps
pub stands-reply : (link : Link) (k : Account) (h : List Entry) (ask : Ask) → HasContracts k → StandsFor link.shape k h
    → account_reply link k ask ≡ reply_to link h ask
stands-reply link k h ask each stands =
    ap (λ kept. account_reply link kept ask) stands ∙ sym (reply_to-account link h ask (subst HasContracts stands each))

-- and stands for it with the entry added, once it keeps what follows
pub stands-entry : (shape : LinkShape) (k : Account) (h : List Entry) (ask : Ask) (reply : Reply) → HasContracts k → StandsFor shape k h
    → StandsFor shape (account_after shape k ask reply) (record { ask = ask; reply = reply } ∷ h)
stands-entry shape k h ask reply each stands =
    ap (λ kept. account_after shape kept ask reply) stands ∙ sym (account_of-entry shape h (record { ask = ask; reply = reply }) (subst HasContracts stands each))
