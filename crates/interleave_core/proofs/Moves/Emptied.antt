-- The planned packets of a channel at one link: as long as its reservation isn't closing, none was cancelled, and once it is, none is
-- left.
use Rattle.std.proofs.Common.{◌≡◌, ℕ, suc, ◌+◌, ◌≤◌, Bool, true, false, List, [], ◌∷◌, length, Option, Some, None, refl, ap, ◌∙◌, inl, inr, arith, option_map}
use Rattle.run_engine.proofs.Words.{cases_Bool, cond_both, and_parts, lt-leb, eqb-true, eq-eqb, filter, find, nat_eq, if◌then◌else◌, channel_number, ChanNo, total, Ask, Reserve, Relax, Deny, Submit, Release, Arrive, Tick, Packet, Entry, Phase, Tentative, Committed, Closing, Reply, LinkShape, MayAnswer, IsAdmissible, stays, expires, hold_ended, Each, change_first, release_to, reply_at, Reservation, is_of, is_phase, Row, SourcePacket, row_terms, left_at, Scan, clock_of, scan_of, is_row_of, is_row_at_hop, names_first_hop, relax_row, close_row, arrived_row, with_arrival, without_expired, with_sources, with_best, after_tick, after, Arrival, here_at, SourceStep, Rests, row_after, rows_after, step_of, taken_by, HopTerms, channel_of, offers_with, offers_to, IsElsewhere, held_by, cancelled_with, cancelled_in, left_of, left_in}
use Rattle.link_steps.specs.declared.replies.Reply.TheVariants as Is
use Rattle.link_steps.proofs.FoundElements.{Each-change_found}
use Rattle.link_steps.proofs.LegalChannels.{DifferInChannel, legal-channels}
use Rattle.link_steps.proofs.LegalOrder.{legal-order}
use Rattle.link_steps.proofs.RowsInOrder.{IsInOrder, IsMade}
use Rattle.link_steps.proofs.ReservationFound.{phase-is}
use Rattle.link_steps.proofs.SearchAndFilter.{Each-append, Each-filter, Each-find, Each-if, Each-change_first, Each-without_first, find-map}
use Rattle.channel_laws.proofs.ChannelRows.{find-passes, legal-free, others-elsewhere, row-at-hop}
use Rattle.channel_laws.proofs.HoldFates.{released-count, relaxed-tent}
use Rattle.channel_laws.proofs.SendReplies.{found-at-hop}
use Rattle.link_steps.specs.Effects.{Effect, Ticks, with_effect}
use Rattle.link_steps.proofs.EntryEffects.{each-history}

-- ---- without an offer

offers-before : (c n : ℕ) (ask : Ask) (reply : Reply) → offers_with c n ask reply ≡ 0 → n ≡ 0
offers-before c n (Reserve chan contract kind delay up_reach first next) (Is.Offer level reach) none = by (nat_eq (channel_number chan) c) none where
  by : (b : Bool) → (if b then suc n else n) ≡ 0 → n ≡ 0
  by true none = cc
  by false none = none
offers-before c n _ _ none = none

offers-more : (c n : ℕ) (ask : Ask) (reply : Reply) → offers_with c n ask reply ≡ n + offers_with c 0 ask reply
offers-more c n (Reserve chan contract kind delay up_reach first next) (Is.Offer level reach) = by (nat_eq (channel_number chan) c) where
  by : (b : Bool) → (if b then suc n else n) ≡ n + (if b then 1 else 0)
  by true = omega arith
  by false = omega arith
offers-more c n _ _ = omega arith

-- a release that is answered is of a row of its channel
released-row : (t : ℕ) (upstream : Option ℕ) (chan : ChanNo) (rows : List Row) (count cancelled : ℕ) → Is.Closing count cancelled ≡ release_to t upstream (find (is_row_at_hop chan (names_first_hop upstream)) rows)
    → (row : Row) × (find (is_row_at_hop chan (names_first_hop upstream)) rows ≡ Some row) × (channel_of row ≡ channel_number chan)
released-row t upstream chan rows count cancelled same =
    let from = released-count t upstream (find (is_row_at_hop chan (names_first_hop upstream)) rows) count cancelled same in
    (from.row, from.is, row-at-hop chan (names_first_hop upstream) from.row (find-passes (is_row_at_hop chan (names_first_hop upstream)) from.row rows from.is))

none-cancelled : (shape : LinkShape) (c t : ℕ) (scan : Scan) (ask : Ask) (reply : Reply) → MayAnswer shape t scan ask reply → Each (IsElsewhere c) scan.rows → (n : ℕ) → n ≡ 0 → cancelled_with c n ask reply ≡ 0
unfolding MayAnswer reply_at
none-cancelled shape c t scan (Release chan upstream) (Is.Closing count cancelled) may free n zeroth =
    elim (cases_Bool (nat_eq (channel_number chan) c)) [
      | inl own ↦ absurd (let from = released-row t upstream chan scan.rows count cancelled may in Each-find (IsElsewhere c) (is_row_at_hop chan (names_first_hop upstream)) scan.rows from.0 free from.1 (from.2 ∙ eqb-true (channel_number chan) c own))
      | inr off ↦ rw off zeroth
    ]
none-cancelled shape c t scan _ _ may free n zeroth = zeroth

unoffered : (shape : LinkShape) (terms : HopTerms) (c : ℕ) (h : List Entry) → IsAdmissible shape h → offers_to c h ≡ 0 → cancelled_in c h ≡ 0
unfolding IsAdmissible offers_to cancelled_in
unoffered shape terms c [] legal none = refl
unoffered shape terms c (e ∷ past) legal none =
    let before = offers-before c (offers_to c past) e.ask e.reply none in
    none-cancelled shape c (clock_of past) (scan_of shape past) e.ask e.reply legal.1.answered (legal-free shape terms c past legal.0 before).rows (cancelled_in c past) (unoffered shape terms c past legal.0 before)

-- ---- before the release

-- of a row of the channel that isn't closing none was cancelled
abbrev IsWhole : ℕ → ℕ → Row → Type 0
IsWhole c n row = channel_of row ≡ c → is_phase row.terms.phase Closing ≡ false → n ≡ 0

tentative-open : (phase : Phase) → is_phase phase Tentative ≡ true → is_phase phase Closing ≡ false
tentative-open Tentative is = refl
tentative-open Committed is = cc
tentative-open Closing is = cc

-- a row that was closed, beside rows of other channels
closed-whole : (c m t count : ℕ) (test : Row → Bool) (rows : List Row) → ((r : Row) → test r ≡ true → channel_of r ≡ c) → DifferInChannel rows → (row : Row) → find test rows ≡ Some row → Each (IsWhole c m) (change_first test (close_row t count) rows)
unfolding change_first
closed-whole c m t count test [] tests differ row found = tt
closed-whole c m t count test (r ∷ rows) tests differ row found =
    elim (cases_Bool (test r)) [
      | inl yes_it ↦ rw yes_it ((λ same opened. (let clash : true ≡ false = opened in cc)), Each-if (IsElsewhere c) (IsWhole c m) rows (λ other apart same. absurd (apart same)) (others-elsewhere c r rows (tests r yes_it) differ))
      | inr other ↦
          (let rest : find test rows ≡ Some row = rw other at found in
          rw other ((λ same. absurd (Each-find (IsElsewhere c) test rows row (others-elsewhere c r rows same differ) rest (tests row (find-passes test row rows rest)))), closed-whole c m t count test rows tests differ.1 row rest))
    ]

sources-whole : (c n : ℕ) (bounds : List ℕ) (here : List Arrival) (t taken : ℕ) (rows : List Row) → Each (IsWhole c n) rows → Each (IsWhole c n) (rows_after bounds here t taken rows)
unfolding rows_after
sources-whole c n bounds here t taken [] each = tt
sources-whole c n bounds here t taken (row ∷ rows) each = (one (step_of bounds here t row), sources-whole c n bounds here t (taken + taken_by (step_of bounds here t row)) rows each.1) where
  one : (step : SourceStep) → IsWhole c n (row_after step t (suc taken) row)
  one Rests = each.0
  one _ = each.0

arrival-whole : (c n t : ℕ) (packet : Packet) (scan : Scan) (found : Option Row) → Each (IsWhole c n) scan.rows → Each (IsWhole c n) (with_arrival t packet scan found).rows
unfolding with_arrival
arrival-whole c n t packet scan None each = each
arrival-whole c n t packet scan (Some row) each = Each-change_first (IsWhole c n) (is_row_of packet.chan) (arrived_row t (suc (length scan.packets)) packet) scan.rows (λ r is. is) each

after-whole : (shape : LinkShape) (c t n : ℕ) (scan : Scan) (ask : Ask) (reply : Reply) → MayAnswer shape t scan ask reply → DifferInChannel scan.rows → (offers_with c 0 ask reply ≡ 1 → n ≡ 0) → Each (IsWhole c n) scan.rows → Each (IsWhole c (cancelled_with c n ask reply)) (after shape t scan ask reply).rows
unfolding after after_tick with_best with_sources without_expired MayAnswer reply_at
after-whole shape c t n scan (Reserve chan contract kind delay up_reach first next) (Is.Offer level reach) may differ fresh each = Each-append (IsWhole c n) scan.rows _ each ((λ same opened. fresh (rw (eq-eqb (channel_number chan) c same) refl)), tt)
after-whole shape c t n scan (Relax chan level up_bound) (Is.Relaxed clock) may differ fresh each =
    Each-change_found (IsWhole c n) (is_row_of chan) (relax_row level up_bound) scan.rows (λ row found is same opened. is same (tentative-open row.terms.phase (relaxed-tent t level up_bound clock (held_by chan scan.rows) row.terms may (find-map row_terms (is_row_of chan) (is_of chan) (λ r. refl) scan.rows ∙ ap (option_map row_terms) found)))) each
after-whole shape c t n scan (Deny chan) Is.Denied may differ fresh each = Each-without_first (IsWhole c n) _ scan.rows each
after-whole shape c t n scan (Submit chan count gap size) (Is.Planned clock) may differ fresh each = Each-change_first (IsWhole c n) _ _ scan.rows (λ r is. is) each
after-whole shape c t n scan (Release chan upstream) (Is.Closing count cancelled) may differ fresh each =
    elim (cases_Bool (nat_eq (channel_number chan) c)) [
      | inl own ↦
          (let from = released-row t upstream chan scan.rows count cancelled may in
          let same = eqb-true (channel_number chan) c own in
          rw own (closed-whole c (n + cancelled) t count (is_row_at_hop chan (names_first_hop upstream)) scan.rows (λ r passed. row-at-hop chan (names_first_hop upstream) r passed ∙ same) differ from.0 from.1))
      | inr off ↦ rw off (Each-change_first (IsWhole c n) _ _ scan.rows (λ r is same opened. (let clash : true ≡ false = opened in cc)) each)
    ]
after-whole shape c t n scan (Arrive packet) (Is.Taken clock e) may differ fresh each = arrival-whole c n t packet scan (find (is_row_of packet.chan) scan.rows) each
after-whole shape c t n scan Tick reply may differ fresh each = sources-whole c n shape.bounds (here_at shape.rate scan.packets t) t (length scan.packets) (filter (stays shape.bounds t) scan.rows) (Each-filter (IsWhole c n) (stays shape.bounds t) scan.rows each)
after-whole shape c t n scan _ (Is.Planned clock) may differ fresh each = each
after-whole shape c t n scan _ _ may differ fresh each = each

rows-whole : (shape : LinkShape) (terms : HopTerms) (c : ℕ) (h : List Entry) → IsAdmissible shape h → offers_to c h ≤ 1 → Each (IsWhole c (cancelled_in c h)) (scan_of shape h).rows
unfolding IsAdmissible offers_to cancelled_in scan_of
rows-whole shape terms c [] legal few = tt
rows-whole shape terms c (e ∷ past) legal few =
    let more = offers-more c (offers_to c past) e.ask e.reply in
    after-whole shape c (clock_of past) (cancelled_in c past) (scan_of shape past) e.ask e.reply legal.1.answered (legal-channels shape past legal.0) (λ one. unoffered shape terms c past legal.0 (omega (arith, few, more, one))) (rows-whole shape terms c past legal.0 (omega (arith, few, more)))

-- where the channel's reservation isn't closing
pub uncancelled : (shape : LinkShape) (terms : HopTerms) (chan : ChanNo) (h : List Entry) (held : Reservation) → IsAdmissible shape h → offers_to (channel_number chan) h ≤ 1 → held_by chan (scan_of shape h).rows ≡ Some held → is_phase held.phase Closing ≡ false → cancelled_in (channel_number chan) h ≡ 0
uncancelled shape terms chan h held legal few is opened =
    let found = found-at-hop chan held.first (scan_of shape h).rows held is refl in
    Each-find (IsWhole (channel_number chan) (cancelled_in (channel_number chan) h)) (is_row_at_hop chan held.first) (scan_of shape h).rows found.0 (rows-whole shape terms (channel_number chan) h legal few) found.1
    (row-at-hop chan held.first found.0 (find-passes (is_row_at_hop chan held.first) found.0 (scan_of shape h).rows found.1)) (ap (λ k. is_phase k.phase Closing) found.2 ∙ opened)

-- ---- after the release

made-none : (t : ℕ) (plan : List SourcePacket) → Each (IsMade t) plan → length (left_at t plan) ≡ 0
made-none t [] made = refl
made-none t (p ∷ plan) made = rw (lt-leb t p.tick made.0) (made-none t plan made.1)

-- a row that is closing has none left
closing-left : (shape : LinkShape) (t : ℕ) (row : Row) (b : Bool) → IsInOrder shape t row → row.terms.phase ≡ Closing → (if b then length (left_at t row.plan) else 0) ≡ 0
closing-left shape t row true order phase = made-none t row.plan (order.cancelled phase)
closing-left shape t row false order phase = refl

elsewhere-left : (c t : ℕ) (rows : List Row) → Each (IsElsewhere c) rows → total (left_of c t) rows ≡ 0
elsewhere-left c t [] each = refl
elsewhere-left c t (row ∷ rows) each =
    elim (cases_Bool (nat_eq (channel_of row) c)) [
      | inl own ↦ absurd (each.0 (eqb-true (channel_of row) c own))
      | inr off ↦ (let rest = elsewhere-left c t rows each.1 in rw off (omega (arith, rest)))
    ]

held-left : (shape : LinkShape) (chan : ChanNo) (t : ℕ) (rows : List Row) → DifferInChannel rows → Each (IsInOrder shape t) rows → ((terms : Reservation) → held_by chan rows ≡ Some terms → terms.phase ≡ Closing) → total (left_of (channel_number chan) t) rows ≡ 0
held-left shape chan t [] differ order closes = refl
held-left shape chan t (row ∷ rows) differ order closes =
    elim (cases_Bool (nat_eq (channel_of row) (channel_number chan))) [
      | inl own ↦
          (let here = made-none t row.plan (order.0.cancelled (closes row.terms (rw own refl))) in
          let rest = elsewhere-left (channel_number chan) t rows (others-elsewhere (channel_number chan) row rows (eqb-true (channel_of row) (channel_number chan) own) differ) in
          rw own (omega (arith, here, rest)))
      | inr off ↦ (let rest = held-left shape chan t rows differ.1 order.1 (λ terms held. closes terms (rw off held)) in rw off (omega (arith, rest)))
    ]

-- each row that is gone was closing
abbrev IsClosed : Row → Type 0
IsClosed row = row.terms.phase ≡ Closing

ended-closing : (bounds : List ℕ) (terms : Reservation) (taken last t : ℕ) → hold_ended bounds terms taken last t ≡ true → terms.phase ≡ Closing
unfolding hold_ended
ended-closing bounds terms taken last t ended = phase-is terms.phase Closing (and_parts (is_phase terms.phase Closing) _ ended).0

ended-closed : (bounds : List ℕ) (t : ℕ) (row : Row) → expires bounds t row ≡ true → IsClosed row
ended-closed bounds t row ended = ended-closing bounds row.terms (length row.ticks) _ t ended

ended-each : (bounds : List ℕ) (t : ℕ) (rows : List Row) → Each IsClosed (filter (expires bounds t) rows)
ended-each bounds t [] = tt
ended-each bounds t (row ∷ rows) = cond_both (expires bounds t row) (row ∷ filter (expires bounds t) rows) (filter (expires bounds t) rows) (Each IsClosed) (λ ended. (ended-closed bounds t row ended, ended-each bounds t rows)) (λ _. ended-each bounds t rows)

effect-closed : (shape : LinkShape) (t : ℕ) (scan : Scan) (effect : Effect) → Each IsClosed scan.gone → Each IsClosed (with_effect shape t scan effect).gone
unfolding with_effect with_arrival after_tick with_best with_sources without_expired
effect-closed shape t scan Ticks each = Each-append IsClosed scan.gone (filter (expires shape.bounds t) scan.rows) each (ended-each shape.bounds t scan.rows)
effect-closed shape t scan _ each = each

gone-closed : (shape : LinkShape) (h : List Entry) → Each IsClosed (scan_of shape h).gone
gone-closed shape h = each-history (λ t scan. Each IsClosed scan.gone) shape tt (λ t scan effect. effect-closed shape t scan effect) h

gone-left : (shape : LinkShape) (c t : ℕ) (rows : List Row) → Each (IsInOrder shape t) rows → Each IsClosed rows → total (left_of c t) rows ≡ 0
gone-left shape c t [] order closed = refl
gone-left shape c t (row ∷ rows) order closed =
    let here = closing-left shape t row (nat_eq (channel_of row) c) order.0 closed.0 in
    let rest = gone-left shape c t rows order.1 closed.1 in
    omega (arith, here, rest)

-- where the channel's reservation, if one is held, is closing
pub none-left-closing : (shape : LinkShape) (chan : ChanNo) (h : List Entry) → IsAdmissible shape h → ((terms : Reservation) → held_by chan (scan_of shape h).rows ≡ Some terms → terms.phase ≡ Closing) → left_in (channel_number chan) shape h ≡ 0
none-left-closing shape chan h legal closes =
    let order = legal-order shape h legal in
    let held = held-left shape chan (clock_of h) (scan_of shape h).rows (legal-channels shape h legal) order.held closes in
    let gone = gone-left shape (channel_number chan) (clock_of h) (scan_of shape h).gone order.gone (gone-closed shape h) in
    omega (arith, held, gone)
