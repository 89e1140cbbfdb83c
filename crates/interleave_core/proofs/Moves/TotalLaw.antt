-- Every packet that was planned on a channel at a link is offered, is left or was cancelled.
use Rattle.std.proofs.Common.{◌≡◌, ℕ, suc, ◌+◌, Bool, true, false, List, [], ◌∷◌, ◌++◌, length, map, Option, Some, None, refl, sym, ap, ◌∙◌, subst, inl, inr, arith, option_map}
use Rattle.run_engine.proofs.Words.{cases_Bool, cases_lt, lt-ltb, le-ltb, lt-leb, le-leb, eqb-true, and_parts, length-map, length-append, filter, find, nat_eq, if◌then◌else◌, channel_number, ChanNo, total, Ask, Reserve, Relax, Deny, Submit, Release, Arrive, Tick, Packet, Entry, Committed, Phase, Reply, LinkShape, MayAnswer, IsAdmissible, stays, expires, Each, change_first, without_first, deny_reply, submit_to, release_reply, release_to, reply_at, cancelled_at_release, Reservation, is_of, is_phase, is_same, tentative, Row, SourcePacket, new_row, row_terms, left_at, made_by, offered_by, tick_of, planned_from, Scan, plan_row, close_row, clock_of, scan_of, is_row_of, is_row_at_hop, names_first_hop, arrived_row, with_arrival, without_expired, with_sources, with_best, after_tick, after, Arrival, here_at, SourceStep, Rests, row_after, rows_after, step_of, taken_by, channel_of, same_Some, planned_with, planned_in, cancelled_with, cancelled_in, offered_of, left_of, PlannedPacketsAreOfferedLeftOrCancelled}
use Rattle.traffic_contract.proofs.AdmissionTest.{total-append, total-push}
use Rattle.link_steps.specs.declared.replies.Refusal.TheVariants.{NoSuch, NotInPhase}
use Rattle.link_steps.specs.declared.replies.Reply.TheVariants as Is
use Rattle.link_steps.proofs.FoundElements.{total-filter-both}
use Rattle.link_steps.proofs.LegalOrder.{legal-order}
use Rattle.link_steps.proofs.RowsInOrder.{IsInOrder}
use Rattle.link_steps.proofs.SearchAndFilter.{Each-find, find-map}
use Rattle.link_steps.proofs.ReservationFound.{deny-tells}
use Rattle.link_steps.proofs.PlanRises.{planned-count}
use Rattle.channel_laws.proofs.ChannelRows.{find-passes}
use Rattle.channel_laws.proofs.PlanLaw.{On}
use Rattle.channel_laws.proofs.UnsentPlans.{LaterEmpty, later-empty}

-- the whole plan of a row, if it is of the channel
plan_of : ℕ → Row → ℕ
plan_of c row = if nat_eq (channel_of row) c then length row.plan else 0

plans_of : ℕ → Scan → ℕ
plans_of c scan = total (plan_of c) scan.rows + total (plan_of c) scan.gone

-- ---- sums over changed lists

total-same : (f : Row → ℕ) (test : Row → Bool) (change : Row → Row) (rows : List Row) → ((row : Row) → f (change row) ≡ f row) → total f (change_first test change rows) ≡ total f rows
unfolding change_first
total-same f test change [] same = refl
total-same f test change (row ∷ rows) same =
    elim (cases_Bool (test row)) [
      | inl yes_it ↦ rw yes_it (ap (λ n. n + total f rows) (same row))
      | inr other ↦ rw other (ap (λ n. f row + n) (total-same f test change rows same))
    ]

total-some : (f : Row → ℕ) (test : Row → Bool) (change : Row → Row) (rows : List Row) (row : Row) → find test rows ≡ Some row → total f (change_first test change rows) + f row ≡ total f rows + f (change row)
unfolding change_first
total-some f test change [] row found = cc
total-some f test change (r ∷ rows) row found =
    elim (cases_Bool (test r)) [
      | inl yes_it ↦ (let same : r ≡ row = same_Some r row (rw yes_it at found) in rw yes_it (subst (λ x. f (change r) + total f rows + f x ≡ f r + total f rows + f (change x)) same (omega arith)))
      | inr other ↦ (let rest = total-some f test change rows row (rw other at found) in rw other (omega (arith, rest)))
    ]

total-without : (f : Row → ℕ) (test : Row → Bool) (rows : List Row) (row : Row) → find test rows ≡ Some row → f row ≡ 0 → total f (without_first test rows) ≡ total f rows
unfolding without_first
total-without f test [] row found zeroth = cc
total-without f test (r ∷ rows) row found zeroth =
    elim (cases_Bool (test r)) [
      | inl yes_it ↦ (let same : r ≡ row = same_Some r row (rw yes_it at found) in let none : f r ≡ 0 = ap f same ∙ zeroth in rw yes_it (omega (arith, none)))
      | inr other ↦ (let rest = total-without f test rows row (rw other at found) zeroth in rw other (omega (arith, rest)))
    ]

total-without-none : (f : Row → ℕ) (test : Row → Bool) (rows : List Row) → find test rows ≡ None → total f (without_first test rows) ≡ total f rows
unfolding without_first
total-without-none f test [] none = refl
total-without-none f test (row ∷ rows) none =
    elim (cases_Bool (test row)) [
      | inl yes_it ↦ (let clash : Some row ≡ None = rw yes_it at none in cc)
      | inr other ↦ (let rest : find test rows ≡ None = rw other at none in rw other (ap (λ n. f row + n) (total-without-none f test rows rest)))
    ]

-- ---- a tick

step-plan : (c t place : ℕ) (step : SourceStep) (row : Row) → plan_of c (row_after step t place row) ≡ plan_of c row
unfolding plan_of
step-plan c t place Rests row = refl
step-plan c t place _ row = refl

sources-plans : (c : ℕ) (bounds : List ℕ) (here : List Arrival) (t taken : ℕ) (rows : List Row) → total (plan_of c) (rows_after bounds here t taken rows) ≡ total (plan_of c) rows
unfolding rows_after plan_of
sources-plans c bounds here t taken [] = refl
sources-plans c bounds here t taken (row ∷ rows) =
    (let one = step-plan c t (suc taken) (step_of bounds here t row) row in
    let rest = sources-plans c bounds here t (taken + taken_by (step_of bounds here t row)) rows in
    ap (λ n. n + total (plan_of c) (rows_after bounds here t (taken + taken_by (step_of bounds here t row)) rows)) one ∙ ap (λ n. plan_of c row + n) rest)

tick-plans : (shape : LinkShape) (c t : ℕ) (scan : Scan) → plans_of c (after_tick shape t scan) ≡ plans_of c scan
unfolding after_tick with_best with_sources without_expired plans_of
tick-plans shape c t scan =
    let rows = sources-plans c shape.bounds (here_at shape.rate scan.packets t) t (length scan.packets) (filter (stays shape.bounds t) scan.rows) in
    let gone = total-append (plan_of c) scan.gone (filter (expires shape.bounds t) scan.rows) in
    let all = total-filter-both (plan_of c) (expires shape.bounds t) scan.rows in
    omega (arith, rows, gone, all)

-- ---- an entry

arrive-plans : (c t : ℕ) (packet : Packet) (scan : Scan) (found : Option Row) → plans_of c (with_arrival t packet scan found) ≡ plans_of c scan
unfolding with_arrival plans_of plan_of
arrive-plans c t packet scan None = refl
arrive-plans c t packet scan (Some row) = ap (λ n. n + total (plan_of c) scan.gone) (total-same (plan_of c) (is_row_of packet.chan) (arrived_row t (suc (length scan.packets)) packet) scan.rows (λ r. arrived-plan r)) where
  arrived-plan : (r : Row) → plan_of c (arrived_row t (suc (length scan.packets)) packet r) ≡ plan_of c r
  arrived-plan r = refl

parts-length : (t : ℕ) (plan : List SourcePacket) → length (made_by t plan) + length (left_at t plan) ≡ length plan
parts-length t [] = refl
parts-length t (p ∷ plan) =
    let rest = parts-length t plan in
    elim (cases_lt p.tick t) [
      | inl made ↦ rw (lt-ltb p.tick t made, lt-leb t p.tick made) (omega (arith, rest))
      | inr left ↦ rw (le-ltb p.tick t left, le-leb t p.tick left) (omega (arith, rest))
    ]

-- a submit
submit-plans : (c t count gap size : ℕ) (chan : ChanNo) (scan : Scan) (row : Row) → find (is_row_at_hop chan true) scan.rows ≡ Some row → total (plan_of c) (change_first (is_row_at_hop chan true) (plan_row t count gap size) scan.rows) ≡ total (plan_of c) scan.rows + (if nat_eq (channel_number chan) c then count else 0)
unfolding plan_of
submit-plans c t count gap size chan scan row found =
    let moved = total-some (plan_of c) (is_row_at_hop chan true) (plan_row t count gap size) scan.rows row found in
    let own : channel_of row ≡ channel_number chan = eqb-true (channel_of row) (channel_number chan) (and_parts (nat_eq (channel_of row) (channel_number chan)) _ (find-passes (is_row_at_hop chan true) row scan.rows found)).0 in
    let more : plan_of c (plan_row t count gap size row) ≡ plan_of c row + (if nat_eq (channel_number chan) c then count else 0) = subst (λ n. (if nat_eq n c then length (row.plan ++ planned_from t gap size count) else 0) ≡ (if nat_eq n c then length row.plan else 0) + (if nat_eq (channel_number chan) c then count else 0)) (sym own) (grown (nat_eq (channel_number chan) c)) in
    omega (arith, moved, more) where
      grown : (b : Bool) → (if b then length (row.plan ++ planned_from t gap size count) else 0) ≡ (if b then length row.plan else 0) + (if b then count else 0)
      grown true = length-append row.plan (planned_from t gap size count) ∙ ap (λ n. length row.plan + n) (planned-count t gap size count)
      grown false = refl

-- a release
cancelled-same : (a b c d : ℕ) → Is.Closing a b ≡ Is.Closing c d → b ≡ d
cancelled-same a b c d same = cc

pub release-cancels : (upstream : Option ℕ) (terms : Reservation) (taken left count cancelled : ℕ) → Is.Closing count cancelled ≡ release_reply upstream terms taken left → cancelled ≡ cancelled_at_release upstream left
unfolding release_reply
release-cancels upstream terms taken left count cancelled same =
    elim (cases_Bool (is_phase terms.phase Committed)) [
      | inl committed ↦ cancelled-same count cancelled _ _ (rw committed at same)
      | inr other ↦ absurd (no-closing count cancelled terms.phase (rw other at same))
    ] where
      no-closing : (a b : ℕ) (phase : Phase) → Is.Closing a b ≡ Is.Refused (NotInPhase phase) → ⊥
      no-closing a b phase is = cc

no-plan : (b : Bool) → is_same b false ≡ true → b ≡ false
no-plan true same = cc
no-plan false same = refl

release-length : (upstream : Option ℕ) (t : ℕ) (row : Row) (count cancelled : ℕ) → is_same row.terms.first (names_first_hop upstream) ≡ true → (row.terms.first ≡ false → row.plan ≡ []) → Is.Closing count cancelled ≡ release_reply upstream row.terms (length row.ticks) (length (left_at t row.plan)) → length (made_by t row.plan) + cancelled ≡ length row.plan
release-length None t row count cancelled first empty told = (let same = release-cancels None row.terms (length row.ticks) (length (left_at t row.plan)) count cancelled told in let parts = parts-length t row.plan in omega (arith, same, parts))
release-length (Some given) t row count cancelled first empty told =
    let same : cancelled ≡ 0 = release-cancels (Some given) row.terms (length row.ticks) (length (left_at t row.plan)) count cancelled told in
    let none : row.plan ≡ [] = empty (no-plan row.terms.first first) in
    subst (λ plan. length (made_by t plan) + cancelled ≡ length plan) (sym none) (omega (arith, same))

smaller : (b : Bool) (t : ℕ) (row : Row) (cancelled : ℕ) → length (made_by t row.plan) + cancelled ≡ length row.plan → (if b then length (made_by t row.plan) else 0) + (if b then cancelled else 0) ≡ (if b then length row.plan else 0)
smaller true t row cancelled less = less
smaller false t row cancelled less = refl

release-plans : (c t count cancelled : ℕ) (upstream : Option ℕ) (chan : ChanNo) (rows : List Row) → Each (On LaterEmpty t) rows → Is.Closing count cancelled ≡ release_to t upstream (find (is_row_at_hop chan (names_first_hop upstream)) rows) → total (plan_of c) (change_first (is_row_at_hop chan (names_first_hop upstream)) (close_row t count) rows) + (if nat_eq (channel_number chan) c then cancelled else 0) ≡ total (plan_of c) rows
unfolding plan_of
release-plans c t count cancelled upstream chan rows later told = by (find (is_row_at_hop chan (names_first_hop upstream)) rows) refl told where
  by : (found : Option Row) → find (is_row_at_hop chan (names_first_hop upstream)) rows ≡ found → Is.Closing count cancelled ≡ release_to t upstream found → total (plan_of c) (change_first (is_row_at_hop chan (names_first_hop upstream)) (close_row t count) rows) + (if nat_eq (channel_number chan) c then cancelled else 0) ≡ total (plan_of c) rows
  by None none is = cc
  by (Some row) found is =
      let moved = total-some (plan_of c) (is_row_at_hop chan (names_first_hop upstream)) (close_row t count) rows row found in
      let passes = and_parts (nat_eq (channel_of row) (channel_number chan)) (is_same row.terms.first (names_first_hop upstream)) (find-passes (is_row_at_hop chan (names_first_hop upstream)) row rows found) in
      let own : channel_of row ≡ channel_number chan = eqb-true (channel_of row) (channel_number chan) passes.0 in
      let parts = parts-length t row.plan in
      let empty = Each-find (On LaterEmpty t) (is_row_at_hop chan (names_first_hop upstream)) rows row later found in
      let less : length (made_by t row.plan) + cancelled ≡ length row.plan = release-length upstream t row count cancelled passes.1 empty is in
      let shrunk : plan_of c (close_row t count row) + (if nat_eq (channel_number chan) c then cancelled else 0) ≡ plan_of c row = subst (λ n. (if nat_eq n c then length (made_by t row.plan) else 0) + (if nat_eq (channel_number chan) c then cancelled else 0) ≡ (if nat_eq n c then length row.plan else 0)) (sym own) (smaller (nat_eq (channel_number chan) c) t row cancelled less) in
      omega (arith, moved, shrunk)

pub both-zero : (b : Bool) → ◌≡◌ {A = ℕ} (if b then 0 else 0) 0
both-zero true = refl
both-zero false = refl

-- a deny takes a row without a plan
deny-plans : (shape : LinkShape) (c t : ℕ) (chan : ChanNo) (rows : List Row) → Each (IsInOrder shape t) rows → Is.Denied ≡ deny_reply (find (is_of chan) (map row_terms rows)) → total (plan_of c) (without_first (is_row_of chan) rows) ≡ total (plan_of c) rows
unfolding plan_of
deny-plans shape c t chan rows order told = by (find (is_row_of chan) rows) refl where
  by : (found : Option Row) → find (is_row_of chan) rows ≡ found → total (plan_of c) (without_first (is_row_of chan) rows) ≡ total (plan_of c) rows
  by None none = total-without-none (plan_of c) (is_row_of chan) rows none
  by (Some row) some =
      let held : find (is_of chan) (map row_terms rows) ≡ Some row.terms = find-map row_terms (is_row_of chan) (is_of chan) (λ r. refl) rows ∙ ap (option_map row_terms) some in
      let phase = deny-tells row.terms (told ∙ ap deny_reply held) in
      let empty = ((Each-find (IsInOrder shape t) (is_row_of chan) rows row order some).fresh phase).1 in
      total-without (plan_of c) (is_row_of chan) rows row some (empty-plan row empty) where
        empty-plan : (r : Row) → r.plan ≡ [] → plan_of c r ≡ 0
        empty-plan r none = ap (λ (n : ℕ). if nat_eq (channel_of r) c then n else 0) (ap length none) ∙ both-zero (nat_eq (channel_of r) c)

from-zero : (b : Bool) (n : ℕ) → ◌≡◌ {A = ℕ} (if b then 0 + n else 0) (if b then n else 0)
from-zero true n = omega arith
from-zero false n = refl

-- one entry
after-plans : (shape : LinkShape) (c t : ℕ) (scan : Scan) (ask : Ask) (reply : Reply) → MayAnswer shape t scan ask reply → Each (IsInOrder shape t) scan.rows → Each (On LaterEmpty t) scan.rows → plans_of c (after shape t scan ask reply) + cancelled_with c 0 ask reply ≡ plans_of c scan + planned_with c 0 ask reply
unfolding after MayAnswer reply_at plans_of plan_of
after-plans shape c t scan (Reserve chan contract kind delay up_reach first next) (Is.Offer level reach) may order later =
    (let more = total-push (plan_of c) scan.rows (new_row (tentative chan contract kind first next up_reach level reach)) in let none = both-zero (nat_eq (channel_number chan) c) in omega (arith, more, none))
after-plans shape c t scan (Relax chan level up_bound) (Is.Relaxed clock) may order later = ap (λ n. n + total (plan_of c) scan.gone + 0) (total-same (plan_of c) _ _ scan.rows (λ r. refl))
after-plans shape c t scan (Deny chan) Is.Denied may order later = ap (λ n. n + total (plan_of c) scan.gone + 0) (deny-plans shape c t chan scan.rows order may)
after-plans shape c t scan (Submit chan count gap size) (Is.Planned clock) may order later = by (find (is_row_at_hop chan true) scan.rows) refl where
  by : (found : Option Row) → find (is_row_at_hop chan true) scan.rows ≡ found → total (plan_of c) (change_first (is_row_at_hop chan true) (plan_row t count gap size) scan.rows) + total (plan_of c) scan.gone + 0 ≡ total (plan_of c) scan.rows + total (plan_of c) scan.gone + (if nat_eq (channel_number chan) c then 0 + count else 0)
  by None none = absurd (no-row (may ∙ ap (submit_to t size) none)) where
    no-row : Is.Planned clock ≡ Is.Refused NoSuch → ⊥
    no-row is = cc
  by (Some row) some = (let grown = submit-plans c t count gap size chan scan row some in let same = from-zero (nat_eq (channel_number chan) c) count in omega (arith, grown, same))
after-plans shape c t scan (Release chan upstream) (Is.Closing count cancelled) may order later = (let shrunk = release-plans c t count cancelled upstream chan scan.rows later may in let same = from-zero (nat_eq (channel_number chan) c) cancelled in omega (arith, shrunk, same))
after-plans shape c t scan (Arrive packet) (Is.Taken clock e) may order later = ap (λ n. n + 0) (arrive-plans c t packet scan (find (is_row_of packet.chan) scan.rows))
after-plans shape c t scan Tick reply may order later = ap (λ n. n + 0) (tick-plans shape c t scan)
after-plans shape c t scan _ (Is.Planned clock) may order later = refl
after-plans shape c t scan _ _ may order later = refl

if-more : (b : Bool) (n more : ℕ) → (if b then n + more else n) ≡ n + (if b then 0 + more else 0)
if-more true n more = omega arith
if-more false n more = omega arith

planned-more : (c n : ℕ) (ask : Ask) (reply : Reply) → planned_with c n ask reply ≡ n + planned_with c 0 ask reply
planned-more c n (Submit chan count gap size) (Is.Planned clock) = if-more (nat_eq (channel_number chan) c) n count
planned-more c n _ _ = omega arith

cancelled-more : (c n : ℕ) (ask : Ask) (reply : Reply) → cancelled_with c n ask reply ≡ n + cancelled_with c 0 ask reply
cancelled-more c n (Release chan upstream) (Is.Closing count cancelled) = if-more (nat_eq (channel_number chan) c) n cancelled
cancelled-more c n _ _ = omega arith

all-plans : (shape : LinkShape) (c : ℕ) (h : List Entry) → IsAdmissible shape h → planned_in c h ≡ plans_of c (scan_of shape h) + cancelled_in c h
unfolding IsAdmissible scan_of planned_in cancelled_in plans_of
all-plans shape c [] legal = refl
all-plans shape c (e ∷ past) legal =
    let before = all-plans shape c past legal.0 in
    let one = after-plans shape c (clock_of past) (scan_of shape past) e.ask e.reply legal.1.answered (legal-order shape past legal.0).held (later-empty shape past) in
    let more = planned-more c (planned_in c past) e.ask e.reply in
    let less = cancelled-more c (cancelled_in c past) e.ask e.reply in
    omega (arith, before, one, more, less)

-- ---- a plan is offered or left

row-parts : (c t : ℕ) (row : Row) → plan_of c row ≡ offered_of c t row + left_of c t row
unfolding plan_of
row-parts c t row = by (nat_eq (channel_of row) c) where
  by : (b : Bool) → (if b then length row.plan else 0) ≡ (if b then length (offered_by t row) else 0) + (if b then length (left_at t row.plan) else 0)
  by true = (let parts = parts-length t row.plan in let ticks : length (offered_by t row) ≡ length (made_by t row.plan) = length-map (made_by t row.plan) tick_of in omega (arith, parts, ticks))
  by false = refl

rows-parts : (c t : ℕ) (rows : List Row) → total (plan_of c) rows ≡ total (offered_of c t) rows + total (left_of c t) rows
rows-parts c t [] = refl
rows-parts c t (row ∷ rows) = (let one = row-parts c t row in let rest = rows-parts c t rows in omega (arith, one, rest))

pub none-lost : PlannedPacketsAreOfferedLeftOrCancelled
unfolding plans_of
none-lost shape c h legal =
    let all = all-plans shape c h legal in
    let held = rows-parts c (clock_of h) (scan_of shape h).rows in
    let gone = rows-parts c (clock_of h) (scan_of shape h).gone in
    omega (arith, all, held, gone)
