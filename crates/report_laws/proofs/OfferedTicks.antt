-- In an admissible history that offers to a channel at most once, the ticks that the report takes for what the channel's source has
-- offered, from the submits and releases that were answered, are those that the plan of the channel's row tells, whether the row is
-- held or gone.
use Rattle.std.proofs.Common.{◌≡◌, ◌≢◌, ℕ, zero, suc, ◌+◌, ◌≤◌, Bool, true, List, [], ◌∷◌, ◌++◌, length, map, Option, Some, None, refl, sym, ap, ◌∙◌, inl, inr, arith}
use Rattle.run_engine.proofs.Words.{cases_Bool, eqb-true, eqb-false, map-append, filter, find, nat_eq, channel_number, ChanNo, Ask, Reserve, Relax, Deny, Submit, Release, Arrive, Tick, Packet, Entry, Reply, LinkShape, MayAnswer, IsAdmissible, stays, expires, Each, change_first, submit_reply, submit_to, release_to, reply_at, tentative, Row, SourcePacket, new_row, planned_from, made_by, left_at, tick_of, offered_by, Scan, clock_of, is_row_of, is_row_at_hop, names_first_hop, relax_row, plan_row, close_row, arrived_row, with_arrival, without_expired, with_sources, with_best, after_tick, after, scan_of, Arrival, here_at, SourceStep, Rests, step_of, row_after, taken_by, rows_after, Committed, HopTerms, channel_of, offers_with, offers_to, AllOfferTerms, IsElsewhere, ChannelStands}
use Rattle.link_steps.specs.declared.replies.Reply.TheVariants as Is
use Rattle.link_steps.specs.Refusals.{not_in_phase, busy, too_big}
use Rattle.link_steps.specs.Rows.{is_before}
use Rattle.link_steps.specs.Sources.{Brings, Drops}
use Rattle.link_steps.proofs.FoundElements.{Each-change_found}
use Rattle.link_steps.proofs.LegalChannels.{DifferInChannel, legal-channels}
use Rattle.link_steps.proofs.SearchAndFilter.{Each-append, Each-filter, Each-find, Each-if, Each-change_first, Each-without_first, filter-map}
use Rattle.link_steps.proofs.RulesPassed.{answers-reply}
use Rattle.channel_laws.proofs.ChannelRows.{find-passes, row-at-hop, others-elsewhere, legal-stands}
use Rattle.channel_laws.proofs.FirstSource.{GoneTells, AllGone, legal-gone, offers-before}
use Rattle.report_laws.specs.Offered.{HasOffered, ReportsShowWhatSourcesOffer}
use Rattle.channel_report.specs.Sources.{act_of, ticks_from, is_made, planned_after, planned_in, offered_in}

-- ---- plans

-- the packets of a submit
from-same : (u gap size count : ℕ) → map tick_of (planned_from u gap size count) ≡ ticks_from u gap count
unfolding planned_from
from-same u gap size zero = refl
from-same u gap size (suc count) = ap (λ ticks. u ∷ ticks) (from-same (u + gap) gap size count)

each-same : (t : ℕ) (plan : List SourcePacket) → Each (λ p. is_made t (tick_of p) ≡ is_before t p) plan
each-same t [] = tt
each-same t (p ∷ plan) = (refl, each-same t plan)

-- those whose tick was made
pub made-same : (t : ℕ) (plan : List SourcePacket) → map tick_of (made_by t plan) ≡ filter (is_made t) (map tick_of plan)
made-same t plan = sym (filter-map tick_of (is_before t) (is_made t) plan (each-same t plan))

-- ---- rows that plan so

-- a row of the channel has these planned ticks
abbrev pub PlansAs : ℕ → List ℕ → Row → Type 0
PlansAs c planned row = channel_of row ≡ c → map tick_of row.plan ≡ planned

pub record PlansTold (c offers : ℕ) (planned : List ℕ) (scan : Scan) : Type 0 where
  pub held : Each (PlansAs c planned) scan.rows
  pub gone : Each (PlansAs c planned) scan.gone
  pub none : offers ≡ 0 → planned ≡ []

elsewhere-plans : (c : ℕ) (planned : List ℕ) (rows : List Row) → Each (IsElsewhere c) rows → Each (PlansAs c planned) rows
elsewhere-plans c planned rows each = Each-if (IsElsewhere c) (PlansAs c planned) rows (λ row other own. absurd (other own)) each

-- a change of the row of the channel
changed-plans : (c : ℕ) (planned later : List ℕ) (test : Row → Bool) (change : Row → Row) (row : Row) (rows : List Row) → ((r : Row) → test r ≡ true → channel_of r ≡ c) → ((r : Row) → channel_of (change r) ≡ channel_of r)
    → ((r : Row) → map tick_of r.plan ≡ planned → map tick_of (change r).plan ≡ later) → DifferInChannel rows → find test rows ≡ Some row → Each (PlansAs c planned) rows → Each (PlansAs c later) (change_first test change rows)
unfolding change_first
changed-plans c planned later test change row [] tests keeps plans differ found each = cc
changed-plans c planned later test change row (r ∷ rows) tests keeps plans differ found each =
    elim (cases_Bool (test r)) [
      | inl passed ↦ rw passed ((λ own. plans r (each.0 (tests r passed))), elsewhere-plans c later rows (others-elsewhere c r rows (tests r passed) differ))
      | inr failed ↦
          (let rest : find test rows ≡ Some row = rw failed at found in
          rw failed (
            (λ own. absurd (Each-find (IsElsewhere c) test rows row (others-elsewhere c r rows own differ) rest (tests row (find-passes test row rows rest)))),
            changed-plans c planned later test change row rows tests keeps plans differ.1 rest each.1,
          ))
    ]

-- and of the row of another
other-plans : (c : ℕ) (planned : List ℕ) (chan : ChanNo) (test : Row → Bool) (change : Row → Row) (rows : List Row) → ((r : Row) → test r ≡ true → channel_of r ≡ channel_number chan) → ((r : Row) → channel_of (change r) ≡ channel_of r)
    → channel_number chan ≢ c → Each (PlansAs c planned) rows → Each (PlansAs c planned) (change_first test change rows)
other-plans c planned chan test change rows tests keeps other each =
    Each-change_found (PlansAs c planned) test change rows
    (λ r found was own. absurd (other (sym (tests r (find-passes test r rows found)) ∙ sym (keeps r) ∙ own))) each

-- ---- the plan changes by an entry

-- where the row of the channel is held, none of it is gone
gone-none : (terms : HopTerms) (c offers : ℕ) (later : List ℕ) (test : Row → Bool) (row : Row) (scan : Scan) → channel_of row ≡ c → find test scan.rows ≡ Some row → AllGone terms c offers scan → Each (PlansAs c later) scan.gone
gone-none terms c offers later test row scan is found all =
    Each-if (λ g. channel_of g ≡ c → GoneTells terms c offers scan g) (PlansAs c later) scan.gone
    (λ g tells own. absurd (Each-find (IsElsewhere c) test scan.rows row (tells own).alone found is)) all

-- the plan of the channel's row changes
row-plans : (terms : HopTerms) (c offers : ℕ) (planned later : List ℕ) (test : Row → Bool) (change : Row → Row) (row : Row) (scan : Scan) → ((r : Row) → test r ≡ true → channel_of r ≡ c) → ((r : Row) → channel_of (change r) ≡ channel_of r)
    → ((r : Row) → map tick_of r.plan ≡ planned → map tick_of (change r).plan ≡ later) → DifferInChannel scan.rows → find test scan.rows ≡ Some row → ChannelStands terms c offers scan → AllGone terms c offers scan → PlansTold c offers planned scan
    → PlansTold c offers later (record scan { rows = change_first test change scan.rows })
row-plans terms c offers planned later test change row scan tests keeps plans differ found stands all told =
    let is : channel_of row ≡ c = tests row (find-passes test row scan.rows found) in
    record {
      held = changed-plans c planned later test change row scan.rows tests keeps plans differ found told.held;
      gone = gone-none terms c offers later test row scan is found all;
      none = λ n. absurd (Each-find (IsElsewhere c) test scan.rows row (stands.free n).rows found is);
    }

-- that of another channel does
other-told : (c offers : ℕ) (planned : List ℕ) (chan : ChanNo) (test : Row → Bool) (change : Row → Row) (scan : Scan) → ((r : Row) → test r ≡ true → channel_of r ≡ channel_number chan) → ((r : Row) → channel_of (change r) ≡ channel_of r)
    → channel_number chan ≢ c → PlansTold c offers planned scan → PlansTold c offers planned (record scan { rows = change_first test change scan.rows })
other-told c offers planned chan test change scan tests keeps other told =
    record { held = other-plans c planned chan test change scan.rows tests keeps other told.held; gone = told.gone; none = told.none }

planned-clock : (a b : ℕ) → Is.Planned a ≡ Is.Planned b → a ≡ b
planned-clock a b same = cc

-- a submit that is answered finds a row, and is answered by the clock
submit-finds : (t size clock : ℕ) (found : Option Row) → Is.Planned clock ≡ submit_to t size found → (row : Row) × (found ≡ Some row) × (clock ≡ t)
unfolding submit_reply
submit-finds t size clock None same = cc
submit-finds t size clock (Some row) same = (row, refl, planned-clock clock t (answers-reply (not_in_phase Committed row.terms ∷ busy (length (left_at t row.plan)) ∷ too_big row.terms size ∷ []) (Is.Planned t) (Is.Planned clock) tt same))

release-finds : (t count cancelled : ℕ) (upstream : Option ℕ) (found : Option Row) → Is.Closing count cancelled ≡ release_to t upstream found → (row : Row) × (found ≡ Some row)
release-finds t count cancelled upstream None same = cc
release-finds t count cancelled upstream (Some row) same = (row, refl)

submit-told : (terms : HopTerms) (c offers t : ℕ) (planned : List ℕ) (scan : Scan) (chan : ChanNo) (count gap size clock : ℕ) → Is.Planned clock ≡ submit_to t size (find (is_row_at_hop chan true) scan.rows) → DifferInChannel scan.rows → ChannelStands terms c offers scan → AllGone terms c offers scan → PlansTold c offers planned scan
    → PlansTold c offers (planned_after c t planned (act_of (Submit chan count gap size) (Is.Planned clock))) (record scan { rows = change_first (is_row_at_hop chan true) (plan_row t count gap size) scan.rows })
submit-told terms c offers t planned scan chan count gap size clock same differ stands all told =
    elim (cases_Bool (nat_eq (channel_number chan) c)) [
      | inl on ↦
          (let found = submit-finds t size clock (find (is_row_at_hop chan true) scan.rows) same in
          rw on (row-plans terms c offers planned (planned ++ ticks_from clock gap count) (is_row_at_hop chan true) (plan_row t count gap size) found.0 scan
          (λ r passed. row-at-hop chan true r passed ∙ eqb-true (channel_number chan) c on) (λ r. refl)
          (λ r is. map-append tick_of r.plan (planned_from t gap size count) ∙ ap (λ ticks. ticks ++ map tick_of (planned_from t gap size count)) is ∙ ap (λ ticks. planned ++ ticks) (from-same t gap size count ∙ ap (λ u. ticks_from u gap count) (sym found.2)))
          differ found.1 stands all told))
      | inr off ↦ rw off (other-told c offers planned chan (is_row_at_hop chan true) (plan_row t count gap size) scan (row-at-hop chan true) (λ r. refl) (eqb-false (channel_number chan) c off) told)
    ]

release-told : (terms : HopTerms) (c offers t : ℕ) (planned : List ℕ) (scan : Scan) (chan : ChanNo) (upstream : Option ℕ) (count cancelled : ℕ) → Is.Closing count cancelled ≡ release_to t upstream (find (is_row_at_hop chan (names_first_hop upstream)) scan.rows) → DifferInChannel scan.rows → ChannelStands terms c offers scan → AllGone terms c offers scan → PlansTold c offers planned scan
    → PlansTold c offers (planned_after c t planned (act_of (Release chan upstream) (Is.Closing count cancelled))) (record scan { rows = change_first (is_row_at_hop chan (names_first_hop upstream)) (close_row t count) scan.rows })
release-told terms c offers t planned scan chan upstream count cancelled same differ stands all told =
    elim (cases_Bool (nat_eq (channel_number chan) c)) [
      | inl on ↦
          (let found = release-finds t count cancelled upstream (find (is_row_at_hop chan (names_first_hop upstream)) scan.rows) same in
          rw on (row-plans terms c offers planned (filter (is_made t) planned) (is_row_at_hop chan (names_first_hop upstream)) (close_row t count) found.0 scan
          (λ r passed. row-at-hop chan (names_first_hop upstream) r passed ∙ eqb-true (channel_number chan) c on) (λ r. refl)
          (λ r is. made-same t r.plan ∙ ap (filter (is_made t)) is) differ found.1 stands all told))
      | inr off ↦ rw off (other-told c offers planned chan (is_row_at_hop chan (names_first_hop upstream)) (close_row t count) scan (row-at-hop chan (names_first_hop upstream)) (λ r. refl) (eqb-false (channel_number chan) c off) told)
    ]

reserve-told : (terms : HopTerms) (c offers : ℕ) (planned : List ℕ) (scan : Scan) (row : Row) → row.plan ≡ [] → (if_on : channel_of row ≡ c → offers ≡ 0) → PlansTold c offers planned scan → Each (PlansAs c planned) (scan.rows ++ row ∷ [])
reserve-told terms c offers planned scan row empty if_on told =
    Each-append (PlansAs c planned) scan.rows (row ∷ []) told.held ((λ own. ap (map tick_of) empty ∙ sym (told.none (if_on own))), tt)

-- a tick leaves the plans of all rows
step-plans : (c t place : ℕ) (planned : List ℕ) (row : Row) (step : SourceStep) → PlansAs c planned row → PlansAs c planned (row_after step t place row)
step-plans c t place planned row Rests plans = plans
step-plans c t place planned row (Brings size) plans = plans
step-plans c t place planned row Drops plans = plans

rows-plans : (c t taken : ℕ) (planned : List ℕ) (bounds : List ℕ) (here : List Arrival) (rows : List Row) → Each (PlansAs c planned) rows → Each (PlansAs c planned) (rows_after bounds here t taken rows)
unfolding rows_after
rows-plans c t taken planned bounds here [] each = tt
rows-plans c t taken planned bounds here (row ∷ rows) each =
    (step-plans c t (suc taken) planned row (step_of bounds here t row) each.0, rows-plans c t (taken + taken_by (step_of bounds here t row)) planned bounds here rows each.1)

tick-told : (shape : LinkShape) (c offers t : ℕ) (planned : List ℕ) (scan : Scan) → PlansTold c offers planned scan → PlansTold c offers planned (after_tick shape t scan)
unfolding after_tick with_best with_sources without_expired
tick-told shape c offers t planned scan told = record {
  held = rows-plans c t (length scan.packets) planned shape.bounds (here_at shape.rate scan.packets t) (filter (stays shape.bounds t) scan.rows) (Each-filter (PlansAs c planned) (stays shape.bounds t) scan.rows told.held);
  gone = Each-append (PlansAs c planned) scan.gone (filter (expires shape.bounds t) scan.rows) told.gone (Each-filter (PlansAs c planned) (expires shape.bounds t) scan.rows told.held);
  none = told.none;
}

arrive-told : (c offers t : ℕ) (planned : List ℕ) (packet : Packet) (scan : Scan) (found : Option Row) → PlansTold c offers planned scan → PlansTold c offers planned (with_arrival t packet scan found)
unfolding with_arrival
arrive-told c offers t planned packet scan None told = told
arrive-told c offers t planned packet scan (Some row) told = record {
  held = Each-change_first (PlansAs c planned) (is_row_of packet.chan) (arrived_row t (suc (length scan.packets)) packet) scan.rows (λ r plans. plans) told.held;
  gone = told.gone;
  none = told.none;
}

after-told : (shape : LinkShape) (terms : HopTerms) (c offers t : ℕ) (planned : List ℕ) (scan : Scan) (ask : Ask) (reply : Reply) → MayAnswer shape t scan ask reply → offers_with c offers ask reply ≤ 1 → DifferInChannel scan.rows → ChannelStands terms c offers scan → AllGone terms c offers scan → PlansTold c offers planned scan
    → PlansTold c (offers_with c offers ask reply) (planned_after c t planned (act_of ask reply)) (after shape t scan ask reply)
unfolding after MayAnswer reply_at
after-told shape terms c offers t planned scan (Reserve chan contract kind delay up_reach first next) (Is.Offer level reach) may once differ stands all told =
    elim (cases_Bool (nat_eq (channel_number chan) c)) [
      | inl on ↦
          (let most : suc offers ≤ 1 = rw on at once in
          rw on (record {
            held = reserve-told terms c offers planned scan (new_row (tentative chan contract kind first next up_reach level reach)) refl (λ own. omega (arith, most)) told;
            gone = told.gone;
            none = λ n. absurd (omega (arith, n));
          }))
      | inr off ↦ rw off (record {
        held = reserve-told terms c offers planned scan (new_row (tentative chan contract kind first next up_reach level reach)) refl (λ own. absurd (eqb-false (channel_number chan) c off own)) told;
        gone = told.gone;
        none = told.none;
      })
    ]
after-told shape terms c offers t planned scan (Relax chan level up_bound) (Is.Relaxed clock) may once differ stands all told = record {
  held = Each-change_first (PlansAs c planned) (is_row_of chan) (relax_row level up_bound) scan.rows (λ r plans. plans) told.held;
  gone = told.gone;
  none = told.none;
}
after-told shape terms c offers t planned scan (Deny chan) Is.Denied may once differ stands all told = record {
  held = Each-without_first (PlansAs c planned) (is_row_of chan) scan.rows told.held;
  gone = told.gone;
  none = told.none;
}
after-told shape terms c offers t planned scan (Submit chan count gap size) (Is.Planned clock) may once differ stands all told = submit-told terms c offers t planned scan chan count gap size clock may differ stands all told
after-told shape terms c offers t planned scan (Release chan upstream) (Is.Closing count cancelled) may once differ stands all told = release-told terms c offers t planned scan chan upstream count cancelled may differ stands all told
after-told shape terms c offers t planned scan (Arrive packet) (Is.Taken clock eligible) may once differ stands all told = arrive-told c offers t planned packet scan (find (is_row_of packet.chan) scan.rows) told
after-told shape terms c offers t planned scan Tick reply may once differ stands all told = tick-told shape c offers t planned scan told
after-told shape terms c offers t planned scan _ (Is.Planned clock) may once differ stands all told = record { held = told.held; gone = told.gone; none = told.none }
after-told shape terms c offers t planned scan _ _ may once differ stands all told = told

-- ---- every admissible history

pub plans-told : (shape : LinkShape) (terms : HopTerms) (c : ℕ) (h : List Entry) → IsAdmissible shape h → AllOfferTerms terms c h → offers_to c h ≤ 1 → PlansTold c (offers_to c h) (planned_in c h) (scan_of shape h)
unfolding IsAdmissible scan_of offers_to planned_in
plans-told shape terms c [] legal names once = record { held = tt; gone = tt; none = λ n. refl }
plans-told shape terms c (e ∷ past) legal names once =
    let before = offers-before c (offers_to c past) e.ask e.reply once in
    after-told shape terms c (offers_to c past) (clock_of past) (planned_in c past) (scan_of shape past) e.ask e.reply legal.1.answered once
    (legal-channels shape past legal.0) (legal-stands shape terms c past legal.0 names.1) (legal-gone shape terms c past legal.0 names.1 before) (plans-told shape terms c past legal.0 names.1 before)

-- ---- what was offered

plans-offered : (c t : ℕ) (planned : List ℕ) (row : Row) → PlansAs c planned row → channel_of row ≡ c → offered_by t row ≡ filter (is_made t) planned
plans-offered c t planned row plans own = made-same t row.plan ∙ ap (filter (is_made t)) (plans own)

pub offers-told : ReportsShowWhatSourcesOffer
offers-told shape terms c h legal names once =
    let told = plans-told shape terms c h legal names once in
    record {
      held = Each-if (PlansAs c (planned_in c h)) (HasOffered c (clock_of h) (offered_in c h)) (scan_of shape h).rows (λ row plans own. plans-offered c (clock_of h) (planned_in c h) row plans own) told.held;
      gone = Each-if (PlansAs c (planned_in c h)) (HasOffered c (clock_of h) (offered_in c h)) (scan_of shape h).gone (λ row plans own. plans-offered c (clock_of h) (planned_in c h) row plans own) told.gone;
    }
