-- The counts of a report's lines are those of the entries and the starts that they speak of.
use Rattle.std.proofs.Common.{◌≡◌, ◌≢◌, ℕ, suc, ◌+◌, Bool, true, false, List, [], ◌∷◌, ◌++◌, length, refl, ap, ◌∙◌, inl, inr, arith}
use Rattle.run_engine.proofs.Words.{cases_Bool, append_assoc, length-reverse, nat_eq, filter, reverse, if◌then◌else◌, channel_number, IsAdmissible, Ask, Deny, Submit, Release, Tick, Entry, Reply, LinkShape, sent_at, best_sent_at, tick_reply, Scan, clock_with, clock_of, scan_of, starts_of, after, starts_below, Link, ticked, PlanParts, network_of, part_of, Done}
use Rattle.link_steps.specs.declared.asks.Ask.TheVariants.{Pour}
use Rattle.link_steps.specs.declared.replies.Reply.TheVariants as Is
use Rattle.call_script.proofs.PlansFit.{plan-fits}
use Rattle.call_script.proofs.OneOwner.{all-owned}
use Rattle.channel_report.specs.Delays.{departures_of}
use Rattle.run_engine.specs.replies.Answers.{IsReplyOf}
use Rattle.run_engine.proofs.Flights.FlightOrigins.{quiet-clock}
use Rattle.channel_report.specs.Channels.{channel_lines}
use Rattle.channel_report.specs.Links.{one_if, one_if_some, sent_by, dropped_by, best_sent_by, best_lost_by, pours_refused_by, total_in, sent_in, dropped_in, best_sent_in, best_lost_in}
use Rattle.channel_report.specs.Moves.{move_lines}
use Rattle.channel_report.specs.Report.{end_line, request_lines, link_lines, table_if}
use Rattle.channel_report.specs.Routes.{route_lines}
use Rattle.channel_report.specs.Sources.{act_of, refused_by, refused_in, first_link}
use Rattle.report_laws.specs.Counts.{dropped_packets, best_taken, best_offered, left_in, is_best_start, is_channel_start, refuses_pour, is_refused_pour, ReportsShowWhatLinksDid, refuses_send, is_refused_send, ReportsShowRefusedSends, ReportsShowTheSteps}
use Rattle.report_laws.proofs.LinkCounts.{quiet-left, tick-left, sent-now, best-now, run-part}
use Rattle.report_laws.proofs.LostPackets.{counts-stay, tick-counts}

-- ---- entries that pass a test

counts-passed : (test : Entry → Bool) (count : Entry → ℕ) (h : List Entry) → ((e : Entry) → count e ≡ one_if (test e)) → total_in count h ≡ length (filter test h)
unfolding total_in
counts-passed test count [] each = refl
counts-passed test count (e ∷ past) each =
    let rest = counts-passed test count past each in
    let one = each e in
    elim (cases_Bool (test e)) [
      | inl on ↦ (let is : count e ≡ 1 = one ∙ ap one_if on in rw on (omega (arith, is, rest)))
      | inr off ↦ (let is : count e ≡ 0 = one ∙ ap one_if off in rw off (omega (arith, is, rest)))
    ]

pour-counts : (ask : Ask) (reply : Reply) → pours_refused_by ask reply ≡ one_if (refuses_pour ask reply)
pour-counts (Pour count gap size) (Is.Refused refusal) = refl
pour-counts _ (Is.Refused refusal) = refl
pour-counts (Pour count gap size) _ = refl
pour-counts _ _ = refl

send-counts : (c : ℕ) (ask : Ask) (reply : Reply) → refused_by c (act_of ask reply) ≡ one_if (refuses_send c ask reply)
send-counts c (Submit chan count gap size) (Is.Refused refusal) = by (nat_eq (channel_number chan) c) where
  by : (b : Bool) → (if b then 1 else 0) ≡ one_if b
  by true = refl
  by false = refl
send-counts c (Release chan upstream) (Is.Closing count cancelled) = refl
send-counts c _ _ = refl

sends-passed : (c : ℕ) (h : List Entry) → refused_in c h ≡ length (filter (is_refused_send c) h)
unfolding refused_in
sends-passed c [] = refl
sends-passed c (e ∷ past) =
    let rest = sends-passed c past in
    let one = send-counts c e.ask e.reply in
    elim (cases_Bool (is_refused_send c e)) [
      | inl on ↦ (let is : refused_by c (act_of e.ask e.reply) ≡ 1 = one ∙ ap one_if on in rw on (omega (arith, is, rest)))
      | inr off ↦ (let is : refused_by c (act_of e.ask e.reply) ≡ 0 = one ∙ ap one_if off in rw off (omega (arith, is, rest)))
    ]

pub sends-told : ReportsShowRefusedSends
sends-told run entry = sends-passed (channel_number entry.request.chan) (part_of (first_link entry.request.route) run)

-- ---- packets that have left

-- an ask that is no tick is answered by none
quiet-tells : (ask : Ask) (reply : Reply) → ask ≢ Tick → IsReplyOf ask reply → (sent_by reply ≡ 0) × (dropped_by reply ≡ 0) × (best_sent_by reply ≡ 0) × (best_lost_by reply ≡ 0)
quiet-tells Tick (Is.Ticked clock full sent best_sent best_lost) other answers = absurd (other refl)
quiet-tells (Deny chan) (Is.Ticked clock full sent best_sent best_lost) other answers = cc
quiet-tells _ (Is.Ticked clock full sent best_sent best_lost) other answers = absurd answers
quiet-tells _ _ other answers = (refl, refl, refl, refl)

record HasTold (link : Link) (h : List Entry) : Type 0 where
  sent : sent_in h ≡ left_in link.shape (is_channel_start link.shape) h
  full : dropped_in h ≡ dropped_packets (scan_of link.shape h)
  best : best_sent_in h ≡ left_in link.shape (is_best_start link.shape) h
  lost : best_lost_in h + best_taken link.shape (scan_of link.shape h) ≡ best_offered (clock_of h) (scan_of link.shape h)

-- what the reply of a tick tells
tells-sent : (shape : LinkShape) (h : List Entry) → sent_by (tick_reply shape (clock_of h) (scan_of shape h)) ≡ one_if_some (sent_at shape (suc (clock_of h)) (starts_of shape (ticked shape h)))
unfolding clock_of scan_of after
tells-sent shape h = refl

tells-best : (shape : LinkShape) (h : List Entry) → best_sent_by (tick_reply shape (clock_of h) (scan_of shape h)) ≡ one_if (best_sent_at shape (suc (clock_of h)) (starts_of shape (ticked shape h)))
unfolding clock_of scan_of after
tells-best shape h = refl

-- what was dropped and lost by a tick's end
tick-lost : (shape : LinkShape) (h : List Entry) → IsAdmissible shape h → dropped_in h ≡ dropped_packets (scan_of shape h) → dropped_in (ticked shape h) ≡ dropped_packets (scan_of shape (ticked shape h))
unfolding total_in scan_of after
tick-lost shape h legal before = (let now = (tick-counts shape h legal).dropped in omega (arith, now, before))

tick-best_lost : (shape : LinkShape) (h : List Entry) → IsAdmissible shape h → best_lost_in h + best_taken shape (scan_of shape h) ≡ best_offered (clock_of h) (scan_of shape h) → best_lost_in (ticked shape h) + best_taken shape (scan_of shape (ticked shape h)) ≡ best_offered (clock_of (ticked shape h)) (scan_of shape (ticked shape h))
unfolding total_in clock_of scan_of after
tick-best_lost shape h legal before = (let now = (tick-counts shape h legal).best in omega (arith, now, before))

tick-told : (link : Link) (h : List Entry) → IsAdmissible link.shape h → HasTold link h → HasTold link (ticked link.shape h)
unfolding total_in
tick-told link h legal was = record {
  sent = (let more = tick-left link.shape (is_channel_start link.shape) h legal in let now = sent-now link.shape (suc (clock_of h)) (starts_of link.shape (ticked link.shape h)) in let before = was.sent in
      ap (λ n. n + sent_in h) (tells-sent link.shape h) ∙ omega (arith, more, now, before));
  full = tick-lost link.shape h legal was.full;
  best = (let more = tick-left link.shape (is_best_start link.shape) h legal in let now = best-now link.shape (suc (clock_of h)) (starts_of link.shape (ticked link.shape h)) in let before = was.best in
      ap (λ n. n + best_sent_in h) (tells-best link.shape h) ∙ omega (arith, more, now, before));
  lost = tick-best_lost link.shape h legal was.lost;
}

-- the clock after an entry that is no tick
still-offered : (ask : Ask) (reply : Reply) (h : List Entry) (scan : Scan) → clock_with ask (clock_of h) ≡ clock_of h → best_offered (clock_of (record { ask = ask; reply = reply } ∷ h)) scan ≡ best_offered (clock_of h) scan
unfolding clock_of
still-offered ask reply h scan still = ap (λ t. best_offered t scan) still

other-told : (link : Link) (ask : Ask) (reply : Reply) (h : List Entry) → IsAdmissible link.shape (record { ask = ask; reply = reply } ∷ h) → ask ≢ Tick → IsReplyOf ask reply → HasTold link h → HasTold link (record { ask = ask; reply = reply } ∷ h)
unfolding total_in
other-told link ask reply h legal other answers was =
    let none = quiet-tells ask reply other answers in
    let still = quiet-clock ask (clock_of h) other in
    let same = counts-stay link.shape (record { ask = ask; reply = reply }) h legal still in
    let channels = quiet-left link.shape (is_channel_start link.shape) ask reply h still in
    let bests = quiet-left link.shape (is_best_start link.shape) ask reply h still in
    let offered = still-offered ask reply h (scan_of link.shape (record { ask = ask; reply = reply } ∷ h)) still in
    record {
      sent = (let now = was.sent in ap (λ n. n + sent_in h) none.0 ∙ omega (arith, now, channels));
      full = (let now = was.full in let as_before = same.dropped in ap (λ n. n + dropped_in h) none.1 ∙ omega (arith, now, as_before));
      best = (let now = was.best in ap (λ n. n + best_sent_in h) none.2 ∙ omega (arith, now, bests));
      lost = (let now = was.lost in let taken = same.taken in let planned = same.offered in
          ap (λ n. n + best_lost_in h + best_taken link.shape (scan_of link.shape (record { ask = ask; reply = reply } ∷ h))) none.3 ∙ omega (arith, now, taken, planned, offered));
    }

none-told : (link : Link) → HasTold link []
unfolding total_in clock_of scan_of starts_below
none-told link = record { sent = refl; full = refl; best = refl; lost = refl }

pub links-told : ReportsShowWhatLinksDid
links-told plan run n link is run_is linked =
    let told = run-part (network_of plan) (HasTold link) n link run (plan-fits plan is) (all-owned plan is) linked (none-told link)
    (λ h legal was. tick-told link h legal was) (λ ask reply h more legal other answers was. other-told link ask reply h more other answers was) run_is in
    record { sent = told.sent; full = told.full; best = told.best; lost = told.lost; refused = counts-passed is_refused_pour (λ e. pours_refused_by e.ask e.reply) _ (λ e. pour-counts e.ask e.reply) }

-- ---- the last line

regroup : (a b c d e f : List ℕ) → a ++ (b ++ (c ++ (d ++ (e ++ f)))) ≡ (a ++ (b ++ (c ++ (d ++ e)))) ++ f
regroup a b c d e f = simp append_assoc

-- the lines of the requests, the routes, the moves, the channels and the links
abbrev lines_before : PlanParts → List Done → List ℕ
lines_before plan entries = request_lines plan (reverse entries) ++ (route_lines plan.links plan.requests ++ (move_lines plan (reverse entries) ++ (channel_lines plan (departures_of entries) (reverse entries) ++ link_lines plan (reverse entries))))

pub steps-told : ReportsShowTheSteps
steps-told plan run packets = record {
  lines = lines_before plan (reverse run);
  is = regroup (request_lines plan (reverse (reverse run))) (route_lines plan.links plan.requests) (move_lines plan (reverse (reverse run))) (channel_lines plan (departures_of (reverse run)) (reverse (reverse run))) (link_lines plan (reverse (reverse run))) (end_line (length (reverse run)) ++ table_if packets plan (reverse run))
      ∙ ap (λ n. lines_before plan (reverse run) ++ (end_line n ++ table_if packets plan (reverse run))) (length-reverse run);
}
