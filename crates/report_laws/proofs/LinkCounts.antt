-- What the report counts of a link is what its history tells: the starts whose packets have left, the drops of its rows, and the pours
-- that were refused.
use Rattle.std.proofs.Common.{◌≡◌, ◌≢◌, ℕ, suc, ◌+◌, ◌≤◌, Bool, true, false, List, [], ◌∷◌, length, Option, Some, None, refl, sym, ap, ◌∙◌, subst, inl, inr, arith}
use Rattle.run_engine.proofs.Words.{cases_Bool, cases_eq, cond_both, eqb-true, eqb-false, eq-eqb, ne_eqb, le-leb, lt-leb, ltb-true, same_Some, slice_get, nat_eq, not, ◌&&◌, filter, if◌then◌else◌, link_number, IsAdmissible, Ask, Tick, Entry, Reply, LinkShape, Each, sent_at, best_sent_at, tick_reply, reply_to, clock_of, clock_with, scan_of, starts_of, Arrival, Start, leaves_at, first_in_line, is_waiting, is_busy, add_start, serve_tick, starts_below, Link, ticked, NetworkFits, AllOwned, Network, part_of, Done, IsNext, IsRun}
use Rattle.link_steps.specs.BestEffort.{is_best}
use Rattle.link_steps.specs.BusyPeriod.{HasWork}
use Rattle.link_steps.specs.Shape.{blocking_of}
use Rattle.link_steps.specs.Replies.{sent_of}
use Rattle.link_steps.specs.Service.{work_of}
use Rattle.link_steps.proofs.SearchAndFilter.{Each-filter, Each-if}
use Rattle.link_steps.proofs.NewPackets.{packets-after}
use Rattle.link_steps.proofs.WindowFits.{packets-have_work}
use Rattle.link_steps.proofs.ServiceStarts.{HasLeft, FollowEachOther, HasBegun, starts_below-append, left-idle, starts-follow, starts-begun, first_in_line-fact}
use Rattle.channel_laws.proofs.DepartedCount.{more-legal}
use Rattle.channel_laws.proofs.SentInTime.{tick-answer}
use Rattle.run_engine.specs.replies.Answers.{IsReplyOf}
use Rattle.run_engine.proofs.Flights.FlightOrigins.{entry-tick, is-tick}
use Rattle.run_engine.proofs.Replies.Replying.{asks-answered}
use Rattle.run_engine.proofs.Runs.RunLegal.{part-on, part-off, part-admissible}
use Rattle.channel_report.specs.Links.{one_if, one_if_some}
use Rattle.report_laws.specs.Counts.{has_left, left_in, is_best_start, is_channel_start}

-- ---- one tick more

-- of starts that have all left by a clock, those that pass the test count
all-left : (shape : LinkShape) (test : Start → Bool) (clock : ℕ) (starts : List Start) → Each (HasLeft shape.rate clock) starts → length (filter (has_left shape test clock) starts) ≡ length (filter test starts)
all-left shape test clock [] left = refl
all-left shape test clock (start ∷ earlier) left =
    let rest = all-left shape test clock earlier left.1 in
    let yes = le-leb (leaves_at shape.rate start) clock left.0 in
    elim (cases_Bool (test start)) [ inl on ↦ rw (yes, on) (ap suc rest) | inr off ↦ rw (yes, off) rest ]

-- whether the head of the starts leaves at the tick's end, and passes the test
abbrev pub leaves_now : LinkShape → (Start → Bool) → ℕ → List Start → ℕ
leaves_now shape test t [] = 0
leaves_now shape test t (start ∷ earlier) = one_if (nat_eq (leaves_at shape.rate start) t && test start)

-- a head that hasn't left by t, and one later
head-counts : (shape : LinkShape) (test : Start → Bool) (t : ℕ) (start : Start) (earlier : List Start) → suc t ≤ leaves_at shape.rate start → Each (HasLeft shape.rate t) earlier
    → length (filter (has_left shape test (suc t)) (start ∷ earlier)) ≡ length (filter test earlier) + leaves_now shape test (suc t) (start ∷ earlier)
head-counts shape test t start earlier late left =
    let rest = all-left shape test (suc t) earlier (Each-if (HasLeft shape.rate t) (HasLeft shape.rate (suc t)) earlier (λ s upto. omega (arith, upto)) left) in
    elim (cases_eq (leaves_at shape.rate start) (suc t)) [
      | inl now ↦
          (let yes = le-leb (leaves_at shape.rate start) (suc t) (omega (arith, now)) in
          let same = eq-eqb (leaves_at shape.rate start) (suc t) now in
          elim (cases_Bool (test start)) [ inl on ↦ rw (yes, on, same) (omega (arith, rest)) | inr off ↦ rw (yes, off, same) (omega (arith, rest)) ])
      | inr apart ↦
          (let no = lt-leb (leaves_at shape.rate start) (suc t) (omega (arith, late, apart)) in
          let other = ne_eqb (leaves_at shape.rate start) (suc t) apart in
          rw (no, other) (omega (arith, rest)))
    ]

still-counts : (shape : LinkShape) (test : Start → Bool) (t : ℕ) (starts : List Start) → Each (HasLeft shape.rate t) starts → leaves_now shape test (suc t) starts ≡ 0
still-counts shape test t [] left = refl
still-counts shape test t (start ∷ earlier) left = (let other = ne_eqb (leaves_at shape.rate start) (suc t) (λ now. (let upto = left.0 in omega (arith, now, upto))) in rw other refl)

serve-counts : (shape : LinkShape) (test : Start → Bool) (packets : List Arrival) (t : ℕ) (starts : List Start) → FollowEachOther shape.rate starts → Each (HasBegun t) starts → Each (λ p. 1 ≤ work_of shape.rate p) packets
    → length (filter (has_left shape test (suc t)) (serve_tick shape.rate packets t starts)) ≡ length (filter (has_left shape test t) starts) + leaves_now shape test (suc t) (serve_tick shape.rate packets t starts)
unfolding serve_tick
serve-counts shape test packets t starts follow begun works =
    cond_both (is_busy shape.rate starts t) starts (add_start (first_in_line (filter (is_waiting starts t) packets)) t starts)
    (λ ss. length (filter (has_left shape test (suc t)) ss) ≡ length (filter (has_left shape test t) starts) + leaves_now shape test (suc t) ss)
    (λ busy. goes-on starts busy follow begun) (λ idle. begins (first_in_line (filter (is_waiting starts t) packets)) refl (left-idle shape.rate t starts follow idle)) where
      goes-on : (xs : List Start) → is_busy shape.rate xs t ≡ true → FollowEachOther shape.rate xs → Each (HasBegun t) xs → length (filter (has_left shape test (suc t)) xs) ≡ length (filter (has_left shape test t) xs) + leaves_now shape test (suc t) xs
      goes-on [] busy follows has = cc
      goes-on (start ∷ earlier) busy follows has =
          let late = ltb-true t (leaves_at shape.rate start) busy in
          let tick = has.0 in
          let left = Each-if (HasLeft shape.rate start.tick) (HasLeft shape.rate t) earlier (λ s upto. omega (arith, upto, tick)) follows.0 in
          let more = head-counts shape test t start earlier (omega (arith, late)) left in
          let all = all-left shape test t earlier left in
          let no = lt-leb (leaves_at shape.rate start) t late in
          let before : length (filter (has_left shape test t) (start ∷ earlier)) ≡ length (filter (has_left shape test t) earlier) = rw no refl in
          omega (arith, more, all, before)

      begins : (found : Option Arrival) → first_in_line (filter (is_waiting starts t) packets) ≡ found → Each (HasLeft shape.rate t) starts → length (filter (has_left shape test (suc t)) (add_start found t starts)) ≡ length (filter (has_left shape test t) starts) + leaves_now shape test (suc t) (add_start found t starts)
      begins None none left =
          let now = all-left shape test (suc t) starts (Each-if (HasLeft shape.rate t) (HasLeft shape.rate (suc t)) starts (λ s upto. omega (arith, upto)) left) in
          let before = all-left shape test t starts left in
          let still = still-counts shape test t starts left in
          omega (arith, now, before, still)
      begins (Some p) some left =
          let work = first_in_line-fact (λ q. 1 ≤ work_of shape.rate q) (filter (is_waiting starts t) packets) p (Each-filter (λ q. 1 ≤ work_of shape.rate q) (is_waiting starts t) packets works) some in
          let more = head-counts shape test t (record { packet = p; tick = t }) starts (omega (arith, work)) left in
          let before = all-left shape test t starts left in
          omega (arith, more, before)

-- ---- entries of a history

-- the starts before an entry stand after it
starts-same : (shape : LinkShape) (ask : Ask) (reply : Reply) (h : List Entry) → starts_below shape.rate (scan_of shape (record { ask = ask; reply = reply } ∷ h)).packets (clock_of h) ≡ starts_of shape h
unfolding scan_of
starts-same shape ask reply h =
    let grows = packets-after shape (clock_of h) (scan_of shape h) ask reply in
    ap (λ ps. starts_below shape.rate ps (clock_of h)) grows.are ∙ starts_below-append shape.rate (scan_of shape h).packets grows.new (clock_of h) grows.from

-- an entry that is no tick
pub quiet-left : (shape : LinkShape) (test : Start → Bool) (ask : Ask) (reply : Reply) (h : List Entry) → clock_with ask (clock_of h) ≡ clock_of h → left_in shape test (record { ask = ask; reply = reply } ∷ h) ≡ left_in shape test h
unfolding clock_of
quiet-left shape test ask reply h still =
    ap (λ t. length (filter (has_left shape test t) (starts_below shape.rate (scan_of shape (record { ask = ask; reply = reply } ∷ h)).packets t))) still
    ∙ ap (λ ss. length (filter (has_left shape test (clock_of h)) ss)) (starts-same shape ask reply h)

-- and a tick
pub tick-left : (shape : LinkShape) (test : Start → Bool) (h : List Entry) → IsAdmissible shape h → left_in shape test (ticked shape h) ≡ left_in shape test h + leaves_now shape test (suc (clock_of h)) (starts_of shape (ticked shape h))
unfolding clock_of starts_below
tick-left shape test h legal =
    let same = starts-same shape Tick (tick_reply shape (clock_of h) (scan_of shape h)) h in
    let works = Each-if (HasWork shape.rate (blocking_of shape)) (λ p. 1 ≤ work_of shape.rate p) (scan_of shape (ticked shape h)).packets (λ p work. work.least) (packets-have_work shape (ticked shape h) (more-legal shape h legal)) in
    let now = serve-counts shape test (scan_of shape (ticked shape h)).packets (clock_of h) (starts_below shape.rate (scan_of shape (ticked shape h)).packets (clock_of h))
    (starts-follow shape.rate (scan_of shape (ticked shape h)).packets (clock_of h)) (starts-begun shape.rate (scan_of shape (ticked shape h)).packets (clock_of h)) works in
    now ∙ ap (λ ss. length (filter (has_left shape test (clock_of h)) ss) + leaves_now shape test (suc (clock_of h)) (serve_tick shape.rate (scan_of shape (ticked shape h)).packets (clock_of h) (starts_below shape.rate (scan_of shape (ticked shape h)).packets (clock_of h)))) same

-- what a tick tells is whether the head of the starts leaves
pub sent-now : (shape : LinkShape) (t : ℕ) (starts : List Start) → one_if_some (sent_at shape t starts) ≡ leaves_now shape (is_channel_start shape) t starts
unfolding sent_at
sent-now shape t [] = refl
sent-now shape t (start ∷ earlier) = by (nat_eq (leaves_at shape.rate start) t && not (is_best shape.bounds start.packet)) where
  by : (b : Bool) → one_if_some (if b then Some (sent_of shape start) else None) ≡ one_if b
  by true = refl
  by false = refl

pub best-now : (shape : LinkShape) (t : ℕ) (starts : List Start) → one_if (best_sent_at shape t starts) ≡ leaves_now shape (is_best_start shape) t starts
unfolding best_sent_at
best-now shape t [] = refl
best-now shape t (start ∷ earlier) = refl

-- ---- the parts of a run

-- what holds of a link's history from the beginning on, and after each tick and each other entry, holds of its part of a run
pub run-part : (network : Network) (P : List Entry → Type 0) (n : ℕ) (link : Link) (run : List Done) → NetworkFits network → AllOwned network → slice_get network.links n ≡ Some link → P []
    → ((h : List Entry) → IsAdmissible link.shape h → P h → P (ticked link.shape h))
    → ((ask : Ask) (reply : Reply) (h : List Entry) → IsAdmissible link.shape (record { ask = ask; reply = reply } ∷ h) → IsAdmissible link.shape h → ask ≢ Tick → IsReplyOf ask reply → P h → P (record { ask = ask; reply = reply } ∷ h))
    → IsRun network run → P (part_of n run)
unfolding IsRun part_of
run-part network P n link [] fits owned linked none tick other is = none
run-part network P n link (done ∷ past) fits owned linked none tick other is =
    let was = run-part network P n link past fits owned linked none tick other is.0 in
    elim (cases_Bool (nat_eq (link_number done.link) n)) [
      | inr off ↦ subst P (sym (part-off n done past (eqb-false (link_number done.link) n off))) was
      | inl on ↦ at-link (eqb-true (link_number done.link) n on) was
    ] where
      at-link : link_number done.link ≡ n → P (part_of n past) → P (part_of n (done ∷ past))
      at-link on was =
          let next : IsNext network past done = is.1 in
          let same : next.link ≡ link = same_Some next.link link (sym next.linked ∙ ap (slice_get network.links) on ∙ linked) in
          let legal = part-admissible network past n link fits is.0 linked in
          let part = part-on n done past on in
          elim (is-tick done.ask) [
            | inl at ↦
                (let answered : done.reply ≡ tick_reply link.shape (clock_of (part_of n past)) (scan_of link.shape (part_of n past)) = next.answered ∙ ap (λ l. reply_to l (part_of (link_number done.link) past) done.ask) same ∙ ap (reply_to link (part_of (link_number done.link) past)) at ∙ ap (λ m. reply_to link (part_of m past) Tick) on ∙ tick-answer link (part_of n past) in
                subst P (sym (part ∙ ap (λ e. e ∷ part_of n past) (entry-tick done _ (sym at) answered))) (tick (part_of n past) legal was))
            | inr apart ↦
                (let more = part-admissible network (done ∷ past) n link fits is linked in
                subst P (sym part) (other done.ask done.reply (part_of n past) (subst (IsAdmissible link.shape) part more) legal apart (asks-answered network past done fits owned is.0 next) was))
          ]
