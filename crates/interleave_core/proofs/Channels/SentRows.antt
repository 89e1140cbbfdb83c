-- In every run each packet that a tick's reply tells as sent is of a start of its link, which stays among the link's starts.
use Rattle.std.proofs.Common.{◌≡◌, ℕ, suc, ◌≤◌, Bool, List, [], ◌∷◌, Option, Some, None, refl, sym, ap, ◌∙◌, subst, inl, inr, arith}
use Rattle.run_engine.proofs.Words.{cond_both, same_Some, slice_get, filter, link_number, Tick, Entry, Sent, LinkShape, Link, reply_to, tick_reply, clock_with, clock_of, scan_of, starts_of, Arrival, Start, is_busy, is_waiting, first_in_line, add_start, serve_tick, starts_below, Among, Done, NetworkFits, Network, entry_of, part_of, IsNext, IsRun, ticked}
use Rattle.link_steps.specs.declared.replies.Reply.TheVariants as Is
use Rattle.link_steps.proofs.ServiceStarts.{starts_below-append}
use Rattle.run_engine.proofs.Flights.FlightOrigins.{entry-tick, is-tick, quiet-clock}
use Rattle.channel_laws.proofs.DepartedCount.{history-from}
use Rattle.run_engine.proofs.Runs.RunLegal.{part-on, part-admissible, by-part}
use Rattle.channel_laws.proofs.SentInTime.{sent-facts, tick-answer}
use Rattle.interleave_core.specs.channels.Sent.{SentBy, TicksReportWhatHasLeft}

best-more : (best : Option Arrival) (t : ℕ) (starts : List Start) (s : Start) → Among s starts → Among s (add_start best t starts)
best-more None t starts s among = among
best-more (Some p) t starts s among = inr among

starts-more : (rate : ℕ) (packets : List Arrival) (t : ℕ) (s : Start) → Among s (starts_below rate packets t) → Among s (starts_below rate packets (suc t))
unfolding starts_below serve_tick
starts-more rate packets t s among =
    cond_both (is_busy rate (starts_below rate packets t) t) (starts_below rate packets t) (add_start (first_in_line (filter (is_waiting (starts_below rate packets t) t) packets)) t (starts_below rate packets t)) (Among s)
    (λ _. among) (λ _. best-more (first_in_line (filter (is_waiting (starts_below rate packets t) t) packets)) t (starts_below rate packets t) s among)

starts-stay : (shape : LinkShape) (e : Entry) (h : List Entry) (s : Start) → Among s (starts_of shape h) → Among s (starts_of shape (e ∷ h))
unfolding clock_of
starts-stay shape e h s among =
    let grows = history-from shape e h in
    let same : starts_below shape.rate (scan_of shape (e ∷ h)).packets (clock_of h) ≡ starts_below shape.rate (scan_of shape h).packets (clock_of h) = ap (λ ps. starts_below shape.rate ps (clock_of h)) grows.are ∙ starts_below-append shape.rate (scan_of shape h).packets grows.new (clock_of h) grows.from in
    let there : Among s (starts_below shape.rate (scan_of shape (e ∷ h)).packets (clock_of h)) = subst (Among s) (sym same) among in
    elim (is-tick e.ask) [
      | inl tick ↦ subst (λ t. Among s (starts_below shape.rate (scan_of shape (e ∷ h)).packets t)) (sym (ap (λ a. clock_with a (clock_of h)) tick)) (starts-more shape.rate (scan_of shape (e ∷ h)).packets (clock_of h) s there)
      | inr other ↦ subst (λ t. Among s (starts_below shape.rate (scan_of shape (e ∷ h)).packets t)) (sym (quiet-clock e.ask (clock_of h) other)) there
    ]

clock-up : (e : Entry) (h : List Entry) → clock_of h ≤ clock_of (e ∷ h)
unfolding clock_of
clock-up e h = elim (is-tick e.ask) [
  | inl tick ↦ (let now : clock_with e.ask (clock_of h) ≡ suc (clock_of h) = ap (λ a. clock_with a (clock_of h)) tick in omega (arith, now))
  | inr other ↦ (let now = quiet-clock e.ask (clock_of h) other in omega (arith, now))
]

stays-sent : (shape : LinkShape) (n : ℕ) (done : Done) (past : List Done) (sent : Sent) → SentBy shape (part_of n past) sent → SentBy shape (part_of n (done ∷ past)) sent
stays-sent shape n done past sent was =
    by-part (λ h. SentBy shape h sent) n done past
    (λ on. record { start = was.start; among = starts-stay shape (entry_of done) (part_of n past) was.start was.among; left = (let l = was.left in let up = clock-up (entry_of done) (part_of n past) in omega (arith, l, up)); is = was.is })
    (λ off. was)

now-sent : (network : Network) (done : Done) (past : List Done) (link : Link) (clock full : ℕ) (sent : Sent) (best_sent best_lost : Bool) → NetworkFits network → IsRun network past → (next : IsNext network past done) → slice_get network.links (link_number done.link) ≡ Some link → done.ask ≡ Tick → done.reply ≡ Is.Ticked clock full (Some sent) best_sent best_lost → SentBy link.shape (part_of (link_number done.link) (done ∷ past)) sent
unfolding clock_of
now-sent network done past link clock full sent best_sent best_lost fits run next linked tick reply =
    let same : next.link ≡ link = same_Some next.link link (sym next.linked ∙ linked) in
    let answered : done.reply ≡ tick_reply link.shape (clock_of (part_of (link_number done.link) past)) (scan_of link.shape (part_of (link_number done.link) past)) = next.answered ∙ ap (λ l. reply_to l (part_of (link_number done.link) past) done.ask) same ∙ ap (reply_to link (part_of (link_number done.link) past)) tick ∙ tick-answer link (part_of (link_number done.link) past) in
    let legal = part-admissible network past (link_number done.link) link fits run linked in
    let from = sent-facts link.shape (part_of (link_number done.link) past) clock full sent best_sent best_lost legal (sym reply ∙ answered) in
    let part : part_of (link_number done.link) (done ∷ past) ≡ ticked link.shape (part_of (link_number done.link) past) = part-on (link_number done.link) done past refl ∙ ap (λ e. e ∷ part_of (link_number done.link) past) (entry-tick done _ (sym tick) answered) in
    subst (λ h. SentBy link.shape h sent) (sym part) (record { start = from.start; among = from.among; left = (let l = from.leaves in omega (arith, l)); is = from.is })

pub sent-by : TicksReportWhatHasLeft
unfolding IsRun
sent-by network [] done link clock full sent best_sent best_lost fits is among linked tick reply = absurd among
sent-by network (d ∷ past) done link clock full sent best_sent best_lost fits is (inl same) linked tick reply =
    subst (λ x. SentBy link.shape (part_of (link_number x.link) (d ∷ past)) sent) (sym same)
    (now-sent network d past link clock full sent best_sent best_lost fits is.0 is.1 (ap (λ x. slice_get network.links (link_number x.link)) (sym same) ∙ linked) (ap (λ x. x.ask) (sym same) ∙ tick) (ap (λ x. x.reply) (sym same) ∙ reply))
sent-by network (d ∷ past) done link clock full sent best_sent best_lost fits is (inr among) linked tick reply = stays-sent link.shape (link_number done.link) d past sent (sent-by network past done link clock full sent best_sent best_lost fits is.0 among linked tick reply)
