-- What a run tells of its departures: each flight was told by a tick, and each packet that arrives and is taken came from such a
-- flight, in the round in which it was due.
use Rattle.std.proofs.Common.{◌≡◌, ℕ, suc, ◌+◌, ◌≤◌, Bool, true, false, cond, ◌⊎◌, List, [], ◌∷◌, ◌++◌, length, Option, Some, None, refl, sym, ap, ◌∙◌, subst, inl, inr, arith}
use Rattle.run_engine.proofs.Words.{cases_Bool, eqb-true, eqb-false, same_Some, slice_get, nat_eq, find, link_number, actor_number, channel_number, LinkNo, Arrive, Tick, Packet, Entry, Reply, Sent, LinkShape, Each, Among, arrive_to, reply_at, reply_to, Row, clock_of, scan_of, is_row_of, Link, NetworkFits, Network, entry_of, part_of, replies_to, Done, Flight, Plane, is_due, next_due, flight_to, flight_in, plane_with, plane_of, plane_no, plane_at, IsNext, IsRun, AllOwned, ticked, tick_reply, starts_of, Start, leaves_at}
use Rattle.link_steps.specs.declared.replies.Reply.TheVariants as Is
use Rattle.link_steps.proofs.SearchAndFilter.{Each-if, Each-among, Each-without_first, Each-find}
use Rattle.link_steps.proofs.ListParts.{Among-right}
use Rattle.run_record.specs.Rows.{row_of, rows_by, departures_in, links_of}
use Rattle.run_record.specs.Runs.{is_on}
use Rattle.run_record.specs.declared.rows.HopRow.{HopRow}
use Rattle.tick_plane.proofs.PlaneFlights.{made-flights}
use Rattle.interleave_core.proofs.Delays.HopLaw.{arrive-comes}
use Rattle.run_engine.proofs.Replies.Replying.{asks-answered}
use Rattle.interleave_core.proofs.Channels.SentRows.{sent-by}
use Rattle.channel_laws.proofs.NumberedPackets.{HasNumber, packets-have_numbers}
use Rattle.channel_laws.proofs.DepartedCount.{more-legal, start-among}
use Rattle.run_engine.specs.replies.Answers.{IsReplyOf}
use Rattle.channel_laws.proofs.SentInTime.{sent-facts, tick-answer}
use Rattle.link_steps.specs.Replies.{sent_of}
use Rattle.run_engine.proofs.Runs.RunLegal.{part-admissible, plane-off, plane-by}
use Rattle.run_engine.proofs.Channels.Leaving.{asks-tick}
use Rattle.trace_audit.proofs.Turns.{arrive-answer}

-- ---- an entry of a run, where it was made

pub record Split (network : Network) (run : List Done) (done : Done) : Type 0 where
  pub past : List Done
  pub is : IsRun network past
  pub next : IsNext network past done
  pub before : (other : Done) → Among other past → Among other run

pub run-split : (network : Network) (run : List Done) (done : Done) → IsRun network run → Among done run → Split network run done
unfolding IsRun
run-split network [] done is among = absurd among
run-split network (first ∷ past) done is (inl same) = record { past = past; is = is.0; next = subst (IsNext network past) (sym same) is.1; before = λ other there. inr there }
run-split network (first ∷ past) done is (inr among) =
    let rest = run-split network past done is.0 among in
    record { past = rest.past; is = rest.is; next = rest.next; before = λ other there. inr (rest.before other there) }

-- an entry of a link's part
pub record InRun (run : List Done) (n : ℕ) (e : Entry) : Type 0 where
  pub done : Done
  pub among : Among done run
  pub on : link_number done.link ≡ n
  pub is : e ≡ entry_of done

pub part-among : (run : List Done) (n : ℕ) (e : Entry) → Among e (part_of n run) → InRun run n e
unfolding part_of
part-among [] n e among = absurd among
part-among (done ∷ past) n e among = by-test (is_on n done) refl among (λ there. part-among past n e there) where
  later : InRun past n e → InRun (done ∷ past) n e
  later rest = record { done = rest.done; among = inr rest.among; on = rest.on; is = rest.is }

  by-test : (b : Bool) → is_on n done ≡ b → Among e (cond b (entry_of done ∷ part_of n past) (part_of n past)) → (Among e (part_of n past) → InRun past n e) → InRun (done ∷ past) n e
  by-test true on (inl same) rest = record { done = done; among = inl refl; on = eqb-true (link_number done.link) n on; is = same }
  by-test true on (inr there) rest = later (rest there)
  by-test false off there rest = later (rest there)

-- ---- departures

-- a tick of the run tells the row
pub record IsTold (run : List Done) (whole : List Done) (row : HopRow) : Type 0 where
  pub done : Done
  pub among : Among done run
  pub clock : ℕ
  pub full : ℕ
  pub sent : Sent
  pub best_sent : Bool
  pub best_lost : Bool
  pub reply : done.reply ≡ Is.Ticked clock full (Some sent) best_sent best_lost
  pub is : row ≡ row_of (links_of (channel_number sent.packet.chan) whole) done.link clock sent

told-among : {X : Type 0} (x : X) (xs ys : List X) → Among x (xs ++ ys) → Among x xs ⊎ Among x ys
told-among x [] ys among = inr among
told-among x (y ∷ xs) ys (inl same) = inl (inl same)
told-among x (y ∷ xs) ys (inr among) = elim (told-among x xs ys among) [ inl there ↦ inl (inr there) | inr there ↦ inr there ]

row-told : (whole : List Done) (done : Done) (reply : Reply) (row : HopRow) → done.reply ≡ reply → Among row (rows_by whole done.link reply) → IsTold (done ∷ []) whole row
row-told whole done (Is.Ticked clock full (Some sent) best_sent best_lost) row is (inl same) = record { done = done; among = inl refl; clock = clock; full = full; sent = sent; best_sent = best_sent; best_lost = best_lost; reply = is; is = same }
row-told whole done (Is.Ticked clock full (Some sent) best_sent best_lost) row is (inr none) = absurd none
row-told whole done _ row is among = absurd among

pub departure-told : (whole later : List Done) (row : HopRow) → Among row (departures_in whole later) → IsTold later whole row
unfolding departures_in
departure-told whole [] row among = absurd among
departure-told whole (done ∷ later) row among = by-part (told-among row (rows_by whole done.link done.reply) (departures_in whole later) among) (λ there. departure-told whole later row there) where
  by-part : Among row (rows_by whole done.link done.reply) ⊎ Among row (departures_in whole later) → (Among row (departures_in whole later) → IsTold later whole row) → IsTold (done ∷ later) whole row
  by-part (inl here) rest = (let own = row-told whole done done.reply row refl here in record { done = own.done; among = first own.among; clock = own.clock; full = own.full; sent = own.sent; best_sent = own.best_sent; best_lost = own.best_lost; reply = own.reply; is = own.is }) where
    first : {d : Done} → Among d (done ∷ []) → Among d (done ∷ later)
    first (inl same) = inl same
    first (inr none) = absurd none
  by-part (inr there) rest = (let own = rest there in record { done = own.done; among = inr own.among; clock = own.clock; full = own.full; sent = own.sent; best_sent = own.best_sent; best_lost = own.best_lost; reply = own.reply; is = own.is })

-- each that a tick tells is one of them
pub told-departs : (whole later : List Done) (done : Done) (clock full : ℕ) (sent : Sent) (best_sent best_lost : Bool) → Among done later → done.reply ≡ Is.Ticked clock full (Some sent) best_sent best_lost → Among (row_of (links_of (channel_number sent.packet.chan) whole) done.link clock sent) (departures_in whole later)
unfolding departures_in
told-departs whole [] done clock full sent best_sent best_lost among reply = absurd among
told-departs whole (first ∷ later) done clock full sent best_sent best_lost (inl same) reply =
    let own : first.reply ≡ Is.Ticked clock full (Some sent) best_sent best_lost = ap (λ (d : Done). d.reply) (sym same) ∙ reply in
    let rows : rows_by whole first.link first.reply ≡ row_of (links_of (channel_number sent.packet.chan) whole) first.link clock sent ∷ [] = ap (rows_by whole first.link) own in
    subst (λ rs. Among (row_of (links_of (channel_number sent.packet.chan) whole) done.link clock sent) (rs ++ departures_in whole later)) (sym rows) (inl (ap (λ (d : Done). row_of (links_of (channel_number sent.packet.chan) whole) d.link clock sent) same))
told-departs whole (first ∷ later) done clock full sent best_sent best_lost (inr among) reply =
    Among-right (row_of (links_of (channel_number sent.packet.chan) whole) done.link clock sent) (rows_by whole first.link first.reply) (departures_in whole later) (told-departs whole later done clock full sent best_sent best_lost among reply)

-- ---- flights

-- a tick of the run told the flight
pub record FlightTold (run : List Done) (flight : Flight) : Type 0 where
  pub done : Done
  pub among : Among done run
  pub clock : ℕ
  pub full : ℕ
  pub sent : Sent
  pub best_sent : Bool
  pub best_lost : Bool
  pub reply : done.reply ≡ Is.Ticked clock full (Some sent) best_sent best_lost
  pub packet : sent.packet ≡ flight.packet
  pub arrives : sent.arrives ≡ flight.round
  pub next : sent.next ≡ Some flight.to

told-later : (done : Done) (past : List Done) (flight : Flight) → FlightTold past flight → FlightTold (done ∷ past) flight
told-later done past flight told = record { done = told.done; among = inr told.among; clock = told.clock; full = told.full; sent = told.sent; best_sent = told.best_sent; best_lost = told.best_lost; reply = told.reply; packet = told.packet; arrives = told.arrives; next = told.next }

sent-told : (done : Done) (past : List Done) (clock full : ℕ) (sent : Sent) (best_sent best_lost : Bool) (next : Option LinkNo) → done.reply ≡ Is.Ticked clock full (Some sent) best_sent best_lost → sent.next ≡ next → Each (FlightTold (done ∷ past)) (flight_to sent next)
sent-told done past clock full sent best_sent best_lost None reply is = tt
sent-told done past clock full sent best_sent best_lost (Some to) reply is = (record { done = done; among = inl refl; clock = clock; full = full; sent = sent; best_sent = best_sent; best_lost = best_lost; reply = reply; packet = refl; arrives = refl; next = is }, tt)

new-told : (done : Done) (past : List Done) (reply : Reply) → done.reply ≡ reply → Each (FlightTold (done ∷ past)) (flight_in reply)
new-told done past (Is.Ticked clock full None best_sent best_lost) is = tt
new-told done past (Is.Ticked clock full (Some sent) best_sent best_lost) is = sent-told done past clock full sent best_sent best_lost sent.next is refl
new-told done past _ is = tt

flights-after : (links : ℕ) (plane : Plane) (found : Option Flight) (done : Done) (past : List Done) → Each (FlightTold past) plane.flights → Each (FlightTold (done ∷ past)) (plane_with links plane found done.reply).flights
flights-after links plane (Some flight) done past each = Each-without_first (FlightTold (done ∷ past)) (is_due plane.round) plane.flights (Each-if (FlightTold past) (FlightTold (done ∷ past)) plane.flights (told-later done past) each)
flights-after links plane None done past each = made-flights (FlightTold (done ∷ past)) links plane (flight_in done.reply) (Each-if (FlightTold past) (FlightTold (done ∷ past)) plane.flights (told-later done past) each) (new-told done past done.reply refl)

pub flights-told : (network : Network) (run : List Done) → Each (FlightTold run) (plane_at network run).flights
unfolding plane_of replies_to
flights-told network [] = tt
flights-told network (done ∷ past) =
    let rest = flights-told network past in
    elim (cases_Bool (nat_eq (actor_number done.actor) (plane_no network))) [
      | inl plane ↦ subst (λ p. Each (FlightTold (done ∷ past)) p.flights) (sym (plane-by network done past (eqb-true (actor_number done.actor) (plane_no network) plane))) (flights-after (length network.links) (plane_at network past) (next_due (plane_at network past)) done past rest)
      | inr caller ↦ subst (λ p. Each (FlightTold (done ∷ past)) p.flights) (sym (plane-off network done past (eqb-false (actor_number done.actor) (plane_no network) caller))) (Each-if (FlightTold past) (FlightTold (done ∷ past)) (plane_at network past).flights (told-later done past) rest)
    ]

-- ---- arrivals

-- the packet came from a flight, in the round in which it was due
pub record ArrivalTold (run : List Done) (packet : Packet) (to : LinkNo) (at : ℕ) : Type 0 where
  pub done : Done
  pub among : Among done run
  pub clock : ℕ
  pub full : ℕ
  pub sent : Sent
  pub best_sent : Bool
  pub best_lost : Bool
  pub reply : done.reply ≡ Is.Ticked clock full (Some sent) best_sent best_lost
  pub packet_is : sent.packet ≡ packet
  pub arrives : sent.arrives ≡ at
  pub next : sent.next ≡ Some to

-- a packet is taken at the clock
arrive-clock : (link : Link) (h : List Entry) (packet : Packet) (at tick : ℕ) → Is.Taken at tick ≡ reply_to link h (Arrive packet) → at ≡ clock_of h
unfolding reply_to reply_at
arrive-clock link h packet at tick same = by-found (find (is_row_of packet.chan) (scan_of link.shape h).rows) same where
  by-found : (found : Option Row) → Is.Taken at tick ≡ arrive_to link.shape (clock_of h) (scan_of link.shape h).packets packet found → at ≡ clock_of h
  by-found None same = cc
  by-found (Some row) same = (arrive-answer link.shape.bounds (clock_of h) packet row.terms (length row.ticks) _ _ at tick same).0

pub arrival-told : (network : Network) (run : List Done) (done : Done) (packet : Packet) (at tick : ℕ) → NetworkFits network → IsRun network run → Among done run → done.ask ≡ Arrive packet → done.reply ≡ Is.Taken at tick → ArrivalTold run packet done.link at
arrival-told network run done packet at tick fits is among asks reply =
    let split = run-split network run done is among in
    let answered : Is.Taken at tick ≡ reply_to split.next.link (part_of (link_number done.link) split.past) (Arrive packet) = sym reply ∙ split.next.answered ∙ ap (reply_to split.next.link (part_of (link_number done.link) split.past)) asks in
    let now = arrive-clock split.next.link (part_of (link_number done.link) split.past) packet at tick answered in
    let comes = arrive-comes network split.past done packet fits split.is split.next asks in
    let told = Each-find (FlightTold split.past) (is_due (plane_at network split.past).round) (plane_at network split.past).flights comes.flight (flights-told network split.past) comes.due in
    record {
      done = told.done;
      among = split.before told.done told.among;
      clock = told.clock;
      full = told.full;
      sent = told.sent;
      best_sent = told.best_sent;
      best_lost = told.best_lost;
      reply = told.reply;
      packet_is = told.packet ∙ comes.same;
      arrives = told.arrives ∙ comes.now ∙ sym now;
      next = told.next ∙ ap (λ (l : LinkNo). Some l) comes.to;
    }

-- ---- departures

-- what a tick tells as sent has left its link, at the end of that tick
pub record SentAt (shape : LinkShape) (h : List Entry) (clock : ℕ) (sent : Sent) : Type 0 where
  pub start : Start
  pub among : Among start (starts_of shape h)
  pub left : leaves_at shape.rate start ≤ clock_of h
  pub leaves : leaves_at shape.rate start ≡ suc clock
  pub is : sent ≡ sent_of shape start
  pub size : 1 ≤ start.packet.size
  pub numbered : 1 ≤ start.packet.number

pub ticked-clock : (a b x y : ℕ) (s t : Option Sent) (d e f g : Bool) → Is.Ticked a x s d e ≡ Is.Ticked b y t f g → a ≡ b
ticked-clock a b x y s t d e f g same = cc

pub sent-at : (network : Network) (run : List Done) (done : Done) (link : Link) (clock full : ℕ) (sent : Sent) (best_sent best_lost : Bool) → NetworkFits network → AllOwned network → IsRun network run → Among done run → slice_get network.links (link_number done.link) ≡ Some link → done.reply ≡ Is.Ticked clock full (Some sent) best_sent best_lost → SentAt link.shape (part_of (link_number done.link) run) clock sent
unfolding clock_of
sent-at network run done link clock full sent best_sent best_lost fits owned is among linked reply =
    let split = run-split network run done is among in
    let tick : done.ask ≡ Tick = asks-tick done.ask clock full (Some sent) best_sent best_lost (subst (IsReplyOf done.ask) reply (asks-answered network split.past done fits owned split.is split.next)) in
    let by = sent-by network run done link clock full sent best_sent best_lost fits is among linked tick reply in
    let same : split.next.link ≡ link = same_Some split.next.link link (sym split.next.linked ∙ linked) in
    let answered : done.reply ≡ tick_reply link.shape (clock_of (part_of (link_number done.link) split.past)) (scan_of link.shape (part_of (link_number done.link) split.past)) = split.next.answered ∙ ap (λ l. reply_to l (part_of (link_number done.link) split.past) done.ask) same ∙ ap (reply_to link (part_of (link_number done.link) split.past)) tick ∙ tick-answer link (part_of (link_number done.link) split.past) in
    let legal = part-admissible network split.past (link_number done.link) link fits split.is linked in
    let from = sent-facts link.shape (part_of (link_number done.link) split.past) clock full sent best_sent best_lost legal (sym reply ∙ answered) in
    let first : sent.arrives ≡ leaves_at link.shape.rate from.start + link.shape.prop = ap (λ (s : Sent). s.arrives) from.is in
    let second : sent.arrives ≡ leaves_at link.shape.rate by.start + link.shape.prop = ap (λ (s : Sent). s.arrives) by.is in
    let leaves = from.leaves in
    let told : clock ≡ clock_of (part_of (link_number done.link) split.past) = ticked-clock clock _ full _ (Some sent) _ best_sent best_lost _ _ (sym reply ∙ answered) in
    let size : sent.packet.size ≡ from.start.packet.size = ap (λ (s : Sent). s.packet.size) from.is in
    let size_by : sent.packet.size ≡ by.start.packet.size = ap (λ (s : Sent). s.packet.size) by.is in
    let least = from.size_least in
    let there : Among from.start.packet (scan_of link.shape (ticked link.shape (part_of (link_number done.link) split.past))).packets = start-among link.shape.rate (scan_of link.shape (ticked link.shape (part_of (link_number done.link) split.past))).packets (suc (clock_of (part_of (link_number done.link) split.past))) from.start from.among in
    let some = (Each-among (HasNumber link.shape.bounds) from.start.packet _ (packets-have_numbers link.shape (ticked link.shape (part_of (link_number done.link) split.past)) (more-legal link.shape (part_of (link_number done.link) split.past) legal)) there).some from.level in
    record {
      start = by.start;
      among = by.among;
      left = by.left;
      leaves = omega (arith, first, second, leaves, told);
      is = by.is;
      size = omega (arith, size, size_by, least);
      numbered = (let n : sent.packet.number ≡ from.start.packet.number = ap (λ (s : Sent). s.packet.number) from.is in let m : sent.packet.number ≡ by.start.packet.number = ap (λ (s : Sent). s.packet.number) by.is in omega (arith, n, m, some));
    }
