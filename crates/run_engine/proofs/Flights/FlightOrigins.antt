-- Each flight of a run is of a packet that has left a link within its bound; and while the links make their ticks no
-- flight is due.
use Rattle.std.proofs.Common.{◌≡◌, ◌≢◌, ◌⊎◌, ℕ, suc, ◌+◌, ◌<◌, ◌≤◌, Bool, false, List, [], ◌∷◌, ◌++◌, length, Option, Some, None, refl, sym, ap, ◌∙◌, subst, inl, inr, arith, append-nil}
use Rattle.run_engine.proofs.Words.{cases_Bool, ne_eqb, slice_get_within, slice_get, nat_eq, find, bound_at, link_number, link_at, LinkNo, Ask, Tick, Entry, Reply, Sent, LinkShape, Link, IsAdmissible, Each, Among, tick_reply, reply_to, clock_with, clock_of, scan_of, Arrival, leaves_at, Done, NetworkFits, Network, Flight, Plane, is_due, next_due, ask_due, flight_in, tick_made, plane_with, plane_of, entry_of, part_of, replies_to, plane_at, IsNext, IsRun, ticked, IsSent, packets_on, ComesFrom}
use Rattle.std.proofs.lemmas.List.Folds.{find-append}
use Rattle.link_steps.proofs.SearchAndFilter.{Each-among, Each-if, Each-without_first}
use Rattle.link_steps.proofs.FoundElements.{Each-from_among}
use Rattle.link_steps.proofs.ServiceStarts.{starts-fact}
use Rattle.run_engine.specs.channels.Flights.{FlightsStand}
use Rattle.run_engine.proofs.Runs.RunLegal.{flight-sent, part-may, RunStands, clock_at, part-on, link_at-number, run-stands, by-part, by-actor}
use Rattle.channel_laws.proofs.SentInTime.{tick-answer}
use Rattle.channel_laws.proofs.DepartedCount.{history-from, more-legal}
use Rattle.channel_laws.proofs.NumberedPackets.{HasNumber, packets-have_numbers}
use Rattle.tick_plane.proofs.PlaneFlights.{made-flights}
use Rattle.link_steps.proofs.ListParts.{Among-left}

-- ---- packets only grow

pub record Grows (old new : List Arrival) : Type 0 where
  pub more : List Arrival
  pub is : new ≡ old ++ more

grows-none : (xs : List Arrival) → Grows xs xs
grows-none xs = record { more = []; is = sym (append-nil xs) }

history-grows : (shape : LinkShape) (e : Entry) (h : List Entry) → Grows (scan_of shape h).packets (scan_of shape (e ∷ h)).packets
history-grows shape e h = (let adds = history-from shape e h in record { more = adds.new; is = adds.are })

pub part-grows : (link : Link) (n : ℕ) (done : Done) (past : List Done) → Grows (packets_on link n past) (packets_on link n (done ∷ past))
part-grows link n done past =
    by-part (λ h. Grows (packets_on link n past) (scan_of link.shape h).packets) n done past (λ on. history-grows link.shape (entry_of done) (part_of n past)) (λ off. grows-none (packets_on link n past))

among-later : (p : Arrival) (old new : List Arrival) → Grows old new → Among p old → Among p new
among-later p old new grows among = subst (Among p) (sym grows.is) (Among-left p old grows.more among)

-- a flight that came from a packet still does
comes-later : (network : Network) (done : Done) (past : List Done) (flight : Flight) → ComesFrom network past flight → ComesFrom network (done ∷ past) flight
comes-later network done past flight from = record {
  n = from.n;
  link = from.link;
  linked = from.linked;
  taken = from.taken;
  among = among-later from.taken _ _ (part-grows from.link from.n done past) from.among;
  chan = from.chan;
  number = from.number;
  numbered = from.numbered;
  size = from.size;
  due = from.due;
  in_time = from.in_time;
  passed = from.passed;
  next = from.next;
}

-- ---- new flights

sent-comes : (network : Network) (run : List Done) (n : ℕ) (link : Link) (h : List Entry) (sent : Sent) (to : LinkNo) → slice_get network.links n ≡ Some link → part_of n run ≡ ticked link.shape h → IsAdmissible link.shape (ticked link.shape h) → IsSent link.shape h sent → sent.next ≡ Some to → ComesFrom network run (record { to = to; round = sent.arrives; packet = sent.packet })
sent-comes network run n link h sent to linked part may is next =
    let packets : List Arrival = (scan_of link.shape (ticked link.shape h)).packets in
    let all : Each (λ p. Among p (scan_of link.shape (ticked link.shape h)).packets) (scan_of link.shape (ticked link.shape h)).packets = Each-from_among (λ p. Among p (scan_of link.shape (ticked link.shape h)).packets) (scan_of link.shape (ticked link.shape h)).packets (λ p among. among) in
    let among : Among is.start.packet (scan_of link.shape (ticked link.shape h)).packets = Each-among (λ start. Among start.packet (scan_of link.shape (ticked link.shape h)).packets) is.start _ (starts-fact (λ p. Among p (scan_of link.shape (ticked link.shape h)).packets) link.shape.rate (scan_of link.shape (ticked link.shape h)).packets (clock_of (ticked link.shape h)) all) is.among in
    let within = is.within in
    let arrives : sent.arrives ≡ leaves_at link.shape.rate is.start + link.shape.prop = ap (λ s. s.arrives) is.is in
    let due : sent.packet.due ≡ is.start.packet.eligible + bound_at link.shape.bounds is.start.packet.level + link.shape.prop = ap (λ s. s.packet.due) is.is in
    record {
      n = n;
      link = link;
      linked = linked;
      taken = is.start.packet;
      among = subst (λ part. Among is.start.packet (scan_of link.shape part).packets) (sym part) among;
      chan = ap (λ s. s.packet.chan) is.is;
      number = ap (λ s. s.packet.number) is.is;
      numbered = (Each-among (HasNumber link.shape.bounds) is.start.packet _ (packets-have_numbers link.shape (ticked link.shape h) may) among).some is.level;
      size = ap (λ s. s.packet.size) is.is;
      due = due;
      in_time = omega (arith, within, arrives, due);
      passed = (let after = is.after in omega (arith, after, arrives));
      next = ap (λ s. s.next) (sym is.is) ∙ next;
    }

new-comes : (network : Network) (run : List Done) (n : ℕ) (link : Link) (h : List Entry) (reply : Reply) → slice_get network.links n ≡ Some link → part_of n run ≡ ticked link.shape h → IsAdmissible link.shape h → IsAdmissible link.shape (ticked link.shape h) → reply ≡ tick_reply link.shape (clock_of h) (scan_of link.shape h) → Each (ComesFrom network run) (flight_in reply)
new-comes network run n link h reply linked part legal may same = flight-sent (ComesFrom network run) link.shape h reply legal same (λ sent to is next. sent-comes network run n link h sent to linked part may is next)

-- a flight that a tick adds is due in a later round
pub new-later : (shape : LinkShape) (h : List Entry) (reply : Reply) (t : ℕ) → t ≤ clock_of h → IsAdmissible shape h → reply ≡ tick_reply shape (clock_of h) (scan_of shape h) → Each (λ flight. suc t ≤ flight.round) (flight_in reply)
new-later shape h reply t early legal same =
    flight-sent (λ flight. suc t ≤ flight.round) shape h reply legal same
    (λ sent to is next. (let arrives : sent.arrives ≡ leaves_at shape.rate is.start + shape.prop = ap (λ s. s.arrives) is.is in let leaves = is.leaves in omega (arith, arrives, leaves, early)))

none-found : {X : Type 0} (test : X → Bool) (xs : List X) → Each (λ x. test x ≡ false) xs → find test xs ≡ None
none-found test [] each = refl
none-found test (x ∷ xs) each = rw each.0 (none-found test xs each.1)

-- ---- one entry more

pub is-tick : (ask : Ask) → (ask ≡ Tick) ⊎ (ask ≢ Tick)
is-tick Tick = inl refl
is-tick _ = inr (λ same. cc)

-- an ask that is no tick leaves the clock as it is
pub quiet-clock : (ask : Ask) (t : ℕ) → ask ≢ Tick → clock_with ask t ≡ t
quiet-clock Tick t other = absurd (other refl)
quiet-clock _ t other = refl

pub entry-tick : (done : Done) (given : Reply) → Tick ≡ done.ask → done.reply ≡ given → ◌≡◌ {A = Entry} (entry_of done) (record { ask = Tick; reply = given })
entry-tick done given tick answered = same done.ask done.reply (sym tick) answered where
  same : (ask : Ask) (reply : Reply) → ask ≡ Tick → reply ≡ given → ◌≡◌ {A = Entry} (record { ask = ask; reply = reply }) (record { ask = Tick; reply = given })
  same ask reply a r = ap (λ x. record { ask = x; reply = reply }) a ∙ ap (λ y. record { ask = Tick; reply = y }) r

none-due-made : (links : ℕ) (plane : Plane) (new : List Flight) → next_due plane ≡ None → Each (λ flight. suc plane.round ≤ flight.round) new → 1 ≤ (tick_made links plane new).ticked → next_due (tick_made links plane new) ≡ None
none-due-made links plane new none later some =
    elim (cases_Bool (nat_eq (suc plane.ticked) links)) [
      | inl last ↦ absurd (let h : 1 ≤ 0 = rw last at some in omega (arith, h))
      | inr more ↦ rw more (find-append (is_due plane.round) plane.flights new ∙ rw none (none-found (is_due plane.round) new (Each-if (λ flight. suc plane.round ≤ flight.round) (λ flight. is_due plane.round flight ≡ false) new (λ flight above. ne_eqb flight.round plane.round (λ same. omega (arith, same, above))) later)))
    ]

flights-with : (network : Network) (plane : Plane) (found : Option Flight) (done : Done) (past : List Done) → NetworkFits network → RunStands network past → (next : IsNext network past done) → plane ≡ plane_at network past → next_due plane ≡ found → ask_due plane.ticked found ≡ (done.link, done.ask) → Each (ComesFrom network past) plane.flights → (1 ≤ plane.ticked → next_due plane ≡ None)
    → Each (ComesFrom network (done ∷ past)) (plane_with (length network.links) plane found done.reply).flights × (1 ≤ (plane_with (length network.links) plane found done.reply).ticked → next_due (plane_with (length network.links) plane found done.reply) ≡ None)
flights-with network plane (Some flight) done past fits stands next is due asks from no-due = (
  Each-without_first (ComesFrom network (done ∷ past)) (is_due plane.round) plane.flights (Each-if (ComesFrom network past) (ComesFrom network (done ∷ past)) plane.flights (comes-later network done past) from),
  λ some. absurd (let clash : Some flight ≡ None = sym due ∙ no-due some in cc),
)
flights-with network plane None done past fits stands next is due asks from no-due =
    let tick : Tick ≡ done.ask = ap (λ pair. pair.1) asks in
    let at : link_at plane.ticked ≡ done.link = ap (λ pair. pair.0) asks in
    let inside : link_number done.link < length network.links = slice_get_within network.links (link_number done.link) next.link next.linked in
    let within : plane.ticked < length network.links = subst (λ p. p.ticked < length network.links) (sym is) stands.ticked in
    let number : link_number done.link ≡ plane.ticked = ap link_number (sym at) ∙ link_at-number plane.ticked (let few = fits.few in omega (arith, few, within)) in
    let clock : clock_of (part_of (link_number done.link) past) ≡ clock_at plane (link_number done.link) = stands.clocks (link_number done.link) inside ∙ ap (λ p. clock_at p (link_number done.link)) (sym is) in
    let legal = part-may network past (link_number done.link) next.link fits stands next.linked in
    let answered : done.reply ≡ tick_reply next.link.shape (clock_of (part_of (link_number done.link) past)) (scan_of next.link.shape (part_of (link_number done.link) past)) = next.answered ∙ ap (reply_to next.link (part_of (link_number done.link) past)) (sym tick) ∙ tick-answer next.link (part_of (link_number done.link) past) in
    let entry : entry_of done ≡ record { ask = Tick; reply = tick_reply next.link.shape (clock_of (part_of (link_number done.link) past)) (scan_of next.link.shape (part_of (link_number done.link) past)) } = entry-tick done _ tick answered in
    let part : part_of (link_number done.link) (done ∷ past) ≡ ticked next.link.shape (part_of (link_number done.link) past) = part-on (link_number done.link) done past refl ∙ ap (λ e. e ∷ part_of (link_number done.link) past) entry in (
      made-flights (ComesFrom network (done ∷ past)) (length network.links) plane (flight_in done.reply) (Each-if (ComesFrom network past) (ComesFrom network (done ∷ past)) plane.flights (comes-later network done past) from)
          (new-comes network (done ∷ past) (link_number done.link) next.link (part_of (link_number done.link) past) done.reply next.linked part legal (more-legal next.link.shape (part_of (link_number done.link) past) legal) answered),
      none-due-made (length network.links) plane (flight_in done.reply) due (new-later next.link.shape (part_of (link_number done.link) past) done.reply plane.round (omega (arith, clock)) legal answered),
    )

flights-next : (network : Network) (past : List Done) (done : Done) → NetworkFits network → RunStands network past → FlightsStand network past → (next : IsNext network past done) → FlightsStand network (done ∷ past)
flights-next network past done fits stands flights next =
    let both = by-actor (λ p. Each (ComesFrom network (done ∷ past)) p.flights × (1 ≤ p.ticked → next_due p ≡ None)) network done past next
    (λ asks. flights-with network (plane_at network past) (next_due (plane_at network past)) done past fits stands next refl refl asks.asks flights.from flights.none)
    (λ asks. (Each-if (ComesFrom network past) (ComesFrom network (done ∷ past)) (plane_at network past).flights (comes-later network done past) flights.from, flights.none)) in
    record { from = both.0; none = both.1 }

pub run-flights : (network : Network) (run : List Done) → NetworkFits network → IsRun network run → FlightsStand network run
unfolding IsRun plane_of replies_to
run-flights network [] fits is = record { from = tt; none = λ some. absurd (omega arith) }
run-flights network (done ∷ past) fits is = flights-next network past done fits (run-stands network past fits is.0) (run-flights network past fits is.0) is.1
