-- The part of a run on each link is a legal history of that link.
use Rattle.channel_laws.proofs.FewLeft.{few-cancelled}
use Rattle.run_engine.proofs.Tasks.CallerAsksFit.{IfRelease, FewShifted, few-told, IsCallers, StandingFits, standing-asks, begun-fits, replied-fits, AsksLink}
use Rattle.std.proofs.Common.{◌≡◌, ◌≢◌, ℕ, suc, ◌+◌, ◌<◌, ◌≤◌, cond, List, [], ◌∷◌, length, Option, Some, None, refl, sym, ap, ◌∙◌, subst, inl, inr, arith, lit<}
use Rattle.run_engine.proofs.Words.{cases_Bool, cond_both, eqb-true, eqb-false, eq-eqb, ne_eqb, le-ltb, same_Some, slice_get_within, slice_get, nat_eq, nat_lt, link_number, actor_number, link_at, LinkNo, Ask, Packet, Release, Arrive, Tick, Entry, Reply, LinkShape, IsAdmissible, Link, SplitFits, AskFits, PacketFits, IsLegal, Each, tick_reply, reply_to, clock_with, clock_of, scan_of, MayReplyTo, Done, TaskFits, NetworkFits, Task, Network, standing, ask_at, script_ask, Flight, Plane, is_due, next_due, ask_due, plane_ask, flight_in, plane_with, plane_after, plane_of, entry_of, replies_to, part_of, plane_no, plane_at, next_for, IsNext, IsRun, Sent, IsSent}
use Rattle.std.proofs.Math.Nat.{lt_of_le_of_lt}
use Rattle.link_steps.proofs.LegalAdmissible.{may-answer, legal-has, legal-admissible}
use Rattle.link_steps.proofs.SearchAndFilter.{Each-find}
use Rattle.link_steps.proofs.ListParts.{Each-at}
use Rattle.channel_laws.proofs.SentInTime.{sent-facts, sent-fits, tick-answer}
use Rattle.tick_plane.proofs.PlaneFlights.{AsksDue, asks-due, flight-in, flights-with}
use Rattle.tick_plane.proofs.TicksPerLink.{tick-clocks, other-clocks, ticked-with}

-- the clock of a link where the plane stands so
abbrev pub clock_at : Plane → ℕ → ℕ
clock_at plane n = plane.round + cond (nat_lt n plane.ticked) 1 0

abbrev pub FlightFits : Flight → Type 0
FlightFits flight = PacketFits flight.packet

-- what stands after a run
pub record RunStands (network : Network) (run : List Done) : Type 0 where
  pub legal : (n : ℕ) (link : Link) → slice_get network.links n ≡ Some link → IsLegal link (part_of n run)
  pub clocks : (n : ℕ) → n < length network.links → clock_of (part_of n run) ≡ clock_at (plane_at network run) n
  pub ticked : (plane_at network run).ticked < length network.links
  pub flights : Each FlightFits (plane_at network run).flights
  pub callers : (actor : ℕ) (tasks : List Task) → slice_get network.scripts actor ≡ Some tasks → StandingFits network.links (standing tasks (replies_to actor run))

-- ---- who asks

pub asked-plane : (network : Network) (actor : ℕ) (run : List Done) → actor ≡ plane_no network → next_for network actor run ≡ plane_ask network.rounds (plane_at network run)
unfolding next_for
asked-plane network actor run same = rw (eq-eqb actor (plane_no network) same) refl

pub asked-caller : (network : Network) (actor : ℕ) (run : List Done) → actor ≢ plane_no network → next_for network actor run ≡ script_ask (slice_get network.scripts actor) (replies_to actor run)
unfolding next_for
asked-caller network actor run other = rw (ne_eqb actor (plane_no network) other) refl

-- a caller's ask is one of a script
pub record AsksOf (network : Network) (past : List Done) (actor : ℕ) (to : LinkNo) (ask : Ask) : Type 0 where
  pub tasks : List Task
  pub found : slice_get network.scripts actor ≡ Some tasks
  pub asks : ask_at (standing tasks (replies_to actor past)) ≡ Some (to, ask)

script-asks : (network : Network) (past : List Done) (actor : ℕ) (found : Option (List Task)) (to : LinkNo) (ask : Ask) → slice_get network.scripts actor ≡ found → script_ask found (replies_to actor past) ≡ Some (to, ask) → AsksOf network past actor to ask
script-asks network past actor None to ask is same = cc
script-asks network past actor (Some tasks) to ask is same = record { tasks = tasks; found = is; asks = same }

pub caller-next : (network : Network) (past : List Done) (done : Done) → IsNext network past done → actor_number done.actor ≢ plane_no network → AsksOf network past (actor_number done.actor) done.link done.ask
caller-next network past done next other =
    script-asks network past (actor_number done.actor) (slice_get network.scripts (actor_number done.actor)) done.link done.ask refl (sym (asked-caller network (actor_number done.actor) past other) ∙ next.asked)

-- what the plane asks
pub plane-next : (network : Network) (past : List Done) (done : Done) → IsNext network past done → actor_number done.actor ≡ plane_no network → AsksDue network.rounds (plane_at network past) done.link done.ask
plane-next network past done next same = asks-due network.rounds (plane_at network past) done.link done.ask (sym (asked-plane network (actor_number done.actor) past same) ∙ next.asked)

-- ---- parts of a run with one entry more

pub part-on : (n : ℕ) (done : Done) (past : List Done) → link_number done.link ≡ n → part_of n (done ∷ past) ≡ entry_of done ∷ part_of n past
unfolding part_of
part-on n done past same = rw (eq-eqb (link_number done.link) n same) refl

pub part-off : (n : ℕ) (done : Done) (past : List Done) → link_number done.link ≢ n → part_of n (done ∷ past) ≡ part_of n past
unfolding part_of
part-off n done past other = rw (ne_eqb (link_number done.link) n other) refl

-- what is so of a link's part of a run, by whether the newest entry is on the link
pub by-part : (P : List Entry → Type 0) (n : ℕ) (done : Done) (past : List Done) → (link_number done.link ≡ n → P (entry_of done ∷ part_of n past)) → (link_number done.link ≢ n → P (part_of n past)) → P (part_of n (done ∷ past))
by-part P n done past on off =
    elim (cases_Bool (nat_eq (link_number done.link) n)) [
      | inl same ↦ (let e = eqb-true (link_number done.link) n same in subst P (sym (part-on n done past e)) (on e))
      | inr other ↦ (let apart = eqb-false (link_number done.link) n other in subst P (sym (part-off n done past apart)) (off apart))
    ]

pub replies-by : (actor : ℕ) (done : Done) (past : List Done) → actor_number done.actor ≡ actor → replies_to actor (done ∷ past) ≡ done.reply ∷ replies_to actor past
unfolding replies_to
replies-by actor done past same = rw (eq-eqb (actor_number done.actor) actor same) refl

pub replies-off : (actor : ℕ) (done : Done) (past : List Done) → actor_number done.actor ≢ actor → replies_to actor (done ∷ past) ≡ replies_to actor past
unfolding replies_to
replies-off actor done past other = rw (ne_eqb (actor_number done.actor) actor other) refl

-- where the plane stands
pub plane-off : (network : Network) (done : Done) (past : List Done) → actor_number done.actor ≢ plane_no network → plane_at network (done ∷ past) ≡ plane_at network past
plane-off network done past other = ap (plane_of (length network.links)) (replies-off (plane_no network) done past other)

pub plane-by : (network : Network) (done : Done) (past : List Done) → actor_number done.actor ≡ plane_no network → plane_at network (done ∷ past) ≡ plane_after (length network.links) done.reply (plane_at network past)
unfolding plane_of
plane-by network done past same = ap (plane_of (length network.links)) (replies-by (plane_no network) done past same)

-- what is so of where the plane stands, by whether the newest entry is its own
pub by-actor : (P : Plane → Type 0) (network : Network) (done : Done) (past : List Done) → IsNext network past done → (AsksDue network.rounds (plane_at network past) done.link done.ask → P (plane_after (length network.links) done.reply (plane_at network past)))
    → (AsksOf network past (actor_number done.actor) done.link done.ask → P (plane_at network past)) → P (plane_at network (done ∷ past))
by-actor P network done past next own other =
    elim (cases_Bool (nat_eq (actor_number done.actor) (plane_no network))) [
      | inl plane ↦ (let same = eqb-true (actor_number done.actor) (plane_no network) plane in subst P (sym (plane-by network done past same)) (own (plane-next network past done next same)))
      | inr caller ↦ (let apart = eqb-false (actor_number done.actor) (plane_no network) caller in subst P (sym (plane-off network done past apart)) (other (caller-next network past done next apart)))
    ]

-- a caller is not the plane
pub not-plane : (network : Network) (actor owner : ℕ) (tasks : List Task) → actor ≡ owner → slice_get network.scripts owner ≡ Some tasks → actor ≢ plane_no network
not-plane network actor owner tasks by found same = (let inside = slice_get_within network.scripts owner tasks found in absurd (omega (arith, inside, by, same)))

-- what a caller asks, by where it stands
pub owner-asks : (network : Network) (past : List Done) (done : Done) (owner : ℕ) (tasks : List Task) → IsNext network past done → actor_number done.actor ≡ owner → slice_get network.scripts owner ≡ Some tasks → ask_at (standing tasks (replies_to owner past)) ≡ Some (done.link, done.ask)
owner-asks network past done owner tasks next by found =
    let asks = caller-next network past done next (not-plane network (actor_number done.actor) owner tasks by found) in
    let own : asks.tasks ≡ tasks = same_Some asks.tasks tasks (sym asks.found ∙ ap (slice_get network.scripts) by ∙ found) in
    subst (λ ts. ask_at (standing ts (replies_to owner past)) ≡ Some (done.link, done.ask)) own (subst (λ a. ask_at (standing asks.tasks (replies_to a past)) ≡ Some (done.link, done.ask)) by asks.asks)

-- ---- the clocks

callers-clock : (ask : Ask) (t : ℕ) → IsCallers ask → clock_with ask t ≡ t
callers-clock (Arrive packet) t is = absurd is
callers-clock Tick t is = absurd is
callers-clock _ t is = refl

-- an ask that is no tick
clock-still : (n : ℕ) (done : Done) (past : List Done) → ((t : ℕ) → clock_with done.ask t ≡ t) → clock_of (part_of n (done ∷ past)) ≡ clock_of (part_of n past)
unfolding clock_of
clock-still n done past still = by-part (λ h. clock_of h ≡ clock_of (part_of n past)) n done past (λ on. still (clock_of (part_of n past))) (λ off. refl)

-- a tick of the link of this number
clock-ticks : (n : ℕ) (done : Done) (past : List Done) → done.ask ≡ Tick → link_number done.link ≡ n → clock_of (part_of n (done ∷ past)) ≡ suc (clock_of (part_of n past))
unfolding clock_of
clock-ticks n done past tick on = ap clock_of (part-on n done past on) ∙ ap (λ ask. clock_with ask (clock_of (part_of n past))) tick

pub link_at-number : (n : ℕ) → n < 32 → link_number (link_at n) ≡ n
link_at-number n few = omega arith

plane-clocks : (network : Network) (plane : Plane) (found : Option Flight) (n : ℕ) (done : Done) (past : List Done) → length network.links ≤ 32 → plane.ticked < length network.links → n < length network.links → ask_due plane.ticked found ≡ (done.link, done.ask) → clock_of (part_of n past) ≡ clock_at plane n
    → clock_of (part_of n (done ∷ past)) ≡ clock_at (plane_with (length network.links) plane found done.reply) n
plane-clocks network plane (Some flight) n done past few within inside asks before =
    let arrive : Arrive flight.packet ≡ done.ask = ap (λ pair. pair.1) asks in
    clock-still n done past (λ t. ap (λ ask. clock_with ask t) (sym arrive)) ∙ before
plane-clocks network plane None n done past few within inside asks before =
    let tick : Tick ≡ done.ask = ap (λ pair. pair.1) asks in
    let at : link_at plane.ticked ≡ done.link = ap (λ pair. pair.0) asks in
    let number : link_number done.link ≡ plane.ticked = ap link_number (sym at) ∙ link_at-number plane.ticked (omega arith) in
    elim (cases_Bool (nat_eq n plane.ticked)) [
      | inl on ↦ (let e : n ≡ plane.ticked = eqb-true n plane.ticked on in clock-ticks n done past (sym tick) (number ∙ sym e) ∙ ap suc before ∙ tick-clocks (length network.links) n plane (flight_in done.reply) within inside e)
      | inr off ↦ (let other : n ≢ plane.ticked = eqb-false n plane.ticked off in ap clock_of (part-off n done past (λ e. other (sym e ∙ number))) ∙ before ∙ other-clocks (length network.links) n plane (flight_in done.reply) within inside other)
    ]

-- ---- an entry more

pub part-may : (network : Network) (run : List Done) (n : ℕ) (link : Link) → NetworkFits network → RunStands network run → slice_get network.links n ≡ Some link → IsAdmissible link.shape (part_of n run)
part-may network run n link fits stands found = legal-admissible link (part_of n run) (Each-at SplitFits network.links n link fits.splits found) (stands.legal n link found)

due-fits : (network : Network) (plane : Plane) (shape : LinkShape) (found : Option Flight) (to : LinkNo) (ask : Ask) → Each FlightFits plane.flights → next_due plane ≡ found → ask_due plane.ticked found ≡ (to, ask) → AskFits shape ask
due-fits network plane shape None to ask flights is same = subst (AskFits shape) (ap (λ pair. pair.1) same) tt
due-fits network plane shape (Some flight) to ask flights is same =
    subst (AskFits shape) (ap (λ pair. pair.1) same) (Each-find FlightFits (is_due plane.round) plane.flights flight flights is)

-- what a caller asks is a caller's to ask, and meets its conditions
pub caller-asks : (network : Network) (past : List Done) (done : Done) → RunStands network past → AsksOf network past (actor_number done.actor) done.link done.ask → AsksLink network.links done.link done.ask
caller-asks network past done stands asks =
    standing-asks network.links (standing asks.tasks (replies_to (actor_number done.actor) past)) done.link done.ask (stands.callers (actor_number done.actor) asks.tasks asks.found) asks.asks

module _ (network : Network) (past : List Done) (done : Done) (fits : NetworkFits network) (stands : RunStands network past) (next : IsNext network past done) where
  pub next-may : MayReplyTo next.link.shape (part_of (link_number done.link) past) done.ask done.reply
  unfolding reply_to
  next-may =
      let split = Each-at SplitFits network.links (link_number done.link) next.link fits.splits next.linked in
      let has = legal-has next.link (part_of (link_number done.link) past) split (stands.legal (link_number done.link) next.link next.linked) in
      may-answer next.link (clock_of (part_of (link_number done.link) past)) (scan_of next.link.shape (part_of (link_number done.link) past)) done.ask done.reply split has.within next.answered

  next-fits : AskFits next.link.shape done.ask
  next-fits =
      elim (cases_Bool (nat_eq (actor_number done.actor) (plane_no network))) [
        | inl plane ↦
            (let asks = plane-next network past done next (eqb-true (actor_number done.actor) (plane_no network) plane) in
            due-fits network (plane_at network past) next.link.shape (next_due (plane_at network past)) done.link done.ask stands.flights refl asks.asks)
        | inr caller ↦ (caller-asks network past done stands (caller-next network past done next (eqb-false (actor_number done.actor) (plane_no network) caller))).fits next.link next.linked
      ]

  legal-next : (n : ℕ) (link : Link) → slice_get network.links n ≡ Some link → IsLegal link (part_of n (done ∷ past))
  unfolding IsLegal
  legal-next n link found =
      by-part (IsLegal link) n done past
      (λ on.
      let is : next.link ≡ link = same_Some next.link link (sym next.linked ∙ ap (slice_get network.links) on ∙ found) in
      let answered : done.reply ≡ reply_to link (part_of n past) done.ask = next.answered ∙ ap (λ l. reply_to l (part_of (link_number done.link) past) done.ask) is ∙ ap (λ m. reply_to link (part_of m past) done.ask) on in
      let own : AskFits link.shape done.ask = subst (λ l. AskFits l.shape done.ask) is next-fits in
      (stands.legal n link found, record { fits = own; answered = answered }))
      (λ off. stands.legal n link found)

  clocks-next : (n : ℕ) → n < length network.links → clock_of (part_of n (done ∷ past)) ≡ clock_at (plane_at network (done ∷ past)) n
  clocks-next n inside =
      by-actor (λ p. clock_of (part_of n (done ∷ past)) ≡ clock_at p n) network done past next
      (λ asks. plane-clocks network (plane_at network past) (next_due (plane_at network past)) n done past fits.few stands.ticked inside asks.asks (stands.clocks n inside))
      (λ asks. clock-still n done past (λ t. callers-clock done.ask t (caller-asks network past done stands asks).callers) ∙ stands.clocks n inside)

  callers-next : (actor : ℕ) (tasks : List Task) → slice_get network.scripts actor ≡ Some tasks → StandingFits network.links (standing tasks (replies_to actor (done ∷ past)))
  unfolding standing
  callers-next actor tasks found =
      elim (cases_Bool (nat_eq (actor_number done.actor) actor)) [
        | inl by ↦
            (let e : actor_number done.actor ≡ actor = eqb-true (actor_number done.actor) actor by in
            let asked = owner-asks network past done actor tasks next e found in
            subst (λ rs. StandingFits network.links (standing tasks rs)) (sym (replies-by actor done past e))
            (replied-fits network.links (standing tasks (replies_to actor past)) done.reply done.link done.ask next.link (part_of (link_number done.link) past) (stands.callers actor tasks found) asked next.linked next-may (if-few done.ask next-may)))
        | inr off ↦ subst (λ rs. StandingFits network.links (standing tasks rs)) (sym (replies-off actor done past (eqb-false (actor_number done.actor) actor off))) (stands.callers actor tasks found)
      ] where
        if-few : (ask : Ask) → MayReplyTo next.link.shape (part_of (link_number done.link) past) ask done.reply → IfRelease ask (FewShifted done.reply)
        if-few (Release chan upstream) may = few-told done.reply (few-cancelled next.link.shape (part_of (link_number done.link) past) (Release chan upstream) done.reply chan upstream (part-may network past (link_number done.link) next.link fits stands next.linked) refl may)
        if-few _ may = tt

-- ---- the flights

-- what is so of each packet that a link's tick shows as sent, where it goes to another link, is so of the flights of the tick's reply
pub flight-sent : (P : Flight → Type 0) (shape : LinkShape) (h : List Entry) (reply : Reply) → IsAdmissible shape h → reply ≡ tick_reply shape (clock_of h) (scan_of shape h)
    → ((sent : Sent) (to : LinkNo) → IsSent shape h sent → sent.next ≡ Some to → P (record { to = to; round = sent.arrives; packet = sent.packet })) → Each P (flight_in reply)
flight-sent P shape h reply legal same each = flight-in P reply (λ clock full sent best_sent best_lost to told next. each sent to (sent-facts shape h clock full sent best_sent best_lost legal (told ∙ same)) next)

-- it is a packet that may arrive
new-flights : (shape : LinkShape) (h : List Entry) (reply : Reply) → clock_of h ≤ 1048576 → IsAdmissible shape h → reply ≡ tick_reply shape (clock_of h) (scan_of shape h) → Each FlightFits (flight_in reply)
new-flights shape h reply early legal same = flight-sent FlightFits shape h reply legal same (λ sent to is next. sent-fits shape h sent (lt_of_le_of_lt early (lit< tt)) is)

flights-next : (network : Network) (plane : Plane) (done : Done) (past : List Done) → NetworkFits network → RunStands network past → (next : IsNext network past done) → plane ≡ plane_at network past → AsksDue network.rounds plane done.link done.ask → Each FlightFits plane.flights
    → Each FlightFits (plane_with (length network.links) plane (next_due plane) done.reply).flights
flights-next network plane done past fits stands next is asks flights = flights-with FlightFits (length network.links) plane (next_due plane) done.reply flights fresh where
  fresh : next_due plane ≡ None → Each FlightFits (flight_in done.reply)
  fresh none =
      let tick : Tick ≡ done.ask = ap (λ pair. pair.1) (ap (ask_due plane.ticked) (sym none) ∙ asks.asks) in
      let inside : link_number done.link < length network.links = slice_get_within network.links (link_number done.link) next.link next.linked in
      let clock = stands.clocks (link_number done.link) inside in
      let early = asks.early in
      let most-clock : clock_at plane (link_number done.link) ≤ suc plane.round = cond_both (nat_lt (link_number done.link) plane.ticked) 1 0 (λ x. plane.round + x ≤ suc plane.round) (λ _. omega arith) (λ _. omega arith) in
      let same : clock_of (part_of (link_number done.link) past) ≡ clock_at plane (link_number done.link) = clock ∙ ap (λ p. clock_at p (link_number done.link)) (sym is) in
      new-flights next.link.shape (part_of (link_number done.link) past) done.reply (omega (arith, same, most-clock, early, fits.rounds)) (part-may network past (link_number done.link) next.link fits stands next.linked) (next.answered ∙ ap (reply_to next.link (part_of (link_number done.link) past)) (sym tick) ∙ tick-answer next.link (part_of (link_number done.link) past))

-- ---- all together

stands-next : (network : Network) (past : List Done) (done : Done) → NetworkFits network → RunStands network past → IsNext network past done → RunStands network (done ∷ past)
stands-next network past done fits stands next = record {
  legal = legal-next network past done fits stands next;
  clocks = clocks-next network past done fits stands next;
  ticked = by-actor (λ p. p.ticked < length network.links) network done past next (λ asks. ticked-with (length network.links) (plane_at network past) (next_due (plane_at network past)) done.reply fits.some stands.ticked) (λ asks. stands.ticked);
  flights = by-actor (λ p. Each FlightFits p.flights) network done past next (λ asks. flights-next network (plane_at network past) done past fits stands next refl asks stands.flights) (λ asks. stands.flights);
  callers = callers-next network past done fits stands next;
}

stands-none : (network : Network) → NetworkFits network → RunStands network []
unfolding IsLegal part_of clock_of plane_of replies_to standing
stands-none network fits = record {
  legal = λ n link found. tt;
  clocks = λ n inside. rw (le-ltb n 0 (omega arith)) refl;
  ticked = fits.some;
  flights = tt;
  callers = λ actor tasks found. begun-fits network.links [] tasks tt (Each-at (Each (TaskFits network.links)) network.scripts actor tasks fits.tasks found);
}

pub run-stands : (network : Network) (run : List Done) → NetworkFits network → IsRun network run → RunStands network run
unfolding IsRun
run-stands network [] fits is = stands-none network fits
run-stands network (done ∷ past) fits is = stands-next network past done fits (run-stands network past fits is.0) is.1

-- the part on each link is legal there
pub part-legal : (network : Network) (run : List Done) (n : ℕ) (link : Link) → NetworkFits network → IsRun network run → slice_get network.links n ≡ Some link → IsLegal link (part_of n run)
part-legal network run n link fits is found = (run-stands network run fits is).legal n link found

pub part-admissible : (network : Network) (run : List Done) (n : ℕ) (link : Link) → NetworkFits network → IsRun network run → slice_get network.links n ≡ Some link → IsAdmissible link.shape (part_of n run)
part-admissible network run n link fits is found = part-may network run n link fits (run-stands network run fits is) found

module _ (network : Network) (past : List Done) (done : Done) (fits : NetworkFits network) (run : IsRun network past) (next : IsNext network past done) where
  -- the plane alone asks what is no caller's to ask: that packets arrive, say
  pub plane-due : (IsCallers done.ask → ⊥) → AsksDue network.rounds (plane_at network past) done.link done.ask
  plane-due none =
      elim (cases_Bool (nat_eq (actor_number done.actor) (plane_no network))) [
        | inl plane ↦ plane-next network past done next (eqb-true (actor_number done.actor) (plane_no network) plane)
        | inr caller ↦ absurd (none (caller-asks network past done (run-stands network past fits run) (caller-next network past done next (eqb-false (actor_number done.actor) (plane_no network) caller))).callers)
      ]

  pub arrive-due : (packet : Packet) → done.ask ≡ Arrive packet → AsksDue network.rounds (plane_at network past) done.link done.ask
  arrive-due packet is = plane-due (λ callers. subst IsCallers is callers)

  -- each reply may be given
  pub answered-may : MayReplyTo next.link.shape (part_of (link_number done.link) past) done.ask done.reply
  answered-may = next-may network past done fits (run-stands network past fits run) next

  -- each ask of a run meets its conditions
  pub asked-fits : AskFits next.link.shape done.ask
  asked-fits = next-fits network past done fits (run-stands network past fits run) next
