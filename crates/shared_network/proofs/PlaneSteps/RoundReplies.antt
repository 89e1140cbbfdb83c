-- The legal replies to the plane's asks are ones that it expects. What leaves a link in a tick flies to a link of the network, and
-- meets the conditions on a packet that arrives there.
use Rattle.std.proofs.Common.{◌≡◌, ℕ, ◌+◌, ◌^◌, ◌<◌, ◌≤◌, true, List, Option, Some, None, refl, sym, ap, ◌∙◌, subst, arith}
use Rattle.shared_network.proofs.Words.{link_number, ActorNo, LinkNo, Ask, Reserve, Arrive, Tick, Reply, AskFits, PacketFits, IsLegal, Each, tick_reply, reply_to, clock_of, scan_of, Link, SplitFits, IsOff, IsArriveReply, Plane, is_due, next_due, ask_due, plane_ask, flight_in, answers_arrive, answers_tick, plane_expects, IsDueLater, OwnsAsk, NextBelow, IsBelow}
use Rattle.std.proofs.Math.Nat.{min-le_right}
use Rattle.link_steps.specs.declared.replies.Entry.{Entry}
use Rattle.link_steps.specs.declared.shape.LinkShape.{LinkShape}
use Rattle.link_steps.specs.Admissible.{IsAdmissible}
use Rattle.link_steps.specs.Service.{leaves_at}
use Rattle.link_steps.proofs.LegalAdmissible.{legal-admissible}
use Rattle.link_steps.proofs.SearchAndFilter.{Each-find, Each-if}
use Rattle.channel_laws.specs.Departing.{ticked}
use Rattle.channel_laws.proofs.ArriveReplies.{arrive-told, of-arrive}
use Rattle.channel_laws.proofs.SentInTime.{sent-facts, sent-fits, tick-answer}
use Rattle.tick_plane.specs.declared.flight.Flight.{Flight}
use Rattle.shared_network.specs.Planes.{is_round}
use Rattle.channel_laws.proofs.NextLinks.{NamesNext, history-nexts, sent-next}
use Rattle.tick_plane.proofs.PlaneFlights.{asks-due, flight-in}

-- a flight to a link below a number, whose packet may arrive
pub record MayFly (n : ℕ) (flight : Flight) : Type 0 where
  pub to_below : link_number flight.to < n
  pub fits : PacketFits flight.packet

abbrev pub AsksBelow : ℕ → Entry → Type 0
AsksBelow n e = NextBelow n e.ask

-- ---- what leaves in a tick

names-below : (n : ℕ) (ask : Ask) → NextBelow n ask → NamesNext (IsBelow n) ask
names-below n (Reserve chan contract kind delay up_reach first next) below = below
names-below n _ below = tt

tick-flies : (n : ℕ) (shape : LinkShape) (h : List Entry) (reply : Reply) → clock_of h < 2 ^ 61 → Each (AsksBelow n) h → IsAdmissible shape h → reply ≡ tick_reply shape (clock_of h) (scan_of shape h) → Each (MayFly n) (flight_in reply)
tick-flies n shape h reply early below may same =
    let nexts = history-nexts (IsBelow n) tt shape h (Each-if (AsksBelow n) (λ (e : Entry). NamesNext (IsBelow n) e.ask) h (λ e named. names-below n e.ask named) below) in
    flight-in (MayFly n) reply (λ clock full sent best_sent best_lost to told next. record {
      to_below = subst (IsBelow n) next (sent-next (IsBelow n) tt shape (clock_of h) (scan_of shape h) clock full sent best_sent best_lost nexts (told ∙ same));
      fits = sent-fits shape h sent early (sent-facts shape h clock full sent best_sent best_lost may (told ∙ same));
    })

-- ---- the replies to the plane's asks

-- an arrival begins no flight
arrive-flies : (n : ℕ) (reply : Reply) → IsArriveReply reply → Each (MayFly n) (flight_in reply)
arrive-flies n reply is = of-arrive (λ r. Each (MayFly n) (flight_in r)) reply (λ clock eligible. tt) (λ held slots. tt) (λ why. tt) is

-- the flight that a legal reply to such an ask begins may fly
pub round-flies : (n : ℕ) (link : Link) (h : List Entry) (ask : Ask) (reply : Reply) → is_round ask ≡ true → SplitFits link → IsLegal link h → Each (AsksBelow n) h → clock_of h < 2 ^ 61 → reply ≡ reply_to link h ask → Each (MayFly n) (flight_in reply)
round-flies n link h (Arrive packet) reply round splits legal below early same = arrive-flies n reply (arrive-told link h packet reply same)
round-flies n link h Tick reply round splits legal below early same = tick-flies n link.shape h reply early below (legal-admissible link h splits legal) (same ∙ tick-answer link h)
round-flies n link h _ reply round splits legal below early same = cc

-- what leaves in a tick is due after the clock
tick-later : (t : ℕ) (shape : LinkShape) (h : List Entry) (reply : Reply) → t ≤ clock_of h → IsAdmissible shape h → reply ≡ tick_reply shape (clock_of h) (scan_of shape h) → IsDueLater t reply
tick-later t shape h reply early may same =
    flight-in (λ flight. t < flight.round) reply (λ clock full sent best_sent best_lost to told next.
    let is = sent-facts shape h clock full sent best_sent best_lost may (told ∙ same) in
    let arrives : sent.arrives ≡ leaves_at shape.rate is.start + shape.prop = ap (λ s. s.arrives) is.is in
    let leaves = is.leaves in
    omega (arith, arrives, leaves, early))

-- so is what begins with a legal reply to such an ask, where the clock of a tick is the round at least
pub round-later : (t : ℕ) (link : Link) (h : List Entry) (ask : Ask) (reply : Reply) → is_round ask ≡ true → SplitFits link → IsLegal link h → (ask ≡ Tick → t ≤ clock_of h) → reply ≡ reply_to link h ask → IsDueLater t reply
round-later t link h (Arrive packet) reply round splits legal early same = of-arrive (IsDueLater t) reply (λ clock eligible. tt) (λ held slots. tt) (λ why. tt) (arrive-told link h packet reply same)
round-later t link h Tick reply round splits legal early same = tick-later t link.shape h reply (early refl) (legal-admissible link h splits legal) (same ∙ tick-answer link h)
round-later t link h _ reply round splits legal early same = cc

due-expected : (link : Link) (h : List Entry) (found : Option Flight) (ticked : ℕ) (to : LinkNo) (ask : Ask) (reply : Reply) → ask_due ticked found ≡ (to, ask) → reply ≡ reply_to link h ask → plane_expects found reply ≡ true
due-expected link h None ticked to ask reply asks same =
    let tick : Tick ≡ ask = ap (λ pair. pair.1) asks in
    ap answers_tick (same ∙ ap (reply_to link h) (sym tick) ∙ tick-answer link h)
due-expected link h (Some flight) ticked to ask reply asks same =
    let arrive : Arrive flight.packet ≡ ask = ap (λ pair. pair.1) asks in
    of-arrive (λ r. answers_arrive r ≡ true) reply (λ clock eligible. refl) (λ held slots. refl) (λ why. refl) (arrive-told link h flight.packet reply (same ∙ ap (reply_to link h) (sym arrive)))

pub plane-expected : (rounds : ℕ) (plane : Plane) (link : Link) (h : List Entry) (to : LinkNo) (ask : Ask) (reply : Reply) → plane_ask rounds plane ≡ Some (to, ask) → reply ≡ reply_to link h ask → plane_expects (next_due plane) reply ≡ true
plane-expected rounds plane link h to ask reply asks same = due-expected link h (next_due plane) plane.ticked to ask reply (asks-due rounds plane to ask asks).asks same

-- ---- the plane's asks

-- an ask of the plane meets the conditions of a step
pub record MayAsk (n : ℕ) (to : LinkNo) (ask : Ask) : Type 0 where
  pub to_below : link_number to < n
  pub fits : (shape : LinkShape) → AskFits shape ask
  pub owned : (owners : List ActorNo) (actor : ActorNo) → OwnsAsk owners actor ask
  pub next : NextBelow n ask
  pub off : (c : ℕ) → IsOff c ask
  pub round : is_round ask ≡ true

may-due : (n ticked : ℕ) (found : Option Flight) (to : LinkNo) (ask : Ask) → ticked < n → ((flight : Flight) → found ≡ Some flight → MayFly n flight) → ask_due ticked found ≡ (to, ask) → MayAsk n to ask
may-due n ticked None to ask within flies asks = subst (λ (pair : LinkNo × Ask). MayAsk n pair.0 pair.1) asks (record { to_below = (let few = min-le_right 31 ticked in omega (arith, few, within)); fits = λ shape. tt; owned = λ owners actor. tt; next = tt; off = λ c. tt; round = refl })
may-due n ticked (Some flight) to ask within flies asks =
    let may = flies flight refl in
    subst (λ (pair : LinkNo × Ask). MayAsk n pair.0 pair.1) asks (record { to_below = may.to_below; fits = λ shape. may.fits; owned = λ owners actor. tt; next = tt; off = λ c. tt; round = refl })

pub plane-may : (n rounds : ℕ) (plane : Plane) (to : LinkNo) (ask : Ask) → plane.ticked < n → Each (MayFly n) plane.flights → plane_ask rounds plane ≡ Some (to, ask) → MayAsk n to ask
plane-may n rounds plane to ask within flies asks =
    may-due n plane.ticked (next_due plane) to ask within (λ flight found. Each-find (MayFly n) (is_due plane.round) plane.flights flight flies found) (asks-due rounds plane to ask asks).asks
