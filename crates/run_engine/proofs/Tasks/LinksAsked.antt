-- Every ask of a run goes to a link of the network. A caller asks hops of its routes, and links at which it pours; the plane
-- ticks links of the network, and lets packets arrive at the next links of rows, which reserves have named.
use Rattle.std.proofs.Common.{◌≡◌, ℕ, ◌<◌, List, [], ◌∷◌, length, Option, Some, None, refl, sym, ap, ◌∙◌, subst, inl, inr, arith}
use Rattle.run_engine.proofs.Words.{ask_at, script_ask, standing, cases_Bool, eqb-true, eqb-false, slice_get_cases, slice_get, nat_eq, link_number, actor_number, link_at, LinkNo, Ask, Tick, Entry, Reply, LinkShape, Each, tick_reply, reply_to, Scan, clock_of, scan_of, Link, NetworkFits, Network, Task, Plane, is_due, next_due, ask_due, flight_in, plane_with, plane_of, Flight, replies_to, part_of, Done, plane_no, plane_at, IsNext, IsRun}
use Rattle.link_steps.proofs.SearchAndFilter.{Each-find}
use Rattle.run_engine.specs.runs.Linked.{IsLinkThere, EveryAskGoesToALink}
use Rattle.run_engine.proofs.Runs.RunLegal.{asked-plane, asked-caller, caller-next, plane-next, link_at-number, run-stands, by-part, by-actor}
use Rattle.channel_laws.proofs.NextLinks.{NamesNext, NextsAre, after-nexts, sent-next}
use Rattle.tick_plane.proofs.PlaneFlights.{asks-due, flight-in, flights-with}
use Rattle.channel_laws.proofs.SentInTime.{tick-answer}
use Rattle.run_engine.proofs.Tasks.CallerAsksFit.{NextLinked, standing-asks}

-- an ask of a link that is there; where it names a next link, that is there, too
record AsksThere (links : List Link) (to : LinkNo) (ask : Ask) : Type 0 where
  linked : IsLinkThere links to
  next : NamesNext (NextLinked links) ask

-- the flight of a tick's reply
tick-flight : (links : List Link) (shape : LinkShape) (t : ℕ) (scan : Scan) (reply : Reply) → reply ≡ tick_reply shape t scan → NextsAre (NextLinked links) scan → Each (λ flight. IsLinkThere links flight.to) (flight_in reply)
tick-flight links shape t scan reply same nexts =
    flight-in (λ flight. IsLinkThere links flight.to) reply (λ clock full sent best_sent best_lost to told next. subst (NextLinked links) next (sent-next (NextLinked links) tt shape t scan clock full sent best_sent best_lost nexts (told ∙ same)))

-- ---- every run

record RunLinked (network : Network) (run : List Done) : Type 0 where
  parts : (n : ℕ) (link : Link) → slice_get network.links n ≡ Some link → NextsAre (NextLinked network.links) (scan_of link.shape (part_of n run))
  flights : Each (λ flight. IsLinkThere network.links flight.to) (plane_at network run).flights

caller-there : (network : Network) (past : List Done) (actor : ℕ) (tasks : List Task) (to : LinkNo) (ask : Ask) → NetworkFits network → IsRun network past → slice_get network.scripts actor ≡ Some tasks → ask_at (standing tasks (replies_to actor past)) ≡ Some (to, ask) → AsksThere network.links to ask
caller-there network past actor tasks to ask fits run found asks =
    let own = standing-asks network.links (standing tasks (replies_to actor past)) to ask ((run-stands network past fits run).callers actor tasks found) asks in
    record { linked = own.linked; next = own.next }

due-there : (network : Network) (plane : Plane) (found : Option Flight) (to : LinkNo) (ask : Ask) → NetworkFits network → plane.ticked < length network.links → Each (λ flight. IsLinkThere network.links flight.to) plane.flights → next_due plane ≡ found → ask_due plane.ticked found ≡ (to, ask) → AsksThere network.links to ask
due-there network plane None to ask fits within flights is same =
    let few = fits.few in
    let number : link_number (link_at plane.ticked) ≡ plane.ticked = link_at-number plane.ticked (omega (arith, few, within)) in
    record {
      linked = subst (IsLinkThere network.links) (ap (λ pair. pair.0) same) (there number);
      next = subst (NamesNext (NextLinked network.links)) (ap (λ pair. pair.1) same) tt;
    } where
      there : link_number (link_at plane.ticked) ≡ plane.ticked → IsLinkThere network.links (link_at plane.ticked)
      there number =
          elim (slice_get_cases network.links plane.ticked).1 [
            | inl at ↦ record { link = at.0; found = ap (slice_get network.links) number ∙ at.2 }
            | inr past ↦ absurd (omega (arith, past.0, within))
          ]
due-there network plane (Some flight) to ask fits within flights is same = record {
  linked = subst (IsLinkThere network.links) (ap (λ pair. pair.0) same) (Each-find (λ f. IsLinkThere network.links f.to) (is_due plane.round) plane.flights flight flights is);
  next = subst (NamesNext (NextLinked network.links)) (ap (λ pair. pair.1) same) tt;
}

plane-there : (network : Network) (past : List Done) (to : LinkNo) (ask : Ask) → NetworkFits network → IsRun network past → RunLinked network past → ask_due (plane_at network past).ticked (next_due (plane_at network past)) ≡ (to, ask) → AsksThere network.links to ask
plane-there network past to ask fits run was same = due-there network (plane_at network past) (next_due (plane_at network past)) to ask fits (run-stands network past fits run).ticked was.flights refl same

module _ (network : Network) (past : List Done) (done : Done) where
  next-there : NetworkFits network → IsRun network past → RunLinked network past → IsNext network past done → AsksThere network.links done.link done.ask
  next-there fits run was next =
      elim (cases_Bool (nat_eq (actor_number done.actor) (plane_no network))) [
        | inl plane ↦ plane-there network past done.link done.ask fits run was (plane-next network past done next (eqb-true (actor_number done.actor) (plane_no network) plane)).asks
        | inr caller ↦
            (let asks = caller-next network past done next (eqb-false (actor_number done.actor) (plane_no network) caller) in
            caller-there network past (actor_number done.actor) asks.tasks done.link done.ask fits run asks.found asks.asks)
      ]

  parts-there : RunLinked network past → (next : IsNext network past done) → NamesNext (NextLinked network.links) done.ask → (n : ℕ) (link : Link) → slice_get network.links n ≡ Some link → NextsAre (NextLinked network.links) (scan_of link.shape (part_of n (done ∷ past)))
  unfolding scan_of
  parts-there was next own n link found =
      by-part (λ h. NextsAre (NextLinked network.links) (scan_of link.shape h)) n done past
      (λ on. after-nexts (NextLinked network.links) tt link.shape (clock_of (part_of n past)) (scan_of link.shape (part_of n past)) done.ask done.reply own (was.parts n link found))
      (λ off. was.parts n link found)

  -- the flights after the plane's step
  flights-there : RunLinked network past → (next : IsNext network past done) → ask_due (plane_at network past).ticked (next_due (plane_at network past)) ≡ (done.link, done.ask)
      → Each (λ flight. IsLinkThere network.links flight.to) (plane_with (length network.links) (plane_at network past) (next_due (plane_at network past)) done.reply).flights
  flights-there was next asks = flights-with (λ flight. IsLinkThere network.links flight.to) (length network.links) (plane_at network past) (next_due (plane_at network past)) done.reply was.flights fresh where
    fresh : next_due (plane_at network past) ≡ None → Each (λ flight. IsLinkThere network.links flight.to) (flight_in done.reply)
    fresh none =
        let tick : Tick ≡ done.ask = ap (λ pair. pair.1) (ap (ask_due (plane_at network past).ticked) (sym none) ∙ asks) in
        let h : List Entry = part_of (link_number done.link) past in
        let is : done.reply ≡ tick_reply next.link.shape (clock_of h) (scan_of next.link.shape h) = next.answered ∙ ap (reply_to next.link h) (sym tick) ∙ tick-answer next.link h in
        tick-flight network.links next.link.shape (clock_of h) (scan_of next.link.shape h) done.reply is (was.parts (link_number done.link) next.link next.linked)

  linked-next : NetworkFits network → IsRun network past → RunLinked network past → IsNext network past done → RunLinked network (done ∷ past)
  linked-next fits run was next = record {
    parts = parts-there was next (next-there fits run was next).next;
    flights = by-actor (λ p. Each (λ flight. IsLinkThere network.links flight.to) p.flights) network done past next (λ asks. flights-there was next asks.asks) (λ asks. was.flights);
  }

run-linked : (network : Network) (run : List Done) → NetworkFits network → IsRun network run → RunLinked network run
unfolding IsRun part_of replies_to plane_of scan_of
run-linked network [] fits run = record { parts = λ n link found. record { rows = tt; packets = tt }; flights = tt }
run-linked network (done ∷ past) fits run = linked-next network past done fits run.0 (run-linked network past fits run.0) run.1

-- what a script asks is of a caller's
script-there : (network : Network) (past : List Done) (actor : ℕ) (found : Option (List Task)) (to : LinkNo) (ask : Ask) → NetworkFits network → IsRun network past → slice_get network.scripts actor ≡ found → script_ask found (replies_to actor past) ≡ Some (to, ask) → AsksThere network.links to ask
script-there network past actor None to ask fits run is same = cc
script-there network past actor (Some tasks) to ask fits run is same = caller-there network past actor tasks to ask fits run is same

pub asks-linked : EveryAskGoesToALink
asks-linked network past actor to ask fits run same =
    elim (cases_Bool (nat_eq actor (plane_no network))) [
      | inl plane ↦
          (plane-there network past to ask fits run (run-linked network past fits run)
          (asks-due network.rounds (plane_at network past) to ask (sym (asked-plane network actor past (eqb-true actor (plane_no network) plane)) ∙ same)).asks).linked
      | inr caller ↦ (script-there network past actor (slice_get network.scripts actor) to ask fits run refl (sym (asked-caller network actor past (eqb-false actor (plane_no network) caller)) ∙ same)).linked
    ]
