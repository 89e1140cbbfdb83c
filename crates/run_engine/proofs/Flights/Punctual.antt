-- No flight is late: each is due in the plane's round or in a later one.
use Rattle.std.proofs.Common.{◌≡◌, ℕ, suc, ◌<◌, ◌≤◌, false, List, [], ◌∷◌, length, Option, Some, None, refl, sym, ap, ◌∙◌, inl, inr, arith}
use Rattle.run_engine.proofs.Words.{cases_Bool, eqb-false, slice_get_within, nat_eq, find, link_number, actor_number, Arrive, Tick, Each, reply_to, clock_of, Done, NetworkFits, Network, Flight, Plane, is_due, next_due, ask_due, flight_in, tick_made, plane_with, plane_of, IsDueLater, part_of, replies_to, plane_no, plane_at, IsNext, IsRun}
use Rattle.link_steps.proofs.SearchAndFilter.{Each-append, Each-if, Each-both, Each-without_first}
use Rattle.run_engine.specs.channels.Flights.{IsPunctual}
use Rattle.run_engine.proofs.Flights.FlightOrigins.{new-later, run-flights}
use Rattle.run_engine.specs.runs.Laws.{NoFlightIsLate}
use Rattle.run_engine.proofs.Runs.RunLegal.{part-may, RunStands, clock_at, plane-next, run-stands, by-actor}
use Rattle.channel_laws.proofs.ArriveReplies.{arrive-told, of-arrive}
use Rattle.channel_laws.proofs.SentInTime.{tick-answer}

-- none found means that none passes
not-due : (t : ℕ) (flights : List Flight) → find (is_due t) flights ≡ None → Each (λ flight. is_due t flight ≡ false) flights
not-due t [] none = tt
not-due t (f ∷ flights) none =
    elim (cases_Bool (is_due t f)) [
      | inl due ↦ absurd (let clash : Some f ≡ None = rw due at none in cc)
      | inr later ↦ (later, not-due t flights (rw later at none))
    ]

tick-punctual : (links : ℕ) (plane : Plane) (new : List Flight) → next_due plane ≡ None → IsPunctual plane → Each (λ flight. suc plane.round ≤ flight.round) new → IsPunctual (tick_made links plane new)
tick-punctual links plane new none punctual later =
    let strict : Each (λ flight. suc plane.round ≤ flight.round) plane.flights =
    Each-if (λ flight. (plane.round ≤ flight.round) × (is_due plane.round flight ≡ false)) (λ flight. suc plane.round ≤ flight.round) plane.flights
    (λ flight both. (let other = eqb-false flight.round plane.round both.1 in let from = both.0 in omega (arith, other, from)))
    (Each-both (λ flight. plane.round ≤ flight.round) (λ flight. is_due plane.round flight ≡ false) plane.flights punctual (not-due plane.round plane.flights none)) in
    elim (cases_Bool (nat_eq (suc plane.ticked) links)) [
      | inl last ↦ rw last (Each-append (λ flight. suc plane.round ≤ flight.round) plane.flights new strict later)
      | inr more ↦ rw more (Each-append (λ flight. plane.round ≤ flight.round) plane.flights new punctual (Each-if (λ flight. suc plane.round ≤ flight.round) (λ flight. plane.round ≤ flight.round) new (λ flight h. omega (arith, h)) later))
    ]

-- what begins with the reply to the plane's ask is due after the round
due-later : (network : Network) (plane : Plane) (found : Option Flight) (done : Done) (past : List Done) → NetworkFits network → RunStands network past → (next : IsNext network past done) → plane ≡ plane_at network past → ask_due plane.ticked found ≡ (done.link, done.ask) → IsDueLater plane.round done.reply
due-later network plane (Some flight) done past fits stands next is asks =
    let arrive : Arrive flight.packet ≡ done.ask = ap (λ pair. pair.1) asks in
    of-arrive (IsDueLater plane.round) done.reply (λ clock eligible. tt) (λ held slots. tt) (λ why. tt)
    (arrive-told next.link (part_of (link_number done.link) past) flight.packet done.reply (next.answered ∙ ap (reply_to next.link (part_of (link_number done.link) past)) (sym arrive)))
due-later network plane None done past fits stands next is asks =
    let tick : Tick ≡ done.ask = ap (λ pair. pair.1) asks in
    let inside : link_number done.link < length network.links = slice_get_within network.links (link_number done.link) next.link next.linked in
    let clock : clock_of (part_of (link_number done.link) past) ≡ clock_at plane (link_number done.link) = stands.clocks (link_number done.link) inside ∙ ap (λ p. clock_at p (link_number done.link)) (sym is) in
    let legal = part-may network past (link_number done.link) next.link fits stands next.linked in
    new-later next.link.shape (part_of (link_number done.link) past) done.reply plane.round (omega (arith, clock)) legal (next.answered ∙ ap (reply_to next.link (part_of (link_number done.link) past)) (sym tick) ∙ tick-answer next.link (part_of (link_number done.link) past))

with-punctual : (network : Network) (plane : Plane) (found : Option Flight) (done : Done) (past : List Done) → NetworkFits network → RunStands network past → (next : IsNext network past done) → plane ≡ plane_at network past → next_due plane ≡ found → ask_due plane.ticked found ≡ (done.link, done.ask) → IsPunctual plane → IsPunctual (plane_with (length network.links) plane found done.reply)
with-punctual network plane (Some flight) done past fits stands next is due asks punctual = Each-without_first (λ f. plane.round ≤ f.round) (is_due plane.round) plane.flights punctual
with-punctual network plane None done past fits stands next is due asks punctual = tick-punctual (length network.links) plane (flight_in done.reply) due punctual (due-later network plane None done past fits stands next is asks)

pub reply-later : (network : Network) (past : List Done) (done : Done) → NetworkFits network → IsRun network past → IsNext network past done → actor_number done.actor ≡ plane_no network → IsDueLater (plane_at network past).round done.reply
reply-later network past done fits run next same =
    let asks = plane-next network past done next same in
    due-later network (plane_at network past) (next_due (plane_at network past)) done past fits (run-stands network past fits run) next refl asks.asks

-- in every run
pub run-punctual : (network : Network) (run : List Done) → NetworkFits network → IsRun network run → IsPunctual (plane_at network run)
unfolding IsRun plane_of replies_to
run-punctual network [] fits is = tt
run-punctual network (done ∷ past) fits is =
    let before = run-punctual network past fits is.0 in
    by-actor IsPunctual network done past is.1 (λ asks. with-punctual network (plane_at network past) (next_due (plane_at network past)) done past fits (run-stands network past fits is.0) is.1 refl refl asks.asks before) (λ asks. before)

pub flights-of-runs : NoFlightIsLate
flights-of-runs = record { punctual = run-punctual; stand = run-flights }
