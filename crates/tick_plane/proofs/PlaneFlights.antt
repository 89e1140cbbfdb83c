-- The plane's asks and flights: what it asks is asked before its rounds are over, and a fact of each flight that begins with a
-- reply is one of each flight that the plane has.
use Rattle.std.proofs.Common.{◌≡◌, ℕ, suc, ◌<◌, Bool, List, [], ◌∷◌, ◌++◌, Option, Some, None, refl, inl, inr}
use Rattle.std.proofs.lemmas.Bool.{cases_Bool, cond_both, ltb-true}
use Rattle.std.proofs.lemmas.Option.{same_Some}
use Rattle.std.specs.Prelude.{nat_eq, nat_lt}
use Rattle.net_units.specs.declared.numbers.LinkNo.{LinkNo}
use Rattle.link_steps.specs.declared.asks.Ask.{Ask}
use Rattle.link_steps.specs.declared.replies.Reply.{Reply}
use Rattle.link_steps.specs.declared.replies.Reply.TheVariants as Is
use Rattle.link_steps.specs.declared.replies.Sent.{Sent}
use Rattle.link_steps.specs.Lists.{Each}
use Rattle.link_steps.proofs.SearchAndFilter.{Each-append, Each-without_first}
use Rattle.tick_plane.specs.Planes.{Plane, is_due, next_due, ask_due, plane_ask, flight_to, flight_in, tick_made, plane_with, plane_of}
use Rattle.tick_plane.specs.declared.flight.Flight.{Flight}

-- ---- what is asked

-- before the rounds are over, what is due
pub record AsksDue (rounds : ℕ) (plane : Plane) (to : LinkNo) (ask : Ask) : Type 0 where
  pub early : plane.round < rounds
  pub asks : ask_due plane.ticked (next_due plane) ≡ (to, ask)

pub asks-due : (rounds : ℕ) (plane : Plane) (to : LinkNo) (ask : Ask) → plane_ask rounds plane ≡ Some (to, ask) → AsksDue rounds plane to ask
asks-due rounds plane to ask same =
    elim (cases_Bool (nat_lt plane.round rounds)) [
      | inl early ↦ record { early = ltb-true plane.round rounds early; asks = same_Some (ask_due plane.ticked (next_due plane)) (to, ask) (rw early at same) }
      | inr over ↦ absurd (let clash : None ≡ Some (to, ask) = rw over at same in cc)
    ]

-- ---- the flight that begins with a reply

flight-to : (P : Flight → Type 0) (sent : Sent) (next : Option LinkNo) → ((to : LinkNo) → next ≡ Some to → P (record { to = to; round = sent.arrives; packet = sent.packet })) → Each P (flight_to sent next)
flight-to P sent None fresh = tt
flight-to P sent (Some to) fresh = (fresh to refl, tt)

-- it begins with a tick that tells a packet which goes on
pub flight-in : (P : Flight → Type 0) (reply : Reply)
    → ((clock full : ℕ) (sent : Sent) (best_sent best_lost : Bool) (to : LinkNo) → Is.Ticked clock full (Some sent) best_sent best_lost ≡ reply → sent.next ≡ Some to → P (record { to = to; round = sent.arrives; packet = sent.packet })) → Each P (flight_in reply)
flight-in P (Is.Ticked clock full (Some sent) best_sent best_lost) fresh = flight-to P sent sent.next (λ to next. fresh clock full sent best_sent best_lost to refl next)
flight-in P (Is.Ticked clock full None best_sent best_lost) fresh = tt
flight-in P (Is.Offer level reach) fresh = tt
flight-in P (Is.Relaxed clock) fresh = tt
flight-in P Is.Denied fresh = tt
flight-in P (Is.Planned clock) fresh = tt
flight-in P (Is.Closing count cancelled) fresh = tt
flight-in P (Is.Taken clock eligible) fresh = tt
flight-in P (Is.Refused refusal) fresh = tt

-- ---- the flights of the plane

pub made-flights : (P : Flight → Type 0) (links : ℕ) (plane : Plane) (new : List Flight) → Each P plane.flights → Each P new → Each P (tick_made links plane new).flights
made-flights P links plane new old fresh =
    cond_both {A = Plane} (nat_eq (suc plane.ticked) links) (record { round = suc plane.round; ticked = 0; flights = plane.flights ++ new }) (record { round = plane.round; ticked = suc plane.ticked; flights = plane.flights ++ new }) (λ p. Each P p.flights)
    (λ _. Each-append P plane.flights new old fresh) (λ _. Each-append P plane.flights new old fresh)

-- a reply begins a flight only where none is due
pub flights-with : (P : Flight → Type 0) (links : ℕ) (plane : Plane) (found : Option Flight) (reply : Reply) → Each P plane.flights → (found ≡ None → Each P (flight_in reply)) → Each P (plane_with links plane found reply).flights
flights-with P links plane (Some flight) reply old fresh = Each-without_first P (is_due plane.round) plane.flights old
flights-with P links plane None reply old fresh = made-flights P links plane (flight_in reply) old (fresh refl)

-- each comes of a reply
pub plane-flights : (P : Flight → Type 0) (links : ℕ) (replies : List Reply) → Each (λ reply. Each P (flight_in reply)) replies → Each P (plane_of links replies).flights
unfolding plane_of
plane-flights P links [] fresh = tt
plane-flights P links (reply ∷ before) fresh = flights-with P links (plane_of links before) (next_due (plane_of links before)) reply (plane-flights P links before fresh.1) (λ none. fresh.0)
