-- The plane makes rounds. In round t each flight that is due in t arrives at its link, in the order in which the flights
-- departed, and then each link makes one tick, in the order of the links. A flight is a packet that has left a link and
-- has a next one; it is due in the round in which it reaches that link. What the plane asks next follows from the replies
-- that it has got.
use Rattle.std.specs.Prelude.{ℕ, suc, ◌<◌, Bool, true, false, nat_eq, nat_lt, if◌then◌else◌, Option, Some, None, List, [], ◌∷◌, ◌++◌, find}
use Rattle.net_units.specs.declared.numbers.LinkNo.{LinkNo}
use Rattle.net_units.specs.Numbers.{link_at}
use Rattle.link_steps.specs.declared.asks.Ask.{Ask}
use Rattle.link_steps.specs.declared.asks.Ask.TheVariants.{Arrive, Tick}
use Rattle.link_steps.specs.declared.replies.Refusal.{Refusal}
use Rattle.link_steps.specs.declared.replies.Refusal.TheVariants.{Full, Stray}
use Rattle.link_steps.specs.declared.replies.Reply.{Reply}
use Rattle.link_steps.specs.declared.replies.Reply.TheVariants.{Taken, Ticked, Refused}
use Rattle.link_steps.specs.declared.replies.Sent.{Sent}
use Rattle.link_steps.specs.Lists.{Each, without_first}
use Rattle.tick_plane.specs.declared.flight.Flight.{Flight}

-- the round, how many links have made its tick, and the flights that haven't arrived, in the order of their departures
pub record Plane : Type 0 where
  pub round : ℕ
  pub ticked : ℕ
  pub flights : List Flight

abbrev pub plane_start : Plane
plane_start = record { round = 0; ticked = 0; flights = [] }

-- ---- what is asked next

abbrev pub is_due : ℕ → Flight → Bool
is_due round flight = nat_eq flight.round round

-- the first flight that is due in the round
abbrev pub next_due : Plane → Option Flight
next_due plane = find (is_due plane.round) plane.flights

-- an arrival where a flight is due, or else the tick of the next link
abbrev pub ask_due : ℕ → Option Flight → LinkNo × Ask
ask_due ticked None = (link_at ticked, Tick)
ask_due ticked (Some flight) = (flight.to, Arrive flight.packet)

-- nothing, once all rounds are made
abbrev pub plane_ask : ℕ → Plane → Option (LinkNo × Ask)
plane_ask rounds plane = if nat_lt plane.round rounds then Some (ask_due plane.ticked (next_due plane)) else None

-- ---- one reply more

abbrev pub flight_to : Sent → Option LinkNo → List Flight
flight_to sent None = []
flight_to sent (Some to) = record { to = to; round = sent.arrives; packet = sent.packet } ∷ []

abbrev pub flight_of : Option Sent → List Flight
flight_of None = []
flight_of (Some sent) = flight_to sent sent.next

-- the flight that begins with a tick, if one does
abbrev pub flight_in : Reply → List Flight
flight_in (Ticked clock full sent best_sent best_lost) = flight_of sent
flight_in _ = []

-- the last link's tick ends the round
abbrev pub tick_made : ℕ → Plane → List Flight → Plane
tick_made links plane new =
    if nat_eq (suc plane.ticked) links
    then record { round = suc plane.round; ticked = 0; flights = plane.flights ++ new }
    else record { round = plane.round; ticked = suc plane.ticked; flights = plane.flights ++ new }

abbrev pub plane_with : ℕ → Plane → Option Flight → Reply → Plane
plane_with links plane (Some flight) reply = record plane { flights = without_first (is_due plane.round) plane.flights }
plane_with links plane None reply = tick_made links plane (flight_in reply)

abbrev pub plane_after : ℕ → Reply → Plane → Plane
plane_after links reply plane = plane_with links plane (next_due plane) reply

-- where the plane of `links` links stands after its replies, newest first
unfoldable pub plane_of : ℕ → List Reply → Plane
plane_of links [] = plane_start
plane_of links (reply ∷ before) = plane_after links reply (plane_of links before)

-- a packet that leaves with the reply is due at its next link after this round
abbrev pub IsDueLater : ℕ → Reply → Type 0
IsDueLater round reply = Each (λ flight. round < flight.round) (flight_in reply)

-- ---- the replies of an ask

abbrev pub refuses_arrive : Refusal → Bool
refuses_arrive (Full held slots) = true
refuses_arrive (Stray why) = true
refuses_arrive _ = false

abbrev pub answers_arrive : Reply → Bool
answers_arrive (Taken clock eligible) = true
answers_arrive (Refused refusal) = refuses_arrive refusal
answers_arrive _ = false

abbrev pub answers_tick : Reply → Bool
answers_tick (Ticked clock full sent best_sent best_lost) = true
answers_tick _ = false

-- whether this is a reply to what is asked where that flight is due, or none is
abbrev pub plane_expects : Option Flight → Reply → Bool
plane_expects (Some flight) reply = answers_arrive reply
plane_expects None reply = answers_tick reply
