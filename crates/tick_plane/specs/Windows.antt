-- What each link is asked in a window of rounds. A window is a number of rounds that each link makes on its own. What leaves a
-- link within it reaches the next one when it is over. So what arrives within it is on its way as it begins, and what each link
-- is asked in it is known by then.
use Rattle.std.specs.Prelude.{ℕ, zero, suc, ◌-◌, Bool, ◌&&◌, nat_eq, nat_lt, if◌then◌else◌, List, [], ◌∷◌, ◌++◌, map, filter}
use Rattle.net_units.specs.Numbers.{link_number}
use Rattle.link_steps.specs.declared.asks.Ask.{Ask}
use Rattle.link_steps.specs.declared.asks.Ask.TheVariants.{Arrive, Tick}
use Rattle.tick_plane.specs.declared.flight.Flight.{Flight}
use Rattle.tick_plane.specs.Planes.{Plane}

-- a window: where the plane stands as it begins, and the round that begins when it is over
pub record WindowAt : Type 0 where
  pub at : Plane
  pub until : ℕ

-- whether a flight reaches the link of this number in this round
abbrev pub is_bound : ℕ → ℕ → Flight → Bool
is_bound n round flight = nat_eq flight.round round && nat_eq (link_number flight.to) n

abbrev pub arrive_of : Flight → Ask
arrive_of flight = Arrive flight.packet

-- the arrivals at link n in a round, in the order of their departures
abbrev pub arrivals_at : ℕ → ℕ → List Flight → List Ask
arrivals_at n round flights = map arrive_of (filter (is_bound n round) flights)

-- what link n is asked in `count` rounds from `round` on: in each its arrivals, and then its tick
unfoldable pub rounds_at : ℕ → ℕ → ℕ → List Flight → List Ask
rounds_at n round zero flights = []
rounds_at n round (suc count) flights = arrivals_at n round flights ++ Tick ∷ rounds_at n (suc round) count flights

-- its tick of the plane's round, where it hasn't made it
abbrev pub tick_left : ℕ → Plane → List Ask
tick_left n plane = if nat_lt n plane.ticked then [] else Tick ∷ []

-- what link n is asked from where the plane stands until round `until` begins, by the flights that are on their way
abbrev pub window_at : ℕ → ℕ → Plane → List Ask
window_at n until plane =
    if nat_lt plane.round until
    then arrivals_at n plane.round plane.flights ++ (tick_left n plane ++ rounds_at n (suc plane.round) (until - suc plane.round) plane.flights)
    else []
