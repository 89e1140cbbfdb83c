-- The packets that are on their way to one link, in the order of the rounds in which they reach it. Those of one round stand in the
-- order of their departures. So they are found by going once from front to end, round by round.
use Rattle.std.specs.Prelude.{◌≡◌, ℕ, zero, suc, ◌<◌, ◌≤◌, Bool, not, nat_eq, nat_lt, Some, List, [], ◌∷◌, ◌++◌, map, filter, length}
use Rattle.std.specs.List.{slice_get}
use Rattle.net_units.specs.Numbers.{link_number}
use Rattle.link_steps.specs.Lists.{Each}
use Rattle.link_steps.specs.declared.asks.Ask.{Ask}
use Rattle.link_steps.specs.declared.asks.Ask.TheVariants.{Tick}
use Rattle.tick_plane.specs.declared.flight.Flight.{Flight}
use Rattle.tick_plane.specs.Planes.{Plane, is_due}
use Rattle.tick_plane.specs.Windows.{arrive_of, is_bound}

abbrev pub IsDueFrom : ℕ → Flight → Type 0
IsDueFrom round flight = round ≤ flight.round

abbrev pub IsDueBefore : ℕ → Flight → Type 0
IsDueBefore until flight = flight.round < until

-- none is due before one that stands ahead of it
abbrev pub Rise : List Flight → Type 0
Rise [] = Unit {0}
Rise (flight ∷ flights) = Each (IsDueFrom flight.round) flights × Rise flights

-- whether a flight is due before a round
abbrev pub is_before : ℕ → Flight → Bool
is_before until flight = nat_lt flight.round until

-- or when it begins, or later
abbrev pub is_from : ℕ → Flight → Bool
is_from until flight = not (is_before until flight)

-- whether it goes to link n
abbrev pub is_to : ℕ → Flight → Bool
is_to n flight = nat_eq (link_number flight.to) n

-- those that reach link n in the rounds until one begins
pub record AreComing (n from until : ℕ) (flights coming : List Flight) : Type 0 where
  pub rise : Rise coming
  pub ahead : Each (IsDueFrom from) coming
  pub all : (round : ℕ) → from ≤ round → round < until → filter (is_due round) coming ≡ filter (is_bound n round) flights

-- ---- link by link

-- a list for each link, of the flights that go to it
pub record AreByLink {X : Type 0} (items : X → List Flight) (flights : List Flight) (lists : List X) : Type 0 where
  pub long : length lists ≡ 32
  pub own : (n : ℕ) (x : X) → slice_get lists n ≡ Some x → items x ≡ filter (is_to n) flights

-- the flights of a plane that are due before a round, none of them before the plane's, by the links
pub record AreListed {X : Type 0} (items : X → List Flight) (until : ℕ) (at : Plane) (lists : List X) : Type 0 where
  pub by_link : AreByLink items (filter (is_before until) at.flights) lists
  pub ahead : Each (IsDueFrom at.round) (filter (is_before until) at.flights)

-- ---- round by round

abbrev pub arrivals_in : ℕ → List Flight → List Ask
arrivals_in round coming = map arrive_of (filter (is_due round) coming)

-- in each round the arrivals, and then the tick
unfoldable pub rounds_in : ℕ → ℕ → List Flight → List Ask
rounds_in round zero coming = []
rounds_in round (suc count) coming = arrivals_in round coming ++ Tick ∷ rounds_in (suc round) count coming

-- those that are left when a round has begun
pub record AreLeft (round : ℕ) (coming left : List Flight) : Type 0 where
  pub rise : Rise left
  pub ahead : Each (IsDueFrom round) left
  pub all : (later : ℕ) → round ≤ later → filter (is_due later) left ≡ filter (is_due later) coming
