-- Flights are kept in a calendar, in the order in which they departed, each for the round in which it is due. There it is a packet
-- on its way, without that round. No flight is due before the round at hand.
use Rattle.std.specs.Prelude.{◌≡◌, ℕ, ◌<◌, ◌≤◌, List, ◌∷◌, ◌++◌, Option, Some, None, map}
use Rattle.link_steps.specs.Lists.{Each}
use Rattle.tick_calendar.specs.Calendar.{EntryOf, TimetableOf}
use Rattle.tick_plane.specs.declared.flight.Flight.{Flight}
use Rattle.tick_plane.specs.declared.flight.OnWay.{OnWay}

-- what a contract sees: the flights in the order of their departures, the round at hand, and the room for more
pub record AreFlights : Type 0 where
  pub list : List Flight
  pub round : ℕ
  pub spare : ℕ

-- an entry of the calendar: a round, and what is on its way until then
abbrev pub Way : Type 0
Way = EntryOf OnWay

abbrev pub flight_at : Way → Flight
flight_at entry = record { to = entry.1.to; round = entry.0; packet = entry.1.packet }

abbrev pub flights_at : List Way → List Flight
flights_at entries = map flight_at entries

-- ---- rounds

-- an entry is due in the round or later
abbrev pub IsFrom : ℕ → Way → Type 0
IsFrom round entry = round ≤ entry.0

-- an entry is due after the round
abbrev pub IsAfter : ℕ → Way → Type 0
IsAfter round entry = round < entry.0

-- this is the first that is due in the round, where none is due before it
pub record IsFirst (round : ℕ) (way : OnWay) (entries : List Way) : Type 0 where
  pub before : List Way
  pub after : List Way
  pub is : entries ≡ before ++ (round, way) ∷ after
  pub later : Each (IsAfter round) before

-- so it is, or none is due in the round
abbrev pub IsDue : ℕ → List Way → Option OnWay → Type 0
IsDue round entries None = Each (IsAfter round) entries
IsDue round entries (Some way) = IsFirst round way entries

-- none is due before the round at hand, which is the calendar's clock
abbrev pub ArePunctual : TimetableOf OnWay → Type 0
ArePunctual ways = Each (IsFrom ways.clock) ways.entries
