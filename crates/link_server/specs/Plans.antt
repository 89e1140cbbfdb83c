-- A link finds by a calendar the rows that bring a packet in a tick: for each row with source packets left, the calendar has
-- the tick of the next one, with the number of the row's channel. So a tick looks only at the rows of the entries that are due.
-- These take their turns in the order of the rows, whatever the order of their entries. An entry that no longer belongs to a
-- row means nothing. For each row that has no packet left and isn't closing, the calendar keeps room for one entry.
use Rattle.std.specs.Prelude.{◌≡◌, ℕ, ◌+◌, ◌<◌, ◌≤◌, Bool, true, false, not, nat_eq, ◌&&◌, if◌then◌else◌, Some, None, is_none, find, List, map, length, slice_index_or}
use Rattle.std.specs.List.{list_any}
use Rattle.net_units.specs.Numbers.{channel_number}
use Rattle.traffic_contract.specs.Admission.{total}
use Rattle.link_steps.specs.declared.replies.Phase.TheVariants.{Closing}
use Rattle.link_steps.specs.Account.{AccountRow}
use Rattle.link_steps.specs.Lists.{Each}
use Rattle.link_steps.specs.Reservation.{is_phase}
use Rattle.link_steps.specs.Rows.{is_for}
use Rattle.tick_calendar.specs.Calendar.{Entry, Timetable}
use Rattle.link_server.specs.declared.table.served_row.ServedRow.{ServedRow}
use Rattle.link_server.specs.Index.{channel_in}
use Rattle.link_server.specs.KeyedList.{AreRising}
use Rattle.link_server.specs.Planned.{IsPlannedFrom, first_tick}
use Rattle.link_server.specs.Rows.{row_in}

-- whether it is the entry of the channel of this number for this tick
abbrev pub is_entry_of : ℕ → ℕ → Entry → Bool
is_entry_of tick channel entry = nat_eq entry.0 tick && nat_eq entry.1 channel

-- where the row has a packet left, its next one has an entry
abbrev pub IsTold : List Entry → AccountRow → Type 0
IsTold entries row = (tick : ℕ) → first_tick row.left ≡ Some tick → list_any (is_entry_of tick (channel_number row.terms.chan)) entries ≡ true

-- whether the row has no packet left, and its source may yet plan some; and how many of these rows are so
abbrev pub is_idle : AccountRow → Bool
is_idle row = is_none (first_tick row.left) && not (is_phase row.terms.phase Closing)

abbrev pub idle_count : AccountRow → ℕ
idle_count row = if is_idle row then 1 else 0

abbrev pub idle_in : List AccountRow → ℕ
idle_in rows = total idle_count rows

-- the next packets of the rows are on the calendar, with room for one entry more for each that is idle
pub record ArePlanned (clock : ℕ) (plans : Timetable) (rows : List AccountRow) : Type 0 where
  pub begun : plans.clock ≤ clock
  pub told : Each (IsTold plans.entries) rows
  pub room : idle_in rows ≤ plans.spare

-- whether the place is one of them
abbrev pub is_turn : List ℕ → ℕ → Bool
is_turn turns place = list_any (nat_eq place) turns

-- the rows at these places have their turn in a tick: the next packets of all others are on the calendar. For each of these there
-- is room for one entry, as there is for each idle one
pub record AreCalled (clock : ℕ) (plans : Timetable) (turns : List ℕ) (rows : List ServedRow) : Type 0 where
  pub begun : plans.clock ≤ clock
  pub rising : AreRising 0 (length rows) turns
  pub told : (place : ℕ) (d : ServedRow) → place < length rows → is_turn turns place ≡ false → IsTold plans.entries (row_in (slice_index_or rows place d))
  pub room : idle_in (map row_in rows) + length turns ≤ plans.spare

-- the row of the channel of this number stands at place i
pub record IsPlaceOfKey (key : ℕ) (rows : List ServedRow) (i : ℕ) : Type 0 where
  pub inside : i < length rows
  pub key_is : (d : ServedRow) → channel_in (slice_index_or rows i d) ≡ key

-- the row has no packet for the tick, if it is of that channel
abbrev pub RestsIfOf : ℕ → ℕ → AccountRow → Type 0
RestsIfOf clock key row = channel_number row.terms.chan ≡ key → find (is_for clock) row.left ≡ None

-- the row plans no packet for a tick before this one
abbrev pub IsQuiet : ℕ → AccountRow → Type 0
IsQuiet until row = Each (IsPlannedFrom until) row.left
