-- A link finds by a calendar the rows whose hold ends: once all packets of a closing row were taken, the calendar has the tick
-- by which the hold ends, with the number of the row's channel. So a tick looks only at the rows of the entries that are due.
-- An entry that no longer belongs to a row means nothing. For each row that has no entry yet the calendar keeps room for one.
use Rattle.std.specs.Prelude.{◌≡◌, ℕ, ◌<◌, ◌≤◌, Bool, true, false, not, nat_eq, nat_le, ◌&&◌, ◌||◌, if◌then◌else◌, List, length, slice_index_or}
use Rattle.std.specs.List.{list_any}
use Rattle.net_units.specs.Numbers.{channel_number}
use Rattle.traffic_contract.specs.Admission.{total}
use Rattle.link_steps.specs.declared.replies.Phase.TheVariants.{Closing}
use Rattle.link_steps.specs.Account.{AccountRow, account_stays}
use Rattle.link_steps.specs.Lists.{Each}
use Rattle.link_steps.specs.Reservation.{is_phase}
use Rattle.tick_calendar.specs.Calendar.{Entry, Timetable}
use Rattle.link_server.specs.declared.table.served_row.ServedRow.{ServedRow}
use Rattle.link_server.specs.Index.{channel_in}
use Rattle.link_server.specs.Rows.{row_in}

-- whether the row waits for a packet yet, or isn't released
abbrev pub is_open : AccountRow → Bool
is_open row = not (is_phase row.terms.phase Closing && (nat_eq row.terms.count 0 || nat_eq row.taken row.terms.count))

-- whether the entry tells that the row's hold has ended by tick t
abbrev pub tells_end : List ℕ → ℕ → AccountRow → Entry → Bool
tells_end bounds t row entry = nat_eq entry.1 (channel_number row.terms.chan) && (nat_le entry.0 t && not (account_stays bounds entry.0 row))

-- a row that is closing plans nothing
abbrev pub PlansNone : AccountRow → Type 0
PlansNone row = is_phase row.terms.phase Closing ≡ true → length row.left ≡ 0

-- so it is, and from the clock on an entry tells when its hold has ended
pub record IsListed (bounds : List ℕ) (clock : ℕ) (entries : List Entry) (row : AccountRow) : Type 0 where
  pub plans_none : PlansNone row
  pub told : (t : ℕ) → clock ≤ t → account_stays bounds t row ≡ false → list_any (tells_end bounds t row) entries ≡ true

-- how many entries a row has yet to get, and how many these rows have
abbrev pub open_count : AccountRow → ℕ
open_count row = if is_open row then 1 else 0

abbrev pub open_in : List AccountRow → ℕ
open_in rows = total open_count rows

-- and so for each row, with room for one entry more for each that has none yet
pub record AreListed (bounds : List ℕ) (clock : ℕ) (holds : Timetable) (rows : List AccountRow) : Type 0 where
  pub begun : holds.clock ≤ clock
  pub listed : Each (IsListed bounds clock holds.entries) rows
  pub room : open_in rows ≤ holds.spare

-- from the clock on the hold of the row ends by this tick, and not before it
pub record EndsBy (bounds : List ℕ) (clock : ℕ) (row : AccountRow) (tick : ℕ) : Type 0 where
  pub taken : is_open row ≡ false
  pub from : clock ≤ tick
  pub ended : account_stays bounds tick row ≡ false
  pub least : (t : ℕ) → clock ≤ t → account_stays bounds t row ≡ false → tick ≤ t

-- the row of the channel of this number stands at place i, and its hold has ended by the tick of the clock
pub record HasEnded (bounds : List ℕ) (clock key : ℕ) (rows : List ServedRow) (i : ℕ) : Type 0 where
  pub inside : i < length rows
  pub key_is : (d : ServedRow) → channel_in (slice_index_or rows i d) ≡ key
  pub ended : (d : ServedRow) → account_stays bounds clock (row_in (slice_index_or rows i d)) ≡ false

-- the hold of the row hasn't, if it is of that channel
abbrev pub StaysIfOf : List ℕ → ℕ → ℕ → AccountRow → Type 0
StaysIfOf bounds clock key row = channel_number row.terms.chan ≡ key → account_stays bounds clock row ≡ true
