-- A row is added to a table without memory: room for it was made before, in each part.
use Rattle.std.specs.Prelude.{◌≡◌, ℕ, ◌+◌, ◌<◌, ◌≤◌, List, length}
use Rattle.std.specs.Vec.{vec_capacity}
use Rattle.net_units.specs.Numbers.{channel_number}
use Rattle.net_units.specs.declared.numbers.ChanNo.{ChanNo}
use Rattle.rcsp_admission.specs.Sums.{Sums}
use Rattle.tick_calendar.specs.Calendar.{Timetable}
use Rattle.link_server.specs.KeyedList.{Listed}
use Rattle.link_server.specs.declared.table.plans.Plans.{Plans}
use Rattle.link_server.specs.declared.table.served_row.ServedRow.{ServedRow}

-- a calendar has the same entries, and no less room
pub record IsWider (old new : Timetable) : Type 0 where
  pub same : new ≡ record old { spare = new.spare }
  pub wider : old.spare ≤ new.spare

-- there is room for one row more, of this channel
pub record HasRoomFor (chan : ChanNo) (rows : Listed ServedRow) (index : List ℕ) (holds : Timetable) (plans : Plans) (sums : Sums) : Type 0 where
  pub row : 0 < rows.spare
  pub place : channel_number chan < length index
  pub hold : length rows.items + 1 ≤ holds.spare
  pub planned : length rows.items + 1 ≤ plans.calendar.spare
  pub turn : length rows.items + 1 ≤ vec_capacity plans.turns
  pub summed : 1 ≤ sums.spare
