-- Requests go over a link, and those that are accepted have a level there. They are the rows of its admission test. An accepted one keeps
-- buffer for as many of its largest packets as its contract allows in a window as long as the bounds of its levels at the hop before and here
-- together. A group that has a share of the link is judged by its quota in place of the bounds: its rows may bring no more work into a window as
-- long as the bound of a level than its quota has of that level. There is room for so many more rows at a level: with these each level from it on
-- still holds what it is beside, and with one more one of them doesn't.
use Rattle.std.specs.Prelude.{◌≡◌, ℕ, ◌+◌, ◌<◌, ◌≤◌, Option, Some, None, List, ◌++◌, length, map, replicate}
use Rattle.std.specs.List.{filter_map}
use Rattle.net_units.specs.LevelBounds.{bound_at}
use Rattle.traffic_contract.specs.Admission.{total, work_up_to}
use Rattle.traffic_contract.specs.Contract.{Traffic}
use Rattle.link_steps.specs.Buffer.{units_for}
use Rattle.link_steps.specs.Split.{level_part}
use Rattle.link_steps.specs.declared.quota.Quota.{Quota}
use Rattle.load_table.specs.Loads.{IsLoadOf, rows_in}
use Rattle.load_table.specs.declared.link.LinkRow.{LinkRow}
use Rattle.load_table.specs.declared.window.LevelLoad.{LevelLoad}
use Rattle.link_fill.specs.declared.crossing.Crossing.{Crossing}
use Rattle.link_fill.specs.declared.crossing.Held.{Held}
use Rattle.link_fill.specs.declared.share.Share.{Share}

-- ---- the rows

abbrev pub row_with : Traffic → Option Held → Option LinkRow
row_with contract None = None
row_with contract (Some held) = Some (record { contract = contract; level = held.level })

abbrev pub row_of : Crossing → Option LinkRow
row_of crossing = row_with crossing.contract crossing.held

-- those that are accepted
abbrev pub held_in : List Crossing → List LinkRow
held_in crossings = filter_map row_of crossings

abbrev pub contract_of : LinkRow → Traffic
contract_of row = row.contract

abbrev pub contract_in : Crossing → Traffic
contract_in crossing = crossing.contract

-- rows of all that are asked for, whatever their levels are
abbrev pub AreAsked : List Crossing → List LinkRow → Type 0
AreAsked crossings rows = map contract_of rows ≡ map contract_in crossings

-- ---- the buffer

abbrev pub kept_with : Traffic → Option Held → ℕ
kept_with contract None = 0
kept_with contract (Some held) = units_for contract (held.before + held.here)

abbrev pub kept_by : Crossing → ℕ
kept_by crossing = kept_with crossing.contract crossing.held

abbrev pub units_with : ℕ → Option Quota → ℕ
units_with buffer None = buffer
units_with buffer (Some quota) = quota.buffer

-- ---- the levels

-- the work of a group's rows beside its quota
pub record IsQuotaLoad (share : Share) (quota : Quota) (rows : List LinkRow) (m : ℕ) (made : LevelLoad) : Type 0 where
  pub bound : made.bound ≡ level_part m quota
  pub window : made.window ≡ bound_at share.bounds m
  pub work : made.work ≡ total (work_up_to share.numbers.rate m (bound_at share.bounds m)) (rows_in rows)

abbrev pub is_load_with : Share → Option Quota → List LinkRow → ℕ → LevelLoad → Type 0
is_load_with share None rows m made = IsLoadOf share.numbers share.bounds rows m made
is_load_with share (Some quota) rows m made = IsQuotaLoad share quota rows m made

abbrev pub IsShareLoad : Share → List LinkRow → ℕ → LevelLoad → Type 0
IsShareLoad share rows m made = is_load_with share share.quota rows m made

-- a level holds the load of these rows, or it doesn't
pub record Holds (share : Share) (rows : List LinkRow) (m : ℕ) : Type 0 where
  pub load : LevelLoad
  pub is : IsShareLoad share rows m load
  pub fits : load.work ≤ load.bound

pub record Exceeds (share : Share) (rows : List LinkRow) (m : ℕ) : Type 0 where
  pub load : LevelLoad
  pub is : IsShareLoad share rows m load
  pub over : load.bound < load.work

-- each level from this one on holds it, or one of them doesn't
abbrev pub AllHold : Share → List LinkRow → ℕ → Type 0
AllHold share rows m = (k : ℕ) → m ≤ k → k ≤ length share.bounds → Holds share rows k

pub record OneExceeds (share : Share) (rows : List LinkRow) (m : ℕ) : Type 0 where
  pub level : ℕ
  pub from : m ≤ level
  pub within : level ≤ length share.bounds
  pub exceeds : Exceeds share rows level

-- ---- the room

abbrev pub most_rows : ℕ
most_rows = 1024

-- these rows, and so many more like one
abbrev pub with_more : List LinkRow → LinkRow → ℕ → List LinkRow
with_more rows row n = rows ++ replicate n row

pub record IsRoom (share : Share) (rows : List LinkRow) (row : LinkRow) (m n : ℕ) : Type 0 where
  pub few : length rows + n ≤ most_rows
  pub fits : 1 ≤ n → AllHold share (with_more rows row n) m
  pub full : length rows + n < most_rows → OneExceeds share (with_more rows row (n + 1)) m
