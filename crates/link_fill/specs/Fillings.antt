-- How full a link is with the requests over it, or a group's share with the group's: how many are asked for and how many accepted, the part of
-- the link that they take in the long run, the least first bound with which level 1 would hold them, the buffer that they keep, and for each level
-- its load and the room that it has for more like one of them.
use Rattle.std.specs.Prelude.{◌≡◌, ℕ, ◌+◌, Option, Some, None, List, length}
use Rattle.std.specs.List.{slice_get}
use Rattle.net_units.specs.Limits.{most_bound}
use Rattle.net_units.specs.Numbers.{level_number}
use Rattle.traffic_contract.specs.Admission.{total}
use Rattle.load_table.specs.Loads.{IsWindowWithin, part_in}
use Rattle.load_table.specs.declared.link.LinkRow.{LinkRow}
use Rattle.load_table.specs.declared.window.LevelLoad.{LevelLoad}
use Rattle.link_fill.specs.Fills.{AreAsked, IsRoom, IsShareLoad, held_in, kept_by, units_with}
use Rattle.link_fill.specs.declared.crossing.Crossing.{Crossing}
use Rattle.link_fill.specs.declared.fill.Fill.{Fill}
use Rattle.link_fill.specs.declared.fill.LevelFill.{LevelFill}
use Rattle.link_fill.specs.declared.share.Share.{Share}

-- ---- a level

-- the room of level m: none is told where nothing is asked for
pub record HasRoom (share : Share) (rows : List LinkRow) (m n : ℕ) : Type 0 where
  pub row : LinkRow
  pub level : level_number row.level ≡ m
  pub room : IsRoom share rows row m n

abbrev pub is_room_told : Share → List LinkRow → ℕ → Option ℕ → Type 0
is_room_told share rows m None = m ≡ m
is_room_told share rows m (Some n) = HasRoom share rows m n

pub record IsLevel (share : Share) (rows : List LinkRow) (m : ℕ) (made : LevelFill) : Type 0 where
  pub load : LevelLoad
  pub is : IsShareLoad share rows m load
  pub work : made.work ≡ load.work
  pub bound : made.bound ≡ load.bound
  pub room : is_room_told share rows m made.room

-- all levels, from the first on
pub record AreLevels (share : Share) (rows : List LinkRow) (count : ℕ) (levels : List LevelFill) : Type 0 where
  pub number : length levels ≡ count
  pub each : (k : ℕ) (made : LevelFill) → slice_get levels k ≡ Some made → IsLevel share rows (k + 1) made

-- ---- all of it

pub record IsFill (share : Share) (crossings : List Crossing) (fill : Fill) : Type 0 where
  pub asked : fill.asked ≡ length crossings
  pub accepted : fill.accepted ≡ length (held_in crossings)
  pub rows : List LinkRow
  pub are_asked : AreAsked crossings rows
  pub long_run_asked : fill.long_run_asked ≡ total (part_in share.numbers.rate) rows
  pub long_run : fill.long_run ≡ total (part_in share.numbers.rate) (held_in crossings)
  pub least_asked : IsWindowWithin share.numbers rows 8 most_bound fill.least_asked
  pub least : IsWindowWithin share.numbers (held_in crossings) 8 most_bound fill.least
  pub buffer : fill.buffer ≡ units_with share.buffer share.quota
  pub kept : fill.kept ≡ total kept_by crossings
  pub levels : AreLevels share (held_in crossings) (length share.bounds) fill.levels.items
