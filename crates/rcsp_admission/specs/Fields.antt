-- What a link keeps of admission, by the fields of the struct that keeps it. The spare rows are those for which memory was
-- taken, both for the row and for its place in the index, and which aren't used.
use Rattle.std.specs.Prelude.{◌+◌, ◌≤◌, length, map, vec_capacity}
use Rattle.rcsp_admission.specs.Sums.{Sums, server_with}
use Rattle.rcsp_admission.specs.Kept.{held_of}
use Rattle.rcsp_admission.specs.Index.{IsIndex}
use Rattle.rcsp_admission.specs.declared.level_sums.LevelSums.TheInside.{Inside}

abbrev pub sums_of : Inside → Sums
sums_of s = record {
  server = server_with s.bounds s.rate s.blocking s.test;
  rows = map held_of s.rows.items;
  spare = s.spare;
}

-- each row is found by the index, and there is room for those that are spare
pub record KeepsPlaces (inside : Inside) : Type 0 where
  pub index : IsIndex (map held_of inside.rows.items) inside.index.places.items
  pub rows : length inside.rows.items + inside.spare ≤ vec_capacity inside.rows
  pub places : length inside.index.places.items + inside.spare ≤ vec_capacity inside.index.places
