-- What a table keeps of its rows beside the rows themselves goes with them: the admission sums are theirs, each row is at levels of
-- the link, and the numbers of what they keep together are theirs.
use Rattle.std.specs.Prelude.{◌≡◌, ℕ, List, length, map}
use Rattle.rcsp_admission.specs.Sums.{Sums}
use Rattle.link_server.specs.Keeping.{IsKeeping}
use Rattle.link_server.specs.Rows.{reservation_in, summed, AreWithin}
use Rattle.link_server.specs.declared.table.keeping.Keeping.{Keeping}
use Rattle.link_server.specs.declared.table.served_row.ServedRow.{ServedRow}

-- these are the parts of these rows, at a link with this buffer
pub record AreParts (buffer : ℕ) (bounds : List ℕ) (rows : List ServedRow) (sums : Sums) (keeping : Keeping) : Type 0 where
  pub same : sums.rows ≡ map summed rows
  pub within : AreWithin (length bounds) rows
  pub keeps : IsKeeping buffer bounds keeping (map reservation_in rows)
