-- When a pass may step a link: it has its seat, of these stamps, no step of it has met want of memory, and it owns its entries
-- at the link. A seat that was never used makes such a pass.
use Rattle.std.specs.Prelude.{◌≡◌, ℕ, true, false, List, []}
use Rattle.atomic_table.specs.Seated.{TableId}
use Rattle.link_steps.specs.Split.{Link}
use Rattle.step_stamp.specs.Seats.{pass_table, pass_view}
use Rattle.step_stamp.specs.declared.seats.PassSeat.{PassSeat}
use Rattle.link_ledger.specs.Tokens.{Token, OwnsAt}

pub record MayTick (table : TableId) (links : List Link) (l : ℕ) (pass : Token) : Type 0 where
  pub has_seat : pass.has_seat ≡ true
  pub table_is : pass.table ≡ table
  pub unspent : pass.spent ≡ false
  pub owns : OwnsAt links l pass

-- a seat that has drawn nothing
pub record IsUnused (table : TableId) (seat : PassSeat) : Type 0 where
  pub table_is : pass_table seat ≡ table
  pub drawn : (pass_view seat).drawn ≡ []
