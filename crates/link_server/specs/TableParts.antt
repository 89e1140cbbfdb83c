-- A table keeps the rows in the order of their reserves, the keys under which the channels' rows stand, two calendars (of the holds
-- that end and of the packets that are planned), the admission sums, and the running numbers of what the rows keep together.
-- Here is what holds of these, and what a contract sees of them.
use Rattle.std.specs.Prelude.{◌≡◌, ◌<◌, ◌≤◌, ◌^◌, length, map}
use Rattle.std.specs.Vec.{vec_capacity}
use Rattle.buffer_budget.specs.Parts.{whole_of}
use Rattle.link_server.specs.Departed.{departed_in}
use Rattle.link_server.specs.Holds.{AreListed}
use Rattle.link_server.specs.Index.{channels_in, IsIndex}
use Rattle.link_server.specs.TableAccount.{TableAccount}
use Rattle.link_server.specs.Plans.{ArePlanned}
use Rattle.link_server.specs.RowParts.{AreParts}
use Rattle.link_server.specs.Rows.{row_in}
use Rattle.link_server.specs.declared.table.Table.TheInside.{Inside}

-- what a contract sees
abbrev pub table_seen : Inside → TableAccount
table_seen t = record { rows = map row_in t.rows.items; departed = map departed_in t.rows.items; server = t.sums.server; buffer = whole_of t.keeping.budget; looked = t.looked }

-- the sums are at the bounds, and the parts are those of the rows; each is found by its channel; the calendars tell all from the tick in which they were last
-- looked at; and each row may have its turn
pub record IsTable (t : Inside) : Type 0 where
  pub same_bounds : t.sums.server.bounds ≡ t.bounds
  pub parts : AreParts (whole_of t.keeping.budget) t.bounds t.rows.items t.sums t.keeping
  pub indexed : IsIndex t.index.keys.items t.rows.keys (channels_in t.rows.items)
  pub listed : AreListed t.bounds t.looked t.holds (map row_in t.rows.items)
  pub small : whole_of t.keeping.budget < 2 ^ 32
  pub planned : ArePlanned t.looked t.plans.calendar (map row_in t.rows.items)
  pub turns : length t.rows.items ≤ vec_capacity t.plans.turns
