-- Whatever comes and goes, the rows that bring packets into one window stand together in one list that passes. Take the
-- packets of the levels up to m that are eligible in a window as long as the bound of m. Then there is a point of the
-- history at which the rows of all of them were held at once: the last at which the clock hadn't passed the window, or the
-- end. For a row with a packet in the window is reserved before the window ends, and its hold keeps it until then. So the
-- rows held at that point pass the admission test with all of them.
use Rattle.std.specs.Prelude.{◌≡◌, ℕ, true, List, ◌++◌}
use Rattle.net_units.specs.LevelBounds.{bound_at}
use Rattle.link_steps.specs.declared.replies.Entry.{Entry}
use Rattle.link_steps.specs.declared.shape.LinkShape.{LinkShape}
use Rattle.link_steps.specs.Belonging.{IsRowOf, HasLevelOf}
use Rattle.link_steps.specs.BusyPeriod.{is_eligible_in}
use Rattle.link_steps.specs.HopGuarantee.{HeldRowsPass}
use Rattle.link_steps.specs.Lists.{Each, Any}
use Rattle.link_steps.specs.Rows.{Row}
use Rattle.link_steps.specs.Scan.{scan_of}
use Rattle.link_steps.specs.Service.{Arrival}

-- the row brings the packet: it is the packet's row, has its level and its eligible tick
pub record BringsPacket (p : Arrival) (row : Row) : Type 0 where
  pub own : IsRowOf p row
  pub level : HasLevelOf row p
  pub tick : Any (λ e. e ≡ p.eligible) row.ticks

-- one of these rows brings the packet, if it is in the window
pub record IsBrought (m t w : ℕ) (rows : List Row) (p : Arrival) : Type 0 where
  pub one : is_eligible_in m t w p ≡ true → Any (BringsPacket p) rows

-- the rows held after `past`, from which the history goes on, pass, and bring all packets of the window
pub record StandTogether (shape : LinkShape) (h : List Entry) (m t : ℕ) : Type 0 where
  pub past : List Entry
  pub later : List Entry
  pub whole : h ≡ later ++ past
  pub passes : HeldRowsPass shape past
  pub brought : Each (IsBrought m t (bound_at shape.bounds m) (scan_of shape past).rows) (scan_of shape h).packets
