-- The packets on their way between two links in a run.
use Rattle.std.specs.Prelude.{◌≡◌, ◌≤◌, None, List}
use Rattle.link_steps.specs.Lists.{Each}
use Rattle.call_script.specs.Tasks.{Network}
use Rattle.tick_plane.specs.Planes.{Plane, next_due}
use Rattle.run_record.specs.declared.done.Done.{Done}
use Rattle.run_engine.specs.channels.Hops.{ComesFrom}
use Rattle.run_engine.specs.runs.Runs.{plane_at}

-- each flight is due in the plane's round or in a later one
abbrev pub IsPunctual : Plane → Type 0
IsPunctual plane = Each (λ flight. plane.round ≤ flight.round) plane.flights

-- each flight is of a packet that left a link in time; and no flight is due while the links tick
pub record FlightsStand (network : Network) (run : List Done) : Type 0 where
  pub from : Each (ComesFrom network run) (plane_at network run).flights
  pub none : 1 ≤ (plane_at network run).ticked → next_due (plane_at network run) ≡ None
