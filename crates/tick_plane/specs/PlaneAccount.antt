-- The plane as it is kept: how many links and rounds it has, where it stands, and the room for more flights.
use Rattle.std.specs.Prelude.{ℕ}
use Rattle.tick_plane.specs.Planes.{Plane}

-- what a contract sees of a plane
pub record PlaneAccount : Type 0 where
  pub links : ℕ
  pub rounds : ℕ
  pub at : Plane
  pub spare : ℕ
