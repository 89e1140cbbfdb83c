-- The load of a link is that of the admission test: the work that its rows up to a level bring into a window, and the blocking. The
-- least window that holds it is the least bound that a level with just these rows may have, whichever windows the link's test counts.
-- In the long run a row takes the part of the link that the work of its burst is of its interval, in parts of a million, rounded up.
use Rattle.std.specs.Prelude.{◌≡◌, ◌⊎◌, ℕ, ◌*◌, ◌<◌, ◌≤◌, Option, Some, None, List, [], map}
use Rattle.net_units.specs.LevelBounds.{bound_at}
use Rattle.net_units.specs.Numbers.{level_number}
use Rattle.net_units.specs.Quotient.{ceil_quotient}
use Rattle.traffic_contract.specs.Admission.{Admitted, Server, load}
use Rattle.traffic_contract.specs.Contract.{Traffic, IsContract, burst_of}
use Rattle.traffic_contract.specs.declared.admission.Test.{Test}
use Rattle.traffic_contract.specs.declared.admission.Test.TheVariants.{Whole, Least}
use Rattle.load_table.specs.declared.link.LinkNumbers.{LinkNumbers}
use Rattle.load_table.specs.declared.link.LinkRow.{LinkRow}
use Rattle.load_table.specs.declared.window.LevelLoad.{LevelLoad}

-- a row as the admission test has it
abbrev pub admitted_in : LinkRow → Admitted
admitted_in row = record { contract = row.contract; level = level_number row.level }

abbrev pub rows_in : List LinkRow → List Admitted
rows_in rows = map admitted_in rows

-- its contract is one
abbrev pub HasContract : Admitted → Type 0
HasContract row = IsContract row.contract

-- a link with these bounds
abbrev pub server_of : LinkNumbers → List ℕ → Server
server_of link bounds = record { bounds = bounds; rate = link.rate; blocking = link.blocking; test = link.test }

-- the load of the levels up to m in a window of w ticks, which doesn't depend on the bounds
abbrev pub load_in : LinkNumbers → List LinkRow → ℕ → ℕ → ℕ
load_in link rows m w = load (server_of link []) (rows_in rows) m w

-- ---- the least window

-- the window holds the load, and no shorter one does
pub record IsLeastWindow (link : LinkNumbers) (rows : List LinkRow) (m w : ℕ) : Type 0 where
  pub some : 1 ≤ w
  pub holds : load_in link rows m w ≤ w
  pub least : (v : ℕ) → 1 ≤ v → load_in link rows m v ≤ v → w ≤ v

-- the least window of at most so many ticks, or that there is none
abbrev pub IsWindowWithin : LinkNumbers → List LinkRow → ℕ → ℕ → Option ℕ → Type 0
IsWindowWithin link rows m most (Some w) = (w ≤ most) × IsLeastWindow link rows m w
IsWindowWithin link rows m most None = (v : ℕ) → 1 ≤ v → v ≤ most → load_in link rows m v ≤ v → ⊥

-- the window in which the load of a level is taken: as long as its bound, or the least that holds it, if the bound does
abbrev pub counts_as : LinkNumbers → List LinkRow → ℕ → ℕ → Test → ℕ → Type 0
counts_as link rows m bound Whole w = w ≡ bound
counts_as link rows m bound Least w = (w ≤ bound) × ((v : ℕ) → 1 ≤ v → load_in link rows m v ≤ v → (w ≤ v) ⊎ (bound < v)) × ((load_in link rows m w ≤ w) ⊎ (w ≡ bound))

pub record IsLoadOf (link : LinkNumbers) (bounds : List ℕ) (rows : List LinkRow) (m : ℕ) (made : LevelLoad) : Type 0 where
  pub bound : made.bound ≡ bound_at bounds m
  pub window : counts_as link rows m (bound_at bounds m) link.test made.window
  pub work : made.work ≡ load_in link rows m made.window

-- ---- the long run

abbrev pub millionths : ℕ
millionths = 1000000

abbrev pub part_of : ℕ → Traffic → ℕ
part_of rate contract = ceil_quotient (millionths * (burst_of contract * ceil_quotient contract.smax rate)) contract.interval

abbrev pub part_in : ℕ → LinkRow → ℕ
part_in rate row = part_of rate row.contract
