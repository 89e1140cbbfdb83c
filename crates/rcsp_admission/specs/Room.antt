-- A row at level m counts at every level from m on. So rows that pass still pass with a new one at every level above the
-- last that has no room for it, and at no other.
use Rattle.std.specs.Prelude.{ℕ, ◌<◌, ◌≤◌, List}
use Rattle.traffic_contract.specs.Contract.{Traffic}
use Rattle.traffic_contract.specs.Admission.{Server, Admitted, load, with_row, HasRoom}

-- the load of the levels up to m in a window of w ticks, with a row of the contract at m
abbrev pub load_with : Server → List Admitted → Traffic → ℕ → ℕ → ℕ
load_with server rows contract m w = load server (with_row rows contract m) m w

-- some window of a tick or more, up to a bound, fits that load
abbrev pub FitsSome : Server → List Admitted → Traffic → ℕ → ℕ → Type 0
FitsSome server rows contract m bound = (w : ℕ) × (1 ≤ w) × (w ≤ bound) × (load_with server rows contract m w ≤ w)

-- no window before this one fits that load
abbrev pub NoneBefore : Server → List Admitted → Traffic → ℕ → ℕ → Type 0
NoneBefore server rows contract m from = (w : ℕ) → load_with server rows contract m w ≤ w → from ≤ w

-- of the levels 1 to n, `full` is the last that has no room, or 0 where all have
pub record IsLastFull (server : Server) (rows : List Admitted) (contract : Traffic) (n full : ℕ) : Type 0 where
  pub upto : full ≤ n
  pub no_room : 1 ≤ full → ¬ HasRoom server rows contract full
  pub room : (m : ℕ) → full < m → m ≤ n → HasRoom server rows contract m
