-- A link admits channels as rows, each with its contract and its level. In a window of w ticks a row brings at
-- most as many packets as its contract lets into w ticks, and each occupies the link for the ticks that its
-- size takes, rounded up. The load of the levels up to m in the window is that work of all rows at levels 1 to
-- m, and the blocking: the ticks for which a packet of a lower level that has just started holds the link. A
-- level passes when its load in some window is at most that window. The link's test says which windows count: the
-- one as long as the level's bound, or each of a tick or more up to it. The rows pass when every level does. The
-- best level of a new contract is the least at which it passes with the rows. (A link is a rate-controlled
-- static-priority server, Zhang & Ferrari 1993; the exact sum is this project's.)
use Rattle.std.specs.Prelude.{ℕ, zero, suc, ◌+◌, ◌*◌, ◌≤◌, ◌≡◌, Bool, IsTrue, true, false, nat_le, ◌&&◌, ◌||◌, if◌then◌else◌, Option, Some, None, List, [], ◌∷◌, ◌++◌, length}
use Rattle.net_units.specs.Quotient.{ceil_quotient}
use Rattle.net_units.specs.LevelBounds.{bound_at}
use Rattle.traffic_contract.specs.Contract.{Traffic, most_in}
use Rattle.traffic_contract.specs.declared.admission.Test.{Test}
use Rattle.traffic_contract.specs.declared.admission.Test.TheVariants.{Whole, Least}

-- a link, as far as admission goes: the bounds of its levels in ticks, its rate in units a tick, the ticks that
-- its largest packet takes, and its test
pub record Server : Type 0 where
  pub bounds : List ℕ
  pub rate : ℕ
  pub blocking : ℕ
  pub test : Test

-- an admitted channel: its contract and its level, from 1
pub record Admitted : Type 0 where
  pub contract : Traffic
  pub level : ℕ

-- the sum of f over a list
abbrev pub total : {X : Type 0} → (X → ℕ) → List X → ℕ
total f [] = 0
total f (x ∷ xs) = f x + total f xs

-- the most work in ticks that a contract brings in a window of w ticks, at a rate in units a tick
unfoldable pub work_in : ℕ → Traffic → ℕ → ℕ
work_in rate contract w = most_in contract w * ceil_quotient contract.smax rate

-- what a row adds to the load of the levels up to m: its work where its level is one of them
unfoldable pub work_up_to : ℕ → ℕ → ℕ → Admitted → ℕ
work_up_to rate m w row = if nat_le row.level m then work_in rate row.contract w else 0

-- the load of the levels up to m in a window of w ticks
unfoldable pub load : Server → List Admitted → ℕ → ℕ → ℕ
load server rows m w = server.blocking + total (work_up_to server.rate m w) rows

-- the load of the levels up to m in a window as long as the bound of m
abbrev pub level_sum : Server → List Admitted → ℕ → ℕ
level_sum server rows m = load server rows m (bound_at server.bounds m)

-- a window of w ticks counts for a level of bound d
abbrev pub WindowCounts : Test → ℕ → ℕ → Type 0
WindowCounts Whole d w = w ≡ d
WindowCounts Least d w = (1 ≤ w) × (w ≤ d)

-- whether the load of the levels up to m fits a window of w ticks
abbrev pub fits_in : Server → List Admitted → ℕ → ℕ → Bool
fits_in server rows m w = nat_le (load server rows m w) w

-- whether a number from 1 to n passes a test
unfoldable pub some_upto : (ℕ → Bool) → ℕ → Bool
some_upto test zero = false
some_upto test (suc n) = test (suc n) || some_upto test n

-- whether a window that counts for a level of bound d passes a test
abbrev pub some_counts : Test → (ℕ → Bool) → ℕ → Bool
some_counts Whole test d = test d
some_counts Least test d = some_upto test d

-- whether level m passes with the rows
abbrev pub passes_at : Server → List Admitted → ℕ → Bool
passes_at server rows m = some_counts server.test (fits_in server rows m) (bound_at server.bounds m)

-- level m passes with the rows: some window that counts fits its load
abbrev pub PassesAt : Server → List Admitted → ℕ → Type 0
PassesAt server rows m = IsTrue (passes_at server rows m)

-- such a window
pub record HasWindow (server : Server) (rows : List Admitted) (m : ℕ) : Type 0 where
  pub window : ℕ
  pub counts : WindowCounts server.test (bound_at server.bounds m) window
  pub fits : load server rows m window ≤ window

-- the rows pass at every level
pub record Passes (server : Server) (rows : List Admitted) : Type 0 where
  pub each : (m : ℕ) → 1 ≤ m → m ≤ length server.bounds → PassesAt server rows m

-- whether they pass at the levels 1 to m
unfoldable pub passes_up_to : Server → List Admitted → ℕ → Bool
passes_up_to server rows zero = true
passes_up_to server rows (suc m) = passes_at server rows (suc m) && passes_up_to server rows m

-- whether they pass at every level
unfoldable pub passes : Server → List Admitted → Bool
passes server rows = passes_up_to server rows (length server.bounds)

-- the rows with a new one of this contract at level m, which comes last
abbrev pub with_row : List Admitted → Traffic → ℕ → List Admitted
with_row rows contract m = rows ++ record { contract = contract; level = m } ∷ []

-- level m has room for a row of this contract: it passes with one at it
abbrev pub HasRoom : Server → List Admitted → Traffic → ℕ → Type 0
HasRoom server rows contract m = PassesAt server (with_row rows contract m) m

-- whether the rows with the new one at level m pass
unfoldable pub admits : Server → List Admitted → Traffic → ℕ → Bool
admits server rows contract m = passes server (with_row rows contract m)

-- the first of `count` levels from m on that passes the test
unfoldable pub first_level : (ℕ → Bool) → ℕ → ℕ → Option ℕ
first_level test m zero = None
first_level test m (suc count) = if test m then Some m else first_level test (m + 1) count

-- the best level of a new contract, if there is one: the least level of the link that admits it
unfoldable pub best_level : Server → List Admitted → Traffic → Option ℕ
best_level server rows contract = first_level (admits server rows contract) 1 (length server.bounds)

-- m is the best level of a new contract
pub record IsBest (server : Server) (rows : List Admitted) (contract : Traffic) (m : ℕ) : Type 0 where
  pub from : 1 ≤ m
  pub upto : m ≤ length server.bounds
  pub passes : Passes server (with_row rows contract m)
  pub least : (lower : ℕ) → 1 ≤ lower → lower ≤ length server.bounds → Passes server (with_row rows contract lower) → m ≤ lower

-- a new contract has no level
pub record IsRefused (server : Server) (rows : List Admitted) (contract : Traffic) : Type 0 where
  pub each : (m : ℕ) → 1 ≤ m → m ≤ length server.bounds → ¬ Passes server (with_row rows contract m)

-- what the last level comes to with the new row there, which a refusal carries
abbrev pub refused_sum : Server → List Admitted → Traffic → ℕ
refused_sum server rows contract = level_sum server (with_row rows contract (length server.bounds)) (length server.bounds)
