-- Beside its rows a link keeps a running load for each of its levels: the work that the rows at this level and at those
-- before it may bring into a window as long as the level's bound. A row changes the loads from its own level on, so a
-- load is known without looking at a row.
use Rattle.std.specs.Prelude.{◌≡◌, ℕ, ◌+◌, ◌<◌, List, length, slice_index}
use Rattle.net_units.specs.LevelBounds.{bound_at}
use Rattle.traffic_contract.specs.Admission.{Admitted, total, work_up_to}
use Rattle.traffic_contract.specs.Contract.{Traffic}
use Rattle.rcsp_admission.specs.Sums.{AreAdmitted}
use Rattle.rcsp_admission.specs.Kept.{kept_rows}
use Rattle.rcsp_admission.specs.Fields.{sums_of, KeepsPlaces}
use Rattle.rcsp_admission.specs.declared.level_sums.LevelSums.TheInside.{Inside}

-- a row of a contract at a level
abbrev pub row_at : Traffic → ℕ → Admitted
row_at contract level = record { contract = contract; level = level }

-- what a row adds to the load of level m
abbrev pub level_work : ℕ → List ℕ → ℕ → Admitted → ℕ
level_work rate bounds m row = work_up_to rate m (bound_at bounds m) row

-- these are the loads of the rows, that of level 1 first
abbrev pub AreLoads : ℕ → List ℕ → List Admitted → List ℕ → Type 0
AreLoads rate bounds rows loads = (i : ℕ) → i < length bounds → slice_index loads i ≡ total (level_work rate bounds (i + 1)) rows

-- each load has risen by what the row adds
abbrev pub AreRaised : ℕ → List ℕ → Admitted → List ℕ → List ℕ → Type 0
AreRaised rate bounds row before after = (i : ℕ) → i < length bounds → slice_index after i ≡ slice_index before i + level_work rate bounds (i + 1) row

-- what is kept always: the rows are admitted, and the loads and the places are theirs
pub record KeepsLoads (inside : Inside) : Type 0 where
  pub admitted : AreAdmitted (sums_of inside)
  pub loads : AreLoads inside.rate inside.bounds (kept_rows inside.rows.items) inside.loads
  pub places : KeepsPlaces inside
