-- The best level of a contract in a group, from the running numbers of the group and its quota: the least level from which on
-- the load, with the contract's work, is within the quota.
use Rattle.std.specs.Prelude.{◌≡◌, ℕ, ◌+◌, ◌-◌, ◌<◌, ◌≤◌, suc, nat_le, Bool, true, false, Option, length, slice_index}
use Rattle.net_units.specs.LevelBounds.{bound_at}
use Rattle.traffic_contract.specs.Admission.{work_in, first_level}
use Rattle.traffic_contract.specs.Contract.{Traffic}
use Rattle.link_steps.specs.declared.quota.Quota.{Quota}
use Rattle.link_steps.specs.declared.shape.LinkShape.{LinkShape}
use Rattle.link_steps.specs.Room.{all_from}
use Rattle.link_quota.specs.declared.share.Share.{Share}

-- the load at level m, with the contract's work
abbrev pub load_of : LinkShape → Share → Traffic → ℕ → ℕ
load_of shape share contract m = slice_index share.loads (m - 1) + work_in shape.rate contract (bound_at shape.bounds m)

-- it is within the quota
abbrev pub is_within : LinkShape → Share → Quota → Traffic → ℕ → Bool
is_within shape share quota contract m = nat_le (load_of shape share contract m) (slice_index quota.levels (m - 1))

abbrev pub best_of : LinkShape → Share → Quota → Traffic → Option ℕ
best_of shape share quota contract =
    first_level (λ m. all_from (is_within shape share quota contract) m (suc (length shape.bounds) - m)) 1 (length shape.bounds)

-- of the levels 1 to n, `over` is the last over the quota, or 0 where none is
pub record IsLastOver (shape : LinkShape) (share : Share) (quota : Quota) (contract : Traffic) (n over : ℕ) : Type 0 where
  pub upto : over ≤ n
  pub is_over : 1 ≤ over → is_within shape share quota contract over ≡ false
  pub within : (m : ℕ) → over < m → m ≤ n → is_within shape share quota contract m ≡ true
