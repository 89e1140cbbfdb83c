-- A split link keeps running numbers of each group that has a quota: at each level the load of the group's rows at the levels
-- up to it, and the units of the buffer that they keep. A row is seen as a caller sees it, and changes the loads from its own
-- level on. So no row is looked at to answer a reserve.
use Rattle.std.specs.Prelude.{◌≡◌, ℕ, ◌+◌, ◌<◌, Some, List, length, slice_index, slice_get}
use native.Mathlib.Nat.{ℕ_set}
use Rattle.net_units.specs.Numbers.{level_number}
use Rattle.rcsp_admission.specs.Loads.{level_work, row_at, AreRaised}
use Rattle.traffic_contract.specs.Admission.{Admitted, total}
use Rattle.link_steps.specs.declared.quota.Quota.{Quota}
use Rattle.link_steps.specs.Reservation.{Reservation}
use Rattle.link_steps.specs.Room.{group_work, group_units}
use Rattle.link_steps.specs.Split.{Link}
use Rattle.link_server.specs.declared.held_row.HeldRow.{HeldRow}
use Rattle.link_quota.specs.declared.share.Share.{Share}

-- a row as the admission test sees it, and what it adds to the load of level m
abbrev pub admitted_row : HeldRow → Admitted
admitted_row row = row_at row.contract (level_number row.level)

abbrev pub row_work : ℕ → List ℕ → ℕ → HeldRow → ℕ
row_work rate bounds m row = level_work rate bounds m (admitted_row row)

-- a share has risen by a row
pub record IsRaised (rate : ℕ) (bounds : List ℕ) (row : HeldRow) (before after : Share) : Type 0 where
  pub loads : AreRaised rate bounds (admitted_row row) before.loads after.loads
  pub units : after.units ≡ before.units + row.kept

-- the share of a group in these reservations
pub record IsShare (link : Link) (group : ℕ) (held : List Reservation) (share : Share) : Type 0 where
  pub loads : (i : ℕ) → i < length link.shape.bounds → slice_index share.loads i ≡ total (group_work link group (i + 1)) held
  pub units : share.units ≡ total (group_units link group) held

-- those of all groups that have quotas, in the order of these
pub record AreShares (link : Link) (held : List Reservation) (shares : List Share) : Type 0 where
  pub long : length shares ≡ length link.split.quotas
  pub each : (k : ℕ) (quota : Quota) (share : Share)
      → slice_get link.split.quotas k ≡ Some quota → slice_get shares k ≡ Some share → IsShare link quota.group held share

-- there is at most one proof of it
IsShare-prop : (link : Link) (group : ℕ) (held : List Reservation) (share : Share) → IsProp (IsShare link group held share)
IsShare-prop link group held share = Prim.hlevel ℕ_set

pub AreShares-prop : (link : Link) (held : List Reservation) (shares : List Share) → IsProp (AreShares link held shares)
AreShares-prop link held shares = Prim.hlevel (ℕ_set, IsShare-prop)
