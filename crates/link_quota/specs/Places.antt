-- Where a group's quota stands among those of a link, and what a row changes of the shares that go with them: the share of
-- its own group, and no other.
use Rattle.std.specs.Prelude.{◌≡◌, ◌≢◌, ℕ, ◌+◌, ◌-◌, ◌^◌, ◌<◌, ◌≤◌, true, false, if◌then◌else◌, Option, Some, None}
use Rattle.std.specs.Prelude.{List, length, slice_get, slice_index}
use Rattle.link_steps.specs.declared.quota.Quota.{Quota}
use Rattle.link_steps.specs.Split.{Link, is_in}
use Rattle.link_server.specs.declared.held_row.HeldRow.{HeldRow}
use Rattle.link_quota.specs.declared.share.Share.{Share}
use Rattle.traffic_contract.specs.Admission.{total}
use Rattle.link_steps.specs.Reservation.{Reservation}
use Rattle.link_steps.specs.Room.{group_work, group_units, level_quota, buffer_quota}
use Rattle.link_quota.specs.Shares.{row_work, IsRaised}

-- none of the quotas is the group's
abbrev pub HasNoQuota : List Quota → ℕ → Type 0
HasNoQuota quotas group = (k : ℕ) (quota : Quota) → slice_get quotas k ≡ Some quota → quota.group ≢ group

-- the first that is stands at this place
pub record IsQuotaPlace (quotas : List Quota) (group place : ℕ) : Type 0 where
  pub quota : Quota
  pub here : slice_get quotas place ≡ Some quota
  pub is : quota.group ≡ group
  pub before : (k : ℕ) (other : Quota) → k < place → slice_get quotas k ≡ Some other → other.group ≢ group

-- ---- each quota with its share

abbrev pub EachShare : Link → List Share → (Quota → Share → Type 0) → Type 0
EachShare link shares P = (k : ℕ) (quota : Quota) (share : Share)
    → slice_get link.split.quotas k ≡ Some quota → slice_get shares k ≡ Some share → P quota share

-- and with its share after a change
abbrev pub EachChange : Link → List Share → List Share → (Quota → Share → Share → Type 0) → Type 0
EachChange link before after P = (k : ℕ) (quota : Quota) (share share' : Share)
    → slice_get link.split.quotas k ≡ Some quota → slice_get before k ≡ Some share → slice_get after k ≡ Some share' → P quota share share'

-- each share has room for one row more
abbrev pub HasRoomFor : List ℕ → HeldRow → Share → Type 0
HasRoomFor bounds row share = ((i : ℕ) → i < length bounds → slice_index share.loads i < 2 ^ 62) × (share.units + row.kept < 2 ^ 62)

abbrev pub HaveRoomFor : Link → HeldRow → List Share → Type 0
HaveRoomFor link row shares = EachShare link shares (λ quota share. HasRoomFor link.shape.bounds row share)

-- the numbers of a share are small
pub record IsSmall (bounds : List ℕ) (share : Share) : Type 0 where
  pub loads : (i : ℕ) → i < length bounds → slice_index share.loads i < 2 ^ 61
  pub units : share.units < 2 ^ 61

abbrev pub AreSmall : Link → List Share → Type 0
AreSmall link shares = EachShare link shares (λ quota share. IsSmall link.shape.bounds share)

-- a share has a row's part in it
pub record HasPart (rate : ℕ) (bounds : List ℕ) (row : HeldRow) (share : Share) : Type 0 where
  pub loads : (i : ℕ) → i < length bounds → row_work rate bounds (i + 1) row ≤ slice_index share.loads i
  pub units : row.kept ≤ share.units

abbrev pub HavePart : Link → HeldRow → List Share → Type 0
HavePart link row shares =
    EachShare link shares (λ quota share. is_in link.split quota.group row.chan ≡ true → HasPart link.shape.rate link.shape.bounds row share)

-- the share of a group rises by a row of it, and by no other
pub record IsRaisedFor (link : Link) (group : ℕ) (row : HeldRow) (before after : Share) : Type 0 where
  pub own : is_in link.split group row.chan ≡ true → IsRaised link.shape.rate link.shape.bounds row before after
  pub others : is_in link.split group row.chan ≡ false → after ≡ before

-- and so for all shares
pub record AreRaisedBy (link : Link) (row : HeldRow) (before after : List Share) : Type 0 where
  pub long : length after ≡ length before
  pub each : EachChange link before after (λ quota share share'. IsRaisedFor link quota.group row share share')

-- what a row, as a caller sees it, has of a group's load of the levels up to m, and of its units
abbrev pub work_for : Link → ℕ → ℕ → HeldRow → ℕ
work_for link group m row = if is_in link.split group row.chan then row_work link.shape.rate link.shape.bounds m row else 0

abbrev pub units_for_row : Link → ℕ → HeldRow → ℕ
units_for_row link group row = if is_in link.split group row.chan then row.kept else 0

-- a number of a row, if there is one
abbrev pub value_of : {X : Type 0} → (X → ℕ) → Option X → ℕ
value_of f None = 0
value_of f (Some x) = f x

-- the share of a group changes as the row of a channel does, where there is one before or after
pub record IsChangedFor (link : Link) (group : ℕ) (row row' : Option HeldRow) (before after : Share) : Type 0 where
  pub loads : (i : ℕ) → i < length link.shape.bounds
      → slice_index after.loads i + value_of (work_for link group (i + 1)) row ≡ slice_index before.loads i + value_of (work_for link group (i + 1)) row'
  pub units : after.units + value_of (units_for_row link group) row ≡ before.units + value_of (units_for_row link group) row'

pub record AreChangedBy (link : Link) (row row' : Option HeldRow) (before after : List Share) : Type 0 where
  pub long : length after ≡ length before
  pub each : EachChange link before after (λ quota share share'. IsChangedFor link quota.group row row' share share')

-- the reservations of each group are within its quota, which is nothing for one that has none
pub record AreFew (link : Link) (held : List Reservation) : Type 0 where
  pub levels : (group m : ℕ) → 1 ≤ m → m ≤ length link.shape.bounds → total (group_work link group m) held ≤ level_quota link group m
  pub buffer : (group : ℕ) → total (group_units link group) held ≤ buffer_quota link group

-- the quota of a group on a link, which has nothing where the group has none
pub record IsQuotaOf (link : Link) (group : ℕ) (quota : Quota) : Type 0 where
  pub levels : (m : ℕ) → 1 ≤ m → m ≤ length link.shape.bounds → slice_index quota.levels (m - 1) ≡ level_quota link group m
  pub buffer : quota.buffer ≡ buffer_quota link group
