-- A link may be split between groups of channels. Each group has a quota: so many units of the buffer, and at each level so
-- much of its load. A channel's group is given by its number; channels without a group, and groups without a quota, have
-- quotas of 0. A split fits a link where each group has at most one quota and a number from 1 to 4, the quotas of a level
-- together leave room for the blocking within its bound, and those of the buffer fit it. A link without quotas isn't split.
use Rattle.std.specs.Prelude.{◌≡◌, ◌≢◌, ℕ, ◌+◌, ◌-◌, ◌≤◌, Bool, true, false, nat_eq, if◌then◌else◌, List, [], ◌∷◌, length, slice_index}
use Rattle.std.specs.List.{All, AllPairs}
use Rattle.net_units.specs.Numbers.{channel_number}
use Rattle.net_units.specs.LevelBounds.{bound_at}
use Rattle.net_units.specs.declared.numbers.ChanNo.{ChanNo}
use Rattle.traffic_contract.specs.Admission.{total}
use Rattle.link_steps.specs.declared.quota.Quota.{Quota}
use Rattle.link_steps.specs.declared.shape.LinkShape.{LinkShape}
use Rattle.link_steps.specs.Shape.{blocking_of}

-- the quotas, and the group of each channel number, 0 for none
pub record Split : Type 0 where
  pub quotas : List Quota
  pub groups : List ℕ

-- a link as the rules see it
pub record Link : Type 0 where
  pub shape : LinkShape
  pub split : Split

-- a link that isn't split
abbrev pub whole : LinkShape → Link
whole shape = record { shape = shape; split = record { quotas = []; groups = [] } }

abbrev pub is_split : Split → Bool
is_split split = if nat_eq (length split.quotas) 0 then false else true

-- the group of a channel, and whether it is this one
abbrev pub group_of : Split → ChanNo → ℕ
group_of split chan = slice_index split.groups (channel_number chan)

abbrev pub is_in : Split → ℕ → ChanNo → Bool
is_in split group chan = nat_eq (group_of split chan) group

-- what a quota has of level m, and of the buffer
abbrev pub level_part : ℕ → Quota → ℕ
level_part m quota = slice_index quota.levels (m - 1)

abbrev pub buffer_part : Quota → ℕ
buffer_part quota = quota.buffer

-- a part of the quota of a group, 0 where it has none
abbrev pub quota_part : (Quota → ℕ) → List Quota → ℕ → ℕ
quota_part part [] group = 0
quota_part part (quota ∷ quotas) group = if nat_eq quota.group group then part quota else quota_part part quotas group

-- two quotas are of different groups
abbrev pub AreOfOtherGroups : Quota → Quota → Type 0
AreOfOtherGroups one other = one.group ≢ other.group

-- a quota is of a group: 0 is the number of none
abbrev pub IsOfGroup : Quota → Type 0
IsOfGroup quota = (1 ≤ quota.group) × (quota.group ≤ 4)

-- the split fits its link
pub record SplitFits (link : Link) : Type 0 where
  pub groups : All IsOfGroup link.split.quotas
  pub apart : AllPairs AreOfOtherGroups link.split.quotas
  pub levels : (m : ℕ) → 1 ≤ m → m ≤ length link.shape.bounds → blocking_of link.shape + total (level_part m) link.split.quotas ≤ bound_at link.shape.bounds m
  pub buffer : total buffer_part link.split.quotas ≤ link.shape.buffer

-- ---- quotas of a link

-- each group has one quota at most, and no load after the last level of the bounds
pub record AreQuotas (bounds : List ℕ) (quotas : List Quota) : Type 0 where
  pub apart : AllPairs AreOfOtherGroups quotas
  pub unused : All (λ quota. (k : ℕ) → length bounds ≤ k → slice_index quota.levels k ≡ 0) quotas
