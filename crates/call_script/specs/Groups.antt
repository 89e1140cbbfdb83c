-- What a plan keeps of its groups and quotas. A caller belongs to one group or to none, which is 0. A link has a quota for each group
-- that has a share of it: units of its buffer, and at each level a part of its load. Each rule goes by the number of the cause by
-- which a line that breaks it is refused.
--   1 only a version that has groups has them, quotas, and callers of groups
--   6 no two groups have one name, and no two quotas of a link are of one group
--   7 the group of a caller and the group of a quota are there
--   8 the numbers of a quota are in their ranges
--   9 there are no more groups than are allowed
--  23 the quotas of a link leave room at each level for the blocking within its bound, and fit its buffer
use Rattle.std.specs.Prelude.{◌≡◌, ◌≤◌, ◌+◌, ℕ, Bool, true, not, nat_eq, nat_le, ◌&&◌, ◌||◌, List, [], length}
use Rattle.std.specs.List.{list_all, list_any}
use Rattle.net_units.specs.LevelBounds.{bound_at}
use Rattle.net_units.specs.Limits.{most_bound, most_buffer, is_within}
use Rattle.traffic_contract.specs.Admission.{total}
use Rattle.link_steps.specs.Room.{all_from}
use Rattle.link_steps.specs.Shape.{blocking_of}
use Rattle.link_steps.specs.Split.{level_part, buffer_part}
use Rattle.link_steps.specs.declared.quota.Quota.{Quota}
use Rattle.link_steps.specs.declared.shape.LinkShape.{LinkShape}
use Rattle.call_script.specs.Parts.{PlanParts}
use Rattle.call_script.specs.Versions.{has_groups}
use Rattle.call_script.specs.Rules.{each_after, are_distinct}
use Rattle.call_script.specs.declared.entries.LinkEntry.{LinkEntry}
use Rattle.call_script.specs.declared.entries.CallerEntry.{CallerEntry}
use Rattle.call_script.specs.declared.version.Version.{Version}

-- the most groups of a plan
abbrev pub most_groups : ℕ
most_groups = 4

-- ---- 1: the version

abbrev pub are_of_version : Version → List (List ℕ) → Bool
are_of_version version groups = nat_eq (length groups) 0 || has_groups version

abbrev pub quotas_have_version : Version → LinkEntry → Bool
quotas_have_version version entry = nat_eq (length entry.quotas) 0 || has_groups version

abbrev pub group_has_version : Version → ℕ → Bool
group_has_version version group = nat_eq group 0 || has_groups version

unfoldable pub groups_have_version : PlanParts → Bool
groups_have_version parts = are_of_version parts.version parts.groups && list_all (quotas_have_version parts.version) parts.links && list_all (λ (caller : CallerEntry). group_has_version parts.version caller.group) parts.callers

-- ---- 6: names, and quotas of one group

-- a quota of these is of this group
abbrev pub has_group : ℕ → List Quota → Bool
has_group group quotas = list_any (λ (quota : Quota). nat_eq quota.group group) quotas

-- no quota above is of its group
abbrev pub is_of_new_group : List Quota → Quota → Bool
is_of_new_group above quota = not (has_group quota.group above)

abbrev pub have_own_groups : List Quota → Bool
have_own_groups quotas = each_after is_of_new_group [] quotas

unfoldable pub groups_have_names : PlanParts → Bool
groups_have_names parts = are_distinct parts.groups && list_all (λ (entry : LinkEntry). have_own_groups entry.quotas) parts.links

-- ---- 7: groups that are there

abbrev pub quota_is_there : List (List ℕ) → Quota → Bool
quota_is_there groups quota = is_within 1 (length groups) quota.group

abbrev pub group_is_there : List (List ℕ) → ℕ → Bool
group_is_there groups group = nat_le group (length groups)

unfoldable pub groups_are_there : PlanParts → Bool
groups_are_there parts = list_all (λ (entry : LinkEntry). list_all (quota_is_there parts.groups) entry.quotas) parts.links && list_all (λ (caller : CallerEntry). group_is_there parts.groups caller.group) parts.callers

-- ---- 8: ranges

abbrev pub quota_in_range : Quota → Bool
quota_in_range quota = nat_le quota.buffer most_buffer && list_all (λ load. nat_le load most_bound) quota.levels

unfoldable pub quotas_are_in_range : PlanParts → Bool
quotas_are_in_range parts = list_all (λ (entry : LinkEntry). list_all quota_in_range entry.quotas) parts.links

-- ---- 9: how many groups there are

unfoldable pub groups_are_few : PlanParts → Bool
groups_are_few parts = nat_le (length parts.groups) most_groups

-- ---- 23: the quotas of a link together

-- those of level m leave room for the blocking
abbrev pub level_fits : LinkShape → List Quota → ℕ → Bool
level_fits shape quotas m = nat_le (blocking_of shape + total (level_part m) quotas) (bound_at shape.bounds m)

abbrev pub quotas_fit : LinkShape → List Quota → Bool
quotas_fit shape quotas = all_from (level_fits shape quotas) 1 (length shape.bounds) && nat_le (total buffer_part quotas) shape.buffer

unfoldable pub quotas_are_fit : PlanParts → Bool
quotas_are_fit parts = list_all (λ (entry : LinkEntry). quotas_fit entry.shape entry.quotas) parts.links

-- ---- all of them, of groups, links and callers

pub record KeepGroups (version : Version) (groups : List (List ℕ)) (links : List LinkEntry) (callers : List CallerEntry) : Type 0 where
  pub version_groups : are_of_version version groups ≡ true
  pub version_links : list_all (quotas_have_version version) links ≡ true
  pub version_callers : list_all (λ (caller : CallerEntry). group_has_version version caller.group) callers ≡ true
  pub named : are_distinct groups ≡ true
  pub own : list_all (λ (entry : LinkEntry). have_own_groups entry.quotas) links ≡ true
  pub quotas_there : list_all (λ (entry : LinkEntry). list_all (quota_is_there groups) entry.quotas) links ≡ true
  pub callers_there : list_all (λ (caller : CallerEntry). group_is_there groups caller.group) callers ≡ true
  pub range : list_all (λ (entry : LinkEntry). list_all quota_in_range entry.quotas) links ≡ true
  pub few : length groups ≤ most_groups
  pub fit : list_all (λ (entry : LinkEntry). quotas_fit entry.shape entry.quotas) links ≡ true
