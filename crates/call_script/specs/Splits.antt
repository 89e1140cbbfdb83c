-- How the links of a plan are split. A channel belongs to the group of the caller that opens its request. A link with quotas is split
-- by them between the groups; a link without isn't split.
use Rattle.std.specs.Prelude.{ℕ, Option, Some, None, List, [], ◌∷◌, map}
use Rattle.std.specs.List.{slice_get}
use Rattle.net_units.specs.Numbers.{actor_number}
use Rattle.link_steps.specs.declared.quota.Quota.{Quota}
use Rattle.link_steps.specs.Split.{Link, Split}
use Rattle.call_script.specs.Parts.{PlanParts}
use Rattle.call_script.specs.declared.entries.CallerEntry.{CallerEntry}
use Rattle.call_script.specs.declared.entries.LinkEntry.{LinkEntry}
use Rattle.call_script.specs.declared.entries.RequestEntry.{RequestEntry}

-- the group of a caller, 0 where there is none
abbrev pub group_if : Option CallerEntry → ℕ
group_if None = 0
group_if (Some caller) = caller.group

-- that of the caller of a request
abbrev pub group_behind : List CallerEntry → RequestEntry → ℕ
group_behind callers entry = group_if (slice_get callers (actor_number entry.caller))

-- the group of each channel number
abbrev pub channel_groups : List CallerEntry → List RequestEntry → List ℕ
channel_groups callers requests = map (group_behind callers) requests

abbrev pub groups_in : PlanParts → List ℕ
groups_in parts = channel_groups parts.callers parts.requests

-- the split by these quotas, where there are some
abbrev pub split_if : List ℕ → List Quota → Option Split
split_if groups [] = None
split_if groups (quota ∷ quotas) = Some (record { quotas = quota ∷ quotas; groups = groups })

-- and otherwise none
abbrev pub split_by : List ℕ → List Quota → Split
split_by groups [] = record { quotas = []; groups = [] }
split_by groups (quota ∷ quotas) = record { quotas = quota ∷ quotas; groups = groups }

-- a link as the rules see it, where the channels are of these groups
abbrev pub entry_link : List ℕ → LinkEntry → Link
entry_link groups entry = record { shape = entry.shape; split = split_by groups entry.quotas }
