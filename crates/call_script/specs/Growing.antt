-- How the parts of a plan grow, a line at a time. Links without quotas, groups, and quotas of the links that are there are added
-- while there is no caller; then callers, each first without operations; after the operations of the last caller an open, with its
-- request, or another operation, which is judged by its attributes; and at last the numbers of rounds. Each addition has what a
-- reader judges of its line. Parts that grew this way keep all rules but two: that there is a link, and that the ticks of all links
-- are within the limit. With these two they are the parts of a plan.
use Rattle.std.specs.Prelude.{◌≡◌, ℕ, zero, suc, Some, None, ◌+◌, ◌*◌, ◌<◌, ◌≤◌, true, false, List, [], ◌∷◌, ◌++◌, length}
use Rattle.std.specs.List.{list_any}
use Rattle.net_units.specs.Numbers.{link_number, actor_number, channel_number}
use Rattle.net_units.specs.declared.numbers.ChanNo.{ChanNo}
use Rattle.net_units.specs.declared.numbers.LinkNo.{LinkNo}
use Rattle.std.specs.List.{slice_get}
use Rattle.net_units.specs.Limits.{most_links, most_callers, most_requests, most_packets, most_rounds}
use Rattle.link_steps.specs.Lists.{Each}
use Rattle.link_steps.specs.declared.quota.Quota.{Quota}
use Rattle.call_script.specs.Groups.{most_groups, group_has_version, group_is_there, is_of_new_group, quota_is_there, quota_in_range, quotas_fit, KeepGroups}
use Rattle.call_script.specs.Operations.{attributes_of}
use Rattle.call_script.specs.Parts.{PlanParts, parts_of, FollowsLink, LeavesUnused, ArePlanned}
use Rattle.call_script.specs.Plans.{HasTerms}
use Rattle.call_script.specs.Rules.{have_version, have_names, are_there, are_in_range, are_few, are_joined, are_unclosed, pours_are_taken, moves_are_fit, link_names, caller_names, request_names, is_new, link_has_version, request_has_version, op_has_version, has_link, route_is_there, pour_is_there, is_in, is_after, is_apart, op_in_range, pour_is_taken, request_in_range, packets_in_range, is_joined, load_of, load_in, loads_in, takes_best_effort, move_is_fit}
use Rattle.call_script.specs.Versions.{has_best_effort, has_groups, has_moves}
use Rattle.call_script.specs.declared.entries.CallerEntry.{CallerEntry}
use Rattle.call_script.specs.declared.entries.LinkEntry.{LinkEntry}
use Rattle.call_script.specs.declared.entries.RequestEntry.{RequestEntry}
use Rattle.call_script.specs.declared.operations.Op.{Op}
use Rattle.call_script.specs.declared.operations.Op.TheVariants.{Open, Send, Move}
use Rattle.call_script.specs.declared.roles.Role.TheVariants as role
use Rattle.call_script.specs.declared.roles.Role.{Role}
use Rattle.call_script.specs.declared.version.Version.{Version}

-- ---- the ways to grow

-- no part yet
abbrev pub nothing_of : Version → PlanParts
nothing_of version = parts_of version [] [] [] 0 0

-- a link with one more quota
abbrev pub with_its_quota : Quota → LinkEntry → LinkEntry
with_its_quota quota entry = record { name = entry.name; from = entry.from; to = entry.to; shape = entry.shape; quotas = entry.quotas ++ quota ∷ [] }

-- the link at this place with one more quota
abbrev pub add_quota : ℕ → Quota → List LinkEntry → List LinkEntry
add_quota place quota [] = []
add_quota zero quota (entry ∷ links) = with_its_quota quota entry ∷ links
add_quota (suc place) quota (entry ∷ links) = entry ∷ add_quota place quota links

-- a caller of this name and group that does nothing yet
abbrev pub new_caller : List ℕ → ℕ → CallerEntry
new_caller name group = record { name = name; group = group; ops = [] }

-- a caller with one more operation
abbrev pub with_its_op : Op → CallerEntry → CallerEntry
with_its_op op caller = record { name = caller.name; group = caller.group; ops = caller.ops ++ op ∷ [] }

-- the last caller with one more operation
abbrev pub add_op : Op → List CallerEntry → List CallerEntry
add_op op [] = []
add_op op (caller ∷ []) = with_its_op op caller ∷ []
add_op op (caller ∷ next ∷ callers) = caller ∷ add_op op (next ∷ callers)

-- the operations of the last caller
abbrev pub last_ops : List CallerEntry → List Op
last_ops [] = []
last_ops (caller ∷ []) = caller.ops
last_ops (caller ∷ next ∷ callers) = last_ops (next ∷ callers)

abbrev pub with_link : LinkEntry → PlanParts → PlanParts
with_link entry parts = record parts { links = parts.links ++ entry ∷ [] }

abbrev pub with_group : List ℕ → PlanParts → PlanParts
with_group name parts = record parts { groups = parts.groups ++ name ∷ [] }

abbrev pub with_quota : ℕ → Quota → PlanParts → PlanParts
with_quota place quota parts = record parts { links = add_quota place quota parts.links }

abbrev pub with_caller : List ℕ → ℕ → PlanParts → PlanParts
with_caller name group parts = record parts { callers = parts.callers ++ new_caller name group ∷ [] }

-- a request, and its open after the operations of the last caller
abbrev pub with_open : RequestEntry → PlanParts → PlanParts
with_open entry parts = record parts { requests = parts.requests ++ entry ∷ []; callers = add_op (Open entry.request.chan) parts.callers }

-- another operation
abbrev pub with_op : Op → PlanParts → PlanParts
with_op op parts = record parts { callers = add_op op parts.callers }

abbrev pub with_rounds : ℕ → PlanParts → PlanParts
with_rounds rounds parts = record parts { rounds = rounds }

abbrev pub with_tail : ℕ → PlanParts → PlanParts
with_tail tail parts = record parts { tail = tail }

-- ---- the conditions on each addition

pub record MayAddLink (parts : PlanParts) (entry : LinkEntry) : Type 0 where
  pub first : parts.callers ≡ []
  pub version : link_has_version parts.version entry ≡ true
  pub name : is_new (link_names parts.links) entry.name ≡ true
  pub few : length parts.links < most_links
  pub number : link_number entry.shape.link ≡ length parts.links
  pub unsplit : entry.quotas ≡ []

pub record MayAddGroup (parts : PlanParts) (name : List ℕ) : Type 0 where
  pub first : parts.callers ≡ []
  pub version : has_groups parts.version ≡ true
  pub new : is_new parts.groups name ≡ true
  pub few : length parts.groups < most_groups

-- a quota for a link that has none of its group, where it fits beside the others
pub record MayAddQuota (parts : PlanParts) (place : ℕ) (quota : Quota) : Type 0 where
  pub first : parts.callers ≡ []
  pub version : has_groups parts.version ≡ true
  pub link : LinkEntry
  pub linked : slice_get parts.links place ≡ Some link
  pub there : quota_is_there parts.groups quota ≡ true
  pub new : is_of_new_group link.quotas quota ≡ true
  pub range : quota_in_range quota ≡ true
  pub fit : quotas_fit link.shape (link.quotas ++ quota ∷ []) ≡ true
  pub unused : LeavesUnused link.shape.bounds quota

pub record MayAddCaller (parts : PlanParts) (name : List ℕ) (group : ℕ) : Type 0 where
  pub new : is_new (caller_names parts.callers) name ≡ true
  pub few : length parts.callers < most_callers
  pub version : group_has_version parts.version group ≡ true
  pub there : group_is_there parts.groups group ≡ true

-- the request has the next number, and is that of the last caller
pub record MayOpen (parts : PlanParts) (entry : RequestEntry) : Type 0 where
  pub version : request_has_version parts.version entry ≡ true
  pub name : is_new (request_names parts.requests) entry.name ≡ true
  pub few : length parts.requests < most_requests
  pub number : channel_number entry.request.chan ≡ length parts.requests
  pub caller : suc (actor_number entry.caller) ≡ length parts.callers
  pub there : route_is_there parts.links entry ≡ true
  pub joined : is_joined parts.links entry.request.route ≡ true
  pub range : request_in_range entry ≡ true
  pub hops : Each (FollowsLink parts.links) entry.request.route
  pub terms : HasTerms entry

-- an operation of the last caller is this to the channel, or none is
abbrev pub HasDone : Role → PlanParts → ChanNo → Type 0
HasDone role parts chan = list_any (is_in role (channel_number chan)) (last_ops parts.callers) ≡ true

abbrev pub HasNotDone : Role → PlanParts → ChanNo → Type 0
HasNotDone role parts chan = list_any (is_in role (channel_number chan)) (last_ops parts.callers) ≡ false

-- the last caller has opened the channel, and not closed it
pub record IsOpenedThere (parts : PlanParts) (chan : ChanNo) : Type 0 where
  pub opened : HasDone role.Opens parts chan
  pub unclosed : HasNotDone role.Closes parts chan

-- the load with this operation is within the limit
abbrev pub IsWithinLoad : PlanParts → Op → Type 0
IsWithinLoad parts op = load_in parts.requests parts.callers + load_of parts.requests (loads_in parts.callers) op ≤ most_packets

-- what an operation that opens nothing has to pass
pub record MayFollow (parts : PlanParts) (op : Op) : Type 0 where
  pub opens_none : (attributes_of op).opens ≡ None
  pub version : op_has_version parts.version op ≡ true
  pub there : pour_is_there parts.links op ≡ true
  pub opened : is_after role.Uses role.Opens (last_ops parts.callers) op ≡ true
  pub onto_opened : is_after role.Joins role.Opens (last_ops parts.callers) op ≡ true
  pub range : op_in_range op ≡ true
  pub unclosed : is_apart role.Uses role.Closes (last_ops parts.callers) op ≡ true
  pub unleft : is_apart role.Keeps role.Leaves (last_ops parts.callers) op ≡ true
  pub load : IsWithinLoad parts op
  pub taken : pour_is_taken parts.links op ≡ true
  pub fit : move_is_fit parts.links parts.requests op ≡ true
  pub unused : is_apart role.Joins role.Uses (last_ops parts.callers) op ≡ true
  pub unjoined : is_apart role.Joins role.Joins (last_ops parts.callers) op ≡ true

-- so it is of a send, on a channel or of best-effort packets, and of a move where this is told
pub record MaySend (parts : PlanParts) (chan : ChanNo) (count gap size : ℕ) : Type 0 where
  pub channel : IsOpenedThere parts chan
  pub unleft : HasNotDone role.Leaves parts chan
  pub range : packets_in_range count gap size ≡ true
  pub load : IsWithinLoad parts (Send chan count gap size)

pub record MayPour (parts : PlanParts) (link : LinkNo) (count gap size : ℕ) : Type 0 where
  pub some : 1 ≤ length parts.callers
  pub version : has_best_effort parts.version ≡ true
  pub there : has_link parts.links link ≡ true
  pub range : packets_in_range count gap size ≡ true
  pub load : load_in parts.requests parts.callers + count ≤ most_packets
  pub taken : takes_best_effort (slice_get parts.links (link_number link)) ≡ true

-- the last caller has opened both requests; it neither closed nor left the old one, and did nothing with the new one since
pub record MayMove (parts : PlanParts) (old new : ChanNo) : Type 0 where
  pub version : has_moves parts.version ≡ true
  pub channel : IsOpenedThere parts old
  pub unleft : HasNotDone role.Leaves parts old
  pub joined : HasDone role.Opens parts new
  pub fit : move_is_fit parts.links parts.requests (Move old new) ≡ true
  pub unused : HasNotDone role.Uses parts new
  pub unjoined : HasNotDone role.Joins parts new
  pub load : IsWithinLoad parts (Move old new)

-- ---- what parts that grow keep

-- all rules but that there is a link and that the ticks are within the limit
pub record KeepSoFar (parts : PlanParts) : Type 0 where
  pub version : have_version parts ≡ true
  pub names : have_names parts ≡ true
  pub there : are_there parts ≡ true
  pub range : are_in_range parts ≡ true
  pub few : are_few parts ≡ true
  pub joined : are_joined parts ≡ true
  pub unclosed : are_unclosed parts ≡ true
  pub load : load_in parts.requests parts.callers ≤ most_packets
  pub pours : pours_are_taken parts ≡ true
  pub moves : moves_are_fit parts ≡ true
  pub groups : KeepGroups parts.version parts.groups parts.links parts.callers
  pub planned : ArePlanned parts
  pub terms : Each HasTerms parts.requests

-- the two that are left
pub record AreEnough (parts : PlanParts) : Type 0 where
  pub links : 1 ≤ length parts.links
  pub ticks : (parts.rounds + parts.tail) * length parts.links ≤ most_rounds
