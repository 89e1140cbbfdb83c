-- A plan has a version, the links of the network, the names of the groups, the requests for channels, the callers with their
-- operations, and the numbers of rounds that the plane makes beside the callers and after them. Links, requests and callers
-- stand in the order of their numbers, and groups have numbers from 1 on; a link has a quota for each group that has a share
-- of it. The requests stand in the order in which the callers open them, each opened once, by its
-- caller; and a hop of a route has the bounds and the propagation of its link.
use Rattle.std.specs.Prelude.{◌≡◌, ◌≤◌, ℕ, suc, Option, Some, None, List, [], ◌∷◌, ◌++◌, length, map, slice_index}
use Rattle.std.specs.List.{All, slice_get}
use Rattle.net_units.specs.Numbers.{link_number, actor_number, channel_number}
use Rattle.net_units.specs.declared.numbers.ChanNo.{ChanNo}
use Rattle.hop_reservation.specs.declared.route.Hop.{Hop}
use Rattle.link_steps.specs.Lists.{Each}
use Rattle.link_steps.specs.declared.quota.Quota.{Quota}
use Rattle.call_script.specs.Operations.{attributes_of}
use Rattle.call_script.specs.declared.entries.LinkEntry.{LinkEntry}
use Rattle.call_script.specs.declared.entries.RequestEntry.{RequestEntry}
use Rattle.call_script.specs.declared.entries.CallerEntry.{CallerEntry}
use Rattle.call_script.specs.declared.operations.Op.{Op}
use Rattle.call_script.specs.declared.version.Version.{Version}

pub record PlanParts : Type 0 where
  pub version : Version
  pub links : List LinkEntry
  pub groups : List (List ℕ)
  pub requests : List RequestEntry
  pub callers : List CallerEntry
  pub rounds : ℕ
  pub tail : ℕ

-- the record of these parts
abbrev pub parts_with : Version → List LinkEntry → List (List ℕ) → List RequestEntry → List CallerEntry → ℕ → ℕ → PlanParts
parts_with version links groups requests callers rounds tail =
    record { version = version; links = links; groups = groups; requests = requests; callers = callers; rounds = rounds; tail = tail }

-- parts without groups
abbrev pub parts_of : Version → List LinkEntry → List RequestEntry → List CallerEntry → ℕ → ℕ → PlanParts
parts_of version links requests callers rounds tail = parts_with version links [] requests callers rounds tail

-- ---- who opens what

-- a caller's number, and the number of a channel
pub record Opening : Type 0 where
  pub caller : ℕ
  pub chan : ℕ

-- the opening of a channel by the caller of this number, where one is opened
abbrev pub opening_by : ℕ → Option ChanNo → List Opening
opening_by n None = []
opening_by n (Some chan) = record { caller = n; chan = channel_number chan } ∷ []

-- what the caller of this number opens, in the order of its operations
abbrev pub opened_by : ℕ → Op → List Opening
opened_by n op = opening_by n (attributes_of op).opens

unfoldable pub openings_in : ℕ → List Op → List Opening
openings_in n [] = []
openings_in n (op ∷ ops) = opened_by n op ++ openings_in n ops

-- what the callers open, the first of which has the number n
unfoldable pub openings_of : ℕ → List CallerEntry → List Opening
openings_of n [] = []
openings_of n (caller ∷ callers) = openings_in n caller.ops ++ openings_of (suc n) callers

-- who is to open a request
abbrev pub opening_of : RequestEntry → Opening
opening_of entry = record { caller = actor_number entry.caller; chan = channel_number entry.request.chan }

-- ---- conditions

-- a hop has the bounds and the propagation of its link, where the plan has it
pub record FollowsLink (links : List LinkEntry) (hop : Hop) : Type 0 where
  pub bounds : (entry : LinkEntry) → slice_get links (link_number hop.link) ≡ Some entry → hop.bounds ≡ entry.shape.bounds
  pub prop : (entry : LinkEntry) → slice_get links (link_number hop.link) ≡ Some entry → hop.prop ≡ entry.shape.prop

-- a quota has no load after the last level of its link
abbrev pub LeavesUnused : List ℕ → Quota → Type 0
LeavesUnused bounds quota = (k : ℕ) → length bounds ≤ k → slice_index quota.levels k ≡ 0

-- parts of which a plan may be made
pub record ArePlanned (parts : PlanParts) : Type 0 where
  pub links : (n : ℕ) (entry : LinkEntry) → slice_get parts.links n ≡ Some entry → link_number entry.shape.link ≡ n
  pub requests : (n : ℕ) (entry : RequestEntry) → slice_get parts.requests n ≡ Some entry → channel_number entry.request.chan ≡ n
  pub openings : openings_of 0 parts.callers ≡ map opening_of parts.requests
  pub hops : (n : ℕ) (entry : RequestEntry) → slice_get parts.requests n ≡ Some entry → Each (FollowsLink parts.links) entry.request.route
  pub unused : (n : ℕ) (entry : LinkEntry) → slice_get parts.links n ≡ Some entry → All (LeavesUnused entry.shape.bounds) entry.quotas
