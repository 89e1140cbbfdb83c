-- A plan's text is read as that plan and its schedule, where it has at most 4,194,304 bytes: the items of the schedule then have the
-- numbers of their lines. So no text is that of two plans. The names of a plan are names, and its quotas have eight loads, as those
-- of each plan that is made do; a route that it has as found between two nodes is the least one between them; and its schedule is one
-- that a scenario can have.
use Rattle.std.specs.Prelude.{◌≡◌, ◌≤◌, ℕ, true, Option, Some, None, List, length, map}
use Rattle.hop_reservation.specs.declared.route.Hop.{Hop}
use Rattle.net_units.specs.Text.{is_name}
use Rattle.scenario_reader.specs.declared.reader.TheConstants.{MOST_BYTES}
use Rattle.link_steps.specs.Lists.{Each}
use Rattle.link_steps.specs.declared.quota.Quota.{Quota}
use Rattle.call_script.specs.Parts.{PlanParts}
use Rattle.call_script.specs.Plans.{IsPlan}
use Rattle.call_script.specs.declared.entries.LinkEntry.{LinkEntry}
use Rattle.call_script.specs.declared.entries.RequestEntry.{RequestEntry}
use Rattle.call_script.specs.declared.entries.CallerEntry.{CallerEntry}
use Rattle.call_script.specs.declared.schedule.Do.{Do}
use Rattle.call_script.specs.declared.schedule.Schedule.{Schedule}
use Rattle.scenario_reader.specs.Kept.{IsScheduleOf}
use Rattle.scenario_reader.specs.Nodes.{route_between}
use Rattle.scenario_reader.specs.PlanText.{plan_text}
use Rattle.scenario_reader.specs.Reading.{Reading, PlanRead, reading}

-- a link and its nodes go by names
pub record HasNames (entry : LinkEntry) : Type 0 where
  pub name : is_name entry.name ≡ true
  pub from : is_name entry.from ≡ true
  pub to : is_name entry.to ≡ true

-- so do the nodes between which a route was found
abbrev pub AreNodesNamed : Option (List ℕ × List ℕ) → Type 0
AreNodesNamed None = Unit {0}
AreNodesNamed (Some (from, to)) = (is_name from ≡ true) × (is_name to ≡ true)

-- a quota has eight loads, as each that is made has
abbrev pub HasEightLoads : Quota → Type 0
HasEightLoads quota = length quota.levels ≡ 8

pub record AreNamed (parts : PlanParts) : Type 0 where
  pub links : Each HasNames parts.links
  pub groups : Each (λ (name : List ℕ). is_name name ≡ true) parts.groups
  pub quotas : Each (λ (entry : LinkEntry). Each HasEightLoads entry.quotas) parts.links
  pub nodes : Each (λ (entry : RequestEntry). AreNodesNamed entry.found) parts.requests
  pub requests : Each (λ (entry : RequestEntry). is_name entry.name ≡ true) parts.requests
  pub callers : Each (λ (caller : CallerEntry). is_name caller.name ≡ true) parts.callers

-- a route that was found between two nodes is the least
abbrev pub IsFoundRoute : List LinkEntry → List Hop → Option (List ℕ × List ℕ) → Type 0
IsFoundRoute links route None = Unit {0}
IsFoundRoute links route (Some (from, to)) = route_between links from to ≡ Some route

abbrev pub HaveFoundRoutes : PlanParts → Type 0
HaveFoundRoutes parts = Each (λ (entry : RequestEntry). IsFoundRoute parts.links entry.request.route entry.found) parts.requests

-- an item without the number of its line
abbrev pub unnumbered : Do → Do
unnumbered item = record { line = 0; actor = item.actor; count = item.count }

-- the same schedule, up to the numbers of lines
pub record SameSchedule (one other : Schedule) : Type 0 where
  pub written : one.written ≡ other.written
  pub items : map unnumbered one.items ≡ map unnumbered other.items

-- what was read is this plan, with this schedule
pub record ReadsAs (read : Reading) (parts : PlanParts) (schedule : Schedule) : Type 0 where
  pub again : Schedule
  pub is : read ≡ PlanRead parts again
  pub same : SameSchedule again schedule

abbrev pub APlansTextIsRead : Type 0
APlansTextIsRead = (parts : PlanParts) (schedule : Schedule) → IsPlan parts → AreNamed parts → HaveFoundRoutes parts → IsScheduleOf parts.callers schedule → length (plan_text parts schedule) ≤ MOST_BYTES
    → ReadsAs (reading MOST_BYTES (plan_text parts schedule)) parts schedule

-- two plans with one text are one plan, with one schedule up to the numbers of lines
pub record AreOne (parts other : PlanParts) (schedule its : Schedule) : Type 0 where
  pub parts_same : parts ≡ other
  pub schedule_same : SameSchedule schedule its

abbrev pub ATextIsOfOnePlan : Type 0
ATextIsOfOnePlan = (parts other : PlanParts) (schedule its : Schedule) → IsPlan parts → IsPlan other → AreNamed parts → AreNamed other → HaveFoundRoutes parts → HaveFoundRoutes other → IsScheduleOf parts.callers schedule → IsScheduleOf other.callers its
    → length (plan_text parts schedule) ≤ MOST_BYTES → plan_text parts schedule ≡ plan_text other its → AreOne parts other schedule its
