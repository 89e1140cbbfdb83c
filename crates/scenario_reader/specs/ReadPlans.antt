-- What is read. Whatever bytes are read as a plan and a schedule, the plan is one: it keeps the rules of plans, its names are names, its
-- quotas have eight loads, and a route that it has as found between two nodes is the least one between them; and the schedule is one
-- that a scenario can have. So what the laws of texts ask of a plan, each plan that was read has.
use Rattle.std.specs.Prelude.{◌≡◌, ℕ, Option, Some, None, List}
use Rattle.hop_reservation.specs.declared.route.Hop.{Hop}
use Rattle.link_steps.specs.Lists.{Each}
use Rattle.call_script.specs.Parts.{PlanParts}
use Rattle.call_script.specs.Plans.{IsPlan}
use Rattle.call_script.specs.declared.entries.LinkEntry.{LinkEntry}
use Rattle.call_script.specs.declared.entries.RequestEntry.{RequestEntry}
use Rattle.call_script.specs.declared.schedule.Schedule.{Schedule}
use Rattle.scenario_reader.specs.BothWays.{AreNamed, HaveFoundRoutes}
use Rattle.scenario_reader.specs.FoundRoutes.{IsByLeastWalk}
use Rattle.scenario_reader.specs.Kept.{IsScheduleOf}
use Rattle.scenario_reader.specs.Reading.{PlanRead, reading}

pub record IsReadable (parts : PlanParts) (schedule : Schedule) : Type 0 where
  pub plan : IsPlan parts
  pub named : AreNamed parts
  pub found : HaveFoundRoutes parts
  pub scheduled : IsScheduleOf parts.callers schedule

-- whatever is read is such a plan, with such a schedule
abbrev pub WhatIsReadIsReadable : Type 0
WhatIsReadIsReadable = (most : ℕ) (bytes : List ℕ) (parts : PlanParts) (schedule : Schedule) → reading most bytes ≡ PlanRead parts schedule → IsReadable parts schedule

-- a route that was to be found between two nodes is that of the least walk from the one to the other
abbrev pub GoesByLeastWalk : List LinkEntry → List Hop → Option (List ℕ × List ℕ) → Type 0
GoesByLeastWalk links route None = Unit {0}
GoesByLeastWalk links route (Some (from, to)) = IsByLeastWalk links from to route

-- so each request that is read between two nodes gets the least route
abbrev pub RequestsGetTheLeastRoutes : Type 0
RequestsGetTheLeastRoutes = (most : ℕ) (bytes : List ℕ) (parts : PlanParts) (schedule : Schedule) → reading most bytes ≡ PlanRead parts schedule
    → Each (λ (entry : RequestEntry). GoesByLeastWalk parts.links entry.request.route entry.found) parts.requests
