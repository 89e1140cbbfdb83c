-- A question may also be put to all that a plan says: its callers do what they did, and the plane makes its rounds. What the question wants
-- for one of the requests is all that changes.
use Rattle.std.specs.Prelude.{map}
use Rattle.call_script.specs.Parts.{PlanParts}
use Rattle.question_plans.specs.Alone.{changed}
use Rattle.question_plans.specs.declared.change.Change.{Change}

-- the plan with what is wanted, and all else as it is
abbrev pub changed_plan : Change → PlanParts → PlanParts
changed_plan change parts = record {
  version = parts.version;
  links = parts.links;
  groups = parts.groups;
  requests = map (changed change) parts.requests;
  callers = parts.callers;
  rounds = parts.rounds;
  tail = parts.tail;
}
