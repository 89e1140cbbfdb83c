use Rattle.std.proofs.Common.{List, map, length, refl, ap, subst, ◌∙◌}
use Rattle.call_script.specs.declared.entries.CallerEntry.{CallerEntry}
use Rattle.question_plans.specs.Alone.{changed}
use Rattle.question_plans.specs.More.{AddsOpener}
use Rattle.question_plans.specs.declared.change.Change.TheVariants.{Nothing}
use Rattle.question_plans.proofs.Copies.{unchanged}
use Rattle.question_plans.proofs.kept.parts_after.Goals as goal

pub add_opener-requires-clause-own : goal.add_opener-requires-clause-own
add_opener-requires-clause-own c = c.in_ok-requests.ensures ∙ ap (map (changed Nothing)) c.requests.ensures.value ∙ unchanged c.args.plan.now.requests

pub add_opener-requires-clause-many : goal.add_opener-requires-clause-many
add_opener-requires-clause-many c = ap length (c.in_ok-callers.ensures ∙ c.callers.ensures.value)

pub returns-clause-more : goal.returns-clause-more
returns-clause-more c = record {
  opener = subst (λ (xs : List CallerEntry). AddsOpener c.args.plan.now c.args.number c.args.count xs c.add_opener.new.requests.items c.add_opener.new.callers.items) (c.in_ok-callers.ensures ∙ c.callers.ensures.value) c.in_ok-add_opener.ensures;
  version = refl;
  links = c.in_ok-links.ensures ∙ c.links.ensures.value;
  groups = c.in_ok-groups.ensures ∙ c.groups.ensures.value;
  rounds = refl;
  tail = refl;
}

pub returns-clause-plan : goal.returns-clause-plan
returns-clause-plan c = c.links.ensures.valid
