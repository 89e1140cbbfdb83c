use Rattle.std.proofs.Common.{List, [], ◌∷◌, ◌++◌, map, length, refl, ap, ◌∙◌}
use Rattle.call_script.specs.declared.entries.CallerEntry.{CallerEntry}
use Rattle.question_plans.specs.Alone.{changed, opens_of}
use Rattle.question_plans.specs.declared.change.Change.TheVariants.{Nothing}
use Rattle.question_plans.proofs.Copies.{length-mapped, unchanged}
use Rattle.question_plans.proofs.more.parts_with_more.Goals as goal

pub add_opener-requires-clause-own : goal.add_opener-requires-clause-own
add_opener-requires-clause-own c = c.in_ok-requests.ensures ∙ ap (map (changed Nothing)) c.requests.ensures.value ∙ unchanged c.args.plan.now.requests

pub add_opener-requires-clause-many : goal.add_opener-requires-clause-many
add_opener-requires-clause-many c = ap length (c.in_ok-callers.ensures ∙ ap (map opens_of) c.callers.ensures.value) ∙ length-mapped opens_of c.args.plan.now.callers

pub returns-clause-more : goal.returns-clause-more
returns-clause-more c =
    let adds = c.in_ok-add_opener.ensures in
    record {
      like = adds.like;
      found = adds.found;
      caller = adds.caller;
      group = adds.group;
      copies = adds.copies;
      callers = adds.put ∙ ap (λ (xs : List CallerEntry). xs ++ adds.caller ∷ []) (c.in_ok-callers.ensures ∙ ap (map opens_of) c.callers.ensures.value);
      version = refl;
      links = c.in_ok-links.ensures ∙ c.links.ensures.value;
      groups = c.in_ok-groups.ensures ∙ c.groups.ensures.value;
      rounds = refl;
      tail = refl;
    }

pub returns-clause-plan : goal.returns-clause-plan
returns-clause-plan c = c.links.ensures.valid
