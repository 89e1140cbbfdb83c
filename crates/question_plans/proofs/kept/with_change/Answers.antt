use Rattle.std.proofs.Common.{◌≡◌, map, sym, ap, subst, ◌∙◌}
use Rattle.call_script.specs.Parts.{ArePlanned, parts_with}
use Rattle.question_plans.specs.Alone.{changed}
use Rattle.question_plans.specs.Kept.{changed_plan}
use Rattle.question_plans.proofs.PlanKept.{changed-may-be-planned, parts-changed}
use Rattle.question_plans.proofs.kept.with_change.Goals as goal

pub new-requires : goal.new-requires
new-requires c =
    let same : parts_with c.version.result c.in_ok-links.links.items c.in_ok-groups.groups.items c.in_ok-requests.requests.items c.in_ok-callers.callers.items c.rounds.result c.tail.result ≡ changed_plan c.args.change.now c.args.plan.now =
    parts-changed c.args.change.now c.args.plan.now c.version.result c.in_ok-links.links.items c.in_ok-groups.groups.items c.in_ok-requests.requests.items c.in_ok-callers.callers.items c.rounds.result c.tail.result c.version.ensures
    (c.in_ok-links.ensures ∙ c.links.ensures.value) (c.in_ok-groups.ensures ∙ c.groups.ensures.value)
    (c.in_ok-requests.ensures ∙ ap (map (changed c.args.change.now)) c.requests.ensures.value) (c.in_ok-callers.ensures ∙ c.callers.ensures.value) c.rounds.ensures.value c.tail.ensures.value in
    subst ArePlanned (sym same) (changed-may-be-planned c.args.change.now c.args.plan.now c.links.ensures.valid.planned)

pub returns : goal.returns
returns c =
    c.in_ok-made.ensures.value
    ∙ parts-changed c.args.change.now c.args.plan.now c.version.result c.in_ok-links.links.items c.in_ok-groups.groups.items c.in_ok-requests.requests.items c.in_ok-callers.callers.items c.rounds.result c.tail.result c.version.ensures
    (c.in_ok-links.ensures ∙ c.links.ensures.value) (c.in_ok-groups.ensures ∙ c.groups.ensures.value)
    (c.in_ok-requests.ensures ∙ ap (map (changed c.args.change.now)) c.requests.ensures.value) (c.in_ok-callers.ensures ∙ c.callers.ensures.value) c.rounds.ensures.value c.tail.ensures.value
