use Rattle.std.proofs.Common.{map, ap, ◌∙◌}
use Rattle.question_plans.specs.Alone.{changed, opens_of}
use Rattle.question_plans.proofs.RequestsAlone.{made-alone, parts-alone}
use Rattle.question_plans.proofs.alone.requests_alone.Goals as goal

pub new-requires : goal.new-requires
new-requires c =
    made-alone c.args.change.now c.args.plan.now c.version.result c.in_ok-links.links.items c.in_ok-groups.groups.items c.in_ok-requests.requests.items c.in_ok-callers.callers.items c.links.ensures.valid c.version.ensures
    (c.in_ok-links.ensures ∙ c.links.ensures.value) (c.in_ok-groups.ensures ∙ c.groups.ensures.value)
    (c.in_ok-requests.ensures ∙ ap (map (changed c.args.change.now)) c.requests.ensures.value) (c.in_ok-callers.ensures ∙ ap (map opens_of) c.callers.ensures.value)

pub returns : goal.returns
returns c =
    c.in_ok-made.ensures.value
    ∙ parts-alone c.args.change.now c.args.plan.now c.version.result c.in_ok-links.links.items c.in_ok-groups.groups.items c.in_ok-requests.requests.items c.in_ok-callers.callers.items c.version.ensures
    (c.in_ok-links.ensures ∙ c.links.ensures.value) (c.in_ok-groups.ensures ∙ c.groups.ensures.value)
    (c.in_ok-requests.ensures ∙ ap (map (changed c.args.change.now)) c.requests.ensures.value) (c.in_ok-callers.ensures ∙ ap (map opens_of) c.callers.ensures.value)
