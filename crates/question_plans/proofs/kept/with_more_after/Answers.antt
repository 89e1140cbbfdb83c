use Rattle.std.proofs.Common.{sym, ap, subst, ◌∙◌}
use Rattle.call_script.specs.Parts.{parts_with}
use Rattle.call_script.specs.declared.version.Version.{Version}
use Rattle.question_plans.specs.More.{IsWithMoreAfter}
use Rattle.question_plans.proofs.Copies.{after-may-be-planned}
use Rattle.question_plans.proofs.kept.with_more_after.Goals as goal

pub new-requires : goal.new-requires
new-requires c =
    after-may-be-planned c.args.plan.now c.args.number c.args.count c.version.result c.in_ok-parts.parts.links.items c.in_ok-parts.parts.groups.items c.in_ok-parts.parts.requests.items c.in_ok-parts.parts.callers.items c.rounds.result c.tail.result
    c.in_ok-parts.ensures.plan c.in_ok-parts.ensures.more

pub returns : goal.returns
returns c =
    let links = c.in_ok-parts.parts.links.items in
    let groups = c.in_ok-parts.parts.groups.items in
    let requests = c.in_ok-parts.parts.requests.items in
    let callers = c.in_ok-parts.parts.callers.items in
    subst (IsWithMoreAfter c.args.plan.now c.args.number c.args.count)
    (sym (c.in_ok-made.ensures.value ∙ ap (λ (v : Version). parts_with v links groups requests callers c.rounds.result c.tail.result) c.version.ensures ∙ ap (λ n. parts_with c.args.plan.now.version links groups requests callers n c.tail.result) c.rounds.ensures.value
    ∙ ap (λ n. parts_with c.args.plan.now.version links groups requests callers c.args.plan.now.rounds n) c.tail.ensures.value))
    c.in_ok-parts.ensures.more
