use Rattle.std.proofs.Common.{sym, ap, subst, ◌∙◌}
use Rattle.call_script.specs.Parts.{parts_with}
use Rattle.call_script.specs.declared.version.Version.{Version}
use Rattle.question_plans.specs.More.{IsWithMore}
use Rattle.question_plans.proofs.Copies.{more-may-be-planned}
use Rattle.question_plans.proofs.more.with_more.Goals as goal

pub new-requires : goal.new-requires
new-requires c =
    more-may-be-planned c.args.plan.now c.args.number c.args.count c.version.result c.in_ok-parts.parts.links.items c.in_ok-parts.parts.groups.items c.in_ok-parts.parts.requests.items c.in_ok-parts.parts.callers.items c.in_ok-parts.ensures.plan
    c.in_ok-parts.ensures.more

pub returns : goal.returns
returns c =
    subst (IsWithMore c.args.plan.now c.args.number c.args.count)
    (sym (c.in_ok-made.ensures.value ∙ ap (λ (v : Version). parts_with v c.in_ok-parts.parts.links.items c.in_ok-parts.parts.groups.items c.in_ok-parts.parts.requests.items c.in_ok-parts.parts.callers.items 0 0) c.version.ensures))
    c.in_ok-parts.ensures.more
