use Rattle.std.proofs.Common.{◌<◌, IfOk, length, map, sym, subst, arith}
use Rattle.std.proofs.lemmas.List.{length-map}
use Rattle.net_units.specs.Numbers.{level_number}
use Rattle.call_script.specs.Parts.{PlanParts}
use Rattle.question_plans.specs.Alone.{changed}
use Rattle.setup_protocol.specs.State.{outcome_of}
use Rattle.setup_points.specs.Points.{IsAskedAt}
use Rattle.setup_points.specs.declared.asked.Decided.{Decided}
use Rattle.setup_points.proofs.asked.asked_at.Goals as goal

pub decided_at-requires : goal.decided_at-requires
decided_at-requires c =
    let inside : c.args.number < length (map (changed c.args.change.now) c.args.plan.now.requests) = omega (arith, length-map c.args.plan.now.requests (changed c.args.change.now), c.requires.inside) in
    record { inside = subst (λ (parts : PlanParts). c.args.number < length parts.requests) (sym c.in_ok-changed.ensures) inside }

pub returns : goal.returns
returns c =
    subst (λ (parts : PlanParts). IfOk c.decided_at.result (λ (decided : Decided). IsAskedAt parts c.args.items.now c.args.start c.args.number (outcome_of decided.verdict) (map level_number decided.offers.items))) c.in_ok-changed.ensures c.decided_at.ensures
