use Rattle.std.proofs.Common.{◌≡◌, ◌<◌, ◌≤◌, length, ap, arith}
use Rattle.call_script.specs.Parts.{PlanParts}
use Rattle.answer_tables.proofs.RefusedTogether.{place-inside}
use Rattle.answer_tables.proofs.together.tried_with.Goals as goal

pub number_of-requires-clause-inside : goal.number_of-requires-clause-inside
number_of-requires-clause-inside c =
    let parts = c.args.plan.now in
    let made = c.in_ok-with_each.field-0 in
    let own : length c.requests-own.result.now ≡ length parts.requests = ap length c.requests-own.ensures.value in
    let many : length c.in_ok-trial.trial.plan.requests ≡ length made.requests = ap (λ (p : PlanParts). length p.requests) c.in_ok-trial.ensures.plan in
    let from : length parts.requests ≤ c.in-Some.refused.at = omega (arith, own, c.in-Some.ensures.from) in
    let below : c.in-Some.refused.at < length made.requests = omega (arith, many, c.in-Some.ensures.inside) in
    let inside = place-inside parts made c.args.numbers.now c.args.count c.in-Some.refused.at c.in_ok-with_each.ensures from below in
    omega (arith, own, inside)
