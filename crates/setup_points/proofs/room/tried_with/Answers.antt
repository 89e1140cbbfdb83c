use Rattle.std.proofs.Common.{◌≡◌, ◌≤◌, length, ap, arith}
use Rattle.setup_points.proofs.WithEach.{place-inside}
use Rattle.setup_points.proofs.room.tried_with.Goals as goal

pub number_of-requires-clause-inside : goal.number_of-requires-clause-inside
number_of-requires-clause-inside c =
    let parts = c.args.plan.now in
    let own : length c.requests-own.result.now ≡ length parts.requests = ap length c.requests-own.ensures.value in
    let from : length parts.requests ≤ c.in-Some.refused.at = omega (arith, own, c.in-Some.ensures.from) in
    let inside = place-inside parts c.in_ok-made.made c.args.numbers.now c.args.count c.in-Some.refused.at c.in_ok-made.ensures from c.in-Some.ensures.inside in
    omega (arith, own, inside)
