use Rattle.std.proofs.Common.{◌<◌, length, get_or, take, reverse, ap, arith}
use Rattle.setup_points.proofs.WithEach.{none-more, kind-more, requests-with-each}
use Rattle.setup_points.proofs.room.with_each.Goals as goal

pub loop-number-init : goal.loop-number-init
loop-number-init c = none-more c.args.plan.now c.in_ok-made.made c.args.count c.in_ok-made.ensures

pub with_more_after-requires : goal.with_more_after-requires
with_more_after-requires c =
    let many = requests-with-each c.args.plan.now c.loop-number.made (reverse (take c.loop-number.number-index c.args.numbers.now)) c.args.count c.loop-number.invariant in
    record { inside = omega (arith, many, ap length c.requests.ensures.value, c.if-number-requests.false) }

pub loop-number-preserved : goal.loop-number-preserved
loop-number-preserved c =
    let own : get_or c.args.numbers.now c.loop-number.number-index 0 < length c.args.plan.now.requests = omega (arith, ap length c.requests.ensures.value, c.if-number-requests.false) in
    kind-more c.args.plan.now c.loop-number.made c.in_ok-made-2.made c.args.numbers.now c.loop-number.number-index c.args.count c.loop-number-test.true own c.loop-number.invariant c.in_ok-made-2.ensures
