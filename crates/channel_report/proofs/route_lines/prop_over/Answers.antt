use Rattle.std.proofs.Common.{arith}
use Rattle.channel_report.proofs.RouteLine.{prop-more}
use Rattle.channel_report.proofs.route_lines.prop_over.Goals as goal

pub loop-place-preserved : goal.loop-place-preserved
loop-place-preserved c =
    let more = prop-more c.args.route.now c.loop-place.place c.hop.result c.hop.ensures.value (omega (arith, c.loop-place-test.true)) in
    record {
      inside = omega (arith, c.loop-place.invariant.inside);
      few = c.loop-place.invariant.few;
      small = omega (arith, c.loop-place.invariant.small, c.from-prop.ensures, c.loop-place-test.true);
      sum = omega (arith, more, c.loop-place.invariant.sum, c.from-prop.ensures);
    }
