-- A turn adds the delay of one more hop.
use Rattle.std.proofs.Common.{◌+◌, sym, ap, arith}
use Rattle.net_units.specs.Allotted.{levels_of}
use Rattle.net_units.specs.Numbers.{level_number}
use Rattle.net_units.specs.LevelBounds.{bound_at}
use Rattle.hop_reservation.proofs.OneMoreOffer.{delay_over-none}
use Rattle.setup_protocol.proofs.RouteLevels.{level-at, delay-more}
use Rattle.setup_protocol.proofs.setup.delay_at.Goals as goal

pub loop-index-init : goal.loop-index-init
loop-index-init c = record { sum = sym (delay_over-none c.args.route.now); small = omega arith }

pub at-requires-in-loop-index : goal.at-requires-in-loop-index
at-requires-in-loop-index c =
    level-at c.args.route.now (levels_of c.args.levels.now) (c.loop-index.index + 1) (level_number c.at.result) c.hop-hop.result c.requires (omega arith)
    (omega (arith, c.loop-index-test.true, c.len-index-end.ensures.value, c.requires.whole)) c.hop-hop.ensures.value c.at.ensures

pub loop-index-preserved : goal.loop-index-preserved
loop-index-preserved c =
    let more = delay-more c.args.route.now (levels_of c.args.levels.now) c.loop-index.index c.hop-hop.result (omega (arith, c.loop-index-test.true, c.len-index-end.ensures.value)) c.hop-hop.ensures.value in
    let level = ap (bound_at c.hop-hop.result.bounds) c.at.ensures in
    record {
      sum = omega (arith, more, level, c.loop-index.invariant.sum, c.from.ensures, c.from-in-loop-index.ensures, c.at-in-loop-index.ensures.value);
      small = omega (arith, c.loop-index.invariant.small, c.from.ensures, c.from-in-loop-index.ensures, c.at-in-loop-index.ensures.most);
    }
