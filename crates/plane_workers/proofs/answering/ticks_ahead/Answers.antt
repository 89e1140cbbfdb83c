-- One tick more.
use Rattle.std.proofs.Common.{arith}
use Rattle.plane_workers.proofs.LinkAnswers.{none-ahead, tick-more}
use Rattle.plane_workers.proofs.answering.ticks_ahead.Goals as goal

pub loop-place-init : goal.loop-place-init
loop-place-init c = record { few = omega arith; ticks = none-ahead c.args.asks.now c.args.made }

pub loop-place-preserved : goal.loop-place-preserved
loop-place-preserved c =
    let few = c.loop-place.invariant.few in
    let more = c.if-count-most.false in
    let from = c.loop-place.auto.place in
    record {
      few = omega (arith, few, more, from);
      ticks = tick-more c.args.asks.now c.args.made c.loop-place.place c.index-asks-place.result from c.loop-place-test.true c.index-asks-place.is (c.is_tick.ensures c.if-not-is_tick.false) c.loop-place.invariant.ticks;
    }
