-- Where the next flight is due later, none of the round is left.
use Rattle.std.proofs.Common.{drop}
use Rattle.tick_plane.specs.Coming.{arrivals_in}
use Rattle.tick_plane.proofs.ComingInOrder.{later-drop, none-more}
use Rattle.tick_plane.proofs.window.add_arrivals.Goals as goal

pub returns-then-flight-round-clause-asks : goal.returns-then-flight-round-clause-asks
returns-then-flight-round-clause-asks c =
    none-more c.args.round c.args.asks.now.items c.loop-place.asks.items (arrivals_in c.args.round (drop c.args.first c.args.coming.now)) (drop c.loop-place.place c.args.coming.now)
    (later-drop c.args.coming.now c.loop-place.place c.args.round c.index-coming-place.result c.loop-place-test.true c.index-coming-place.is c.loop-place.invariant.rise c.loop-place.invariant.ahead c.if-flight-round.true)
    c.loop-place.invariant.arrived

pub returns-then-flight-round-clause-left : goal.returns-then-flight-round-clause-left
returns-then-flight-round-clause-left c = record {
  rise = c.loop-place.invariant.rise;
  ahead = later-drop c.args.coming.now c.loop-place.place c.args.round c.index-coming-place.result c.loop-place-test.true c.index-coming-place.is c.loop-place.invariant.rise c.loop-place.invariant.ahead c.if-flight-round.true;
  all = c.loop-place.invariant.later;
}
