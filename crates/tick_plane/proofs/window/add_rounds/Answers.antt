-- No round yet, and then one round more.
use Rattle.std.proofs.Common.{◌≡◌, suc, ◌+◌, List, drop, subst, arith}
use Rattle.tick_plane.specs.Coming.{AreLeft}
use Rattle.tick_plane.specs.declared.flight.Flight.{Flight}
use Rattle.tick_plane.proofs.ComingInOrder.{left-none, left-on, rounds-none, rounds-more}
use Rattle.tick_plane.proofs.window.add_rounds.Goals as goal

pub loop-round-init : goal.loop-round-init
loop-round-init c = record {
  asked = rounds-none c.args.asks.now.items c.args.from (drop c.args.first c.args.coming.now);
  inside = c.requires.first;
  left = left-none c.args.from (drop c.args.first c.args.coming.now) c.requires.rise c.requires.ahead;
}

pub loop-round-preserved : goal.loop-round-preserved
loop-round-preserved c =
    let coming : List Flight = drop c.args.first c.args.coming.now in
    let mid : List Flight = drop c.loop-round.next c.args.coming.now in
    let left : List Flight = drop c.in_ok-next.next c.args.coming.now in
    let one : suc c.loop-round.round ≡ c.loop-round.round + 1 = omega arith in
    record {
      asked = rounds-more c.args.asks.now.items c.loop-round.asks.items c.add_arrivals.new.asks.items c.push.new.self.items c.args.from c.loop-round.round coming mid
          (let from = c.loop-round.auto.round in omega (arith, from)) c.loop-round.invariant.left c.loop-round.invariant.asked c.in_ok-next.ensures.asks c.in_ok-push.ensures.items;
      inside = c.in_ok-next.ensures.next;
      left = subst (λ k. AreLeft k coming left) one (left-on c.loop-round.round (suc c.loop-round.round) coming mid left (omega arith) c.loop-round.invariant.left c.in_ok-next.ensures.left);
    }
