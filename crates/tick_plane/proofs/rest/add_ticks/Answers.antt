-- No tick yet, one more, and then all.
use Rattle.std.proofs.Common.{◌≡◌, ◌++◌, ◌-◌, ap, ◌∙◌, arith}
use Rattle.tick_plane.specs.Rounds.{ticks_from}
use Rattle.tick_plane.proofs.TicksLeft.{ticks-none, ticks-more}
use Rattle.tick_plane.proofs.rest.add_ticks.Goals as goal

pub loop-number-init : goal.loop-number-init
loop-number-init c = ticks-none c.args.asks.now.items c.args.from

pub loop-number-preserved : goal.loop-number-preserved
loop-number-preserved c =
    ticks-more c.args.asks.now.items c.loop-number.asks.items c.push.new.self.items c.args.from c.loop-number.number c.numbered.result
    (let from = c.loop-number.auto.number in omega (arith, from)) c.loop-number.invariant c.numbered.ensures c.in_ok-push.ensures.items

pub returns : goal.returns
returns c =
    let count : c.loop-number.number - c.args.from ≡ c.args.until - c.args.from = (let over = c.loop-number-test.false in let end = c.loop-number.auto.number-end c.requires.0 in omega (arith, over, end)) in
    c.loop-number.invariant ∙ ap (λ n. c.args.asks.now.items ++ ticks_from c.args.from n) count
