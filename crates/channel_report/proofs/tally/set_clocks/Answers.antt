-- One more link has the clock, and then all.
use Rattle.std.proofs.Common.{arith}
use Rattle.channel_report.proofs.LinkTallies.{changed-more, none-changed, nothing}
use Rattle.channel_report.specs.Tallies.{at_clock}
use Rattle.channel_report.proofs.tally.set_clocks.Goals as goal

pub loop-link-init : goal.loop-link-init
loop-link-init c = none-changed (at_clock c.args.clock) c.args.links.now

pub loop-link-preserved : goal.loop-link-preserved
loop-link-preserved c =
    changed-more (at_clock c.args.clock) c.args.links.now c.loop-link.links c.loop-link.link-index nothing
    (let same = c.loop-link.auto.links in let below = c.loop-link-test.true in omega (arith, same, below)) c.loop-link.invariant

pub returns : goal.returns
returns c = record {
  same = c.loop-link.invariant.same;
  each = λ k d within. c.loop-link.invariant.made k d (let same = c.loop-link.auto.links in let long = c.loop-link.invariant.same in let past = c.loop-link-test.false in let end = c.loop-link.auto.link-index-end in omega (arith, same, long, past, end, within)) within;
}
