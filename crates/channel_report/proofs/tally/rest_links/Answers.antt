-- One more link has its ticks, and then all.
use Rattle.std.proofs.Common.{◌≡◌, get_or, ap, arith}
use Rattle.channel_report.specs.declared.link_tally.LinkTally.{LinkTally}
use Rattle.channel_report.proofs.LinkTallies.{changed-more, none-changed, nothing}
use Rattle.channel_report.specs.Tallies.{ticks_later}
use Rattle.channel_report.proofs.tally.rest_links.Goals as goal

pub loop-link-init : goal.loop-link-init
loop-link-init c = none-changed (ticks_later c.args.ticks) c.args.links.now

pub overflow_add-link : goal.overflow_add-link
overflow_add-link c =
    let at = c.loop-link.link-index in
    let inside = c.loop-link-test.true in
    let small = c.requires at nothing inside in
    let own : (get_or c.loop-link.links at nothing).clock ≡ (get_or c.args.links.now at nothing).clock = ap (λ (t : LinkTally). t.clock) (c.loop-link.invariant.left at nothing (omega arith)) in
    omega (arith, small, own)

pub loop-link-preserved : goal.loop-link-preserved
loop-link-preserved c =
    changed-more (ticks_later c.args.ticks) c.args.links.now c.loop-link.links c.loop-link.link-index nothing
    (let same = c.loop-link.auto.links in let below = c.loop-link-test.true in omega (arith, same, below)) c.loop-link.invariant

pub returns : goal.returns
returns c = record {
  same = c.loop-link.invariant.same;
  each = λ k d within. c.loop-link.invariant.made k d (let same = c.loop-link.auto.links in let long = c.loop-link.invariant.same in let past = c.loop-link-test.false in let end = c.loop-link.auto.link-index-end in omega (arith, same, long, past, end, within)) within;
}
