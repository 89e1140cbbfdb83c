-- A turn ends the search at a link that has occurred before, and goes on after any other.
use Rattle.std.proofs.Common.{sym, ◌∙◌}
use Rattle.hop_reservation.proofs.DistinctLinks.{repeated-found, repeated-goes_on, repeated-none_left}
use Rattle.hop_reservation.proofs.route.repeated.Goals as goal

pub returns-then-stands_in : goal.returns-then-stands_in
returns-then-stands_in c =
    sym (c.loop-index.invariant ∙ repeated-found c.args.hops.now c.loop-index.index c.index-hops-index.result c.loop-index-test.true (sym c.stands_in.ensures ∙ c.if-stands_in.true))

pub loop-index-preserved : goal.loop-index-preserved
loop-index-preserved c =
    c.loop-index.invariant ∙ repeated-goes_on c.args.hops.now c.loop-index.index c.index-hops-index.result c.loop-index-test.true (sym c.stands_in.ensures ∙ c.if-stands_in.false)

pub returns : goal.returns
returns c = sym (c.loop-index.invariant ∙ repeated-none_left c.args.hops.now c.loop-index.index c.loop-index-test.false)
