-- The law of an allotment, where the destination denies nothing.
use Rattle.std.proofs.Common.{◌-◌, subst, sym, ap, ◌∙◌}
use Rattle.relaxation.specs.Allotment.{allotment}
use Rattle.relaxation.specs.Laws.{AreWithinReach, KeepBounds}
use Rattle.relaxation.proofs.RouteAllotment.{allotted-fit}
use Rattle.relaxation.proofs.allot.Goals as goal

pub returns-clause-reach : goal.returns-clause-reach
returns-clause-reach c =
    let hops = c.args.it.now.route in
    let offers = c.args.it.now.levels in
    let fit = allotted-fit hops offers c.args.delay c.args.jitter c.share_out.ensures.bounds c.share_out.ensures.offers (sym c.denial.ensures ∙ c.in_default.is) in
    subst (AreWithinReach c.args.delay hops offers) (sym (c.share_out.ensures.levels ∙ ap (λ sum. (allotment c.args.jitter (c.args.delay - sum) 0 hops offers).levels) c.delay_sum.ensures)) fit.0

pub returns-clause-bounds : goal.returns-clause-bounds
returns-clause-bounds c =
    let hops = c.args.it.now.route in
    let offers = c.args.it.now.levels in
    let fit = allotted-fit hops offers c.args.delay c.args.jitter c.share_out.ensures.bounds c.share_out.ensures.offers (sym c.denial.ensures ∙ c.in_default.is) in
    subst (λ levels. KeepBounds hops levels c.args.delay c.args.jitter) (sym (c.share_out.ensures.levels ∙ ap (λ sum. (allotment c.args.jitter (c.args.delay - sum) 0 hops offers).levels) c.delay_sum.ensures)) fit.1
