use Rattle.std.proofs.Common.{◌≡◌, ◌-◌, Some, length, get_or, subst, sym, ◌∙◌, ap, arith}
use Rattle.std.specs.List.{slice_get}
use Rattle.net_units.specs.LevelBounds.{bound_at}
use Rattle.relaxation.proofs.SlackShares.{bound_at_end-at}
use Rattle.relaxation.proofs.last_offered.Goals as goal

pub returns : goal.returns
returns c =
    let found : slice_get c.args.it.now.route (length c.args.it.now.levels - 1) ≡ Some c.offer.result.hop = subst (λ n. slice_get c.args.it.now.route (n - 1) ≡ Some c.offer.result.hop) c.offers.ensures.value c.offer.ensures.hop in
    let level = ap (λ n. get_or c.args.it.now.levels (n - 1) 0) c.offers.ensures.value in
    c.bound_of.ensures.value ∙ ap (bound_at c.offer.result.hop.bounds) (c.offer.ensures.level ∙ level)
    ∙ sym (bound_at_end-at c.args.it.now.route c.args.it.now.levels c.offer.result.hop (omega (arith, c.requires, c.offers.ensures.valid.least)) found)
