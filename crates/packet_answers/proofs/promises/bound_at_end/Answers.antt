use Rattle.std.proofs.Common.{◌≡◌, ◌-◌, Some, length, get_or, subst, sym, ◌∙◌, ap, arith}
use Rattle.std.specs.List.{slice_get}
use Rattle.net_units.specs.Allotted.{levels_of}
use Rattle.net_units.specs.LevelBounds.{bound_at}
use Rattle.packet_answers.proofs.PromiseSteps.{long-at_end, none-at_end}
use Rattle.packet_answers.proofs.promises.bound_at_end.Goals as goal
use Rattle.relaxation.proofs.SlackShares.{bound_at_end-at}

pub returns-then-count-eq0 : goal.returns-then-count-eq0
returns-then-count-eq0 c = none-at_end c.args.route.now (levels_of c.args.levels.now) (sym c.len-count.ensures.value ∙ c.if-count-eq0.true)

pub returns-then-count-len : goal.returns-then-count-len
returns-then-count-len c = long-at_end c.args.route.now (levels_of c.args.levels.now) (omega (arith, c.if-count-len.true, c.len-count.ensures.value, c.len.ensures.value))

pub returns : goal.returns
returns c =
    let levels = levels_of c.args.levels.now in
    let found : slice_get c.args.route.now (length levels - 1) ≡ Some c.hop.result = subst (λ n. slice_get c.args.route.now (n - 1) ≡ Some c.hop.result) c.len-count.ensures.value c.hop.ensures.value in
    let level = ap (λ n. get_or levels (n - 1) 0) c.len-count.ensures.value in
    c.bound_of.ensures ∙ ap (bound_at c.hop.result.bounds) (c.at.ensures ∙ level)
    ∙ sym (bound_at_end-at c.args.route.now levels c.hop.result (omega (arith, c.if-count-eq0.false, c.len-count.ensures.value)) found)
