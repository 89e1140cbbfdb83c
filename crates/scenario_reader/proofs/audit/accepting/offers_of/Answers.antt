use Rattle.std.proofs.Common.{◌≡◌, ◌+◌, ◌-◌, ◌∙◌, ap, arith, get_or, length, take}
use Rattle.std.proofs.lemmas.List.{length-take-le}
use Rattle.net_units.specs.Allotted.{levels_of}
use Rattle.net_units.specs.Numbers.{level_number}
use Rattle.scenario_reader.proofs.Auditing.LevelFields.{level-next}
use Rattle.scenario_reader.proofs.audit.accepting.offers_of.Goals as goal

pub push_offer-requires-clause-left : goal.push_offer-requires-clause-left
push_offer-requires-clause-left c =
    let count : length (take c.loop-index.index (levels_of c.args.levels.now)) ≡ c.loop-index.index =
    length-take-le c.loop-index.index (levels_of c.args.levels.now) (omega (arith, c.loop-index-test.true, c.len-index-end.ensures.value)) in
    omega (arith, ap length c.loop-index.invariant.levels, ap length c.loop-index.invariant.route, count, c.loop-index-test.true, c.len-index-end.ensures.value, c.requires.whole)

pub push_offer-requires-clause-level : goal.push_offer-requires-clause-level
push_offer-requires-clause-level c =
    let at : c.loop-index.index + 1 - 1 ≡ c.loop-index.index = omega arith in
    let is : level_number c.at-level.result ≡ get_or (levels_of c.args.levels.now) c.loop-index.index 0 = c.at-level.ensures
    ∙ ap (λ i. get_or (levels_of c.args.levels.now) i 0) at in
    let next = level-next c.args.route.now (levels_of c.args.levels.now) c.loop-index.index (level_number c.at-level.result) c.requires.are_levels
    (omega (arith, c.loop-index-test.true, c.len-index-end.ensures.value)) is in
    rw (c.loop-index.invariant.route, c.loop-index.invariant.levels) next

pub push_offer-requires-clause-reach : goal.push_offer-requires-clause-reach
push_offer-requires-clause-reach c = push_offer-requires-clause-level c
