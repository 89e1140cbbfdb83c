-- No kept tick is later than the newest, and the latest of the three ticks is the eligible one.
use Rattle.std.proofs.Common.{◌-◌, arith}
use Rattle.regulator_core.proofs.LatestOfThree.{get_or-newest, eligible-latest}
use Rattle.regulator_core.proofs.regulator.least_eligible.Goals as goal

pub first_after_place-after_burst-requires : goal.first_after_place-after_burst-requires
first_after_place-after_burst-requires c =
    omega (arith, get_or-newest c.args.contract.now c.args.recent.now.items (c.burst.result - 1) c.burst.ensures.valid c.requires.keeps)

pub returns-clause-value : goal.returns-clause-value
returns-clause-value c =
    let latest = eligible-latest c.args.contract.now c.args.recent.now.items c.args.low c.burst.ensures.valid c.requires.keeps in
    rw (c.max-2.ensures, c.max.ensures, c.first_after_place-after_gap.ensures, c.first_after_place-after_burst.ensures, c.xmin.ensures.value, c.interval.ensures.value, c.burst.ensures.value) latest
