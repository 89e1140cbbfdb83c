-- As many as each of them rests for.
use Rattle.std.proofs.Common.{subst, arith}
use Rattle.link_steps.specs.Lists.{Each}
use Rattle.run_engine.proofs.Watched.RestedRounds.{fewer-rounds}
use Rattle.plane_workers.specs.Lanes.{IsQuietNext}
use Rattle.plane_workers.proofs.telling.rounds_at_rest.Goals as goal

pub returns-clause-plane : goal.returns-clause-plane
returns-clause-plane c = λ some.
    let least = c.min-most.ensures in
    let few = c.least_quiet.ensures.most in
    fewer-rounds c.args.plane.now.rounds c.least_quiet.result c.quiet_rounds.result c.args.plane.now.at (omega (arith, least, few)) (c.quiet_rounds.ensures (omega (arith, least, few, some)))

pub returns-clause-lanes : goal.returns-clause-lanes
returns-clause-lanes c = λ some. subst (λ t. Each (IsQuietNext t c.least_quiet.result) c.args.lanes.now) c.round-round.ensures (c.least_quiet.ensures.quiet some)

pub returns-clause-within : goal.returns-clause-within
returns-clause-within c = λ some.
    let least = c.min-most.ensures in
    let few = c.least_quiet.ensures.most in
    let left = c.saturating_sub.ensures in
    let round = c.round-round.ensures in
    omega (arith, least, few, left, round, some)
