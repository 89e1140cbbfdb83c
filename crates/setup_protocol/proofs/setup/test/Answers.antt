-- What the destination allots gives each hop a level.
use Rattle.std.proofs.Common.{length, subst, ap, arith}
use Rattle.net_units.specs.Allotted.{levels_of}
use Rattle.setup_protocol.specs.State.{HaveLevels}
use Rattle.setup_protocol.proofs.RouteLevels.{reach-have}
use Rattle.setup_protocol.proofs.setup.test.Goals as goal

pub relax_on-requires-clause-levels : goal.relax_on-requires-clause-levels
relax_on-requires-clause-levels c =
    let have = reach-have c.args.request.now.delay c.args.it.now.route c.args.it.now.levels (levels_of c.allot.new.out) c.in-Ok.ensures.reach in
    let levels : HaveLevels c.args.it.now.route (levels_of c.allot.new.out) = record { are_levels = have.0; whole = omega (arith, have.1, c.requires.whole, ap length c.requires.same) } in
    subst (λ route. HaveLevels route (levels_of c.allot.new.out)) c.requires.same levels

pub returns-in-Err-clause-range : goal.returns-in-Err-clause-range
returns-in-Err-clause-range c = c.undo.ensures.range c.args.request.now.route c.args.it.now.levels (omega (arith, c.offers-in-Err.ensures.value, c.requires.whole)) tt

pub returns-in-Ok-clause-range : goal.returns-in-Ok-clause-range
returns-in-Ok-clause-range c = c.relax_on.ensures.range c.args.it.now.levels
