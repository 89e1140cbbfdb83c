-- There are links to divide by.
use Rattle.std.proofs.Common.{length, ap, arith}
use Rattle.run_engine.proofs.Watched.WatchedStrides.{links-some}
use Rattle.run_engine.proofs.rounds.make_plane_steps.Goals as goal

pub nonzero_div-most : goal.nonzero_div-most
nonzero_div-most g c = (let some = links-some c.args.plan.now c.links.ensures.valid in let same = ap length c.links.ensures.value in omega (arith, some, same))
