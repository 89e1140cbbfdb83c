use Rattle.std.proofs.Common.{subst}
use Rattle.race_run.specs.Pieces.{Begins}
use Rattle.race_run.proofs.PieceSteps.RaceSizes.{rounds-left}
use Rattle.race_run.proofs.pieces.make_piece.Goals as goal

pub make_rounds-requires-clause-until : goal.make_rounds-requires-clause-until
make_rounds-requires-clause-until g c κs within = rounds-left c.args.plan.now c.in-Rounds.plane c.in-Rounds.pass c.rounds-rounds.result (subst (Begins c.args.plan.now) c.in-Rounds.is c.requires.begins.begins) c.rounds-rounds.ensures.value
