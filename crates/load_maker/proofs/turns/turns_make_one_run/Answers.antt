use Rattle.load_maker.proofs.TurnLaws.{turns-one-run}
use Rattle.load_maker.proofs.turns.turns_make_one_run.Goals as goal

pub returns : goal.returns
returns c = turns-one-run
