use Rattle.tenet_app.proofs.RaceAgain.{every-race-is-played-again}
use Rattle.tenet_app.proofs.laws.every_race_is_played_again.Goals as goal

pub returns : goal.returns
returns c = every-race-is-played-again
