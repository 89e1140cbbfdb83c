use Rattle.tenet_app.proofs.RaceAgain.{races-are-played-again}
use Rattle.tenet_app.proofs.laws.a_race_is_played_again.Goals as goal

pub returns : goal.returns
returns c = races-are-played-again
