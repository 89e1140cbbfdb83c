use Rattle.tick_plane.proofs.RestOfRound.{rounds-turn}
use Rattle.tick_plane.proofs.laws.rounds_are_asked_in_turn.Goals as goal

pub returns : goal.returns
returns c = rounds-turn
