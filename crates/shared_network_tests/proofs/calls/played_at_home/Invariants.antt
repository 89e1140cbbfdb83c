use Rattle.std.proofs.Common.{[], ◌∷◌}
use Rattle.step_stamp.specs.Seats.{stamps_table}
use Rattle.shared_network_tests.proofs.calls.played_at_home.Given as goal

abbrev pub ghosts-played : goal.ghosts-played
ghosts-played g a = record { table = stamps_table a.opened.0; owners = a.owner ∷ []; links = g.L.LinkStep.link_of a.link ∷ [] }
