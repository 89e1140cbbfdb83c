use Rattle.std.proofs.Common.{[], ◌∷◌}
use Rattle.step_stamp.specs.Seats.{stamps_table}
use Rattle.shared_network_tests.proofs.rounds.ticked_at_home.Given as goal

abbrev pub ghosts-ticked : goal.ghosts-ticked
ghosts-ticked g a = record { table = stamps_table a.opened.0; owners = []; links = g.L.LinkStep.link_of a.link ∷ [] }
