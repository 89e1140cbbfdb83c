use Rattle.std.proofs.Common.{[], ◌∷◌}
use Rattle.step_stamp.specs.Seats.{stamps_table}
use Rattle.shared_network_tests.proofs.moves.moved_at_home.Given as goal

abbrev pub ghosts-moved : goal.ghosts-moved
ghosts-moved g a = record { table = stamps_table a.opened.0; owners = a.owner ∷ a.owner ∷ []; links = g.L.LinkStep.link_of a.links.0 ∷ g.L.LinkStep.link_of a.links.1 ∷ [] }
