use Rattle.std.proofs.Common.{[], ◌∷◌}
use Rattle.step_stamp.specs.Seats.{stamps_table}
use Rattle.shared_network_tests.proofs.races.raced_at_home.Given as goal

abbrev pub ghosts-raced : goal.ghosts-raced
ghosts-raced g a = record { table = stamps_table a.opened.0; owners = a.owners.0 ∷ a.owners.1 ∷ []; links = g.L.LinkStep.link_of a.links.0 ∷ g.L.LinkStep.link_of a.links.1 ∷ [] }
