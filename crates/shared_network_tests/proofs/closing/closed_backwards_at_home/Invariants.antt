use Rattle.std.proofs.Common.{[], ◌∷◌}
use Rattle.step_stamp.specs.Seats.{stamps_table}
use Rattle.shared_network_tests.proofs.closing.closed_backwards_at_home.Given as goal

abbrev pub ghosts-closed_backwards : goal.ghosts-closed_backwards
ghosts-closed_backwards g a = record { table = stamps_table a.opened.0; owners = []; links = g.L.LinkStep.link_of a.link ∷ [] }
