-- What the network is told for its contracts: its stamps, the owner of each channel, and its links, none of which is split.
use Rattle.std.proofs.Common.{map}
use Rattle.link_server.specs.declared.link_state.LinkState.{LinkState}
use Rattle.link_steps.specs.Split.{whole}
use Rattle.step_stamp.specs.Seats.{stamps_table}
use Rattle.network_tour.proofs.by_network.run.Given as goal

abbrev pub ghosts-run_over : goal.ghosts-run_over
ghosts-run_over g a = record { table = stamps_table a.opened.0; owners = a.owners.items; links = map (λ (link : LinkState). whole link.shape) a.links.items }
