use Rattle.std.proofs.Common.{length, ap, ◌∙◌}
use Rattle.tick_plane.specs.PlaneAccount.{PlaneAccount}
use Rattle.shared_network.proofs.WorkedNetworks.{planes-first}
use Rattle.shared_network_tests.proofs.rounds.first_round.Goals as goal

pub plane_step-requires-clause-planes : goal.plane_step-requires-clause-planes
plane_step-requires-clause-planes g c κs within = planes-first (length g.H.Home.links) c.ready.new.self c.args.pass.now.own c.requires.new.own (ap (λ (p : PlaneAccount). p.at) c.ready.ensures.kept ∙ c.requires.start)
