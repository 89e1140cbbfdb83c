use Rattle.std.proofs.Common.{ap, ◌∙◌}
use Rattle.net_units.specs.Numbers.{actor_number}
use Rattle.net_units.specs.declared.numbers.ActorNo.{ActorNo}
use Rattle.network_tour.proofs.TourConditions.{tour-hops, tour-owner}
use Rattle.network_tour.proofs.by_network.call.Goals as goal

pub setup-requires-clause-owned : goal.setup-requires-clause-owned
setup-requires-clause-owned g c κs within = tour-owner g.H.Home.links g.H.Home.owners c.args.pass.actor c.request-request.result.chan c.requires.tour c.requires.new.actor_is c.request-request.ensures.chan

pub setup-requires-clause-hops : goal.setup-requires-clause-hops
setup-requires-clause-hops g c κs within = tour-hops g.H.Home.links g.H.Home.owners c.request-request.result.route c.requires.tour c.request-request.ensures.hops

pub submit-requires-clause-owned : goal.submit-requires-clause-owned
submit-requires-clause-owned g c κs within =
    tour-owner g.H.Home.links g.H.Home.owners c.setup.new.pass.actor c.request-request.result.chan c.requires.tour (ap (λ (a : ActorNo). actor_number a) c.setup.ensures.same.actor ∙ c.requires.new.actor_is) c.request-request.ensures.chan
