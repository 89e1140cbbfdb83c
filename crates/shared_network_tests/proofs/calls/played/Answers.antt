use Rattle.std.proofs.Common.{Some, List, map, ap, ◌∙◌}
use Rattle.std.specs.List.{slice_get}
use Rattle.net_units.specs.Numbers.{actor_number}
use Rattle.net_units.specs.declared.numbers.ActorNo.{ActorNo}
use Rattle.link_steps.specs.Split.{Link}
use Rattle.shared_network.proofs.WorkedNetworks.{owner-is, over-hops}
use Rattle.shared_network_tests.proofs.calls.played.Goals as goal

pub calls-requires-clause-owned : goal.calls-requires-clause-owned
calls-requires-clause-owned g c κs within =
    owner-is g.H.Home.owners 0 0 c.in_ok-network.pass.actor c.args.request.now.chan (ap (λ (os : List ActorNo). slice_get (map (λ (a : ActorNo). actor_number a) os) 0) c.requires.owners ∙ ap Some c.requires.owner) c.in_ok-network.ensures.actor c.requires.chan

pub calls-requires-clause-hops : goal.calls-requires-clause-hops
calls-requires-clause-hops g c κs within =
    over-hops g.H.Home.links 0 (g.L.LinkStep.link_of c.args.link) c.args.request.now.route (ap (λ (ls : List Link). slice_get ls 0) c.requires.links) c.requires.worked c.requires.route
