use Rattle.network_tour.proofs.TourConditions.{goes-first}
use Rattle.network_tour.proofs.by_network.make.Goals as goal

pub join-called-requires-after_bounds : goal.join-called-requires-after_bounds
join-called-requires-after_bounds g c κs within =
    ((c.requires.tour, c.requires.first), goes-first g.H.Home.table g.H.Home.owners g.H.Home.links c.in_ok-plane.plane c.args.second c.requires.tour c.requires.second c.in_ok-plane.ensures)
