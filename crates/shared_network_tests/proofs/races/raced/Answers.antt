use Rattle.std.proofs.Common.{List, [], ◌∷◌, map, sym, ap, ◌∙◌, subst}
use Rattle.std.specs.List.{slice_get}
use Rattle.net_units.specs.Numbers.{actor_number}
use Rattle.net_units.specs.declared.numbers.ActorNo.{ActorNo}
use Rattle.link_steps.specs.Lists.{Each}
use Rattle.link_steps.specs.Split.{Link}
use Rattle.shared_network.specs.Worked.{IsJob}
use Rattle.shared_network_tests.specs.declared.races.Job.{Job}
use Rattle.shared_network.proofs.WorkedNetworks.{new-job}
use Rattle.shared_network_tests.proofs.races.raced.Goals as goal

pub set_up_all-requires-after_bounds : goal.set_up_all-requires-after_bounds
set_up_all-requires-after_bounds g c κs within =
    let numbers = ap (map (λ (a : ActorNo). actor_number a)) c.requires.owners ∙ (λ i. c.requires.numbers.0 i ∷ c.requires.numbers.1 i ∷ []) in
    let one = new-job g.H.Home.table g.H.Home.owners g.H.Home.links 2 0 c.in_ok-network.first c.args.requests.0 (g.L.LinkStep.link_of c.args.links.0)
    c.in_ok-network.ensures.new.0 (ap (λ ns. slice_get ns 0) numbers) c.in_ok-network.ensures.actors.0
    c.requires.chans.0 (ap (λ (ls : List Link). slice_get ls 0) c.requires.links) c.requires.worked.0 c.requires.routes.0 in
    let other = new-job g.H.Home.table g.H.Home.owners g.H.Home.links 2 1 c.in_ok-network.second c.args.requests.1 (g.L.LinkStep.link_of c.args.links.1)
    c.in_ok-network.ensures.new.1 (ap (λ ns. slice_get ns 1) numbers) c.in_ok-network.ensures.actors.1
    c.requires.chans.1 (ap (λ (ls : List Link). slice_get ls 1) c.requires.links) c.requires.worked.1 c.requires.routes.1 in
    subst (Each (λ (job : Job). IsJob g.H.Home.table g.H.Home.owners g.H.Home.links job.pass job.request)) (sym c.in_ok-jobs.ensures) (one, (other, tt))
