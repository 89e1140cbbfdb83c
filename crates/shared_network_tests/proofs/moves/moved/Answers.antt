use Rattle.std.proofs.Common.{◌≡◌, ◌≢◌, ◌≤◌, ℕ, List, [], ◌∷◌, length, map, ap, ◌∙◌, arith}
use Rattle.std.specs.List.{slice_get}
use Rattle.net_units.specs.Numbers.{actor_number, channel_number}
use Rattle.net_units.specs.declared.numbers.ActorNo.{ActorNo}
use Rattle.link_steps.specs.Split.{Link}
use Rattle.shared_network.proofs.WorkedNetworks.{owner-is, over-hops}
use Rattle.shared_network_tests.proofs.moves.moved.Goals as goal

some-of : (links : ℕ) → links ≡ 2 → 1 ≤ links
some-of links two = omega arith

apart-of : (left joined : ℕ) → left ≡ 0 → joined ≡ 1 → joined ≢ left
apart-of left joined zero one same = omega arith

pub moved_by-requires-clause-may : goal.moved_by-requires-clause-may
moved_by-requires-clause-may g c κs within =
    let numbers = ap (map (λ (a : ActorNo). actor_number a)) c.requires.owners ∙ (λ i. c.requires.owner i ∷ c.requires.owner i ∷ []) in
    let actor = c.in_ok-network.ensures.actors.0 in
    let left = c.requires.chans.0 in
    let joined = c.requires.chans.1 in
    record {
      new = c.in_ok-network.ensures.new.0;
      some = some-of (length g.H.Home.links) (ap (λ (ls : List Link). length ls) c.requires.links);
      owned_left = owner-is g.H.Home.owners 0 0 c.in_ok-network.first.actor c.args.requests.now.0.chan (ap (λ ns. slice_get ns 0) numbers) actor left;
      owned_joined = owner-is g.H.Home.owners 1 0 c.in_ok-network.first.actor c.args.requests.now.1.chan (ap (λ ns. slice_get ns 1) numbers) actor joined;
      hops_left = over-hops g.H.Home.links 0 (g.L.LinkStep.link_of c.args.links.0) c.args.requests.now.0.route (ap (λ (ls : List Link). slice_get ls 0) c.requires.links) c.requires.worked.0 c.requires.routes.0;
      hops_joined = over-hops g.H.Home.links 1 (g.L.LinkStep.link_of c.args.links.1) c.args.requests.now.1.route (ap (λ (ls : List Link). slice_get ls 1) c.requires.links) c.requires.worked.1 c.requires.routes.1;
      apart = apart-of (channel_number c.args.requests.now.0.chan) (channel_number c.args.requests.now.1.chan) left joined;
      small = c.requires.small;
    }

pub moved_by-requires-clause-new : goal.moved_by-requires-clause-new
moved_by-requires-clause-new g c κs within = c.in_ok-network.ensures.new.1
