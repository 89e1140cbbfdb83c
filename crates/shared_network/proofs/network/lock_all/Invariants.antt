use Rattle.std.proofs.Common.{[], map}
use Rattle.shared_network.proofs.Words.{into_iter_items, link_number, Each, seat_link}
use Rattle.shared_network.specs.Sight.{IsUnusedLink}
use Rattle.shared_network.proofs.NetworkOpened.{Locking}
use Rattle.shared_network.proofs.network.lock_all.Given as goal

-- so many links are locked, and these seats and links are left
abbrev pub invariant-loop-link : goal.invariant-loop-link
invariant-loop-link g l = record {
  locking : Locking g.H.Home.links (map (λ x. link_number x.link) l.locked.items) (map seat_link (into_iter_items l.seats)) (map g.L.LinkStep.link_of (into_iter_items l.link-iterator));
  unused : Each (IsUnusedLink g.H.Home.table) (into_iter_items l.seats);
  stand : Each (λ link. g.L.LinkStep.stands_for link []) (into_iter_items l.link-iterator);
}
