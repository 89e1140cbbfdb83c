use Rattle.std.proofs.Common.{◌≡◌, ◌++◌, length, map}
use Rattle.shared_network.proofs.Words.{into_iter_items, actor_number, Each, up_to, IsNewPass, seat_actor}
use Rattle.shared_network.specs.Ready.{IsNew}
use Rattle.shared_network.proofs.network.passes_of.Given as goal

-- the passes made, and the seats left
abbrev pub invariant-loop-seat : goal.invariant-loop-seat
invariant-loop-seat g l = record {
  actors : map (λ pass. actor_number pass.actor) l.passes.items ++ map seat_actor (into_iter_items l.seat-iterator) ≡ up_to (length l.fn.seats.items);
  made : Each (IsNew g.H.Home.table g.H.Home.owners g.H.Home.links (length l.fn.seats.items)) l.passes.items;
  left : Each (IsNewPass g.H.Home.table (length l.fn.seats.items)) (into_iter_items l.seat-iterator);
}
