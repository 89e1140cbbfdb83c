use Rattle.std.proofs.Common.{ℕ, List, [], ◌∷◌, ◌++◌, length, map, sym, ap, ◌∙◌, subst}
use Rattle.shared_network.proofs.Words.{map-append, append_assoc, into_iter_items, actor_number, Each, IsNewPass, seat_actor}
use Rattle.link_steps.proofs.SearchAndFilter.{Each-append}
use Rattle.shared_network.specs.Ready.{IsNew}
use Rattle.shared_network.proofs.NetworkOpened.{pass-new}
use Rattle.shared_network.proofs.network.passes_of.Goals as goal

pub loop-seat-preserved : goal.loop-seat-preserved
loop-seat-preserved g c =
    let n = length c.args.seats.items in
    let left = subst (Each (IsNewPass g.H.Home.table n)) c.in-Some.ensures.steps.0 c.loop-seat.invariant.left in
    let made = c.new.ensures in
    let pushed = c.in_ok-push.ensures.items in
    let rest : List ℕ = map seat_actor (into_iter_items c.next.new.self) in
    record {
      actors = ap (λ ps. map (λ pass. actor_number pass.actor) ps ++ rest) pushed
          ∙ ap (λ ns. ns ++ rest) (map-append (λ pass. actor_number pass.actor) c.loop-seat.passes.items (c.new.result ∷ []))
          ∙ append_assoc (map (λ pass. actor_number pass.actor) c.loop-seat.passes.items) (actor_number c.new.result.actor ∷ []) rest
          ∙ ap (λ a. map (λ pass. actor_number pass.actor) c.loop-seat.passes.items ++ actor_number a ∷ rest) made.actor
          ∙ ap (λ ss. map (λ pass. actor_number pass.actor) c.loop-seat.passes.items ++ map seat_actor ss) (sym c.in-Some.ensures.steps.0)
          ∙ c.loop-seat.invariant.actors;
      made = subst (Each (IsNew g.H.Home.table g.H.Home.owners g.H.Home.links n)) (sym pushed)
          (Each-append (IsNew g.H.Home.table g.H.Home.owners g.H.Home.links n) c.loop-seat.passes.items (c.new.result ∷ []) c.loop-seat.invariant.made
          (pass-new g.H.Home.table g.H.Home.owners g.H.Home.links n c.in-Some.seat c.new.result left.0 made.actor made.seat.0 made.seat.1 made.seat.2 made.own made.spent, tt));
      left = left.1;
    }
