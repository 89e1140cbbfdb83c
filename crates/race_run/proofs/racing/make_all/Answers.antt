use Rattle.std.proofs.Common.{◌≡◌, suc, true, false, List, length, map, sym, subst, arith}
use Rattle.link_steps.specs.Lists.{Each}
use Rattle.shared_network.specs.Gathering.{AreAll, token_actor}
use Rattle.shared_network.proofs.Numbering.LinkNumbers.{numbered-length}
use Rattle.call_script.specs.Tasks.{network_of}
use Rattle.link_ledger.specs.Tokens.{Token}
use Rattle.race_run.specs.Pieces.{AreNew, MayBegin}
use Rattle.race_run.specs.Tail.{GoesLast, own_in}
use Rattle.race_run.specs.Whole.{HasMadeAll}
use Rattle.race_run.proofs.PieceSteps.RacePieces.{all-begin, last-own, last-plane, made-actors, made-all, made-are_all, made-in_order, made-of}
use Rattle.race_run.proofs.PieceSteps.RaceSizes.{plane-new}
use Rattle.race_run.proofs.PieceSteps.TailComesLast.{tail-last}
use Rattle.race_run.proofs.racing.make_all.Goals as goal

pub unreachable-requires : goal.unreachable-requires
unreachable-requires g c =
    let long = numbered-length token_actor c.args.passes.items (suc (length c.args.plan.now.callers)) c.requires.new.actors in
    let clash : false ≡ true = c.in_default.ensures.variant.1 (omega (arith, long, c.args.passes.ok.0)) in cc

pub make_pieces-requires-clause-begin : goal.make_pieces-requires-clause-begin
make_pieces-requires-clause-begin g c κs within =
    let all = subst (AreNew g.H.Home.table g.H.Home.owners g.H.Home.links c.args.plan.now) c.in-Some.ensures.items c.requires.new in
    subst (Each (MayBegin g.H.Home.table g.H.Home.owners g.H.Home.links c.args.plan.now)) (sym c.in_ok-pieces.ensures)
    (all-begin g.H.Home.table g.H.Home.owners g.H.Home.links c.args.plan.now c.pop.new.self.items c.in-Some.last all c.in_ok-plane.plane
    (plane-new c.args.plan.now c.in_ok-plane.plane c.in-Some.last c.in_ok-plane.ensures
    (last-own g.H.Home.table g.H.Home.owners g.H.Home.links c.args.plan.now c.pop.new.self.items c.in-Some.last all)
    (last-plane g.H.Home.table g.H.Home.owners g.H.Home.links c.args.plan.now c.pop.new.self.items c.in-Some.last all)))

pub passes_of-requires : goal.passes_of-requires
passes_of-requires g c = made-in_order g.H.Home.table g.H.Home.owners g.H.Home.links c.args.plan.now c.in_ok-pieces.pieces.items c.in_ok-made.made.items c.pop.new.self.items c.in_ok-plane.plane c.in-Some.last c.in_ok-pieces.ensures c.in_ok-made.ensures

pub make_tail-requires-clause-may_step : goal.make_tail-requires-clause-may_step
make_tail-requires-clause-may_step g c κs within =
    (made-of g.H.Home.table g.H.Home.owners g.H.Home.links c.args.plan.now c.in_ok-pieces.pieces.items c.in_ok-made.made.items c.pop.new.self.items c.in_ok-callers.callers.items c.in_ok-plane.plane c.in_ok-callers.plane c.in-Some.last c.in_ok-callers.last c.in_ok-pieces.ensures c.in_ok-callers.ensures c.in_ok-made.ensures).rounds.goes.may_step

pub make_tail-requires-clause-at : goal.make_tail-requires-clause-at
make_tail-requires-clause-at g c κs within =
    (made-of g.H.Home.table g.H.Home.owners g.H.Home.links c.args.plan.now c.in_ok-pieces.pieces.items c.in_ok-made.made.items c.pop.new.self.items c.in_ok-callers.callers.items c.in_ok-plane.plane c.in_ok-callers.plane c.in-Some.last c.in_ok-callers.last c.in_ok-pieces.ensures c.in_ok-callers.ensures c.in_ok-made.ensures).rounds.ends

pub returns-clause-all : goal.returns-clause-all
returns-clause-all g c =
    let all = subst (AreNew g.H.Home.table g.H.Home.owners g.H.Home.links c.args.plan.now) c.in-Some.ensures.items c.requires.new in
    let made = made-of g.H.Home.table g.H.Home.owners g.H.Home.links c.args.plan.now c.in_ok-pieces.pieces.items c.in_ok-made.made.items c.pop.new.self.items c.in_ok-callers.callers.items c.in_ok-plane.plane c.in_ok-callers.plane c.in-Some.last c.in_ok-callers.last c.in_ok-pieces.ensures c.in_ok-callers.ensures c.in_ok-made.ensures in
    subst (AreAll g.H.Home.table g.H.Home.owners g.H.Home.links) (sym c.in_ok-push.ensures.items)
    (made-are_all g.H.Home.table g.H.Home.owners g.H.Home.links c.args.plan.now c.pop.new.self.items c.in_ok-callers.callers.items c.in_ok-plane.plane c.in_ok-callers.plane c.in-Some.last c.in_ok-callers.last c.in_ok-last.last all made
    (record { made = c.in_ok-last.ensures.made; goes = c.in_ok-last.ensures.ready; actor = c.in_ok-last.ensures.actor }))

pub returns-clause-actors : goal.returns-clause-actors
returns-clause-actors g c =
    let all = subst (AreNew g.H.Home.table g.H.Home.owners g.H.Home.links c.args.plan.now) c.in-Some.ensures.items c.requires.new in
    let made = made-of g.H.Home.table g.H.Home.owners g.H.Home.links c.args.plan.now c.in_ok-pieces.pieces.items c.in_ok-made.made.items c.pop.new.self.items c.in_ok-callers.callers.items c.in_ok-plane.plane c.in_ok-callers.plane c.in-Some.last c.in_ok-callers.last c.in_ok-pieces.ensures c.in_ok-callers.ensures c.in_ok-made.ensures in
    rw c.in_ok-push.ensures.items
    (made-actors g.H.Home.table g.H.Home.owners g.H.Home.links c.args.plan.now c.pop.new.self.items c.in_ok-callers.callers.items c.in_ok-plane.plane c.in_ok-callers.plane c.in-Some.last c.in_ok-callers.last c.in_ok-last.last all made
    (record { made = c.in_ok-last.ensures.made; goes = c.in_ok-last.ensures.ready; actor = c.in_ok-last.ensures.actor }))

pub returns-clause-made : goal.returns-clause-made
returns-clause-made g c =
    let all = subst (AreNew g.H.Home.table g.H.Home.owners g.H.Home.links c.args.plan.now) c.in-Some.ensures.items c.requires.new in
    let made = made-of g.H.Home.table g.H.Home.owners g.H.Home.links c.args.plan.now c.in_ok-pieces.pieces.items c.in_ok-made.made.items c.pop.new.self.items c.in_ok-callers.callers.items c.in_ok-plane.plane c.in_ok-callers.plane c.in-Some.last c.in_ok-callers.last c.in_ok-pieces.ensures c.in_ok-callers.ensures c.in_ok-made.ensures in
    subst (Each (HasMadeAll (network_of c.args.plan.now))) (sym c.in_ok-push.ensures.items)
    (made-all g.H.Home.table g.H.Home.owners g.H.Home.links c.args.plan.now c.pop.new.self.items c.in_ok-callers.callers.items c.in_ok-plane.plane c.in_ok-callers.plane c.in-Some.last c.in_ok-callers.last c.in_ok-last.last all made
    (record { made = c.in_ok-last.ensures.made; goes = c.in_ok-last.ensures.ready; actor = c.in_ok-last.ensures.actor }))

pub returns-clause-tail : goal.returns-clause-tail
returns-clause-tail g c =
    let made = made-of g.H.Home.table g.H.Home.owners g.H.Home.links c.args.plan.now c.in_ok-pieces.pieces.items c.in_ok-made.made.items c.pop.new.self.items c.in_ok-callers.callers.items c.in_ok-plane.plane c.in_ok-callers.plane c.in-Some.last c.in_ok-callers.last c.in_ok-pieces.ensures c.in_ok-callers.ensures c.in_ok-made.ensures in
    tail-last c.args.plan.now c.in_ok-callers.callers.items c.push.new.self.items c.in_ok-callers.plane c.in_ok-callers.last c.in_ok-last.last made.rounds.ends
    (subst (λ (ps : List Token). GoesLast (map own_in ps) c.in_ok-callers.last c.in_ok-last.last) c.deref.ensures.value c.in_ok-last.ensures.last) c.in_ok-push.ensures.items
