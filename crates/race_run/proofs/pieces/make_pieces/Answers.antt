use Rattle.std.proofs.Common.{get_or, sym, ◌∙◌, subst, arith}
use Rattle.race_run.specs.Pieces.{IsMade}
use Rattle.race_run.specs.declared.pieces.Piece.{Piece}
use Rattle.race_run.proofs.PieceSteps.RacePieces.{pairwise-at}
use Rattle.race_run.proofs.pieces.make_pieces.Goals as goal

pub returns : goal.returns
returns g c =
    pairwise-at (IsMade g.H.Home.table g.H.Home.owners g.H.Home.links c.args.plan.now) c.args.pieces.items c.in_ok-made.made.items
    (omega (arith, c.in_ok-made.ensures.len, c.in_ok-made.made.ok.0, c.args.pieces.ok.0))
    (λ i x y below here there.
    (let given = (c.in_ok-made.ensures.each i y below).1 in
    subst (IsMade g.H.Home.table g.H.Home.owners g.H.Home.links c.args.plan.now x) there
    (subst (λ (job : Piece). IsMade g.H.Home.table g.H.Home.owners g.H.Home.links c.args.plan.now job (get_or c.in_ok-made.made.items i y)) (sym (given.job_is x) ∙ here) given.call.met)))
