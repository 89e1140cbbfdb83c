use Rattle.std.proofs.Common.{Ok, ap, ◌∙◌, subst}
use Rattle.race_run.specs.Pieces.{AreInOrder, IsOfRounds}
use Rattle.race_run.specs.declared.pieces.Piece.{Piece}
use Rattle.race_run.proofs.PieceSteps.RacePieces.{in-order}
use Rattle.race_run.proofs.pieces.passes_of.Goals as goal

pub unreachable-requires-in_default-2 : goal.unreachable-requires-in_default-2
unreachable-requires-in_default-2 c =
    subst IsOfRounds (c.in_ok-plane.was ∙ ap (λ (piece : Piece). Ok piece) c.in_default-2.is) (in-order c.pop.new.self.items c.in-Some.ended (subst AreInOrder c.in-Some.ensures.items c.requires)).1

pub callers_in-requires : goal.callers_in-requires
callers_in-requires c = (in-order c.pop.new.self.items c.in-Some.ended (subst AreInOrder c.in-Some.ensures.items c.requires)).0
