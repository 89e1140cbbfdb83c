use Rattle.std.proofs.Common.{List, [], ◌∷◌, ◌++◌, map, sym, ap, ◌∙◌}
use Rattle.std.proofs.lemmas.List.{append_assoc}
use Rattle.std.specs.Vec.Iter.{into_iter_items}
use Rattle.link_ledger.specs.Tokens.{Token}
use Rattle.race_run.specs.declared.pieces.Piece.{Piece}
use Rattle.race_run.specs.declared.pieces.Piece.TheVariants.{Script}
use Rattle.race_run.proofs.pieces.pieces_of.Goals as goal

pub loop-pass-preserved : goal.loop-pass-preserved
loop-pass-preserved c =
    let rest : List Piece = map (λ (pass : Token). Script pass) (into_iter_items c.next.new.self) in
    ap (λ ps. ps ++ rest) c.in_ok-push.ensures.items ∙ append_assoc c.loop-pass.pieces.items (Script c.in-Some.pass ∷ []) rest
    ∙ ap (λ ps. c.loop-pass.pieces.items ++ map (λ (pass : Token). Script pass) ps) (sym c.in-Some.ensures.steps.0) ∙ c.loop-pass.invariant
