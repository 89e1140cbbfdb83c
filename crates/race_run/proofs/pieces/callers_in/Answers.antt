use Rattle.std.proofs.Common.{List, Result, Ok, [], ◌∷◌, ◌++◌, map, sym, ap, subst, ◌∙◌}
use Rattle.std.proofs.lemmas.List.{append_assoc, map-append}
use Rattle.std.specs.Vec.Iter.{into_iter_items}
use Rattle.net_units.specs.declared.OutOfMemory.{OutOfMemory}
use Rattle.link_ledger.specs.Tokens.{Token}
use Rattle.link_steps.specs.Lists.{Each}
use Rattle.race_run.specs.Pieces.{IsOfScript}
use Rattle.race_run.specs.declared.pieces.Piece.{Piece}
use Rattle.race_run.specs.declared.pieces.Piece.TheVariants.{Script}
use Rattle.race_run.proofs.pieces.callers_in.Goals as goal

pub unreachable-requires : goal.unreachable-requires
unreachable-requires c =
    let left = subst (Each IsOfScript) c.in-Some.ensures.steps.0 c.loop-one.invariant.left in
    subst IsOfScript (c.in_ok-pass.was ∙ ap (λ (piece : Piece). Ok piece) c.in_default.is) left.0

pub loop-one-preserved : goal.loop-one-preserved
loop-one-preserved c =
    let front : List (Result Piece OutOfMemory) = map (λ (pass : Token). Ok (Script pass)) c.loop-one.callers.items in
    let rest : List (Result Piece OutOfMemory) = into_iter_items c.next.new.self in
    record {
      taken = ap (λ ps. map (λ (pass : Token). Ok (Script pass)) ps ++ rest) c.in_ok-push.ensures.items
          ∙ ap (λ ps. ps ++ rest) (map-append (λ (pass : Token). Ok (Script pass)) c.loop-one.callers.items (c.in-Script.pass ∷ []))
          ∙ append_assoc front (Ok (Script c.in-Script.pass) ∷ []) rest
          ∙ ap (λ one. front ++ one ∷ rest) (sym (c.in_ok-pass.was ∙ ap (λ piece. Ok piece) c.in-Script.is))
          ∙ ap (λ ps. front ++ ps) (sym c.in-Some.ensures.steps.0) ∙ c.loop-one.invariant.taken;
      left = (subst (Each IsOfScript) c.in-Some.ensures.steps.0 c.loop-one.invariant.left).1;
    }
