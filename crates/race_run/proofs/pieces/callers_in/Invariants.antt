use Rattle.std.proofs.Common.{◌≡◌, ◌++◌, Ok, map}
use Rattle.std.specs.Vec.Iter.{into_iter_items}
use Rattle.link_ledger.specs.Tokens.{Token}
use Rattle.link_steps.specs.Lists.{Each}
use Rattle.race_run.specs.Pieces.{IsOfScript}
use Rattle.race_run.specs.declared.pieces.Piece.TheVariants.{Script}
use Rattle.race_run.proofs.pieces.callers_in.Given as goal

-- a pass for each piece that was taken, and the pieces that are left
abbrev pub invariant-loop-one : goal.invariant-loop-one
invariant-loop-one l = record {
  taken : map (λ (pass : Token). Ok (Script pass)) l.callers.items ++ into_iter_items l.one-iterator ≡ l.fn.made.items;
  left : Each IsOfScript (into_iter_items l.one-iterator);
}
