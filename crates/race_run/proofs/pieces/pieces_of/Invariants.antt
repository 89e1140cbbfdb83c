use Rattle.std.proofs.Common.{◌≡◌, ◌++◌, map}
use Rattle.std.specs.Vec.Iter.{into_iter_items}
use Rattle.link_ledger.specs.Tokens.{Token}
use Rattle.race_run.specs.declared.pieces.Piece.TheVariants.{Script}
use Rattle.race_run.proofs.pieces.pieces_of.Given as goal

-- a piece for each pass that was taken
abbrev pub invariant-loop-pass : goal.invariant-loop-pass
invariant-loop-pass l = l.pieces.items ++ map (λ (pass : Token). Script pass) (into_iter_items l.pass-iterator) ≡ map (λ (pass : Token). Script pass) l.fn.callers.items
