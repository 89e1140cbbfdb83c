use Rattle.std.proofs.Common.{◌≡◌, ◌++◌}
use Rattle.network_variants.specs.Variants.{own_of, written}
use Rattle.network_variants.proofs.cutting.cut.Given as goal

-- the places so far and what is left are the line
abbrev pub invariant-loop-mark : goal.invariant-loop-mark
invariant-loop-mark l = written own_of l.places.items l.rest ≡ l.line
