use Rattle.std.proofs.Common.{◌≡◌, ◌++◌, map, length}
use Rattle.network_variants.specs.Joined.{joined}
use Rattle.network_variants.proofs.cutting.lines_of.Given as goal

abbrev pub decreases-loop-rest : goal.decreases-loop-rest
decreases-loop-rest l = length l.rest

-- the lines so far and what is left are the file
abbrev pub invariant-loop-rest : goal.invariant-loop-rest
invariant-loop-rest l = joined (map (λ line. line.items) l.lines.items) ++ l.rest ≡ l.file
