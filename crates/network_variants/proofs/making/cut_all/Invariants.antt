use Rattle.std.proofs.Common.{◌≡◌, take, map}
use Rattle.network_variants.specs.Joined.{joined}
use Rattle.network_variants.specs.Variants.{own_of, text_in}
use Rattle.network_variants.proofs.making.cut_all.Given as goal

-- the lines so far
abbrev pub invariant-loop-line : goal.invariant-loop-line
invariant-loop-line l = text_in own_of l.cuts.items ≡ joined (map (λ line. line.items) (take l.line-index l.lines))
