use Rattle.std.proofs.Common.{◌≡◌, ◌++◌, drop}
use Rattle.network_variants.specs.Variants.{text_in, word_at}
use Rattle.network_variants.proofs.variants.Variants.text.Given as goal

-- what is written, and the lines that are left
abbrev pub invariant-loop-line : goal.invariant-loop-line
invariant-loop-line l = l.text.items ++ text_in (word_at l.self.changes.items l.number) (drop l.line-index l.line-items) ≡ text_in (word_at l.self.changes.items l.number) l.self.lines.items
