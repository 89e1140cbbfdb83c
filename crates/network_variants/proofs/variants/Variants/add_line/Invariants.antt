use Rattle.std.proofs.Common.{◌≡◌, ◌++◌, drop}
use Rattle.network_variants.specs.Variants.{line_in, word_at, written}
use Rattle.network_variants.proofs.variants.Variants.add_line.Given as goal

-- what is written, and the places that are left
abbrev pub invariant-loop-place : goal.invariant-loop-place
invariant-loop-place l = l.text.items ++ written (word_at l.self.changes.items l.number) (drop l.place-index l.place-items) l.line.back.items ≡ l.initial.text.items ++ line_in (word_at l.self.changes.items l.number) l.line
