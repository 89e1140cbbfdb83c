use Rattle.std.proofs.Common.{◌≡◌, take, map}
use Rattle.variant_answers.proofs.outcome.names_of.Given as goal

-- the names of the requests so far
abbrev pub invariant-loop-entry : goal.invariant-loop-entry
invariant-loop-entry l = l.names.items ≡ map (λ entry. entry.name) (take l.entry-index l.entries)
