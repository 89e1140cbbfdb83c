use Rattle.std.proofs.Common.{◌≡◌, length}
use Rattle.variant_answers.proofs.rows.empty_seats.Given as goal

-- so many places so far
abbrev pub invariant-loop : goal.invariant-loop
invariant-loop l = length l.seats.items ≡ l.counter
