use Rattle.std.proofs.Common.{◌≡◌, ◌++◌, Ok, map}
use Rattle.std.specs.Vec.Iter.{into_iter_items}
use Rattle.variant_answers.proofs.rows.outcomes_in.Given as goal

-- the outcomes so far, and the places that are left
abbrev pub invariant-loop-seat : goal.invariant-loop-seat
invariant-loop-seat l = map Ok l.outcomes.items ++ map (λ seat. seat.outcome) (into_iter_items l.seat-iterator) ≡ map (λ seat. seat.outcome) l.fn.seats.items
