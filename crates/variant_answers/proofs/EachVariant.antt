-- The outcome of a number is what stands in the place of that number.
use Rattle.std.proofs.Common.{◌≡◌, ℕ, ◌<◌, List, Some, Result, Ok, IfOk, length, map, sym, ap, ◌∙◌, subst, slice_get}
use Rattle.std.proofs.lemmas.Option.{slice_get_within}
use Rattle.link_steps.proofs.ListParts.{comes-from, mapped-at, stands-at}
use Rattle.network_variants.specs.declared.variants.Variants.{Variants}
use Rattle.variant_answers.specs.Outcomes.{IsOutcomeAt, IsSeat}
use Rattle.variant_answers.specs.declared.outcome.Outcome.{Outcome}
use Rattle.variant_answers.specs.declared.outcome.Wanted.{Wanted}
use Rattle.variant_answers.specs.declared.rows.Seat.{Seat}
use Rattle.variant_answers.specs.declared.trouble.Trouble.{Trouble}

abbrev pub in_seat : Seat → Result Outcome Trouble
in_seat seat = seat.outcome

abbrev sure : Outcome → Result Outcome Trouble
sure outcome = Ok outcome

pub each-variant : (wanted : Wanted) (variants : Variants) (outcomes : List Outcome) (empty full : List Seat) → map sure outcomes ≡ map in_seat full → length full ≡ length empty →
    ((n : ℕ) (x y : Seat) → slice_get empty n ≡ Some x → slice_get full n ≡ Some y → IsSeat wanted variants n y) →
    (n : ℕ) (outcome : Outcome) → slice_get outcomes n ≡ Some outcome → IsOutcomeAt wanted variants n outcome
each-variant wanted variants outcomes empty full same long judged n outcome at =
    let mapped : slice_get (map in_seat full) n ≡ Some (sure outcome) = ap (λ rs. slice_get rs n) (sym same) ∙ mapped-at sure outcomes n outcome at in
    let seat = comes-from in_seat full n (sure outcome) mapped in
    let inside : n < length empty = subst (λ m. n < m) long (slice_get_within full n seat.from seat.found) in
    let before = stands-at empty n inside in
    subst (λ (r : Result Outcome Trouble). IfOk r (IsOutcomeAt wanted variants n)) seat.is (judged n before.0 seat.from before.1 seat.found)
