-- The plan with some more like each of several of its requests: how it is made, one kind after another, and how many requests it has.
use Rattle.std.proofs.Common.{◌≡◌, ℕ, ◌+◌, ◌-◌, ◌*◌, ◌<◌, ◌≤◌, List, [], ◌∷◌, length, get_or, take, reverse, sym, ap, ◌∙◌, subst, arith}
use Rattle.std.proofs.Math.Nat.{suc-mul}
use Rattle.std.proofs.lemmas.List.{length-append, length-map, length-reverse, reverse-append, take_more}
use Rattle.call_script.specs.Parts.{PlanParts}
use Rattle.question_plans.specs.Alone.{changed}
use Rattle.question_plans.specs.Kept.{changed_plan}
use Rattle.question_plans.specs.More.{IsWithMoreAfter}
use Rattle.question_plans.specs.declared.change.Change.TheVariants.{Nothing}
use Rattle.setup_points.specs.Rooms.{IsWithEachAfter}

pub none-more : (parts made : PlanParts) (count : ℕ) → made ≡ changed_plan Nothing parts → IsWithEachAfter parts [] count made
unfolding IsWithEachAfter
none-more parts made count same = same

pub kind-more : (parts so_far made : PlanParts) (numbers : List ℕ) (i count : ℕ) → i < length numbers → get_or numbers i 0 < length parts.requests
    → IsWithEachAfter parts (reverse (take i numbers)) count so_far → IsWithMoreAfter so_far (get_or numbers i 0) count made → IsWithEachAfter parts (reverse (take (i + 1) numbers)) count made
unfolding IsWithEachAfter
kind-more parts so_far made numbers i count inside own before more =
    let turned : get_or numbers i 0 ∷ reverse (take i numbers) ≡ reverse (take (i + 1) numbers) = sym (ap reverse (take_more numbers i 0 inside) ∙ reverse-append (take i numbers) (get_or numbers i 0 ∷ [])) in
    subst (λ (past : List ℕ). IsWithEachAfter parts past count made) turned (own, (so_far, before, more))

pub requests-with-each : (parts made : PlanParts) (past : List ℕ) (count : ℕ) → IsWithEachAfter parts past count made → length made.requests ≡ length parts.requests + length past * count
unfolding IsWithEachAfter
requests-with-each parts made [] count same = ap (λ (p : PlanParts). length p.requests) same ∙ length-map parts.requests (changed Nothing) ∙ omega arith
requests-with-each parts made (number ∷ past) count is =
    let so_far = requests-with-each parts is.1.0 past count is.1.1 in
    omega (arith, so_far, ap length is.1.2.opener.copies.added, length-append is.1.0.requests is.1.2.opener.copies.copies, is.1.2.opener.copies.many, suc-mul (length past) count)

-- a request behind the plan's own is a copy of one of the numbers
pub place-inside : (parts made : PlanParts) (numbers : List ℕ) (count at : ℕ) → IsWithEachAfter parts (reverse numbers) count made → length parts.requests ≤ at → at < length made.requests
    → at - length parts.requests < length numbers * count
place-inside parts made numbers count at is from inside =
    let many : length made.requests ≡ length parts.requests + length numbers * count =
    requests-with-each parts made (reverse numbers) count is ∙ ap (λ n. length parts.requests + n * count) (length-reverse numbers) in
    omega arith
