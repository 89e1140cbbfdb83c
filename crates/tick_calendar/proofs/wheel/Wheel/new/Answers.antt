-- Each slot is empty.
use Rattle.std.proofs.Common.{◌≡◌, ℕ, List, Option, None, [], get_or, replicate, ap, ◌∙◌, sym, subst, arith, rules}
use Rattle.std.proofs.lemmas.List.{get_or-replicate}
use Rattle.tick_calendar.specs.Wheel.{IsWheel}
use Rattle.tick_calendar.proofs.TurnKeepsWaiting.{turn-begins, turn-ends}
use Rattle.tick_calendar.proofs.wheel.Wheel.new.Goals as goal

pub returns-clause-wheel : goal.returns-clause-wheel
returns-clause-wheel g c =
    let empty : c.in_ok-vec.field-0.items ≡ replicate 1024 None = c.in_ok-vec.ensures.items_if_clones_equal (λ y same. first_of (search rules, grind arith, cc)) in
    subst (λ l. IsWheel l c.in_ok-vec.field-0.items c.in_ok-vec-2.field-0.items 0) (sym c.new.ensures.items)
    (turn-ends [] c.in_ok-vec.field-0.items c.in_ok-vec-2.field-0.items 0
    (turn-begins 0 c.in_ok-vec.field-0.items c.in_ok-vec-2.field-0.items 0 (λ slot low. ap (λ (l : List (Option ℕ)). get_or l slot None) empty ∙ get_or-replicate 1024 slot None None low) (omega (arith, c.in_ok-vec.ensures.len, c.in_ok-vec.field-0.ok)) (omega (arith, c.in_ok-vec-2.ensures.len, c.in_ok-vec-2.field-0.ok))))

pub returns-clause-empty : goal.returns-clause-empty
returns-clause-empty g c = c.new.ensures.items
