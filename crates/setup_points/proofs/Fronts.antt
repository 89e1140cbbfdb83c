-- The turns of a schedule's items up to a step: an item is cut where it goes past that.
use Rattle.std.proofs.Common.{◌≡◌, ℕ, zero, suc, ◌-◌, ◌+◌, ◌<◌, ◌≤◌, List, [], ◌∷◌, ◌++◌, length, get_or, take, min, refl, sym, ap, ◌∙◌, arith}
use Rattle.std.proofs.lemmas.List.{length-append, take_all, take_more}
use Rattle.net_units.specs.declared.numbers.ActorNo.{ActorNo}
use Rattle.call_script.specs.declared.schedule.Do.{Do}
use Rattle.run_engine.specs.schedules.Schedules.{repeated, turns_of, lined_turns}
use Rattle.run_engine.proofs.Schedules.ScheduleOutcome.{turns-append, turns-one}
use Rattle.run_engine.proofs.Runs.RunLength.{repeated-long}
use Rattle.setup_points.specs.Points.{with_count}

-- ---- the front of a list

take-both : {X : Type 0} (n : ℕ) (xs ys : List X) → take n (xs ++ ys) ≡ take n xs ++ take (n - length xs) ys
take-both zero [] ys = refl
take-both zero (x ∷ xs) ys = ap (λ k. take k ys) (let none : 0 ≡ 0 - suc (length xs) = omega arith in none)
take-both (suc n) [] ys = ap (λ k. take k ys) (let same : suc n ≡ suc n - 0 = omega arith in same)
take-both (suc n) (x ∷ xs) ys = ap (λ zs. x ∷ zs) (take-both n xs ys) ∙ ap (λ k. x ∷ (take n xs ++ take k ys)) (let same : n - length xs ≡ suc n - suc (length xs) = omega arith in same)

take-repeated : {X : Type 0} (n k : ℕ) (x : X) → take n (repeated k x) ≡ repeated (min k n) x
unfolding repeated
take-repeated zero zero x = refl
take-repeated zero (suc k) x = ap (λ m. repeated m x) (let same : 0 ≡ min (suc k) 0 = omega arith in same)
take-repeated (suc n) zero x = ap (λ m. repeated m x) (let same : 0 ≡ min 0 (suc n) = omega arith in same)
take-repeated (suc n) (suc k) x = ap (λ xs. x ∷ xs) (take-repeated n k x) ∙ ap (λ m. repeated m x) (let same : suc (min k n) ≡ min (suc k) (suc n) = omega arith in same)

-- ---- the items so far

-- their turns are those of the schedule up to a step, and so many are left after them
pub record IsFront (items : List Do) (steps i : ℕ) (front : List Do) (left : ℕ) : Type 0 where
  pub turns : turns_of front ≡ take steps (turns_of (take i items))
  pub rest : left ≡ steps - length (turns_of (take i items))

pub front-begins : (items front : List Do) (steps left : ℕ) → front ≡ [] → left ≡ steps → IsFront items steps 0 front left
unfolding lined_turns
front-begins items front steps left none all = record {
  turns = ap turns_of none ∙ none-of steps;
  rest = all ∙ (let same : steps ≡ steps - 0 = omega arith in same);
} where
  none-of : (n : ℕ) → turns_of [] ≡ take n (turns_of [])
  none-of zero = refl
  none-of (suc n) = refl

pub front-more : (items : List Do) (steps i : ℕ) (front more : List Do) (left rest : ℕ) (item : Do) → i < length items → item ≡ get_or items i item → IsFront items steps i front left
    → more ≡ front ++ with_count item (min item.count left) ∷ [] → rest ≡ left - min item.count left → IsFront items steps (i + 1) more rest
front-more items steps i front more left rest item within is kept added lessened =
    let before = turns_of (take i items) in
    let all : turns_of (take (i + 1) items) ≡ before ++ repeated item.count item.actor =
    ap turns_of (take_more items i item within ∙ ap (λ x. take i items ++ x ∷ []) (sym is)) ∙ turns-append (take i items) (item ∷ []) ∙ ap (λ (own : List ActorNo). before ++ own) (turns-one item) in
    let cut : take steps (turns_of (take (i + 1) items)) ≡ take steps before ++ repeated (min item.count left) item.actor =
    ap (take steps) all ∙ take-both steps before (repeated item.count item.actor) ∙ ap (λ n. take steps before ++ take n (repeated item.count item.actor)) (sym kept.rest)
    ∙ ap (λ (own : List ActorNo). take steps before ++ own) (take-repeated left item.count item.actor) in
    let put = with_count item (min item.count left) in
    record {
      turns = ap turns_of added ∙ turns-append front (put ∷ []) ∙ ap (λ (own : List ActorNo). own ++ turns_of (put ∷ [])) kept.turns ∙ ap (λ (own : List ActorNo). take steps before ++ own) (turns-one put) ∙ sym cut;
      rest = lessened ∙ cut-by steps (length before) item.count left kept.rest ∙ ap (λ n. steps - n) (sym (ap length all ∙ length-append before (repeated item.count item.actor) ∙ ap (λ n. length before + n) (repeated-long item.count item.actor)));
    } where
      cut-by : (steps before count left : ℕ) → left ≡ steps - before → left - min count left ≡ steps - (before + count)
      cut-by steps before count left is = omega (arith, is)

pub front-all : (items front : List Do) (steps i left : ℕ) → length items ≤ i → IsFront items steps i front left → turns_of front ≡ take steps (turns_of items)
front-all items front steps i left past kept = kept.turns ∙ ap (λ own. take steps (turns_of own)) (take_all i items past)

-- ---- items and an actor after them

pub followed-by : (front items : List Do) (item : Do) → items ≡ front ++ item ∷ [] → turns_of items ≡ turns_of front ++ repeated item.count item.actor
followed-by front items item added = ap turns_of added ∙ turns-append front (item ∷ []) ∙ ap (λ (own : List ActorNo). turns_of front ++ own) (turns-one item)
