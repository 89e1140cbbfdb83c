-- The levels that a line tells are read one field after another, one for each hop of a route.
use Rattle.std.proofs.Common.{◌≡◌, ℕ, zero, suc, ◌+◌, ◌<◌, ◌≤◌, true, false, List, [], ◌∷◌, ◌++◌, Some, None, drop, get_or, length, map, take, refl, sym, ◌∙◌, ap, arith}
use Rattle.std.proofs.lemmas.List.{get_or-drop, take_more}
use Rattle.std.proofs.lemmas.Option.{same_Some}
use Rattle.std.specs.List.{slice_get}
use Rattle.std.specs.Prelude.{Result, Ok, Err}
use Rattle.std.specs.Result.{result_ok}
use Rattle.hop_reservation.specs.Offers.{AreLevels, next_levels}
use Rattle.hop_reservation.specs.declared.route.Hop.{Hop}
use Rattle.scenario_reader.specs.AuditLines.{is_level_field, are_level_fields}
use Rattle.scenario_reader.specs.Causes.{Judges}
use Rattle.scenario_reader.specs.Decimal.{value_of}
use Rattle.scenario_reader.specs.Fields.{field_at}
use Rattle.scenario_reader.specs.Forms.{number_rule}
use Rattle.scenario_reader.specs.declared.cause.LineCause.{LineCause}

-- the fields after the fifth
pub after-words : (fields : List (List ℕ)) (i : ℕ) → field_at fields (5 + i) ≡ get_or (drop 5 fields) i []
after-words fields i = sym (get_or-drop 5 fields i [])

-- a field that is there
pub level-there : (hop : Hop) (fields : List (List ℕ)) (i : ℕ) → is_level_field hop (get_or fields i []) ≡ true → i < length fields
level-there hop [] i level = cc
level-there hop (field ∷ fields) zero level = omega arith
level-there hop (field ∷ fields) (suc i) level = (let rest = level-there hop fields i level in omega (arith, rest))

-- a field that is a level of its hop leaves the rest
pub level-passes : (hops : List Hop) (fields : List (List ℕ)) (i : ℕ) (hop : Hop) → slice_get hops i ≡ Some hop
    → is_level_field hop (get_or fields i []) ≡ true
    → are_level_fields (drop i hops) (drop i fields) ≡ are_level_fields (drop (suc i) hops) (drop (suc i) fields)
level-passes [] fields i hop found level = cc
level-passes (first ∷ hops) [] i hop found level = cc
level-passes (first ∷ hops) (field ∷ fields) zero hop found level = (let same = same_Some first hop found in rw (same, level) refl)
level-passes (first ∷ hops) (field ∷ fields) (suc i) hop found level = level-passes hops fields i hop found level

-- one that isn't fails them all
pub level-stops : (hops : List Hop) (fields : List (List ℕ)) (i : ℕ) (hop : Hop) → slice_get hops i ≡ Some hop
    → is_level_field hop (get_or fields i []) ≡ false
    → are_level_fields (drop i hops) (drop i fields) ≡ false
level-stops [] fields i hop found level = cc
level-stops (first ∷ hops) [] zero hop found level = refl
level-stops (first ∷ hops) [] (suc i) hop found level = none hops i hop found where
  none : (hops : List Hop) (i : ℕ) (hop : Hop) → slice_get hops i ≡ Some hop → are_level_fields (drop i hops) [] ≡ false
  none [] i hop found = cc
  none (first ∷ hops) zero hop found = refl
  none (first ∷ hops) (suc i) hop found = none hops i hop found
level-stops (first ∷ hops) (field ∷ fields) zero hop found level = (let same = same_Some first hop found in rw (same, level) refl)
level-stops (first ∷ hops) (field ∷ fields) (suc i) hop found level = level-stops hops fields i hop found level

-- after the last hop another field fails them all
pub levels-over : (hops : List Hop) (fields : List (List ℕ)) (n : ℕ) → n ≡ length hops → n < length fields
    → are_level_fields (drop n hops) (drop n fields) ≡ false
levels-over [] [] zero whole within = absurd (omega (arith, within))
levels-over [] (field ∷ fields) zero whole within = refl
levels-over [] fields (suc n) whole within = cc
levels-over (hop ∷ hops) fields zero whole within = cc
levels-over (hop ∷ hops) [] (suc n) whole within = absurd (omega (arith, within))
levels-over (hop ∷ hops) (field ∷ fields) (suc n) whole within = levels-over hops fields n (omega (arith, whole)) (omega (arith, within))

-- ---- a field that was read as a number, or wasn't

pub level-read : (hop : Hop) (fields : List (List ℕ)) (i most told : ℕ) (field : List ℕ) (r : Result ℕ LineCause) → most ≡ length hop.bounds
    → field ≡ field_at fields (5 + i) → Judges r (number_rule 1 most field) (value_of field) → result_ok r ≡ Some told
    → (is_level_field hop (get_or (drop 5 fields) i []) ≡ true) × (told ≡ value_of (field_at fields (5 + i)))
level-read hop fields i most told field (Ok value) bounds at judged is =
    let same : field ≡ get_or (drop 5 fields) i [] = at ∙ after-words fields i in
    (rw (sym bounds, sym same, judged.0) refl, sym (same_Some value told is) ∙ judged.1 ∙ ap value_of at)
level-read hop fields i most told field (Err cause) bounds at judged is = cc

pub level-refused : (hop : Hop) (fields : List (List ℕ)) (i most : ℕ) (field : List ℕ) (r : Result ℕ LineCause) → most ≡ length hop.bounds
    → field ≡ field_at fields (5 + i) → Judges r (number_rule 1 most field) (value_of field) → result_ok r ≡ None
    → is_level_field hop (get_or (drop 5 fields) i []) ≡ false
level-refused hop fields i most field (Ok value) bounds at judged is = cc
level-refused hop fields i most field (Err cause) bounds at judged is =
    let same : field ≡ get_or (drop 5 fields) i [] = at ∙ after-words fields i in
    rw (sym bounds, sym same, judged) refl

-- no levels are those of a route
pub none-are : (hops : List Hop) (levels : List ℕ) → levels ≡ [] → AreLevels hops levels
unfolding AreLevels
none-are hops [] none = tt
none-are hops (level ∷ levels) none = cc

-- the levels so far, and one more
pub levels-more : (fields : List (List ℕ)) (i : ℕ) → i < length (drop 5 fields)
    → map value_of (take (i + 1) (drop 5 fields)) ≡ map value_of (take i (drop 5 fields)) ++ value_of (field_at fields (5 + i)) ∷ []
levels-more fields i within =
    ap (map value_of) (take_more (drop 5 fields) i [] within)
    ∙ along (take i (drop 5 fields)) (get_or (drop 5 fields) i [])
    ∙ ap (λ (f : List ℕ). map value_of (take i (drop 5 fields)) ++ value_of f ∷ []) (sym (after-words fields i))
  where
    along : (front : List (List ℕ)) (field : List ℕ) → map value_of (front ++ field ∷ []) ≡ map value_of front ++ value_of field ∷ []
    along [] field = refl
    along (first ∷ front) field = ap (λ (rest : List ℕ). value_of first ∷ rest) (along front field)

-- a level of its hop may be offered there after those before it
pub level-next : (hops : List Hop) (levels : List ℕ) (i level : ℕ) → AreLevels hops levels → i < length levels
    → level ≡ get_or levels i 0 → level ≤ next_levels hops (take i levels)
unfolding AreLevels next_levels
level-next hops [] i level are within is = absurd (omega (arith, within))
level-next [] (first ∷ levels) i level are within is = absurd are
level-next (hop ∷ hops) (first ∷ levels) zero level are within is = omega (arith, are.0.most, is)
level-next (hop ∷ hops) (first ∷ levels) (suc i) level are within is = level-next hops levels i level are.1 (omega (arith, within)) is
