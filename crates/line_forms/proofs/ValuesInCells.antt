-- Values in cells: one more after those that stand there.
use Rattle.std.proofs.Common.{◌≡◌, ℕ, ◌+◌, ◌<◌, ◌≤◌, List, [], ◌∷◌, ◌++◌, length, take, set, arith, length-take-le}
use Rattle.std.proofs.lemmas.List.{take_more_set}
use Rattle.line_forms.specs.declared.value.FieldValue.{FieldValue}

pub values_more : (cells : List FieldValue) (place : ℕ) (value : FieldValue) → place < length cells → take (place + 1) (set cells place value) ≡ take place cells ++ value ∷ []
values_more cells place value h = take_more_set cells place value h

-- cells that are full have as many values as they have cells
pub values_few : (cells : List FieldValue) (len : ℕ) → length cells ≡ 16 → len ≤ 16 → length (take len cells) < 16 → len < 16
values_few cells len whole few less = omega (arith, length-take-le len cells (omega (arith, whole)))
