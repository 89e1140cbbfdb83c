-- Names for the tests: `east` and `west` are known in each set, by the numbers 3 and 4, and they are a pair in this order.
use Rattle.std.specs.Prelude.{ℕ, Bool, nat_eq, ◌&&◌, if◌then◌else◌, Option, Some, None, List, codes}
use Rattle.std.specs.Cmp.Lexicographic.{pointwise}
use Rattle.line_forms.specs.Known.{KnownNames}

abbrev pub number_of : List ℕ → Option ℕ
number_of name = if pointwise nat_eq name (codes "east") then Some 3 else (if pointwise nat_eq name (codes "west") then Some 4 else None)

abbrev pub are_paired : ℕ → ℕ → Bool
are_paired first second = nat_eq first 3 && nat_eq second 4

abbrev pub two_names : KnownNames
two_names = record { number = λ set name. number_of name; paired = are_paired }
