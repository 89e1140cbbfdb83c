-- A name is 1 to 16 bytes: a letter, and then letters, digits and underscores. Two words of the scenario's
-- own grammar, `contract` and `plane`, aren't names. Names are compared byte by byte.
use Rattle.std.specs.Prelude.{ℕ, Bool, false, not, nat_eq, nat_le, ◌&&◌, ◌||◌, List, [], ◌∷◌, length, codes}
use Rattle.std.specs.List.{list_all}
use Rattle.std.specs.Cmp.Lexicographic.{pointwise}
use Rattle.net_units.specs.Limits.{most_name}

-- an ASCII letter, upper or lower case
abbrev pub is_letter : ℕ → Bool
is_letter b = (nat_le 65 b && nat_le b 90) || (nat_le 97 b && nat_le b 122)

-- an ASCII digit
abbrev pub is_digit : ℕ → Bool
is_digit b = nat_le 48 b && nat_le b 57

-- a byte that may stand after the first of a name
abbrev pub is_name_byte : ℕ → Bool
is_name_byte b = is_letter b || is_digit b || nat_eq b 95

-- a letter, and then bytes that may stand after one
abbrev pub begins_as_name : List ℕ → Bool
begins_as_name [] = false
begins_as_name (b ∷ bs) = is_letter b && list_all is_name_byte bs

-- the words of the grammar that name nothing
abbrev pub is_kept_word : List ℕ → Bool
is_kept_word bs = pointwise nat_eq bs (codes "contract") || pointwise nat_eq bs (codes "plane")

-- these bytes are a name
abbrev pub is_name : List ℕ → Bool
is_name bs = begins_as_name bs && nat_le (length bs) most_name && not (is_kept_word bs)
