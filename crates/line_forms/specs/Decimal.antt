-- A number is written in decimal: 1 to 18 digits with no sign and no leading 0, unless the number is 0 itself. So each number has one
-- form.
use Rattle.std.specs.Prelude.{ℕ, Bool, nat_eq, nat_le, not, ◌&&◌, ◌||◌, List, length, slice_index}
use Rattle.std.specs.Str.{all_ascii_digits}
use Rattle.std.specs.Str.Parse.{digits_value}

-- whether a field is a number so written
abbrev pub is_number : List ℕ → Bool
is_number field = all_ascii_digits field && nat_le 1 (length field) && nat_le (length field) 18 && (nat_eq (length field) 1 || not (nat_eq (slice_index field 0) 48))

-- the number that the digits stand for
abbrev pub value_of : List ℕ → ℕ
value_of field = digits_value 10 field
