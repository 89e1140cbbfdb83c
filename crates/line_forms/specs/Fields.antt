-- A line of a scenario is made of fields, with exactly one space between two of them and none at either end. A
-- field is one or more bytes from 0x21 to 0x7E. So a line with two spaces in a row, with a tab or with a carriage
-- return has a part that isn't a field.
use Rattle.std.specs.Prelude.{ℕ, Bool, nat_eq, nat_le, not, ◌&&◌, List, [], ◌∷◌, length, slice_index_or, Option, Some, None}
use Rattle.std.specs.List.{list_all, slice_split, join_with_byte, flat_map}
use Rattle.text_writer.specs.Lines.{whole_line}

abbrev pub is_space : ℕ → Bool
is_space b = nat_eq b 32

-- the parts into which spaces divide a line; a line with no byte has one part, which is empty
abbrev pub fields_of : List ℕ → List (List ℕ)
fields_of line = slice_split is_space line

-- the line of these fields
abbrev pub line_of : List (List ℕ) → List ℕ
line_of fields = join_with_byte 32 fields

-- a byte that may stand in a field
abbrev pub is_graphic : ℕ → Bool
is_graphic b = nat_le 33 b && nat_le b 126

abbrev pub is_field : List ℕ → Bool
is_field part = not (nat_eq (length part) 0) && list_all is_graphic part

-- each part of the line is a field
abbrev pub are_fields : List (List ℕ) → Bool
are_fields fields = list_all is_field fields

-- the field at a place, from 0, or no bytes where there is none
abbrev pub field_at : List (List ℕ) → ℕ → List ℕ
field_at fields place = slice_index_or fields place []

-- the line, if there is one
abbrev pub lines_if : Option (List (List ℕ)) → List (List (List ℕ))
lines_if None = []
lines_if (Some fields) = fields ∷ []

-- fields after others of a line, each after a space
abbrev pub spaced : List (List ℕ) → List ℕ
spaced fields = flat_map (λ field. 32 ∷ field) fields

-- the line, if there is one
abbrev pub text_if : Option (List (List ℕ)) → List ℕ
text_if None = []
text_if (Some fields) = whole_line fields
