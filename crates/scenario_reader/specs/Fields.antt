-- The fields of a line (`line_forms` has what they are), and lines that may not be there.
use Rattle.std.specs.Prelude.{ℕ, List, [], ◌∷◌, Option, Some, None}
use Rattle.text_writer.specs.Lines.{whole_line}
pub use Rattle.line_forms.specs.Fields.{is_space, fields_of, line_of, is_graphic, is_field, are_fields, field_at, spaced}

-- the line, if there is one
abbrev pub lines_if : Option (List (List ℕ)) → List (List (List ℕ))
lines_if None = []
lines_if (Some fields) = fields ∷ []

-- the line, if there is one
abbrev pub text_if : Option (List (List ℕ)) → List ℕ
text_if None = []
text_if (Some fields) = whole_line fields
