-- The form of a line is a list of parts: fixed words, and fields that have to be a name or a number. Two parts take several fields:
-- the names of a route, 1 to 16 fields up to the word `contract`; and the numbers of the levels, 1 to 8 fields at the end. A line has
-- a form when its fields fit the parts one by one. A form begins with a fixed word, it has at most 16 fields at places of their own,
-- and its route or its numbers once at most: after a route comes the word `contract`, and after the numbers nothing.
use Rattle.std.specs.Prelude.{ℕ, suc, Bool, true, false, nat_le, ◌&&◌, if◌then◌else◌, Option, Some, None, List, [], ◌∷◌, length, drop}
use Rattle.line_forms.specs.Words.{is_word}
use Rattle.line_forms.specs.declared.form.Part.{Part}
use Rattle.line_forms.specs.declared.form.Part.TheVariants as part
use Rattle.line_forms.specs.declared.word.Keyword.TheVariants as word

-- how many fields stand before the word `contract`, or before the end
abbrev pub route_length : List (List ℕ) → ℕ
route_length [] = 0
route_length (field ∷ fields) = if is_word word.Contract field then 0 else suc (route_length fields)

-- one field, where the test holds of the first
abbrev pub one_field : (List ℕ → Bool) → List (List ℕ) → Option ℕ
one_field test [] = None
one_field test (field ∷ fields) = if test field then Some 1 else None

-- `count` fields, where they are from 1 to `most`
abbrev pub fields_up_to : ℕ → ℕ → Option ℕ
fields_up_to most count = if nat_le 1 count && nat_le count most then Some count else None

-- how many of the fields a part takes from the first on, or none where they don't fit it
abbrev pub fields_taken : Part → List (List ℕ) → Option ℕ
fields_taken (part.Word keyword) fields = one_field (is_word keyword) fields
fields_taken (part.One slot) fields = one_field (λ field. true) fields
fields_taken (part.Route set) fields = fields_up_to 16 (route_length fields)
fields_taken (part.Numbers low high) fields = fields_up_to 8 (length fields)

-- goes on after the fields that a part takes
abbrev pub on_taken : Option ℕ → (ℕ → Bool) → Bool
on_taken None go_on = false
on_taken (Some count) go_on = go_on count

-- whether the fields have the form: each part takes some, and none is left
abbrev pub has_form : List Part → List (List ℕ) → Bool
has_form [] [] = true
has_form [] (field ∷ fields) = false
has_form (part ∷ parts) fields = on_taken (fields_taken part fields) (λ count. has_form parts (drop count fields))

-- ---- what a form may be

-- how many fields have places of their own
abbrev pub ones_of : List Part → ℕ
ones_of [] = 0
ones_of (part.Word keyword ∷ parts) = ones_of parts
ones_of (part.One slot ∷ parts) = suc (ones_of parts)
ones_of (part.Route set ∷ parts) = ones_of parts
ones_of (part.Numbers low high ∷ parts) = ones_of parts

-- whether each part takes one field
abbrev pub are_single : List Part → Bool
are_single [] = true
are_single (part.Word keyword ∷ parts) = are_single parts
are_single (part.One slot ∷ parts) = are_single parts
are_single (part.Route set ∷ parts) = false
are_single (part.Numbers low high ∷ parts) = false

-- what may follow a route: the word `contract`, and parts that take one field each
abbrev pub ends_route : List Part → Bool
ends_route (part.Word word.Contract ∷ parts) = are_single parts
ends_route other = false

-- nothing may follow the numbers
abbrev pub is_end : List Part → Bool
is_end [] = true
is_end (part ∷ parts) = false

-- parts of which at most one takes several fields
abbrev pub have_one_run : List Part → Bool
have_one_run [] = true
have_one_run (part.Word keyword ∷ parts) = have_one_run parts
have_one_run (part.One slot ∷ parts) = have_one_run parts
have_one_run (part.Route set ∷ parts) = ends_route parts
have_one_run (part.Numbers low high ∷ parts) = is_end parts

abbrev pub is_form : List Part → Bool
is_form (part.Word keyword ∷ parts) = have_one_run parts && nat_le (ones_of parts) 16
is_form other = false
