-- What the fields of a line say, but for its fixed words: a name, a known name with its number, a number, or the plane. Fields at
-- places of their own are told apart from those of a route, or of the levels, of which there are as many as the line has.
use Rattle.std.specs.Prelude.{ℕ, Option, Some, None, List, [], slice_index_or}
use Rattle.std.specs.Fmt.{decimal}
use Rattle.line_forms.specs.Words.{plane_text}
use Rattle.line_forms.specs.declared.value.FieldValue.{FieldValue}
use Rattle.line_forms.specs.declared.value.FieldValue.TheVariants as value
use Rattle.line_forms.specs.declared.value.Values.{Values}

-- its number, or that of the known name
abbrev pub number_in : FieldValue → ℕ
number_in (value.Name name) = 0
number_in (value.Known name number) = number
number_in (value.Number number) = number
number_in value.Plane = 0

-- the name, if it is one
abbrev pub named_in : FieldValue → Option (List ℕ)
named_in (value.Name name) = Some name
named_in (value.Known name number) = Some name
named_in (value.Number number) = None
named_in value.Plane = None

-- the number at a place, from 0
abbrev pub number_at : List FieldValue → ℕ → ℕ
number_at values place = number_in (slice_index_or values place value.Plane)

-- the name at a place, from 0, if there is one
abbrev pub name_at : List FieldValue → ℕ → Option (List ℕ)
name_at values place = named_in (slice_index_or values place value.Plane)

-- the field that says this
abbrev pub field_of : FieldValue → List ℕ
field_of (value.Name name) = name
field_of (value.Known name number) = name
field_of (value.Number number) = decimal number
field_of value.Plane = plane_text

-- nothing
abbrev pub no_values : Values
no_values = record { ones = []; run = [] }

-- these at places of their own
abbrev pub with_ones : List FieldValue → Values
with_ones ones = record { ones = ones; run = [] }
