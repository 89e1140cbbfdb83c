-- What was read of a line so far, as the code has it, and what reading the fields of the next part makes of it.
use Rattle.std.specs.Prelude.{ℕ, ◌≡◌, ◌≤◌, ◌<◌, ◌+◌, ◌-◌, Result, Ok, Err, List, [], ◌∷◌, ◌++◌, drop, take, length}
use Rattle.line_forms.specs.Fields.{field_at}
use Rattle.line_forms.specs.Forms.{route_length}
use Rattle.line_forms.specs.Known.{KnownNames}
use Rattle.line_forms.specs.Reading.{LineRead, RunRead, read_run}
use Rattle.line_forms.specs.Slots.{FieldRead, read_slot}
use Rattle.line_forms.specs.Values.{number_in, no_values}
use Rattle.line_forms.specs.declared.cause.FieldCause.{FieldCause}
use Rattle.line_forms.specs.declared.form.Part.{Part}
use Rattle.line_forms.specs.declared.form.Part.TheVariants as part
use Rattle.line_forms.specs.declared.reading.Reader.{Reader}
use Rattle.line_forms.specs.declared.slot.Slot.TheVariants as slot
use Rattle.line_forms.specs.declared.value.FieldValue.{FieldValue}

abbrev pub begun : Reader
begun = record { values = no_values; place = 0; before = 0 }

-- with one field more
abbrev pub after_one : Reader → FieldRead → Result Reader FieldCause
after_one was (Ok value) = Ok (record { values = record { ones = was.values.ones ++ value ∷ []; run = was.values.run }; place = was.place + 1; before = number_in value })
after_one was (Err cause) = Err cause

-- with several fields more
abbrev pub after_run : Reader → ℕ → RunRead → Result Reader FieldCause
after_run was count (Ok values) = Ok (record { values = record { ones = was.values.ones; run = values }; place = was.place + count; before = was.before })
after_run was count (Err cause) = Err cause

-- with the fields of a part more
abbrev pub step : KnownNames → Part → List (List ℕ) → Reader → Result Reader FieldCause
step names (part.Word keyword) fields was = Ok (record { values = was.values; place = was.place + 1; before = was.before })
step names (part.One slot) fields was = after_one was (read_slot names was.before slot (field_at fields was.place))
step names (part.Route set) fields was = after_run was (route_length (drop was.place fields)) (read_run names was.before (slot.Known set) (take (route_length (drop was.place fields)) (drop was.place fields)))
step names (part.Numbers low high) fields was = after_run was (length fields - was.place) (read_run names was.before (slot.Number low high) (take (length fields - was.place) (drop was.place fields)))

-- the reader is what was to be read, or the cause is told
abbrev pub Moves : Result Unit FieldCause → Reader → Result Reader FieldCause → Type 0
Moves (Ok _) now said = said ≡ Ok now
Moves (Err cause) now said = said ≡ Err cause

-- the values are what was to be read, or the cause is told
abbrev pub Puts : Result Unit FieldCause → List FieldValue → RunRead → Type 0
Puts (Ok _) values said = said ≡ Ok values
Puts (Err cause) values said = said ≡ Err cause

-- the reader has what the line says, or the cause is told
abbrev pub Fills : Result Unit FieldCause → Reader → LineRead → Type 0
Fills (Ok _) now said = said ≡ Ok now.values
Fills (Err cause) now said = said ≡ Err cause

-- there are the fields that the part takes, and there is room for them
abbrev pub IsNext : Part → Reader → List (List ℕ) → Type 0
IsNext (part.Word keyword) was fields = was.place < length fields
IsNext (part.One slot) was fields = (length was.values.ones < 16) × (was.place < length fields)
IsNext (part.Route set) was fields = (route_length (drop was.place fields) ≤ 16) × (was.place + route_length (drop was.place fields) ≤ length fields)
IsNext (part.Numbers low high) was fields = (length fields - was.place ≤ 8) × (was.place ≤ length fields)
