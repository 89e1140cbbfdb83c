-- What the fields of a line say that has to have one of several forms, or the first cause by which it is refused: the fields are
-- judged from left to right, once the line has a form. A fixed word says nothing. The known name before a field is that of the field before it.
use Rattle.std.specs.Prelude.{ℕ, if◌then◌else◌, Result, Ok, Err, List, [], ◌∷◌, ◌++◌, drop, take}
use Rattle.line_forms.specs.Fields.{field_at}
use Rattle.line_forms.specs.Forms.{has_form, route_length}
use Rattle.line_forms.specs.Known.{KnownNames}
use Rattle.line_forms.specs.Slots.{read_slot}
use Rattle.line_forms.specs.Values.{number_in, no_values}
use Rattle.line_forms.specs.declared.cause.FieldCause.{FieldCause}
use Rattle.line_forms.specs.declared.cause.FieldCause.TheVariants as cause
use Rattle.line_forms.specs.declared.form.Part.{Part}
use Rattle.line_forms.specs.declared.form.Part.TheVariants as part
use Rattle.line_forms.specs.declared.slot.Slot.{Slot}
use Rattle.line_forms.specs.declared.slot.Slot.TheVariants as slot
use Rattle.line_forms.specs.declared.value.FieldValue.{FieldValue}
use Rattle.line_forms.specs.declared.value.Values.{Values}

abbrev pub LineRead : Type 0
LineRead = Result Values FieldCause

abbrev pub RunRead : Type 0
RunRead = Result (List FieldValue) FieldCause

-- goes on with what was read
abbrev pub then_on : {X Y : Type 0} → Result X FieldCause → (X → Result Y FieldCause) → Result Y FieldCause
then_on (Ok said) go_on = go_on said
then_on (Err cause) go_on = Err cause

-- ---- several fields of one kind

abbrev pub value_before : FieldValue → RunRead → RunRead
value_before value (Ok values) = Ok (value ∷ values)
value_before value (Err cause) = Err cause

abbrev pub read_run : KnownNames → ℕ → Slot → List (List ℕ) → RunRead
read_run names before slot [] = Ok []
read_run names before slot (field ∷ fields) = then_on (read_slot names before slot field) (λ value. value_before value (read_run names before slot fields))

-- ---- all fields

-- one value before those that follow
abbrev pub one_before : FieldValue → LineRead → LineRead
one_before value (Ok values) = Ok (record { ones = value ∷ values.ones; run = values.run })
one_before value (Err cause) = Err cause

-- and several
abbrev pub run_before : List FieldValue → LineRead → LineRead
run_before values (Ok rest) = Ok (record { ones = rest.ones; run = values ++ rest.run })
run_before values (Err cause) = Err cause

-- the fields of the parts, where the known name before them has the number `before`
abbrev pub read_parts : KnownNames → ℕ → List Part → List (List ℕ) → LineRead
read_parts names before [] fields = Ok no_values
read_parts names before (part.Word keyword ∷ parts) fields = read_parts names before parts (drop 1 fields)
read_parts names before (part.One slot ∷ parts) fields = then_on (read_slot names before slot (field_at fields 0)) (λ value. one_before value (read_parts names (number_in value) parts (drop 1 fields)))
read_parts names before (part.Route set ∷ parts) fields = then_on (read_run names before (slot.Known set) (take (route_length fields) fields)) (λ values. run_before values (read_parts names before parts (drop (route_length fields) fields)))
read_parts names before (part.Numbers low high ∷ parts) fields = then_on (read_run names before (slot.Number low high) fields) (λ values. run_before values (read_parts names before parts []))

-- a line that has to have one of these forms is read by the first that it has
abbrev pub read_line : KnownNames → List (List Part) → List (List ℕ) → LineRead
read_line names [] fields = Err cause.Shape
read_line names (form ∷ forms) fields = if has_form form fields then read_parts names 0 form fields else read_line names forms fields
