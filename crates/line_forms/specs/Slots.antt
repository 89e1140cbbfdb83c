-- What one field of a line has to be, and what it then says, or the first cause by which it is refused: a name of any kind; a new
-- name of a set; a known one; a known one of which there is no pair with the known name before it; a number in its range; an actor,
-- which is the plane or a caller.
use Rattle.std.specs.Prelude.{ℕ, Bool, nat_le, ◌&&◌, if◌then◌else◌, Option, Some, None, Result, Ok, Err, List}
use Rattle.net_units.specs.Text.{is_name}
use Rattle.line_forms.specs.Decimal.{is_number, value_of}
use Rattle.line_forms.specs.Known.{KnownNames}
use Rattle.line_forms.specs.Words.{is_plane}
use Rattle.line_forms.specs.declared.cause.FieldCause.{FieldCause}
use Rattle.line_forms.specs.declared.cause.FieldCause.TheVariants as cause
use Rattle.line_forms.specs.declared.known.Set.TheVariants as set
use Rattle.line_forms.specs.declared.slot.Slot.{Slot}
use Rattle.line_forms.specs.declared.slot.Slot.TheVariants as slot
use Rattle.line_forms.specs.declared.value.FieldValue.{FieldValue}
use Rattle.line_forms.specs.declared.value.FieldValue.TheVariants as value

-- what a field says, or why it is refused
abbrev pub FieldRead : Type 0
FieldRead = Result FieldValue FieldCause

-- what a name says; a field that is none is refused
abbrev pub if_name : List ℕ → FieldRead → FieldRead
if_name field said = if is_name field then said else Err cause.Name

abbrev pub as_any : List ℕ → FieldRead
as_any field = Ok (value.Name field)

-- a name that is known is no new one
abbrev pub as_new : List ℕ → Option ℕ → FieldRead
as_new field None = Ok (value.Name field)
as_new field (Some number) = Err cause.Known

-- a name that is used has to be known
abbrev pub as_known : List ℕ → Option ℕ → FieldRead
as_known field None = Err cause.Unknown
as_known field (Some number) = Ok (value.Known field number)

-- and then there may be no pair with the name before it
abbrev pub as_once : (ℕ → Bool) → List ℕ → Option ℕ → FieldRead
as_once is_paired field None = Err cause.Unknown
as_once is_paired field (Some number) = if is_paired number then Err cause.Known else Ok (value.Known field number)

abbrev pub read_number : ℕ → ℕ → List ℕ → FieldRead
read_number low high field = if is_number field then (if nat_le low (value_of field) && nat_le (value_of field) high then Ok (value.Number (value_of field)) else Err cause.Range) else Err cause.Number

abbrev pub read_actor : KnownNames → List ℕ → FieldRead
read_actor names field = if is_plane field then Ok value.Plane else if_name field (as_known field (names.number set.Callers field))

-- what a field says that has to be this, where the known name before it has the number `before`
abbrev pub read_slot : KnownNames → ℕ → Slot → List ℕ → FieldRead
read_slot names before slot.Name field = if_name field (as_any field)
read_slot names before (slot.New of) field = if_name field (as_new field (names.number of field))
read_slot names before (slot.Known of) field = if_name field (as_known field (names.number of field))
read_slot names before (slot.Once of) field = if_name field (as_once (names.paired before) field (names.number of field))
read_slot names before (slot.Number low high) field = read_number low high field
read_slot names before slot.Actor field = read_actor names field
