-- Which values a form may say: each has to be what its field has to be, and of a route, or of levels, there have to be as many as a
-- line may have.
use Rattle.std.specs.Prelude.{ℕ, ◌≡◌, ◌≤◌, ◌<◌, ◌^◌, true, false, Some, None, List, [], ◌∷◌, length}
use Rattle.net_units.specs.Text.{is_name}
use Rattle.line_forms.specs.Known.{KnownNames}
use Rattle.line_forms.specs.Values.{number_in}
use Rattle.line_forms.specs.declared.form.Part.{Part}
use Rattle.line_forms.specs.declared.form.Part.TheVariants as part
use Rattle.line_forms.specs.declared.known.Set.TheVariants as set
use Rattle.line_forms.specs.declared.slot.Slot.{Slot}
use Rattle.line_forms.specs.declared.slot.Slot.TheVariants as slot
use Rattle.line_forms.specs.declared.value.FieldValue.{FieldValue}
use Rattle.line_forms.specs.declared.value.FieldValue.TheVariants as value
use Rattle.line_forms.specs.declared.value.Values.{Values}

-- a number that stands in its range, and has at most 18 digits
pub record IsInRange (low high number : ℕ) : Type 0 where
  pub least : low ≤ number
  pub most : number ≤ high
  pub short : number < 10 ^ 18

-- what a field may say that has to be this
abbrev pub Fits : KnownNames → ℕ → Slot → FieldValue → Type 0
Fits names before slot.Name (value.Name name) = is_name name ≡ true
Fits names before (slot.New of) (value.Name name) = (is_name name ≡ true) × (names.number of name ≡ None)
Fits names before (slot.Known of) (value.Known name number) = (is_name name ≡ true) × (names.number of name ≡ Some number)
Fits names before (slot.Once of) (value.Known name number) = (is_name name ≡ true) × (names.number of name ≡ Some number) × (names.paired before number ≡ false)
Fits names before (slot.Number low high) (value.Number number) = IsInRange low high number
Fits names before slot.Actor value.Plane = Unit {0}
Fits names before slot.Actor (value.Known name number) = (is_name name ≡ true) × (names.number set.Callers name ≡ Some number)
Fits names before slot value = ⊥

abbrev pub AllFit : KnownNames → ℕ → Slot → List FieldValue → Type 0
AllFit names before slot [] = Unit {0}
AllFit names before slot (value ∷ values) = Fits names before slot value × AllFit names before slot values

-- from one to `most` values of one kind
pub record IsRun (names : KnownNames) (before most : ℕ) (slot : Slot) (values : List FieldValue) : Type 0 where
  pub least : 1 ≤ length values
  pub few : length values ≤ most
  pub all : AllFit names before slot values

-- what the parts of a form may say
abbrev pub FitParts : KnownNames → ℕ → List Part → List FieldValue → List FieldValue → Type 0
FitParts names before [] [] [] = Unit {0}
FitParts names before (part.Word keyword ∷ parts) ones run = FitParts names before parts ones run
FitParts names before (part.One slot ∷ parts) (value ∷ ones) run = Fits names before slot value × FitParts names (number_in value) parts ones run
FitParts names before (part.Route set ∷ parts) ones run = IsRun names before 16 (slot.Known set) run × FitParts names before parts ones []
FitParts names before (part.Numbers low high ∷ parts) ones run = IsRun names before 8 (slot.Number low high) run × FitParts names before parts ones []
FitParts names before parts ones run = ⊥

-- what a form may say
abbrev pub FitsForm : KnownNames → List Part → Values → Type 0
FitsForm names form values = FitParts names 0 form values.ones values.run
