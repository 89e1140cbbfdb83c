-- A form says what it reads: the line of values that fit a form is made of fields, has that form, and its parts are read as these
-- values; and whatever a line is read as fits one of the forms that it has to have, which it has.
use Rattle.std.specs.Prelude.{ℕ, ◌≡◌, ◌⊎◌, true, Ok, List, [], ◌∷◌}
use Rattle.std.specs.List.{list_all}
use Rattle.line_forms.specs.Fields.{are_fields}
use Rattle.line_forms.specs.Fitting.{FitsForm}
use Rattle.line_forms.specs.Forms.{has_form, is_form}
use Rattle.line_forms.specs.Known.{KnownNames}
use Rattle.line_forms.specs.Reading.{read_parts, read_line}
use Rattle.line_forms.specs.Writing.{fields_with}
use Rattle.line_forms.specs.declared.form.Part.{Part}
use Rattle.line_forms.specs.declared.value.Values.{Values}

-- the fields are a line of the form that is read as these values
pub record AreReadAs (names : KnownNames) (form : List Part) (values : Values) (fields : List (List ℕ)) : Type 0 where
  pub written : are_fields fields ≡ true
  pub form_is : has_form form fields ≡ true
  pub read : read_parts names 0 form fields ≡ Ok values

abbrev pub FittingValuesAreRead : Type 0
FittingValuesAreRead = (names : KnownNames) (form : List Part) (values : Values) → is_form form ≡ true → FitsForm names form values → AreReadAs names form values (fields_with form values)

-- the line has a form, and what it is read as fits it
pub record IsReadBy (names : KnownNames) (form : List Part) (values : Values) (fields : List (List ℕ)) : Type 0 where
  pub form_is : has_form form fields ≡ true
  pub fits : FitsForm names form values

-- one of these forms
abbrev pub IsReadByOne : KnownNames → List (List Part) → Values → List (List ℕ) → Type 0
IsReadByOne names [] values fields = ⊥
IsReadByOne names (form ∷ forms) values fields = IsReadBy names form values fields ⊎ IsReadByOne names forms values fields

abbrev pub WhatIsReadFits : Type 0
WhatIsReadFits = (names : KnownNames) (forms : List (List Part)) (fields : List (List ℕ)) (values : Values) → list_all is_form forms ≡ true → read_line names forms fields ≡ Ok values → IsReadByOne names forms values fields
