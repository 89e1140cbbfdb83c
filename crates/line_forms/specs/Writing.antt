-- The fields of a line that says these values in a form: its fixed words, and the field of each value.
use Rattle.std.specs.Prelude.{ℕ, List, [], ◌∷◌, ◌++◌, map}
use Rattle.line_forms.specs.Values.{field_of}
use Rattle.line_forms.specs.Words.{text_of}
use Rattle.line_forms.specs.declared.form.Part.{Part}
use Rattle.line_forms.specs.declared.form.Part.TheVariants as part
use Rattle.line_forms.specs.declared.value.FieldValue.{FieldValue}
use Rattle.line_forms.specs.declared.value.Values.{Values}

abbrev pub fields_said : List Part → List FieldValue → List FieldValue → List (List ℕ)
fields_said [] ones run = []
fields_said (part.Word keyword ∷ parts) ones run = text_of keyword ∷ fields_said parts ones run
fields_said (part.One slot ∷ parts) [] run = fields_said parts [] run
fields_said (part.One slot ∷ parts) (value ∷ ones) run = field_of value ∷ fields_said parts ones run
fields_said (part.Route set ∷ parts) ones run = map field_of run ++ fields_said parts ones []
fields_said (part.Numbers low high ∷ parts) ones run = map field_of run ++ fields_said parts ones []

abbrev pub fields_with : List Part → Values → List (List ℕ)
fields_with form values = fields_said form values.ones values.run
