use Rattle.std.proofs.Common.{◌≡◌, true, drop, map}
use Rattle.std.specs.List.{list_all}
use Rattle.line_forms.specs.Forms.{is_form}
use Rattle.line_forms.specs.Reading.{read_line}
use Rattle.line_forms.proofs.reading.Reader.read_line.Given as goal

-- the line has none of the forms before, so it is read by those that are left
abbrev pub invariant-loop-form : goal.invariant-loop-form
invariant-loop-form g l = record {
  rest : read_line (g.K.Known.names l.known) (map (λ form. form.now) (drop l.form-index l.forms)) l.fields ≡ read_line (g.K.Known.names l.known) (map (λ form. form.now) l.forms) l.fields;
  are : list_all is_form (map (λ form. form.now) (drop l.form-index l.forms)) ≡ true;
}
