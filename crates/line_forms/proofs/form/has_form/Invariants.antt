use Rattle.std.proofs.Common.{◌≡◌, ◌≤◌, drop, length}
use Rattle.line_forms.specs.Forms.{has_form}
use Rattle.line_forms.proofs.form.has_form.Given as goal

-- what is left of the form has to fit what is left of the fields
abbrev pub invariant-loop-part : goal.invariant-loop-part
invariant-loop-part l = record {
  rest : has_form l.form l.fields ≡ has_form (drop l.part-index l.form) (drop l.place l.fields);
  within : l.place ≤ length l.fields;
}
