use Rattle.std.proofs.Common.{drop, length-drop, refl}
use Rattle.line_forms.proofs.FormByField.{one-left}
use Rattle.line_forms.proofs.form.Part.taken.Goals as goal

pub returns-in-One-clause-value : goal.returns-in-One-clause-value
returns-in-One-clause-value c =
    rw c.in-One.is (rw c.one_if-in-One.ensures (rw (one-left (drop c.args.place c.args.fields.now), c.saturating_sub-left.ensures, c.count.ensures, length-drop) refl))
