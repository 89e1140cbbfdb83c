use Rattle.std.proofs.Common.{sym, ◌∙◌}
use Rattle.line_forms.proofs.FormByField.{form-at-end}
use Rattle.line_forms.proofs.form.has_form.Goals as goal

pub returns : goal.returns
returns c =
    rw c.count-count.ensures (sym (c.loop-part.invariant.rest ∙ form-at-end c.args.form.now c.args.fields.now c.loop-part.part-index c.loop-part.place c.loop-part-test.false c.loop-part.invariant.within))
