use Rattle.line_forms.proofs.FormsBack.{form-back}
use Rattle.line_forms.proofs.laws.fitting_values_are_read.Goals as goal

pub returns : goal.returns
returns c = form-back
