use Rattle.line_forms.proofs.FormsBack.{line-fits}
use Rattle.line_forms.proofs.laws.what_is_read_fits.Goals as goal

pub returns : goal.returns
returns c = line-fits
