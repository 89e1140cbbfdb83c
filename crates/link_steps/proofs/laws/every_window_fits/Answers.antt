use Rattle.link_steps.proofs.WindowFits.{window-fits}
use Rattle.link_steps.proofs.laws.every_window_fits.Goals as goal

pub returns : goal.returns
returns c = window-fits
