use Rattle.link_steps.proofs.AdmissionHolds.{held_rows-pass}
use Rattle.link_steps.proofs.laws.held_rows_pass.Goals as goal

pub returns : goal.returns
returns c = held_rows-pass
