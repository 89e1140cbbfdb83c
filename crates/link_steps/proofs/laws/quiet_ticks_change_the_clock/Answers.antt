use Rattle.link_steps.proofs.QuietTicks.{quiet-ticks}
use Rattle.link_steps.proofs.laws.quiet_ticks_change_the_clock.Goals as goal

pub returns : goal.returns
returns c = quiet-ticks
