use Rattle.interleave_core.specs.Cores.{run_in}
use Rattle.interleave_core.proofs.stepping.Core.next_ask.Goals as goal

pub returns : goal.returns
returns c = c.next_ask.ensures (run_in c.args.self.now) c.requires
