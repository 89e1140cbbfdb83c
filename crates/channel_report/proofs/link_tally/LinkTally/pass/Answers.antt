use Rattle.std.proofs.Common.{arith}
use Rattle.channel_report.proofs.CountsPerLink.{are-small}
use Rattle.channel_report.proofs.RestTallies.{tally-passed}
use Rattle.channel_report.proofs.link_tally.LinkTally.pass.Goals as goal

pub overflow_add-self : goal.overflow_add-self
overflow_add-self c = (let small = are-small c.requires.0 c.args.self.now c.requires.1.0 c.requires.1.1 in omega (arith, small.clock))

pub returns : goal.returns
returns c = λ h clock is. tally-passed clock h c.args.self.now is
