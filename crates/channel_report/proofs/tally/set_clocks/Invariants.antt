use Rattle.channel_report.specs.Tallies.{at_clock}
use Rattle.channel_report.proofs.LinkTallies.{HaveChangedTo}
use Rattle.channel_report.proofs.tally.set_clocks.Given as goal

-- the links so far have this clock
abbrev pub invariant-loop-link : goal.invariant-loop-link
invariant-loop-link l = HaveChangedTo (at_clock l.clock) l.initial.links l.links l.link-index
