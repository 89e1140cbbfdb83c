use Rattle.channel_report.specs.Tallies.{ticks_later}
use Rattle.channel_report.proofs.LinkTallies.{HaveChangedTo}
use Rattle.channel_report.proofs.tally.rest_links.Given as goal

-- the links so far have their ticks more
abbrev pub invariant-loop-link : goal.invariant-loop-link
invariant-loop-link l = HaveChangedTo (ticks_later l.ticks) l.initial.links l.links l.link-index
