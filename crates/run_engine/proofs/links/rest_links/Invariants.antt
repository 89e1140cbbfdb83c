use Rattle.run_engine.proofs.Watched.RestedRounds.{HaveRestedTo}
use Rattle.run_engine.proofs.links.rest_links.Given as goal

-- the links so far have rested
abbrev pub invariant-loop-link : goal.invariant-loop-link
invariant-loop-link l = HaveRestedTo l.ticks l.initial.links l.links l.link-index
