use Rattle.std.proofs.Common.{◌-◌}
use Rattle.link_ledger.specs.Tokens.{stamps_drawn}
use Rattle.network_tour.specs.Tour.{PlaneGoes}
use Rattle.network_tour.proofs.by_network.go_on.Given as goal

abbrev pub invariant-loop-pass : goal.invariant-loop-pass
invariant-loop-pass g l = PlaneGoes g.H.Home.table g.H.Home.owners g.H.Home.links l.plane l.pass

-- each step draws a stamp
abbrev pub decreases-loop-pass : goal.decreases-loop-pass
decreases-loop-pass g l = 1000000 - stamps_drawn l.pass
