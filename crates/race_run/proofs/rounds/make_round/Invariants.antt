use Rattle.std.proofs.Common.{◌≡◌, ◌+◌, ◌⊎◌, length}
use Rattle.call_script.specs.Tasks.{network_of}
use Rattle.run_engine.specs.runs.Turns.{plane_most}
use Rattle.link_ledger.specs.Tokens.{last_seen}
use Rattle.shared_network.specs.Added.{AddsAbove}
use Rattle.shared_network.specs.Ready.{PassGoesOn}
use Rattle.race_run.specs.Rounds.{AreAskedBefore, PlaneIsOn}
use Rattle.race_run.proofs.rounds.make_round.Given as goal

-- the plane is in the round, or has ended it
abbrev pub invariant-loop-plane : goal.invariant-loop-plane
invariant-loop-plane g l = record {
  on : PlaneIsOn (network_of l.plan) l.plane l.pass;
  round : (l.plane.at.round ≡ l.round) ⊎ ((l.plane.at.round ≡ l.round + 1) × (l.plane.at.ticked ≡ 0));
  early : AreAskedBefore (length (network_of l.plan).links) (l.round + 1) l.pass.own;
  ready : PassGoesOn g.H.Home.table g.H.Home.owners g.H.Home.links l.fn.pass l.pass;
  actor : l.pass.actor ≡ l.fn.pass.actor;
  later : AddsAbove (last_seen l.fn.pass) l.fn.pass l.pass;
}

-- it has fewer steps left at most
abbrev pub decreases-loop-plane : goal.decreases-loop-plane
decreases-loop-plane g l = plane_most l.plane.links l.plane.rounds l.plane.at
