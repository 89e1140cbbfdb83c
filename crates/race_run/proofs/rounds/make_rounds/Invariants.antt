use Rattle.std.proofs.Common.{◌≡◌, ◌-◌, ◌≤◌}
use Rattle.call_script.specs.Tasks.{network_of}
use Rattle.link_ledger.specs.Tokens.{last_seen}
use Rattle.shared_network.specs.Added.{AddsAbove}
use Rattle.shared_network.specs.Ready.{PassGoesOn}
use Rattle.race_run.specs.Rounds.{PlaneIsAt}
use Rattle.race_run.proofs.rounds.make_rounds.Given as goal

-- the rounds so far are made
abbrev pub invariant-loop-plane : goal.invariant-loop-plane
invariant-loop-plane g l = record {
  stands : PlaneIsAt (network_of l.plan) l.plane l.pass;
  round : l.plane.at.round ≤ l.until;
  ready : PassGoesOn g.H.Home.table g.H.Home.owners g.H.Home.links l.fn.pass l.pass;
  actor : l.pass.actor ≡ l.fn.pass.actor;
  later : AddsAbove (last_seen l.fn.pass) l.fn.pass l.pass;
}

-- fewer rounds are left
abbrev pub decreases-loop-plane : goal.decreases-loop-plane
decreases-loop-plane g l = l.until - l.plane.at.round
