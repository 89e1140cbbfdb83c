use Rattle.std.proofs.Common.{◌≡◌}
use Rattle.shared_network.specs.Ready.{PassGoesOn}
use Rattle.race_run.proofs.tail.see_up_to.Given as goal

-- the pass is as it was, but for what it has seen
abbrev pub invariant-loop : goal.invariant-loop
invariant-loop g l = record {
  ready : PassGoesOn g.H.Home.table g.H.Home.owners g.H.Home.links l.fn.pass l.pass;
  actor : l.pass.actor ≡ l.fn.pass.actor;
  own : l.pass.own ≡ l.fn.pass.own;
}
