use Rattle.std.proofs.Common.{◌≡◌, ◌*◌, ◌≤◌}
use Rattle.link_ledger.specs.Tokens.{stamps_drawn}
use Rattle.race_run.specs.Callers.{CallerIsAt}
use Rattle.shared_network.specs.Ready.{PassGoesOn}
use Rattle.race_run.proofs.scripts.make_ops.Given as goal

-- the operations before this place are made
abbrev pub invariant-loop-place : goal.invariant-loop-place
invariant-loop-place g l = record {
  at : CallerIsAt l.plan l.all.0 l.place l.pass l.channels.by_number.items;
  few : stamps_drawn l.pass ≤ 32 * l.place;
  ready : PassGoesOn g.H.Home.table g.H.Home.owners g.H.Home.links l.fn.pass l.pass;
  actor : l.pass.actor ≡ l.fn.pass.actor;
}
