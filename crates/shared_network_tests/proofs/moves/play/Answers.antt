use Rattle.std.proofs.Common.{length, ap, sym, ◌∙◌}
use Rattle.tick_plane.specs.PlaneAccount.{PlaneAccount}
use Rattle.shared_network.proofs.WorkedNetworks.{planes-first}
use Rattle.shared_network_tests.proofs.moves.play.Goals as goal

pub loop-init : goal.loop-init
loop-init g c = record {
  may_step = c.requires.new.may_step;
  links = ap (λ (p : PlaneAccount). p.links) c.in_ok-plane.ensures ∙ sym c.requires.two;
  planes = planes-first (length g.H.Home.links) c.in_ok-plane.plane c.args.pass.now.own c.requires.new.own (ap (λ (p : PlaneAccount). p.at) c.in_ok-plane.ensures);
}
