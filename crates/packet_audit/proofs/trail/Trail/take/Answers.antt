use Rattle.std.proofs.Common.{Some, refl, ap, ◌∙◌}
use Rattle.packet_audit.specs.Promises.{delay_of, widened}
use Rattle.packet_audit.proofs.TrailsOfRows.{sent-more, spread-more}
use Rattle.packet_audit.proofs.trail.Trail.take.Goals as goal

pub returns : goal.returns
returns c = λ own stands. record {
  sent = sent-more c.args.self.now.sent.items c.push.new.self.items c.args.row.now own c.in_ok-push.ensures.items stands.sent;
  keeps = c.keeps_with-keeps.ensures own c.args.row.now stands refl;
  spread = ap Some c.widened-spread.ensures ∙ ap (λ s. Some (widened (delay_of c.args.row.now) s)) stands.spread ∙ spread-more c.args.row.now own;
}
