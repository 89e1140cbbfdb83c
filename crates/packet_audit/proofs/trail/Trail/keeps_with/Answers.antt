use Rattle.std.proofs.Common.{reverse, ap, sym, ◌∙◌}
use Rattle.packet_audit.proofs.TrailsOfRows.{kept-then, kept-else}
use Rattle.packet_audit.proofs.trail.Trail.keeps_with.Goals as goal

pub returns-then-follows : goal.returns-then-follows
returns-then-follows c = λ own row stands same.
    kept-then c.args.promise.now.contract (reverse c.deref.result.now) c.args.sent c.args.self.now.keeps row own (ap reverse c.deref.ensures.value ∙ stands.sent) stands.keeps same (sym c.follows.ensures ∙ c.if-follows.true)

pub returns-else-follows : goal.returns-else-follows
returns-else-follows c = λ own row stands same.
    c.if-follows.false ∙ kept-else c.args.promise.now.contract (reverse c.deref.result.now) c.args.sent c.args.self.now.keeps row own (ap reverse c.deref.ensures.value ∙ stands.sent) stands.keeps same (sym c.follows.ensures ∙ c.if-follows.false)
