-- The plane is left where it stands after the tick, and the callers as they were.
use Rattle.std.proofs.Common.{refl, sym, ap, ◌∙◌}
use Rattle.run_engine.proofs.Words.{quiet_reply, plane_after}
use Rattle.run_engine.proofs.Keeping.KeptActors.{plane-left, plane-taken}
use Rattle.run_engine.proofs.Keeping.NextPlaneStep.{by-plane, quiet-due, quiet-made}
use Rattle.run_engine.proofs.actors.Actors.pass_plane.Goals as goal

pub pass-requires-clause-left : goal.pass-requires-clause-left
pass-requires-clause-left c =
    let step = c.requires.4 in
    plane-left c.requires.0 c.args.self.now c.requires.1 c.requires.2 step.due (by-plane c.requires.0 c.args.self.now c.requires.1 c.requires.2 (quiet_reply c.requires.3) step)

pub pass-requires-clause-none : goal.pass-requires-clause-none
pass-requires-clause-none c = quiet-due c.requires.0 c.args.self.now c.requires.1 c.requires.2 c.requires.3 c.requires.4

pub returns : goal.returns
returns c = λ parts past done clock step.
    let old = c.args.self.now in
    plane-taken parts old (record { callers = old.callers; plane = c.pass.new.self }) past done step.due (by-plane parts old past done (quiet_reply clock) step) refl
    (c.pass.ensures.passed ∙ sym (quiet-made old.plane.links old.plane.at clock (quiet-due parts old past done clock step)) ∙ ap (λ reply. plane_after old.plane.links reply old.plane.at) (sym step.gets))
    c.pass.ensures.links c.pass.ensures.rounds
