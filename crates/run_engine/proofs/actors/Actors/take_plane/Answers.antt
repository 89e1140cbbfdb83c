-- The plane is left where it stands after the reply, and the callers as they were.
use Rattle.std.proofs.Common.{refl, sym, ap, ◌∙◌, subst}
use Rattle.run_engine.proofs.Words.{next_due, plane_after, plane_expects, IsDueLater}
use Rattle.run_engine.proofs.Keeping.KeptActors.{plane-left, plane-expected, plane-later, plane-taken}
use Rattle.run_engine.proofs.Keeping.NextPlaneStep.{by-plane}
use Rattle.run_engine.proofs.actors.Actors.take_plane.Goals as goal

pub take_expected-requires-clause-left : goal.take_expected-requires-clause-left
take_expected-requires-clause-left c =
    let step = c.requires.3 in
    plane-left c.requires.0 c.args.self.now c.requires.1 c.requires.2 step.due (by-plane c.requires.0 c.args.self.now c.requires.1 c.requires.2 c.args.reply.now step)

pub take_expected-requires-clause-room : goal.take_expected-requires-clause-room
take_expected-requires-clause-room c = c.requires.3.due.room

pub take_expected-requires-clause-later : goal.take_expected-requires-clause-later
take_expected-requires-clause-later c =
    let step = c.requires.3 in
    subst (IsDueLater c.args.self.now.plane.at.round) step.gets
    (plane-later c.requires.0 c.args.self.now c.requires.1 c.requires.2 step.due (by-plane c.requires.0 c.args.self.now c.requires.1 c.requires.2 c.args.reply.now step))

pub take_expected-requires-clause-expected : goal.take_expected-requires-clause-expected
take_expected-requires-clause-expected c =
    let step = c.requires.3 in
    ap (plane_expects (next_due c.args.self.now.plane.at)) (sym step.gets)
    ∙ plane-expected c.requires.0 c.args.self.now c.requires.1 c.requires.2 step.due (by-plane c.requires.0 c.args.self.now c.requires.1 c.requires.2 c.args.reply.now step)

pub returns : goal.returns
returns c = λ parts past done step.
    let old = c.args.self.now in
    plane-taken parts old (record { callers = old.callers; plane = c.take_expected.new.self }) past done step.due (by-plane parts old past done c.args.reply.now step) refl
    (c.take_expected.ensures.taken ∙ ap (λ reply. plane_after old.plane.links reply old.plane.at) (sym step.gets)) c.take_expected.ensures.links c.take_expected.ensures.rounds
