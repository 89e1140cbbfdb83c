-- The plane takes its reply, or the caller its own.
use Rattle.std.proofs.Common.{◌≡◌, ◌≢◌, refl, length, ◌∙◌, arith}
use Rattle.run_engine.proofs.Words.{actor_number}
use Rattle.run_engine.proofs.Keeping.KeptActors.{calls-next, calls-taken}
use Rattle.run_engine.proofs.actors.Actors.take.Goals as goal

pub take_plane-requires : goal.take_plane-requires
take_plane-requires c =
    let due = c.requires.1 in
    let same : actor_number c.args.done.now.actor ≡ length c.args.self.now.callers.by_number.items = omega (arith, c.get.ensures.value, c.from-number.ensures, c.if-number-len.true, c.len.ensures) in
    (c.args.plan.now, c.requires.0, c.args.done.now, record { due = due; by = same ∙ due.stand.callers.same; gets = refl })

pub returns-then-number-len : goal.returns-then-number-len
returns-then-number-len c = λ past due.
    let same : actor_number c.args.done.now.actor ≡ length c.args.self.now.callers.by_number.items = omega (arith, c.get.ensures.value, c.from-number.ensures, c.if-number-len.true, c.len.ensures) in
    c.take_plane.ensures c.args.plan.now past c.args.done.now (record { due = due; by = same ∙ due.stand.callers.same; gets = refl })

pub take-requires : goal.take-requires
take-requires c = (c.requires.0, calls-next c.args.plan.now c.args.self.now c.requires.0 c.args.done.now c.requires.1)

pub returns-else-number-len : goal.returns-else-number-len
returns-else-number-len c = λ past due.
    let other : actor_number c.args.done.now.actor ≢ length c.args.self.now.callers.by_number.items = λ same. c.if-number-len.false (omega (arith, c.get.ensures.value, c.from-number.ensures, c.len.ensures, same)) in
    calls-taken c.args.plan.now c.args.self.now (record { callers = c.take.new.self; plane = c.args.self.now.plane }) past c.args.done.now due other
    (c.take.ensures past (calls-next c.args.plan.now c.args.self.now past c.args.done.now due)) refl
