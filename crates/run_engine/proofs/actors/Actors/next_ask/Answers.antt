-- The plane's ask, a caller's, or none.
use Rattle.std.proofs.Common.{◌≡◌, ◌<◌, ap, ◌∙◌, length, arith}
use Rattle.run_engine.proofs.Words.{actor_number, replies_to}
use Rattle.run_engine.proofs.Keeping.KeptActors.{plane-asks, caller-asks, none-asks}
use Rattle.run_engine.proofs.Keeping.Lookups.{found-at}
use Rattle.run_engine.proofs.actors.Actors.next_ask.Goals as goal

pub returns-then-number-len : goal.returns-then-number-len
returns-then-number-len c = λ run stand.
    let same : actor_number c.args.actor ≡ length c.args.self.now.callers.by_number.items = omega (arith, c.get.ensures.value, c.from-number.ensures, c.if-number-len.true, c.len.ensures) in
    c.next_ask.ensures.asked ∙ plane-asks c.args.plan.now c.args.self.now (actor_number c.args.actor) run stand same

pub returns-in_err-get : goal.returns-in_err-get
returns-in_err-get c = λ run stand.
    let past : length c.args.self.now.callers.by_number.items < actor_number c.args.actor =
    omega (arith, c.get.ensures.value, c.from-number.ensures, c.len.ensures, c.if-number-len.false, ap length c.deref.ensures.value, c.in_err-get.ensures.lookup.3) in
    c.from_residual.ensures ∙ none-asks c.args.plan.now c.args.self.now.callers.by_number.items (actor_number c.args.actor) run stand.callers past

pub next_ask-requires-2 : goal.next_ask-requires-2
next_ask-requires-2 c =
    let run = c.requires.0 in
    let stand = c.requires.1 in
    let at = c.in_ok-get.ensures.lookup in
    let found = found-at c.deref.result.now c.args.self.now.callers.by_number.items c.from-number.result (actor_number c.args.actor) c.in_ok-get.field-0.now c.deref.ensures.value (c.from-number.ensures ∙ c.get.ensures.value) at.3.0 at.1 in
    (replies_to (actor_number c.args.actor) run, stand.callers.stand (actor_number c.args.actor) c.in_ok-get.field-0.now found)

pub returns : goal.returns
returns c = λ run stand.
    let at = c.in_ok-get.ensures.lookup in
    let found = found-at c.deref.result.now c.args.self.now.callers.by_number.items c.from-number.result (actor_number c.args.actor) c.in_ok-get.field-0.now c.deref.ensures.value (c.from-number.ensures ∙ c.get.ensures.value) at.3.0 at.1 in
    c.next_ask-2.ensures (replies_to (actor_number c.args.actor) run) (stand.callers.stand (actor_number c.args.actor) c.in_ok-get.field-0.now found)
    ∙ caller-asks c.args.plan.now c.args.self.now.callers.by_number.items (actor_number c.args.actor) c.in_ok-get.field-0.now run stand.callers found
