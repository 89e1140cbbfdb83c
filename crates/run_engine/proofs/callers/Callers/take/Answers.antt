-- The caller takes its reply; that of the plane leaves them as they are.
use Rattle.std.proofs.Common.{◌≢◌, set, ap, ◌∙◌, refl, length, arith}
use Rattle.run_engine.proofs.Words.{actor_number, replies_to}
use Rattle.std.specs.Vec.{with_item}
use Rattle.run_engine.proofs.Keeping.KeptActors.{callers-same, caller-within, caller-left, caller-expected, caller-taken}
use Rattle.run_engine.proofs.Keeping.Lookups.{found-at, when-ok}
use Rattle.run_engine.proofs.callers.Callers.take.Goals as goal

pub index_mut-requires : goal.index_mut-requires
index_mut-requires c =
    let other : actor_number c.args.done.now.actor ≢ length c.args.self.now.by_number.items = λ same. c.if-number-len.true (omega (arith, c.get.ensures.value, c.from-number.ensures, c.len.ensures, same)) in
    let within = caller-within c.args.plan.now c.args.self.now c.requires.0 c.args.done.now c.requires.1 other in
    omega (arith, within, c.get.ensures.value, c.from-number.ensures)

pub take-requires : goal.take-requires
take-requires c =
    let other : actor_number c.args.done.now.actor ≢ length c.args.self.now.by_number.items = λ same. c.if-number-len.true (omega (arith, c.get.ensures.value, c.from-number.ensures, c.len.ensures, same)) in
    let within = caller-within c.args.plan.now c.args.self.now c.requires.0 c.args.done.now c.requires.1 other in
    let number = c.from-number.ensures ∙ c.get.ensures.value in
    let found = found-at c.args.self.now.by_number.items c.args.self.now.by_number.items c.from-number.result (actor_number c.args.done.now.actor) c.index_mut.result.now refl number (omega (arith, within, number)) c.index_mut.ensures.value in
    (replies_to (actor_number c.args.done.now.actor) c.requires.0, caller-left c.args.plan.now c.args.self.now c.requires.0 c.args.done.now c.index_mut.result.now c.requires.1 found)

pub unwrap-requires : goal.unwrap-requires
unwrap-requires c =
    let other : actor_number c.args.done.now.actor ≢ length c.args.self.now.by_number.items = λ same. c.if-number-len.true (omega (arith, c.get.ensures.value, c.from-number.ensures, c.len.ensures, same)) in
    let within = caller-within c.args.plan.now c.args.self.now c.requires.0 c.args.done.now c.requires.1 other in
    let number = c.from-number.ensures ∙ c.get.ensures.value in
    let found = found-at c.args.self.now.by_number.items c.args.self.now.by_number.items c.from-number.result (actor_number c.args.done.now.actor) c.index_mut.result.now refl number (omega (arith, within, number)) c.index_mut.ensures.value in
    let stands = c.requires.1.stand.stand (actor_number c.args.done.now.actor) c.index_mut.result.now found in
    (c.take.ensures.expected (replies_to (actor_number c.args.done.now.actor) c.requires.0) stands).1
    (caller-expected c.args.plan.now c.args.self.now c.requires.0 c.args.done.now c.index_mut.result.now c.requires.1 found)

pub returns-then-number-len : goal.returns-then-number-len
returns-then-number-len c = λ past due.
    let other : actor_number c.args.done.now.actor ≢ length c.args.self.now.by_number.items = λ same. c.if-number-len.true (omega (arith, c.get.ensures.value, c.from-number.ensures, c.len.ensures, same)) in
    let within = caller-within c.args.plan.now c.args.self.now past c.args.done.now due other in
    let number = c.from-number.ensures ∙ c.get.ensures.value in
    let found = found-at c.args.self.now.by_number.items c.args.self.now.by_number.items c.from-number.result (actor_number c.args.done.now.actor) c.index_mut.result.now refl number (omega (arith, within, number)) c.index_mut.ensures.value in
    caller-taken c.args.plan.now c.args.self.now (record { by_number = with_item c.args.self.now.by_number c.from-number.result c.take.new.self }) past c.args.done.now c.index_mut.result.now c.take.new.self due found
    (ap (λ n. set c.args.self.now.by_number.items n c.take.new.self) number) c.take.ensures.caller
    (when-ok c.take.result c.unwrap.result c.unwrap.ensures c.take.ensures.taken)

pub returns-else-number-len : goal.returns-else-number-len
returns-else-number-len c = λ past due. callers-same c.args.plan.now c.args.self.now.by_number.items past c.args.done.now due.stand (omega (arith, c.get.ensures.value, c.from-number.ensures, c.if-number-len.false, c.len.ensures))
