-- The caller that opens the request is there, and knows of the move.
use Rattle.std.proofs.Common.{◌<◌, length, refl, ◌∙◌, arith}
use Rattle.run_engine.proofs.Words.{actor_number, replies_to}
use Rattle.run_engine.proofs.Replies.OwnerVerdict.{owner-within, read-moved}
use Rattle.run_engine.proofs.Keeping.Lookups.{found-at}
use Rattle.run_engine.proofs.callers.Callers.moved.Goals as goal

pub index-requires : goal.index-requires
index-requires c =
    let here : c.args.number < length c.requests.result.now = rw c.requests.ensures.value c.requires.inside in
    let found = found-at c.requests.result.now c.args.plan.now.requests c.args.number c.args.number c.index-requests-number.result c.requests.ensures.value refl here c.index-requests-number.is in
    omega (arith, owner-within c.args.plan.now c.args.number c.index-requests-number.result c.requests.ensures.valid found, c.requires.stands.1.same, c.from-owner.ensures, c.get.ensures.value, c.args.self.now.by_number.ok.0)

pub returns : goal.returns
returns c = λ run entry stand same.
    let here : c.args.number < length c.requests.result.now = rw c.requests.ensures.value c.requires.inside in
    let found = found-at c.requests.result.now c.args.plan.now.requests c.args.number c.args.number c.index-requests-number.result c.requests.ensures.value refl here c.index-requests-number.is in
    let owns = c.from-owner.ensures ∙ c.get.ensures.value in
    let owner = actor_number c.index-requests-number.result.caller in
    let within : c.from-owner.result < length c.args.self.now.by_number.items = omega (arith, owner-within c.args.plan.now c.args.number c.index-requests-number.result c.requests.ensures.valid found, stand.same, owns) in
    let caller = found-at c.args.self.now.by_number.items c.args.self.now.by_number.items c.from-owner.result owner c.index.result.now refl owns within c.index.ensures in
    read-moved c.args.plan.now c.args.number c.index-requests-number.result entry run _ (actor_number c.index.result.now.caller) found same (stand.numbers owner c.index.result.now caller)
    (c.moved.ensures.moved c.args.plan.now (replies_to owner run) (stand.stand owner c.index.result.now caller))
