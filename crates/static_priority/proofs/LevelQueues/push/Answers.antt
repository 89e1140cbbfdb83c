-- The queue of the level has a spare place, and takes the key at its end.
use Rattle.std.proofs.Common.{◌+◌, ◌-◌, [], ◌∷◌, length, ap, arith}
use Rattle.std.proofs.lemmas.List.{length-append, length-map}
use Rattle.static_priority.specs.Queues.{Queues}
use Rattle.static_priority.specs.Room.{keys_of}
use Rattle.static_priority.proofs.LevelQueues.push.Goals as goal
use Rattle.static_priority.proofs.QueuesKeepRoom.{can-push, room-stays, keys-pushed, seen-alike}

pub push_back_reserved-requires : goal.push_back_reserved-requires
push_back_reserved-requires c =
    let levels = ap (λ (s : Queues). length s.queues) c.self.view_is in
    let spare = ap (λ (s : Queues). s.spare) c.self.view_is in
    can-push c.self.inside.queues.items c.self.inside.waiting c.self.inside.room (c.get.result - 1) c.index_mut.result.now c.self.invariant
    (omega (arith, length-map c.self.inside.queues.items keys_of)) c.index_mut.ensures.value (omega arith)

pub invariant_of-self : goal.invariant_of-self
invariant_of-self c =
    let levels = ap (λ (s : Queues). length s.queues) c.self.view_is in
    let spare = ap (λ (s : Queues). s.spare) c.self.view_is in
    let longer = ap length c.push_back_reserved.ensures.items in
    room-stays c.self.inside.queues.items c.self.inside.waiting (c.self.inside.waiting + 1) c.self.inside.room (c.get.result - 1)
    c.index_mut.result.now c.push_back_reserved.new.self c.self.invariant
    (omega (arith, length-map c.self.inside.queues.items keys_of)) (omega arith) c.index_mut.ensures.value (omega arith)
    (omega (arith, length-append c.index_mut.result.now.items (c.args.key ∷ []))) (omega arith)

pub returns : goal.returns
returns c =
    let seen = ap (λ (s : Queues). s.queues) c.self.view_is in
    let levels = ap (λ (s : Queues). length s.queues) c.self.view_is in
    let spare = ap (λ (s : Queues). s.spare) c.self.view_is in
    seen-alike _ _ _ _
    (keys-pushed c.self.inside.queues.items c.args.self.now.queues (c.get.result - 1) c.args.level.number c.args.key
    c.index_mut.result.now c.push_back_reserved.new.self seen (omega (arith, length-map c.self.inside.queues.items keys_of))
    c.index_mut.ensures.value c.push_back_reserved.ensures.items (omega arith))
    (omega arith)
