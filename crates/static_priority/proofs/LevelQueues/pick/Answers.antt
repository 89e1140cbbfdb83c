-- The first queue that isn't empty gives its head.
use Rattle.std.proofs.Common.{◌-◌, length, refl, ap, rules, arith}
use Rattle.static_priority.specs.Queues.{Queues}
use Rattle.static_priority.proofs.LevelQueues.pick.Goals as goal
use Rattle.static_priority.proofs.PickByQueues.{nobody-waits, somebody-waits, not-all-empty}
use Rattle.static_priority.proofs.QueuesKeepRoom.{place-is-level, room-stays, some-wait}

-- all are empty
pub returns-in_err-place : goal.returns-in_err-place
returns-in_err-place c =
    let seen = ap (λ (s : Queues). s.queues) c.self.view_is in
    let none = nobody-waits c.deref.result.now c.args.self.now.queues (rw c.deref.ensures.value seen) c.in_err-place.ensures.none in
    record {
      head = rw c.from_residual.ensures none.0;
      left = none.1;
      spare = search rules;
      none = (λ _. none.2, λ _. rw c.from_residual.ensures refl);
      picked = search rules;
    }

pub overflow_cast-place : goal.overflow_cast-place
overflow_cast-place c =
    let low = place-is-level c.self.inside.queues.items c.self.inside.waiting c.self.inside.room c.in_ok-place.place c.self.invariant
    (rw c.deref.ensures.value at c.in_ok-place.ensures.within) (rw c.deref.ensures.value at c.in_ok-place.ensures.found) in
    omega arith

pub overflow_add-place : goal.overflow_add-place
overflow_add-place c =
    let low = place-is-level c.self.inside.queues.items c.self.inside.waiting c.self.inside.room c.in_ok-place.place c.self.invariant
    (rw c.deref.ensures.value at c.in_ok-place.ensures.within) (rw c.deref.ensures.value at c.in_ok-place.ensures.found) in
    omega arith

pub unwrap-level-requires : goal.unwrap-level-requires
unwrap-level-requires c =
    let low = place-is-level c.self.inside.queues.items c.self.inside.waiting c.self.inside.room c.in_ok-place.place c.self.invariant
    (rw c.deref.ensures.value at c.in_ok-place.ensures.within) (rw c.deref.ensures.value at c.in_ok-place.ensures.found) in
    c.new.ensures.found.1 (omega arith, omega arith)

pub overflow_sub-self : goal.overflow_sub-self
overflow_sub-self c =
    some-wait c.self.inside.queues.items c.self.inside.waiting c.self.inside.room c.in_ok-place.place c.unwrap-key.result c.pop_front.new.self.items
    c.index_mut.result.now c.self.invariant (rw c.deref.ensures.value at c.in_ok-place.ensures.within) c.index_mut.ensures.value
    (rw c.unwrap-key.ensures at c.pop_front.ensures.items)

pub invariant_of-self : goal.invariant_of-self
invariant_of-self c =
    let within = rw c.deref.ensures.value at c.in_ok-place.ensures.within in
    let low = place-is-level c.self.inside.queues.items c.self.inside.waiting c.self.inside.room c.in_ok-place.place c.self.invariant
    within (rw c.deref.ensures.value at c.in_ok-place.ensures.found) in
    let taken = rw c.unwrap-key.ensures at c.pop_front.ensures.items in
    let some = some-wait c.self.inside.queues.items c.self.inside.waiting c.self.inside.room c.in_ok-place.place c.unwrap-key.result c.pop_front.new.self.items
    c.index_mut.result.now c.self.invariant within c.index_mut.ensures.value taken in
    room-stays c.self.inside.queues.items c.self.inside.waiting (c.self.inside.waiting - 1) c.self.inside.room c.in_ok-place.place
    c.index_mut.result.now c.pop_front.new.self c.self.invariant within low c.index_mut.ensures.value (omega arith)
    (omega (arith, ap length taken)) (omega arith)

-- a key is picked
pub returns : goal.returns
returns c =
    let seen = ap (λ (s : Queues). s.queues) c.self.view_is in
    let spare = ap (λ (s : Queues). s.spare) c.self.view_is in
    let within = rw c.deref.ensures.value at c.in_ok-place.ensures.within in
    let taken = rw c.unwrap-key.ensures at c.pop_front.ensures.items in
    let some = some-wait c.self.inside.queues.items c.self.inside.waiting c.self.inside.room c.in_ok-place.place c.unwrap-key.result c.pop_front.new.self.items
    c.index_mut.result.now c.self.invariant within c.index_mut.ensures.value taken in
    let picked = somebody-waits c.self.inside.queues.items c.args.self.now.queues c.in_ok-place.place c.unwrap-level.result.number c.unwrap-key.result
    c.index_mut.result.now c.pop_front.new.self seen within (rw c.deref.ensures.value at c.in_ok-place.ensures.first)
    c.index_mut.ensures.value taken (rw c.unwrap-level.ensures at c.new.ensures.value) in
    record {
      head = picked.0;
      left = picked.1;
      spare = omega arith;
      none = (λ is_none. absurd (cc), λ empty. absurd (not-all-empty _ _ _ _ picked.2 empty));
      picked = picked.2;
    }
