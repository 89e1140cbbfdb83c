-- What a pick answers and leaves, by the queues as they are kept.
use Rattle.std.proofs.Common.{◌≡◌, ℕ, ◌<◌, ◌+◌, ◌-◌, List, [], ◌∷◌, Some, None, length, get_or, set, map, sym, ◌∙◌, arith}
use Rattle.std.proofs.lemmas.List.{map-set, length-map}
use Rattle.std.specs.List.{All, AllWithin}
use Rattle.std.specs.declared.alloc.Global.{Global}
use Rattle.std.specs.declared.collections.VecDeque.{VecDeque}
use Rattle.std.specs.VecDeque.{deque_len}
use Rattle.static_priority.specs.Queues.{head_of, left_of, PicksHead}
use Rattle.static_priority.specs.Room.{keys_of}
use Rattle.static_priority.proofs.NextByPlace.{head_from-empty, head_from-at, picks-at}
use Rattle.static_priority.proofs.QueuesKeepRoom.{keys-at, all-empty, empty-before}

-- where no queue has a key, none is picked and all stays
pub nobody-waits : (queues : List (VecDeque ℕ Global)) (lists : List (List ℕ)) → map keys_of queues ≡ lists → All (λ queue. deque_len queue ≡ 0) queues
    → (None ≡ head_of lists) × (lists ≡ left_of lists) × All (λ keys. keys ≡ []) lists
nobody-waits queues lists seen none =
    let empty = all-empty queues none in
    let whole = head_from-empty 1 (map keys_of queues) (λ k lt. empty k [] lt) in
    rw (← seen) (sym whole.0, sym whole.1, empty)

-- the first queue that has a key gives its head
pub somebody-waits : (queues : List (VecDeque ℕ Global)) (lists : List (List ℕ)) (place level key : ℕ) (queue queue' : VecDeque ℕ Global)
    → map keys_of queues ≡ lists → place < length queues → AllWithin (λ queue. deque_len queue ≡ 0) queues 0 place
    → queue ≡ get_or queues place queue → queue.items ≡ key ∷ queue'.items → level ≡ place + 1
    → (Some (level, key) ≡ head_of lists) × (map keys_of (set queues place queue') ≡ left_of lists) × PicksHead lists (map keys_of (set queues place queue')) level key
somebody-waits queues lists place level key queue queue' seen within before is taken counted =
    let there : get_or (map keys_of queues) place [] ≡ key ∷ queue'.items = keys-at queues place queue within is ∙ taken in
    let inside : place < length (map keys_of queues) = omega (arith, length-map queues keys_of) in
    let empty = empty-before queues place within before in
    let whole = head_from-at 1 (map keys_of queues) place key queue'.items inside there empty in
    let level_is : level ≡ 1 + place = omega arith in
    rw (← seen, map-set keys_of queues place queue') (rw level_is (sym whole.0), sym whole.1, picks-at (map keys_of queues) place level key queue'.items counted inside there empty)

-- where a key is picked, not every queue is empty
pub not-all-empty : (old new : List (List ℕ)) (level key : ℕ) → PicksHead old new level key → All (λ keys. keys ≡ []) old → ⊥
not-all-empty old new level key picks empty =
    let none : get_or old (level - 1) [] ≡ [] = empty (level - 1) [] (let low = picks.one_of.0 in let high = picks.one_of.1 in omega arith) in
    let some = picks.head in cc
