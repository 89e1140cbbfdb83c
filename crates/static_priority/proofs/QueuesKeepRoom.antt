-- The queues keep room for their keys.
use Rattle.std.proofs.Common.{◌≡◌, ◌≢◌, ℕ, ◌<◌, ◌≤◌, ◌+◌, List, [], ◌∷◌, ◌++◌, ◌-◌, inl, inr, length, get_or, set, map, refl, ap, sym, subst, ◌∙◌, arith}
use Rattle.std.proofs.lemmas.Bool.{cases_lt}
use Rattle.std.proofs.lemmas.List.{get_or-map, nil_from_length, get_or-set_same, get_or-set_other, set-get_or, map-set, length-map}
use Rattle.std.proofs.lemmas.List.Elements.{All-set, All-map, AllWithin-set, AllWithin-more}
use Rattle.std.proofs.lemmas.List.Sums.{sum_by-set, get_or-le-sum_by}
use Rattle.std.specs.List.{All, AllWithin, HoldsAt}
use Rattle.std.specs.declared.alloc.Global.{Global}
use Rattle.std.specs.declared.collections.VecDeque.{VecDeque}
use Rattle.std.specs.VecDeque.{deque_len, deque_capacity}
use Rattle.static_priority.specs.Queues.{Queues, with_pushed}
use Rattle.static_priority.specs.Room.{keys_of, HoldsEach, HasRoomFor}

-- what these queues with this room are seen as
abbrev pub seen_as : List (List ℕ) → ℕ → Queues
seen_as queues spare = record { queues = queues; spare = spare }

-- the keys at a place are those of the queue there
pub keys-at : (queues : List (VecDeque ℕ Global)) (place : ℕ) (queue : VecDeque ℕ Global) → place < length queues
    → queue ≡ get_or queues place queue → get_or (map keys_of queues) place [] ≡ queue.items
keys-at queues place queue within is = get_or-map keys_of queues place queue [] within ∙ ap keys_of (sym is)

-- the length that a queue keeps is that of its list
pub len-is : (queue : VecDeque ℕ Global) → deque_len queue ≡ length queue.items
len-is queue = queue.ok.0

-- a queue with the same keys at its place leaves all keys as they are
pub keys-stay : (queues : List (VecDeque ℕ Global)) (place : ℕ) (queue queue' : VecDeque ℕ Global) → place < length queues
    → queue ≡ get_or queues place queue → queue'.items ≡ queue.items → map keys_of (set queues place queue') ≡ map keys_of queues
keys-stay queues place queue queue' within is same =
    let there = keys-at queues place queue within is in
    map-set keys_of queues place queue' ∙ (ap (λ keys. set (map keys_of queues) place keys) (same ∙ sym there) ∙ set-get_or (map keys_of queues) place [])

-- a queue with no less room at its place leaves each the room that it has
pub holds-stay : (queues : List (VecDeque ℕ Global)) (place room : ℕ) (queue queue' : VecDeque ℕ Global) → place < length queues
    → queue ≡ get_or queues place queue → deque_capacity queue ≤ deque_capacity queue' → HoldsEach queues room → HoldsEach (set queues place queue') room
holds-stay queues place room queue queue' within is grows holds =
    let here : room ≤ deque_capacity queue = let at = holds place queue within in subst (λ (q : VecDeque ℕ Global). room ≤ deque_capacity q) (sym is) at in
    All-set (λ q. room ≤ deque_capacity q) queues place queue' (omega arith) holds

-- one queue more has the room that is asked for
pub holds-more : (queues : List (VecDeque ℕ Global)) (place room : ℕ) (queue' : VecDeque ℕ Global) → place < length queues
    → room ≤ deque_capacity queue' → AllWithin (λ q. room ≤ deque_capacity q) queues 0 place
    → AllWithin (λ q. room ≤ deque_capacity q) (set queues place queue') 0 (place + 1)
holds-more queues place room queue' within here before =
    AllWithin-more (λ q. room ≤ deque_capacity q) (set queues place queue') 0 place
    (AllWithin-set (λ q. room ≤ deque_capacity q) queues 0 place place queue' within here before)
    (λ d. rw get_or-set_same here)

-- a queue that has a spare place can take a key
pub can-push : (queues : List (VecDeque ℕ Global)) (waiting room place : ℕ) (queue : VecDeque ℕ Global) → HasRoomFor queues waiting room
    → place < length queues → queue ≡ get_or queues place queue → waiting + 1 ≤ room → deque_len queue < deque_capacity queue
can-push queues waiting room place queue has within is spare =
    let there = keys-at queues place queue within is in
    let among = get_or-le-sum_by length (map keys_of queues) place [] (omega (arith, length-map queues keys_of)) in
    let few : length queue.items ≤ waiting = omega (arith, among, ap length there, has.counted) in
    let here : room ≤ deque_capacity queue = let at = has.holds place queue within in subst (λ (q : VecDeque ℕ Global). room ≤ deque_capacity q) (sym is) at in
    omega (arith, len-is queue)

-- another queue at a place of a level keeps the room, where the number of waiting keys follows
pub room-stays : (queues : List (VecDeque ℕ Global)) (waiting waiting' room place : ℕ) (queue queue' : VecDeque ℕ Global) → HasRoomFor queues waiting room
    → place < length queues → place < 8 → queue ≡ get_or queues place queue → deque_capacity queue ≤ deque_capacity queue'
    → waiting' + length queue.items ≡ waiting + length queue'.items → waiting' ≤ room → HasRoomFor (set queues place queue') waiting' room
room-stays queues waiting waiting' room place queue queue' has within low is grows counts within' =
    let lists : List (List ℕ) = map keys_of queues in
    let there = keys-at queues place queue within is in
    let sums = sum_by-set length lists place queue'.items [] (omega (arith, length-map queues keys_of)) in
    record {
      counted = rw (map-set keys_of queues place queue') (omega (arith, sums, ap length there, has.counted));
      within = within';
      holds = holds-stay queues place room queue queue' within is grows has.holds;
      past = λ k far. let apart : k ≢ place = omega arith in
          rw (map-set keys_of queues place queue') (get_or-set_other lists place k queue'.items [] apart ∙ has.past k far);
    }

-- a queue of no length has no key
pub no-keys : (queue : VecDeque ℕ Global) → deque_len queue ≡ 0 → queue.items ≡ []
no-keys queue none = nil_from_length queue.items (omega (arith, len-is queue))

-- where no queue has a length, no list has a key
pub all-empty : (queues : List (VecDeque ℕ Global)) → All (λ queue. deque_len queue ≡ 0) queues → All (λ keys. keys ≡ []) (map keys_of queues)
all-empty queues none = All-map (λ keys. keys ≡ []) keys_of queues (λ k d lt. no-keys (get_or queues k d) (none k d lt))

-- the same before a place
pub empty-before : (queues : List (VecDeque ℕ Global)) (place : ℕ) → place < length queues → AllWithin (λ queue. deque_len queue ≡ 0) queues 0 place
    → (k : ℕ) → k < place → get_or (map keys_of queues) k [] ≡ []
empty-before [] place within none k lt = absurd (omega arith)
empty-before (first ∷ queues) place within none k lt =
    get_or-map keys_of (first ∷ queues) k first [] (omega arith) ∙ no-keys (get_or (first ∷ queues) k first) (none k first (omega arith) lt)

-- keys wait at levels that a link can have
pub place-is-level : (queues : List (VecDeque ℕ Global)) (waiting room place : ℕ) → HasRoomFor queues waiting room → place < length queues
    → HoldsAt (λ queue. 0 < deque_len queue) queues place → place < 8
place-is-level [] waiting room place has within some = absurd (omega arith)
place-is-level (first ∷ queues) waiting room place has within some =
    let queue : VecDeque ℕ Global = get_or (first ∷ queues) place first in
    elim (cases_lt place 8) [
      | inl low ↦ low
      | inr far ↦ (
          let none : queue.items ≡ [] = sym (get_or-map keys_of (first ∷ queues) place first [] within) ∙ has.past place far in
          absurd (omega (arith, ap length none, len-is queue, some first)))
    ]

-- the lists with a key more at the end of a level's
pub keys-pushed : (queues : List (VecDeque ℕ Global)) (lists : List (List ℕ)) (place level key : ℕ) (queue queue' : VecDeque ℕ Global)
    → map keys_of queues ≡ lists → place < length queues → queue ≡ get_or queues place queue → queue'.items ≡ queue.items ++ key ∷ []
    → place ≡ level - 1 → map keys_of (set queues place queue') ≡ with_pushed lists level key
keys-pushed queues lists place level key queue queue' seen within is pushed counted =
    let there = keys-at queues place queue within is in
    rw (← seen, ← counted, map-set keys_of queues place queue', pushed, there) refl

-- queues that are seen alike
pub seen-alike : (old new : List (List ℕ)) (spare spare' : ℕ) → old ≡ new → spare ≡ spare' → seen_as old spare ≡ seen_as new spare'
seen-alike old new spare spare' queues room = rw (queues, room) refl

-- where a queue has a key, a key waits
pub some-wait : (queues : List (VecDeque ℕ Global)) (waiting room place key : ℕ) (after : List ℕ) (queue : VecDeque ℕ Global) → HasRoomFor queues waiting room
    → place < length queues → queue ≡ get_or queues place queue → queue.items ≡ key ∷ after → 1 ≤ waiting
some-wait queues waiting room place key after queue has within is taken =
    let there : get_or (map keys_of queues) place [] ≡ key ∷ after = keys-at queues place queue within is ∙ taken in
    let among = get_or-le-sum_by length (map keys_of queues) place [] (omega (arith, length-map queues keys_of)) in
    omega (arith, among, ap length there, has.counted)
