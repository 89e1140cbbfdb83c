-- A link serves the packets that wait by static priority: each level has a queue of its own, and the next to
-- leave is the head of the least level whose queue isn't empty, where level 1 is the least. Within a level the
-- first to come is the first to leave (Zhang & Ferrari 1993). Levels are counted from 1. The keys of a queue are
-- listed from its head on.
use Rattle.std.specs.Prelude.{◌≡◌, ℕ, ◌+◌, ◌-◌, ◌<◌, ◌≤◌, List, [], ◌∷◌, ◌++◌, Option, Some, None, length, slice_index_or, slice_set}
use Rattle.net_units.specs.declared.numbers.Level.{Level}
use Rattle.net_units.specs.Numbers.{level_number}

-- what the queues are seen as: each level's keys, level 1 first, and the room for more keys at every level
pub record Queues : Type 0 where
  pub queues : List (List ℕ)
  pub spare : ℕ

-- the keys that wait at a level
abbrev pub queue_of : List (List ℕ) → ℕ → List ℕ
queue_of queues level = slice_index_or queues (level - 1) []

-- the queues with a key more at the end of a level's
abbrev pub with_pushed : List (List ℕ) → ℕ → ℕ → List (List ℕ)
with_pushed queues level key = slice_set queues (level - 1) (queue_of queues level ++ key ∷ [])

-- the head of the first queue that isn't empty, with its level, where the first of the queues is this level's
unfoldable pub head_from : ℕ → List (List ℕ) → Option (ℕ × ℕ)
head_from level [] = None
head_from level ([] ∷ higher) = head_from (level + 1) higher
head_from level ((key ∷ keys) ∷ higher) = Some (level, key)

-- the next key to leave, with its level
abbrev pub head_of : List (List ℕ) → Option (ℕ × ℕ)
head_of queues = head_from 1 queues

-- the queues once that key has left
unfoldable pub left_of : List (List ℕ) → List (List ℕ)
left_of [] = []
left_of ([] ∷ higher) = [] ∷ left_of higher
left_of ((key ∷ keys) ∷ higher) = keys ∷ higher

-- the level and key that a pick answers, by the level's number
abbrev pub numbered : Option (Level × ℕ) → Option (ℕ × ℕ)
numbered None = None
numbered (Some picked) = Some (level_number picked.0, picked.1)

-- this key was picked at this level: it was the head there, every smaller level's queue was empty, and all
-- other keys stay as they are
pub record PicksHead (old new : List (List ℕ)) (level key : ℕ) : Type 0 where
  pub after : List ℕ
  pub one_of : (1 ≤ level) × (level ≤ length old)
  pub head : queue_of old level ≡ key ∷ after
  pub least : (smaller : ℕ) → 1 ≤ smaller → smaller < level → queue_of old smaller ≡ []
  pub left : new ≡ slice_set old (level - 1) after
