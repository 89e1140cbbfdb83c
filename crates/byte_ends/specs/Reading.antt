-- One read of a source. A source is seen as the bytes that it has left, where it makes them known, and its count of
-- faults. A read that takes n bytes, at least one and at most as many as the room has, moves the first n bytes left
-- into the front of the room. A read answers the end only where no byte is left. A read fails only where the count of
-- faults rose in that read, and then it takes no byte.
use Rattle.std.specs.Prelude.{◌≡◌, ℕ, ◌≤◌, List, [], length, take, Option, ⊤}
use Rattle.std.specs.Io.KnownBytes.{Consumes, Keeps, IsAtEnd}
use Rattle.byte_ends.specs.Faults.{FaultsRise}
use Rattle.byte_ends.specs.declared.source.Took.{Took}
use Rattle.byte_ends.specs.declared.source.Took.TheVariants.{Taken, End, Failed}

-- n bytes were taken: `left` is what the source told before and after, `faults` its count
pub record Takes (n : ℕ) (left left' : Option (List ℕ)) (room : List ℕ) (faults faults' : ℕ) : Type 0 where
  pub some : 1 ≤ n
  pub fits : n ≤ length room
  pub moves : Consumes left left' (take n room)
  pub counts : faults ≤ faults'

-- the source ended: no byte was left before the read, and none is left after it
pub record ReachesEnd (left left' : Option (List ℕ)) (faults faults' : ℕ) : Type 0 where
  pub none_left : IsAtEnd left
  pub none_comes : IsAtEnd left'
  pub keeps : Keeps left left'
  pub counts : faults ≤ faults'

-- the read failed: the count rose, and no byte was taken
pub record FailsToRead (left left' : Option (List ℕ)) (faults faults' : ℕ) : Type 0 where
  pub keeps : Keeps left left'
  pub rises : FaultsRise faults faults'

-- what one read answers and does
abbrev pub Reads : Took → Option (List ℕ) → Option (List ℕ) → List ℕ → ℕ → ℕ → Type 0
Reads (Taken n) left left' room faults faults' = Takes n left left' room faults faults'
Reads End left left' room faults faults' = ReachesEnd left left' faults faults'
Reads Failed left left' room faults faults' = FailsToRead left left' faults faults'

-- no more than `most` bytes were taken
abbrev pub TakesAtMost : ℕ → Took → Type 0
TakesAtMost want (Taken n) = n ≤ want
TakesAtMost want End = ⊤
TakesAtMost want Failed = ⊤

-- what was read into an empty block, which then has the bytes of `block`, at most `want`
pub record FillsBlock (n want : ℕ) (block : List ℕ) (left left' : Option (List ℕ)) (faults faults' : ℕ) : Type 0 where
  pub some : 1 ≤ n
  pub at_most : n ≤ want
  pub count : length block ≡ n
  pub moves : Consumes left left' block
  pub counts : faults ≤ faults'

-- what a read into an empty block answers and does
abbrev pub Refills : Took → ℕ → List ℕ → Option (List ℕ) → Option (List ℕ) → ℕ → ℕ → Type 0
Refills (Taken n) want block left left' faults faults' = FillsBlock n want block left left' faults faults'
Refills End want block left left' faults faults' = (block ≡ []) × ReachesEnd left left' faults faults'
Refills Failed want block left left' faults faults' = (block ≡ []) × FailsToRead left left' faults faults'
