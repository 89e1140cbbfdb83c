-- Bytes that are kept in memory as they are written, at most `most` of them in one write, in room that was reserved
-- before the first. A write takes as many as the piece has, up to that number. It fails where the plan says so, and
-- where these bytes have no place in what is left of the room.
use Rattle.std.specs.Prelude.{◌≡◌, ℕ, ◌+◌, ◌≤◌, ◌<◌, ◌⊎◌, min, List, ◌++◌, length, take}
use Rattle.byte_ends.specs.Faults.{Plan, FailsNext, after_call, after_fault}
use Rattle.byte_ends.specs.declared.sink.Put.{Put}
use Rattle.byte_ends.specs.declared.sink.Put.TheVariants.{Wrote, Failed}

-- the bytes written, the room for all bytes, the largest number of bytes in one write, and the plan of faults
pub record Store : Type 0 where
  pub bytes : List ℕ
  pub room : ℕ
  pub most : ℕ
  pub plan : Plan

-- how many bytes of a piece of this length the next write takes, if it doesn't fail
abbrev pub store_count : Store → ℕ → ℕ
store_count s piece = min s.most piece

-- the next bytes of the piece have no place in the room
abbrev pub IsPastRoom : Store → ℕ → Type 0
IsPastRoom s piece = s.room < length s.bytes + store_count s piece

-- a write took n bytes of the piece
pub record Stored (n : ℕ) (s t : Store) (piece : List ℕ) : Type 0 where
  pub not_planned : FailsNext s.plan → ⊥
  pub fits : length s.bytes + n ≤ s.room
  pub count : n ≡ store_count s (length piece)
  pub after : t ≡ record s { bytes = s.bytes ++ take n piece; plan = after_call s.plan }

-- a write failed
pub record Unstored (s t : Store) (piece : List ℕ) : Type 0 where
  pub cause : FailsNext s.plan ⊎ IsPastRoom s (length piece)
  pub after : t ≡ record s { plan = after_fault (after_call s.plan) }

-- what a write answers
abbrev pub Stores : Put → Store → Store → List ℕ → Type 0
Stores (Wrote n) s t piece = Stored n s t piece
Stores Failed s t piece = Unstored s t piece
