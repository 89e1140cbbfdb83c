-- One write to a sink. A sink is seen as the bytes that were written to it, where it makes them known, and its count of
-- faults. A write that takes n bytes of a piece, at least one, appends the first n bytes of the piece. A write fails
-- only where the count of faults rose in that write, and then it appends nothing.
use Rattle.std.specs.Prelude.{ℕ, ◌≤◌, ◌<◌, List, length, take, Option}
use Rattle.std.specs.Io.KnownBytes.{Appends, Keeps}
use Rattle.byte_ends.specs.Faults.{FaultsRise}
use Rattle.byte_ends.specs.declared.sink.Put.{Put}
use Rattle.byte_ends.specs.declared.sink.Put.TheVariants.{Wrote, Failed}

-- n bytes of the piece were written: `written` is what the sink told before and after, `faults` its count
pub record Puts (n : ℕ) (written written' : Option (List ℕ)) (piece : List ℕ) (faults faults' : ℕ) : Type 0 where
  pub some : 1 ≤ n
  pub fits : n ≤ length piece
  pub appends : Appends written written' (take n piece)
  pub counts : faults ≤ faults'

-- the write failed: the count rose, and nothing was appended
pub record Refuses (written written' : Option (List ℕ)) (faults faults' : ℕ) : Type 0 where
  pub keeps : Keeps written written'
  pub rises : FaultsRise faults faults'

-- what one write answers and does
abbrev pub Writes : Put → Option (List ℕ) → Option (List ℕ) → List ℕ → ℕ → ℕ → Type 0
Writes (Wrote n) written written' piece faults faults' = Puts n written written' piece faults faults'
Writes Failed written written' piece faults faults' = Refuses written written' faults faults'

-- a prefix of the piece was written, and not all of it
pub record WritesFront (written written' : Option (List ℕ)) (piece : List ℕ) : Type 0 where
  pub count : ℕ
  pub short : count < length piece
  pub appends : Appends written written' (take count piece)

-- some bytes of the piece, and no more than it has
abbrev pub WritesSome : List ℕ → ℕ → Type 0
WritesSome piece count = (1 ≤ count) × (count ≤ length piece)
