-- How far the cutting of a source into lines has come. Lines may have `most` bytes together, line feeds included. The
-- bytes that were taken from the source and not given in a line yet are pending. Bytes given are those of the lines
-- given, each with its line feed. The cutting is over where one byte more than `most` was taken and no whole line is
-- left among the first `most`; it is cut short where the source ended inside a line; it is done where the source ended
-- and no byte is left. Otherwise, where no whole line is pending, more has to be read.
use Rattle.std.specs.Prelude.{◌≡◌, ◌≢◌, ℕ, ◌+◌, ◌-◌, ◌^◌, ◌<◌, ◌≤◌, ◌⊎◌, Bool, true, false, List, [], length, take, All, Contains, Option}
use Rattle.std.specs.Io.KnownBytes.{prepend_known, IsAtEnd}
use Rattle.byte_ends.specs.WholeLines.{feed}

pub record Cutting : Type 0 where
  -- how many bytes the lines may have together, line feeds included
  pub most : ℕ
  -- how many bytes were taken from the source
  pub taken : ℕ
  -- those of them that were not given in a line yet
  pub pending : List ℕ
  -- the source has ended
  pub ended : Bool
  -- how many lines were given, which is the number of the last one
  pub number : ℕ
  -- the line in hand
  pub line : List ℕ

-- no byte of a list ends a line
abbrev pub HasNoFeed : List ℕ → Type 0
HasNoFeed bs = All (λ b. b ≢ feed) bs

-- how many bytes were given in lines, line feeds included
abbrev pub given : Cutting → ℕ
given t = t.taken - length t.pending

-- how many of the bytes that are not given yet may still stand in lines
abbrev pub allowance : Cutting → ℕ
allowance t = (t.most + length t.pending) - t.taken

-- the bytes that are not given yet, where the source tells those that it has left
abbrev pub ahead : Cutting → Option (List ℕ) → Option (List ℕ)
ahead t left = prepend_known t.pending left

-- what holds of every cutting
pub record IsCutting (t : Cutting) : Type 0 where
  -- never more than one byte too many is taken
  pub within : t.taken ≤ t.most + 1
  -- each line given took its line feed at least
  pub numbered : t.number + length t.pending ≤ t.taken
  -- what was given stood among the first `most` bytes
  pub given_within : t.taken ≤ t.most + length t.pending
  pub ended_within : t.ended ≡ true → t.taken ≤ t.most
  pub small : t.most < 2 ^ 63

-- a whole line is pending
abbrev pub HasLine : Cutting → Type 0
HasLine t = Contains (take (allowance t) t.pending) feed

-- one byte too many was taken, and no whole line is left among the first `most`
pub record IsOver (t : Cutting) : Type 0 where
  pub too_many : t.taken ≡ t.most + 1
  pub no_line : HasNoFeed (take (allowance t) t.pending)

-- the source ended inside a line
pub record IsCut (t : Cutting) : Type 0 where
  pub at_end : t.ended ≡ true
  pub no_line : HasNoFeed t.pending
  pub some : t.pending ≢ []

-- the source ended, and all bytes were given
pub record IsDone (t : Cutting) : Type 0 where
  pub at_end : t.ended ≡ true
  pub none : t.pending ≡ []

-- more has to be read before anything is known
pub record WantsMore (t : Cutting) : Type 0 where
  pub goes_on : t.ended ≡ false
  pub room : t.taken ≤ t.most
  pub no_line : HasNoFeed t.pending

-- the cutting answers the same from now on
abbrev pub IsFinal : Cutting → Type 0
IsFinal t = IsOver t ⊎ (IsCut t ⊎ IsDone t)

-- the bytes taken decide what is answered next
abbrev pub IsDecided : Cutting → Type 0
IsDecided t = HasLine t ⊎ IsFinal t

-- the cutting is of a source that has these bytes left: where it says that the source ended, none is left
abbrev pub IsOf : Cutting → Option (List ℕ) → Type 0
IsOf t left = t.ended ≡ true → IsAtEnd left

-- a cutting whose line in hand was let go
abbrev pub let_go : Cutting → Cutting
let_go s = record s { line = [] }
