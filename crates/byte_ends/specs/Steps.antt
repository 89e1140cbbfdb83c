-- The two steps of a call for the next line. The first settles what the bytes taken decide, and reads nothing. The
-- second is made where they decide nothing, and reads one block more.
use Rattle.std.specs.Prelude.{◌≡◌, ℕ, ◌+◌, ◌<◌, ◌≤◌, ◌⊎◌, true, List, ◌∷◌, ◌++◌, Option, Some, None, Result, Ok, Err}
use Rattle.byte_ends.specs.WholeLines.{feed}
use Rattle.byte_ends.specs.Cutting.{Cutting, HasNoFeed, WantsMore, IsDone, IsOver, IsCut, given, let_go}
use Rattle.byte_ends.specs.Answers.{GivesNone, AnswersReadFault, AnswersMemory}
use Rattle.byte_ends.specs.declared.block.TheConstants.{BLOCK}
use Rattle.byte_ends.specs.declared.lines.Cut.{Cut}
use Rattle.byte_ends.specs.declared.lines.Cut.TheVariants.{Line, End}
use Rattle.byte_ends.specs.declared.lines.LineRefusal.{LineRefusal}
use Rattle.byte_ends.specs.declared.lines.LineRefusal.TheVariants.{ReadFault, TooLong, NoLineEnd, Memory}

-- one line was taken out of s, with no byte read
pub record GivesLine (s t : Cutting) : Type 0 where
  pub joined : s.pending ≡ t.line ++ feed ∷ t.pending
  pub no_feed : HasNoFeed t.line
  pub number : t.number ≡ s.number + 1
  pub within : given t ≤ t.most
  pub same_most : t.most ≡ s.most
  pub same_taken : t.taken ≡ s.taken
  pub same_ended : t.ended ≡ s.ended

-- nothing but the line in hand was let go, and the bytes taken decide nothing
pub record StaysOpen (s t : Cutting) : Type 0 where
  pub same : t ≡ let_go s
  pub undecided : WantsMore t

-- all bytes were given before
pub record SettlesDone (s t : Cutting) : Type 0 where
  pub same : t ≡ let_go s
  pub done : IsDone t

-- one byte too many was taken before, `taken` in all
pub record SettlesOver (taken : ℕ) (s t : Cutting) : Type 0 where
  pub same : t ≡ let_go s
  pub over : IsOver t
  pub count : taken ≡ t.taken

-- the source had ended inside the line of that number
pub record SettlesCut (line : ℕ) (s t : Cutting) : Type 0 where
  pub same : t ≡ let_go s
  pub cut : IsCut t
  pub place : line ≡ t.number + 1

-- what the bytes taken so far decide
abbrev pub Settles : Option (Result Cut LineRefusal) → Cutting → Cutting → Type 0
Settles None s t = StaysOpen s t
Settles (Some (Ok Line)) s t = GivesLine s t
Settles (Some (Ok End)) s t = SettlesDone s t
Settles (Some (Err (TooLong taken))) s t = SettlesOver taken s t
Settles (Some (Err (NoLineEnd line))) s t = SettlesCut line s t
Settles (Some (Err ReadFault)) s t = ⊥
Settles (Some (Err Memory)) s t = ⊥

-- one block more was read, or the source ended
pub record FetchesMore (s t : Cutting) (left left' : Option (List ℕ)) : Type 0 where
  pub stays : GivesNone s t left left'
  pub goes : (t.ended ≡ true) ⊎ (s.taken < t.taken)
  pub one_block : t.taken ≤ s.taken + BLOCK

-- what reading on answers and does, where the bytes taken decide nothing
abbrev pub Fetches : Result (Unit {0}) LineRefusal → Cutting → Cutting → Option (List ℕ) → Option (List ℕ) → ℕ → ℕ → Type 0
Fetches (Ok _) s t left left' faults faults' = FetchesMore s t left left'
Fetches (Err ReadFault) s t left left' faults faults' = AnswersReadFault s t left left' faults faults'
Fetches (Err Memory) s t left left' faults faults' = AnswersMemory s t left left'
Fetches (Err (TooLong _)) s t left left' faults faults' = ⊥
Fetches (Err (NoLineEnd _)) s t left left' faults faults' = ⊥
