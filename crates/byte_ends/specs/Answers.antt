-- What a call for the next line answers. A line comes where one stands whole among the bytes that may stand in lines;
-- the end comes where the source ended and all its bytes were given. The call refuses where the source failed, where
-- memory ran out, where one byte too many was taken and no whole line is left, and where the source ended inside a
-- line. Where the source makes its bytes known, the lines given and the answer after them are a function of those
-- bytes, whatever the sizes of the reads: each call takes the first line off the outlook, or answers what the outlook
-- ends in.
use Rattle.std.specs.Prelude.{◌≡◌, ℕ, ◌+◌, ◌≤◌, List, [], ◌∷◌, ◌++◌, length, Option, Some, None, Result, Ok, Err, ⊤}
use Rattle.std.specs.Io.KnownBytes.{Consumes, IsAtEnd}
use Rattle.byte_ends.specs.Faults.{FaultsRise}
use Rattle.byte_ends.specs.WholeLines.{feed, Outlook, outlook, all_given, cut_short, too_long}
use Rattle.byte_ends.specs.Cutting.{Cutting, HasNoFeed, WantsMore, IsDone, IsOver, IsCut, IsOf, ahead, allowance, given}
use Rattle.byte_ends.specs.declared.lines.Cut.{Cut}
use Rattle.byte_ends.specs.declared.lines.Cut.TheVariants.{Line, End}
use Rattle.byte_ends.specs.declared.lines.LineRefusal.{LineRefusal}
use Rattle.byte_ends.specs.declared.lines.LineRefusal.TheVariants.{ReadFault, TooLong, NoLineEnd, Memory}

-- bytes were taken from the source, `left` being what it told before and after; and the bytes `out` were given, from
-- a prefix of all that were not given
pub record Moves (s t : Cutting) (left left' : Option (List ℕ)) (out : List ℕ) : Type 0 where
  -- what was taken in this call
  pub bytes : List ℕ
  pub from_source : Consumes left left' bytes
  pub joined : s.pending ++ bytes ≡ out ++ t.pending
  pub counted : t.taken ≡ s.taken + length bytes
  pub same_most : t.most ≡ s.most
  -- the bytes not given yet, those that the source has left included, lost `out` at their front
  pub gives : Consumes (ahead s left) (ahead t left') out
  -- a cutting of this source stays one
  pub same_source : IsOf s left → IsOf t left'

-- no line was given: the bytes not given yet and the number stay
pub record GivesNone (s t : Cutting) (left left' : Option (List ℕ)) : Type 0 where
  pub moves : Moves s t left left' []
  pub same_number : t.number ≡ s.number
  pub none_in_hand : t.line ≡ []

-- the next line is in hand: it and its line feed are the first of the bytes that were not given
pub record AnswersLine (s t : Cutting) (left left' : Option (List ℕ)) : Type 0 where
  pub moves : Moves s t left left' (t.line ++ feed ∷ [])
  pub no_feed : HasNoFeed t.line
  pub number : t.number ≡ s.number + 1
  pub within : given t ≤ t.most

-- the source ended, and no byte was or is left
pub record AnswersEnd (s t : Cutting) (left left' : Option (List ℕ)) : Type 0 where
  pub stays : GivesNone s t left left'
  pub done : IsDone t
  pub nothing : IsOf s left → IsAtEnd (ahead s left) × IsAtEnd (ahead t left')

-- the source failed: its count of faults rose
pub record AnswersReadFault (s t : Cutting) (left left' : Option (List ℕ)) (faults faults' : ℕ) : Type 0 where
  pub stays : GivesNone s t left left'
  pub open_still : WantsMore t
  pub rises : FaultsRise faults faults'

-- memory ran out
pub record AnswersMemory (s t : Cutting) (left left' : Option (List ℕ)) : Type 0 where
  pub stays : GivesNone s t left left'
  pub open_still : WantsMore t

-- `taken` bytes were taken, one too many, and no whole line is left among the others
pub record AnswersTooLong (taken : ℕ) (s t : Cutting) (left left' : Option (List ℕ)) : Type 0 where
  pub stays : GivesNone s t left left'
  pub over : IsOver t
  pub count : taken ≡ t.taken

-- the source ended inside the line of that number
pub record AnswersNoLineEnd (line : ℕ) (s t : Cutting) (left left' : Option (List ℕ)) : Type 0 where
  pub stays : GivesNone s t left left'
  pub cut : IsCut t
  pub place : line ≡ t.number + 1

-- what a call for the next line answers and does: s is the cutting before it, t the one after it
abbrev pub Answers : Result Cut LineRefusal → Cutting → Cutting → Option (List ℕ) → Option (List ℕ) → ℕ → ℕ → Type 0
Answers (Ok Line) s t left left' faults faults' = AnswersLine s t left left'
Answers (Ok End) s t left left' faults faults' = AnswersEnd s t left left'
Answers (Err ReadFault) s t left left' faults faults' = AnswersReadFault s t left left' faults faults'
Answers (Err (TooLong taken)) s t left left' faults faults' = AnswersTooLong taken s t left left'
Answers (Err (NoLineEnd line)) s t left left' faults faults' = AnswersNoLineEnd line s t left left'
Answers (Err Memory) s t left left' faults faults' = AnswersMemory s t left left'

-- the outlook before a call, by its answer and the outlook after it
abbrev pub outlook_before : Result Cut LineRefusal → List ℕ → Outlook → Outlook
outlook_before (Ok Line) line after = record { lines = line ∷ after.lines; ending = after.ending }
outlook_before (Ok End) line after = record { lines = []; ending = all_given }
outlook_before (Err ReadFault) line after = after
outlook_before (Err (TooLong _)) line after = record { lines = []; ending = too_long }
outlook_before (Err (NoLineEnd _)) line after = record { lines = []; ending = cut_short }
outlook_before (Err Memory) line after = after

-- the answer is a function of the bytes that were not given, where the source tells them: `bytes` before the call and
-- `rest` after it
abbrev pub Foretells : Result Cut LineRefusal → Cutting → Cutting → Option (List ℕ) → Option (List ℕ) → Type 0
Foretells answer s t None rest = ⊤
Foretells answer s t (Some bytes) None = ⊥
Foretells answer s t (Some bytes) (Some rest) = outlook (allowance s) bytes ≡ outlook_before answer t.line (outlook (allowance t) rest)
