-- What the bytes taken decide. A line that is given was pending whole, and ends in the block that was read last. A
-- cutting that is over, cut short or done answers the same again.
use Rattle.std.proofs.Common.{◌≡◌, ◌≢◌, ℕ, ◌+◌, ◌<◌, ◌≤◌, inl, inr, true, List, [], ◌∷◌, ◌++◌, length, take, get_or, Option, Some, Result, Ok, Err, length-append, length-take, sym, ap, refl, ◌∙◌, arith}
use Rattle.std.proofs.lemmas.List.{get_or-take, get_or_at, get_or_append_left}
use Rattle.std.proofs.lemmas.Bool.{cases_lt}
use Rattle.std.proofs.lemmas.List.Elements.{All-take}
use Rattle.byte_ends.specs.WholeLines.{feed}
use Rattle.byte_ends.specs.Cutting.{Cutting, HasLine, HasNoFeed, IsCutting, IsDone, IsOver, IsCut, IsFinal, WantsMore, allowance, let_go}
use Rattle.byte_ends.specs.Answers.{Moves}
use Rattle.byte_ends.specs.Steps.{GivesLine, Settles}
use Rattle.byte_ends.specs.declared.lines.Cut.{Cut}
use Rattle.byte_ends.specs.declared.lines.Cut.TheVariants.{Line, End}
use Rattle.byte_ends.specs.declared.lines.LineRefusal.{LineRefusal}
use Rattle.byte_ends.specs.declared.lines.LineRefusal.TheVariants.{ReadFault, TooLong, NoLineEnd, Memory}

-- a line feed that stands among the first n bytes is found there
found-feed : (n : ℕ) (bs line rest : List ℕ) → bs ≡ line ++ feed ∷ rest → length line < n → HasNoFeed (take n bs) → ⊥
found-feed n bs line rest split room no_feed =
    let long : length line < length (take n bs) =
    omega (arith, length-take n bs, ap length split, length-append line (feed ∷ rest)) in
    let at : get_or (take n bs) (length line) 0 ≡ feed =
    get_or-take n bs (length line) 0 room ∙ ap (λ l. get_or l (length line) 0) split ∙ get_or_at line feed rest 0 (length line) refl in
    no_feed (length line) 0 long at

-- a line that was given stood within the allowance
line-within : (s t : Cutting) → GivesLine s t → length t.line < allowance s
line-within s t gives =
    omega (arith, gives.within, gives.same_most, gives.same_taken, ap length gives.joined, length-append t.line (feed ∷ t.pending))

-- no line is given where the cutting is over
over-without-line : (s t : Cutting) → IsOver s → GivesLine s t → ⊥
over-without-line s t over gives = found-feed (allowance s) s.pending t.line t.pending gives.joined (line-within s t gives) over.no_line

-- no line is given where the bytes are cut short
cut-without-line : (s t : Cutting) → IsCut s → GivesLine s t → ⊥
cut-without-line s t cut gives =
    found-feed (allowance s) s.pending t.line t.pending gives.joined (line-within s t gives) (All-take (λ b. b ≢ feed) (allowance s) s.pending cut.no_line)

-- no line is given where no byte is left
done-without-line : (s t : Cutting) → IsDone s → GivesLine s t → ⊥
done-without-line s t done gives =
    omega (arith, ap length done.none, ap length gives.joined, length-append t.line (feed ∷ t.pending))

-- the source hasn't ended where one byte too many was taken
not-both : (s t : Cutting) → t ≡ let_go s → IsCutting t → s.taken ≡ s.most + 1 → t.ended ≡ true → ⊥
not-both s t same is too_many at_end =
    omega (arith, is.ended_within at_end, too_many, ap (λ (x : Cutting). x.taken) same, ap (λ (x : Cutting). x.most) same)

-- a line that was given was pending whole
pub HasLine-given : (s t : Cutting) → GivesLine s t → HasLine s
HasLine-given s t gives =
    let room = line-within s t gives in
    let at : get_or (take (allowance s) s.pending) (length t.line) feed ≡ feed =
    get_or-take (allowance s) s.pending (length t.line) feed room ∙ ap (λ l. get_or l (length t.line) feed) gives.joined
    ∙ get_or_at t.line feed t.pending feed (length t.line) refl in
    (length t.line, omega (arith, room, length-take (allowance s) s.pending, ap length gives.joined, length-append t.line (feed ∷ t.pending)), at)

-- a line that was given after one more block was read ends in that block, so what is pending is less than the block
pub pending-below-block : (p m t : Cutting) (left left' : Option (List ℕ)) (block : ℕ) → WantsMore p → Moves p m left left' []
    → m.taken ≤ p.taken + block → GivesLine m t → length t.pending < block
pending-below-block p m t left left' block undecided moves one_block gives =
    elim (cases_lt (length t.line) (length p.pending)) [
      | inl before ↦
          let at : get_or p.pending (length t.line) 0 ≡ feed =
          sym (get_or_append_left p.pending moves.bytes 0 (length t.line) before) ∙ ap (λ l. get_or l (length t.line) 0) (moves.joined ∙ gives.joined)
          ∙ get_or_at t.line feed t.pending 0 (length t.line) refl in
          absurd (undecided.no_line (length t.line) 0 before at)
      | inr after ↦
          omega (arith, after, one_block, moves.counted, ap length moves.joined, length-append p.pending moves.bytes, ap length gives.joined, length-append t.line (feed ∷ t.pending))
    ]

-- too long again
pub over-settles : (answer : Result Cut LineRefusal) (s t : Cutting) → Settles (Some answer) s t → IsCutting t → IsOver s
    → answer ≡ Err (TooLong s.taken)
over-settles (Ok Line) s t settled is over = absurd (over-without-line s t over settled)
over-settles (Ok End) s t settled is over = absurd (not-both s t settled.same is over.too_many settled.done.at_end)
over-settles (Err (TooLong taken)) s t settled is over =
    let count : taken ≡ s.taken = settled.count ∙ ap (λ (x : Cutting). x.taken) settled.same in
    rw count refl
over-settles (Err (NoLineEnd line)) s t settled is over = absurd (not-both s t settled.same is over.too_many settled.cut.at_end)
over-settles (Err ReadFault) s t settled is over = absurd settled
over-settles (Err Memory) s t settled is over = absurd settled

-- cut short again
pub cut-settles : (answer : Result Cut LineRefusal) (s t : Cutting) → Settles (Some answer) s t → IsCutting t → IsCut s
    → answer ≡ Err (NoLineEnd (s.number + 1))
cut-settles (Ok Line) s t settled is cut = absurd (cut-without-line s t cut settled)
cut-settles (Ok End) s t settled is cut =
    absurd (cut.some (sym (ap (λ (x : Cutting). x.pending) settled.same) ∙ settled.done.none))
cut-settles (Err (TooLong taken)) s t settled is cut =
    let at_end : t.ended ≡ true = ap (λ (x : Cutting). x.ended) settled.same ∙ cut.at_end in
    absurd (omega (arith, is.ended_within at_end, settled.over.too_many))
cut-settles (Err (NoLineEnd line)) s t settled is cut =
    let place : line ≡ s.number + 1 = settled.place ∙ ap (λ (x : Cutting). x.number + 1) settled.same in
    rw place refl
cut-settles (Err ReadFault) s t settled is cut = absurd settled
cut-settles (Err Memory) s t settled is cut = absurd settled

-- no line is given where the cutting is final
final-without-line : (s t : Cutting) → IsFinal s → GivesLine s t → ⊥
final-without-line s t (inl over) gives = over-without-line s t over gives
final-without-line s t (inr (inl cut)) gives = cut-without-line s t cut gives
final-without-line s t (inr (inr done)) gives = done-without-line s t done gives

-- and nothing changes then but the line in hand
pub final-settles : (answer : Result Cut LineRefusal) (s t : Cutting) → Settles (Some answer) s t → IsFinal s → t ≡ let_go s
final-settles (Ok Line) s t settled last = absurd (final-without-line s t last settled)
final-settles (Ok End) s t settled last = settled.same
final-settles (Err (TooLong taken)) s t settled last = settled.same
final-settles (Err (NoLineEnd line)) s t settled last = settled.same
final-settles (Err ReadFault) s t settled last = absurd settled
final-settles (Err Memory) s t settled last = absurd settled
