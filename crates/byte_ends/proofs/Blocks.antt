-- Reading block after block until the bytes taken decide something.
use Rattle.std.proofs.Common.{◌≡◌, ℕ, ◌≤◌, List, [], ◌∷◌, ◌++◌, Option, Some, None, Result, Ok, Err, append-nil, append_assoc, length-append, sym, ap, refl, ◌∙◌, arith}
use Rattle.std.specs.Io.KnownBytes.{Consumes, IsAtEnd}
use Rattle.std.proofs.KnownBytes.{Consumes-nil, Consumes-trans}
use Rattle.byte_ends.specs.WholeLines.{feed}
use Rattle.byte_ends.specs.Cutting.{Cutting, WantsMore, ahead, let_go}
use Rattle.byte_ends.specs.Answers.{Moves, GivesNone, Answers}
use Rattle.byte_ends.specs.Steps.{Settles}
use Rattle.byte_ends.specs.declared.lines.Cut.{Cut}
use Rattle.byte_ends.specs.declared.lines.Cut.TheVariants.{Line, End}
use Rattle.byte_ends.specs.declared.lines.LineRefusal.{LineRefusal}
use Rattle.byte_ends.specs.declared.lines.LineRefusal.TheVariants.{ReadFault, TooLong, NoLineEnd, Memory}
use Rattle.byte_ends.proofs.Fetching.{Consumes-ahead}

-- nothing was given yet, and the bytes taken decide nothing
pub record Reached (s t : Cutting) (left left' : Option (List ℕ)) (faults faults' : ℕ) : Type 0 where
  pub moves : Moves s t left left' []
  pub same_number : t.number ≡ s.number
  pub undecided : WantsMore t
  pub counts : faults ≤ faults'

-- nothing was taken, and `out` was given of what was pending
pub Moves-settled : (s t : Cutting) (left : Option (List ℕ)) (out : List ℕ) → s.pending ≡ out ++ t.pending → t.taken ≡ s.taken
    → t.most ≡ s.most → t.ended ≡ s.ended → Moves s t left left out
Moves-settled s t left out joined taken most ended =
    record {
      bytes = [];
      from_source = Consumes-nil left;
      joined = append-nil s.pending ∙ joined;
      counted = omega (arith, taken);
      same_most = most;
      gives = Consumes-ahead s t left left [] out (Consumes-nil left) (append-nil s.pending ∙ joined);
      same_source = λ of at_end. of (sym ended ∙ at_end);
    }

-- bytes taken and none given, and then bytes taken and some given
pub Moves-trans : (s m t : Cutting) (a b c : Option (List ℕ)) (out : List ℕ) → Moves s m a b [] → Moves m t b c out → Moves s t a c out
Moves-trans s m t a b c out p q =
    let consumed : Consumes a c (p.bytes ++ q.bytes) = Consumes-trans a b c p.bytes q.bytes p.from_source q.from_source in
    let joined : s.pending ++ (p.bytes ++ q.bytes) ≡ out ++ t.pending =
    sym (append_assoc s.pending p.bytes q.bytes) ∙ ap (λ l. l ++ q.bytes) p.joined ∙ q.joined in
    record {
      bytes = p.bytes ++ q.bytes;
      from_source = consumed;
      joined = joined;
      counted = omega (arith, p.counted, q.counted, length-append p.bytes q.bytes);
      same_most = q.same_most ∙ p.same_most;
      gives = Consumes-ahead s t a c (p.bytes ++ q.bytes) out consumed joined;
      same_source = λ of. q.same_source (p.same_source of);
    }

-- what was reached, and then more bytes taken
pub GivesNone-after : (s m t : Cutting) (a b c : Option (List ℕ)) (f g : ℕ) → Reached s m a b f g → GivesNone m t b c → GivesNone s t a c
GivesNone-after s m t a b c f g p q =
    record { moves = Moves-trans s m t a b c [] p.moves q.moves; same_number = q.same_number ∙ p.same_number; none_in_hand = q.none_in_hand }

-- where the bytes pending are none and the source is at its end, nothing is ahead
pub IsAtEnd-ahead : (t : Cutting) (left : Option (List ℕ)) → t.pending ≡ [] → IsAtEnd left → IsAtEnd (ahead t left)
IsAtEnd-ahead t None none at_end = tt
IsAtEnd-ahead t (Some xs) none at_end = ap (λ l. l ++ xs) none ∙ at_end

-- where nothing is left and nothing was given, nothing was left
pub IsAtEnd-before : (a b : Option (List ℕ)) → Consumes a b [] → IsAtEnd b → IsAtEnd a
IsAtEnd-before None b p at_end = tt
IsAtEnd-before (Some xs) None p at_end = absurd p
IsAtEnd-before (Some xs) (Some ys) p at_end = p ∙ at_end

-- the line in hand was let go, and nothing else changed
GivesNone-let_go : (s m t : Cutting) (left left' : Option (List ℕ)) → Moves s m left left' [] → m.number ≡ s.number → t ≡ let_go m
    → GivesNone s t left left'
GivesNone-let_go s m t left left' moves number same =
    let last : Moves m (let_go m) left' left' [] = Moves-settled m (let_go m) left' [] refl refl refl refl in
    rw same (record { moves = Moves-trans s m (let_go m) left left' left' [] moves last; same_number = number; none_in_hand = refl })

-- what the bytes taken decide is the answer
pub Answers-settled : (answer : Result Cut LineRefusal) (s m t : Cutting) (left left' : Option (List ℕ)) (f g : ℕ) → Moves s m left left' []
    → m.number ≡ s.number → Settles (Some answer) m t → Answers answer s t left left' f g
Answers-settled (Ok Line) s m t left left' f g moves number gives =
    let joined : m.pending ≡ (t.line ++ feed ∷ []) ++ t.pending = gives.joined ∙ sym (append_assoc t.line (feed ∷ []) t.pending) in
    let last = Moves-settled m t left' (t.line ++ feed ∷ []) joined gives.same_taken gives.same_most gives.same_ended in
    record {
      moves = Moves-trans s m t left left' left' (t.line ++ feed ∷ []) moves last;
      no_feed = gives.no_feed;
      number = omega (arith, gives.number, number);
      within = gives.within;
    }
Answers-settled (Ok End) s m t left left' f g moves number settled =
    let stays = GivesNone-let_go s m t left left' moves number settled.same in
    record {
      stays = stays;
      done = settled.done;
      nothing = λ of.
          let at_end = IsAtEnd-ahead t left' settled.done.none (stays.moves.same_source of settled.done.at_end) in
          (IsAtEnd-before (ahead s left) (ahead t left') stays.moves.gives at_end, at_end);
    }
Answers-settled (Err (TooLong taken)) s m t left left' f g moves number settled =
    record { stays = GivesNone-let_go s m t left left' moves number settled.same; over = settled.over; count = settled.count }
Answers-settled (Err (NoLineEnd line)) s m t left left' f g moves number settled =
    record { stays = GivesNone-let_go s m t left left' moves number settled.same; cut = settled.cut; place = settled.place }
Answers-settled (Err ReadFault) s m t left left' f g moves number settled = absurd settled
Answers-settled (Err Memory) s m t left left' f g moves number settled = absurd settled
