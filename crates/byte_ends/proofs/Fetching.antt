-- What reading one block more does to a cutting.
use Rattle.std.proofs.Common.{◌≡◌, ℕ, ◌+◌, ◌≤◌, Bool, true, false, List, [], ◌++◌, length, take, Option, Some, None, append-nil, append_assoc, length-append, sym, ap, refl, ◌∙◌, arith}
use Rattle.std.proofs.lemmas.List.{take_all}
use Rattle.std.proofs.lemmas.Bool.{false≢true}
use Rattle.std.specs.Io.KnownBytes.{Consumes, Keeps}
use Rattle.std.proofs.KnownBytes.{Consumes-nil, Consumes-kept}
use Rattle.byte_ends.specs.Cutting.{Cutting, IsCutting, WantsMore, IsOf, ahead}
use Rattle.byte_ends.specs.Held.{HoldsParts, cutting_of, front_of}
use Rattle.byte_ends.specs.Answers.{GivesNone}

-- the beginning of the pending line and the whole block after it are what was pending
pub gathered : (front block line line' : List ℕ) (n : ℕ) → line ≡ front → n ≡ length block → line' ≡ line ++ take n block → line' ≡ front ++ block
gathered front block line line' n is_front whole moved =
    moved ∙ rw (is_front, whole, take_all (length block) block (omega arith)) refl

-- a cutting to which the bytes of a block were added is held as it should be
pub IsHeld-fetched : (s : Cutting) (whole ended : Bool) (line block : List ℕ) (taken capacity : ℕ) → IsCutting s → WantsMore s
    → whole ≡ false → line ≡ s.pending → taken ≡ s.taken + length block → taken ≤ s.most + 1 → (ended ≡ true → block ≡ [])
    → length line + length block ≤ capacity
    → HoldsParts (cutting_of s.most taken s.number ended whole line block) (front_of whole line) block capacity
IsHeld-fetched s whole ended line block taken capacity was undecided begun all_pending counted fits at_end reserved =
    rw begun (record {
      cutting = record {
        within = fits;
        numbered = omega (arith, was.numbered, counted, ap length all_pending, length-append line block);
        given_within = omega (arith, was.given_within, counted, ap length all_pending, length-append line block);
        ended_within = λ e. omega (arith, counted, undecided.room, ap length (at_end e));
        small = was.small;
      };
      no_feed = rw all_pending undecided.no_line;
      reserved = reserved;
    })

-- what the source gave and what was pending before it is what is ahead
pub Consumes-ahead : (s t : Cutting) (left left' : Option (List ℕ)) (bytes out : List ℕ) → Consumes left left' bytes
    → s.pending ++ bytes ≡ out ++ t.pending → Consumes (ahead s left) (ahead t left') out
Consumes-ahead s t None left' bytes out taken joined = tt
Consumes-ahead s t (Some xs) None bytes out taken joined = absurd taken
Consumes-ahead s t (Some xs) (Some ys) bytes out taken joined =
    ap (λ l. s.pending ++ l) taken ∙ sym (append_assoc s.pending bytes ys) ∙ ap (λ l. l ++ ys) joined ∙ append_assoc out t.pending ys

-- bytes that were taken and are pending, with no line given
pub GivesNone-taken : (s t : Cutting) (left left' : Option (List ℕ)) (bytes : List ℕ) → Consumes left left' bytes
    → t.pending ≡ s.pending ++ bytes → t.taken ≡ s.taken + length bytes → t.most ≡ s.most → t.number ≡ s.number → t.line ≡ []
    → (IsOf s left → IsOf t left') → GivesNone s t left left'
GivesNone-taken s t left left' bytes consumed pending counted most number no_line of =
    record {
      moves = record {
        bytes = bytes;
        from_source = consumed;
        joined = sym pending;
        counted = counted;
        same_most = most;
        gives = Consumes-ahead s t left left' bytes [] consumed (sym pending);
        same_source = of;
      };
      same_number = number;
      none_in_hand = no_line;
    }

-- where nothing was taken, the cutting stays open, and gives no line
pub GivesNone-kept : (s : Cutting) (whole : Bool) (line block : List ℕ) (left left' : Option (List ℕ)) → WantsMore s → whole ≡ false
    → line ≡ s.pending → block ≡ [] → Keeps left left'
    → GivesNone s (cutting_of s.most s.taken s.number s.ended whole line block) left left' × WantsMore (cutting_of s.most s.taken s.number s.ended whole line block)
GivesNone-kept s whole line block left left' undecided begun all_pending none kept =
    rw (begun, all_pending, none, append-nil s.pending) (
      GivesNone-taken s (record s { line = [] }) left left' [] (Consumes-kept left left left' [] (Consumes-nil left) kept) (sym (append-nil s.pending)) (omega arith) refl refl refl
          (λ _ at_end. absurd (false≢true (sym undecided.goes_on ∙ at_end))),
      record { goes_on = undecided.goes_on; room = undecided.room; no_line = undecided.no_line },
    )
