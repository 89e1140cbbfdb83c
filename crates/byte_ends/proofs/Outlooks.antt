-- The answers as a function of the bytes that are not given yet.
use Rattle.std.proofs.Common.{◌≡◌, ◌≢◌, ℕ, zero, suc, ◌+◌, ◌<◌, ◌≤◌, ◌==◌, Bool, true, false, not, List, [], ◌∷◌, ◌++◌, length, take, Option, Some, None, Result, Ok, Err, append-nil, append_assoc, length-append, sym, ap, refl, ◌∙◌, arith}
use Rattle.std.proofs.lemmas.List.Elements.{All-head, All-tail, All-take}
use Rattle.std.proofs.lemmas.List.{take-append-le}
use Rattle.std.proofs.lemmas.Bool.Decides.{nat_tests}
use Rattle.byte_ends.specs.WholeLines.{feed, with_front, whole_lines, Ending, cut_short, too_long, ending_from, ending, Outlook, outlook}
use Rattle.byte_ends.specs.Cutting.{Cutting, HasNoFeed, IsCutting, IsOf, ahead, allowance}
use Rattle.byte_ends.specs.Answers.{Moves, GivesNone, Answers, AnswersLine, AnswersEnd, AnswersTooLong, AnswersNoLineEnd, Foretells, outlook_before}
use Rattle.byte_ends.specs.declared.lines.Cut.{Cut}
use Rattle.byte_ends.specs.declared.lines.Cut.TheVariants.{Line, End}
use Rattle.byte_ends.specs.declared.lines.LineRefusal.{LineRefusal}
use Rattle.byte_ends.specs.declared.lines.LineRefusal.TheVariants.{ReadFault, TooLong, NoLineEnd, Memory}

-- a byte that ends no line fails the test
not-feed : (b : ℕ) → b ≢ feed → (b == feed) ≡ false
not-feed b h = grind (arith, nat_tests)

-- the first whole line, and then those after it
pub whole_lines-line : (n most : ℕ) (line rest : List ℕ) → HasNoFeed line → n ≡ length line + 1 + most
    → whole_lines n (line ++ feed ∷ rest) ≡ line ∷ whole_lines most rest
whole_lines-line zero most [] rest no_feed e = absurd (omega arith)
whole_lines-line (suc n) most [] rest no_feed e =
    let same : n ≡ most = omega arith in
    ap (λ k. [] ∷ whole_lines k rest) same
whole_lines-line zero most (b ∷ line) rest no_feed e = absurd (omega arith)
whole_lines-line (suc n) most (b ∷ line) rest no_feed e =
    let test : (b == feed) ≡ false = not-feed b (All-head (λ c. c ≢ feed) b line no_feed) in
    let after = whole_lines-line n most line rest (All-tail (λ c. c ≢ feed) b line no_feed) (omega arith) in
    rw test (ap (with_front b) after)

-- what comes after the first whole line
pub ending_from-line : (open_line : Bool) (n most : ℕ) (line rest : List ℕ) → HasNoFeed line → n ≡ length line + 1 + most
    → ending_from open_line n (line ++ feed ∷ rest) ≡ ending most rest
ending_from-line open_line zero most [] rest no_feed e = absurd (omega arith)
ending_from-line open_line (suc n) most [] rest no_feed e =
    let same : n ≡ most = omega arith in
    ap (λ k. ending k rest) same
ending_from-line open_line zero most (b ∷ line) rest no_feed e = absurd (omega arith)
ending_from-line open_line (suc n) most (b ∷ line) rest no_feed e =
    ending_from-line (not (b == feed)) n most line rest (All-tail (λ c. c ≢ feed) b line no_feed) (omega arith)

-- bytes with no line feed among those that may stand in lines have no whole line
pub whole_lines-none : (most : ℕ) (bs : List ℕ) → HasNoFeed (take most bs) → whole_lines most bs ≡ []
whole_lines-none most [] no_feed = refl
whole_lines-none zero (b ∷ bs) no_feed = refl
whole_lines-none (suc most) (b ∷ bs) no_feed =
    let test : (b == feed) ≡ false = not-feed b (All-head (λ c. c ≢ feed) b (take most bs) no_feed) in
    rw test (ap (with_front b) (whole_lines-none most bs (All-tail (λ c. c ≢ feed) b (take most bs) no_feed)))

-- more bytes than may stand in lines are too many
pub ending_from-too_long : (open_line : Bool) (most : ℕ) (bs : List ℕ) → most < length bs → ending_from open_line most bs ≡ too_long
ending_from-too_long open_line most [] many = absurd (omega arith)
ending_from-too_long open_line zero (b ∷ bs) many = refl
ending_from-too_long open_line (suc most) (b ∷ bs) many = ending_from-too_long (not (b == feed)) most bs (omega arith)

-- a line that was begun and has no line feed is cut short
ending_from-cut : (most : ℕ) (bs : List ℕ) → HasNoFeed bs → length bs ≤ most → ending_from true most bs ≡ cut_short
ending_from-cut most [] no_feed few = refl
ending_from-cut zero (b ∷ bs) no_feed few = absurd (omega arith)
ending_from-cut (suc most) (b ∷ bs) no_feed few =
    let test : (b == feed) ≡ false = not-feed b (All-head (λ c. c ≢ feed) b bs no_feed) in
    rw test (ending_from-cut most bs (All-tail (λ c. c ≢ feed) b bs no_feed) (omega arith))

-- bytes without a line feed are cut short
pub ending-cut : (most : ℕ) (bs : List ℕ) → HasNoFeed bs → length bs ≤ most → bs ≢ [] → ending most bs ≡ cut_short
ending-cut most [] no_feed few some = absurd (some refl)
ending-cut zero (b ∷ bs) no_feed few some = absurd (omega arith)
ending-cut (suc most) (b ∷ bs) no_feed few some =
    let test : (b == feed) ≡ false = not-feed b (All-head (λ c. c ≢ feed) b bs no_feed) in
    rw test (ending_from-cut most bs (All-tail (λ c. c ≢ feed) b bs no_feed) (omega arith))

-- two parts of an outlook
outlook-parts : (most : ℕ) (bs : List ℕ) (ls : List (List ℕ)) (e : Ending) → whole_lines most bs ≡ ls → ending most bs ≡ e
    → outlook most bs ≡ record { lines = ls; ending = e }
outlook-parts most bs ls e p q = rw (p, q) refl

-- the allowance stays while bytes are taken and none given
allowance-kept : (s t : Cutting) (left left' : Option (List ℕ)) → Moves s t left left' [] → allowance t ≡ allowance s
allowance-kept s t left left' m =
    omega (arith, m.counted, m.same_most, ap length m.joined, length-append s.pending m.bytes)

-- a line and its line feed use up their part of the allowance
pub allowance-line : (s t : Cutting) (left left' : Option (List ℕ)) → AnswersLine s t left left' → allowance s ≡ length t.line + 1 + allowance t
allowance-line s t left left' a =
    let m = a.moves in
    omega (arith, a.within, m.counted, m.same_most, ap length m.joined, length-append s.pending m.bytes, length-append (t.line ++ feed ∷ []) t.pending, length-append t.line (feed ∷ []))

-- nothing was given, so the outlook stays
pub outlook-kept : (s t : Cutting) (left left' : Option (List ℕ)) (xs ys : List ℕ) → GivesNone s t left left' → xs ≡ ys
    → outlook (allowance s) xs ≡ outlook (allowance t) ys
outlook-kept s t left left' xs ys stays same = rw (allowance-kept s t left left' stays.moves, same) refl

-- after a line the outlook has lost that line
Foretells-line : (s t : Cutting) (left left' : Option (List ℕ)) → AnswersLine s t left left' → Foretells (Ok Line) s t (ahead s left) (ahead t left')
Foretells-line s t None left' a = tt
Foretells-line s t (Some xs) None a = absurd a.moves.gives
Foretells-line s t (Some xs) (Some ys) a =
    let rest = t.pending ++ ys in
    let split : s.pending ++ xs ≡ t.line ++ feed ∷ rest = a.moves.gives ∙ append_assoc t.line (feed ∷ []) rest in
    let room = allowance-line s t (Some xs) (Some ys) a in
    rw split (outlook-parts (allowance s) (t.line ++ feed ∷ rest) (t.line ∷ whole_lines (allowance t) rest) (ending (allowance t) rest)
    (whole_lines-line (allowance s) (allowance t) t.line rest a.no_feed room)
    (ending_from-line false (allowance s) (allowance t) t.line rest a.no_feed room))

-- at the end nothing is to come
Foretells-end : (s t : Cutting) (left left' : Option (List ℕ)) → AnswersEnd s t left left' → IsOf s left
    → Foretells (Ok End) s t (ahead s left) (ahead t left')
Foretells-end s t None left' a of = tt
Foretells-end s t (Some xs) None a of = absurd a.stays.moves.gives
Foretells-end s t (Some xs) (Some ys) a of =
    let none : s.pending ++ xs ≡ [] = (a.nothing of).0 in
    rw none refl

-- where nothing was given and nothing is decided, the same is to come
Foretells-kept : (s t : Cutting) (left left' : Option (List ℕ)) (answer : Result Cut LineRefusal) → ((o : Outlook) → outlook_before answer t.line o ≡ o)
    → GivesNone s t left left' → Foretells answer s t (ahead s left) (ahead t left')
Foretells-kept s t None left' answer same stays = tt
Foretells-kept s t (Some xs) None answer same stays = absurd stays.moves.gives
Foretells-kept s t (Some xs) (Some ys) answer same stays =
    outlook-kept s t (Some xs) (Some ys) (s.pending ++ xs) (t.pending ++ ys) stays stays.moves.gives ∙ sym (same (outlook (allowance t) (t.pending ++ ys)))

-- too many bytes with no whole line among those that may stand in lines
Foretells-over : (s t : Cutting) (left left' : Option (List ℕ)) (taken : ℕ) → AnswersTooLong taken s t left left' → IsCutting t
    → Foretells (Err (TooLong taken)) s t (ahead s left) (ahead t left')
Foretells-over s t None left' taken a is = tt
Foretells-over s t (Some xs) None taken a is = absurd a.stays.moves.gives
Foretells-over s t (Some xs) (Some ys) taken a is =
    let over = a.over in
    let within : allowance t ≤ length t.pending = omega (arith, over.too_many) in
    let many : allowance t < length (t.pending ++ ys) = omega (arith, over.too_many, is.given_within, length-append t.pending ys) in
    let no_line : HasNoFeed (take (allowance t) (t.pending ++ ys)) = rw (take-append-le (allowance t) t.pending ys within) over.no_line in
    outlook-kept s t (Some xs) (Some ys) (s.pending ++ xs) (t.pending ++ ys) a.stays a.stays.moves.gives
    ∙ outlook-parts (allowance t) (t.pending ++ ys) [] too_long (whole_lines-none (allowance t) (t.pending ++ ys) no_line) (ending_from-too_long false (allowance t) (t.pending ++ ys) many)

-- the last line has no line feed
Foretells-cut : (s t : Cutting) (left left' : Option (List ℕ)) (line : ℕ) → AnswersNoLineEnd line s t left left' → IsCutting t → IsOf s left
    → Foretells (Err (NoLineEnd line)) s t (ahead s left) (ahead t left')
Foretells-cut s t None left' line a is of = tt
Foretells-cut s t (Some xs) None line a is of = absurd a.stays.moves.gives
Foretells-cut s t (Some xs) (Some ys) line a is of =
    let cut = a.cut in
    let none : ys ≡ [] = a.stays.moves.same_source of cut.at_end in
    let rest : t.pending ++ ys ≡ t.pending = rw none (append-nil t.pending) in
    let few : length t.pending ≤ allowance t = omega (arith, is.ended_within cut.at_end) in
    outlook-kept s t (Some xs) (Some ys) (s.pending ++ xs) t.pending a.stays (a.stays.moves.gives ∙ rest)
    ∙ outlook-parts (allowance t) t.pending [] cut_short
    (whole_lines-none (allowance t) t.pending (All-take (λ b. b ≢ feed) (allowance t) t.pending cut.no_line))
    (ending-cut (allowance t) t.pending cut.no_line few cut.some)

-- what a call answers is a function of the bytes that were not given before it
pub Foretells-answered : (answer : Result Cut LineRefusal) (s t : Cutting) (left left' : Option (List ℕ)) (f g : ℕ) → Answers answer s t left left' f g
    → IsCutting t → IsOf s left → Foretells answer s t (ahead s left) (ahead t left')
Foretells-answered (Ok Line) s t left left' f g a is of = Foretells-line s t left left' a
Foretells-answered (Ok End) s t left left' f g a is of = Foretells-end s t left left' a of
Foretells-answered (Err ReadFault) s t left left' f g a is of = Foretells-kept s t left left' (Err ReadFault) (λ o. refl) a.stays
Foretells-answered (Err (TooLong taken)) s t left left' f g a is of = Foretells-over s t left left' taken a is
Foretells-answered (Err (NoLineEnd line)) s t left left' f g a is of = Foretells-cut s t left left' line a is of
Foretells-answered (Err Memory) s t left left' f g a is of = Foretells-kept s t left left' (Err Memory) (λ o. refl) a.stays
