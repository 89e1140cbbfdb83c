-- Lines and places are cut out of a file, so that together they give the file.
use Rattle.std.proofs.Common.{◌≡◌, ℕ, suc, ◌+◌, ◌<◌, List, [], ◌∷◌, ◌++◌, Vec, Global, get_or, take, drop, length, map, refl, sym, ap, ◌∙◌, append_assoc, append-nil, take-append-drop, arith}
use Rattle.std.proofs.lemmas.List.{map-append}
use Rattle.std.proofs.Math.Seq.{take-suc}
use Rattle.network_variants.specs.declared.variants.Place.{Place}
use Rattle.network_variants.specs.declared.variants.Line.{Line}
use Rattle.network_variants.specs.Joined.{joined}
use Rattle.network_variants.specs.Variants.{written, line_in, own_of, text_in}

abbrev of_line : Vec ℕ Global → List ℕ
of_line line = line.items

-- ---- lines

joined-more : (lines : List (List ℕ)) (line : List ℕ) → joined (lines ++ line ∷ []) ≡ joined lines ++ line
unfolding joined
joined-more [] line = append-nil line
joined-more (first ∷ lines) line = ap (λ (xs : List ℕ). first ++ xs) (joined-more lines line) ∙ sym (append_assoc first (joined lines) line)

-- no line yet
pub none-joined : (lines : List (Vec ℕ Global)) → lines ≡ [] → joined (map of_line lines) ≡ []
unfolding joined
none-joined lines none = ap (λ (ls : List (Vec ℕ Global)). joined (map of_line ls)) none

joined-with : (lines : List (Vec ℕ Global)) (line : Vec ℕ Global) → joined (map of_line (lines ++ line ∷ [])) ≡ joined (map of_line lines) ++ line.items
joined-with lines line = ap joined (map-append of_line lines (line ∷ [])) ∙ joined-more (map of_line lines) line.items

-- the next line is cut from what is left
pub line-cut : (lines more : List (Vec ℕ Global)) (line : Vec ℕ Global) (rest tail file : List ℕ) (at : ℕ) → joined (map of_line lines) ++ rest ≡ file →
    line.items ≡ take at rest → tail ≡ drop at rest → more ≡ lines ++ line ∷ [] → joined (map of_line more) ++ tail ≡ file
line-cut lines more line rest tail file at was front back is =
    ap (λ (ls : List (Vec ℕ Global)). joined (map of_line ls) ++ tail) is
    ∙ ap (λ (xs : List ℕ). xs ++ tail) (joined-with lines line)
    ∙ append_assoc (joined (map of_line lines)) line.items tail
    ∙ ap (λ (xs : List ℕ). joined (map of_line lines) ++ (xs ++ tail)) front
    ∙ ap (λ (xs : List ℕ). joined (map of_line lines) ++ (take at rest ++ xs)) back
    ∙ ap (λ (xs : List ℕ). joined (map of_line lines) ++ xs) (take-append-drop at rest)
    ∙ was

-- ---- places

written-more : (says : Place → List ℕ) (places : List Place) (p : Place) (back : List ℕ) → written says (places ++ p ∷ []) back ≡ written says places (p.front.items ++ (says p ++ back))
unfolding written
written-more says [] p back = refl
written-more says (q ∷ places) p back = ap (λ (xs : List ℕ). q.front.items ++ (says q ++ xs)) (written-more says places p back)

-- no place yet
pub none-written : (says : Place → List ℕ) (places : List Place) (back : List ℕ) → places ≡ [] → written says places back ≡ back
unfolding written
none-written says places back none = ap (λ (ps : List Place). written says ps back) none

-- the next place is cut from what is left
pub place-cut : (places more : List Place) (p : Place) (rest front tail own back line : List ℕ) (before long : ℕ) → written own_of places rest ≡ line →
    p.front.items ≡ front → p.own.items ≡ own → front ≡ take before rest → tail ≡ drop before rest → own ≡ take long tail → back ≡ drop long tail →
    more ≡ places ++ p ∷ [] → written own_of more back ≡ line
place-cut places more p rest front tail own back line before long was of_front of_own a b c d is =
    let two : p.own.items ++ back ≡ tail = ap (λ (xs : List ℕ). xs ++ back) (of_own ∙ c) ∙ ap (λ (xs : List ℕ). take long tail ++ xs) d ∙ take-append-drop long tail in
    let one : p.front.items ++ (p.own.items ++ back) ≡ rest = ap (λ (xs : List ℕ). p.front.items ++ xs) two ∙ ap (λ (xs : List ℕ). xs ++ tail) (of_front ∙ a) ∙ ap (λ (xs : List ℕ). take before rest ++ xs) b ∙ take-append-drop before rest in
    ap (λ (ps : List Place). written own_of ps back) is ∙ written-more own_of places p back ∙ ap (λ (xs : List ℕ). written own_of places xs) one ∙ was

-- ---- lines with their places

text-more : (says : Place → List ℕ) (lines : List Line) (l : Line) → text_in says (lines ++ l ∷ []) ≡ text_in says lines ++ line_in says l
unfolding text_in
text-more says [] l = append-nil (line_in says l)
text-more says (k ∷ lines) l =
    ap (λ (xs : List ℕ). line_in says k ++ xs) (text-more says lines l) ∙ sym (append_assoc (line_in says k) (text_in says lines) (line_in says l))

pub none-cut : (cuts : List Line) → cuts ≡ [] → text_in own_of cuts ≡ joined []
unfolding text_in joined
none-cut cuts none = ap (λ (ls : List Line). text_in own_of ls) none

-- one more line has its places
pub text-cut : (cuts more : List Line) (made : Line) (lines : List (Vec ℕ Global)) (line : Vec ℕ Global) (i : ℕ) (bytes : List ℕ) → text_in own_of cuts ≡ joined (map of_line (take i lines)) →
    line_in own_of made ≡ bytes → bytes ≡ line.items → i < length lines → line ≡ get_or lines i line → more ≡ cuts ++ made ∷ [] →
    text_in own_of more ≡ joined (map of_line (take (i + 1) lines))
text-cut cuts more made lines line i bytes were made_is bytes_are inside is more_is =
    let front = take i lines in
    let up : i + 1 ≡ suc i = omega arith in
    let next : take (i + 1) lines ≡ front ++ line ∷ [] = ap (λ (n : ℕ). take n lines) up ∙ take-suc lines i line inside ∙ ap (λ (l : Vec ℕ Global). front ++ l ∷ []) (sym is) in
    ap (λ (ls : List Line). text_in own_of ls) more_is ∙ text-more own_of cuts made
    ∙ ap (λ (xs : List ℕ). xs ++ line_in own_of made) were ∙ ap (λ (xs : List ℕ). joined (map of_line front) ++ xs) (made_is ∙ bytes_are)
    ∙ sym (joined-with front line) ∙ ap (λ (ls : List (Vec ℕ Global)). joined (map of_line ls)) (sym next)
