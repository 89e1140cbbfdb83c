-- A text is written place by place and line by line.
use Rattle.std.proofs.Common.{◌≡◌, ℕ, suc, ◌+◌, ◌<◌, ◌≤◌, List, [], ◌∷◌, ◌++◌, get_or, drop, length, refl, sym, ap, ◌∙◌, append_assoc, append-nil, drop_of_length-le, arith}
use Rattle.std.proofs.Common.{drop-cons}
use Rattle.network_variants.specs.declared.variants.Place.{Place}
use Rattle.network_variants.specs.declared.variants.Line.{Line}
use Rattle.network_variants.specs.Variants.{written, line_in, text_in}

-- the rest from a place on is the place and the rest after it
rest-of-places : (says : Place → List ℕ) (places : List Place) (back : List ℕ) (i : ℕ) (p : Place) → i < length places → p ≡ get_or places i p →
    written says (drop i places) back ≡ p.front.items ++ (says p ++ written says (drop (suc i) places) back)
unfolding written
rest-of-places says places back i p inside is =
    ap (λ (ps : List Place). written says ps back) (drop-cons places i p inside ∙ ap (λ (q : Place). q ∷ drop (suc i) places) (sym is))

pub next-place : (says : Place → List ℕ) (places : List Place) (back whole before middle after : List ℕ) (i : ℕ) (p : Place) → i < length places → p ≡ get_or places i p →
    before ++ written says (drop i places) back ≡ whole → middle ≡ before ++ p.front.items → after ≡ middle ++ says p →
    after ++ written says (drop (i + 1) places) back ≡ whole
next-place says places back whole before middle after i p inside is was one two =
    let rest = written says (drop (suc i) places) back in
    let opened = rest-of-places says places back i p inside is in
    let up : i + 1 ≡ suc i = omega arith in
    ap (λ (n : ℕ). after ++ written says (drop n places) back) up ∙ ap (λ (xs : List ℕ). xs ++ rest) two ∙ ap (λ (xs : List ℕ). (xs ++ says p) ++ rest) one
    ∙ append_assoc (before ++ p.front.items) (says p) rest ∙ append_assoc before p.front.items (says p ++ rest)
    ∙ ap (λ (xs : List ℕ). before ++ xs) (sym opened) ∙ was

rest-of-lines : (says : Place → List ℕ) (lines : List Line) (i : ℕ) (l : Line) → i < length lines → l ≡ get_or lines i l →
    text_in says (drop i lines) ≡ line_in says l ++ text_in says (drop (suc i) lines)
unfolding text_in
rest-of-lines says lines i l inside is =
    ap (λ (ls : List Line). text_in says ls) (drop-cons lines i l inside ∙ ap (λ (k : Line). k ∷ drop (suc i) lines) (sym is))

pub next-line : (says : Place → List ℕ) (lines : List Line) (whole before after : List ℕ) (i : ℕ) (l : Line) → i < length lines → l ≡ get_or lines i l →
    before ++ text_in says (drop i lines) ≡ whole → after ≡ before ++ line_in says l →
    after ++ text_in says (drop (i + 1) lines) ≡ whole
next-line says lines whole before after i l inside is was one =
    let rest = text_in says (drop (suc i) lines) in
    let opened = rest-of-lines says lines i l inside is in
    let up : i + 1 ≡ suc i = omega arith in
    ap (λ (n : ℕ). after ++ text_in says (drop n lines)) up ∙ ap (λ (xs : List ℕ). xs ++ rest) one ∙ append_assoc before (line_in says l) rest ∙ ap (λ (xs : List ℕ). before ++ xs) (sym opened) ∙ was

-- all places are written
pub places-end : (says : Place → List ℕ) (places : List Place) (back whole before : List ℕ) (i : ℕ) → length places ≤ i → before ++ written says (drop i places) back ≡ whole → before ++ back ≡ whole
unfolding written
places-end says places back whole before i past was =
    sym (ap (λ (ps : List Place). before ++ written says ps back) (drop_of_length-le places past)) ∙ was

-- all lines are written
pub lines-end : (says : Place → List ℕ) (lines : List Line) (whole before : List ℕ) (i : ℕ) → length lines ≤ i → before ++ text_in says (drop i lines) ≡ whole → before ≡ whole
unfolding text_in
lines-end says lines whole before i past was =
    sym (append-nil before) ∙ sym (ap (λ (ls : List Line). before ++ text_in says ls) (drop_of_length-le lines past)) ∙ was
