-- How the changes count.
use Rattle.std.proofs.Common.{◌≡◌, ℕ, zero, suc, ◌+◌, ◌*◌, ◌/◌, ◌%◌, ◌<◌, max, List, [], ◌∷◌, length, refl, sym, ap, ◌∙◌, subst, insert, mod-eq_of_lt, arith}
use lib.Arith.{mod-mul}
use native.Mathlib.Nat.{mod-one}
use Rattle.network_variants.specs.declared.variants.Change.{Change}
use Rattle.network_variants.specs.Variants.{AreCounted, EachCombinationOnce, picked, read_off}

-- a change before the others keeps a value for as many variants as they have
pub counted-more : (changes : List Change) (change : Change) (count more : ℕ) → AreCounted changes count → change.every ≡ count → more ≡ length change.words.items * count → AreCounted (change ∷ changes) more
unfolding AreCounted
counted-more changes change count more were every is =
    (is ∙ ap (λ (n : ℕ). length change.words.items * n) (sym every), subst (AreCounted changes) (sym every) were)

-- it is put before them
pub counted-before : (changes new : List Change) (change : Change) (count more : ℕ) → AreCounted changes count → change.every ≡ count → more ≡ length change.words.items * count → new ≡ insert changes 0 change → AreCounted new more
counted-before changes new change count more were every is new_is = subst (λ (cs : List Change). AreCounted cs more) (sym new_is) (counted-more changes change count more were every is)

-- no change yet
pub none-counted : (changes : List Change) → changes ≡ [] → AreCounted changes 1
unfolding AreCounted
none-counted changes none = subst (λ (cs : List Change). AreCounted cs 1) (sym none) refl

both-some : (m c : ℕ) → 0 < m * c → (0 < m) × (0 < c)
both-some zero c some = absurd (omega (arith, some))
both-some (suc m) zero some = absurd (omega (arith, some))
both-some (suc m) (suc c) some = (omega arith, omega arith)

-- whatever the number, the odometer shows what is left of it after whole rounds
read-round : (changes : List Change) (count number : ℕ) → AreCounted changes count → 0 < count → read_off changes number ≡ number % count
unfolding AreCounted read_off
read-round [] count number counted some = sym (ap (λ (m : ℕ). number % m) counted ∙ mod-one number)
read-round (change ∷ changes) count number counted some =
    let long = length change.words.items in
    let every = change.every in
    let both = both-some long every (subst (λ (m : ℕ). 0 < m) counted.0 some) in
    let keeps : max every 1 ≡ every = omega (arith, both.1) in
    let has : max long 1 ≡ long = omega (arith, both.0) in
    let rest = read-round changes every number counted.1 both.1 in
    let pick : picked change number ≡ number / every % long = ap (λ (e : ℕ). number / e % max long 1) keeps ∙ ap (λ (l : ℕ). number / every % l) has in
    ap (λ (p : ℕ). p * every + read_off changes number) pick ∙ ap (λ (r : ℕ). number / every % long * every + r) rest
    ∙ sym (mod-mul number both.0 both.1) ∙ ap (λ (m : ℕ). number % m) (sym counted.0)

pub combination-once : EachCombinationOnce
combination-once changes count number counted inside = read-round changes count number counted (omega (arith, inside)) ∙ mod-eq_of_lt inside
