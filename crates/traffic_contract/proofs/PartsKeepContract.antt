-- Parts of a list of ticks that keeps a contract keep it, and the test of a list in order of time says what the fact
-- says.
use Rattle.std.proofs.Common.{◌≡◌, ℕ, zero, suc, ◌+◌, ◌-◌, ◌<◌, ◌≤◌, true, false, List, [], ◌∷◌, ◌++◌, length, get_or, take, drop, min, Decides, refl, sym, ap, ◌∙◌, subst, arith, length-drop, add-zero}
use Rattle.std.proofs.lemmas.Bool.{leb-true, le-leb, false_from_ne_true}
use Rattle.std.proofs.lemmas.Bool.Decides.{Decides-like, Decides-and}
use Rattle.std.proofs.lemmas.List.{get_or-drop, get_or-take, length-take}
use Rattle.std.proofs.Math.Seq.{take-append_seam, drop-append_seam}
use Rattle.traffic_contract.specs.Contract.{Traffic, burst_of}
use Rattle.traffic_contract.specs.Keeping.{Spaced, Keeps, starts_after, are_spaced, keeps}

-- ---- parts of a list that keeps a contract keep it

-- entries stay as far apart without the first n
Spaced-drop : (gap least n : ℕ) (ticks : List ℕ) → Spaced gap least ticks → Spaced gap least (drop n ticks)
Spaced-drop gap least n ticks spaced = record {
  apart = λ i h.
      let e : get_or (drop n ticks) i 0 ≡ get_or ticks (n + i) 0 = get_or-drop n ticks i 0 in
      let f : get_or (drop n ticks) (i + gap) 0 ≡ get_or ticks (n + i + gap) 0 = get_or-drop n ticks (i + gap) 0 ∙ ap (λ k. get_or ticks k 0) (omega arith) in
      omega (arith, e, f, spaced.apart (n + i) (omega (arith, length-drop n ticks)));
}

-- and the first n alone do
Spaced-take : (gap least n : ℕ) (ticks : List ℕ) → Spaced gap least ticks → Spaced gap least (take n ticks)
Spaced-take gap least n ticks spaced = record {
  apart = λ i h.
      let long : length (take n ticks) ≡ min n (length ticks) = length-take n ticks in
      let e : get_or (take n ticks) i 0 ≡ get_or ticks i 0 = get_or-take n ticks i 0 (omega arith) in
      let f : get_or (take n ticks) (i + gap) 0 ≡ get_or ticks (i + gap) 0 = get_or-take n ticks (i + gap) 0 (omega arith) in
      omega (arith, e, f, spaced.apart i (omega arith));
}

-- a list that keeps a contract keeps it without its first entries
pub Keeps-drop : (c : Traffic) (n : ℕ) (ticks : List ℕ) → Keeps c ticks → Keeps c (drop n ticks)
Keeps-drop c n ticks kept = record { neighbours = Spaced-drop 1 c.xmin n ticks kept.neighbours; bursts = Spaced-drop (burst_of c) c.interval n ticks kept.bursts }

-- and without its last ones
pub Keeps-take : (c : Traffic) (n : ℕ) (ticks : List ℕ) → Keeps c ticks → Keeps c (take n ticks)
Keeps-take c n ticks kept = record { neighbours = Spaced-take 1 c.xmin n ticks kept.neighbours; bursts = Spaced-take (burst_of c) c.interval n ticks kept.bursts }

-- so its later part keeps the contract
pub Keeps-suffix : (c : Traffic) (earlier later : List ℕ) → Keeps c (earlier ++ later) → Keeps c later
Keeps-suffix c earlier later kept = subst (Keeps c) (drop-append_seam earlier later) (Keeps-drop c (length earlier) (earlier ++ later) kept)

-- and so does its earlier part
pub Keeps-prefix : (c : Traffic) (earlier later : List ℕ) → Keeps c (earlier ++ later) → Keeps c earlier
Keeps-prefix c earlier later kept = subst (Keeps c) (take-append_seam earlier later) (Keeps-take c (length earlier) (earlier ++ later) kept)

-- the entries after the first are spaced
pub Spaced-rest : (gap least t : ℕ) (ticks : List ℕ) → Spaced gap least (t ∷ ticks) → Spaced gap least ticks
Spaced-rest gap least t ticks spaced = Spaced-drop gap least 1 (t ∷ ticks) spaced

-- ---- the tests

-- a list starts late enough exactly where its first entry, if there is one, does
starts_after-tells : (t least : ℕ) (ticks : List ℕ) → Decides (starts_after t least ticks) (0 < length ticks → t + least ≤ get_or ticks 0 0)
starts_after-tells t least [] = (λ _ h. absurd (omega arith), λ _. refl)
starts_after-tells t least (u ∷ ticks) = (λ e _. leb-true (t + least) u e, λ h. le-leb (t + least) u (h (omega arith)))

-- entries are spaced in a longer list where the first is, and the rest are
Spaced-cons : (gap least t : ℕ) (ticks : List ℕ) → (gap < length (t ∷ ticks) → t + least ≤ get_or (t ∷ ticks) gap 0) → Spaced gap least ticks → (i : ℕ) → i + gap < length (t ∷ ticks) → get_or (t ∷ ticks) i 0 + least ≤ get_or (t ∷ ticks) (i + gap) 0
Spaced-cons gap least t ticks first rest zero h =
    let e : zero + gap ≡ gap = omega arith in rw e (first (omega arith))
Spaced-cons gap least t ticks first rest (suc i) h =
    let e : suc i + gap ≡ suc (i + gap) = omega arith in rw e (rest.apart i (omega arith))

-- the first entry is spaced from the one that stands `gap` places on
Spaced-first : (gap least t : ℕ) (ticks : List ℕ) → Spaced gap least (t ∷ ticks) → gap < length (t ∷ ticks) → t + least ≤ get_or (t ∷ ticks) gap 0
Spaced-first gap least t ticks all h =
    let e : zero + gap ≡ gap = omega arith in rw e at (all.apart zero (omega arith))

-- the first entry of what stands `gap` places on
first-on : (gap least t : ℕ) (ticks : List ℕ) → Decides (starts_after t least (drop gap ticks)) (gap < length ticks → t + least ≤ get_or ticks gap 0)
first-on gap least t ticks =
    let e : get_or (drop gap ticks) 0 0 ≡ get_or ticks gap 0 = get_or-drop gap ticks 0 0 ∙ ap (λ k. get_or ticks k 0) (add-zero gap) in
    let n : length (drop gap ticks) ≡ length ticks - gap = length-drop gap ticks in
    Decides-like _ (λ f h. (rw e at (f (omega arith)))) (λ f h. (rw e (f (omega arith)))) (starts_after-tells t least (drop gap ticks))

-- the test of one distance says whether all entries keep it
pub Decides-are_spaced : (gap least : ℕ) (ticks : List ℕ) → Decides (are_spaced gap least ticks) (Spaced gap least ticks)
unfolding are_spaced
Decides-are_spaced gap least [] = (λ _. record { apart = λ i h. absurd (omega arith) }, λ _. refl)
Decides-are_spaced gap least (t ∷ ticks) =
    Decides-like _ (λ both. record { apart = Spaced-cons gap least t ticks both.0 both.1 })
    (λ all. (Spaced-first gap least t ticks all, Spaced-rest gap least t ticks all))
    (Decides-and _ _ (first-on gap least t (t ∷ ticks)) (Decides-are_spaced gap least ticks))

-- the test of a list in order of time says whether it keeps the contract
pub Decides-keeps : (c : Traffic) (ticks : List ℕ) → Decides (keeps c ticks) (Keeps c ticks)
unfolding keeps
Decides-keeps c ticks =
    Decides-like _ (λ both. record { neighbours = both.0; bursts = both.1 }) (λ kept. (kept.neighbours, kept.bursts))
    (Decides-and _ _ (Decides-are_spaced 1 c.xmin ticks) (Decides-are_spaced (burst_of c) c.interval ticks))

-- a list is spaced where each entry, at the place i - gap, is far enough before the one at i
pub are_spaced-each : (gap least i : ℕ) (ticks : List ℕ) → length ticks ≤ i → ((k : ℕ) → k + gap < i → get_or ticks k 0 + least ≤ get_or ticks (k + gap) 0) → true ≡ are_spaced gap least ticks
are_spaced-each gap least i ticks all each =
    sym ((Decides-are_spaced gap least ticks).1 (record { apart = λ k h. each k (omega arith) }))

-- and isn't where one isn't
pub are_spaced-broken : (gap least i : ℕ) (ticks : List ℕ) → gap ≤ i → i < length ticks → get_or ticks i 0 < get_or ticks (i - gap) 0 + least → false ≡ are_spaced gap least ticks
are_spaced-broken gap least i ticks from h broken =
    sym (false_from_ne_true _ (λ all. absurd (
    let e : i - gap + gap ≡ i = omega arith in
    let far = ((Decides-are_spaced gap least ticks).0 all).apart (i - gap) (omega arith) in
    let near = rw e at far in omega arith)))

pub ruleset spacing = (are_spaced-each, are_spaced-broken)
