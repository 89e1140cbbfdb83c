-- The flights of one channel to one link as a queue, over plain lists: their numbers follow one another, and their rounds rise.
use Rattle.std.proofs.Common.{◌≡◌, ℕ, suc, ◌≤◌, ◌⊎◌, Bool, true, false, List, [], ◌∷◌, ◌++◌, Some, sym, ap, ◌∙◌, subst, inl, inr, arith}
use Rattle.run_engine.proofs.Words.{cases_Bool, eqb-true, same_Some, find, Each, without_first, Flight, is_due, append_assoc, append-nil}

-- the flights that pass `own` have the numbers n + 1, .., dep, in this order, and rising rounds from low to hi
abbrev pub IsQueue : (Flight → Bool) → ℕ → ℕ → ℕ → ℕ → List Flight → Type 0
IsQueue own n dep low hi [] = (n ≡ dep) × (low ≤ suc hi)
IsQueue own n dep low hi (f ∷ fs) = ((own f ≡ true) × (f.packet.number ≡ suc n) × (low ≤ f.round) × IsQueue own (suc n) dep (suc f.round) hi fs) ⊎ ((own f ≡ false) × IsQueue own n dep low hi fs)

-- the clock goes on
pub queue-waits : (own : Flight → Bool) (n dep low hi later : ℕ) (fs : List Flight) → hi ≤ later → IsQueue own n dep low hi fs → IsQueue own n dep low later fs
queue-waits own n dep low hi later [] past is = (is.0, (let l = is.1 in omega (arith, l, past)))
queue-waits own n dep low hi later (f ∷ fs) past is =
    elim is [
      | inl mine ↦ inl (mine.0, mine.1, mine.2, queue-waits own (suc n) dep (suc f.round) hi later fs past mine.3)
      | inr other ↦ inr (other.0, queue-waits own n dep low hi later fs past other.1)
    ]

-- the first due of a list in which no flight is late
pub queue-low : (own : Flight → Bool) (n dep low hi t : ℕ) (fs : List Flight) (f : Flight) → find (is_due t) fs ≡ Some f → own f ≡ true → IsQueue own n dep low hi fs → low ≤ t
queue-low own n dep low hi t [] f found mine is = cc
queue-low own n dep low hi t (g ∷ fs) f found mine is =
    elim (cases_Bool (is_due t g)) [
      | inl due ↦
          (let same : g ≡ f = same_Some g f (rw due at found) in
          let round : g.round ≡ t = eqb-true g.round t due in
          elim is [
            | inl own-g ↦ (let from = own-g.2 in omega (arith, from, round))
            | inr off ↦ absurd (let a = off.0 in let b : own g ≡ true = ap own same ∙ mine in let clash : false ≡ true = sym a ∙ b in cc)
          ])
      | inr later ↦
          (let rest : find (is_due t) fs ≡ Some f = rw later at found in
          elim is [
            | inl own-g ↦ (let below = queue-low own (suc n) dep (suc g.round) hi t fs f rest mine own-g.3 in let from = own-g.2 in omega (arith, below, from))
            | inr off ↦ queue-low own n dep low hi t fs f rest mine off.1
          ])
    ]

-- a flight more that is another's
pub queue-other : (own : Flight → Bool) (n dep low hi : ℕ) (fs : List Flight) (f : Flight) → own f ≡ false → IsQueue own n dep low hi fs → IsQueue own n dep low hi (fs ++ f ∷ [])
queue-other own n dep low hi [] f off is = inr (off, is)
queue-other own n dep low hi (g ∷ fs) f off is =
    elim is [
      | inl mine ↦ inl (mine.0, mine.1, mine.2, queue-other own (suc n) dep (suc g.round) hi fs f off mine.3)
      | inr other ↦ inr (other.0, queue-other own n dep low hi fs f off other.1)
    ]

-- nor do several
pub queue-others : (own : Flight → Bool) (n dep low hi : ℕ) (fs new : List Flight) → Each (λ f. own f ≡ false) new → IsQueue own n dep low hi fs → IsQueue own n dep low hi (fs ++ new)
queue-others own n dep low hi fs [] off is = subst (IsQueue own n dep low hi) (sym (append-nil fs)) is
queue-others own n dep low hi fs (f ∷ new) off is = subst (IsQueue own n dep low hi) (append_assoc fs (f ∷ []) new) (queue-others own n dep low hi (fs ++ f ∷ []) new off.1 (queue-other own n dep low hi fs f off.0 is))

-- its own, with the next number, in a later round than each before
pub queue-more : (own : Flight → Bool) (n dep low hi : ℕ) (fs : List Flight) (f : Flight) → own f ≡ true → f.packet.number ≡ suc dep → suc hi ≤ f.round → IsQueue own n dep low hi fs → IsQueue own n (suc dep) low f.round (fs ++ f ∷ [])
queue-more own n dep low hi [] f mine number past is = inl (mine, (number ∙ ap suc (sym is.0)), (let l = is.1 in omega (arith, l, past)), ((ap suc is.0), (omega arith)))
queue-more own n dep low hi (g ∷ fs) f mine number past is =
    elim is [
      | inl first ↦ inl (first.0, first.1, first.2, queue-more own (suc n) dep (suc g.round) hi fs f mine number past first.3)
      | inr other ↦ inr (other.0, queue-more own n dep low hi fs f mine number past other.1)
    ]

-- the first flight due arrives: another's leaves the queue as it is
pub queue-skips : (own : Flight → Bool) (n dep low hi t : ℕ) (fs : List Flight) (f : Flight) → find (is_due t) fs ≡ Some f → own f ≡ false → IsQueue own n dep low hi fs → IsQueue own n dep low hi (without_first (is_due t) fs)
unfolding without_first
queue-skips own n dep low hi t [] f found off is = is
queue-skips own n dep low hi t (g ∷ fs) f found off is =
    elim (cases_Bool (is_due t g)) [
      | inl due ↦
          (let same : g ≡ f = same_Some g f (rw due at found) in
          elim is [
            | inl first ↦ absurd (let a = first.0 in let b : own g ≡ false = ap own same ∙ off in let clash : true ≡ false = sym a ∙ b in cc)
            | inr other ↦ rw due other.1
          ])
      | inr later ↦
          (let rest : find (is_due t) fs ≡ Some f = rw later at found in
          elim is [
            | inl first ↦ rw later (inl (first.0, first.1, first.2, queue-skips own (suc n) dep (suc g.round) hi t fs f rest off first.3))
            | inr other ↦ rw later (inr (other.0, queue-skips own n dep low hi t fs f rest off other.1))
          ])
    ]

-- one of the queue's is its head: it has the next number, and the rest are due later
pub queue-head : (own : Flight → Bool) (n dep low hi t : ℕ) (fs : List Flight) (f : Flight) → Each (λ g. t ≤ g.round) fs → find (is_due t) fs ≡ Some f → own f ≡ true → IsQueue own n dep low hi fs → (f.packet.number ≡ suc n) × IsQueue own (suc n) dep (suc t) hi (without_first (is_due t) fs)
unfolding without_first
queue-head own n dep low hi t [] f punctual found mine is = cc
queue-head own n dep low hi t (g ∷ fs) f punctual found mine is =
    elim (cases_Bool (is_due t g)) [
      | inl due ↦
          (let same : g ≡ f = same_Some g f (rw due at found) in
          let round : g.round ≡ t = eqb-true g.round t due in
          elim is [
            | inl first ↦ ((ap (λ x. x.packet.number) (sym same) ∙ first.1), rw due (subst (λ r. IsQueue own (suc n) dep (suc r) hi fs) round first.3))
            | inr other ↦ absurd (let a = other.0 in let b : own g ≡ true = ap own same ∙ mine in let clash : false ≡ true = sym a ∙ b in cc)
          ])
      | inr later ↦
          (let rest : find (is_due t) fs ≡ Some f = rw later at found in
          elim is [
            | inl first ↦ absurd (let below = queue-low own (suc n) dep (suc g.round) hi t fs f rest mine first.3 in let from = punctual.0 in omega (arith, below, from))
            | inr other ↦
                (let more = queue-head own n dep low hi t fs f punctual.1 rest mine other.1 in
                (more.0, rw later (inr (other.0, more.1))))
          ])
    ]
