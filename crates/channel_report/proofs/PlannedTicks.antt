-- The ticks of planned packets, one after another, as far as a clock may reach them.
use Rattle.std.proofs.Common.{◌≡◌, ℕ, zero, suc, ◌+◌, ◌-◌, ◌^◌, ◌<◌, ◌≤◌, true, false, List, [], ◌∷◌, ◌++◌, refl, sym, ◌∙◌, ap, inl, inr, arith, append_assoc, append-nil}
use Rattle.std.specs.Prelude.{filter, min}
use Rattle.std.proofs.lemmas.Bool.{le-ltb, lt-ltb, cases_lt, cases_Bool}
use Rattle.channel_report.specs.Sources.{is_made, ticks_from}

-- the ticks from the clock on aren't made
pub none-made : (clock u gap count : ℕ) → clock ≤ u → filter (is_made clock) (ticks_from u gap count) ≡ []
none-made clock u gap zero late = refl
none-made clock u gap (suc count) late =
    let later : clock ≤ u + gap = omega arith in
    rw (le-ltb u clock late) (none-made clock (u + gap) gap count later)

-- a tick that lies late may stand for another that does
same-late : (clock u v gap count : ℕ) → clock ≤ u → clock ≤ v → filter (is_made clock) (ticks_from u gap count) ≡ filter (is_made clock) (ticks_from v gap count)
same-late clock u v gap count late late' = none-made clock u gap count late ∙ sym (none-made clock v gap count late')

one-made : (clock tick gap k left : ℕ) → tick < clock → k ≡ suc left → filter (is_made clock) (ticks_from tick gap k) ≡ tick ∷ filter (is_made clock) (ticks_from (tick + gap) gap left)
one-made clock tick gap k left made e = rw (e, lt-ltb tick clock made) refl

-- a tick below the clock, and then those after it; the next one is kept within a number
pub made-next : (ticks : List ℕ) (clock tick gap next count m : ℕ) (all : List ℕ) → m < count → tick < clock → clock ≤ 2 ^ 63 → next ≡ min (tick + gap) (2 ^ 64 - 1)
    → ticks ++ filter (is_made clock) (ticks_from tick gap (count - m)) ≡ all
    → (ticks ++ tick ∷ []) ++ filter (is_made clock) (ticks_from next gap (count - (m + 1))) ≡ all
made-next ticks clock tick gap next count m all left made small is so_far =
    let more : count - m ≡ suc (count - (m + 1)) = omega arith in
    simp append_assoc (sym (ap (λ rest. ticks ++ rest) (one-made clock tick gap (count - m) (count - (m + 1)) made more ∙ ap (λ rest. tick ∷ rest) (sym same))) ∙ so_far)
  where
    same : filter (is_made clock) (ticks_from next gap (count - (m + 1))) ≡ filter (is_made clock) (ticks_from (tick + gap) gap (count - (m + 1)))
    same = elim (cases_lt (tick + gap) (2 ^ 64)) [
      | inl fits ↦ (let e : next ≡ tick + gap = omega arith in rw e refl)
      | inr over ↦ same-late clock next (tick + gap) gap (count - (m + 1)) (omega arith) (omega arith)
    ]

-- a tick that isn't below the clock, and so none after it
pub made-end : (ticks : List ℕ) (clock tick gap left : ℕ) (all : List ℕ) → clock ≤ tick → ticks ++ filter (is_made clock) (ticks_from tick gap left) ≡ all → ticks ≡ all
made-end ticks clock tick gap left all late so_far =
    sym (append-nil ticks) ∙ ap (λ rest. ticks ++ rest) (sym (none-made clock tick gap left late)) ∙ so_far

-- of the ticks that may be reached, those below a clock
pub made-both : (clock bound : ℕ) (ticks : List ℕ) → filter (is_made clock) (filter (is_made bound) ticks) ≡ filter (is_made bound) (filter (is_made clock) ticks)
made-both clock bound [] = refl
made-both clock bound (tick ∷ ticks) =
    let rest = made-both clock bound ticks in
    elim (cases_Bool (is_made clock tick)) [
      | inl made ↦ elim (cases_Bool (is_made bound tick)) [ inl early ↦ simp (made, early, rest) | inr late ↦ simp (made, late, rest) ]
      | inr not ↦ elim (cases_Bool (is_made bound tick)) [ inl early ↦ simp (not, early, rest) | inr late ↦ simp (not, late, rest) ]
    ]

-- those below a clock are among those below a later one
pub made-within : (clock bound : ℕ) (ticks : List ℕ) → clock ≤ bound → filter (is_made clock) (filter (is_made bound) ticks) ≡ filter (is_made clock) ticks
made-within clock bound [] small = refl
made-within clock bound (tick ∷ ticks) small =
    let rest = made-within clock bound ticks small in
    elim (cases_lt tick bound) [
      | inl early ↦ (let e : is_made bound tick ≡ true = lt-ltb tick bound early in elim (cases_Bool (is_made clock tick)) [ inl made ↦ simp (e, made, rest) | inr not ↦ simp (e, not, rest) ])
      | inr late ↦ (let e : is_made bound tick ≡ false = le-ltb tick bound late in let not : is_made clock tick ≡ false = le-ltb tick clock (omega arith) in simp (e, not, rest))
    ]
