-- A list that keeps a contract has no more entries in a window than the contract's bound.
use Rattle.std.proofs.Common.{◌≡◌, ℕ, zero, suc, ◌+◌, ◌-◌, ◌*◌, ◌/◌, ◌%◌, ◌<◌, ◌≤◌, ⊎_elim, true, false, leb, ltb, List, [], ◌∷◌, length, get_or, take, drop, min, refl, sym, ap, ◌∙◌, subst, arith, length-drop}
use Rattle.std.proofs.lemmas.Bool.{leb-true, ltb-true, le-leb, lt-leb, lt-ltb, le-ltb, cases_lt, and_left, and_right, and_from, and_parts}
use Rattle.std.proofs.lemmas.Nat.{div-add-mod'}
use Rattle.std.proofs.lemmas.Grind.{div_ceil_times}
use Rattle.std.proofs.lemmas.List.Elements.{filter_passes}
use Rattle.std.proofs.Math.Nat.{add-div_right, add-mod_right, lt_of_mul-lt-mul_right}
use Rattle.std.proofs.lemmas.List.{get_or-drop}
use Rattle.std.specs.List.{filter}
use Rattle.net_units.specs.Quotient.{ceil_quotient}
use Rattle.traffic_contract.specs.Contract.{Traffic, IsContract, burst_of, most_in}
use Rattle.traffic_contract.specs.Keeping.{Spaced, Keeps}
use Rattle.traffic_contract.specs.Window.{is_in_window, count_in}
use Rattle.traffic_contract.proofs.PartsKeepContract.{Keeps-drop, Keeps-take, Spaced-rest}

-- ---- a list whose entries all fall into a window

-- an entry is at least so many least gaps after the first as it stands places after it
gaps-before : (least : ℕ) (ticks : List ℕ) (i : ℕ) → Spaced 1 least ticks → i < length ticks → get_or ticks 0 0 + i * least ≤ get_or ticks i 0
gaps-before least ticks zero spaced h = omega arith
gaps-before least ticks (suc i) spaced h =
    let before = gaps-before least ticks i spaced (omega arith) in
    let step = spaced.apart i (omega arith) in
    let e : get_or ticks (i + 1) 0 ≡ get_or ticks (suc i) 0 = ap (λ k. get_or ticks k 0) (omega arith) in
    omega (arith, before, step, e)

-- every entry is one of the w ticks from `from` on
record AllIn (from w : ℕ) (ticks : List ℕ) : Type 0 where
  after : (i : ℕ) → i < length ticks → from ≤ get_or ticks i 0
  before : (i : ℕ) → i < length ticks → get_or ticks i 0 < from + w

-- no more entries than least gaps begun
fits-gaps : (least : ℕ) (ticks : List ℕ) (from w : ℕ) → 1 ≤ least → Spaced 1 least ticks → AllIn from w ticks → length ticks ≤ ceil_quotient w least
fits-gaps least ticks from w some spaced inside =
    ⊎_elim (λ (none : length ticks < 1). omega arith)
    (λ (any : 1 ≤ length ticks).
    let far = gaps-before least ticks (length ticks - 1) spaced (omega arith) in
    let first = inside.after 0 (omega arith) in
    let last = inside.before (length ticks - 1) (omega arith) in
    let up : w ≤ ceil_quotient w least * least = (div_ceil_times w least some).0 in
    let fewer : length ticks - 1 < ceil_quotient w least = lt_of_mul-lt-mul_right least (omega (arith, far, first, last, up)) in
    omega arith)
    (cases_lt (length ticks) 1)

-- no more than a burst in an interval
fits-burst : (c : Traffic) (ticks : List ℕ) (from w : ℕ) → Keeps c ticks → w ≤ c.interval → AllIn from w ticks → length ticks ≤ burst_of c
fits-burst c ticks from w kept short inside =
    ⊎_elim (λ (more : burst_of c < length ticks).
    let apart = kept.bursts.apart 0 (omega arith) in
    let e : get_or ticks (0 + burst_of c) 0 ≡ get_or ticks (burst_of c) 0 = ap (λ k. get_or ticks k 0) (omega arith) in
    let last = inside.before (burst_of c) more in
    let first = inside.after 0 (omega arith) in
    absurd (omega (arith, apart, e, last, first)))
    (λ fits. fits)
    (cases_lt (burst_of c) (length ticks))

-- the bound of a window shorter than the interval, and of one that is an interval longer
most_in-short : (c : Traffic) (w : ℕ) → w / c.interval ≡ 0 → most_in c w ≡ min (burst_of c) (ceil_quotient w c.xmin)
unfolding most_in
most_in-short c w none =
    let whole : w % c.interval ≡ w = (let e = div-add-mod' w c.interval in let f = rw none at e in omega arith) in
    rw (none, whole) (omega arith)

most_in-longer : (c : Traffic) (w : ℕ) → 1 ≤ c.interval → most_in c (w + c.interval) ≡ burst_of c + most_in c w
unfolding most_in
most_in-longer c w some =
    rw (add-div_right w some, add-mod_right w c.interval) (omega arith)

-- what stands a burst after the first falls into the window that begins an interval later
AllIn-later : (c : Traffic) (ticks : List ℕ) (from w : ℕ) → Keeps c ticks → AllIn from (w + c.interval) ticks → AllIn (from + c.interval) w (drop (burst_of c) ticks)
AllIn-later c ticks from w kept inside =
    let at : (i : ℕ) → get_or (drop (burst_of c) ticks) i 0 ≡ get_or ticks (i + burst_of c) 0 = λ i. get_or-drop (burst_of c) ticks i 0 ∙ ap (λ k. get_or ticks k 0) (omega arith) in
    record {
      after = λ i h.
          let in_ticks : i + burst_of c < length ticks = omega (arith, length-drop (burst_of c) ticks) in
          omega (arith, at i, kept.bursts.apart i in_ticks, inside.after i (omega arith));
      before = λ i h.
          let in_ticks : i + burst_of c < length ticks = omega (arith, length-drop (burst_of c) ticks) in
          omega (arith, at i, inside.before (i + burst_of c) in_ticks);
    }

-- a list that keeps the contract and falls into a window is no longer than the bound
length-le-most_in : (c : Traffic) (q : ℕ) (ticks : List ℕ) (from w : ℕ) → IsContract c → Keeps c ticks → AllIn from w ticks → w / c.interval ≡ q → length ticks ≤ most_in c w
length-le-most_in c zero ticks from w valid kept inside none =
    let whole : w % c.interval ≡ w = (let e = div-add-mod' w c.interval in let f = rw none at e in omega arith) in
    let short : w < c.interval = omega (arith, whole, valid.xmin_least, valid.xave_least, valid.interval_least) in
    omega (arith, most_in-short c w none, fits-burst c ticks from w kept (omega arith) inside, fits-gaps c.xmin ticks from w valid.xmin_least kept.neighbours inside)
length-le-most_in c (suc q) ticks from w valid kept inside more =
    let some : 1 ≤ c.interval = omega (arith, valid.xmin_least, valid.xave_least, valid.interval_least) in
    let long : c.interval ≤ w = (let e = div-add-mod' w c.interval in let f = rw more at e in omega arith) in
    let shorter : ℕ = w - c.interval in
    let e : w ≡ (w - c.interval) + c.interval = omega arith in
    let fewer : (w - c.interval) / c.interval ≡ q = (let f = add-div_right (w - c.interval) some in let g : (w - c.interval + c.interval) / c.interval ≡ suc q = ap (λ v. v / c.interval) (sym e) ∙ more in omega (arith, f, g)) in
    let later = length-le-most_in c q (drop (burst_of c) ticks) (from + c.interval) (w - c.interval) valid (Keeps-drop c (burst_of c) ticks kept) (AllIn-later c ticks from (w - c.interval) kept (subst (λ v. AllIn from v ticks) e inside)) fewer in
    omega (arith, later, length-drop (burst_of c) ticks, most_in-longer c (w - c.interval) some, ap (most_in c) e)

-- ---- the entries of a list that fall into a window

-- entries at or past a window's end stay out of it
filter-past : (from w : ℕ) (ticks : List ℕ) → ((i : ℕ) → i < length ticks → from + w ≤ get_or ticks i 0) → filter (is_in_window from w) ticks ≡ []
filter-past from w [] past = refl
filter-past from w (t ∷ ticks) past =
    let out : is_in_window from w t ≡ false = and_right (leb from t) (ltb t (from + w)) (le-ltb t (from + w) (past 0 (omega arith))) in
    rw out (filter-past from w ticks (λ i h. past (suc i) (omega arith)))

-- later entries of a spaced list aren't below the first
first-least : (least t : ℕ) (ticks : List ℕ) (i : ℕ) → Spaced 1 least (t ∷ ticks) → i < length ticks → t ≤ get_or ticks i 0
first-least least t ticks i spaced h = omega (arith, gaps-before least (t ∷ ticks) (suc i) spaced (omega arith))

-- where no entry is before the window, those in it come first
filter-front : (least from w : ℕ) (ticks : List ℕ) → Spaced 1 least ticks → ((i : ℕ) → i < length ticks → from ≤ get_or ticks i 0) → filter (is_in_window from w) ticks ≡ take (length (filter (is_in_window from w) ticks)) ticks
filter-front least from w [] spaced late = refl
filter-front least from w (t ∷ ticks) spaced late =
    ⊎_elim (λ (inside : t < from + w).
    let yes : is_in_window from w t ≡ true = and_from (leb from t) (ltb t (from + w)) (le-leb from t (late 0 (omega arith))) (lt-ltb t (from + w) inside) in
    rw yes (ap (λ ts. t ∷ ts) (filter-front least from w ticks (Spaced-rest 1 least t ticks spaced) (λ i h. late (suc i) (omega arith)))))
    (λ (past : from + w ≤ t).
    let none : filter (is_in_window from w) (t ∷ ticks) ≡ [] = filter-past from w (t ∷ ticks) (all-past from w t ticks past (λ i h. first-least least t ticks i spaced h)) in
    rw none refl)
    (cases_lt t (from + w))
  where
    all-past : (from w t : ℕ) (ticks : List ℕ) → from + w ≤ t → ((i : ℕ) → i < length ticks → t ≤ get_or ticks i 0) → (i : ℕ) → i < length (t ∷ ticks) → from + w ≤ get_or (t ∷ ticks) i 0
    all-past from w t ticks past after zero h = past
    all-past from w t ticks past after (suc i) h = omega (arith, after i (omega arith))

-- the entries in a window keep the contract
Keeps-window : (c : Traffic) (from w : ℕ) (ticks : List ℕ) → Keeps c ticks → Keeps c (filter (is_in_window from w) ticks)
Keeps-window c from w [] kept = kept
Keeps-window c from w (t ∷ ticks) kept =
    ⊎_elim (λ (early : t < from).
    let out : is_in_window from w t ≡ false = and_left (leb from t) (ltb t (from + w)) (lt-leb from t early) in
    rw out (Keeps-window c from w ticks (Keeps-drop c 1 (t ∷ ticks) kept)))
    (λ (late : from ≤ t).
    let front = filter-front c.xmin from w (t ∷ ticks) kept.neighbours (all-late from t ticks late (λ i h. first-least c.xmin t ticks i kept.neighbours h)) in
    subst (Keeps c) (sym front) (Keeps-take c (length (filter (is_in_window from w) (t ∷ ticks))) (t ∷ ticks) kept))
    (cases_lt t from)
  where
    all-late : (from t : ℕ) (ticks : List ℕ) → from ≤ t → ((i : ℕ) → i < length ticks → t ≤ get_or ticks i 0) → (i : ℕ) → i < length (t ∷ ticks) → from ≤ get_or (t ∷ ticks) i 0
    all-late from t ticks late after zero h = late
    all-late from t ticks late after (suc i) h = omega (arith, after i (omega arith))

-- a list that keeps a contract has no more entries in any window than the contract's bound
pub count_in-le : (c : Traffic) (ticks : List ℕ) (from w : ℕ) → IsContract c → Keeps c ticks → count_in ticks from w ≤ most_in c w
unfolding count_in
count_in-le c ticks from w valid kept =
    let inside = filter_passes (is_in_window from w) ticks in
    length-le-most_in c (w / c.interval) (filter (is_in_window from w) ticks) from w valid (Keeps-window c from w ticks kept)
    (record {
      after = λ i h. leb-true from _ (and_parts _ _ (inside i 0 h)).0;
      before = λ i h. ltb-true _ (from + w) (and_parts _ _ (inside i 0 h)).1;
    })
    refl
