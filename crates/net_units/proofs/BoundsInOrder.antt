-- What the test of a link's bounds gives: each is from 1 to 1,048,576 and no larger than those of higher levels, and
-- those within x ticks are the first ones.
use Rattle.std.proofs.Common.{◌≡◌, ℕ, zero, suc, ◌-◌, ◌<◌, ◌≤◌, true, false, cond, List, [], ◌∷◌, length, get_or, ltb, leb, inl, inr, refl, arith}
use Rattle.std.proofs.lemmas.List.{get_or_past}
use Rattle.std.proofs.lemmas.List.Sums.{AllPass-from_list_all}
use Rattle.std.proofs.lemmas.Bool.{ltb-true, leb-true, leb-false, and_parts, cases_Bool, cases_lt}
use Rattle.net_units.specs.Limits.{most_bound}
use Rattle.net_units.specs.LevelBounds.{rises_above, are_bounds, bound_at, levels_within}

-- each bound is above what the first is above
pub above-low : (low : ℕ) (bs : List ℕ) (j : ℕ) → rises_above low bs ≡ true → j < length bs → low < get_or bs j 0
above-low low [] j r h = absurd (omega arith)
above-low low (b ∷ bs) zero r h = ltb-true low b (and_parts _ _ r).0
above-low low (b ∷ bs) (suc j) r h =
    let first : low < b = ltb-true low b (and_parts _ _ r).0 in
    let later : b < get_or bs j 0 = above-low b bs j (and_parts (ltb low b) (rises_above b bs) r).1 (omega arith) in
    omega arith

-- an item of rising bounds is no larger than one further on
get_or-rising : (low : ℕ) (bs : List ℕ) (i j : ℕ) → rises_above low bs ≡ true → i ≤ j → j < length bs → get_or bs i 0 ≤ get_or bs j 0
get_or-rising low [] i j r order h = absurd (omega arith)
get_or-rising low (b ∷ bs) zero zero r order h = omega arith
get_or-rising low (b ∷ bs) (suc i) zero r order h = absurd (omega arith)
get_or-rising low (b ∷ bs) zero (suc j) r order h =
    let later : b < get_or bs j 0 = above-low b bs j (and_parts (ltb low b) (rises_above b bs) r).1 (omega arith) in
    omega arith
get_or-rising low (b ∷ bs) (suc i) (suc j) r order h =
    get_or-rising b bs i j (and_parts (ltb low b) (rises_above b bs) r).1 (omega arith) (omega arith)

-- no more levels are within x than there are
pub within-count : (bs : List ℕ) (x : ℕ) → levels_within bs x ≤ length bs
within-count [] x = omega arith
within-count (b ∷ bs) x =
    let rest = within-count bs x in
    elim (leb b x) as (λ t. cond t (suc (levels_within bs x)) 0 ≤ suc (length bs)) [ true ↦ omega arith | false ↦ omega arith ]

-- the levels up to the count are within x
pub within-below : (bs : List ℕ) (x j : ℕ) → j < levels_within bs x → get_or bs j 0 ≤ x
within-below [] x j h = absurd (omega arith)
within-below (b ∷ bs) x zero h =
    elim (cases_Bool (leb b x)) [
      | inl e ↦ leb-true b x e
      | inr e ↦ absurd (let none : 0 < 0 = rw e at h in omega arith)
    ]
within-below (b ∷ bs) x (suc j) h =
    elim (cases_Bool (leb b x)) [
      | inl e ↦ within-below bs x j (let k : suc j < suc (levels_within bs x) = rw e at h in omega arith)
      | inr e ↦ absurd (let k : suc j < 0 = rw e at h in omega arith)
    ]

-- the levels past the count are over x
pub over-above : (low : ℕ) (bs : List ℕ) (x j : ℕ) → rises_above low bs ≡ true → levels_within bs x ≤ j → j < length bs → x < get_or bs j 0
over-above low [] x j r h k = absurd (omega arith)
over-above low (b ∷ bs) x zero r h k =
    elim (cases_Bool (leb b x)) [
      | inl e ↦ absurd (let none : suc (levels_within bs x) ≤ 0 = rw e at h in omega arith)
      | inr e ↦ leb-false b x e
    ]
over-above low (b ∷ bs) x (suc j) r h k =
    let rising : rises_above b bs ≡ true = (and_parts (ltb low b) (rises_above b bs) r).1 in
    elim (cases_Bool (leb b x)) [
      | inl e ↦ over-above b bs x j rising (let past : suc (levels_within bs x) ≤ suc j = rw e at h in omega arith) (omega arith)
      | inr e ↦ (let first : x < b = leb-false b x e in let later : b < get_or bs j 0 = above-low b bs j rising (omega arith) in omega arith)
    ]

-- what the test of bounds says, part by part
pub record AreBounds (bs : List ℕ) : Type 0 where
  pub least : 1 ≤ length bs
  pub most : length bs ≤ 8
  pub rising : rises_above 0 bs ≡ true
  pub each : (i : ℕ) → i < length bs → (1 ≤ get_or bs i 0) × (get_or bs i 0 ≤ most_bound)

pub bounds-parts : (bs : List ℕ) → are_bounds bs ≡ true → AreBounds bs
bounds-parts bs h =
    let both = and_parts _ _ h in
    let front = and_parts _ _ both.0 in
    let sizes = and_parts _ _ front.0 in
    record {
      least = leb-true 1 (length bs) sizes.0;
      most = leb-true (length bs) 8 sizes.1;
      rising = front.1;
      each = λ i h. (
        above-low 0 bs i front.1 h,
        leb-true (get_or bs i 0) most_bound (AllPass-from_list_all (λ b. leb b most_bound) bs both.1 i 0 h),
      );
    }

-- a level's bound is at least 1
pub bound-least : (bs : List ℕ) (level : ℕ) → are_bounds bs ≡ true → 1 ≤ level → level ≤ length bs → 1 ≤ bound_at bs level
bound-least bs level h one within = ((bounds-parts bs h).each (level - 1) (omega arith)).0

-- no bound is over its limit, and there is none where there is no level
pub bound_at-most : (bs : List ℕ) (level : ℕ) → are_bounds bs ≡ true → bound_at bs level ≤ 1048576
bound_at-most bs level are =
    elim (cases_lt (level - 1) (length bs)) [
      | inl within ↦ ((bounds-parts bs are).each (level - 1) within).1
      | inr past ↦ (let none = get_or_past bs (level - 1) 0 past in omega (arith, none))
    ]

-- a higher level has no smaller bound
pub bound_at-rising : (bs : List ℕ) (level higher : ℕ) → are_bounds bs ≡ true → 1 ≤ level → level ≤ higher → higher ≤ length bs → bound_at bs level ≤ bound_at bs higher
bound_at-rising bs level higher h one order within =
    get_or-rising 0 bs (level - 1) (higher - 1) (bounds-parts bs h).rising (omega arith) (omega arith)

-- at most 8 levels are within x
pub within-most : (bs : List ℕ) (x : ℕ) → are_bounds bs ≡ true → levels_within bs x ≤ 8
within-most bs x h = omega (arith, within-count bs x, (bounds-parts bs h).most)

-- the level of the count has a bound within x
pub level-fits : (bs : List ℕ) (x level : ℕ) → level ≡ levels_within bs x → 1 ≤ level → bound_at bs level ≤ x
level-fits bs x level e one = within-below bs x (level - 1) (omega arith)

-- each larger level has a bound over x
pub level-largest : (bs : List ℕ) (x level other : ℕ) → are_bounds bs ≡ true → level ≡ levels_within bs x → level < other → other ≤ length bs → x < bound_at bs other
level-largest bs x level other h e past within =
    over-above 0 bs x (other - 1) (bounds-parts bs h).rising (omega arith) (omega arith)

-- the largest level within x, which is no smaller than one whose bound is within x
pub record IsLargest (bs : List ℕ) (level x largest : ℕ) : Type 0 where
  pub least : level ≤ largest
  pub most : largest ≤ length bs
  pub fits : bound_at bs largest ≤ x

pub largest-within : (bs : List ℕ) (level x : ℕ) → are_bounds bs ≡ true → 1 ≤ level → level ≤ length bs → bound_at bs level ≤ x → IsLargest bs level x (levels_within bs x)
largest-within bs level x are one upto fits =
    let least : level ≤ levels_within bs x = elim (cases_lt (levels_within bs x) level) [
      | inl below ↦ absurd (let over = level-largest bs x (levels_within bs x) level are refl below upto in omega (arith, over, fits))
      | inr above ↦ above
    ] in
    record {
      least = least;
      most = within-count bs x;
      fits = level-fits bs x (levels_within bs x) refl (omega (arith, least, one));
    }
