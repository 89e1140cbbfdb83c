-- Facts on lists: the first element that passes a test found, changed and taken out, filters, and sums.
use Rattle.std.proofs.Common.{◌≡◌, ℕ, ◌+◌, ◌≤◌, Bool, true, false, cond, ◌&&◌, List, [], ◌∷◌, ◌++◌, map, get_or, Some, inl, inr, ◌⊎◌, refl, sym, ap, ◌∙◌, subst, arith}
use Rattle.std.proofs.lemmas.Bool.{cases_Bool, cond_both}
use Rattle.std.proofs.lemmas.Option.{same_Some}
use Rattle.std.specs.Prelude.{filter, find}
use Rattle.std.specs.Option.{option_map}
use Rattle.traffic_contract.specs.Admission.{total}
use Rattle.traffic_contract.proofs.AdmissionTest.{total-le}
use Rattle.link_steps.specs.Lists.{change_first, without_first, Each, Among}

-- ---- a fact of each element

-- of two lists put together, of what a filter passes, and of each element whatever it is
pub Each-append : {X : Type 0} (P : X → Type 0) (xs ys : List X) → Each P xs → Each P ys → Each P (xs ++ ys)
Each-append P [] ys first rest = rest
Each-append P (x ∷ xs) ys first rest = (first.0, Each-append P xs ys first.1 rest)

pub Each-filter : {X : Type 0} (P : X → Type 0) (test : X → Bool) (xs : List X) → Each P xs → Each P (filter test xs)
Each-filter P test [] each = tt
Each-filter P test (x ∷ xs) each =
    cond_both (test x) (x ∷ filter test xs) (filter test xs) (Each P) (λ _. (each.0, Each-filter P test xs each.1)) (λ _. Each-filter P test xs each.1)

pub Each-from : {X : Type 0} (P : X → Type 0) (xs : List X) → ((x : X) → P x) → Each P xs
Each-from P [] all = tt
Each-from P (x ∷ xs) all = (all x, Each-from P xs all)

-- a fact that follows, two facts at once, and a fact seen through a map
pub Each-if : {X : Type 0} (P Q : X → Type 0) (xs : List X) → ((x : X) → P x → Q x) → Each P xs → Each Q xs
Each-if P Q [] change each = tt
Each-if P Q (x ∷ xs) change each = (change x each.0, Each-if P Q xs change each.1)

pub Each-both : {X : Type 0} (P Q : X → Type 0) (xs : List X) → Each P xs → Each Q xs → Each (λ x. P x × Q x) xs
Each-both P Q [] first second = tt
Each-both P Q (x ∷ xs) first second = ((first.0, second.0), Each-both P Q xs first.1 second.1)

pub Each-map : {X Y : Type 0} (P : Y → Type 0) (g : X → Y) (xs : List X) → Each (λ x. P (g x)) xs → Each P (map g xs)
Each-map P g [] each = tt
Each-map P g (x ∷ xs) each = (each.0, Each-map P g xs each.1)

pub Each-mapped : {X Y : Type 0} (P : Y → Type 0) (g : X → Y) (xs : List X) → Each P (map g xs) → Each (λ x. P (g x)) xs
Each-mapped P g [] each = tt
Each-mapped P g (x ∷ xs) each = (each.0, Each-mapped P g xs each.1)

-- a fact stays where the first element that passes a test is changed or taken out
pub Each-change_first : {X : Type 0} (P : X → Type 0) (test : X → Bool) (change : X → X) (xs : List X) → ((x : X) → P x → P (change x)) → Each P xs → Each P (change_first test change xs)
unfolding change_first
Each-change_first P test change [] keeps each = tt
Each-change_first P test change (x ∷ xs) keeps each =
    cond_both (test x) (change x ∷ xs) (x ∷ change_first test change xs) (Each P) (λ _. (keeps x each.0, each.1)) (λ _. (each.0, Each-change_first P test change xs keeps each.1))

pub Each-without_first : {X : Type 0} (P : X → Type 0) (test : X → Bool) (xs : List X) → Each P xs → Each P (without_first test xs)
unfolding without_first
Each-without_first P test [] each = tt
Each-without_first P test (x ∷ xs) each =
    cond_both (test x) xs (x ∷ without_first test xs) (Each P) (λ _. each.1) (λ _. (each.0, Each-without_first P test xs each.1))

-- two views that agree on each element
pub map-same : {X Y : Type 0} (f g : X → Y) (xs : List X) → Each (λ x. f x ≡ g x) xs → map f xs ≡ map g xs
map-same f g [] same = refl
map-same f g (x ∷ xs) same = rw same.0 (ap (λ ys. g x ∷ ys) (map-same f g xs same.1))

-- ---- the first element that passes a test, seen through a map

-- the first of the images is the image of the first
pub find-map : {X Y : Type 0} (g : X → Y) (test : X → Bool) (seen : Y → Bool) → ((x : X) → seen (g x) ≡ test x) → (xs : List X) → find seen (map g xs) ≡ option_map g (find test xs)
find-map g test seen same [] = refl
find-map g test seen same (x ∷ xs) =
    rw (same x) (elim (test x) as (λ b. cond b (Some (g x)) (find seen (map g xs)) ≡ option_map g (cond b (Some x) (find test xs))) [ true ↦ refl | false ↦ find-map g test seen same xs ])

-- a change of the images that agrees with the change, and an image taken out
pub map-change_first : {X Y : Type 0} (P : X → Type 0) (g : X → Y) (test : X → Bool) (seen : Y → Bool) (change : X → X) (changed : Y → Y) → ((x : X) → seen (g x) ≡ test x) → ((x : X) → P x → changed (g x) ≡ g (change x)) → (xs : List X) → Each P xs → map g (change_first test change xs) ≡ change_first seen changed (map g xs)
unfolding change_first
map-change_first P g test seen change changed same alike [] each = refl
map-change_first P g test seen change changed same alike (x ∷ xs) each =
    rw (same x) (elim (test x) as (λ b. map g (cond b (change x ∷ xs) (x ∷ change_first test change xs)) ≡ cond b (changed (g x) ∷ map g xs) (g x ∷ change_first seen changed (map g xs)))
    [ true ↦ ap (λ y. y ∷ map g xs) (sym (alike x each.0)) | false ↦ ap (λ ys. g x ∷ ys) (map-change_first P g test seen change changed same alike xs each.1) ])

-- a change that the map doesn't see
pub map-change_first-same : {X Y : Type 0} (g : X → Y) (test : X → Bool) (change : X → X) → ((x : X) → g (change x) ≡ g x) → (xs : List X) → map g (change_first test change xs) ≡ map g xs
unfolding change_first
map-change_first-same g test change same [] = refl
map-change_first-same g test change same (x ∷ xs) =
    elim (test x) as (λ b. map g (cond b (change x ∷ xs) (x ∷ change_first test change xs)) ≡ g x ∷ map g xs)
    [ true ↦ ap (λ y. y ∷ map g xs) (same x) | false ↦ ap (λ ys. g x ∷ ys) (map-change_first-same g test change same xs) ]

pub map-without_first : {X Y : Type 0} (g : X → Y) (test : X → Bool) (seen : Y → Bool) → ((x : X) → seen (g x) ≡ test x) → (xs : List X) → map g (without_first test xs) ≡ without_first seen (map g xs)
unfolding without_first
map-without_first g test seen same [] = refl
map-without_first g test seen same (x ∷ xs) =
    rw (same x) (elim (test x) as (λ b. map g (cond b xs (x ∷ without_first test xs)) ≡ cond b (map g xs) (g x ∷ without_first seen (map g xs)))
    [ true ↦ refl | false ↦ ap (λ ys. g x ∷ ys) (map-without_first g test seen same xs) ])

-- ---- filters

-- tests that agree pass the same, of the elements and of their images
pub filter-same : {X : Type 0} (p q : X → Bool) (xs : List X) → Each (λ x. p x ≡ q x) xs → filter p xs ≡ filter q xs
filter-same p q [] same = refl
filter-same p q (x ∷ xs) same =
    rw (same.0, filter-same p q xs same.1) refl

pub filter-map : {X Y : Type 0} (g : X → Y) (p : X → Bool) (seen : Y → Bool) (xs : List X) → Each (λ x. seen (g x) ≡ p x) xs → filter seen (map g xs) ≡ map g (filter p xs)
filter-map g p seen [] same = refl
filter-map g p seen (x ∷ xs) same =
    rw same.0 (elim (p x) as (λ b. cond b (g x ∷ filter seen (map g xs)) (filter seen (map g xs)) ≡ map g (cond b (x ∷ filter p xs) (filter p xs)))
    [ true ↦ ap (λ ys. g x ∷ ys) (filter-map g p seen xs same.1) | false ↦ filter-map g p seen xs same.1 ])

-- where all pass, and where none does
pub filter-all : {X : Type 0} (p : X → Bool) (xs : List X) → Each (λ x. p x ≡ true) xs → filter p xs ≡ xs
filter-all p [] each = refl
filter-all p (x ∷ xs) each = rw each.0 (ap (λ ys. x ∷ ys) (filter-all p xs each.1))

pub filter-none : {X : Type 0} (p : X → Bool) (xs : List X) → Each (λ x. p x ≡ false) xs → filter p xs ≡ []
filter-none p [] each = refl
filter-none p (x ∷ xs) each = rw each.0 (filter-none p xs each.1)

-- a filter of a filter passes what both pass
pub filter-filter : {X : Type 0} (p q : X → Bool) (xs : List X) → filter p (filter q xs) ≡ filter (λ x. q x && p x) xs
filter-filter p q [] = refl
filter-filter p q (x ∷ xs) =
    elim (q x) as (λ b. filter p (cond b (x ∷ filter q xs) (filter q xs)) ≡ cond (b && p x) (x ∷ filter (λ y. q y && p y) xs) (filter (λ y. q y && p y) xs))
    [ true ↦ ap (λ ys. cond (p x) (x ∷ ys) ys) (filter-filter p q xs) | false ↦ filter-filter p q xs ]

-- what is found is found in a filter that passes it
pub find-filter : {X : Type 0} (p q : X → Bool) → ((x : X) → p x ≡ true → q x ≡ true) → (xs : List X) → find p (filter q xs) ≡ find p xs
find-filter p q passes [] = refl
find-filter p q passes (x ∷ xs) =
    elim (cases_Bool (p x)) [
      | inl passed ↦ rw (passes x passed, passed) refl
      | inr failed ↦ rw failed (elim (q x) as (λ b. find p (cond b (x ∷ filter q xs) (filter q xs)) ≡ find p xs) [ true ↦ rw failed (find-filter p q passes xs) | false ↦ find-filter p q passes xs ])
    ]

-- ---- sums

-- a sum of which one part is changed to no more, or taken out
pub total-change_first-le : {X : Type 0} (f : X → ℕ) (test : X → Bool) (change : X → X) (xs : List X) → ((x : X) → find test xs ≡ Some x → f (change x) ≤ f x) → total f (change_first test change xs) ≤ total f xs
unfolding change_first
total-change_first-le f test change [] less = omega arith
total-change_first-le f test change (x ∷ xs) less =
    elim (cases_Bool (test x)) [
      | inl passed ↦ (let h = less x (rw passed refl) in rw passed (omega (arith, h)))
      | inr failed ↦ (let rest = total-change_first-le f test change xs (λ y found. less y (rw failed found)) in rw failed (omega (arith, rest)))
    ]

pub total-without_first-le : {X : Type 0} (f : X → ℕ) (test : X → Bool) (xs : List X) → total f (without_first test xs) ≤ total f xs
unfolding without_first
total-without_first-le f test [] = omega arith
total-without_first-le f test (x ∷ xs) =
    let rest = total-without_first-le f test xs in
    elim (test x) as (λ b. total f (cond b xs (x ∷ without_first test xs)) ≤ f x + total f xs) [ true ↦ omega arith | false ↦ omega arith ]

-- ---- what is found

-- a fact of each element is one of what is found
pub Each-find : {X : Type 0} (P : X → Type 0) (test : X → Bool) (xs : List X) (x : X) → Each P xs → find test xs ≡ Some x → P x
Each-find P test [] x each found = cc
Each-find P test (y ∷ xs) x each found =
    elim (cases_Bool (test y)) [
      | inl passed ↦ subst P (same_Some y x (rw passed at found)) each.0
      | inr failed ↦ Each-find P test xs x each.1 (rw failed at found)
    ]

-- ---- membership

pub Each-among : {X : Type 0} (P : X → Type 0) (x : X) (xs : List X) → Each P xs → Among x xs → P x
Each-among P x [] each among = absurd among
Each-among P x (y ∷ ys) each (inl same) = subst P (sym same) each.0
Each-among P x (y ∷ ys) each (inr among) = Each-among P x ys each.1 among

-- what a filter passes is an element that passes its test
pub Among-filter : {X : Type 0} (test : X → Bool) (x : X) (xs : List X) → Among x (filter test xs) → Among x xs × (test x ≡ true)
Among-filter test x [] among = absurd among
Among-filter test x (y ∷ ys) among = by-test (test y) refl among (Among-filter test x ys) where
  by-test : (b : Bool) → test y ≡ b → Among x (cond b (y ∷ filter test ys) (filter test ys)) → (Among x (filter test ys) → Among x ys × (test x ≡ true)) → Among x (y ∷ ys) × (test x ≡ true)
  by-test true passed (inl same) rest = (inl same, ap test same ∙ passed)
  by-test true passed (inr among) rest = (inr (rest among).0, (rest among).1)
  by-test false failed among rest = (inr (rest among).0, (rest among).1)

-- a sum whose parts are no larger, and of which one part is smaller by d
pub total-drop : {X : Type 0} (f g : X → ℕ) (d : ℕ) (x : X) (xs : List X) → ((y : X) → g y ≤ f y) → Among x xs → g x + d ≤ f x → total g xs + d ≤ total f xs
total-drop f g d x [] less among drop = absurd among
total-drop f g d x (y ∷ ys) less (inl same) drop =
    let rest = total-le g f ys (λ k d inside. less (get_or ys k d)) in
    let e : g x ≡ g y = ap g same in
    let h : f x ≡ f y = ap f same in
    omega (arith, rest, e, h)
total-drop f g d x (y ∷ ys) less (inr among) drop = omega (arith, less y, total-drop f g d x ys less among drop)
