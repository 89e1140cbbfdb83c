-- A loop over a list. Where the elements so far pass, those that are left decide; where one doesn't, all is decided.
use Rattle.std.proofs.Common.{◌≡◌, Option, Some, None, ℕ, suc, ◌+◌, ◌<◌, ◌≤◌, Bool, true, false, List, [], ◌∷◌, ◌++◌, length, take, drop, get_or, refl, sym, ap, ◌∙◌, arith}
use Rattle.std.proofs.Math.Seq.{drop-cons, take-suc}
use Rattle.std.proofs.lemmas.List.{drop_all}
use Rattle.std.proofs.lemmas.List.Folds.{list_any-append}
use Rattle.std.proofs.lemmas.Option.{slice_get_within, get_or_from_slice_get}
use Rattle.std.specs.List.{list_all, list_any, slice_get}
use Rattle.std.specs.Prelude.{cond, not, ◌||◌}
use Rattle.hop_reservation.specs.declared.route.Hop.{Hop}
use Rattle.traffic_contract.specs.Admission.{total}
use Rattle.call_script.specs.Rules.{each_after, may_stand, meets, is_joined}
use Rattle.call_script.specs.declared.entries.LinkEntry.{LinkEntry}
use Rattle.call_script.specs.declared.roles.Order.{Order}
use Rattle.call_script.specs.declared.roles.Order.TheVariants as place

-- the elements that are left begin with the one at hand
pub left-at : {X : Type 0} (xs : List X) (i : ℕ) (x : X) → i < length xs → x ≡ get_or xs i x → drop i xs ≡ x ∷ drop (i + 1) xs
left-at xs i x within is =
    let next : suc i ≡ i + 1 = omega arith in
    drop-cons xs i x within ∙ ap (λ y. y ∷ drop (suc i) xs) (sym is) ∙ ap (λ n. x ∷ drop n xs) next

-- and those before it with it are one more
pub before-at : {X : Type 0} (xs : List X) (i : ℕ) (x : X) → i < length xs → x ≡ get_or xs i x → take (i + 1) xs ≡ take i xs ++ x ∷ []
before-at xs i x within is =
    let next : i + 1 ≡ suc i = omega arith in
    ap (λ n. take n xs) next ∙ take-suc xs i x within ∙ ap (λ y. take i xs ++ y ∷ []) (sym is)

pub all-skip : {X : Type 0} (test : X → Bool) (xs : List X) (i : ℕ) (x : X) → i < length xs → x ≡ get_or xs i x → test x ≡ true
    → list_all test (drop i xs) ≡ list_all test (drop (i + 1) xs)
all-skip test xs i x within is passes = rw (left-at xs i x within is) (rw passes refl)

pub all-stop : {X : Type 0} (test : X → Bool) (xs : List X) (i : ℕ) (x : X) → i < length xs → x ≡ get_or xs i x → test x ≡ false
    → list_all test (drop i xs) ≡ false
all-stop test xs i x within is fails = rw (left-at xs i x within is) (rw fails refl)

pub after-skip : {X : Type 0} (test : List X → X → Bool) (xs : List X) (i : ℕ) (x : X) → i < length xs → x ≡ get_or xs i x → test (take i xs) x ≡ true
    → each_after test (take i xs) (drop i xs) ≡ each_after test (take (i + 1) xs) (drop (i + 1) xs)
unfolding each_after
after-skip test xs i x within is passes = rw (left-at xs i x within is) (rw passes (ap (λ above. each_after test above (drop (i + 1) xs)) (sym (before-at xs i x within is))))

pub after-stop : {X : Type 0} (test : List X → X → Bool) (xs : List X) (i : ℕ) (x : X) → i < length xs → x ≡ get_or xs i x → test (take i xs) x ≡ false
    → each_after test (take i xs) (drop i xs) ≡ false
unfolding each_after
after-stop test xs i x within is fails = rw (left-at xs i x within is) (rw fails refl)

pub total-skip : {X : Type 0} (f : X → ℕ) (xs : List X) (i : ℕ) (x : X) → i < length xs → x ≡ get_or xs i x → total f (drop i xs) ≡ f x + total f (drop (i + 1) xs)
total-skip f xs i x within is = rw (left-at xs i x within is) refl

-- whether one of the elements so far passes, with one element more: that is whether it does, or one before it
pub any-more : {X : Type 0} (test : X → Bool) (xs : List X) (i : ℕ) (x : X) (was now : Bool) → i < length xs → x ≡ get_or xs i x → was ≡ list_any test (take i xs) → now ≡ cond (test x) true was
    → now ≡ list_any test (take (i + 1) xs)
any-more test xs i x was now within is before after =
    let more : list_any test (take (i + 1) xs) ≡ (list_any test (take i xs) || (test x || false)) = ap (list_any test) (before-at xs i x within is) ∙ list_any-append test (take i xs) (x ∷ []) in
    after ∙ ap (cond (test x) true) before ∙ by (list_any test (take i xs)) (test x) ∙ sym more where
      by : (one other : Bool) → cond other true one ≡ (one || (other || false))
      by true true = refl
      by true false = refl
      by false true = refl
      by false false = refl

-- it stays where the element passes not
pub any-same : {X : Type 0} (test : X → Bool) (xs : List X) (i : ℕ) (x : X) (was : Bool) → i < length xs → x ≡ get_or xs i x → was ≡ list_any test (take i xs) → test x ≡ false → was ≡ list_any test (take (i + 1) xs)
any-same test xs i x was within is before fails = any-more test xs i x was was within is before (rw fails refl)

-- a set that has what the test tells decides as the test does
pub stands-same : (at : Order) (has other : ℕ → Bool) (chan : Option ℕ) → ((q : ℕ) → has q ≡ other q) → may_stand at has chan ≡ may_stand at other chan
stands-same place.After has other None same = refl
stands-same place.After has other (Some chan) same = ap (λ b. not (not b)) (same chan)
stands-same place.Apart has other None same = refl
stands-same place.Apart has other (Some chan) same = ap not (same chan)

-- ---- by the element at an index

pub read-at : {X : Type 0} (xs : List X) (i : ℕ) (x : X) → slice_get xs i ≡ Some x → x ≡ get_or xs i x
read-at xs i x found = sym (get_or_from_slice_get xs i x x found)

pub all-skip-at : {X : Type 0} (test : X → Bool) (xs : List X) (i : ℕ) (x : X) → slice_get xs i ≡ Some x → test x ≡ true → list_all test (drop i xs) ≡ list_all test (drop (i + 1) xs)
all-skip-at test xs i x found passes = all-skip test xs i x (slice_get_within xs i x found) (read-at xs i x found) passes

pub all-stop-at : {X : Type 0} (test : X → Bool) (xs : List X) (i : ℕ) (x : X) → slice_get xs i ≡ Some x → test x ≡ false → list_all test (drop i xs) ≡ false
all-stop-at test xs i x found fails = all-stop test xs i x (slice_get_within xs i x found) (read-at xs i x found) fails

-- ---- the hops of a route

two-left : (hops : List Hop) (i : ℕ) (hop next : Hop) → slice_get hops i ≡ Some hop → slice_get hops (i + 1) ≡ Some next → drop i hops ≡ hop ∷ next ∷ drop (i + 1 + 1) hops
two-left hops i hop next found after =
    left-at hops i hop (slice_get_within hops i hop found) (read-at hops i hop found)
    ∙ ap (λ rest. hop ∷ rest) (left-at hops (i + 1) next (slice_get_within hops (i + 1) next after) (read-at hops (i + 1) next after))

pub joined-skip : (links : List LinkEntry) (hops : List Hop) (i : ℕ) (hop next : Hop) → slice_get hops i ≡ Some hop → slice_get hops (i + 1) ≡ Some next → meets links hop.link next.link ≡ true
    → is_joined links (drop i hops) ≡ is_joined links (drop (i + 1) hops)
joined-skip links hops i hop next found after meet =
    ap (is_joined links) (two-left hops i hop next found after) ∙ rw meet refl
    ∙ ap (is_joined links) (sym (left-at hops (i + 1) next (slice_get_within hops (i + 1) next after) (read-at hops (i + 1) next after)))

pub joined-stop : (links : List LinkEntry) (hops : List Hop) (i : ℕ) (hop next : Hop) → slice_get hops i ≡ Some hop → slice_get hops (i + 1) ≡ Some next → meets links hop.link next.link ≡ false
    → is_joined links (drop i hops) ≡ false
joined-stop links hops i hop next found after apart = ap (is_joined links) (two-left hops i hop next found after) ∙ rw apart refl

-- ---- at the end

pub over : {X : Type 0} (test : List X → X → Bool) (xs : List X) (i : ℕ) → length xs ≤ i → each_after test (take i xs) (drop i xs) ≡ true
unfolding each_after
over test xs i past = rw (drop_all i xs past) refl
