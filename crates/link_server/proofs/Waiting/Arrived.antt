-- The packets by their arrival numbers: they rise, whatever order the packets stand in; one that comes is the last of them, and one
-- that goes leaves the others.
use Rattle.std.proofs.Common.{◌≡◌, ℕ, zero, suc, ◌+◌, ◌<◌, ◌≤◌, Bool, true, false, not, if◌then◌else◌, cond, List, [], ◌∷◌, ◌++◌, Option, Some, None, length, refl, sym, ap, ◌∙◌, subst, arith, inl, inr, length-append}
use Rattle.std.proofs.lemmas.Bool.{cases_Bool, cond_both, eqb-true, eqb-false, eq-eqb, ne_eqb, true≢false}
use Rattle.std.proofs.lemmas.List.{append-nil}
use Rattle.std.proofs.lemmas.List.Elements.{filter-append}
use Rattle.std.proofs.lemmas.List.Recursion.{is_sum_by}
use Rattle.std.proofs.lemmas.List.Sorted.{sum_by-IsPermutation, IsPermutation-cons, IsPermutation-middle, IsPermutation-trans}
use Rattle.std.specs.List.{sum_by}
use Rattle.link_server.proofs.Words.{IsPermutation, filter, find, is_other, Each, Arrival, Start}
use Rattle.link_steps.proofs.SearchAndFilter.{Each-append, Each-filter, Each-from, Each-if, filter-all, filter-none}
use Rattle.link_steps.proofs.ListParts.{Each-permuted}
use Rattle.link_server.specs.Arrived.{all_here, arrived, HaveOwnNumbers, IsNumbered, AreNumberedUpTo}
use Rattle.link_server.specs.Sound.{AreNumberedWithin, has_arrival_number}
use Rattle.link_server.proofs.Sound.Packets.{numbered-append}

-- ---- those of one number

of-number : (n : ℕ) (ps : List Arrival) → Each (λ p. p.place ≡ n) (filter (has_arrival_number n) ps)
of-number n [] = tt
of-number n (p ∷ ps) =
    cond_both (has_arrival_number n p) (p ∷ filter (has_arrival_number n) ps) (filter (has_arrival_number n) ps) (Each (λ q. q.place ≡ n))
    (λ is. (eqb-true p.place n is, of-number n ps))
    (λ _. of-number n ps)

-- whatever holds of each packet holds of those by arrival
pub arrived-each : (P : Arrival → Type 0) (ps : List Arrival) (n : ℕ) → Each P ps → Each P (arrived ps n)
unfolding arrived
arrived-each P ps zero each = tt
arrived-each P ps (suc n) each = Each-append P (arrived ps n) (filter (has_arrival_number (suc n)) ps) (arrived-each P ps n each) (Each-filter P (has_arrival_number (suc n)) ps each)

arrived-upto : (ps : List Arrival) (n : ℕ) → Each (λ p. p.place ≤ n) (arrived ps n)
unfolding arrived
arrived-upto ps zero = tt
arrived-upto ps (suc n) =
    Each-append (λ p. p.place ≤ suc n) (arrived ps n) (filter (has_arrival_number (suc n)) ps)
    (Each-if (λ p. p.place ≤ n) (λ p. p.place ≤ suc n) (arrived ps n) (λ p upto. omega (arith, upto)) (arrived-upto ps n))
    (Each-if (λ p. p.place ≡ suc n) (λ p. p.place ≤ suc n) (filter (has_arrival_number (suc n)) ps) (λ p is. omega (arith, is)) (of-number (suc n) ps))

-- ---- their numbers rise

one-numbered : (n : ℕ) (qs : List Arrival) → length qs ≤ 1 → Each (λ p. p.place ≡ suc n) qs → AreNumberedWithin n qs (suc n)
one-numbered n [] few each = omega arith
one-numbered n (q ∷ []) few each = (let is = each.0 in (omega (arith, is), omega (arith, is)))
one-numbered n (q ∷ r ∷ qs) few each = absurd (omega (arith, few))

pub arrived-numbered : (ps : List Arrival) (n : ℕ) → HaveOwnNumbers ps → AreNumberedWithin 0 (arrived ps n) n
unfolding arrived
arrived-numbered ps zero own = omega arith
arrived-numbered ps (suc n) own =
    numbered-append 0 n (suc n) (arrived ps n) (filter (has_arrival_number (suc n)) ps) (arrived-numbered ps n own)
    (one-numbered n (filter (has_arrival_number (suc n)) ps) (own (suc n)) (of-number (suc n) ps))

-- ---- the order in which they stand doesn't matter

module _ (test : Arrival → Bool) where
  share : Arrival → ℕ
  share p = cond (test p) 1 0

  count-sum : (ps : List Arrival) → length (filter test ps) ≡ sum_by share ps
  unfolding share
  count-sum = is_sum_by (λ ps. length (filter test ps)) share refl (λ p ps. one (test p) p (filter test ps)) where
    one : (b : Bool) (p : Arrival) (qs : List Arrival) → length (cond b (p ∷ qs) qs) ≡ cond b 1 0 + length qs
    one true p qs = omega arith
    one false p qs = omega arith

  pub count-same : (ps qs : List Arrival) → IsPermutation ps qs → length (filter test qs) ≡ length (filter test ps)
  count-same ps qs same = count-sum qs ∙ sum_by-IsPermutation share ps qs same ∙ sym (count-sum ps)

-- ---- one alone passes

passes : (test : Arrival → Bool) (ps : List Arrival) → Each (λ p. test p ≡ true) (filter test ps)
passes test [] = tt
passes test (p ∷ ps) = cond_both (test p) (p ∷ filter test ps) (filter test ps) (Each (λ q. test q ≡ true)) (λ passed. (passed, passes test ps)) (λ _. passes test ps)

none-pass : (test : Arrival → Bool) (x : Arrival) (ps : List Arrival) → filter test ps ≡ [] → Each (λ p. test p ≡ true → p ≡ x) ps
none-pass test x [] none = tt
none-pass test x (p ∷ ps) none =
    elim (cases_Bool (test p)) [
      | inl passed ↦ absurd (let some : p ∷ filter test ps ≡ [] = rw passed at none in cc)
      | inr failed ↦ ((λ passed. absurd (true≢false (sym passed ∙ failed))), none-pass test x ps (rw failed at none))
    ]

sole-passes : (test : Arrival → Bool) (x : Arrival) (ps : List Arrival) → filter test ps ≡ x ∷ [] → Each (λ p. test p ≡ true → p ≡ x) ps
sole-passes test x [] sole = tt
sole-passes test x (p ∷ ps) sole =
    elim (cases_Bool (test p)) [
      | inl passed ↦ (let both : p ∷ filter test ps ≡ x ∷ [] = rw passed at sole in ((λ _. cc), none-pass test x ps cc))
      | inr failed ↦ ((λ passed. absurd (true≢false (sym passed ∙ failed))), sole-passes test x ps (rw failed at sole))
    ]

module _ (test : Arrival → Bool) (ps qs : List Arrival) (same : IsPermutation ps qs) where
  sole-same : (xs ys : List Arrival) → filter test ps ≡ xs → filter test qs ≡ ys → length ys ≡ length xs → length xs ≤ 1 → xs ≡ ys
  sole-same [] [] first second long few = refl
  sole-same [] (y ∷ ys) first second long few = absurd (omega (arith, long))
  sole-same (x ∷ []) [] first second long few = absurd (omega (arith, long))
  sole-same (x ∷ []) (y ∷ []) first second long few =
      let is = Each-filter (λ p. test p ≡ true → p ≡ x) test qs (Each-permuted (λ p. test p ≡ true → p ≡ x) ps qs same (sole-passes test x ps first)) in
      let passed = subst (Each (λ p. test p ≡ true)) second (passes test qs) in
      ap (λ p. p ∷ []) (sym ((subst (Each (λ p. test p ≡ true → p ≡ x)) second is).0 passed.0))
  sole-same (x ∷ []) (y ∷ z ∷ ys) first second long few = absurd (omega (arith, long))
  sole-same (x ∷ w ∷ xs) ys first second long few = absurd (omega (arith, few))

  filter-few : length (filter test ps) ≤ 1 → filter test ps ≡ filter test qs
  filter-few few = sole-same (filter test ps) (filter test qs) refl refl (count-same test ps qs same) few

-- so they are the same by arrival
pub arrived-same : (ps qs : List Arrival) (n : ℕ) → IsPermutation ps qs → HaveOwnNumbers ps → arrived ps n ≡ arrived qs n
unfolding arrived
arrived-same ps qs zero same own = refl
arrived-same ps qs (suc n) same own =
    ap (λ rs. rs ++ filter (has_arrival_number (suc n)) ps) (arrived-same ps qs n same own)
    ∙ ap (λ rs. arrived qs n ++ rs) (filter-few (has_arrival_number (suc n)) ps qs same (own (suc n)))

pub own-same : (ps qs : List Arrival) → IsPermutation ps qs → HaveOwnNumbers ps → HaveOwnNumbers qs
own-same ps qs same own n = (let few = own n in omega (arith, few, count-same (has_arrival_number n) ps qs same))

-- ---- one that comes

arrived-above : (p : Arrival) (ps : List Arrival) (n : ℕ) → n < p.place → arrived (p ∷ ps) n ≡ arrived ps n
unfolding arrived
arrived-above p ps zero above = refl
arrived-above p ps (suc n) above =
    rw (ne_eqb p.place (suc n) (λ same. absurd (omega (arith, same, above)))) (ap (λ rs. rs ++ filter (has_arrival_number (suc n)) ps) (arrived-above p ps n (omega (arith, above))))

none-newer : (ps : List Arrival) (newest n : ℕ) → AreNumberedUpTo newest ps → newest < n → filter (has_arrival_number n) ps ≡ []
none-newer ps newest n numbered newer =
    filter-none (has_arrival_number n) ps
    (Each-if (IsNumbered newest) (λ p. has_arrival_number n p ≡ false) ps (λ p is. ne_eqb p.place n (λ same. absurd (let most = is.most in omega (arith, same, most, newer)))) numbered)

pub arrived-came : (p : Arrival) (ps : List Arrival) (taken : ℕ) → AreNumberedUpTo taken ps → p.place ≡ taken + 1 → arrived (p ∷ ps) (taken + 1) ≡ arrived ps taken ++ p ∷ []
unfolding arrived
arrived-came p ps taken numbered next =
    let number : taken + 1 ≡ suc taken = omega arith in
    subst (λ n. arrived (p ∷ ps) n ≡ arrived ps taken ++ p ∷ []) (sym number)
    (rw (eq-eqb p.place (suc taken) (next ∙ number), none-newer ps taken (suc taken) numbered (omega arith)) (ap (λ rs. rs ++ p ∷ []) (arrived-above p ps taken (omega (arith, next)))))

pub own-came : (p : Arrival) (ps : List Arrival) (taken : ℕ) → AreNumberedUpTo taken ps → HaveOwnNumbers ps → taken < p.place → HaveOwnNumbers (p ∷ ps)
own-came p ps taken numbered own newer n =
    elim (cases_Bool (has_arrival_number n p)) [
      | inl at ↦ (let same = eqb-true p.place n at in rw (at, none-newer ps taken n numbered (omega (arith, same, newer))) (omega arith))
      | inr off ↦ rw off (own n)
    ]

-- ---- one that goes

own-gone : (start : Start) (ps : List Arrival) (n : ℕ) → HaveOwnNumbers (start.packet ∷ ps) → filter (is_other start) (filter (has_arrival_number n) (start.packet ∷ ps)) ≡ filter (has_arrival_number n) ps
own-gone start ps n own =
    elim (cases_Bool (has_arrival_number n start.packet)) [
      | inl at ↦ (
          let few : length (start.packet ∷ filter (has_arrival_number n) ps) ≤ 1 = rw at at (own n) in
          rw (at, eq-eqb start.packet.place start.packet.place refl, no-other (filter (has_arrival_number n) ps) (omega (arith, few))) refl)
      | inr off ↦
          rw off (filter-all (is_other start) (filter (has_arrival_number n) ps)
          (Each-if (λ p. p.place ≡ n) (λ p. is_other start p ≡ true) (filter (has_arrival_number n) ps)
          (λ p is. ap not (ne_eqb start.packet.place p.place (λ same. eqb-false start.packet.place n off (same ∙ is)))) (of-number n ps)))
    ] where
      no-other : (qs : List Arrival) → length qs ≤ 0 → qs ≡ []
      no-other [] none = refl
      no-other (q ∷ qs) none = absurd (omega (arith, none))

pub arrived-departed : (start : Start) (ps : List Arrival) (n : ℕ) → HaveOwnNumbers (start.packet ∷ ps) → filter (is_other start) (arrived (start.packet ∷ ps) n) ≡ arrived ps n
unfolding arrived
arrived-departed start ps zero own = refl
arrived-departed start ps (suc n) own =
    filter-append (is_other start) (arrived (start.packet ∷ ps) n) (filter (has_arrival_number (suc n)) (start.packet ∷ ps))
    ∙ ap (λ rs. rs ++ filter (is_other start) (filter (has_arrival_number (suc n)) (start.packet ∷ ps))) (arrived-departed start ps n own)
    ∙ ap (λ rs. arrived ps n ++ rs) (own-gone start ps (suc n) own)

-- ---- how many pass a test

pub one-more : (test : Arrival → Bool) (p : Arrival) (ps : List Arrival) → length (filter test (p ∷ ps)) ≡ length (filter test ps) + (if test p then 1 else 0)
one-more test p ps = elim (cases_Bool (test p)) [ inl passed ↦ rw passed (omega arith) | inr failed ↦ rw failed (omega arith) ]

pub own-left : (p : Arrival) (ps : List Arrival) → HaveOwnNumbers (p ∷ ps) → HaveOwnNumbers ps
own-left p ps own n = (let few = own n in let more = one-more (has_arrival_number n) p ps in omega (arith, few, more))

count-here : (test : Arrival → Bool) (p : Arrival) (ps : List Arrival) (n : ℕ) → 1 ≤ p.place → p.place ≤ n → length (filter test (arrived (p ∷ ps) n)) ≡ length (filter test (arrived ps n)) + (if test p then 1 else 0)
unfolding arrived
count-here test p ps zero least most = absurd (omega (arith, least, most))
count-here test p ps (suc n) least most =
    let has = has_arrival_number (suc n) in
    let now = ap length (filter-append test (arrived (p ∷ ps) n) (filter has (p ∷ ps))) ∙ length-append (filter test (arrived (p ∷ ps) n)) (filter test (filter has (p ∷ ps))) in
    let rest = ap length (filter-append test (arrived ps n) (filter has ps)) ∙ length-append (filter test (arrived ps n)) (filter test (filter has ps)) in
    elim (cases_Bool (has p)) [
      | inl at ↦ (
          let same = eqb-true p.place (suc n) at in
          let before = ap (λ qs. length (filter test qs)) (arrived-above p ps n (omega (arith, same))) in
          let own : length (filter test (filter has (p ∷ ps))) ≡ length (filter test (filter has ps)) + (if test p then 1 else 0) = rw at (one-more test p (filter has ps)) in
          omega (arith, now, rest, before, own))
      | inr off ↦ (
          let other = eqb-false p.place (suc n) off in
          let before = count-here test p ps n least (omega (arith, most, other)) in
          let own : length (filter test (filter has (p ∷ ps))) ≡ length (filter test (filter has ps)) = rw off refl in
          omega (arith, now, rest, before, own))
    ]

none-arrived : (n : ℕ) → arrived [] n ≡ []
unfolding arrived
none-arrived zero = refl
none-arrived (suc n) = append-nil (arrived [] n) ∙ none-arrived n

pub count-arrived : (test : Arrival → Bool) (ps : List Arrival) (n : ℕ) → AreNumberedUpTo n ps → length (filter test (arrived ps n)) ≡ length (filter test ps)
count-arrived test [] n numbered = ap (λ qs. length (filter test qs)) (none-arrived n)
count-arrived test (p ∷ ps) n numbered =
    let rest = count-arrived test ps n numbered.1 in
    omega (arith, rest, count-here test p ps n numbered.0.least numbered.0.most, one-more test p ps)

pub long-arrived : (ps : List Arrival) (n : ℕ) → AreNumberedUpTo n ps → length (arrived ps n) ≡ length ps
long-arrived ps n numbered = sym (all (arrived ps n)) ∙ count-arrived (λ p. true) ps n numbered ∙ all ps where
  all : (qs : List Arrival) → length (filter (λ p. true) qs) ≡ length qs
  all qs = ap length (filter-all (λ p. true) qs (Each-from (λ p. true ≡ true) qs (λ p. refl)))

-- ---- the first of them is found by its number

find-front : (test : Arrival → Bool) (xs ys : List Arrival) (x : Arrival) → find test xs ≡ Some x → find test (xs ++ ys) ≡ Some x
find-front test [] ys x found = cc
find-front test (p ∷ xs) ys x found =
    elim (cases_Bool (test p)) [
      | inl passed ↦ rw passed (rw passed at found)
      | inr failed ↦ rw failed (find-front test xs ys x (rw failed at found))
    ]

find-back : (test : Arrival → Bool) (xs ys : List Arrival) → Each (λ p. test p ≡ false) xs → find test (xs ++ ys) ≡ find test ys
find-back test [] ys none = refl
find-back test (p ∷ xs) ys none = rw none.0 (find-back test xs ys none.1)

pub find-arrived : (p : Arrival) (ps : List Arrival) (n : ℕ) → 1 ≤ p.place → p.place ≤ n → find (has_arrival_number p.place) (arrived (p ∷ ps) n) ≡ Some p
unfolding arrived
find-arrived p ps zero least most = absurd (omega (arith, least, most))
find-arrived p ps (suc n) least most =
    let has = has_arrival_number (suc n) in
    elim (cases_Bool (has p)) [
      | inl at ↦ (
          let same = eqb-true p.place (suc n) at in
          find-back (has_arrival_number p.place) (arrived (p ∷ ps) n) (filter has (p ∷ ps))
          (Each-if (λ q. q.place ≤ n) (λ q. has_arrival_number p.place q ≡ false) (arrived (p ∷ ps) n) (λ q upto. ne_eqb q.place p.place (λ is. absurd (omega (arith, is, upto, same)))) (arrived-upto (p ∷ ps) n))
          ∙ rw at (rw (eq-eqb p.place p.place refl) refl))
      | inr off ↦ (
          let other = eqb-false p.place (suc n) off in
          find-front (has_arrival_number p.place) (arrived (p ∷ ps) n) (filter has (p ∷ ps)) p (find-arrived p ps n least (omega (arith, most, other))))
    ]

-- ---- the packets here, the one on the link among them

pub long-here : (on : Option Start) (waiting : List Arrival) → length waiting ≤ length (all_here on waiting)
long-here None waiting = omega arith
long-here (Some start) waiting = omega arith

pub all-came : (on : Option Start) (p : Arrival) (old new : List Arrival) → IsPermutation (p ∷ old) new → IsPermutation (p ∷ all_here on old) (all_here on new)
all-came None p old new came = came
all-came (Some start) p old new came =
    IsPermutation-trans (p ∷ start.packet ∷ old) (start.packet ∷ p ∷ old) (start.packet ∷ new) (IsPermutation-middle (p ∷ []) start.packet old) (IsPermutation-cons start.packet (p ∷ old) new came)

pub all-moved : (on : Option Start) (old new : List Arrival) → IsPermutation old new → IsPermutation (all_here on old) (all_here on new)
all-moved None old new moved = moved
all-moved (Some start) old new moved = IsPermutation-cons start.packet old new moved

pub here-waiting : (P : Arrival → Type 0) (on : Option Start) (waiting : List Arrival) → Each P (all_here on waiting) → Each P waiting
here-waiting P None waiting each = each
here-waiting P (Some start) waiting each = each.1
