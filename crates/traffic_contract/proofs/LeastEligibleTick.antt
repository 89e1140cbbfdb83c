-- The eligible tick that the definition computes is the least tick that keeps the contract, and it depends on
-- no more than a burst of the newest ticks.
use Rattle.std.proofs.Common.{◌≡◌, ℕ, zero, suc, ◌+◌, ◌-◌, ◌≤◌, ⊎_elim, Bool, true, false, cond, List, [], ◌∷◌, get_or, take, drop, Decides, max, refl, sym, ap, ◌∙◌, subst, arith}
use Rattle.std.proofs.lemmas.Bool.{leb-true, cases_eq, cases_Bool, true≢false, and_parts, and_from}
use Rattle.std.proofs.lemmas.List.{get_or-drop, take-take, drop-take, reverse-reverse}
use Rattle.std.specs.Prelude.{reverse}
use Rattle.traffic_contract.specs.Contract.{Traffic, IsContract, burst_of}
use Rattle.traffic_contract.specs.Keeping.{Keeps, starts_before, may_follow, keeps_newest_first}
use Rattle.traffic_contract.specs.Eligible.{IsEligible, first_from, newest, eligible}
use Rattle.traffic_contract.proofs.BurstIsPositive.{burst-least}
use Rattle.traffic_contract.proofs.NewestFirst.{starts_before-tells, Decides-may_follow, Decides-keeps_newest_first}

-- the search never answers a tick below the one that it begins at
pub first_from-reached : (test : ℕ → Bool) (low count : ℕ) → low ≤ first_from test low count
unfolding first_from
first_from-reached test low zero = omega arith
first_from-reached test low (suc count) =
    let later = first_from-reached test (low + 1) count in
    elim (test low) as (λ b. low ≤ cond b low (first_from test (low + 1) count)) [ true ↦ omega arith | false ↦ omega arith ]

-- nor one above a tick that passes
pub first_from-least : (test : ℕ → Bool) (low count t : ℕ) → low ≤ t → test t ≡ true → first_from test low count ≤ t
unfolding first_from
first_from-least test low zero t h e = h
first_from-least test low (suc count) t h e =
    ⊎_elim (λ (here : test low ≡ true). (rw here h))
    (λ (not_here : test low ≡ false). (rw not_here (first_from-least test (low + 1) count t (⊎_elim (λ (same : low ≡ t). absurd (true≢false (sym e ∙ sym (ap test same) ∙ not_here))) (λ other. omega arith) (cases_eq low t)) e)))
    (cases_Bool (test low))

-- what it answers passes, where a tick passes that isn't past its end
pub first_from-passes : (test : ℕ → Bool) (low count t : ℕ) → low ≤ t → t ≤ low + count → test t ≡ true → test (first_from test low count) ≡ true
unfolding first_from
first_from-passes test low zero t h most e = (let same : low ≡ t = omega arith in ap test same ∙ e)
first_from-passes test low (suc count) t h most e =
    ⊎_elim (λ (here : test low ≡ true). (rw here here))
    (λ (not_here : test low ≡ false). (rw not_here (first_from-passes test (low + 1) count t (⊎_elim (λ (same : low ≡ t). absurd (true≢false (sym e ∙ sym (ap test same) ∙ not_here))) (λ other. omega arith) (cases_eq low t)) (omega arith) e)))
    (cases_Bool (test low))

-- tests that agree find the same tick
pub first_from-same : (f g : ℕ → Bool) (low count : ℕ) → ((t : ℕ) → f t ≡ g t) → first_from f low count ≡ first_from g low count
unfolding first_from
first_from-same f g low zero same = refl
first_from-same f g low (suc count) same = rw (same low, first_from-same f g (low + 1) count same) refl

newest-get_or : (past : List ℕ) → newest past ≡ get_or past 0 0
newest-get_or [] = refl
newest-get_or (t ∷ past) = refl

-- ticks that start early enough before t have no newer one
newest-le : (t least : ℕ) (past : List ℕ) → starts_before t least past ≡ true → newest past ≤ t
newest-le t least [] e = omega arith
newest-le t least (u ∷ past) e = omega (arith, leb-true (u + least) t e)

-- no tick of a list that keeps a contract is newer than its newest
pub get_or-le-newest : (c : Traffic) (past : List ℕ) (k : ℕ) → keeps_newest_first c past ≡ true → get_or past k 0 ≤ newest past
unfolding keeps_newest_first may_follow
get_or-le-newest c [] k e = omega arith
get_or-le-newest c (t ∷ past) zero e = omega arith
get_or-le-newest c (t ∷ past) (suc k) e =
    let both = and_parts (may_follow c past t) (keeps_newest_first c past) e in
    let before = get_or-le-newest c past k both.1 in
    let after = newest-le t c.xmin past (and_parts (starts_before t c.xmin past) (starts_before t c.interval (drop (burst_of c - 1) past)) both.0).0 in
    omega (arith, before, after)

-- a tick an interval after the newest may always follow
pub may_follow-late : (c : Traffic) (past : List ℕ) (t : ℕ) → c.xmin ≤ c.interval → keeps_newest_first c past ≡ true → newest past + c.interval ≤ t → may_follow c past t ≡ true
unfolding may_follow
may_follow-late c past t wide kept late =
    let e = newest-get_or past in
    let f = get_or-drop (burst_of c - 1) past 0 0 in
    let g = get_or-le-newest c past (burst_of c - 1 + 0) kept in
    and_from (starts_before t c.xmin past) (starts_before t c.interval (drop (burst_of c - 1) past))
    ((starts_before-tells t c.xmin past).1 (λ h. omega (arith, e)))
    ((starts_before-tells t c.interval (drop (burst_of c - 1) past)).1 (λ h. omega (arith, f, g)))

-- the eligible tick is the least tick from `low` on with which the list keeps the contract
pub eligible-is : (c : Traffic) (past : List ℕ) (low : ℕ) → IsContract c → 1 ≤ burst_of c → Keeps c (reverse past) → IsEligible c (reverse past) low (eligible c past low)
unfolding eligible
eligible-is c past low valid some kept =
    let test_of : Decides (keeps_newest_first c past) (Keeps c (reverse past)) = Decides-keeps_newest_first c past some in
    let count : ℕ = newest past + c.interval - low in
    let late : ℕ = max low (newest past + c.interval) in
    let follows = Decides-may_follow c past in
    record {
      reached = first_from-reached (may_follow c past) low (newest past + c.interval - low);
      holds = (follows _ some kept).0 (first_from-passes (may_follow c past) low (newest past + c.interval - low) (max low (newest past + c.interval)) (omega arith) (omega arith) (may_follow-late c past (max low (newest past + c.interval)) (omega arith) (test_of.1 kept) (omega arith)));
      least = λ t h keeps. first_from-least (may_follow c past) low (newest past + c.interval - low) t h ((follows t some kept).1 keeps);
    }

-- what is early enough before t shows in the first tick alone
starts_before-take : (t least n : ℕ) (past : List ℕ) → starts_before t least (take (suc n) past) ≡ starts_before t least past
starts_before-take t least n [] = refl
starts_before-take t least n (u ∷ past) = refl

-- the newest tick is the newest of the newest n
pub newest-take : (n : ℕ) (past : List ℕ) → 1 ≤ n → newest (take n past) ≡ newest past
newest-take zero past some = absurd (omega arith)
newest-take (suc n) [] some = refl
newest-take (suc n) (u ∷ past) some = refl

-- with one more tick the newest n need no more than the newest n before it
pub take-cons-take : (n e : ℕ) (past : List ℕ) → take n (e ∷ take n past) ≡ take n (e ∷ past)
take-cons-take zero e past = refl
take-cons-take (suc n) e past = ap (λ ticks. e ∷ ticks) (take-take n (suc n) past (omega arith))

-- a burst of the newest ticks says whether t may follow, and which tick is eligible
may_follow-of_burst : (c : Traffic) (n : ℕ) (past : List ℕ) (t : ℕ) → burst_of c ≡ suc n → may_follow c (take (suc n) past) t ≡ may_follow c past t
unfolding may_follow
may_follow-of_burst c n past t e =
    let m : burst_of c - 1 ≡ n = omega arith in
    let d : drop n (take (suc n) past) ≡ take 1 (drop n past) = (let k : suc n ≡ n + 1 = omega arith in rw k (drop-take n 1 past)) in
    rw (m, d, starts_before-take t c.xmin n past, starts_before-take t c.interval 0 (drop n past)) refl

pub may_follow-take : (c : Traffic) (past : List ℕ) (t : ℕ) → 1 ≤ burst_of c → may_follow c (take (burst_of c) past) t ≡ may_follow c past t
may_follow-take c past t some =
    let e : burst_of c ≡ suc (burst_of c - 1) = omega arith in
    subst (λ k. may_follow c (take k past) t ≡ may_follow c past t) (sym e) (may_follow-of_burst c (burst_of c - 1) past t e)

pub eligible-take : (c : Traffic) (past : List ℕ) (low : ℕ) → 1 ≤ burst_of c → eligible c (take (burst_of c) past) low ≡ eligible c past low
unfolding eligible
eligible-take c past low some =
    rw (newest-take (burst_of c) past some) (first_from-same (may_follow c (take (burst_of c) past)) (may_follow c past) low (newest past + c.interval - low) (λ t. may_follow-take c past t some))

-- the same of ticks in order of time
pub eligible-exists : (c : Traffic) (past : List ℕ) (low : ℕ) → IsContract c → Keeps c past → IsEligible c past low (eligible c (reverse past) low)
eligible-exists c past low valid kept =
    let again = reverse-reverse past in
    subst (λ ticks. IsEligible c ticks low (eligible c (reverse past) low)) again
    (eligible-is c (reverse past) low valid (burst-least c valid) (subst (Keeps c) (sym again) kept))

-- two eligible ticks of one packet are the same
pub eligible-unique : (c : Traffic) (past : List ℕ) (low e f : ℕ) → IsEligible c past low e → IsEligible c past low f → e ≡ f
eligible-unique c past low e f first second = omega (arith, first.least f second.reached second.holds, second.least e first.reached first.holds)
