-- The later of three ticks is the eligible tick: the tick from which the packet may go, the first that is far
-- enough after the newest, and the first that is far enough after the one that is a burst back.
use Rattle.std.proofs.Common.{◌≡◌, ℕ, zero, suc, Some, None, ◌+◌, ◌-◌, ◌≤◌, Bool, true, List, [], ◌∷◌, drop, Decides, max, refl, sym, arith, get_or}
use Rattle.std.proofs.lemmas.Bool.{leb-true, le-leb}
use Rattle.std.proofs.lemmas.Bool.Decides.{Decides-and}
use Rattle.std.proofs.lemmas.List.{get_or-drop}
use Rattle.std.specs.Prelude.{reverse, slice_get}
use Rattle.traffic_contract.specs.Contract.{Traffic, IsContract, burst_of}
use Rattle.traffic_contract.specs.Keeping.{Keeps, starts_before, may_follow, keeps_newest_first}
use Rattle.traffic_contract.specs.Eligible.{first_from, newest, eligible}
use Rattle.traffic_contract.proofs.BurstIsPositive.{burst-least}
use Rattle.traffic_contract.proofs.NewestFirst.{Decides-keeps_newest_first}
use Rattle.traffic_contract.proofs.LeastEligibleTick.{first_from-reached, first_from-least, first_from-passes, get_or-le-newest}
use Rattle.regulator_core.specs.Kept.{first_after}

-- t is far enough after the newest of these exactly from the first such tick on
starts_before-first_after : (t least : ℕ) (past : List ℕ) → Decides (starts_before t least past) (first_after least past ≤ t)
starts_before-first_after t least [] = (λ _. omega arith, λ _. refl)
starts_before-first_after t least (u ∷ past) = (leb-true (u + least) t, le-leb (u + least) t)

-- t may follow exactly from both first ticks on
may_follow-tells : (c : Traffic) (past : List ℕ) (t : ℕ) → Decides (may_follow c past t) ((first_after c.xmin past ≤ t) × (first_after c.interval (drop (burst_of c - 1) past) ≤ t))
unfolding may_follow
may_follow-tells c past t =
    Decides-and _ _ (starts_before-first_after t c.xmin past) (starts_before-first_after t c.interval (drop (burst_of c - 1) past))

-- the first tick far enough after what stands from a place on, where a tick stands there and where none does
pub first_after-found : (least place t : ℕ) (past : List ℕ) → slice_get past place ≡ Some t → t + least ≡ first_after least (drop place past)
first_after-found least place t [] found = cc
first_after-found least zero t (u ∷ past) found = cc
first_after-found least (suc place) t (u ∷ past) found = first_after-found least place t past found

pub first_after-none : (least place : ℕ) (past : List ℕ) → slice_get past place ≡ None → 0 ≡ first_after least (drop place past)
first_after-none least zero [] none = refl
first_after-none least (suc place) [] none = refl
first_after-none least zero (u ∷ past) none = cc
first_after-none least (suc place) (u ∷ past) none = first_after-none least place past none

-- a tick that passes the test, and isn't above any other that does, is the one that the search finds
first_from-is : (test : ℕ → Bool) (low count e : ℕ) → low ≤ e → e ≤ low + count → test e ≡ true → ((t : ℕ) → low ≤ t → test t ≡ true → e ≤ t) → first_from test low count ≡ e
first_from-is test low count e from upto holds least =
    let reached = first_from-reached test low count in
    let below = first_from-least test low count e from holds in
    let above = least (first_from test low count) reached (first_from-passes test low count e from upto holds) in
    omega (arith, reached, below, above)

-- a tick far enough after one of these is within that distance of the newest
first_after-le : (least most : ℕ) (past : List ℕ) → least ≤ most → first_after least past ≤ newest past + most
first_after-le least most [] h = omega arith
first_after-le least most (t ∷ past) h = omega arith

first_after-get_or : (least : ℕ) (past : List ℕ) → first_after least past ≤ get_or past 0 0 + least
first_after-get_or least [] = omega arith
first_after-get_or least (t ∷ past) = omega arith

first_after-drop : (c : Traffic) (n : ℕ) (past : List ℕ) → keeps_newest_first c past ≡ true → first_after c.interval (drop n past) ≤ newest past + c.interval
first_after-drop c n past kept =
    let e = get_or-drop n past 0 0 in
    omega (arith, e, first_after-get_or c.interval (drop n past), get_or-le-newest c past (n + 0) kept)

-- the two first ticks come at most an interval after the newest
pub firsts-le : (c : Traffic) (past : List ℕ) → IsContract c → Keeps c (reverse past) → (first_after c.xmin past ≤ newest past + c.interval) × (first_after c.interval (drop (burst_of c - 1) past) ≤ newest past + c.interval)
firsts-le c past valid keeps =
    let kept = (Decides-keeps_newest_first c past (burst-least c valid)).1 keeps in
    (first_after-le c.xmin c.interval past (omega (arith, valid.xave_least, valid.interval_least)), first_after-drop c (burst_of c - 1) past kept)

-- no kept tick is later than the newest
pub get_or-newest : (c : Traffic) (past : List ℕ) (k : ℕ) → IsContract c → Keeps c (reverse past) → get_or past k 0 ≤ newest past
get_or-newest c past k valid keeps =
    get_or-le-newest c past k ((Decides-keeps_newest_first c past (burst-least c valid)).1 keeps)

-- the later of the three ticks is the eligible tick
pub eligible-latest : (c : Traffic) (past : List ℕ) (low : ℕ) → IsContract c → Keeps c (reverse past) → max (max low (first_after c.xmin past)) (first_after c.interval (drop (burst_of c - 1) past)) ≡ eligible c past low
unfolding eligible
eligible-latest c past low valid keeps =
    let few = firsts-le c past valid keeps in
    sym (first_from-is (may_follow c past) low (newest past + c.interval - low) (max (max low (first_after c.xmin past)) (first_after c.interval (drop (burst_of c - 1) past))) (omega arith) (omega (arith, few.0, few.1)) ((may_follow-tells c past _).1 (omega arith, omega arith)) (λ t from holds. (let both = (may_follow-tells c past t).0 holds in omega (arith, both.0, both.1))))

-- so it comes at most an interval after the newest, or where the packet may go
pub eligible-le : (c : Traffic) (past : List ℕ) (low : ℕ) → IsContract c → Keeps c (reverse past) → eligible c past low ≤ max low (newest past + c.interval)
eligible-le c past low valid keeps =
    let few = firsts-le c past valid keeps in omega (arith, few.0, few.1, eligible-latest c past low valid keeps)
