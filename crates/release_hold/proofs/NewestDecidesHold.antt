-- The whole list of eligible ticks says no more of a hold than their count and the last one.
use Rattle.std.proofs.Common.{◌≡◌, ◌==◌, ◌&&◌, ◌||◌, ℕ, suc, ◌+◌, ◌≤◌, true, nat_le, List, [], ◌∷◌, length, refl, ap, arith}
use Rattle.std.proofs.lemmas.Bool.Decides.{nat_tests}
use Rattle.std.specs.List.{All, list_all}
use Rattle.release_hold.specs.Hold.{has_passed, is_over, CountsTicks}

-- once the bound of the newest tick has passed, those of the earlier ones have passed too
pub all-passed : (top now tick : ℕ) (past : List ℕ) → All (λ earlier. earlier ≤ tick) past → tick + top ≤ now → list_all (has_passed top now) past ≡ true
all-passed top now tick [] below passed = refl
all-passed top now tick (e ∷ past) below passed =
    let first : e ≤ tick = below 0 0 (omega arith) in
    let rest : list_all (has_passed top now) past ≡ true = all-passed top now tick past (λ k d lt. below (suc k) d (omega arith)) passed in
    grind (arith, nat_tests)

-- so the newest tick's test decides for all of them
pub newest-decides : (top now tick : ℕ) (past : List ℕ) → All (λ earlier. earlier ≤ tick) past
    → (nat_le (tick + top) now && list_all (has_passed top now) past) ≡ nat_le (tick + top) now
newest-decides top now tick past below = grind (arith, nat_tests, all-passed top now tick past below)

-- the hold by the count and the last tick
pub is_over-counted : (last eligible last_tick top now : ℕ) (ticks : List ℕ) → CountsTicks eligible last_tick ticks
    → is_over last ticks top now ≡ ((last == 0) || ((eligible == last) && nat_le (last_tick + top) now))
is_over-counted last eligible last_tick top now [] counts = grind (arith, nat_tests)
is_over-counted last eligible last_tick top now (tick ∷ past) counts =
    rw (counts.0, counts.1) (ap (λ b. (last == 0) || ((suc (length past) == last) && b)) (newest-decides top now tick past counts.2))
