-- What the offer of a hop adds: one more level, the bound of that level, and the hop's propagation.
use Rattle.std.proofs.Common.{◌≡◌, ℕ, zero, suc, ◌+◌, ◌-◌, ◌^◌, ◌<◌, ◌≤◌, Some, None, List, [], ◌∷◌, ◌++◌, length, get_or, ap, subst, sym, refl, arith}
use Rattle.std.specs.List.{slice_get}
use Rattle.net_units.specs.LevelBounds.{bound_at}
use Rattle.hop_reservation.specs.Routes.{IsRoute}
use Rattle.hop_reservation.specs.declared.route.Hop.{Hop}
use Rattle.hop_reservation.specs.Offers.{hop_delay, delay_over, next_bound, next_levels, IsLevelOf, AreLevels, AreOffers}

-- no hop has a level
pub delay_over-none : (hops : List Hop) → delay_over hops [] ≡ 0
unfolding delay_over
delay_over-none [] = refl
delay_over-none (hop ∷ hops) = refl

-- a route without levels
pub none-offered : (hops : List Hop) → IsRoute hops → AreOffers hops [] 0 0
unfolding AreLevels
none-offered hops route = record { is_route = route; are_levels = tt; reach_most = omega arith; delay_is = sym (delay_over-none hops); delay_most = omega arith }

-- there are no more levels than hops
pub levels-fit : (hops : List Hop) (levels : List ℕ) → AreLevels hops levels → length levels ≤ length hops
unfolding AreLevels
levels-fit hops [] are = omega arith
levels-fit [] (level ∷ levels) are = absurd are
levels-fit (hop ∷ hops) (level ∷ levels) are = omega (arith, levels-fit hops levels are.1)

-- the level at a place is one of its hop's
pub AreLevels-at : (hops : List Hop) (levels : List ℕ) (i : ℕ) (hop : Hop) → AreLevels hops levels → slice_get hops i ≡ Some hop → i < length levels → IsLevelOf hop (get_or levels i 0)
unfolding AreLevels
AreLevels-at hops [] i hop are found within = absurd (omega arith)
AreLevels-at [] (level ∷ levels) i hop are found within = absurd are
AreLevels-at (first ∷ hops) (level ∷ levels) zero hop are found within = (let same : first ≡ hop = cc in subst (λ h. IsLevelOf h level) same are.0)
AreLevels-at (first ∷ hops) (level ∷ levels) (suc i) hop are found within = AreLevels-at hops levels i hop are.1 found (omega arith)

-- the first hop without a level is the one after those that have one
pub next_levels-at : (hops : List Hop) (levels : List ℕ) (hop : Hop) → slice_get hops (length levels) ≡ Some hop → next_levels hops levels ≡ length hop.bounds
unfolding next_levels
next_levels-at [] levels hop found = absurd (let clash : None ≡ Some hop = found in cc)
next_levels-at (first ∷ hops) [] hop found = (let same : first ≡ hop = cc in ap (λ h. length h.bounds) same)
next_levels-at (first ∷ hops) (level ∷ levels) hop found = next_levels-at hops levels hop found

pub next_bound-at : (hops : List Hop) (levels : List ℕ) (hop : Hop) (new : ℕ) → slice_get hops (length levels) ≡ Some hop → next_bound hops levels new ≡ bound_at hop.bounds new
unfolding next_bound
next_bound-at [] levels hop new found = absurd (let clash : None ≡ Some hop = found in cc)
next_bound-at (first ∷ hops) [] hop new found = (let same : first ≡ hop = cc in ap (λ h. bound_at h.bounds new) same)
next_bound-at (first ∷ hops) (level ∷ levels) hop new found = next_bound-at hops levels hop new found

-- one more level adds its hop's delay
pub delay_over-push : (hops : List Hop) (levels : List ℕ) (hop : Hop) (new : ℕ) → slice_get hops (length levels) ≡ Some hop
    → delay_over hops (levels ++ new ∷ []) ≡ delay_over hops levels + hop_delay hop new
unfolding delay_over
delay_over-push [] levels hop new found = absurd (let clash : None ≡ Some hop = found in cc)
delay_over-push (first ∷ hops) [] hop new found = (let same : first ≡ hop = cc in let e : hop_delay first new ≡ hop_delay hop new = ap (λ h. hop_delay h new) same in omega (arith, e, delay_over-none hops))
delay_over-push (first ∷ hops) (level ∷ levels) hop new found = omega (arith, delay_over-push hops levels hop new found)

-- and it is one of its hop's
pub AreLevels-push : (hops : List Hop) (levels : List ℕ) (hop : Hop) (new : ℕ) → slice_get hops (length levels) ≡ Some hop
    → AreLevels hops levels → IsLevelOf hop new → AreLevels hops (levels ++ new ∷ [])
unfolding AreLevels
AreLevels-push [] levels hop new found are is = absurd (let clash : None ≡ Some hop = found in cc)
AreLevels-push (first ∷ hops) [] hop new found are is = (let same : hop ≡ first = cc in (subst (λ h. IsLevelOf h new) same is, tt))
AreLevels-push (first ∷ hops) (level ∷ levels) hop new found are is = (are.0, AreLevels-push hops levels hop new found are.1 is)

-- the hop at the place after the levels is the first without one
pub found-next : (hops : List Hop) (levels : List ℕ) (n : ℕ) (hop : Hop) → n ≡ length levels → slice_get hops (n + 1 - 1) ≡ Some hop → slice_get hops (length levels) ≡ Some hop
found-next hops levels n hop count found = (let e : n + 1 - 1 ≡ length levels = omega (arith, count) in subst (λ i. slice_get hops i ≡ Some hop) e found)

-- so what is kept goes on, with the new hop's delay added
pub offers-push : (hops : List Hop) (levels : List ℕ) (hop : Hop) (new reach reach' delay added : ℕ) → slice_get hops (length levels) ≡ Some hop → AreOffers hops levels reach delay
    → IsLevelOf hop new → reach' ≤ 1048576 → added ≡ hop_delay hop new → added ≤ 2 ^ 33 → AreOffers hops (levels ++ new ∷ []) reach' (delay + added)
offers-push hops levels hop new reach reach' delay added found are is most e small = record {
  is_route = are.is_route;
  are_levels = AreLevels-push hops levels hop new found are.are_levels is;
  reach_most = most;
  delay_is = omega (arith, delay_over-push hops levels hop new found, are.delay_is, e);
  delay_most = omega (arith, are.delay_most, small, length-push levels new);
} where
  length-push : (levels : List ℕ) (new : ℕ) → length (levels ++ new ∷ []) ≡ suc (length levels)
  length-push [] new = refl
  length-push (level ∷ levels) new = ap suc (length-push levels new)
