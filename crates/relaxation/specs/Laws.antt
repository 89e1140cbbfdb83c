-- What an allotment is good for. Each hop gets one of its own levels, no smaller than the one that it has offered and no
-- larger than its reach: the largest whose bound is within the delay bound of the request, or the one offered, if that is
-- larger. The bounds and propagations of the route add up to at most the delay bound, and under delay-jitter control the
-- bound of the last hop is at most the jitter bound.
use Rattle.std.specs.Prelude.{◌≡◌, ℕ, ◌≤◌, IsTrue, Option, None, List, [], ◌∷◌}
use Rattle.net_units.specs.LevelBounds.{are_bounds, reach_of}
use Rattle.hop_reservation.specs.declared.route.Hop.{Hop}
use Rattle.hop_reservation.specs.Offers.{delay_over, IsLevelOf, AreLevels}
use Rattle.relaxation.specs.Allotment.{bound_at_end, denial_of, allotted, IsWithin}

-- each hop's bounds are those of a link's levels
unfoldable pub HaveBounds : List Hop → Type 0
HaveBounds [] = Unit {0}
HaveBounds (hop ∷ hops) = IsTrue (are_bounds hop.bounds) × HaveBounds hops

-- a level from the offered one to the reach
pub record IsWithinReach (hop : Hop) (delay offer level : ℕ) : Type 0 where
  pub is_level : IsLevelOf hop level
  pub from_offer : offer ≤ level
  pub up_to_reach : level ≤ reach_of hop.bounds delay offer

-- so each hop that has offered, and no other has a level
unfoldable pub AreWithinReach : ℕ → List Hop → List ℕ → List ℕ → Type 0
AreWithinReach delay hops [] [] = Unit {0}
AreWithinReach delay hops [] (level ∷ levels) = ⊥
AreWithinReach delay hops (offer ∷ offers) [] = ⊥
AreWithinReach delay [] (offer ∷ offers) (level ∷ levels) = ⊥
AreWithinReach delay (hop ∷ hops) (offer ∷ offers) (level ∷ levels) = IsWithinReach hop delay offer level × AreWithinReach delay hops offers levels

-- the levels keep the request's delay bound, and its jitter bound where it has one
pub record KeepBounds (hops : List Hop) (levels : List ℕ) (delay : ℕ) (jitter : Option ℕ) : Type 0 where
  pub in_time : delay_over hops levels ≤ delay
  pub in_jitter : IsWithin jitter (bound_at_end hops levels)

-- where the destination denies nothing, each hop that has offered gets a level within its reach, and the bounds are kept
abbrev pub AllottedLevelsFit : Type 0
AllottedLevelsFit = (hops : List Hop) (offers : List ℕ) (delay : ℕ) (jitter : Option ℕ)
    → HaveBounds hops → AreLevels hops offers → denial_of hops offers delay jitter ≡ None
    → AreWithinReach delay hops offers (allotted hops offers delay jitter) × KeepBounds hops (allotted hops offers delay jitter) delay jitter
