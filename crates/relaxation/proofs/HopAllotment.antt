-- What a hop gets: a level no smaller than the one that it has offered, whose bound is within the offered one and the share.
use Rattle.std.proofs.Common.{◌≡◌, ℕ, ◌+◌, ◌≤◌, true, Option, Some, None, refl, arith}
use Rattle.std.proofs.Math.Nat.{min-le_left, min-le_right}
use Rattle.net_units.specs.LevelBounds.{are_bounds, bound_at, levels_within}
use Rattle.net_units.proofs.BoundsInOrder.{bound_at-rising, largest-within}
use Rattle.hop_reservation.specs.declared.route.Hop.{Hop}
use Rattle.hop_reservation.specs.Offers.{IsLevelOf}
use Rattle.relaxation.specs.Allotment.{capped, relaxed, IsWithin}

-- what is within a limit, and no more than x, is within x cut to the limit
pub up_to-least : (limit : Option ℕ) (ticks x : ℕ) → IsWithin limit ticks → ticks ≤ x → ticks ≤ capped limit x
up_to-least None ticks x within less = less
up_to-least (Some most) ticks x within less = omega (arith, within most refl, less)

pub up_to-most : (limit : Option ℕ) (x : ℕ) → capped limit x ≤ x
up_to-most None x = omega arith
up_to-most (Some most) x = min-le_right most x

pub up_to-within : (limit : Option ℕ) (x : ℕ) → IsWithin limit (capped limit x)
up_to-within None x most is = absurd (let clash : None ≡ Some most = is in cc)
up_to-within (Some limit) x most is = (let same : limit ≡ most = cc in omega (arith, min-le_left limit x, same))

-- the level that a hop gets
pub record IsRelaxed (limit : Option ℕ) (hop : Hop) (offer share level : ℕ) : Type 0 where
  pub is_level : IsLevelOf hop level
  pub from_offer : offer ≤ level
  pub no_sooner : bound_at hop.bounds offer ≤ bound_at hop.bounds level
  pub in_share : bound_at hop.bounds level ≤ bound_at hop.bounds offer + share
  pub in_limit : IsWithin limit (bound_at hop.bounds level)

pub relaxed-level : (limit : Option ℕ) (hop : Hop) (offer share : ℕ) → are_bounds hop.bounds ≡ true → IsLevelOf hop offer → IsWithin limit (bound_at hop.bounds offer)
    → IsRelaxed limit hop offer share (relaxed limit hop offer share)
relaxed-level limit hop offer share are is within =
    let far = capped limit (bound_at hop.bounds offer + share) in
    let largest = largest-within hop.bounds offer far are is.least is.most (up_to-least limit (bound_at hop.bounds offer) (bound_at hop.bounds offer + share) within (omega arith)) in
    record {
      is_level = record { least = omega (arith, is.least, largest.least); most = largest.most };
      from_offer = largest.least;
      no_sooner = bound_at-rising hop.bounds offer (levels_within hop.bounds far) are is.least largest.least largest.most;
      in_share = omega (arith, largest.fits, up_to-most limit (bound_at hop.bounds offer + share));
      in_limit = λ most same. omega (arith, largest.fits, up_to-within limit (bound_at hop.bounds offer + share) most same);
    }
