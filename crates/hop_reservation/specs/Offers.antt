-- A request goes forward along its route, and each hop offers a level or refuses. What is offered grows from the first hop
-- on, one level a hop. The delay offered is the sum of each such hop's level bound and propagation. A hop that offers also
-- states its reach: the largest level that the request could be relaxed to there. The next hop keeps buffer for the bound
-- of that level, so its reserve carries it.
use Rattle.std.specs.Prelude.{◌≡◌, ℕ, ◌+◌, ◌*◌, ◌^◌, ◌≤◌, List, [], ◌∷◌, length}
use Rattle.net_units.specs.LevelBounds.{bound_at}
use Rattle.net_units.specs.Limits.{most_bound}
use Rattle.hop_reservation.specs.Routes.{IsRoute}
use Rattle.hop_reservation.specs.declared.route.Hop.{Hop}

-- the ticks that a hop adds to the delay at a level: the level's bound and the propagation
abbrev pub hop_delay : Hop → ℕ → ℕ
hop_delay hop level = bound_at hop.bounds level + hop.prop

-- the delay over the hops that have a level, in ticks
unfoldable pub delay_over : List Hop → List ℕ → ℕ
delay_over [] levels = 0
delay_over (hop ∷ hops) [] = 0
delay_over (hop ∷ hops) (level ∷ levels) = hop_delay hop level + delay_over hops levels

-- the bound of a level at the first hop that has none yet, or 0 where each has one
unfoldable pub next_bound : List Hop → List ℕ → ℕ → ℕ
next_bound [] levels level = 0
next_bound (hop ∷ hops) [] level = bound_at hop.bounds level
next_bound (hop ∷ hops) (given ∷ levels) level = next_bound hops levels level

-- how many levels the first hop has that has none yet, or 0 where each has one
unfoldable pub next_levels : List Hop → List ℕ → ℕ
next_levels [] levels = 0
next_levels (hop ∷ hops) [] = length hop.bounds
next_levels (hop ∷ hops) (given ∷ levels) = next_levels hops levels

-- a route with what its hops have offered: a level each, from the first hop on, and the bound of the last reach in
-- ticks, or 0 before the first offer
pub record Offered : Type 0 where
  pub route : List Hop
  pub levels : List ℕ
  pub reach : ℕ

abbrev pub offered : List Hop → List ℕ → ℕ → Offered
offered route levels reach = record { route = route; levels = levels; reach = reach }

-- the level is one of the hop's
pub record IsLevelOf (hop : Hop) (level : ℕ) : Type 0 where
  pub least : 1 ≤ level
  pub most : level ≤ length hop.bounds

-- no more levels than hops, and each is one of its hop's
unfoldable pub AreLevels : List Hop → List ℕ → Type 0
AreLevels hops [] = Unit {0}
AreLevels [] (level ∷ levels) = ⊥
AreLevels (hop ∷ hops) (level ∷ levels) = IsLevelOf hop level × AreLevels hops levels

-- what is kept of a route's offers: the route, levels of its hops, a bound, and the delay over these levels
pub record AreOffers (route : List Hop) (levels : List ℕ) (reach delay : ℕ) : Type 0 where
  pub is_route : IsRoute route
  pub are_levels : AreLevels route levels
  pub reach_most : reach ≤ most_bound
  pub delay_is : delay ≡ delay_over route levels
  pub delay_most : delay ≤ length levels * 2 ^ 33
