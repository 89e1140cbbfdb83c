-- A route over the links is a route: its links are there and joined, and its hops have their numbers.
use Rattle.std.proofs.Common.{◌≡◌, ℕ, zero, suc, ◌+◌, ◌≤◌, true, length, refl, ap, lit≤, arith}
use Rattle.std.proofs.lemmas.Option.{same_Some}
use Rattle.std.specs.List.{list_all}
use Rattle.hop_reservation.proofs.DistinctLinks.{route-from_none}
use Rattle.hop_reservation.specs.Routes.{repeated_from, IsRoute}
use Rattle.hop_reservation.specs.declared.route.Hop.{Hop}
use Rattle.link_steps.specs.Lists.{Each}
use Rattle.call_script.specs.Parts.{FollowsLink}
use Rattle.call_script.specs.Rules.{has_link, is_joined}
use Rattle.call_script.specs.declared.entries.LinkEntry.{LinkEntry}
use Rattle.load_maker.specs.Made.{hop_at, made_links, route_of}

pub record Crosses (first hops : ℕ) : Type 0 where
  pub route : IsRoute (route_of first hops)
  pub there : list_all (λ (hop : Hop). has_link made_links hop.link) (route_of first hops) ≡ true
  pub joined : is_joined made_links (route_of first hops) ≡ true
  pub follows : Each (FollowsLink made_links) (route_of first hops)
  pub long : length (route_of first hops) ≤ 4

follows-0 : FollowsLink made_links (hop_at 0)
follows-0 = record { bounds = λ entry found. ap (λ (e : LinkEntry). e.shape.bounds) (same_Some _ _ found); prop = λ entry found. ap (λ (e : LinkEntry). e.shape.prop) (same_Some _ _ found) }

follows-1 : FollowsLink made_links (hop_at 1)
follows-1 = record { bounds = λ entry found. ap (λ (e : LinkEntry). e.shape.bounds) (same_Some _ _ found); prop = λ entry found. ap (λ (e : LinkEntry). e.shape.prop) (same_Some _ _ found) }

follows-2 : FollowsLink made_links (hop_at 2)
follows-2 = record { bounds = λ entry found. ap (λ (e : LinkEntry). e.shape.bounds) (same_Some _ _ found); prop = λ entry found. ap (λ (e : LinkEntry). e.shape.prop) (same_Some _ _ found) }

follows-3 : FollowsLink made_links (hop_at 3)
follows-3 = record { bounds = λ entry found. ap (λ (e : LinkEntry). e.shape.bounds) (same_Some _ _ found); prop = λ entry found. ap (λ (e : LinkEntry). e.shape.prop) (same_Some _ _ found) }

pub crosses : (first hops : ℕ) → 1 ≤ hops → first + hops ≤ 4 → Crosses first hops
unfolding repeated_from
crosses zero (suc zero) some within = record { route = route-from_none (route_of 0 1) refl; there = refl; joined = refl; follows = (follows-0, tt); long = lit≤ tt }
crosses zero (suc (suc zero)) some within = record { route = route-from_none (route_of 0 2) refl; there = refl; joined = refl; follows = (follows-0, (follows-1, tt)); long = lit≤ tt }
crosses zero (suc (suc (suc zero))) some within = record { route = route-from_none (route_of 0 3) refl; there = refl; joined = refl; follows = (follows-0, (follows-1, (follows-2, tt))); long = lit≤ tt }
crosses zero (suc (suc (suc (suc zero)))) some within = record { route = route-from_none (route_of 0 4) refl; there = refl; joined = refl; follows = (follows-0, (follows-1, (follows-2, (follows-3, tt)))); long = lit≤ tt }
crosses zero (suc (suc (suc (suc (suc hops))))) some within = absurd (omega (arith, within))
crosses zero zero some within = absurd (omega (arith, some))
crosses (suc zero) (suc zero) some within = record { route = route-from_none (route_of 1 1) refl; there = refl; joined = refl; follows = (follows-1, tt); long = lit≤ tt }
crosses (suc zero) (suc (suc zero)) some within = record { route = route-from_none (route_of 1 2) refl; there = refl; joined = refl; follows = (follows-1, (follows-2, tt)); long = lit≤ tt }
crosses (suc zero) (suc (suc (suc zero))) some within = record { route = route-from_none (route_of 1 3) refl; there = refl; joined = refl; follows = (follows-1, (follows-2, (follows-3, tt))); long = lit≤ tt }
crosses (suc zero) (suc (suc (suc (suc hops)))) some within = absurd (omega (arith, within))
crosses (suc zero) zero some within = absurd (omega (arith, some))
crosses (suc (suc zero)) (suc zero) some within = record { route = route-from_none (route_of 2 1) refl; there = refl; joined = refl; follows = (follows-2, tt); long = lit≤ tt }
crosses (suc (suc zero)) (suc (suc zero)) some within = record { route = route-from_none (route_of 2 2) refl; there = refl; joined = refl; follows = (follows-2, (follows-3, tt)); long = lit≤ tt }
crosses (suc (suc zero)) (suc (suc (suc hops))) some within = absurd (omega (arith, within))
crosses (suc (suc zero)) zero some within = absurd (omega (arith, some))
crosses (suc (suc (suc zero))) (suc zero) some within = record { route = route-from_none (route_of 3 1) refl; there = refl; joined = refl; follows = (follows-3, tt); long = lit≤ tt }
crosses (suc (suc (suc zero))) (suc (suc hops)) some within = absurd (omega (arith, within))
crosses (suc (suc (suc zero))) zero some within = absurd (omega (arith, some))
crosses (suc (suc (suc (suc first)))) hops some within = absurd (omega (arith, some, within))
