-- A route is the way of a channel's packets through the network: 1 to 16 hops in the order in which they pass them, each
-- by a different link. (The limit of 16 is this project's.) A hop is seen as its link, the delay bounds of that link's
-- levels, and its propagation, both in ticks. Hops that aren't a route are refused with a number: 17 where there are more
-- than 16, 0 where there is none, and else the first place, from 1, whose link has occurred before.
use Rattle.std.specs.Prelude.{◌≡◌, ◌≢◌, ◌==◌, ℕ, suc, ◌-◌, ◌≤◌, Bool, nat_lt, if◌then◌else◌, Option, Some, None, List, [], ◌∷◌, ◌++◌, length, take, replicate}
use Rattle.std.specs.List.{list_any, AllPairs}
use Rattle.net_units.specs.Numbers.{link_number}
use Rattle.hop_reservation.specs.declared.route.Hop.{Hop}

-- the number of a hop's link
abbrev pub link_of : Hop → ℕ
link_of hop = link_number hop.link

-- whether a hop is by this link
abbrev pub is_over_link : ℕ → Hop → Bool
is_over_link link hop = link_of hop == link

-- whether one of the hops is by this link
abbrev pub stands_among : List Hop → ℕ → Bool
stands_among hops link = list_any (is_over_link link) hops

-- the first place of the hops after these whose link has occurred before
unfoldable pub repeated_from : List Hop → List Hop → Option ℕ
repeated_from before [] = None
repeated_from before (hop ∷ hops) = if stands_among before (link_of hop) then Some (suc (length before)) else repeated_from (before ++ hop ∷ []) hops

-- the first place, from 1, whose link has occurred before
abbrev pub repeated_in : List Hop → Option ℕ
repeated_in hops = repeated_from [] hops

-- why these hops aren't a route, if they aren't
abbrev pub fault_in : List Hop → Option ℕ
fault_in [] = Some 0
fault_in (hop ∷ hops) = if nat_lt 16 (length (hop ∷ hops)) then Some 17 else repeated_in (hop ∷ hops)

-- hops that are a route
pub record IsRoute (hops : List Hop) : Type 0 where
  pub least : 1 ≤ length hops
  pub most : length hops ≤ 16
  pub apart : AllPairs (λ one other. link_of one ≢ link_of other) hops

-- the hops in a fixed array: after the last one stands the first again, so that the same hops are the same array
abbrev pub filled : List Hop → List Hop
filled [] = []
filled (hop ∷ hops) = (hop ∷ hops) ++ replicate (16 - length (hop ∷ hops)) hop

-- the array has `len` hops, and is filled after them
pub record IsFilled (len : ℕ) (cells : List Hop) : Type 0 where
  pub whole : filled (take len cells) ≡ cells
  pub count : length (take len cells) ≡ len
