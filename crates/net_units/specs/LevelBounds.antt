-- The delay bounds of a link's levels are a list of 1 to 8 numbers of ticks that rise strictly, each from 1
-- to 1,048,576. Level m has the m-th bound. A bound that fits in x ticks is one that is at most x.
use Rattle.std.specs.Prelude.{ℕ, suc, max, ◌-◌, Bool, true, nat_lt, nat_le, ◌&&◌, if◌then◌else◌, List, [], ◌∷◌, length, slice_index}
use Rattle.std.specs.List.{list_all}
use Rattle.net_units.specs.Limits.{most_levels, most_bound}

-- each is above the one before it, and the first above `low`
abbrev pub rises_above : ℕ → List ℕ → Bool
rises_above low [] = true
rises_above low (b ∷ bs) = nat_lt low b && rises_above b bs

-- these are the bounds of a link's levels
abbrev pub are_bounds : List ℕ → Bool
are_bounds bs = nat_le 1 (length bs) && nat_le (length bs) most_levels && rises_above 0 bs && list_all (λ b. nat_le b most_bound) bs

-- the bound of a level, in ticks
abbrev pub bound_at : List ℕ → ℕ → ℕ
bound_at bs level = slice_index bs (level - 1)

-- the bound of the last level
abbrev pub last_bound : List ℕ → ℕ
last_bound bs = bound_at bs (length bs)

-- how many levels, from the first on, have a bound of at most x: the largest of these levels, or 0
abbrev pub levels_within : List ℕ → ℕ → ℕ
levels_within [] x = 0
levels_within (b ∷ bs) x = if nat_le b x then suc (levels_within bs x) else 0

-- the largest level to which a request may be relaxed at a hop that offers a level: the largest whose bound is at most the
-- request's delay bound or the offer's bound
abbrev pub reach_of : List ℕ → ℕ → ℕ → ℕ
reach_of bounds delay offer = levels_within bounds (max delay (bound_at bounds offer))
