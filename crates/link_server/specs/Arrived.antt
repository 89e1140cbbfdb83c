-- A link keeps the packets that are here in no particular order: the one on the link first, if there is one, and then those
-- that wait. The account has them in the order of their arrival. So here they are listed by arrival number, one after the
-- other, up to the newest.
use Rattle.std.specs.Prelude.{ℕ, zero, suc, ◌≤◌, Option, Some, None, List, [], ◌∷◌, ◌++◌, filter, length}
use Rattle.link_steps.specs.Lists.{Each}
use Rattle.link_steps.specs.Service.{Arrival, Start}
use Rattle.link_server.specs.Sound.{has_arrival_number}

-- the packets here, where this one is on the link and these wait
abbrev pub all_here : Option Start → List Arrival → List Arrival
all_here None waiting = waiting
all_here (Some start) waiting = start.packet ∷ waiting

-- these packets by arrival, of those with the numbers from 1 to this one
unfoldable pub arrived : List Arrival → ℕ → List Arrival
arrived ps zero = []
arrived ps (suc n) = arrived ps n ++ filter (has_arrival_number (suc n)) ps

-- no two of them have the same number
abbrev pub HaveOwnNumbers : List Arrival → Type 0
HaveOwnNumbers ps = (n : ℕ) → length (filter (has_arrival_number n) ps) ≤ 1

-- each has a number from 1 to this one
pub record IsNumbered (newest : ℕ) (p : Arrival) : Type 0 where
  pub least : 1 ≤ p.place
  pub most : p.place ≤ newest

abbrev pub AreNumberedUpTo : ℕ → List Arrival → Type 0
AreNumberedUpTo newest ps = Each (IsNumbered newest) ps
