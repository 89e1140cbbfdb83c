-- A channel that was released stays held at a link until every packet that it may still bring has had its
-- delay bound there. It brings a count of packets in all. Once each of them was given an eligible tick, and the
-- link's largest bound has passed since each of these ticks, the hold is over. A channel that brings no packet
-- isn't held at all. Eligible ticks are listed newest first.
use Rattle.std.specs.Prelude.{◌≡◌, ◌==◌, ◌&&◌, ◌||◌, ℕ, ◌+◌, ◌≤◌, Bool, nat_le, List, [], ◌∷◌, length, All}
use Rattle.std.specs.List.{list_all}

-- the bound of a packet that was eligible at this tick has passed
abbrev pub has_passed : ℕ → ℕ → ℕ → Bool
has_passed top now tick = nat_le (tick + top) now

-- the hold of a channel that brings `last` packets in all is over, by the eligible ticks given so far
abbrev pub is_over : ℕ → List ℕ → ℕ → ℕ → Bool
is_over last ticks top now = (last == 0) || ((length ticks == last) && list_all (has_passed top now) ticks)

-- `eligible` ticks were given and this one last, which no other is above
abbrev pub CountsTicks : ℕ → ℕ → List ℕ → Type 0
CountsTicks eligible last_tick [] = eligible ≡ 0
CountsTicks eligible last_tick (tick ∷ past) = (eligible ≡ length (tick ∷ past)) × (last_tick ≡ tick) × All (λ earlier. earlier ≤ tick) past
