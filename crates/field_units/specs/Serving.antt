-- A tick and a unit serve a network where rounding costs little: what each number loses, or gains where it is rounded up, is at most one part in so
-- many of it, each has its number in a scenario, and the ticks of the run over all links are within a scenario's limit. Pairs are tried in an order:
-- longer ticks come first, and at each tick the larger units. (The rules are this project's own.)
use Rattle.std.specs.Prelude.{ℕ, ◌-◌, ◌*◌, ◌/◌, nat_le, Bool, ◌&&◌, List, [], ◌∷◌, ◌++◌, map}
use Rattle.net_units.specs.Quotient.{ceil_quotient}
use Rattle.net_units.specs.Limits.{most_size, most_rounds}
use Rattle.field_units.specs.declared.scale.Scale.{Scale}
use Rattle.field_units.specs.declared.stream.Stream.{Stream}
use Rattle.field_units.specs.Rounding.{second, units_a_tick, bound_in, room_in, jitter_in, delay_in, gap_in, mean_in}

-- what is lost is at most one part in so many of the whole, or nothing where there are no parts
abbrev pub is_near : ℕ → ℕ → ℕ → Bool
is_near parts whole lost = nat_le lost (whole / parts)

-- a time that is rounded down to these ticks
abbrev pub keeps_ticks : ℕ → ℕ → ℕ → ℕ → Bool
keeps_ticks tick parts time ticks = nat_le 1 ticks && is_near parts time (time - ticks * tick)

-- a rate: the bits of a tick, and those of the units that are sent in it, both times the picoseconds of a second
unfoldable pub keeps_rate : ℕ → ℕ → ℕ → ℕ → Bool
keeps_rate tick unit parts rate =
    nat_le 1 (units_a_tick tick unit rate) && is_near parts (rate * tick) (rate * tick - units_a_tick tick unit rate * (second * unit))

-- the size of a packet, which gains by being rounded up
unfoldable pub keeps_size : ℕ → ℕ → ℕ → Bool
keeps_size unit parts bits =
    nat_le 1 (ceil_quotient bits unit) && nat_le (ceil_quotient bits unit) most_size && is_near parts bits (ceil_quotient bits unit * unit - bits)

-- a buffer, a level's bound, a wanted jitter and a wanted delay
unfoldable pub keeps_room : ℕ → ℕ → ℕ → Bool
keeps_room unit parts bits = is_near parts bits (bits - room_in unit bits * unit)

unfoldable pub keeps_bound : ℕ → ℕ → ℕ → Bool
keeps_bound tick parts time = keeps_ticks tick parts time (bound_in tick time)

unfoldable pub keeps_jitter : ℕ → ℕ → ℕ → Bool
keeps_jitter tick parts wanted = keeps_ticks tick parts wanted (jitter_in tick wanted)

unfoldable pub keeps_delay : ℕ → ℕ → ℕ → Bool
keeps_delay tick parts wanted = keeps_ticks tick parts wanted (delay_in tick wanted)

-- what the jitter leaves of a stream's gap, and of the window that its packets share
unfoldable pub keeps_gap : ℕ → ℕ → Stream → Bool
keeps_gap tick parts stream = keeps_ticks tick parts (stream.apart.picoseconds - stream.jitter.picoseconds) (gap_in tick stream)

unfoldable pub keeps_window : ℕ → ℕ → Stream → Bool
keeps_window tick parts stream =
    nat_le 1 stream.packets && keeps_ticks tick parts (stream.window.picoseconds - stream.jitter.picoseconds) (mean_in tick stream * stream.packets)

-- the ticks of a run, rounded up, over so many links
unfoldable pub fits_run : ℕ → ℕ → ℕ → Bool
fits_run tick run links = nat_le (ceil_quotient run tick * links) most_rounds

-- a tick and a unit
pub record Pair : Type 0 where
  pub tick : ℕ
  pub unit : ℕ

abbrev pub pair_of : Scale → Pair
pair_of scale = record { tick = scale.tick; unit = scale.unit }

-- the ticks that are tried, in picoseconds: 1, 2 and 5 with zeros, from 10 ms down to 1 ns
unfoldable pub tried_ticks : List ℕ
tried_ticks =
    10000000000 ∷ 5000000000 ∷ 2000000000 ∷ 1000000000 ∷ 500000000 ∷ 200000000 ∷ 100000000 ∷ 50000000 ∷ 20000000 ∷ 10000000 ∷ 5000000 ∷ 2000000 ∷ 1000000 ∷ 500000 ∷ 200000 ∷ 100000 ∷ 50000 ∷ 20000 ∷ 10000 ∷ 5000 ∷ 2000 ∷ 1000 ∷ []

-- the units that are tried, in bits: 64 bytes and each half of it, down to a byte, and a bit
unfoldable pub tried_units : List ℕ
tried_units = 512 ∷ 256 ∷ 128 ∷ 64 ∷ 32 ∷ 16 ∷ 8 ∷ 1 ∷ []

-- a scale can have this unit
abbrev pub is_unit : ℕ → Bool
is_unit unit = nat_le 1 unit && nat_le unit 8388608

-- the pairs of a tick with these units, and of each of these ticks
abbrev pub pairs_at : ℕ → List ℕ → List Pair
pairs_at tick units = map (λ unit. record { tick = tick; unit = unit }) units

unfoldable pub pairs_of : List ℕ → List ℕ → List Pair
pairs_of [] units = []
pairs_of (tick ∷ ticks) units = pairs_at tick units ++ pairs_of ticks units

-- all that are tried, the coarsest first
abbrev pub tried_pairs : List Pair
tried_pairs = pairs_of tried_ticks tried_units
