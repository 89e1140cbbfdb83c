-- A scenario counts time in ticks and sizes in units. A number of the field is rounded to them so that what is promised in
-- ticks is kept in the field: what a source may send, a packet's size and a propagation become no less, and what a link can
-- do, a gap, an interval and a delay that is wanted become no more. So what becomes no more may also be cut to the largest number
-- that a scenario has, and what becomes no less may not. (The rules are this project's own.)
use Rattle.std.specs.Prelude.{ℕ, ◌-◌, ◌*◌, ◌/◌, nat_le, if◌then◌else◌, min}
use Rattle.net_units.specs.Quotient.{ceil_quotient}
use Rattle.net_units.specs.Limits.{most_bound, most_buffer, most_delay, most_gap, most_interval, most_rate}
use Rattle.traffic_contract.specs.Contract.{Traffic, terms_of}
use Rattle.field_units.specs.declared.stream.Stream.{Stream}

-- the picoseconds of a second
abbrev pub second : ℕ
second = 1000000000000

-- the units that a link of this rate, in bits a second, sends in a tick of so many picoseconds: whole units of so many bits alone
unfoldable pub units_a_tick : ℕ → ℕ → ℕ → ℕ
units_a_tick tick unit rate = min most_rate (rate * tick / (second * unit))

-- the ticks of a level's bound
abbrev pub bound_in : ℕ → ℕ → ℕ
bound_in tick time = min most_bound (time / tick)

-- the units of a buffer
abbrev pub room_in : ℕ → ℕ → ℕ
room_in unit bits = min most_buffer (bits / unit)

-- the ticks of a jitter that is wanted
abbrev pub jitter_in : ℕ → ℕ → ℕ
jitter_in tick wanted = min most_delay (wanted / tick)

-- the ticks of a delay that is wanted: a tick less than fit into it, since a packet may come at the beginning of its tick
abbrev pub delay_in : ℕ → ℕ → ℕ
delay_in tick wanted = min most_delay (wanted / tick - 1)

-- the gap between a stream's packets: what the jitter leaves of it
unfoldable pub gap_in : ℕ → Stream → ℕ
gap_in tick stream = min most_gap ((stream.apart.picoseconds - stream.jitter.picoseconds) / tick)

-- the longest mean gap that a contract of so many packets can have
abbrev pub most_mean : ℕ → ℕ
most_mean packets = min most_gap (most_interval / packets)

-- the mean gap: the ticks that the jitter leaves of the window, shared by its packets
unfoldable pub mean_in : ℕ → Stream → ℕ
mean_in tick stream = min (most_mean stream.packets) ((stream.window.picoseconds - stream.jitter.picoseconds) / tick / stream.packets)

-- the contract of these gaps, packets and size: as many mean gaps as a window has packets. Where the mean gap is below the least
-- gap, that one alone holds a source to as much.
abbrev pub held_to : ℕ → ℕ → ℕ → ℕ → Traffic
held_to gap mean packets size = if nat_le gap mean then terms_of gap mean (packets * mean) size else terms_of gap gap gap size

-- the contract of a stream; its size in units is rounded up
unfoldable pub traffic_of : ℕ → ℕ → Stream → Traffic
traffic_of tick unit stream = held_to (gap_in tick stream) (mean_in tick stream) stream.packets (ceil_quotient stream.size.bits unit)
