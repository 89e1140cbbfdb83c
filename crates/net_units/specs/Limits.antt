-- The limits of a network, a plan and a scenario: each number that is read or given has one, with its unit. They are this
-- project's own, chosen so that no sum of a run passes 2^63. `src/limits.rt` has the same for the code.
use Rattle.std.specs.Prelude.{ℕ, Bool, nat_le, ◌&&◌}

-- links of a network
abbrev pub most_links : ℕ
most_links = 32

-- actors of a run: 64 callers, and the plane
abbrev pub most_actors : ℕ
most_actors = 65

-- callers of a plan
abbrev pub most_callers : ℕ
most_callers = 64

-- requests of a plan
abbrev pub most_requests : ℕ
most_requests = 1024

-- numbers of channels
abbrev pub most_channels : ℕ
most_channels = 1048576

-- levels of a link
abbrev pub most_levels : ℕ
most_levels = 8

-- ticks of a level's bound
abbrev pub most_bound : ℕ
most_bound = 1048576

-- ticks of a link's propagation
abbrev pub most_propagation : ℕ
most_propagation = 1048576

-- units that a link sends in a tick
abbrev pub most_rate : ℕ
most_rate = 65536

-- units of a packet: of the largest that a link carries, of the largest of a contract, and of each
abbrev pub most_size : ℕ
most_size = 65536

-- units of a link's buffer
abbrev pub most_buffer : ℕ
most_buffer = 262144

-- best-effort packets that may wait at a link
abbrev pub most_best : ℕ
most_best = 1024

-- ticks from one packet to the next: of a contract's gaps, and of a send or a pour
abbrev pub most_gap : ℕ
most_gap = 1048576

-- ticks of a contract's interval
abbrev pub most_interval : ℕ
most_interval = 16777216

-- packets of a contract's burst
abbrev pub most_burst : ℕ
most_burst = 256

-- hops of a route
abbrev pub most_hops : ℕ
most_hops = 16

-- ticks of a request's delay bound and of its jitter bound
abbrev pub most_delay : ℕ
most_delay = 67108864

-- packets of a send or a pour; also those of all of them together, each counted once for each hop that it crosses
abbrev pub most_packets : ℕ
most_packets = 262144

-- rounds of the plane beside the callers, and those after them; also the ticks that all links make together
abbrev pub most_rounds : ℕ
most_rounds = 524288

-- steps that an item of a schedule asks for
abbrev pub most_steps : ℕ
most_steps = 1048576

-- bytes of a name
abbrev pub most_name : ℕ
most_name = 16

-- whether a number is from low to high
abbrev pub is_within : ℕ → ℕ → ℕ → Bool
is_within low high n = nat_le low n && nat_le n high
