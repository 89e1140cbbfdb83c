-- In the field a source is known by the clock: a camera sends at most 30 packets in any 40 ms, a sensor one packet every 2 ms
-- that comes up to 0.4 ms late. Moments are exact: those of a list are counted in parts of a picosecond, as many parts as the
-- list needs, so that any fractions can be meant. In a scenario a packet comes in a tick, and its moment is rounded up to it:
-- tick t stands for the moments after the one of tick t - 1, up to its own. (The rules are this project's own.)
use Rattle.std.specs.Prelude.{ℕ, ◌+◌, ◌*◌, ◌<◌, ◌≤◌, ◌≡◌, List, length, slice_index, map}
use Rattle.net_units.specs.Quotient.{ceil_quotient}
use Rattle.traffic_contract.specs.Keeping.{Spaced}
use Rattle.field_units.specs.declared.stream.Stream.{Stream}

-- the tick of a moment; the tick's length and the moment in the same parts
abbrev pub tick_of : ℕ → ℕ → ℕ
tick_of tick moment = ceil_quotient moment tick

-- the ticks of these moments
abbrev pub ticks_of : ℕ → List ℕ → List ℕ
ticks_of tick moments = map (tick_of tick) moments

-- these moments are planned as the stream says, in parts of a picosecond: neighbours at least `apart`, and a packet at
-- least a window before the one that comes `packets` after it
pub record IsPlanned (stream : Stream) (parts : ℕ) (planned : List ℕ) : Type 0 where
  pub neighbours : Spaced 1 (stream.apart.picoseconds * parts) planned
  pub bursts : Spaced stream.packets (stream.window.picoseconds * parts) planned

-- each packet is released at the moment for which it is planned, or up to the jitter after it
pub record IsReleased (stream : Stream) (parts : ℕ) (planned released : List ℕ) : Type 0 where
  pub all : length released ≡ length planned
  pub early : (k : ℕ) → k < length planned → slice_index planned k ≤ slice_index released k
  pub late : (k : ℕ) → k < length planned → slice_index released k ≤ slice_index planned k + stream.jitter.picoseconds * parts
