-- A link looks for the least window that fits a load without a look at each step of the load. A contract brings a burst into
-- each of its intervals, so over a long window its work rises at least as a line does, by the ticks of a burst in each interval.
-- The sum of such lines stays below the load, and where it is over the window, the load is. So no window fits before the two
-- cross. A line's slope is given in parts of a tick for each tick, of which 2^32 are one tick, and rounded down.
use Rattle.std.specs.Prelude.{ℕ, ◌+◌, ◌*◌, ◌≤◌}

-- the slope that rises by a tick in each tick
abbrev pub one_tick : ℕ
one_tick = 4294967296

-- from a window on, the line that begins at `flat` ticks is nowhere above f
pub record IsBelow (flat slope : ℕ) (f : ℕ → ℕ) (from : ℕ) : Type 0 where
  pub each : (w : ℕ) → from ≤ w → flat * one_tick + slope * w ≤ f w * one_tick

-- no window before this one is as long as a line of that beginning and slope is high
abbrev pub CrossesFrom : ℕ → ℕ → ℕ → Type 0
CrossesFrom flat slope from = (w : ℕ) → flat * one_tick + slope * w ≤ w * one_tick → from ≤ w
