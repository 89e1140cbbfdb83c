-- A list of ticks is shifted when each of its ticks is put off by the same number of ticks. That changes no
-- distance between them.
use Rattle.std.specs.Prelude.{ℕ, ◌+◌, List, map}

-- this tick, `shift` ticks later
abbrev pub later_by : ℕ → ℕ → ℕ
later_by shift t = t + shift

-- these ticks, each `shift` ticks later
abbrev pub shifted_by : ℕ → List ℕ → List ℕ
shifted_by shift ticks = map (later_by shift) ticks
