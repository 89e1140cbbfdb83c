-- A link's buffer is counted in units. What the link's rows keep of it is held, and the rest is free. A row
-- takes its units from the free ones and gives them back to them, so the two parts together are always the
-- whole buffer.
use Rattle.std.specs.Prelude.{ℕ, ◌+◌, ◌-◌}

-- the two parts of a buffer, in units
pub record Parts : Type 0 where
  pub free : ℕ
  pub held : ℕ

-- the whole buffer
abbrev pub whole_of : Parts → ℕ
whole_of parts = parts.free + parts.held

-- `units` of the free units are held
abbrev pub with_held : Parts → ℕ → Parts
with_held parts units = record { free = parts.free - units; held = parts.held + units }

-- `units` of the held units are free again
abbrev pub with_freed : Parts → ℕ → Parts
with_freed parts units = record { free = parts.free + units; held = parts.held - units }
