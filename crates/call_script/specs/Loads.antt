-- Loads within the limit.
use Rattle.std.specs.Prelude.{◌≤◌, ℕ, nat_le, if◌then◌else◌, Option, Some, None}
use Rattle.net_units.specs.Limits.{most_packets}

-- what a request has to carry is within the limit
abbrev pub IsFew : ℕ → Type 0
IsFew load = load ≤ most_packets

-- the load, where it is
abbrev pub within_load : ℕ → Option ℕ
within_load load = if nat_le load most_packets then Some load else None
