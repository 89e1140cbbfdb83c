-- A level goes by its number, from 1 to 8. The rules count with the numbers, and a reply carries the level.
use Rattle.std.specs.Prelude.{ℕ, min, max}
use Rattle.std.proofs.Common.{lit≤}
use Rattle.std.proofs.Math.Nat.{le-min, le-max_left, min-le_left}
use Rattle.net_units.specs.declared.numbers.Level.{Level}

-- the level of this number, for a number from 1 to 8
abbrev pub level_of : ℕ → Level
level_of n = record { number = min 8 (max 1 n); least = le-min (lit≤ tt) (le-max_left 1 n); most = min-le_left 8 (max 1 n) }
