-- A level is known by its number.
use Rattle.std.proofs.Common.{◌≡◌, ℕ, ◌≤◌, arith}
use Rattle.net_units.specs.Numbers.{level_number}
use Rattle.net_units.specs.declared.numbers.Level.{Level}
use Rattle.link_steps.specs.Levels.{level_of}
use Rattle.net_units.proofs.KnownByNumber.{same-level}

-- the level of a number from 1 to 8 has it
pub level_of-number : (m : ℕ) → 1 ≤ m → m ≤ 8 → level_number (level_of m) ≡ m
level_of-number m least most = omega arith

-- the level of a level's number is that level
pub level_of-level : (level : Level) → level_of (level_number level) ≡ level
level_of-level level = same-level (level_of (level_number level)) level (level_of-number (level_number level) level.least level.most)
