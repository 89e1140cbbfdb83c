-- A packet of z units on a link that sends r units a tick occupies the link for z / r ticks, rounded up.
use Rattle.std.specs.Prelude.{ℕ}
use Rattle.std.specs.Int.{div_ceil}

-- the quotient, and one more where a remainder is left; for b of at least 1
abbrev pub ceil_quotient : ℕ → ℕ → ℕ
ceil_quotient a b = div_ceil a b
