-- A moment that is rounded up to a tick lies within that tick, and moments that are some whole ticks apart come to ticks that are
-- as far apart.
use Rattle.std.proofs.Common.{◌≡◌, ℕ, ◌+◌, ◌*◌, ◌/◌, ◌<◌, ◌≤◌, arith}
use Rattle.std.proofs.lemmas.Grind.{div_ceil_times}
use Rattle.std.proofs.Math.Nat.{add-mul, mul-le-mul_right, mul_assoc, div-mul-le_self, lt_of_mul-lt-mul_right}
use Rattle.net_units.specs.Quotient.{ceil_quotient}

-- the quotient times the divisor is no less than the number
pub ceil_quotient-over : (a b : ℕ) → 1 ≤ b → a ≤ ceil_quotient a b * b
ceil_quotient-over a b some = (div_ceil_times a b some).0

-- and exceeds it by less than the divisor
pub ceil_quotient-under : (a b : ℕ) → 1 ≤ b → ceil_quotient a b * b < a + b
ceil_quotient-under a b some = (div_ceil_times a b some).1

-- numbers that are n divisors apart have quotients that are n apart
pub ceil_quotient-apart : (a b d n : ℕ) → 1 ≤ d → a + n * d ≤ b → ceil_quotient a d + n ≤ ceil_quotient b d
ceil_quotient-apart a b d n some apart =
    let under : ceil_quotient a d * d < a + d = ceil_quotient-under a d some in
    let over : b ≤ ceil_quotient b d * d = ceil_quotient-over b d some in
    let sum : (ceil_quotient a d + n) * d ≡ ceil_quotient a d * d + n * d = add-mul (ceil_quotient a d) n d in
    let more : (ceil_quotient b d + 1) * d ≡ ceil_quotient b d * d + 1 * d = add-mul (ceil_quotient b d) 1 d in
    let less : ceil_quotient a d + n < ceil_quotient b d + 1 = lt_of_mul-lt-mul_right d (omega (arith, under, over, sum, more, apart)) in
    omega (arith, less)

-- a time over a tick, rounded down, is no longer in parts than the time
pub whole_ticks-fit : (time tick parts : ℕ) → time / tick * (tick * parts) ≤ time * parts
whole_ticks-fit time tick parts =
    let e : time / tick * tick * parts ≡ time / tick * (tick * parts) = mul_assoc (time / tick) tick parts in
    let fits : time / tick * tick * parts ≤ time * parts = mul-le-mul_right parts (div-mul-le_self time tick) in
    omega (arith, e, fits)
