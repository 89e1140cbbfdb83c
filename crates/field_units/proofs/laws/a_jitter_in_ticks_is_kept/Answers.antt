use Rattle.std.proofs.Common.{◌≡◌, ◌+◌, ◌*◌, ◌/◌, ◌<◌, ◌≤◌, arith}
use Rattle.std.proofs.Math.Nat.{add-mul, mul-le-mul_right, one-le-mul}
use Rattle.field_units.specs.Moments.{tick_of}
use Rattle.field_units.proofs.RoundedTicks.{ceil_quotient-over, ceil_quotient-under, whole_ticks-fit}
use Rattle.field_units.proofs.laws.a_jitter_in_ticks_is_kept.Goals as goal

pub returns : goal.returns
returns c tick parts wanted moment arrival other_moment other_arrival some any close =
    let T = tick * parts in
    let t = tick_of (tick * parts) moment in
    let u = tick_of (tick * parts) other_moment in
    let length : 1 ≤ tick * parts = one-le-mul some any in
    let under : t * T < moment + T = ceil_quotient-under moment T length in
    let over : other_moment ≤ u * T = ceil_quotient-over other_moment T length in
    let fits : wanted / tick * T ≤ wanted * parts = whole_ticks-fit wanted tick parts in
    let later : (arrival + u + 1) * T ≤ (other_arrival + t + wanted / tick) * T = mul-le-mul_right T (omega (arith, close)) in
    let left : (arrival + u + 1) * T ≡ arrival * T + u * T + 1 * T = omega (arith, add-mul (arrival + u) 1 T, add-mul arrival u T) in
    let right : (other_arrival + t + wanted / tick) * T ≡ other_arrival * T + t * T + wanted / tick * T = omega (arith, add-mul (other_arrival + t) (wanted / tick) T, add-mul other_arrival t T) in
    omega (arith, under, over, fits, later, left, right)
