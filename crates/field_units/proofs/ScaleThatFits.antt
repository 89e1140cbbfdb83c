-- With which tick or unit a number that a scale refuses would do.
use Rattle.std.proofs.Common.{◌≡◌, ℕ, ◌+◌, ◌*◌, ◌/◌, ◌<◌, ◌≤◌, ap, ◌∙◌, arith}
use Rattle.std.proofs.lemmas.Nat.{le-div}
use Rattle.std.proofs.Math.Nat.{mul_comm, zero-div, lt-div-mul-add, lt_of_mul-lt-mul_left, div-mul-le_self, div-le_self, mul-le-mul_right}
use Rattle.net_units.specs.Limits.{most_rate, most_delay}
use Rattle.net_units.specs.Quotient.{ceil_quotient}
use Rattle.field_units.specs.Rounding.{second, units_a_tick, delay_in}
use Rattle.field_units.specs.Scales.{IsFrom}
use Rattle.field_units.proofs.RoundedTicks.{ceil_quotient-over}

-- a rate of 0 sends nothing, whatever the tick and the unit
pub nothing-sent : (tick unit rate : ℕ) → rate ≡ 0 → IsFrom 1 most_rate (units_a_tick tick unit rate) → ⊥
unfolding units_a_tick
nothing-sent tick unit rate none some =
    let e : rate * tick / (second * unit) ≡ 0 = ap (λ r. r * tick / (second * unit)) none ∙ ap (λ n. n / (second * unit)) (omega arith) ∙ zero-div (second * unit) in
    omega (arith, some.0, e)

-- a link that sends no whole unit in a tick sends one in a tick as long as a unit takes, and no more than one
pub a-unit-takes : (tick unit rate : ℕ) → 1 ≤ unit → 1 ≤ rate → rate * tick / (second * unit) ≡ 0
    → (IsFrom 1 most_rate (units_a_tick tick unit rate) → ⊥) × ((tick ≤ ceil_quotient (second * unit) rate) × IsFrom 1 most_rate (units_a_tick (ceil_quotient (second * unit) rate) unit rate))
unfolding units_a_tick
a-unit-takes tick unit rate some sends none =
    let least = ceil_quotient (second * unit) rate in
    let over : second * unit ≤ rate * least = omega (arith, ceil_quotient-over (second * unit) rate sends, mul_comm least rate) in
    let whole : 1 ≤ rate * least / (second * unit) = le-div 1 (rate * least) (second * unit) (omega (arith, some)) (omega (arith, over)) in
    let less : rate * tick < second * unit = (let h = lt-div-mul-add {a = rate * tick} {b = second * unit} (omega (arith, some)) in omega (arith, h, ap (λ n. n * (second * unit)) none)) in
    let shorter : tick < least = lt_of_mul-lt-mul_left rate (omega (arith, less, over)) in
    (λ from. omega (arith, from.0, none), (omega (arith, shorter), (omega (arith, whole), omega arith)))

-- a delay of two picoseconds or more leaves a tick in ticks half as long
pub half-a-delay : (wanted : ℕ) → 2 ≤ wanted → IsFrom 1 most_delay (delay_in (wanted / 2) wanted)
half-a-delay wanted some =
    let half : 1 ≤ wanted / 2 = le-div 1 wanted 2 (omega arith) (omega (arith, some)) in
    let twice : 2 ≤ wanted / (wanted / 2) = le-div 2 wanted (wanted / 2) (omega (arith, half)) (omega (arith, div-mul-le_self wanted 2)) in
    (omega (arith, twice), omega arith)

-- one of less than that has none, whatever the tick
pub no-delay : (wanted tick : ℕ) → wanted < 2 → 1 ≤ tick → IsFrom 1 most_delay (delay_in tick wanted) → ⊥
no-delay wanted tick short some from =
    let whole : wanted / tick ≤ wanted = div-le_self wanted tick in
    omega (arith, from.0, whole, short)

-- so where no tick is left of it, ticks half as long would do
pub delay-cured : (tick wanted : ℕ) → 1 ≤ tick → 2 ≤ wanted → wanted / tick < 2
    → (1 ≤ wanted / 2) × (wanted / 2 ≤ tick) × IsFrom 1 most_delay (delay_in (wanted / 2) wanted)
delay-cured tick wanted some any few =
    let half : 1 ≤ wanted / 2 = le-div 1 wanted 2 (omega arith) (omega (arith, any)) in
    let left : wanted < wanted / tick * tick + tick = lt-div-mul-add some in
    let less : wanted / tick * tick ≤ 1 * tick = mul-le-mul_right {m = wanted / tick} {n = 1} tick (omega (arith, few)) in
    (half, omega (arith, left, less, div-mul-le_self wanted 2), half-a-delay wanted any)
