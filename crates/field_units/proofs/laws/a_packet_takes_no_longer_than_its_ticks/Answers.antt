use Rattle.std.proofs.Common.{◌≡◌, ◌*◌, ◌/◌, ◌≤◌, min, ap, sym, ◌∙◌, arith}
use Rattle.std.proofs.Math.Nat.{mul_assoc, mul_comm, mul-le-mul_left, mul-le-mul_right, div-mul-le_self}
use Rattle.net_units.specs.Quotient.{ceil_quotient}
use Rattle.net_units.specs.Limits.{most_rate}
use Rattle.field_units.specs.Rounding.{second, units_a_tick}
use Rattle.field_units.proofs.RoundedTicks.{ceil_quotient-over}
use Rattle.field_units.proofs.laws.a_packet_takes_no_longer_than_its_ticks.Goals as goal

pub returns : goal.returns
unfolding units_a_tick
returns c tick unit rate bits some sends =
    let units = ceil_quotient bits unit in
    let whole_speed = rate * tick / (second * unit) in
    let speed = min most_rate whole_speed in
    let ticks = ceil_quotient units speed in
    let whole : bits * second ≤ units * unit * second = mul-le-mul_right second (ceil_quotient-over bits unit some) in
    let sent : units * (unit * second) ≤ ticks * speed * (unit * second) = mul-le-mul_right (unit * second) (ceil_quotient-over units speed sends) in
    let slower : speed * (second * unit) ≤ whole_speed * (second * unit) = mul-le-mul_right {m = speed} {n = whole_speed} (second * unit) (omega arith) in
    let carried : ticks * (speed * (second * unit)) ≤ ticks * (rate * tick) = mul-le-mul_left ticks (omega (arith, slower, div-mul-le_self (rate * tick) (second * unit))) in
    let a : units * unit * second ≡ units * (unit * second) = mul_assoc units unit second in
    let b : ticks * speed * (unit * second) ≡ ticks * (speed * (second * unit)) = mul_assoc ticks speed (unit * second) ∙ ap (λ n. ticks * (speed * n)) (mul_comm unit second) in
    let d : ticks * (rate * tick) ≡ ticks * tick * rate = ap (λ n. ticks * n) (mul_comm rate tick) ∙ sym (mul_assoc ticks tick rate) in
    omega (arith, whole, sent, carried, a, b, d)
