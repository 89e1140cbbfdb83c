use Rattle.std.proofs.Common.{◌≡◌, ◌*◌, ◌/◌, min, arith}
use Rattle.net_units.specs.Limits.{most_rate}
use Rattle.field_units.specs.Rounding.{second, units_a_tick}
use Rattle.field_units.proofs.ScaleThatFits.{nothing-sent, a-unit-takes}
use Rattle.field_units.proofs.scale.Scale.rate.Goals as goal

pub returns-then-rate-eq0 : goal.returns-then-rate-eq0
returns-then-rate-eq0 c = (
  nothing-sent c.args.self.now.tick c.args.self.now.unit c.args.rate.bits_a_second (omega (arith, c.if-rate-eq0.true)),
  λ t u _ _. nothing-sent t u c.args.rate.bits_a_second (omega (arith, c.if-rate-eq0.true)),
)

pub returns-then-units-eq0 : goal.returns-then-units-eq0
returns-then-units-eq0 c =
    let none : c.args.rate.bits_a_second * c.args.self.now.tick / (second * c.args.self.now.unit) ≡ 0 =
    rw (c.from-bits.ensures, c.from.ensures, c.from-divisor.ensures) at c.if-units-eq0.true in
    rw (c.div_ceil.ensures, c.from-bits.ensures, c.from-divisor.ensures)
    (a-unit-takes c.args.self.now.tick c.args.self.now.unit c.args.rate.bits_a_second (omega arith) (omega (arith, c.if-rate-eq0.false)) none)

pub returns : goal.returns
unfolding units_a_tick
returns c =
    let value : c.min.result ≡ min (c.args.rate.bits_a_second * c.args.self.now.tick / (second * c.args.self.now.unit)) most_rate =
    rw (c.from-bits.ensures, c.from.ensures, c.from-divisor.ensures, c.from-2.ensures) at c.min.ensures in
    (omega (arith, value), (omega (arith, c.min.ensures, c.from-2.ensures, c.if-units-eq0.false), omega (arith, value)))
