-- The numbers that a stream's contract is made of are within the limits of a contract.
use Rattle.std.proofs.Common.{◌≡◌, ℕ, ◌*◌, ◌/◌, ◌≤◌, ap, ◌∙◌, arith}
use Rattle.std.proofs.Math.Nat.{mul_comm, mul-div_cancel, mul-le-mul_right, div-mul-le_self}
use Rattle.net_units.specs.Limits.{most_burst, most_gap, most_interval, most_size}
use Rattle.traffic_contract.specs.Contract.{IsContract, terms_of}
use Rattle.field_units.specs.Rounding.{most_mean}
use Rattle.field_units.specs.Scales.{IsFrom}

-- as many mean gaps as packets are an interval, and hold as many
pub mean_is_contract : (gap mean packets size : ℕ) → IsFrom 1 most_gap gap → gap ≤ mean → mean ≤ most_mean packets → IsFrom 1 most_burst packets → IsFrom 1 most_size size
    → IsContract (terms_of gap mean (packets * mean) size)
mean_is_contract gap mean packets size gaps more most burst sizes =
    let some : 1 ≤ mean = omega (arith, gaps.0, more) in
    let holds : packets * mean / mean ≡ packets = mul-div_cancel packets {n = mean} some in
    let least : 1 * mean ≤ packets * mean = mul-le-mul_right {m = 1} {n = packets} mean burst.0 in
    let shared : mean * packets ≤ most_interval / packets * packets = mul-le-mul_right {m = mean} {n = most_interval / packets} packets (omega (arith, most)) in
    record {
      xmin_least = gaps.0;
      xave_least = more;
      xave_most = omega (arith, most);
      interval_least = omega (arith, least);
      interval_most = omega (arith, mul_comm packets mean, shared, div-mul-le_self most_interval packets);
      burst_most = omega (arith, holds, burst.1);
      smax_least = sizes.0;
      smax_most = sizes.1;
    }

-- the gap alone is a contract
pub gap_is_contract : (gap size : ℕ) → IsFrom 1 most_gap gap → IsFrom 1 most_size size → IsContract (terms_of gap gap gap size)
gap_is_contract gap size gaps sizes =
    let holds : gap / gap ≡ 1 = ap (λ k. k / gap) (omega arith) ∙ mul-div_cancel 1 {n = gap} gaps.0 in
    record {
      xmin_least = gaps.0;
      xave_least = omega arith;
      xave_most = gaps.1;
      interval_least = omega arith;
      interval_most = omega (arith, gaps.1);
      burst_most = omega (arith, holds);
      smax_least = sizes.0;
      smax_most = sizes.1;
    }
