-- A longer window has no fewer packets.
use Rattle.std.proofs.Common.{◌≡◌, ℕ, suc, ◌*◌, ◌/◌, ◌%◌, ◌<◌, ◌≤◌, ⊎_elim, ap, arith}
use Rattle.std.proofs.Math.Nat.{div-mul-le_self, mul-le-mul_right}
use Rattle.std.proofs.lemmas.Bool.{cases_lt}
use Rattle.std.proofs.lemmas.Nat.{le-div, div-add-mod'}
use Rattle.net_units.specs.Quotient.{ceil_quotient}
use Rattle.traffic_contract.specs.Contract.{Traffic, IsContract, burst_of, most_in}

-- ---- quotients

-- a larger number has no smaller quotient
div-mono : (v w n : ℕ) → 1 ≤ n → v ≤ w → v / n ≤ w / n
div-mono v w n some more = le-div (v / n) w n some (omega (arith, div-mul-le_self v n))

-- numbers with one quotient are as their rests
mod-mono : (v w n : ℕ) → v ≤ w → v / n ≡ w / n → v % n ≤ w % n
mod-mono v w n more same =
    let e : v / n * n ≡ w / n * n = ap (λ q. q * n) same in
    omega (arith, e, div-add-mod' v n, div-add-mod' w n)

-- nor a smaller quotient rounded up
pub ceil_quotient-mono : (v w n : ℕ) → 1 ≤ n → v ≤ w → ceil_quotient v n ≤ ceil_quotient w n
ceil_quotient-mono v w n some more =
    ⊎_elim (λ (less : v / n < w / n). omega arith)
    (λ (other : w / n ≤ v / n).
    let same : v / n ≡ w / n = omega (arith, div-mono v w n some more) in
    omega (arith, same, mod-mono v w n more same))
    (cases_lt (v / n) (w / n))

-- ---- packets in a window

-- a longer window has no fewer packets
pub most_in-mono : (c : Traffic) (v w : ℕ) → IsContract c → v ≤ w → most_in c v ≤ most_in c w
unfolding most_in
most_in-mono c v w valid more =
    let some : 1 ≤ c.interval = omega (arith, valid.xmin_least, valid.xave_least, valid.interval_least) in
    ⊎_elim (λ (less : v / c.interval < w / c.interval).
    let whole : suc (v / c.interval) * burst_of c ≤ w / c.interval * burst_of c = mul-le-mul_right (burst_of c) less in
    omega (arith, whole))
    (λ (other : w / c.interval ≤ v / c.interval).
    let same : v / c.interval ≡ w / c.interval = omega (arith, div-mono v w c.interval some more) in
    let whole : v / c.interval * burst_of c ≡ w / c.interval * burst_of c = ap (λ q. q * burst_of c) same in
    omega (arith, whole, ceil_quotient-mono (v % c.interval) (w % c.interval) c.xmin valid.xmin_least (mod-mono v w c.interval more same)))
    (cases_lt (v / c.interval) (w / c.interval))
