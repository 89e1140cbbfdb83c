-- How large the work of a contract and the load of rows are, and that a longer window has no less of them.
use Rattle.std.proofs.Common.{◌≡◌, ℕ, suc, ◌+◌, ◌*◌, ◌/◌, ◌%◌, refl, ◌<◌, ◌≤◌, true, false, cond, List, [], ◌∷◌, ⊎_elim, arith}
use Rattle.std.proofs.Math.Nat.{div-mul-le_self, mul-le-mul_left, mul-le-mul_right, mod-eq_of_lt}
use Rattle.std.proofs.lemmas.Bool.{cases_lt}
use Rattle.std.proofs.lemmas.Grind.{div_ceil_times}
use Rattle.std.proofs.lemmas.List.Elements.{All-head, All-tail}
use Rattle.std.specs.List.{All}
use Rattle.std.specs.Prelude.{nat_le}
use Rattle.net_units.specs.Quotient.{ceil_quotient}
use Rattle.traffic_contract.specs.Contract.{Traffic, IsContract, burst_of, most_in}
use Rattle.traffic_contract.specs.Admission.{Server, Admitted, total, work_in, work_up_to, load}
use Rattle.traffic_contract.proofs.BurstIsPositive.{burst-least}
use Rattle.traffic_contract.proofs.LongerWindows.{most_in-mono}

-- a row has a contract
abbrev pub HasContract : Admitted → Type 0
HasContract row = IsContract row.contract

-- a packet of a unit or more takes a tick or more
pub ceil_quotient-some : (a rate : ℕ) → 1 ≤ rate → 1 ≤ a → 1 ≤ ceil_quotient a rate
ceil_quotient-some a rate some least =
    let times = div_ceil_times a rate some in
    ⊎_elim
    (λ (none : ceil_quotient a rate < 1).
    let zeroth : ceil_quotient a rate ≡ 0 = omega arith in
    let nothing : ceil_quotient a rate * rate ≡ 0 = rw zeroth (omega arith) in
    absurd (omega (arith, times.0, nothing)))
    (λ (more : 1 ≤ ceil_quotient a rate). more)
    (cases_lt (ceil_quotient a rate) 1)

-- and no more ticks than it has units
ceil-most : (a rate : ℕ) → 1 ≤ rate → ceil_quotient a rate ≤ a
ceil-most a rate some =
    let times = div_ceil_times a rate some in
    ⊎_elim
    (λ (over : a < ceil_quotient a rate).
    let least : suc a * rate ≤ ceil_quotient a rate * rate = mul-le-mul_right rate over in
    let e : suc a * rate ≡ a * rate + rate = omega arith in
    let f : a * 1 ≤ a * rate = mul-le-mul_left a some in
    absurd (omega (arith, times.1, least, e, f)))
    (λ (upto : ceil_quotient a rate ≤ a). upto)
    (cases_lt a (ceil_quotient a rate))

-- a window of a tick or more lets a packet in
pub most_in-some : (c : Traffic) (w : ℕ) → IsContract c → 1 ≤ w → 1 ≤ most_in c w
unfolding most_in
most_in-some c w valid some =
    let first : most_in c 1 ≤ most_in c w = most_in-mono c 1 w valid some in
    ⊎_elim
    (λ (one : c.interval < 2).
    let e : 1 / c.interval ≡ 1 = (let i : c.interval ≡ 1 = omega (arith, one, valid.xmin_least, valid.xave_least, valid.interval_least) in rw i refl) in
    let burst = burst-least c valid in
    let whole : 1 / c.interval * burst_of c ≡ burst_of c = rw e (omega arith) in
    omega (arith, first, whole, burst))
    (λ (more : 2 ≤ c.interval). (let e : 1 % c.interval ≡ 1 = mod-eq_of_lt more in let burst = burst-least c valid in let rest : 1 ≤ ceil_quotient (1 % c.interval) c.xmin = rw e (ceil_quotient-some 1 c.xmin valid.xmin_least (omega arith)) in omega (arith, first, burst, rest)))
    (cases_lt c.interval 2)

-- a window of w ticks lets in at most w packets and a burst
most_in-most : (c : Traffic) (w : ℕ) → IsContract c → most_in c w ≤ w + 256
unfolding most_in
most_in-most c w valid =
    let burst : burst_of c ≤ c.interval = (let e = div-mul-le_self c.interval c.xave in let f : burst_of c * 1 ≤ burst_of c * c.xave = mul-le-mul_left (burst_of c) (omega (arith, valid.xmin_least, valid.xave_least)) in omega (arith, e, f)) in
    let whole : w / c.interval * burst_of c ≤ w / c.interval * c.interval = mul-le-mul_left (w / c.interval) burst in
    omega (arith, whole, div-mul-le_self w c.interval, valid.burst_most)

-- ---- the work of a contract

pub work_in-mono : (rate : ℕ) (c : Traffic) (v w : ℕ) → IsContract c → v ≤ w → work_in rate c v ≤ work_in rate c w
unfolding work_in
work_in-mono rate c v w valid more = mul-le-mul_right (ceil_quotient c.smax rate) (most_in-mono c v w valid more)

work_in-some : (rate : ℕ) (c : Traffic) (w : ℕ) → 1 ≤ rate → IsContract c → 1 ≤ w → 1 ≤ work_in rate c w
unfolding work_in
work_in-some rate c w some valid least =
    let ticks = ceil_quotient-some c.smax rate some valid.smax_least in
    let e : 1 * ceil_quotient c.smax rate ≤ most_in c w * ceil_quotient c.smax rate = mul-le-mul_right (ceil_quotient c.smax rate) (most_in-some c w valid least) in
    omega (arith, e, ticks)

-- 1,048,832 packets of 65,536 ticks
work_in-most : (rate : ℕ) (c : Traffic) (w : ℕ) → 1 ≤ rate → IsContract c → w ≤ 1048576 → work_in rate c w ≤ 68736253952
unfolding work_in
work_in-most rate c w some valid most =
    let packets = most_in-most c w valid in
    let ticks = ceil-most c.smax rate some in
    let e : most_in c w * ceil_quotient c.smax rate ≤ 1048832 * ceil_quotient c.smax rate = mul-le-mul_right (ceil_quotient c.smax rate) (omega (arith, packets, most)) in
    omega (arith, e, ticks, valid.smax_most)

-- ---- the load of rows

-- a longer window has no less load
total-mono : (rate m v w : ℕ) (rows : List Admitted) → All HasContract rows → v ≤ w → total (work_up_to rate m v) rows ≤ total (work_up_to rate m w) rows
unfolding work_up_to
total-mono rate m v w [] contracts more = omega arith
total-mono rate m v w (row ∷ rows) contracts more =
    let first = work_in-mono rate row.contract v w (All-head HasContract row rows contracts) more in
    let rest = total-mono rate m v w rows (All-tail HasContract row rows contracts) more in
    elim (nat_le row.level m) as (λ b. cond b (work_in rate row.contract v) 0 + total (work_up_to rate m v) rows ≤ cond b (work_in rate row.contract w) 0 + total (work_up_to rate m w) rows) [ true ↦ omega (arith, first, rest) | false ↦ omega (arith, rest) ]

pub load-mono : (server : Server) (rows : List Admitted) (m v w : ℕ) → All HasContract rows → v ≤ w → load server rows m v ≤ load server rows m w
unfolding load
load-mono server rows m v w contracts more = (let e = total-mono server.rate m v w rows contracts more in omega (arith, e))

-- rows that bring little into one window bring no more than so much into any of a bound
pub total-most : (rate m v w : ℕ) (rows : List Admitted) → 1 ≤ rate → All HasContract rows → 1 ≤ v → w ≤ 1048576 → total (work_up_to rate m w) rows ≤ total (work_up_to rate m v) rows * 68736253952
unfolding work_up_to
total-most rate m v w [] some contracts least most = omega arith
total-most rate m v w (row ∷ rows) some contracts least most =
    let valid = All-head HasContract row rows contracts in
    let large = work_in-most rate row.contract w some valid most in
    let small = work_in-some rate row.contract v some valid least in
    let rest = total-most rate m v w rows some (All-tail HasContract row rows contracts) least most in
    elim (nat_le row.level m) as (λ b. cond b (work_in rate row.contract w) 0 + total (work_up_to rate m w) rows ≤ (cond b (work_in rate row.contract v) 0 + total (work_up_to rate m v) rows) * 68736253952) [ true ↦ omega (arith, large, small, rest) | false ↦ omega (arith, rest) ]
