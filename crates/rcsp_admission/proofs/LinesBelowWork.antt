-- The lines below work: what a contract brings into its intervals, what rows bring together, and where a line crosses.
use Rattle.std.proofs.Common.{◌≡◌, ℕ, suc, ◌+◌, ◌*◌, ◌/◌, ◌%◌, ◌<◌, ◌≤◌, ⊎_elim, ap, arith, min}
use Rattle.std.proofs.Math.Nat.{div-mul-le_self, mul-le-mul_left, mul-le-mul_right, le_of_mul-le-mul_right}
use Rattle.std.proofs.lemmas.Bool.{cases_lt}
use Rattle.std.proofs.lemmas.Nat.{div-add-mod'}
use Rattle.std.proofs.lemmas.Grind.{div_ceil_times}
use Rattle.net_units.specs.Quotient.{ceil_quotient}
use Rattle.traffic_contract.specs.Contract.{Traffic, IsContract, burst_of, most_in}
use Rattle.traffic_contract.specs.Admission.{work_in}
use Rattle.traffic_contract.proofs.LoadLimits.{work_in-mono}
use Rattle.rcsp_admission.specs.Lines.{one_tick, IsBelow, CrossesFrom}

-- ---- packets

-- in a part of an interval a packet for each gap begun, or a burst, is no less than the part's share of a burst
share-of_rest : (burst xmin interval rest gaps : ℕ) → burst * xmin ≤ interval → rest ≤ interval → rest ≤ gaps * xmin → burst * rest ≤ min burst gaps * interval
share-of_rest burst xmin interval rest gaps spaced part begun =
    ⊎_elim (λ (few : gaps < burst).
    let e : min burst gaps ≡ gaps = omega (arith, few) in
    let f : burst * rest ≤ burst * (gaps * xmin) = mul-le-mul_left burst begun in
    let g : gaps * (burst * xmin) ≤ gaps * interval = mul-le-mul_left gaps spaced in
    rw e (omega (arith, f, g)))
    (λ (many : burst ≤ gaps).
    let e : min burst gaps ≡ burst = omega (arith, many) in
    let f : burst * rest ≤ burst * interval = mul-le-mul_left burst part in
    rw e f)
    (cases_lt gaps burst)

-- a window has at least its share of bursts
pub share-of_window : (c : Traffic) (w : ℕ) → IsContract c → burst_of c * w ≤ most_in c w * c.interval
unfolding most_in
share-of_window c w valid =
    let some : 1 ≤ c.interval = omega (arith, valid.xmin_least, valid.xave_least, valid.interval_least) in
    let averages : burst_of c * c.xave ≤ c.interval = div-mul-le_self c.interval c.xave in
    let spaced : burst_of c * c.xmin ≤ burst_of c * c.xave = mul-le-mul_left (burst_of c) valid.xave_least in
    let begun = (div_ceil_times (w % c.interval) c.xmin valid.xmin_least).0 in
    let rest = share-of_rest (burst_of c) c.xmin c.interval (w % c.interval) (ceil_quotient (w % c.interval) c.xmin) (omega (arith, averages, spaced)) (omega (arith, some)) begun in
    let parts : burst_of c * w ≡ burst_of c * (w / c.interval * c.interval + w % c.interval) = ap (λ n. burst_of c * n) (omega (arith, div-add-mod' w c.interval)) in
    omega (arith, rest, parts)

-- ---- lines

-- the line of a slope that was rounded down stays below the work
pub steep-below : (rate : ℕ) (c : Traffic) (slope from : ℕ) → IsContract c → slope ≡ burst_of c * ceil_quotient c.smax rate * one_tick / c.interval → IsBelow 0 slope (work_in rate c) from
unfolding work_in
steep-below rate c slope from valid is = record {
  each = λ w after.
      let some : 1 ≤ c.interval = omega (arith, valid.xmin_least, valid.xave_least, valid.interval_least) in
      let ticks = ceil_quotient c.smax rate in
      let rounded : slope * c.interval ≤ burst_of c * ceil_quotient c.smax rate * one_tick = rw is (div-mul-le_self (burst_of c * ceil_quotient c.smax rate * one_tick) c.interval) in
      let longer : slope * c.interval * w ≤ burst_of c * ceil_quotient c.smax rate * one_tick * w = mul-le-mul_right w rounded in
      let share : burst_of c * w * (ceil_quotient c.smax rate * one_tick) ≤ most_in c w * c.interval * (ceil_quotient c.smax rate * one_tick) = mul-le-mul_right (ceil_quotient c.smax rate * one_tick) (share-of_window c w valid) in
      let both : slope * w * c.interval ≤ most_in c w * ceil_quotient c.smax rate * one_tick * c.interval = omega (arith, longer, share) in
      let line : slope * w ≤ most_in c w * ceil_quotient c.smax rate * one_tick = le_of_mul-le-mul_right both some in
      omega (arith, line);
}

-- a level line at the work of a window stays below that of a longer one
pub flat-below : (rate : ℕ) (c : Traffic) (flat from : ℕ) → IsContract c → flat ≡ work_in rate c from → IsBelow flat 0 (work_in rate c) from
flat-below rate c flat from valid is = record { each = λ w after. (let more = work_in-mono rate c from w valid after in omega (arith, more, is)) }

-- from a later window on it's below, too
pub below-later : (flat slope : ℕ) (f : ℕ → ℕ) (from later : ℕ) → from ≤ later → IsBelow flat slope f from → IsBelow flat slope f later
below-later flat slope f from later after below = record { each = λ w upto. below.each w (omega arith) }

-- lines below two works add up to one below their sum, and one that is no higher is below it
pub below-both : (flat slope : ℕ) (f g both : ℕ → ℕ) (from : ℕ) (flat_f slope_f flat_g slope_g : ℕ) → IsBelow flat_f slope_f f from → IsBelow flat_g slope_g g from → ((w : ℕ) → both w ≡ f w + g w) → flat ≤ flat_f + flat_g → slope ≤ slope_f + slope_g → IsBelow flat slope both from
below-both flat slope f g both from flat_f slope_f flat_g slope_g below_f below_g sum lower flatter = record {
  each = λ w after.
      let rises : slope * w ≤ (slope_f + slope_g) * w = mul-le-mul_right w flatter in
      omega (arith, below_f.each w after, below_g.each w after, sum w, lower, rises);
}

-- and so it is below a sum that is as large
pub below-same : (flat slope : ℕ) (f same : ℕ → ℕ) (from : ℕ) (flat_f slope_f : ℕ) → IsBelow flat_f slope_f f from → ((w : ℕ) → same w ≡ f w) → flat ≡ flat_f → slope ≡ slope_f → IsBelow flat slope same from
below-same flat slope f same from flat_f slope_f below sum e g = record { each = λ w after. rw (e, g) (omega (arith, below.each w after, sum w)) }

-- no work is below none
pub below-none : (f : ℕ → ℕ) (from : ℕ) → IsBelow 0 0 f from
below-none f from = record { each = λ w after. omega arith }

-- a line below work begins no higher than the work is
pub flat-most : (flat slope : ℕ) (f : ℕ → ℕ) (from : ℕ) → IsBelow flat slope f from → flat ≤ f from
flat-most flat slope f from below = (let here = below.each from (omega arith) in omega (arith, here))

-- ---- where a line crosses

-- one that begins at a tick or more and rises by a tick in each tick or more never does
pub crosses-never : (flat slope from : ℕ) → 1 ≤ flat → one_tick ≤ slope → CrossesFrom flat slope from
crosses-never flat slope from some steep =
    λ w fits. (let rises : one_tick * w ≤ slope * w = mul-le-mul_right w steep in absurd (omega (arith, rises, fits, some)))

-- none does before it begins
pub crosses-flat : (flat slope from : ℕ) → from ≤ flat → CrossesFrom flat slope from
crosses-flat flat slope from upto = λ w fits. omega (arith, fits, upto)

quotient-least : (a b w : ℕ) → 1 ≤ b → a ≤ w * b → ceil_quotient a b ≤ w
quotient-least a b w some upto =
    let times = div_ceil_times a b some in
    ⊎_elim
    (λ (over : w < ceil_quotient a b).
    let least : suc w * b ≤ ceil_quotient a b * b = mul-le-mul_right b over in
    let e : suc w * b ≡ w * b + b = omega arith in
    absurd (omega (arith, times.1, least, e, upto)))
    (λ (within : ceil_quotient a b ≤ w). within)
    (cases_lt w (ceil_quotient a b))

pub crosses-at : (flat slope left : ℕ) → 1 ≤ left → slope + left ≡ one_tick → CrossesFrom flat slope (ceil_quotient (flat * one_tick) left)
crosses-at flat slope left some whole = λ w fits.
    let parts : w * (slope + left) ≡ w * one_tick = ap (λ n. w * n) whole in
    quotient-least (flat * one_tick) left w some (omega (arith, parts, fits))
