-- The held rows of an admissible history never keep more than the link's buffer.
use Rattle.std.proofs.Common.{◌≡◌, ℕ, ◌+◌, ◌*◌, ◌≤◌, List, map, refl, ap, arith}
use Rattle.std.proofs.Math.Nat.{mul-le-mul_right}
use Rattle.net_units.proofs.BoundsInOrder.{bound_at-rising}
use Rattle.net_units.specs.Numbers.{level_number}
use Rattle.traffic_contract.specs.Admission.{total}
use Rattle.traffic_contract.specs.Contract.{IsContract, most_in}
use Rattle.traffic_contract.proofs.LongerWindows.{most_in-mono}
use Rattle.link_steps.specs.declared.replies.Entry.{Entry}
use Rattle.link_steps.specs.declared.replies.Phase.TheVariants.{Committed}
use Rattle.link_steps.specs.declared.shape.LinkShape.{LinkShape}
use Rattle.link_steps.specs.Admissible.{IsAdmissible}
use Rattle.link_steps.specs.Buffer.{stay_in, held_units, need_of, free_units}
use Rattle.link_steps.specs.Reservation.{Reservation, committed, closing}
use Rattle.link_steps.specs.Rows.{row_terms}
use Rattle.link_steps.specs.Scan.{Scan, clock_of, scan_of}
use Rattle.link_steps.specs.Effects.{Effect, Adds}
use Rattle.link_steps.proofs.EntryEffects.{EffectFits, each-admissible, new_in}
use Rattle.link_steps.proofs.LegalOrder.{legal-order}
use Rattle.link_steps.proofs.SumAfter.{OnlyNewRaise, added_by, sum-effect}

-- a reservation keeps no more where it stays no longer
units-shorter : (shape : LinkShape) (one other : Reservation) → IsContract one.contract → other.contract ≡ one.contract → stay_in other.phase shape.bounds other ≤ stay_in one.phase shape.bounds one → held_units shape.bounds other ≤ held_units shape.bounds one
unfolding held_units
units-shorter shape one other valid same shorter =
    let fewer = mul-le-mul_right one.contract.smax (most_in-mono one.contract (stay_in other.phase shape.bounds other) (stay_in one.phase shape.bounds one) valid shorter) in
    let e : most_in other.contract (stay_in other.phase shape.bounds other) * other.contract.smax ≡ most_in one.contract (stay_in other.phase shape.bounds other) * one.contract.smax = ap (λ c. most_in c (stay_in other.phase shape.bounds other) * c.smax) same in
    omega (arith, e, fewer)

units-closed : (shape : LinkShape) (count : ℕ) (terms : Reservation) → terms.phase ≡ Committed → held_units shape.bounds (closing count terms) ≤ held_units shape.bounds terms
unfolding held_units
units-closed shape count terms is = rw is (omega arith)

-- neither a relax nor a release raises what a reservation keeps
pub units-raise : (shape : LinkShape) → OnlyNewRaise shape (held_units shape.bounds)
units-raise shape = record {
  relaxed = λ level up_bound terms fits valid most.
      units-shorter shape terms (committed level up_bound terms) valid refl
      (let rising = bound_at-rising shape.bounds (level_number level) (level_number terms.reach) shape.bounds_rise level.least fits.level_most most in
      let bound = fits.bound_most in
      rw fits.phase (omega (arith, rising, bound)));
  closed = units-closed shape;
}

units-effect : (shape : LinkShape) (t : ℕ) (scan : Scan) (effect : Effect) → EffectFits shape t scan effect → total (held_units shape.bounds) (map row_terms scan.rows) ≤ shape.buffer → total (held_units shape.bounds) (map row_terms scan.rows) + added_by (held_units shape.bounds) (new_in effect) ≤ shape.buffer
unfolding need_of held_units free_units
units-effect shape t scan (Adds terms) fits held = (let free = fits.may.free in rw fits.phase (omega (arith, free, held)))
units-effect shape t scan _ fits held = omega (arith, held)

pub units-held : (shape : LinkShape) (h : List Entry) → IsAdmissible shape h → total (held_units shape.bounds) (map row_terms (scan_of shape h).rows) ≤ shape.buffer
units-held shape h legal =
    each-admissible (λ t scan. total (held_units shape.bounds) (map row_terms scan.rows) ≤ shape.buffer) shape (omega arith)
    (λ past effect may fits before.
    let more = sum-effect (held_units shape.bounds) shape (clock_of past) (scan_of shape past) effect (units-raise shape) fits (legal-order shape past may).held in
    let room = units-effect shape (clock_of past) (scan_of shape past) effect fits before in
    omega (arith, more, room)) h legal
