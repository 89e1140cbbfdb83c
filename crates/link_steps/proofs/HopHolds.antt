-- In every admissible history each packet leaves the link later than its eligible tick, and at most the bound of its level
-- later.
use Rattle.std.proofs.Common.{ℕ, ◌<◌, ◌≤◌, List, [], ◌∷◌, length, ⊎_elim, arith}
use Rattle.std.proofs.lemmas.Bool.{cases_lt}
use Rattle.net_units.specs.LevelBounds.{bound_at}
use Rattle.traffic_contract.proofs.BurstIsPositive.{burst-least}
use Rattle.traffic_contract.proofs.NewestFirst.{Decides-keeps_newest_first}
use Rattle.link_steps.specs.declared.replies.Entry.{Entry}
use Rattle.link_steps.specs.declared.shape.LinkShape.{LinkShape}
use Rattle.link_steps.specs.Admissible.{IsAdmissible}
use Rattle.link_steps.specs.BusyPeriod.{HasWork}
use Rattle.link_steps.specs.HopGuarantee.{LeavesInTime, HasLeftInTime, IsGuaranteed, HopGuarantee}
use Rattle.link_steps.specs.Laws.{KeepsItsContract, RowsKeep}
use Rattle.link_steps.specs.Lists.{Each, Among}
use Rattle.link_steps.specs.Rows.{Row}
use Rattle.link_steps.specs.Scan.{clock_of, scan_of, starts_of}
use Rattle.link_steps.specs.Service.{Arrival, Start, starts_below}
use Rattle.link_steps.specs.Shape.{blocking_of}
use Rattle.link_steps.proofs.AdmissionHolds.{last-pass, held_rows-pass}
use Rattle.link_steps.proofs.FoundElements.{Each-from_among}
use Rattle.link_steps.proofs.Departures.{DepartsWithin, departs-within, departed-at, starts-once, IsEligibleStart, starts-eligible, leaves-once}
use Rattle.link_steps.proofs.LegalOrder.{IsCarried, legal-order}
use Rattle.link_steps.proofs.RowsInOrder.{IsInOrder}
use Rattle.link_steps.proofs.SearchAndFilter.{Each-among, Each-if}
use Rattle.link_steps.proofs.ServiceStarts.{starts-fact}
use Rattle.link_steps.proofs.WindowFits.{packets-have_work, window-fits}

-- a packet of one of the levels departs within its bound
abbrev DepartsInTime : LinkShape → List Arrival → Arrival → Type 0
DepartsInTime shape packets p = p.level ≤ length shape.bounds → DepartsWithin shape.rate packets (bound_at shape.bounds p.level) p

-- each packet of an admissible history does
packets-depart : (shape : LinkShape) (h : List Entry) → IsAdmissible shape h → Each (DepartsInTime shape (scan_of shape h).packets) (scan_of shape h).packets
packets-depart shape h legal =
    Each-from_among (DepartsInTime shape (scan_of shape h).packets) (scan_of shape h).packets (λ p among upto.
    let carried = Each-among (IsCarried shape) p (scan_of shape h).packets (legal-order shape h legal).carried among in
    departs-within shape.rate (blocking_of shape) (scan_of shape h).packets (bound_at shape.bounds p.level) p (packets-have_work shape h legal)
    (λ u. window-fits shape h p.level u legal carried.level_least upto) among)

-- a packet whose bound the clock has reached has departed
has-left : (shape : LinkShape) (clock : ℕ) (packets : List Arrival) (p : Arrival) → DepartsInTime shape packets p → HasLeftInTime shape clock (starts_below shape.rate packets clock) p
has-left shape clock packets p departs = record {
  gone = λ upto reached. (let d = departs upto in let within = d.within in departed-at shape.rate packets d.tick d.tick clock clock p (omega (arith, within, reached)) (omega (arith, within, reached)) d.departed);
}

-- a packet that departs does so in time
leaves : (shape : LinkShape) (clock : ℕ) (packets : List Arrival) (start : Start) → Among start (starts_below shape.rate packets clock) → DepartsInTime shape packets start.packet → HasWork shape.rate (blocking_of shape) start.packet → LeavesInTime shape clock start
leaves shape clock packets start among departs work =
    let eligible = Each-among IsEligibleStart start (starts_below shape.rate packets clock) (starts-eligible shape.rate packets clock) among in
    let least = work.least in
    record {
      after = λ by. omega (arith, eligible, least);
      within = λ upto by.
          let d = departs upto in
          let within = d.within in
          ⊎_elim
          (λ (later : clock < d.tick). omega (arith, by, later, within))
          (λ (reached : d.tick ≤ clock).
          let left = leaves-once shape.rate d.tick (starts_below shape.rate packets clock) start (starts-once shape.rate packets clock) among
          (departed-at shape.rate packets d.tick d.tick d.tick clock start.packet (omega arith) reached d.departed) in
          omega (arith, left, within))
          (cases_lt clock d.tick);
    }

-- after an admissible history
pub guaranteed : (shape : LinkShape) (h : List Entry) → IsAdmissible shape h → IsGuaranteed shape h
guaranteed shape h legal =
    let departs = packets-depart shape h legal in
    let work = packets-have_work shape h legal in
    record {
      rows = last-pass shape h (held_rows-pass shape h legal);
      departed = Each-from_among (LeavesInTime shape (clock_of h)) (starts_of shape h) (λ start among.
          leaves shape (clock_of h) (scan_of shape h).packets start among
          (Each-among (λ other. DepartsInTime shape (scan_of shape h).packets other.packet) start (starts_of shape h) (starts-fact (DepartsInTime shape (scan_of shape h).packets) shape.rate (scan_of shape h).packets (clock_of h) departs) among)
          (Each-among (λ other. HasWork shape.rate (blocking_of shape) other.packet) start (starts_of shape h) (starts-fact (HasWork shape.rate (blocking_of shape)) shape.rate (scan_of shape h).packets (clock_of h) work) among));
      in_time = Each-if (DepartsInTime shape (scan_of shape h).packets) (HasLeftInTime shape (clock_of h) (starts_of shape h)) (scan_of shape h).packets (has-left shape (clock_of h) (scan_of shape h).packets) departs;
    }

-- after each of its entries
pub hop-guarantee : (shape : LinkShape) (h : List Entry) → IsAdmissible shape h → HopGuarantee shape h
unfolding IsAdmissible
hop-guarantee shape [] legal = guaranteed shape [] legal
hop-guarantee shape (e ∷ past) legal = (hop-guarantee shape past legal.0, guaranteed shape (e ∷ past) legal)

-- ---- the eligible ticks of the rows

-- a row in order has eligible ticks that keep its contract
row-keeps : (shape : LinkShape) (clock : ℕ) (row : Row) → IsInOrder shape clock row → KeepsItsContract row
row-keeps shape clock row order = (Decides-keeps_newest_first row.terms.contract row.ticks (burst-least row.terms.contract order.contract)).0 order.keeps

-- the rows of an admissible history keep their contracts
pub rows-keep : (shape : LinkShape) (h : List Entry) → IsAdmissible shape h → RowsKeep shape h
rows-keep shape h legal = (let order = legal-order shape h legal in record {
  held = Each-if (IsInOrder shape (clock_of h)) KeepsItsContract (scan_of shape h).rows (row-keeps shape (clock_of h)) order.held;
  gone = Each-if (IsInOrder shape (clock_of h)) KeepsItsContract (scan_of shape h).gone (row-keeps shape (clock_of h)) order.gone;
})
