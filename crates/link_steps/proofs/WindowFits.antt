-- In an admissible history the packets of the levels up to m that are eligible in a window as long as the bound of m leave
-- room for the blocking. For the rows with such a packet stand together in one list that passes the admission test: a
-- row expires only when its last packet has been eligible for as long as the largest bound.
use Rattle.std.proofs.Common.{◌≡◌, ℕ, ◌+◌, ◌<◌, ◌≤◌, Bool, true, false, cond, ◌&&◌, List, [], ◌∷◌, length, ⊎_elim, refl, ap, arith}
use Rattle.std.proofs.lemmas.Bool.{cases_lt, lt-leb, le-ltb}
use Rattle.std.specs.Prelude.{nat_le}
use Rattle.net_units.proofs.BoundsInOrder.{bound-least, bound_at-rising}
use Rattle.net_units.specs.LevelBounds.{bound_at, last_bound}
use Rattle.traffic_contract.specs.Admission.{total, load}
use Rattle.traffic_contract.specs.Window.{count_in}
use Rattle.traffic_contract.proofs.AdmissionTest.{total-append, window-of, counts-within}
use Rattle.traffic_contract.proofs.LongerWindows.{ceil_quotient-mono}
use Rattle.link_steps.specs.declared.asks.Ask.{Ask}
use Rattle.link_steps.specs.declared.replies.Entry.{Entry}
use Rattle.link_steps.specs.declared.replies.Reply.{Reply}
use Rattle.link_steps.specs.declared.shape.LinkShape.{LinkShape}
use Rattle.link_steps.specs.Admissible.{IsAdmissible}
use Rattle.link_steps.specs.BusyPeriod.{window_work, HasWork, FitsWithin}
use Rattle.link_steps.specs.Lists.{Each}
use Rattle.link_steps.specs.Rows.{Row}
use Rattle.link_steps.specs.Scan.{Scan, clock_with, clock_of, after, scan_of}
use Rattle.link_steps.specs.Service.{Arrival, work_of}
use Rattle.link_steps.specs.Shape.{blocking_of, server_of}
use Rattle.link_steps.proofs.AdmissionHolds.{as_admitted, row_load, total-as_admitted, last-pass, held_rows-pass}
use Rattle.link_steps.proofs.LegalOrder.{IsCarried, HasExpired, legal-order}
use Rattle.link_steps.proofs.RowsInOrder.{IsInOrder}
use Rattle.link_steps.proofs.SearchAndFilter.{Each-if}
use Rattle.link_steps.proofs.NewPackets.{packets-after}
use Rattle.link_steps.proofs.ServiceStarts.{IsFrom}
use Rattle.traffic_contract.proofs.LoadLimits.{ceil_quotient-some}
use Rattle.link_steps.proofs.WindowWork.{row_work, row_work-none, row_work-admitted, legal-work}
use Rattle.link_steps.proofs.ClockAdvances.{clock_with-most}

-- ---- each packet has work

-- a packet that the link carries has work
work-carried : (shape : LinkShape) (p : Arrival) → IsCarried shape p → HasWork shape.rate (blocking_of shape) p
work-carried shape p carried = record {
  least = ceil_quotient-some p.size shape.rate shape.rate_least carried.size_least;
  most = ceil_quotient-mono p.size shape.cap shape.rate shape.rate_least carried.size_most;
}

-- each packet of an admissible history occupies the link for 1 to the blocking's ticks
pub packets-have_work : (shape : LinkShape) (h : List Entry) → IsAdmissible shape h → Each (HasWork shape.rate (blocking_of shape)) (scan_of shape h).packets
packets-have_work shape h legal = Each-if (IsCarried shape) (HasWork shape.rate (blocking_of shape)) (scan_of shape h).packets (work-carried shape) (legal-order shape h legal).carried

-- ---- rows that are gone bring nothing

-- no tick before a window is in it
count-early : (ticks : List ℕ) (u w : ℕ) → Each (λ e. e < u) ticks → count_in ticks u w ≡ 0
unfolding count_in
count-early [] u w early = refl
count-early (e ∷ ticks) u w early = (let rest = count-early ticks u w early.1 in rw (lt-leb u e early.0) rest)

-- rows that are gone bring nothing into a window that the clock hasn't passed
gone-none : (shape : LinkShape) (clock m u w : ℕ) (rows : List Row) → clock ≤ u + last_bound shape.bounds → Each (HasExpired shape clock) rows → total (row_work shape.rate m u w) rows ≡ 0
gone-none shape clock m u w [] near expired = refl
gone-none shape clock m u w (row ∷ rows) near expired =
    let early = Each-if (λ e. e + last_bound shape.bounds < clock) (λ e. e < u) row.ticks (λ e before. omega arith) expired.0 in
    let none = count-early row.ticks u w early in
    let rest = gone-none shape clock m u w rows near expired.1 in
    omega (arith, rest, row_work-none shape.rate m u w row none)

-- ---- the held rows bring no more than admission reckons

-- the held rows bring no more than admission reckons for them
held-most : (shape : LinkShape) (clock m u w : ℕ) (rows : List Row) → Each (IsInOrder shape clock) rows → total (row_work shape.rate m u w) rows ≤ total (row_load shape.rate m w) rows
held-most shape clock m u w [] order = omega arith
held-most shape clock m u w (row ∷ rows) order =
    let first = row_work-admitted shape clock m u w row order.0 in
    let rest = held-most shape clock m u w rows order.1 in
    omega (arith, first, rest)

-- ---- a window that the clock hasn't passed, and one that it has

-- what the packets of the levels up to m bring into some window of at most their bound, from u on, leaves room for the
-- blocking
abbrev LeavesRoom : LinkShape → ℕ → ℕ → List Arrival → Type 0
LeavesRoom shape m u packets = FitsWithin shape.rate (blocking_of shape) packets m u (bound_at shape.bounds m)

-- a window that the clock hasn't passed: all rows that bring something into it are held, and pass
room-now : (shape : LinkShape) (h : List Entry) (m u : ℕ) → IsAdmissible shape h → 1 ≤ m → m ≤ length shape.bounds → clock_of h ≤ u + bound_at shape.bounds m → LeavesRoom shape m u (scan_of shape h).packets
unfolding load
room-now shape h m u legal from upto near =
    let order = legal-order shape h legal in
    let passes = window-of (server_of shape) (as_admitted (scan_of shape h).rows) m ((last-pass shape h (held_rows-pass shape h legal)).each m from upto) in
    let within = counts-within shape.test (bound_at shape.bounds m) passes.window (bound-least shape.bounds m shape.bounds_rise from upto) passes.counts in
    let last = bound_at-rising shape.bounds m (length shape.bounds) shape.bounds_rise from upto (omega arith) in
    let counts = (legal-work shape h m u passes.window upto legal).most in
    let gone = gone-none shape (clock_of h) m u passes.window (scan_of shape h).gone (omega (arith, near, last)) order.expired in
    let held = held-most shape (clock_of h) m u passes.window (scan_of shape h).rows order.held in
    let same = total-as_admitted shape.rate m passes.window (scan_of shape h).rows in
    let fits = passes.fits in
    record {
      window = passes.window;
      upto = within.1;
      fits = record {
        some = within.0;
        work = omega (arith, counts, gone, held, same, fits);
      };
    }

-- a packet that is eligible after the window brings nothing into it
window-past : (rate m u w : ℕ) (p : Arrival) → u + w ≤ p.eligible → window_work rate m u w p ≡ 0
window-past rate m u w p past = rw (le-ltb p.eligible (u + w) past) (none (nat_le p.level m) (nat_le u p.eligible) (work_of rate p)) where
  none : (a b : Bool) (work : ℕ) → cond (a && (b && false)) work 0 ≡ 0
  none true true work = refl
  none true false work = refl
  none false b work = refl

-- nor do packets that are all eligible after it
windows-past : (rate m u w t : ℕ) (packets : List Arrival) → u + w ≤ t → Each (IsFrom t) packets → total (window_work rate m u w) packets ≡ 0
windows-past rate m u w t [] past later = refl
windows-past rate m u w t (p ∷ packets) past later =
    let first = window-past rate m u w p (omega (arith, past, later.0)) in
    let rest = windows-past rate m u w t packets past later.1 in
    omega (arith, first, rest)

-- the packets of an entry after the window bring nothing into it
same-after : (shape : LinkShape) (m u w t : ℕ) (scan : Scan) (ask : Ask) (reply : Reply) → u + w ≤ t → total (window_work shape.rate m u w) (after shape t scan ask reply).packets ≡ total (window_work shape.rate m u w) scan.packets
same-after shape m u w t scan ask reply past =
    let adds = packets-after shape t scan ask reply in
    let all = ap (total (window_work shape.rate m u w)) adds.are in
    let more = total-append (window_work shape.rate m u w) scan.packets adds.new in
    let none = windows-past shape.rate m u w t adds.new past adds.from in
    omega (arith, all, more, none)

-- a window that the clock has passed has the work that it had before
pub window-fits : (shape : LinkShape) (h : List Entry) (m u : ℕ) → IsAdmissible shape h → 1 ≤ m → m ≤ length shape.bounds → LeavesRoom shape m u (scan_of shape h).packets
unfolding IsAdmissible scan_of clock_of
window-fits shape [] m u legal from upto = room-now shape [] m u legal from upto (omega arith)
window-fits shape (e ∷ past) m u legal from upto =
    ⊎_elim
    (λ (others : u + bound_at shape.bounds m < clock_with e.ask (clock_of past)).
    let most = clock_with-most e.ask (clock_of past) in
    let before = window-fits shape past m u legal.0 from upto in
    let same = same-after shape m u before.window (clock_of past) (scan_of shape past) e.ask e.reply (omega (arith, others, most, before.upto)) in
    let work = before.fits.work in
    record { window = before.window; upto = before.upto; fits = record { some = before.fits.some; work = omega (arith, same, work) } })
    (λ (near : clock_with e.ask (clock_of past) ≤ u + bound_at shape.bounds m). room-now shape (e ∷ past) m u legal from upto near)
    (cases_lt (u + bound_at shape.bounds m) (clock_with e.ask (clock_of past)))
