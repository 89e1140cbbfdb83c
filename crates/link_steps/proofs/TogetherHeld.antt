-- The rows that bring packets into a window as long as the bound of its level stand together in one list that passes.
use Rattle.std.proofs.Common.{◌≡◌, ℕ, ◌+◌, ◌<◌, ◌≤◌, true, List, [], ◌∷◌, length, ⊎_elim, inl, inr, refl, sym, ap, subst, arith}
use Rattle.std.proofs.lemmas.Bool.{cases_lt, leb-true, ltb-true, eq-eqb, and_parts}
use Rattle.std.specs.Prelude.{nat_le, nat_lt, ◌&&◌}
use Rattle.net_units.proofs.BoundsInOrder.{bound_at-rising}
use Rattle.net_units.specs.LevelBounds.{bound_at, last_bound}
use Rattle.link_steps.specs.declared.replies.Entry.{Entry}
use Rattle.link_steps.specs.declared.shape.LinkShape.{LinkShape}
use Rattle.link_steps.specs.Admissible.{IsAdmissible}
use Rattle.link_steps.specs.Belonging.{own_packets, eligible_of, HasLevelOf, TellsPackets, IsRowOf, HasRow}
use Rattle.link_steps.specs.Buffer.{has_lead}
use Rattle.link_steps.specs.BusyPeriod.{is_eligible_in}
use Rattle.link_steps.specs.Lists.{Each, Any, Among}
use Rattle.link_steps.specs.Rows.{Row}
use Rattle.link_steps.specs.Scan.{clock_with, clock_of, scan_of}
use Rattle.link_steps.specs.Service.{Arrival}
use Rattle.link_steps.specs.WindowRows.{BringsPacket, IsBrought, StandTogether}
use Rattle.link_steps.proofs.AdmissionHolds.{last-pass, held_rows-pass}
use Rattle.link_steps.proofs.FoundElements.{Each-from_among}
use Rattle.link_steps.proofs.LegalOrder.{HasExpired, legal-order}
use Rattle.link_steps.proofs.SearchAndFilter.{Each-append, Each-if, Each-among}
use Rattle.link_steps.proofs.NewPackets.{packets-after}
use Rattle.link_steps.proofs.PacketRows.{Among-passes, packets-have_rows}
use Rattle.link_steps.proofs.ServiceStarts.{IsFrom}
use Rattle.link_steps.proofs.ClockAdvances.{clock_with-most}
use Rattle.link_steps.proofs.ListParts.{Among-map, Among-reverse}

-- ---- a row tells its packets

Any-among : {X : Type 0} (x : X) (xs : List X) → Among x xs → Any (λ y. y ≡ x) xs
Any-among x [] among = absurd among
Any-among x (y ∷ ys) (inl same) = inl (sym same)
Any-among x (y ∷ ys) (inr among) = inr (Any-among x ys among)

-- the row of a packet brings it
brings : (levels : ℕ) (packets : List Arrival) (p : Arrival) (row : Row) → Among p packets → TellsPackets levels packets row → IsRowOf p row → BringsPacket p row
brings levels packets p row among tells is =
    let own = Among-passes (has_lead row.lead) p packets (eq-eqb p.lead row.lead (sym is)) among in
    record {
      own = is;
      level = Each-among (HasLevelOf row) p (own_packets row packets) tells.level own;
      tick = Any-among p.eligible row.ticks (Among-reverse p.eligible row.ticks (subst (Among p.eligible) (sym tells.ticks) (Among-map eligible_of p (own_packets row packets) own)));
    }

any-brings : (levels : ℕ) (packets : List Arrival) (p : Arrival) (rows : List Row) → Among p packets → Each (TellsPackets levels packets) rows → Any (IsRowOf p) rows → Any (BringsPacket p) rows
any-brings levels packets p [] among tells any = absurd any
any-brings levels packets p (row ∷ rows) among tells (inl is) = inl (brings levels packets p row among tells.0 is)
any-brings levels packets p (row ∷ rows) among tells (inr any) = inr (any-brings levels packets p rows among tells.1 any)

-- ---- a window that the clock hasn't passed

-- a row that is gone had no tick within the largest bound of the clock
tick-early : (bound clock e : ℕ) (ticks : List ℕ) → Each (λ u. u + bound < clock) ticks → Any (λ u. u ≡ e) ticks → e + bound < clock
tick-early bound clock e [] early any = absurd any
tick-early bound clock e (u ∷ ticks) early (inl same) = (let h = early.0 in omega (arith, h, same))
tick-early bound clock e (u ∷ ticks) early (inr any) = tick-early bound clock e ticks early.1 any

gone-early : (shape : LinkShape) (clock : ℕ) (p : Arrival) (gone : List Row) → Each (HasExpired shape clock) gone → Any (BringsPacket p) gone → p.eligible + last_bound shape.bounds < clock
gone-early shape clock p [] expired any = absurd any
gone-early shape clock p (row ∷ gone) expired (inl is) = tick-early (last_bound shape.bounds) clock p.eligible row.ticks expired.0 is.tick
gone-early shape clock p (row ∷ gone) expired (inr any) = gone-early shape clock p gone expired.1 any

-- what it says of a packet that it is in the window
pub record InWindow (m t w : ℕ) (p : Arrival) : Type 0 where
  pub level : p.level ≤ m
  pub from : t ≤ p.eligible
  pub before : p.eligible < t + w

in-window : (m t w : ℕ) (p : Arrival) → is_eligible_in m t w p ≡ true → InWindow m t w p
in-window m t w p is =
    let parts = and_parts (nat_le p.level m) (nat_le t p.eligible && nat_lt p.eligible (t + w)) is in
    let ticks = and_parts (nat_le t p.eligible) (nat_lt p.eligible (t + w)) parts.1 in
    record { level = leb-true p.level m parts.0; from = leb-true t p.eligible ticks.0; before = ltb-true p.eligible (t + w) ticks.1 }

-- the rows of its packets are held
brought-now : (shape : LinkShape) (h : List Entry) (m t : ℕ) → IsAdmissible shape h → 1 ≤ m → m ≤ length shape.bounds → clock_of h ≤ t + bound_at shape.bounds m → Each (IsBrought m t (bound_at shape.bounds m) (scan_of shape h).rows) (scan_of shape h).packets
brought-now shape h m t legal from upto near =
    let rows = packets-have_rows shape h legal in
    let expired = (legal-order shape h legal).expired in
    let last = bound_at-rising shape.bounds m (length shape.bounds) shape.bounds_rise from upto (omega arith) in
    Each-from_among (IsBrought m t (bound_at shape.bounds m) (scan_of shape h).rows) (scan_of shape h).packets (λ p among. record {
      one = λ inside.
          let window = in-window m t (bound_at shape.bounds m) p inside in
          let level = window.level in
          let start = window.from in
          ⊎_elim
          (λ (held : Any (IsRowOf p) (scan_of shape h).rows). any-brings (length shape.bounds) (scan_of shape h).packets p (scan_of shape h).rows among rows.held held)
          (λ (gone : Any (IsRowOf p) (scan_of shape h).gone).
          let early = gone-early shape (clock_of h) p (scan_of shape h).gone expired (any-brings (length shape.bounds) (scan_of shape h).packets p (scan_of shape h).gone among rows.gone gone) in
          absurd (omega (arith, early, near, last, start)))
          ((Each-among (HasRow (length shape.bounds) (scan_of shape h).rows (scan_of shape h).gone) p (scan_of shape h).packets rows.each among).one (omega (arith, level, upto)));
    })

-- ---- one that it has passed

-- packets that are eligible after the window are not in it
after-window : (m t w clock : ℕ) (rows : List Row) (new : List Arrival) → t + w ≤ clock → Each (IsFrom clock) new → Each (IsBrought m t w rows) new
after-window m t w clock rows new past from =
    Each-if (IsFrom clock) (IsBrought m t w rows) new (λ p later. record { one = λ inside. (let before = (in-window m t w p inside).before in absurd (omega (arith, before, past, later))) }) from

pub stand-together : (shape : LinkShape) (h : List Entry) (m t : ℕ) → IsAdmissible shape h → 1 ≤ m → m ≤ length shape.bounds → StandTogether shape h m t
unfolding IsAdmissible scan_of clock_of
stand-together shape [] m t legal from upto = record {
  past = [];
  later = [];
  whole = refl;
  passes = last-pass shape [] (held_rows-pass shape [] legal);
  brought = brought-now shape [] m t legal from upto (omega arith);
}
stand-together shape (e ∷ past) m t legal from upto =
    ⊎_elim
    (λ (after : t + bound_at shape.bounds m < clock_with e.ask (clock_of past)).
    let before = stand-together shape past m t legal.0 from upto in
    let adds = packets-after shape (clock_of past) (scan_of shape past) e.ask e.reply in
    let most = clock_with-most e.ask (clock_of past) in
    record {
      past = before.past;
      later = e ∷ before.later;
      whole = ap (λ all. e ∷ all) before.whole;
      passes = before.passes;
      brought = subst (Each (IsBrought m t (bound_at shape.bounds m) (scan_of shape before.past).rows)) (sym adds.are)
          (Each-append (IsBrought m t (bound_at shape.bounds m) (scan_of shape before.past).rows) (scan_of shape past).packets adds.new before.brought
          (after-window m t (bound_at shape.bounds m) (clock_of past) (scan_of shape before.past).rows adds.new (omega (arith, after, most)) adds.from));
    })
    (λ (near : clock_with e.ask (clock_of past) ≤ t + bound_at shape.bounds m). record {
      past = e ∷ past;
      later = [];
      whole = refl;
      passes = last-pass shape (e ∷ past) (held_rows-pass shape (e ∷ past) legal);
      brought = brought-now shape (e ∷ past) m t legal from upto near;
    })
    (cases_lt (t + bound_at shape.bounds m) (clock_with e.ask (clock_of past)))
