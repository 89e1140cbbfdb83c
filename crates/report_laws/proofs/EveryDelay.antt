-- The delays that the report tells of an accepted channel are those of the packets that have departed from its last hop: as many, each
-- of them, and no other.
use Rattle.std.proofs.Common.{◌≡◌, ℕ, suc, ◌+◌, ◌-◌, ◌≤◌, true, List, [], ◌∷◌, length, Option, Some, None, refl, sym, ap, ◌∙◌, subst, inl, inr, arith}
use Rattle.run_engine.proofs.Words.{cases_lt, and_from, eq-eqb, length-reverse, filter, reverse, link_number, channel_number, Each, Among, Arrival, Start, Request, Network, network_of, Done, packets_on, HopAt, arrived_at}
use Rattle.std.specs.Prelude.{min, max}
use Rattle.link_steps.proofs.FoundElements.{Each-from_among}
use Rattle.link_steps.proofs.Departures.{starts-once, leaves-once}
use Rattle.link_steps.proofs.SearchAndFilter.{Among-filter, Each-among, Each-if}
use Rattle.link_steps.proofs.ListParts.{Among-turned}
use Rattle.channel_laws.proofs.SentOrder.{start-departed}
use Rattle.call_script.proofs.PlansFit.{plan-fits}
use Rattle.run_record.specs.Rows.{rows_of}
use Rattle.run_record.specs.declared.rows.HopRow.{HopRow}
use Rattle.interleave_core.specs.channels.Guarantee.{HasLeft}
use Rattle.run_engine.specs.channels.Paths.{clock_at, starts_at, departs_at, delay_of}
use Rattle.run_engine.proofs.Channels.ChannelsAt.{packets-numbered}
use Rattle.trace_audit.specs.Above.{is_at, rows_at}
use Rattle.trace_audit.specs.Checks.{AllPass}
use Rattle.trace_audit.proofs.TableInOrder.{at-parts}
use Rattle.trace_audit.proofs.WholeRoute.{filter-reverse}
use Rattle.audit_laws.proofs.RunIsSound.{run-is_sound}
use Rattle.channel_report.specs.Delays.{least_with, least_of, worst_with, worst_of}
use Rattle.report_laws.specs.Bounds.{delays_told}
use Rattle.report_laws.specs.RowDelays.{is_last, row_delays_in}
use Rattle.report_laws.specs.Delivered.{IsDelay, IsLeast, IsWorst, ReportsShowEveryDelay}
use Rattle.report_laws.proofs.DelayRows.{delay-is}
use Rattle.audit_laws.proofs.GivenLevels.{levels_in, levels-are}
use Rattle.report_laws.proofs.DelaysOfRows.{delays-of-rows}
use Rattle.report_laws.proofs.PairedRows.{delays-count, tells-delay}
use Rattle.report_laws.proofs.RowCount.{RowsLeft, row-with, one-numbered, rows-left, taken-there, left-early}
use Rattle.report_laws.proofs.RowPacket.{AllOffered, all-offered}
use Rattle.report_laws.proofs.ToldDelays.{DelayOf, delays-are}

-- ---- the least and the greatest

least-more : (delay : ℕ) (delays : List ℕ) (found : Option ℕ) → IsLeast found delays → IsLeast (Some (least_with delay found)) (delay ∷ delays)
least-more delay delays None is = (inl refl, (omega arith, subst (Each (λ d. delay ≤ d)) (sym is) tt))
least-more delay delays (Some own) is =
    elim (cases_lt own delay) [
      | inl less ↦ (let e : own ≡ min delay own = omega (arith, less) in
          (inr (subst (λ x. Among x delays) e is.0), (omega (arith, less), subst (λ x. Each (λ d. x ≤ d) delays) e is.1)))
      | inr more ↦ (let e : delay ≡ min delay own = omega (arith, more) in
          (inl (sym e), (omega (arith, more), Each-if (λ d. own ≤ d) (λ d. min delay own ≤ d) delays (λ d upto. omega (arith, upto, more)) is.1)))
    ]

least-is : (delays : List ℕ) → IsLeast (least_of delays) delays
unfolding least_of
least-is [] = refl
least-is (delay ∷ delays) = least-more delay delays (least_of delays) (least-is delays)

worst-more : (delay : ℕ) (delays : List ℕ) (found : Option ℕ) → IsWorst found delays → IsWorst (Some (worst_with delay found)) (delay ∷ delays)
worst-more delay delays None is = (inl refl, (omega arith, subst (Each (λ d. d ≤ delay)) (sym is) tt))
worst-more delay delays (Some own) is =
    elim (cases_lt delay own) [
      | inl less ↦ (let e : own ≡ max delay own = omega (arith, less) in
          (inr (subst (λ x. Among x delays) e is.0), (omega (arith, less), subst (λ x. Each (λ d. d ≤ x) delays) e is.1)))
      | inr more ↦ (let e : delay ≡ max delay own = omega (arith, more) in
          (inl (sym e), (omega (arith, more), Each-if (λ d. d ≤ own) (λ d. d ≤ max delay own) delays (λ d upto. omega (arith, upto, more)) is.1)))
    ]

worst-is : (delays : List ℕ) → IsWorst (worst_of delays) delays
unfolding worst_of
worst-is [] = refl
worst-is (delay ∷ delays) = worst-more delay delays (worst_of delays) (worst-is delays)

-- ---- one packet has one departure

leaves-upto : (network : Network) (request : Request) (i : ℕ) (at : HopAt network request i) (run : List Done) (one other : Start) → Among one (starts_at at run) → Among other (starts_at at run) → one.packet ≡ other.packet → departs_at at one ≤ departs_at at other
leaves-upto network request i at run one other there_one there_other same =
    leaves-once at.link.shape.rate (departs_at at other) (starts_at at run) one (starts-once at.link.shape.rate (packets_on at.link (link_number at.hop.link) run) (clock_at at run)) there_one
    (start-departed at.link.shape.rate (departs_at at other) (starts_at at run) one.packet other there_other (eq-eqb other.packet.place one.packet.place (ap (λ (p : Arrival). p.place) (sym same))) (omega arith))

same-delay : (network : Network) (request : Request) (first : HopAt network request 0) (m : ℕ) (last : HopAt network request m) (run : List Done) (j k : ℕ) (one other : Start) → j ≡ k → departs_at last one ≡ departs_at last other → delay_of first last run j one ≡ delay_of first last run k other
same-delay network request first m last run j k one other index departs = ap (λ t. t + last.link.shape.prop - arrived_at first run j) departs ∙ ap (λ n. departs_at last other + last.link.shape.prop - arrived_at first run n) index

-- ---- the law

pub every-delay : ReportsShowEveryDelay
every-delay plan run c entry levels delay first m last is run_is requested accepted end = record {
  delivered = ap length same-told
      ∙ delays-count plan (levels_in plan run) entry.request (reverse (rows_of (reverse run))) sound
      ∙ ap length (filter-reverse (is_last entry.request) (rows_of (reverse run)))
      ∙ length-reverse (filter (is_last entry.request) (rows_of (reverse run)))
      ∙ ap (λ h. length (rows_at (channel_number entry.request.chan) h (rows_of (reverse run)))) (sym end)
      ∙ rows.count;
  all = all;
  each = Each-from_among (IsDelay (network_of plan) entry.request first m last run) (delays_told run entry)
      (λ d among. (delay-is plan run c entry first m last d is run_is requested offered end (Each-among (DelayOf entry.request (reverse (rows_of (reverse run)))) d (row_delays_in entry.request (rows_of (reverse run))) (delays-are entry.request (reverse (rows_of (reverse run)))) (subst (Among d) same-told among))).is);
  least = least-is (delays_told run entry);
  worst = worst-is (delays_told run entry);
} where
  same-told : delays_told run entry ≡ row_delays_in entry.request (rows_of (reverse run))
  same-told = delays-of-rows plan run c entry is run_is requested

  offered : AllOffered run entry.request
  offered = all-offered run entry.request levels delay accepted

  sound : AllPass plan (levels_in plan run) (reverse (rows_of (reverse run)))
  sound = run-is_sound plan run (levels_in plan run) is run_is (levels-are plan run is run_is)

  rows : RowsLeft plan run entry m last
  rows = rows-left plan run c entry m last is run_is requested offered

  all : (k : ℕ) (start : Start) → HasLeft (network_of plan) entry.request m last run k start → Among (delay_of first last run k start) (delays_told run entry)
  all k start left =
      let early = left-early plan run c entry m last start is run_is requested offered rows left.among left.own left.left in
      let count = rows.count in
      let n = left.number in
      let found = row-with 0 (rows_at (channel_number entry.request.chan) (suc m) (rows_of (reverse run))) (suc k) rows.counted (omega arith) (omega (arith, early, count, n)) in
      let inside = Among-filter (is_at (channel_number entry.request.chan) (suc m)) found.row (rows_of (reverse run)) found.among in
      let parts = at-parts (channel_number entry.request.chan) (suc m) found.row inside.1 in
      let at_end : is_last entry.request found.row ≡ true = and_from _ _ (eq-eqb (channel_number found.row.chan) (channel_number entry.request.chan) parts.0) (eq-eqb found.row.hop (length entry.request.route) (parts.1 ∙ end)) in
      let tells = tells-delay plan (levels_in plan run) entry.request (reverse (rows_of (reverse run))) found.row sound (Among-turned found.row (rows_of (reverse run)) inside.0) at_end in
      let told = delay-is plan run c entry first m last tells.delay is run_is requested offered end tells.of in
      let number : told.is.start.packet.number ≡ suc k = told.number_is ∙ ap (λ (r : HopRow). r.number) tells.row_is ∙ found.number in
      let numbers = packets-numbered (network_of plan) entry.request run m last (plan-fits plan is) run_is rows.asked in
      let same : told.is.start.packet ≡ start.packet = one-numbered 0 _ told.is.start.packet start.packet numbers
      (taken-there (network_of plan) entry.request m last run told.is.start told.is.left.among told.is.left.own)
      (taken-there (network_of plan) entry.request m last run start left.among left.own) (number ∙ sym n) in
      let a = leaves-upto (network_of plan) entry.request m last run told.is.start start told.is.left.among left.among same in
      let b = leaves-upto (network_of plan) entry.request m last run start told.is.start left.among told.is.left.among (sym same) in
      let own = told.is.left.number in
      let index : told.is.k ≡ k = omega (arith, own, number) in
      subst (λ d. Among d (delays_told run entry)) (told.is.is ∙ same-delay (network_of plan) entry.request first m last run told.is.k k told.is.start start index (omega (arith, a, b))) (subst (Among tells.delay) (sym same-told) tells.among)
