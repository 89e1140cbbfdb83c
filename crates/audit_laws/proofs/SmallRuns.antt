-- The rows of a run are small: a link makes no more ticks than the plane has rounds, and in a tick at most one packet leaves it.
use Rattle.std.proofs.Common.{◌≡◌, ℕ, ◌+◌, ◌≤◌, Bool, List, [], ◌∷◌, length, filter, Option, Some, refl, sym, ap, ◌∙◌, subst, inl, inr, arith}
use Rattle.run_engine.proofs.Words.{cases_Bool, eqb-true, eqb-false, eq-eqb, and_from, length-append, slice_get_within, nat_eq, nat_lt, reverse, link_number, channel_number, Tick, Reply, Among, reply_to, tick_reply, clock_of, clock_with, scan_of, starts_of, Arrival, Start, NetworkFits, AllOwned, PlanParts, IsPlan, Network, network_of, part_of, Done, plane_at, IsNext, IsRun}
use Rattle.std.proofs.lemmas.List.Elements.{filter-append}
use Rattle.net_units.specs.declared.levels.Levels.{Levels}
use Rattle.link_steps.specs.declared.replies.Reply.TheVariants as Is
use Rattle.link_steps.proofs.FoundElements.{Each-from_among}
use Rattle.link_steps.proofs.Departures.{starts-eligible}
use Rattle.link_steps.proofs.SearchAndFilter.{Each-among}
use Rattle.link_steps.proofs.ListParts.{Among-reverse}
use Rattle.link_steps.proofs.PacketRows.{Among-passes}
use Rattle.link_steps.proofs.RulesAsMeant.{scan-patient}
use Rattle.channel_laws.proofs.SentInTime.{tick-answer}
use Rattle.call_script.proofs.PlansFit.{plan-fits}
use Rattle.call_script.proofs.OneOwner.{all-owned}
use Rattle.run_record.specs.Rows.{IsEarly, departures_in, in_order, rows_by}
use Rattle.run_record.specs.SmallRows.{IsSmall}
use Rattle.run_record.specs.declared.rows.HopRow.{HopRow}
use Rattle.run_engine.specs.replies.Answers.{IsReplyOf}
use Rattle.run_engine.proofs.Flights.FlightOrigins.{is-tick, quiet-clock}
use Rattle.run_engine.proofs.Replies.Replying.{asks-answered}
use Rattle.run_engine.proofs.Runs.PartLaws.{clocks-follow}
use Rattle.run_engine.proofs.Runs.RunLegal.{part-off, part-on, plane-due, by-part}
use Rattle.run_engine.proofs.Tasks.CallerAsksFit.{IsCallers}
use Rattle.trace_audit.specs.Above.{is_at, rows_at}
use Rattle.audit_laws.specs.RunLevels.{AreLevelsOf, EveryTickIsEarly, RowsOfRunsAreSmall}
use Rattle.audit_laws.proofs.RunDeparts.{counted, counted-le, rows-over}
use Rattle.run_engine.specs.channels.Departures.{is_over}
use Rattle.run_engine.proofs.Channels.Leaving.{asks-tick, departures-more, no-tick, off-link}
use Rattle.audit_laws.proofs.RunRows.{run-split, ticked-clock}
use Rattle.audit_laws.proofs.RunSound.{departures_of, row-is}
use Rattle.trace_audit.proofs.SortedRows.{order-among}

-- ---- the clocks of a run

-- a tick is made at a clock that is at most the number of rounds
clock-before : (network : Network) (past : List Done) (done : Done) → NetworkFits network → IsRun network past → (next : IsNext network past done) → done.ask ≡ Tick → clock_of (part_of (link_number done.link) past) ≤ network.rounds
clock-before network past done fits is next tick =
    let within = slice_get_within network.links (link_number done.link) next.link next.linked in
    let early = (plane-due network past done fits is next (λ callers. subst IsCallers tick callers)).early in
    let follows = clocks-follow network past (link_number done.link) fits is within in
    elim (cases_Bool (nat_lt (link_number done.link) (plane_at network past).ticked)) [
      | inl made ↦ (let at : clock_of (part_of (link_number done.link) past) ≡ (plane_at network past).round + 1 = rw made at follows in omega (arith, at, early))
      | inr left ↦ (let at : clock_of (part_of (link_number done.link) past) ≡ (plane_at network past).round + 0 = rw left at follows in omega (arith, at, early))
    ]

-- so the clock of each link is at most one more
pub clock-most : (network : Network) (n : ℕ) (run : List Done) → NetworkFits network → IsRun network run → clock_of (part_of n run) ≤ network.rounds + 1
unfolding IsRun part_of clock_of
clock-most network n [] fits is = omega arith
clock-most network n (done ∷ past) fits is =
    let was = clock-most network n past fits is.0 in
    by-part (λ h. clock_of h ≤ network.rounds + 1) n done past (λ on. at-link on was) (λ off. was) where
      at-link : link_number done.link ≡ n → clock_of (part_of n past) ≤ network.rounds + 1 → clock_with done.ask (clock_of (part_of n past)) ≤ network.rounds + 1
      at-link on was =
          elim (is-tick done.ask) [
            | inl tick ↦ subst (λ a. clock_with a (clock_of (part_of n past)) ≤ network.rounds + 1) (sym tick) (let before : clock_of (part_of n past) ≤ network.rounds = subst (λ m. clock_of (part_of m past) ≤ network.rounds) on (clock-before network past done fits is.0 is.1 tick) in omega (arith, before))
            | inr other ↦ subst (λ t. t ≤ network.rounds + 1) (sym (quiet-clock done.ask (clock_of (part_of n past)) other)) was
          ]

-- ---- the number of rows

-- an entry tells one row at most
one-row : (test : HopRow → Bool) (whole : List Done) (done : Done) (reply : Reply) → length (filter test (rows_by whole done.link reply)) ≤ 1
one-row test whole done (Is.Ticked clock full (Some sent) best_sent best_lost) = one _ where
  one : (row : HopRow) → length (filter test (row ∷ [])) ≤ 1
  one row = elim (cases_Bool (test row)) [ inl passes ↦ rw passes (omega arith) | inr fails ↦ rw fails (omega arith) ]
one-row test whole done _ = omega arith

-- how many rows of a channel over a link the entries tell
abbrev rows-told : ℕ → ℕ → List Done → List Done → ℕ
rows-told c n whole run = length (filter (is_over c n) (departures_in whole (reverse run)))

told-more : (c n : ℕ) (whole past : List Done) (done : Done) → rows-told c n whole (done ∷ past) ≡ rows-told c n whole past + length (filter (is_over c n) (rows_by whole done.link done.reply))
told-more c n whole past done =
    ap length (ap (filter (is_over c n)) (departures-more whole past done) ∙ filter-append (is_over c n) (departures_in whole (reverse past)) (rows_by whole done.link done.reply))
    ∙ length-append (filter (is_over c n) (departures_in whole (reverse past))) (filter (is_over c n) (rows_by whole done.link done.reply))

-- no more than the link has made ticks
rows-few : (network : Network) (c n : ℕ) (whole run : List Done) → NetworkFits network → AllOwned network → IsRun network run → rows-told c n whole run ≤ clock_of (part_of n run)
unfolding IsRun departures_in part_of clock_of
rows-few network c n whole [] fits owned is = omega arith
rows-few network c n whole (done ∷ past) fits owned is =
    let was = rows-few network c n whole past fits owned is.0 in
    elim (cases_Bool (nat_eq (link_number done.link) n)) [
      | inr off ↦
          (let other = eqb-false (link_number done.link) n off in
          let none = ap length (off-link c n whole done done.reply other) in
          subst (λ h. rows-told c n whole (done ∷ past) ≤ clock_of h) (sym (part-off n done past other)) (omega (arith, was, told-more c n whole past done, none)))
      | inl on ↦ at-link (eqb-true (link_number done.link) n on) was
    ] where
      at-link : link_number done.link ≡ n → rows-told c n whole past ≤ clock_of (part_of n past) → rows-told c n whole (done ∷ past) ≤ clock_of (part_of n (done ∷ past))
      at-link on was =
          subst (λ h. rows-told c n whole (done ∷ past) ≤ clock_of h) (sym (part-on n done past on)) (elim (is-tick done.ask) [
            | inl tick ↦
                (let one = one-row (is_over c n) whole done done.reply in
                subst (λ a. rows-told c n whole (done ∷ past) ≤ clock_with a (clock_of (part_of n past))) (sym tick) (omega (arith, was, told-more c n whole past done, one)))
            | inr other ↦
                (let none = ap length (no-tick c n whole done other (asks-answered network past done fits owned is.0 is.1)) in
                subst (λ t. rows-told c n whole (done ∷ past) ≤ t) (sym (quiet-clock done.ask (clock_of (part_of n past)) other)) (omega (arith, was, told-more c n whole past done, none)))
          ])

-- ---- the rows

small-row : (plan : PlanParts) (run : List Done) (levels : List (Option Levels)) (row : HopRow) → IsPlan plan → IsRun (network_of plan) run → AreLevelsOf plan run levels → Among row (departures_of run) → IsSmall row
small-row plan run levels row is run_is are among =
    let fits = plan-fits plan is in
    let own = row-is plan run levels row is run_is are among in
    let clock = clock-most (network_of plan) (link_number row.link) run fits run_is in
    let rounds = fits.rounds in
    let here : Among row (rows_at (channel_number row.chan) row.hop (departures_of run)) =
    Among-passes (is_at (channel_number row.chan) row.hop) row (departures_of run) (and_from _ _ (eq-eqb (channel_number row.chan) (channel_number row.chan) refl) (eq-eqb row.hop row.hop refl)) among in
    let place = counted-le 0 (rows_at (channel_number row.chan) row.hop (departures_of run)) row (counted plan run levels is run_is are (channel_number row.chan) row.hop) here in
    let over = ap length (rows-over plan run levels row is run_is are own) in
    let few = rows-few (network_of plan) (channel_number row.chan) (link_number row.link) (reverse run) run fits (all-owned plan is) run_is in
    let after = Each-among (λ (s : Start). s.packet.eligible ≤ s.tick) own.start (starts_of own.link.shape (part_of (link_number row.link) run)) (starts-eligible own.link.shape.rate _ (clock_of (part_of (link_number row.link) run))) own.started in
    let patient = Each-among (λ (p : Arrival). p.at ≤ p.eligible) own.start.packet _ (scan-patient own.link.shape (part_of (link_number row.link) run)) own.among in
    let left = own.left in
    let leaves = own.leaves in
    let at = own.at in
    let eligible = own.eligible in
    let number : row.number ≤ 1048577 = omega (arith, place, over, few, clock, rounds) in
    let departed : row.departed ≤ 1048577 = omega (arith, left, leaves, clock, rounds) in
    let tick : row.eligible ≤ 1048577 = omega (arith, after, left, eligible, clock, rounds) in
    let arrived : row.at ≤ 1048577 = omega (arith, patient, at, eligible, tick) in
    record {
      number = omega (arith, number);
      at = omega (arith, arrived);
      eligible = omega (arith, tick);
      departed = omega (arith, departed);
    }

pub rows-are-small : RowsOfRunsAreSmall
rows-are-small plan run levels is run_is are =
    Each-from_among IsSmall (in_order (departures_of run)) (λ row among. small-row plan run levels row is run_is are (order-among row (departures_of run) among))

-- ---- ticks

tick-early : (network : Network) (past : List Done) (done : Done) (reply : Reply) → NetworkFits network → AllOwned network → IsRun network past → IsNext network past done → done.reply ≡ reply → IsEarly reply
tick-early network past done (Is.Ticked clock full sent best_sent best_lost) fits owned is next reply =
    let tick : done.ask ≡ Tick = asks-tick done.ask clock full sent best_sent best_lost (subst (IsReplyOf done.ask) reply (asks-answered network past done fits owned is next)) in
    let answered : Is.Ticked clock full sent best_sent best_lost ≡ tick_reply next.link.shape (clock_of (part_of (link_number done.link) past)) (scan_of next.link.shape (part_of (link_number done.link) past)) =
    sym reply ∙ next.answered ∙ ap (reply_to next.link (part_of (link_number done.link) past)) tick ∙ tick-answer next.link (part_of (link_number done.link) past) in
    let told : clock ≡ clock_of (part_of (link_number done.link) past) = ticked-clock clock _ full _ sent _ best_sent best_lost _ _ answered in
    let before = clock-before network past done fits is next tick in
    let rounds = fits.rounds in
    omega (arith, told, before, rounds)
tick-early network past done _ fits owned is next reply = tt

pub every-tick-is-early : EveryTickIsEarly
every-tick-is-early plan run is run_is =
    Each-from_among (λ (done : Done). IsEarly done.reply) (reverse run) (λ done among. (
    let split = run-split (network_of plan) run done run_is (Among-reverse done run among) in
    tick-early (network_of plan) split.past done done.reply (plan-fits plan is) (all-owned plan is) split.is split.next refl))
