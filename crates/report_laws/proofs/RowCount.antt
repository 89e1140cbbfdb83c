-- The rows of an accepted channel at a hop are numbered from 1, and are as many as packets of it have departed from the hop. So each
-- packet that has departed has one row.
use Rattle.std.proofs.Common.{Some, ◌≡◌, ℕ, zero, suc, ◌+◌, ◌-◌, ◌<◌, ◌≤◌, Bool, true, List, [], ◌∷◌, length, refl, sym, ap, ◌∙◌, subst, inl, inr, arith}
use Rattle.run_engine.proofs.Words.{cases_Bool, cases_lt, cases_eq, eqb-true, eq-eqb, ne_eqb, same_Some, slice_get, nat_eq, filter, reverse, link_number, channel_number, Hop, Among, Arrival, Start, has_departed, RequestFits, Request, is_of_channel, AreNumberedAfter, gone_of, NetworkFits, PlanParts, IsPlan, Network, network_of, Done, packets_on, ChannelAsked, HopAt, packets_at, IsRun}
use Rattle.std.proofs.lemmas.Bool.Decides.{same_from_decides}
use Rattle.hop_reservation.proofs.DistinctLinks.{index-apart}
use Rattle.link_steps.proofs.FoundElements.{Each-from_among}
use Rattle.link_steps.proofs.SearchAndFilter.{Among-filter, Each-among, filter-same}
use Rattle.link_steps.proofs.PacketRows.{Among-passes}
use Rattle.channel_laws.proofs.DepartedCount.{start-among}
use Rattle.channel_laws.proofs.SentOrder.{start-departed}
use Rattle.call_script.specs.declared.entries.RequestEntry.{RequestEntry}
use Rattle.call_script.proofs.PlansFit.{plan-fits}
use Rattle.run_record.specs.Rows.{rows_of}
use Rattle.run_record.specs.declared.rows.HopRow.{HopRow}
use Rattle.run_engine.specs.channels.Paths.{history_at, clock_at, starts_at, departs_at}
use Rattle.run_engine.proofs.Channels.ChannelsAt.{packets-numbered}
use Rattle.trace_audit.specs.Above.{is_at, is_of, rows_at}
use Rattle.trace_audit.proofs.TableInOrder.{at-parts}
use Rattle.audit_laws.proofs.RunDeparts.{counted, numbers-above}
use Rattle.run_engine.specs.channels.Departures.{AreCounted, is_over}
use Rattle.run_engine.proofs.Channels.Leaving.{Leaving}
use Rattle.audit_laws.proofs.RunSound.{departures_of}
use Rattle.trace_audit.proofs.SortedRows.{order-among, counted-rise, rows-stay}
use Rattle.report_laws.specs.Delivered.{EveryDepartureHasOneRow}
use Rattle.report_laws.specs.Rows.{TellsDeparture}
use Rattle.report_laws.proofs.HopPacket.{one-hop, left-there}
use Rattle.audit_laws.proofs.GivenLevels.{levels_in, levels-are}
use Rattle.report_laws.proofs.RowPacket.{AllOffered, all-offered, row-is-of}
use Rattle.run_engine.proofs.Channels.PlanChannels.{hop-leaves, request-asked, request-sound}

-- ---- rows that are counted

abbrev has_number : ℕ → HopRow → Bool
has_number m row = nat_eq row.number m

-- one with each number
pub record RowWith (rows : List HopRow) (m : ℕ) : Type 0 where
  pub row : HopRow
  pub among : Among row rows
  pub number : row.number ≡ m

pub row-with : (n : ℕ) (rows : List HopRow) (m : ℕ) → AreCounted n rows → n < m → m ≤ n + length rows → RowWith rows m
row-with n [] m are low high = absurd (omega (arith, low, high))
row-with n (row ∷ rows) m are low high =
    elim (cases_eq m (suc n)) [
      | inl here ↦ record { row = row; among = inl refl; number = are.0 ∙ sym here }
      | inr later ↦ (let rest = row-with (suc n) rows m are.1 (omega (arith, low, later)) (omega (arith, high)) in record { row = rest.row; among = inr rest.among; number = rest.number })
    ]

none-with : (n : ℕ) (rows : List HopRow) (m : ℕ) → AreCounted n rows → m ≤ n → filter (has_number m) rows ≡ []
none-with n [] m are low = refl
none-with n (row ∷ rows) m are low = (let other = ne_eqb row.number m (λ same. (let number = are.0 in omega (arith, same, number, low))) in rw other (none-with (suc n) rows m are.1 (omega (arith, low))))

one-with : (n : ℕ) (rows : List HopRow) (m : ℕ) → AreCounted n rows → n < m → m ≤ n + length rows → length (filter (has_number m) rows) ≡ 1
one-with n [] m are low high = absurd (omega (arith, low, high))
one-with n (row ∷ rows) m are low high =
    elim (cases_eq m (suc n)) [
      | inl here ↦ (let same = eq-eqb row.number m (are.0 ∙ sym here) in rw same (ap (λ rs. suc (length rs)) (none-with (suc n) rows m are.1 (omega (arith, here)))))
      | inr later ↦ (let other = ne_eqb row.number m (λ same. (let number = are.0 in later (sym same ∙ number))) in rw other (one-with (suc n) rows m are.1 (omega (arith, low, later)) (omega (arith, high))))
    ]

-- the rows of a packet at a hop are those with its number of the hop's
of-at : (c number hop : ℕ) (rows : List HopRow) → filter (is_of c number hop) rows ≡ filter (has_number number) (rows_at c hop rows)
of-at c number hop [] = refl
of-at c number hop (row ∷ rows) =
    let rest = of-at c number hop rows in
    elim (cases_Bool (is_at c hop row)) [
      | inr off ↦ rw off rest
      | inl on ↦ elim (cases_Bool (nat_eq row.number number)) [
        | inl same ↦ rw (on, same) (ap (λ rs. row ∷ rs) rest)
        | inr other ↦ rw (on, other) rest
      ]
    ]

-- ---- packets that pass a test

some-pass : (test : Arrival → Bool) (own : List Arrival) (p : Arrival) → Among p own → test p ≡ true → 1 ≤ length (filter test own)
some-pass test [] p among is = absurd among
some-pass test (q ∷ own) p (inl same) is = (let first : test q ≡ true = subst (λ x. test x ≡ true) same is in rw first (omega arith))
some-pass test (q ∷ own) p (inr among) is =
    elim (cases_Bool (test q)) [ inl on ↦ rw on (omega arith) | inr off ↦ rw off (some-pass test own p among is) ]

-- where those up to some number pass, and one after them, more than that number do
more-pass : (test : Arrival → Bool) (n g : ℕ) (own : List Arrival) (p : Arrival) → AreNumberedAfter n own → ((q : Arrival) → Among q own → q.number ≤ n + g → test q ≡ true) → Among p own → test p ≡ true → n + g < p.number → suc g ≤ length (filter test own)
more-pass test n zero own p are early among is later = some-pass test own p among is
more-pass test n (suc g) [] p are early among is later = absurd among
more-pass test n (suc g) (q ∷ own) p are early (inl same) is later = absurd (let e : p.number ≡ q.number = ap (λ (x : Arrival). x.number) same in let f = are.0 in omega (arith, e, f, later))
more-pass test n (suc g) (q ∷ own) p are early (inr there) is later =
    let first = early q (inl refl) (let f = are.0 in omega (arith, f)) in
    let rest = more-pass test (suc n) g own p are.1 (λ x among low. early x (inr among) (omega (arith, low))) there is (omega (arith, later)) in
    rw first (omega (arith, rest))

-- numbered packets with one number are one
pub one-numbered : (n : ℕ) (own : List Arrival) (p q : Arrival) → AreNumberedAfter n own → Among p own → Among q own → p.number ≡ q.number → p ≡ q
one-numbered n [] p q are one other same = absurd one
one-numbered n (x ∷ own) p q are (inl one) (inl other) same = one ∙ sym other
one-numbered n (x ∷ own) p q are (inl one) (inr other) same = absurd (let e : p.number ≡ x.number = ap (λ (y : Arrival). y.number) one in let f = are.0 in let above = Each-among (λ (y : Arrival). suc n < y.number) q own (numbers-above (suc n) own are.1) other in omega (arith, e, f, above, same))
one-numbered n (x ∷ own) p q are (inr one) (inl other) same = absurd (let e : q.number ≡ x.number = ap (λ (y : Arrival). y.number) other in let f = are.0 in let above = Each-among (λ (y : Arrival). suc n < y.number) p own (numbers-above (suc n) own are.1) one in omega (arith, e, f, above, same))
one-numbered n (x ∷ own) p q are (inr one) (inr other) same = one-numbered (suc n) own p q are.1 one other same

-- ---- the rows at a hop

pub record RowsLeft (plan : PlanParts) (run : List Done) (entry : RequestEntry) (i : ℕ) (at : HopAt (network_of plan) entry.request i) : Type 0 where
  pub counted : AreCounted 0 (rows_at (channel_number entry.request.chan) (suc i) (rows_of (reverse run)))
  pub count : length (rows_at (channel_number entry.request.chan) (suc i) (rows_of (reverse run))) ≡ gone_of at.link.shape (channel_number entry.request.chan) (history_at at run)
  pub asked : ChannelAsked entry.request run
  pub sound : RequestFits (network_of plan).links entry.request

pub rows-left : (plan : PlanParts) (run : List Done) (c : ℕ) (entry : RequestEntry) (i : ℕ) (at : HopAt (network_of plan) entry.request i) → IsPlan plan → IsRun (network_of plan) run → slice_get plan.requests c ≡ Some entry → AllOffered run entry.request → RowsLeft plan run entry i at
rows-left plan run c entry i at is run_is requested offered = record {
  counted = subst (AreCounted 0) (sym stay) count;
  count = ap length stay ∙ ap length over ∙ leaves.count;
  asked = asked run run_is;
  sound = sound;
} where
  fits : NetworkFits (network_of plan)
  fits = plan-fits plan is

  sound : RequestFits (network_of plan).links entry.request
  sound = request-sound plan c entry is requested

  asked : (past : List Done) → IsRun (network_of plan) past → ChannelAsked entry.request past
  asked = request-asked plan c entry is requested

  counts : (k hop : ℕ) → AreCounted 0 (rows_at k hop (departures_of run))
  counts = counted plan run (levels_in plan run) is run_is (levels-are plan run is run_is)

  count : AreCounted 0 (rows_at (channel_number entry.request.chan) (suc i) (departures_of run))
  count = counts (channel_number entry.request.chan) (suc i)

  stay : rows_at (channel_number entry.request.chan) (suc i) (rows_of (reverse run)) ≡ rows_at (channel_number entry.request.chan) (suc i) (departures_of run)
  stay = rows-stay (departures_of run) (λ k hop. counted-rise 0 (rows_at k hop (departures_of run)) (counts k hop)) (channel_number entry.request.chan) (suc i)

  leaves : Leaving at.link.shape (channel_number entry.request.chan) (link_number at.hop.link) (reverse run) run
  leaves = hop-leaves plan c entry i at (reverse run) run is requested run_is

  same-test : (row : HopRow) → Among row (departures_of run) → is_at (channel_number entry.request.chan) (suc i) row ≡ is_over (channel_number entry.request.chan) (link_number at.hop.link) row
  same-test row among =
      elim (cases_Bool (nat_eq (channel_number row.chan) (channel_number entry.request.chan))) [
        | inr off ↦ rw off refl
        | inl on ↦
            (let tells = row-is-of plan run c entry row is run_is requested offered among (eqb-true (channel_number row.chan) (channel_number entry.request.chan) on) in
            let same : nat_eq row.hop (suc i) ≡ nat_eq (link_number row.link) (link_number at.hop.link) = same_from_decides _ _
            (λ e. link-is tells (eqb-true row.hop (suc i) e), λ e. eq-eqb row.hop (suc i) (hop-is tells e))
            (λ e. eqb-true (link_number row.link) (link_number at.hop.link) e, λ e. eq-eqb (link_number row.link) (link_number at.hop.link) e) in
            rw (on, same) refl)
      ] where
        link-is : TellsDeparture (network_of plan) run entry.request row → row.hop ≡ suc i → link_number row.link ≡ link_number at.hop.link
        link-is tells e =
            let h = tells.hop in
            let index : tells.index ≡ i = omega (arith, h, e) in
            tells.link ∙ ap (λ (x : Hop). link_number x.link) (same_Some tells.at.hop at.hop (sym tells.at.stands ∙ ap (slice_get entry.request.route) index ∙ at.stands))

        hop-is : TellsDeparture (network_of plan) run entry.request row → link_number row.link ≡ link_number at.hop.link → row.hop ≡ suc i
        hop-is tells e = tells.hop ∙ ap suc (index-apart entry.request.route tells.index i tells.at.hop at.hop sound.route tells.at.stands at.stands (sym tells.link ∙ e))

  over : rows_at (channel_number entry.request.chan) (suc i) (departures_of run) ≡ filter (is_over (channel_number entry.request.chan) (link_number at.hop.link)) (departures_of run)
  over = filter-same (is_at (channel_number entry.request.chan) (suc i)) (is_over (channel_number entry.request.chan) (link_number at.hop.link)) (departures_of run) (Each-from_among _ (departures_of run) same-test)

-- ---- one row for each packet

-- whether a packet has departed from the hop
abbrev departed_at : {network : Network} {request : Request} {i : ℕ} → HopAt network request i → List Done → Arrival → Bool
departed_at at run = has_departed at.link.shape.rate (starts_at at run) (clock_at at run)

-- the packet of a start of the channel's is one of the hop's
pub taken-there : (network : Network) (request : Request) (i : ℕ) (at : HopAt network request i) (run : List Done) (start : Start) → Among start (starts_at at run) → is_of_channel (channel_number request.chan) start.packet ≡ true → Among start.packet (packets_at network request i at run)
taken-there network request i at run start among own =
    Among-passes (is_of_channel (channel_number request.chan)) start.packet (packets_on at.link (link_number at.hop.link) run) own (start-among at.link.shape.rate (packets_on at.link (link_number at.hop.link) run) (clock_at at run) start among)

departed-there : (network : Network) (request : Request) (i : ℕ) (at : HopAt network request i) (run : List Done) (start : Start) → Among start (starts_at at run) → departs_at at start ≤ clock_at at run → departed_at at run start.packet ≡ true
departed-there network request i at run start among left = start-departed at.link.shape.rate (clock_at at run) (starts_at at run) start.packet start among (eq-eqb start.packet.place start.packet.place refl) left

-- a packet that has left the hop is among the first of them
pub left-early : (plan : PlanParts) (run : List Done) (c : ℕ) (entry : RequestEntry) (i : ℕ) (at : HopAt (network_of plan) entry.request i) (start : Start) → IsPlan plan → IsRun (network_of plan) run → slice_get plan.requests c ≡ Some entry → AllOffered run entry.request → RowsLeft plan run entry i at
    → Among start (starts_at at run) → is_of_channel (channel_number entry.request.chan) start.packet ≡ true → departs_at at start ≤ clock_at at run → start.packet.number ≤ gone_of at.link.shape (channel_number entry.request.chan) (history_at at run)
left-early plan run c entry i at start is run_is requested offered rows among own left =
    elim (cases_lt (gone_of at.link.shape (channel_number entry.request.chan) (history_at at run)) start.packet.number) [
      | inr early ↦ early
      | inl late ↦ absurd (let many = more-pass (departed_at at run) 0 (gone_of at.link.shape (channel_number entry.request.chan) (history_at at run)) (packets_at (network_of plan) entry.request i at run) start.packet numbers before
          (taken-there (network_of plan) entry.request i at run start among own) (departed-there (network_of plan) entry.request i at run start among left) (omega (arith, late)) in omega (arith, many))
    ] where
      numbers : AreNumberedAfter 0 (packets_at (network_of plan) entry.request i at run)
      numbers = packets-numbered (network_of plan) entry.request run i at (plan-fits plan is) run_is rows.asked

      before : (q : Arrival) → Among q (packets_at (network_of plan) entry.request i at run) → q.number ≤ 0 + gone_of at.link.shape (channel_number entry.request.chan) (history_at at run) → departed_at at run q ≡ true
      before q there low =
          let some = Each-among (λ (x : Arrival). 0 < x.number) q (packets_at (network_of plan) entry.request i at run) (numbers-above 0 (packets_at (network_of plan) entry.request i at run) numbers) there in
          let all = rows.count in
          let found = row-with 0 (rows_at (channel_number entry.request.chan) (suc i) (rows_of (reverse run))) q.number rows.counted some (omega (arith, low, all)) in
          let inside = Among-filter (is_at (channel_number entry.request.chan) (suc i)) found.row (rows_of (reverse run)) found.among in
          let parts = at-parts (channel_number entry.request.chan) (suc i) found.row inside.1 in
          let tells = row-is-of plan run c entry found.row is run_is requested offered (order-among found.row (departures_of run) inside.0) parts.0 in
          let h = tells.hop in
          let k = parts.1 in
          let one = one-hop (network_of plan) entry.request tells.index i tells.at at (omega (arith, h, k)) in
          let number = tells.number in
          let wanted = found.number in
          let left = left-there (network_of plan) entry.request tells.index i tells.at at run (tells.start.packet.number - 1) tells.start one tells.among tells.own tells.left (let least = tells.numbered in omega (arith, least)) in
          let same : tells.start.packet ≡ q = one-numbered 0 (packets_at (network_of plan) entry.request i at run) tells.start.packet q numbers (taken-there (network_of plan) entry.request i at run tells.start left.among left.own) there (omega (arith, number, wanted)) in
          subst (λ (x : Arrival). departed_at at run x ≡ true) same (departed-there (network_of plan) entry.request i at run tells.start left.among left.left)

pub one-row : EveryDepartureHasOneRow
one-row plan run c entry levels delay i at start is run_is requested accepted among own left =
    let offered = all-offered run entry.request levels delay accepted in
    let rows = rows-left plan run c entry i at is run_is requested offered in
    let early = left-early plan run c entry i at start is run_is requested offered rows among own left in
    let numbers = packets-numbered (network_of plan) entry.request run i at (plan-fits plan is) run_is rows.asked in
    let there = taken-there (network_of plan) entry.request i at run start among own in
    let some = Each-among (λ (x : Arrival). 0 < x.number) start.packet (packets_at (network_of plan) entry.request i at run) (numbers-above 0 (packets_at (network_of plan) entry.request i at run) numbers) there in
    let all = rows.count in
    ap length (of-at (channel_number entry.request.chan) start.packet.number (suc i) (rows_of (reverse run)))
    ∙ one-with 0 (rows_at (channel_number entry.request.chan) (suc i) (rows_of (reverse run))) start.packet.number rows.counted some (omega (arith, early, all))
