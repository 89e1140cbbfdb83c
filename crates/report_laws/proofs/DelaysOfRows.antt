-- In every run of a plan the delays of a channel are those that the rows in their order tell. At the first and at
-- the last link the packets of a channel leave in the order of their numbers, from 1, so the rows there stay in their order when all
-- are put in order; and a packet that leaves the last link has left the first.
use Rattle.std.proofs.Common.{◌≡◌, ℕ, zero, suc, ◌+◌, ◌-◌, ◌<◌, Bool, true, List, [], ◌∷◌, ◌++◌, length, map, get_or, Option, Some, None, refl, sym, ap, ◌∙◌, inl, inr, arith, append-nil, append_assoc}
use Rattle.run_engine.proofs.Words.{cases_Bool, and_from, and_parts, eqb-true, eq-eqb, length-map, reverse-append, same_Some, slice_get_read, slice_get, filter, nat_eq, reverse, channel_number, link_number, Hop, Reply, Among, RequestFits, Request, PlanParts, IsPlan, network_of, Done, HopAt, IsRun}
use Rattle.std.proofs.lemmas.Bool.Decides.{same_from_decides}
use Rattle.std.proofs.lemmas.List.{get_or_default, reverse-reverse}
use Rattle.std.proofs.lemmas.List.Elements.{filter-append}
use Rattle.net_units.specs.declared.levels.Levels.{Levels}
use Rattle.hop_reservation.proofs.DistinctLinks.{index-apart}
use Rattle.link_steps.specs.declared.replies.Reply.TheVariants as Is
use Rattle.link_steps.proofs.FoundElements.{Each-from_among}
use Rattle.link_steps.proofs.ListParts.{Among-reverse, Among-turned}
use Rattle.link_steps.proofs.PacketRows.{Among-passes}
use Rattle.link_steps.proofs.SearchAndFilter.{filter-same}
use Rattle.call_script.specs.declared.entries.RequestEntry.{RequestEntry}
use Rattle.run_record.specs.Rows.{departures_in, links_of, row_of, rows_by, rows_of}
use Rattle.run_record.specs.declared.rows.HopRow.{HopRow}
use Rattle.run_engine.proofs.Channels.HopsAt.{hop-at}
use Rattle.run_engine.proofs.Channels.Leaving.{Leaving, departures-more}
use Rattle.run_engine.specs.channels.Departures.{AreCounted, is_over}
use Rattle.trace_audit.proofs.SortedRows.{among-order, counted-rise, order-among, rows-stay}
use Rattle.trace_audit.proofs.WholeRoute.{filter-reverse}
use Rattle.trace_audit.specs.Above.{is_at, rows_at}
use Rattle.trace_audit.specs.Checks.{AllPass}
use Rattle.audit_laws.proofs.GivenLevels.{levels-are, levels_in}
use Rattle.audit_laws.proofs.RunDeparts.{counted, counted-le}
use Rattle.audit_laws.proofs.RunIsSound.{run-is_sound}
use Rattle.audit_laws.proofs.RunRows.{told-departs}
use Rattle.audit_laws.proofs.RunSound.{RowIs, departures_of, row-is}
use Rattle.channel_report.proofs.ChannelTallies.{first-at}
use Rattle.channel_report.proofs.PairedDelays.{arrivals-are, paired-are}
use Rattle.report_laws.proofs.PairedRows.{has-first, none-delay, one-delay, tells-delay}
use Rattle.report_laws.proofs.ToldDelays.{first-is}
use Rattle.channel_report.specs.Delays.{delay_if, last_link, last_prop, link_at}
use Rattle.channel_report.specs.Pairing.{arrival_if, arrivals_of, paired_of}
use Rattle.channel_report.specs.Sources.{first_link}
use Rattle.report_laws.specs.RowDelays.{ReportsTellTheDelaysOfRows, first_in, is_last, row_delays_of}
use Rattle.run_engine.proofs.Channels.PlanChannels.{hop-leaves, request-sound}

-- ---- lists

abbrev at_of : HopRow → ℕ
at_of row = row.at

-- the arrivals are those of the rows over the first link
arrivals-in : (c : ℕ) (request : Request) (rows : List HopRow) → arrivals_of c request (reverse rows) ≡ map at_of (filter (is_over c (first_link request.route)) rows)
arrivals-in c request rows = arrivals-are c request (reverse rows) ∙ ap (λ rs. map at_of (filter (is_over c (first_link request.route)) rs)) (reverse-reverse rows)

-- the delays of some rows, by the arrivals of all packets
unfoldable pub told_by : ℕ → List ℕ → List HopRow → List ℕ
told_by prop all [] = []
told_by prop all (row ∷ rows) = (row.departed + prop - get_or all (row.number - 1) 0) ∷ told_by prop all rows

get-front : (xs ys : List ℕ) (i x : ℕ) → slice_get xs i ≡ Some x → get_or (xs ++ ys) i 0 ≡ x
get-front [] ys i x is = cc
get-front (y ∷ xs) ys zero x is = same_Some y x is
get-front (y ∷ xs) ys (suc i) x is = get-front xs ys i x is

-- counted rows are found by their numbers
pub counted-at : (n k : ℕ) (rows : List HopRow) (x : HopRow) → AreCounted n rows → Among x rows → x.number ≡ suc (n + k) → get_or (map at_of rows) k 0 ≡ x.at
counted-at n k [] x are among is = absurd among
counted-at n zero (row ∷ rows) x are (inl same) is = ap at_of (sym same)
counted-at n (suc k) (row ∷ rows) x are (inl same) is = absurd (let e : x.number ≡ row.number = ap (λ (r : HopRow). r.number) same in let f = are.0 in omega (arith, e, f, is))
counted-at n zero (row ∷ rows) x are (inr there) is = absurd (let above = number-above (suc n) rows x are.1 there in omega (arith, above, is)) where
  number-above : (m : ℕ) (rs : List HopRow) (y : HopRow) → AreCounted m rs → Among y rs → m < y.number
  number-above m [] y own among = absurd among
  number-above m (r ∷ rs) y own (inl same) = (let e : y.number ≡ r.number = ap (λ (s : HopRow). s.number) same in let f = own.0 in omega (arith, e, f))
  number-above m (r ∷ rs) y own (inr among) = (let rest = number-above (suc m) rs y own.1 among in omega (arith, rest))
counted-at n (suc k) (row ∷ rows) x are (inr there) is = counted-at (suc n) k rows x are.1 there (omega (arith, is))

-- ---- rows in their order

-- where each packet of the channel is found by its number, the rows of the last hop tell these delays
sorted-told : (plan : PlanParts) (levels : List (Option Levels)) (request : Request) (all : List ℕ) (rows : List HopRow) → AllPass plan levels rows
    → ((first : HopRow) → Among first rows → channel_number first.chan ≡ channel_number request.chan → first.hop ≡ 1 → get_or all (first.number - 1) 0 ≡ first.at)
    → row_delays_of request rows ≡ told_by (last_prop request.route) all (filter (is_last request) rows)
unfolding row_delays_of AllPass told_by
sorted-told plan levels request all [] pass found = refl
sorted-told plan levels request all (row ∷ above) pass found =
    let rest = sorted-told plan levels request all above pass.0 (λ first among own hop. found first (inr among) own hop) in
    elim (cases_Bool (is_last request row)) [
      | inr other ↦ ap (λ ds. ds ++ row_delays_of request above) (none-delay request row (first_in (row ∷ above)) other) ∙ rest ∙ (rw other refl)
      | inl last ↦
          (let near = has-first plan levels row above pass in
          let first = first-is (row ∷ above) near.first near.found in
          let own : channel_number near.first.chan ≡ channel_number request.chan = sym near.chan ∙ eqb-true (channel_number row.chan) (channel_number request.chan) (and_parts (nat_eq (channel_number row.chan) (channel_number request.chan)) (nat_eq row.hop (length request.route)) last).0 in
          let at : get_or all (row.number - 1) 0 ≡ near.first.at = ap (λ n. get_or all (n - 1) 0) near.number ∙ found near.first first.0 own first.1 in
          ap (λ ds. ds ++ row_delays_of request above) (one-delay request row above near last)
          ∙ ap (λ t. (row.departed + last_prop request.route - t) ∷ row_delays_of request above) (sym at)
          ∙ ap (λ ds. (row.departed + last_prop request.route - get_or all (row.number - 1) 0) ∷ ds) rest
          ∙ (rw last refl))
    ]

-- ---- the row of an entry

-- the row that an entry tells, with the hop that the run's offers tell
record WithHop (run : List Done) (row : HopRow) : Type 0 where
  pub told : HopRow
  pub among : Among told (departures_of run)
  pub chan : told.chan ≡ row.chan
  pub link : told.link ≡ row.link
  pub number : told.number ≡ row.number

with-hop : (whole past : List Done) (done : Done) (reply : Reply) (row : HopRow) → done.reply ≡ reply → rows_by whole done.link reply ≡ row ∷ [] → WithHop (done ∷ past) row
with-hop whole past done (Is.Ticked clock full (Some sent) best_sent best_lost) row is told = record {
  told = row_of (links_of (channel_number sent.packet.chan) (reverse (done ∷ past))) done.link clock sent;
  among = told-departs (reverse (done ∷ past)) (reverse (done ∷ past)) done clock full sent best_sent best_lost (Among-turned done (done ∷ past) (inl refl)) is;
  chan = ap (λ (r : HopRow). r.chan) (head-of _ _ told);
  link = ap (λ (r : HopRow). r.link) (head-of _ _ told);
  number = ap (λ (r : HopRow). r.number) (head-of _ _ told);
} where
  head-of : (x y : HopRow) → x ∷ [] ≡ y ∷ [] → x ≡ y
  head-of x y same = cc
with-hop whole past done _ row is told = absurd (let clash : [] ≡ row ∷ [] = told in cc)

-- an entry tells one row at most
two-told : (whole : List Done) (done : Done) (reply : Reply) (x y : HopRow) (rows : List HopRow) → rows_by whole done.link reply ≡ x ∷ y ∷ rows → ⊥
two-told whole done (Is.Ticked clock full (Some sent) best_sent best_lost) x y rows same = cc
two-told whole done (Is.Ticked clock full None best_sent best_lost) x y rows same = cc
two-told whole done _ x y rows same = cc

one-more : (c : ℕ) (request : Request) (before : List HopRow) (row : HopRow) (rest : List ℕ) → arrivals_of c request (row ∷ before) ++ rest ≡ arrivals_of c request before ++ (arrival_if (is_over c (first_link request.route) row) row.at ++ rest)
unfolding arrivals_of
one-more c request before row rest = append_assoc (arrivals_of c request before) (arrival_if (is_over c (first_link request.route) row) row.at) rest

-- ---- the rows of a request

module _ (plan : PlanParts) (c : ℕ) (entry : RequestEntry) (is : IsPlan plan) (requested : slice_get plan.requests c ≡ Some entry) where
  abbrev chan : ℕ
  chan = channel_number entry.request.chan

  abbrev first : ℕ
  first = first_link entry.request.route

  abbrev last : ℕ
  last = last_link entry.request.route

  sound : RequestFits (network_of plan).links entry.request
  sound = request-sound plan c entry is requested

  -- the hop with an index
  hop : (i : ℕ) → i < length entry.request.route → HopAt (network_of plan) entry.request i
  hop i inside = hop-at (network_of plan) entry.request i sound inside

  -- the rows over a hop's link are numbered from 1, and there are as many whatever the offers
  leaving : (i : ℕ) (at : HopAt (network_of plan) entry.request i) (whole run : List Done) → IsRun (network_of plan) run → Leaving at.link.shape chan (link_number at.hop.link) whole run
  leaving i at whole run run_is = hop-leaves plan c entry i at whole run is requested run_is

  -- a row of the channel is of this request
  own-entry : (run : List Done) (row : HopRow) → (one : RowIs plan run (levels_in plan run) row) → channel_number row.chan ≡ chan → one.own.entry ≡ entry
  own-entry run row one same =
      let at : channel_number one.start.packet.chan ≡ c = sym (ap channel_number one.chan) ∙ same ∙ is.planned.requests c entry requested in
      same_Some one.own.entry entry (sym one.own.requested ∙ ap (slice_get plan.requests) at ∙ requested)

  row-stands : (run : List Done) (row : HopRow) → (one : RowIs plan run (levels_in plan run) row) → channel_number row.chan ≡ chan → slice_get entry.request.route one.own.index ≡ Some one.own.at.hop
  row-stands run row one same = ap (λ (e : RequestEntry). slice_get e.request.route one.own.index) (sym (own-entry run row one same)) ∙ one.own.at.stands

  -- over the link of a hop it tells that hop, and of that hop it is over that link
  hop-of : (run : List Done) (row : HopRow) (i : ℕ) (at : HopAt (network_of plan) entry.request i) → RowIs plan run (levels_in plan run) row → channel_number row.chan ≡ chan → link_number row.link ≡ link_number at.hop.link → row.hop ≡ suc i
  hop-of run row i at one same over = one.hop ∙ ap suc (index-apart entry.request.route one.own.index i one.own.at.hop at.hop sound.route (row-stands run row one same) at.stands (one.own.on ∙ over))

  link-of : (run : List Done) (row : HopRow) (i : ℕ) (at : HopAt (network_of plan) entry.request i) → RowIs plan run (levels_in plan run) row → channel_number row.chan ≡ chan → row.hop ≡ suc i → link_number row.link ≡ link_number at.hop.link
  link-of run row i at one same there =
      let h = one.hop in
      let index : one.own.index ≡ i = omega (arith, h, there) in
      sym one.own.on ∙ ap (λ (x : Hop). link_number x.link) (same_Some one.own.at.hop at.hop (sym (row-stands run row one same) ∙ ap (slice_get entry.request.route) index ∙ at.stands))

  is-row : (run : List Done) (row : HopRow) → IsRun (network_of plan) run → Among row (departures_of run) → RowIs plan run (levels_in plan run) row
  is-row run row run_is among = row-is plan run (levels_in plan run) row is run_is (levels-are plan run is run_is) among

  -- so the rows at a hop are those over its link
  rows-over : (run : List Done) (i : ℕ) (at : HopAt (network_of plan) entry.request i) → IsRun (network_of plan) run → rows_at chan (suc i) (departures_of run) ≡ filter (is_over chan (link_number at.hop.link)) (departures_of run)
  rows-over run i at run_is = filter-same (is_at chan (suc i)) (is_over chan (link_number at.hop.link)) (departures_of run) (Each-from_among _ (departures_of run) same-test) where
    same-test : (row : HopRow) → Among row (departures_of run) → is_at chan (suc i) row ≡ is_over chan (link_number at.hop.link) row
    same-test row among =
        elim (cases_Bool (nat_eq (channel_number row.chan) chan)) [
          | inr off ↦ rw off refl
          | inl on ↦
              (let one = is-row run row run_is among in
              let own = eqb-true (channel_number row.chan) chan on in
              let same : nat_eq row.hop (suc i) ≡ nat_eq (link_number row.link) (link_number at.hop.link) = same_from_decides _ _
              (λ e. link-of run row i at one own (eqb-true row.hop (suc i) e), λ e. eq-eqb row.hop (suc i) (hop-of run row i at one own e))
              (λ e. eqb-true (link_number row.link) (link_number at.hop.link) e, λ e. eq-eqb (link_number row.link) (link_number at.hop.link) e) in
              rw (on, same) refl)
        ]

  -- ---- the first hop and the last

  first-hop : HopAt (network_of plan) entry.request 0
  first-hop = hop 0 sound.route.least

  abbrev last-index : ℕ
  last-index = length entry.request.route - 1

  last-inside : last-index < length entry.request.route
  last-inside = (let some = sound.route.least in omega (arith, some))

  last-hop : HopAt (network_of plan) entry.request last-index
  last-hop = hop last-index last-inside

  first-number : first ≡ link_number first-hop.hop.link
  first-number = first-at entry.request.route first-hop.hop first-hop.stands

  last-number : last ≡ link_number last-hop.hop.link
  last-number = ap link_at last-hop.stands

  last-suc : suc last-index ≡ length entry.request.route
  last-suc = (let some = sound.route.least in omega (arith, some))

  -- ---- a packet that leaves the last link has left the first

  left-first : (whole past : List Done) (done : Done) (row : HopRow) → IsRun (network_of plan) (done ∷ past) → rows_by whole done.link done.reply ≡ row ∷ [] → channel_number row.chan ≡ chan → link_number row.link ≡ last
      → row.number - 1 < length (filter (is_over chan first) (departures_in whole (reverse (done ∷ past))))
  left-first whole past done row run_is told own over =
      let row2 = with-hop whole past done done.reply row refl told in
      let own2 : channel_number row2.told.chan ≡ chan = ap channel_number row2.chan ∙ own in
      let one = is-row (done ∷ past) row2.told run_is row2.among in
      let at_last : row2.told.hop ≡ length entry.request.route = hop-of (done ∷ past) row2.told last-index last-hop one own2 (ap link_number row2.link ∙ over ∙ last-number) ∙ last-suc in
      let passes : is_last entry.request row2.told ≡ true = and_from _ _ (eq-eqb (channel_number row2.told.chan) chan own2) (eq-eqb row2.told.hop (length entry.request.route) at_last) in
      let sorted : Among row2.told (reverse (rows_of (reverse (done ∷ past)))) = Among-turned row2.told (rows_of (reverse (done ∷ past))) (among-order row2.told (departures_of (done ∷ past)) row2.among) in
      let pass : AllPass plan (levels_in plan (done ∷ past)) (reverse (rows_of (reverse (done ∷ past)))) = run-is_sound plan (done ∷ past) (levels_in plan (done ∷ past)) is run_is (levels-are plan (done ∷ past) is run_is) in
      let tells = tells-delay plan (levels_in plan (done ∷ past)) entry.request (reverse (rows_of (reverse (done ∷ past)))) row2.told pass sorted passes in
      let head = tells.of.first in
      let there : Among head (departures_of (done ∷ past)) = order-among head (departures_of (done ∷ past)) (Among-reverse head (rows_of (reverse (done ∷ past))) tells.of.first_among) in
      let head_own : channel_number head.chan ≡ chan = sym tells.of.first_chan ∙ ap (λ (r : HopRow). channel_number r.chan) tells.row_is ∙ own2 in
      let head_is = is-row (done ∷ past) head run_is there in
      let head_link = link-of (done ∷ past) head 0 first-hop head_is head_own tells.of.first_hop in
      let passed : Among head (filter (is_over chan (link_number first-hop.hop.link)) (departures_of (done ∷ past))) = Among-passes (is_over chan (link_number first-hop.hop.link)) head (departures_of (done ∷ past))
      (and_from _ _ (eq-eqb (channel_number head.chan) chan head_own) (eq-eqb (link_number head.link) (link_number first-hop.hop.link) head_link)) there in
      let here = leaving 0 first-hop (reverse (done ∷ past)) (done ∷ past) run_is in
      let with_whole = leaving 0 first-hop whole (done ∷ past) run_is in
      let few = counted-le 0 (filter (is_over chan (link_number first-hop.hop.link)) (departures_of (done ∷ past))) head here.counted passed in
      let same : length (filter (is_over chan (link_number first-hop.hop.link)) (departures_of (done ∷ past))) ≡ length (filter (is_over chan (link_number first-hop.hop.link)) (departures_in whole (reverse (done ∷ past)))) = here.count ∙ sym with_whole.count in
      let number : head.number ≡ row.number = sym tells.of.first_number ∙ ap (λ (r : HopRow). r.number) tells.row_is ∙ row2.number in
      let some = head_is.numbered in
      let long : length (filter (is_over chan first) (departures_in whole (reverse (done ∷ past)))) ≡ length (filter (is_over chan (link_number first-hop.hop.link)) (departures_in whole (reverse (done ∷ past)))) =
      ap (λ n. length (filter (is_over chan n) (departures_in whole (reverse (done ∷ past))))) first-number in
      omega (arith, few, same, number, some, long)

  -- ---- the pairs of a run

  abbrev rows-in : List Done → List Done → List HopRow
  rows-in whole run = departures_in whole (reverse run)

  one-filtered : (test : HopRow → Bool) (rows : List HopRow) (row : HopRow) → filter test (rows ++ row ∷ []) ≡ filter test rows ++ filter test (row ∷ [])
  one-filtered test rows row = filter-append test rows (row ∷ [])

  turned-one : (rows : List HopRow) (row : HopRow) → reverse (rows ++ row ∷ []) ≡ row ∷ reverse rows
  turned-one rows row = reverse-append rows (row ∷ [])

  read-inside : (xs : List ℕ) (i : ℕ) → i < length xs → (x : ℕ) × (slice_get xs i ≡ Some x)
  read-inside xs i inside = (get_or xs i 0, slice_get_read xs (length xs) i (get_or xs i 0) refl inside (get_or_default xs i 0 (get_or xs i 0) inside))

  -- the row of a step that tells one
  pairs-one : (whole past : List Done) (done : Done) (row : HopRow) (all rest : List ℕ) → IsRun (network_of plan) (done ∷ past) → rows_by whole done.link done.reply ≡ row ∷ []
      → all ≡ arrivals_of chan entry.request (row ∷ reverse (rows-in whole past)) ++ rest
      → paired_of chan entry.request (reverse (rows-in whole past)) ≡ told_by (last_prop entry.request.route) all (reverse (filter (is_over chan last) (rows-in whole past)))
      → paired_of chan entry.request (row ∷ reverse (rows-in whole past)) ≡ told_by (last_prop entry.request.route) all (reverse (filter (is_over chan last) (rows-in whole past) ++ filter (is_over chan last) (row ∷ [])))
  unfolding paired_of told_by
  pairs-one whole past done row all rest run_is told is_all was =
      elim (cases_Bool (is_over chan last row)) [
        | inr off ↦ rw off (was ∙ ap (λ rs. told_by (last_prop entry.request.route) all (reverse rs)) (sym (append-nil (filter (is_over chan last) (rows-in whole past)))))
        | inl on ↦
            (let parts = and_parts (nat_eq (channel_number row.chan) chan) (nat_eq (link_number row.link) last) on in
            let rows : rows-in whole (done ∷ past) ≡ rows-in whole past ++ row ∷ [] = departures-more whole past done ∙ ap (λ rs. rows-in whole past ++ rs) told in
            let back : reverse (rows-in whole (done ∷ past)) ≡ row ∷ reverse (rows-in whole past) = ap reverse rows ∙ turned-one (rows-in whole past) row in
            let are : arrivals_of chan entry.request (row ∷ reverse (rows-in whole past)) ≡ map at_of (filter (is_over chan first) (rows-in whole (done ∷ past))) = ap (arrivals_of chan entry.request) (sym back) ∙ arrivals-in chan entry.request (rows-in whole (done ∷ past)) in
            let early = left-first whole past done row run_is told (eqb-true (channel_number row.chan) chan parts.0) (eqb-true (link_number row.link) last parts.1) in
            let long : length (arrivals_of chan entry.request (row ∷ reverse (rows-in whole past))) ≡ length (filter (is_over chan first) (rows-in whole (done ∷ past))) = ap length are ∙ length-map (filter (is_over chan first) (rows-in whole (done ∷ past))) at_of in
            let read = read-inside (arrivals_of chan entry.request (row ∷ reverse (rows-in whole past))) (row.number - 1) (omega (arith, early, long)) in
            let same : get_or all (row.number - 1) 0 ≡ read.0 = ap (λ xs. get_or xs (row.number - 1) 0) is_all ∙ get-front (arrivals_of chan entry.request (row ∷ reverse (rows-in whole past))) rest (row.number - 1) read.0 read.1 in
            let kept : filter (is_over chan last) (row ∷ []) ≡ row ∷ [] = rw on refl in
            let end : reverse (filter (is_over chan last) (rows-in whole past) ++ filter (is_over chan last) (row ∷ [])) ≡ row ∷ reverse (filter (is_over chan last) (rows-in whole past)) = ap (λ rs. reverse (filter (is_over chan last) (rows-in whole past) ++ rs)) kept ∙ turned-one (filter (is_over chan last) (rows-in whole past)) row in
            ap (λ b. delay_if b (last_prop entry.request.route) row.departed (slice_get (arrivals_of chan entry.request (row ∷ reverse (rows-in whole past))) (row.number - 1)) ++ paired_of chan entry.request (reverse (rows-in whole past))) on
            ∙ ap (λ a. delay_if true (last_prop entry.request.route) row.departed a ++ paired_of chan entry.request (reverse (rows-in whole past))) read.1
            ∙ ap (λ t. (row.departed + last_prop entry.request.route - t) ∷ paired_of chan entry.request (reverse (rows-in whole past))) (sym same)
            ∙ ap (λ ds. (row.departed + last_prop entry.request.route - get_or all (row.number - 1) 0) ∷ ds) was
            ∙ ap (told_by (last_prop entry.request.route) all) (sym end))
      ]

  pairs : (whole run : List Done) (all rest : List ℕ) → IsRun (network_of plan) run → all ≡ arrivals_of chan entry.request (reverse (rows-in whole run)) ++ rest
      → paired_of chan entry.request (reverse (rows-in whole run)) ≡ told_by (last_prop entry.request.route) all (reverse (filter (is_over chan last) (rows-in whole run)))
  unfolding IsRun departures_in paired_of told_by
  pairs whole [] all rest run_is is_all = refl
  pairs whole (done ∷ past) all rest run_is is_all = by-rows (rows_by whole done.link done.reply) refl (λ more is_more. pairs whole past all more run_is.0 is_more) where
    told-more : rows-in whole (done ∷ past) ≡ rows-in whole past ++ rows_by whole done.link done.reply
    told-more = departures-more whole past done

    by-rows : (told : List HopRow) → rows_by whole done.link done.reply ≡ told
        → ((more : List ℕ) → all ≡ arrivals_of chan entry.request (reverse (rows-in whole past)) ++ more → paired_of chan entry.request (reverse (rows-in whole past)) ≡ told_by (last_prop entry.request.route) all (reverse (filter (is_over chan last) (rows-in whole past))))
        → paired_of chan entry.request (reverse (rows-in whole (done ∷ past))) ≡ told_by (last_prop entry.request.route) all (reverse (filter (is_over chan last) (rows-in whole (done ∷ past))))
    by-rows [] none was =
        let same : rows-in whole (done ∷ past) ≡ rows-in whole past = told-more ∙ ap (λ rs. rows-in whole past ++ rs) none ∙ append-nil (rows-in whole past) in
        ap (λ rs. paired_of chan entry.request (reverse rs)) same
        ∙ was rest (is_all ∙ ap (λ rs. arrivals_of chan entry.request (reverse rs) ++ rest) same)
        ∙ ap (λ rs. told_by (last_prop entry.request.route) all (reverse (filter (is_over chan last) rs))) (sym same)
    by-rows (row ∷ []) one was =
        let same : rows-in whole (done ∷ past) ≡ rows-in whole past ++ row ∷ [] = told-more ∙ ap (λ rs. rows-in whole past ++ rs) one in
        let back : reverse (rows-in whole (done ∷ past)) ≡ row ∷ reverse (rows-in whole past) = ap reverse same ∙ turned-one (rows-in whole past) row in
        let front : all ≡ arrivals_of chan entry.request (row ∷ reverse (rows-in whole past)) ++ rest = is_all ∙ ap (λ rs. arrivals_of chan entry.request rs ++ rest) back in
        let before = was (arrival_if (is_over chan first row) row.at ++ rest) (front ∙ one-more chan entry.request (reverse (rows-in whole past)) row rest) in
        ap (paired_of chan entry.request) back
        ∙ pairs-one whole past done row all rest run_is one front before
        ∙ ap (λ rs. told_by (last_prop entry.request.route) all (reverse rs)) (sym (ap (filter (is_over chan last)) same ∙ one-filtered (is_over chan last) (rows-in whole past) row))
    by-rows (row ∷ other ∷ more_rows) many was = absurd (two-told whole done done.reply row other more_rows many)

  -- ---- the law

  found-first : (run : List Done) → IsRun (network_of plan) run → (row : HopRow) → Among row (reverse (rows_of (reverse run))) → channel_number row.chan ≡ chan → row.hop ≡ 1
      → get_or (arrivals_of chan entry.request (reverse (departures_of run))) (row.number - 1) 0 ≡ row.at
  found-first run run_is row among own begins =
      let there = order-among row (departures_of run) (Among-reverse row (rows_of (reverse run)) among) in
      let one = is-row run row run_is there in
      let link = link-of run row 0 first-hop one own begins in
      let passed = Among-passes (is_over chan (link_number first-hop.hop.link)) row (departures_of run) (and_from _ _ (eq-eqb (channel_number row.chan) chan own) (eq-eqb (link_number row.link) (link_number first-hop.hop.link) link)) there in
      let here = leaving 0 first-hop (reverse run) run run_is in
      let some = one.numbered in
      ap (λ xs. get_or xs (row.number - 1) 0) (arrivals-in chan entry.request (departures_of run) ∙ ap (λ n. map at_of (filter (is_over chan n) (departures_of run))) first-number)
      ∙ counted-at 0 (row.number - 1) (filter (is_over chan (link_number first-hop.hop.link)) (departures_of run)) row here.counted passed (omega (arith, some))

  -- the rows of the last hop stay in their order
  last-rows : (run : List Done) → IsRun (network_of plan) run → filter (is_last entry.request) (reverse (rows_of (reverse run))) ≡ reverse (filter (is_over chan last) (departures_of run))
  last-rows run run_is =
      let counts : (k h : ℕ) → AreCounted 0 (rows_at k h (departures_of run)) = counted plan run (levels_in plan run) is run_is (levels-are plan run is run_is) in
      filter-reverse (is_last entry.request) (rows_of (reverse run))
      ∙ ap (λ h. reverse (rows_at chan h (rows_of (reverse run)))) (sym last-suc)
      ∙ ap reverse (rows-stay (departures_of run) (λ k h. counted-rise 0 (rows_at k h (departures_of run)) (counts k h)) chan (suc last-index))
      ∙ ap reverse (rows-over run last-index last-hop run_is)
      ∙ ap (λ n. reverse (filter (is_over chan n) (departures_of run))) (sym last-number)

  pairs-told : (run : List Done) → IsRun (network_of plan) run → paired_of chan entry.request (reverse (departures_of run)) ≡ row_delays_of entry.request (reverse (rows_of (reverse run)))
  pairs-told run run_is =
      pairs (reverse run) run (arrivals_of chan entry.request (reverse (departures_of run))) [] run_is (sym (append-nil (arrivals_of chan entry.request (reverse (departures_of run)))))
      ∙ ap (told_by (last_prop entry.request.route) (arrivals_of chan entry.request (reverse (departures_of run)))) (sym (last-rows run run_is))
      ∙ sym (sorted-told plan (levels_in plan run) entry.request (arrivals_of chan entry.request (reverse (departures_of run))) (reverse (rows_of (reverse run)))
      (run-is_sound plan run (levels_in plan run) is run_is (levels-are plan run is run_is)) (found-first run run_is))

pub delays-of-rows : ReportsTellTheDelaysOfRows
delays-of-rows plan run c entry is run_is requested = sym (paired-are plan c entry is requested run run_is) ∙ pairs-told plan c entry is requested run run_is
