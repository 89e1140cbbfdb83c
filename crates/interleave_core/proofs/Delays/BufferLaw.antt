-- Past the first hop a packet finds a slot: the packets of its channel that are here, and it, were eligible at the hop
-- before within as many ticks as the bounds of both hops' levels together.
use Rattle.std.proofs.Common.{◌≡◌, ℕ, suc, ◌+◌, ◌-◌, ◌<◌, ◌≤◌, Bool, true, false, List, [], ◌∷◌, length, get_or, Some, refl, sym, ap, ◌∙◌, subst, inl, inr, arith}
use Rattle.run_engine.proofs.Words.{cases_lt, and_from, le-leb, lt-ltb, length-reverse, length-map, slice_get, filter, find, nat_le, nat_lt, bound_at, link_number, channel_number, level_number, most_in, Keeps, Arrive, Packet, Phase, Tentative, Committed, Closing, LinkShape, stay_of, slots_of, held_packets, HasLeftInTime, deadline_of, Each, Among, Row, clock_of, scan_of, is_row_of, starts_of, Arrival, Start, here_at, is_here, starts_below, RequestFits, Request, Done, is_of_channel, channel_packets, tick_of_packet, channel_of, NetworkFits, Network, part_of, IsNext, IsRun, packets_on, ChannelAsked}
use Rattle.traffic_contract.specs.Window.{is_in_window, count_in}
use Rattle.traffic_contract.proofs.LongerWindows.{most_in-mono}
use Rattle.traffic_contract.proofs.WindowsAreBounded.{count_in-le}
use Rattle.link_steps.proofs.FoundElements.{Each-passes}
use Rattle.link_steps.proofs.HopHolds.{guaranteed}
use Rattle.link_steps.proofs.SearchAndFilter.{Each-among, Each-filter}
use Rattle.link_steps.proofs.ListParts.{Each-at}
use Rattle.channel_laws.proofs.ChannelRows.{row-of, find-passes}
use Rattle.channel_laws.proofs.DepartedCount.{channel-few}
use Rattle.channel_laws.proofs.NumberedPackets.{HasNumber, packets-have_numbers}
use Rattle.interleave_core.proofs.Delays.HopLaw.{TwoHops, near_ticks, arrive-comes, from-near, hop-law, far-row-at}
use Rattle.channel_laws.proofs.Places.{tick-at, place-of, row-keeps}
use Rattle.link_steps.proofs.PacketRows.{Among-passes}
use Rattle.run_engine.proofs.Channels.ChannelsAt.{packet-offered}
use Rattle.channel_laws.proofs.LeadChannels.{held-channel}
use Rattle.run_engine.proofs.Runs.RunLegal.{part-admissible}

-- ---- counting along two lists

abbrev Covers : (Arrival → Bool) → (ℕ → Bool) → List Arrival → List ℕ → Type 0
Covers test win [] [] = ⊥
Covers test win [] (d ∷ ds) = win d ≡ true
Covers test win (q ∷ qs) [] = ⊥
Covers test win (q ∷ qs) (d ∷ ds) = (test q ≡ true → win d ≡ true) × Covers test win qs ds

covered-count : (test : Arrival → Bool) (win : ℕ → Bool) (qs : List Arrival) (ds : List ℕ) → Covers test win qs ds → length (filter test qs) < length (filter win ds)
covered-count test win [] [] covers = absurd covers
covered-count test win [] (d ∷ ds) covers = rw covers (omega arith)
covered-count test win (q ∷ qs) [] covers = absurd covers
covered-count test win (q ∷ qs) (d ∷ ds) covers = go (test q) (win d) refl refl (covered-count test win qs ds covers.1) where
  go : (tq wd : Bool) → test q ≡ tq → win d ≡ wd → length (filter test qs) < length (filter win ds) → length (filter test (q ∷ qs)) < length (filter win (d ∷ ds))
  go true true et ew less = rw (et, ew) (omega (arith, less))
  go true false et ew less = absurd (let clash : false ≡ true = sym ew ∙ covers.0 et in cc)
  go false true et ew less = rw (et, ew) (omega (arith, less))
  go false false et ew less = rw (et, ew) less

covers-from : (test : Arrival → Bool) (win : ℕ → Bool) (qs : List Arrival) (ds : List ℕ) → length qs < length ds → ((k : ℕ) (q : Arrival) → slice_get qs k ≡ Some q → test q ≡ true → win (get_or ds k 0) ≡ true) → win (get_or ds (length qs) 0) ≡ true → Covers test win qs ds
covers-from test win [] [] less each last = absurd (omega arith)
covers-from test win [] (d ∷ ds) less each last = last
covers-from test win (q ∷ qs) [] less each last = absurd (omega arith)
covers-from test win (q ∷ qs) (d ∷ ds) less each last = (each 0 q refl, covers-from test win qs ds (omega arith) (λ k x found. each (suc k) x found) last)

-- ---- the window

-- a packet that hasn't left is before its deadline
still-here : (shape : LinkShape) (clock : ℕ) (starts : List Start) (q : Arrival) → q.level ≤ length shape.bounds → HasLeftInTime shape clock starts q → is_here shape.rate starts clock q ≡ true → clock < deadline_of shape q
still-here shape clock starts q few left here =
    elim (cases_lt clock (deadline_of shape q)) [
      | inl before ↦ before
      | inr reached ↦ absurd (let gone = left.gone few reached in let clash : false ≡ true = rw gone at here in cc)
    ]

in-window : (t prop near far d : ℕ) → t < d + near + prop + far → d + prop < t → is_in_window (t - prop - (near + far)) (near + far) d ≡ true
in-window t prop near far d late early = and_from (nat_le (t - prop - (near + far)) d) (nat_lt d (t - prop - (near + far) + (near + far))) (le-leb (t - prop - (near + far)) d (omega arith)) (lt-ltb d (t - prop - (near + far) + (near + far)) (omega arith))

module _ (network : Network) (request : Request) (i : ℕ) (two : TwoHops network request i) (past : List Done) (done : Done) (packet : Packet) (row : Row) (level : ℕ) where
  -- the channel's packets at both hops, and all at the far one; its clock; and the bounds of the two
  abbrev near_own : List Arrival
  near_own = channel_packets (channel_number request.chan) (packets_on two.near (link_number two.hop.link) past)

  abbrev far_packets : List Arrival
  far_packets = packets_on two.far (link_number two.after.link) past

  abbrev far_own : List Arrival
  far_own = channel_packets (channel_number request.chan) far_packets

  abbrev clock : ℕ
  clock = clock_of (part_of (link_number two.after.link) past)

  abbrev near_bound : ℕ
  near_bound = bound_at two.near.shape.bounds level

  abbrev far_bound : ℕ
  far_bound = bound_at two.far.shape.bounds (level_number row.terms.level)

  module _ (fits : NetworkFits network) (sound : RequestFits network.links request) (asked : (run : List Done) → IsRun network run → ChannelAsked request run) (run : IsRun network past) (next : IsNext network past done) (is : done.ask ≡ Arrive packet) (at : link_number done.link ≡ link_number two.after.link) (levels : Each (λ p. p.level ≡ level) near_own) (found : find (is_row_of packet.chan) (scan_of two.far.shape (part_of (link_number two.after.link) past)).rows ≡ Some row) (chan : channel_number packet.chan ≡ channel_number request.chan) (numbered : packet.number ≡ suc (length row.ticks)) (some : 1 ≤ far_bound) where
    -- the packets of the channel that are here, and one that arrives, are no more than the contract lets into the window
    pub fits-window : length (filter (is_here two.far.shape.rate (starts_below two.far.shape.rate far_packets clock) clock) far_own) < most_in request.contract (near_bound + far_bound)
    unfolding count_in
    fits-window =
        let comes = arrive-comes network past done packet fits run next is in
        let near = from-near network request i two past done packet fits sound run (asked past run) comes chan at in
        let tells = far-row-at network request i two past packet row fits sound run (asked past run) found chan in
        let own : Among near.taken near_own = Among-passes (is_of_channel (channel_number request.chan)) near.taken (packets_on two.near (link_number two.hop.link) past) near.own near.among in
        let row-at = packet-offered network request past (link_number two.hop.link) two.near near.taken fits run (asked past run) sound two.linked near.own near.among in
        let near-tells = row-at.row.tells in
        let place = place-of 0 _ near.taken near-tells.numbered own in
        let timed = hop-law network request i two fits sound asked past run level levels in
        let count : length far_own ≡ length row.ticks = sym (length-map far_own tick_of_packet) ∙ ap length (sym tells.eligible) ∙ length-reverse row.ticks in
        let index : place.index ≡ length far_own = (let a = place.number in let b = near.number in omega (arith, a, b, numbered, count)) in
        let tick : get_or (near_ticks network request i two past) (length far_own) 0 ≡ near.taken.eligible = ap (λ k. get_or (near_ticks network request i two past) k 0) (sym index) ∙ place.tick in
        let same : near.taken.level ≡ level = Each-among (λ p. p.level ≡ level) near.taken _ levels own in
        let shift : bound_at two.near.shape.bounds near.taken.level ≡ near_bound = ap (bound_at two.near.shape.bounds) same in
        let due = near.due in
        let now = comes.now in
        let in_time = comes.from.in_time in
        let passed = near.passed in
        let due-same : comes.flight.packet.due ≡ packet.due = ap (λ p. p.due) comes.same in
        let clock-same : clock_of (part_of (link_number done.link) past) ≡ clock = ap (λ m. clock_of (part_of m past)) at in
        let shorter : length far_own < length (near_ticks network request i two past) = (let w = place.within in let l = length-map near_own tick_of_packet in omega (arith, w, index, l)) in
        let legal = part-admissible network past (link_number two.after.link) two.far fits run two.far_linked in
        let left = Each-filter (HasLeftInTime two.far.shape clock (starts_of two.far.shape (part_of (link_number two.after.link) past))) (is_of_channel (channel_number request.chan)) _ (guaranteed two.far.shape (part_of (link_number two.after.link) past) legal).in_time in
        let numbers = Each-filter (HasNumber two.far.shape.bounds) (is_of_channel (channel_number request.chan)) _ (packets-have_numbers two.far.shape (part_of (link_number two.after.link) past) legal) in
        let mine = Each-passes (is_of_channel (channel_number request.chan)) far_packets in
        let covers = covers-from
        (is_here two.far.shape.rate (starts_below two.far.shape.rate far_packets clock) clock)
        (is_in_window (clock - two.near.shape.prop - (near_bound + far_bound)) (near_bound + far_bound))
        far_own (near_ticks network request i two past) shorter
        (λ k q at-k here.
        let t-at = tick-at far_own k q at-k in
        let few = channel-few two.far.shape (channel_number request.chan) q (Each-at (HasNumber two.far.shape.bounds) _ k q numbers at-k) (Each-at (λ p. is_of_channel (channel_number request.chan) p ≡ true) _ k q mine at-k) in
        let before = still-here two.far.shape clock _ q few (Each-at (HasLeftInTime two.far.shape clock (starts_of two.far.shape (part_of (link_number two.after.link) past))) _ k q left at-k) here in
        let own-level : bound_at two.far.shape.bounds q.level ≡ far_bound = ap (bound_at two.far.shape.bounds) (Each-at (λ p. p.level ≡ level_number row.terms.level) _ k q tells.levels at-k) in
        let after = timed.after.after k t-at.0 in
        let gone = timed.passed k t-at.0 in
        let e = t-at.1 in
        in-window clock two.near.shape.prop near_bound far_bound (get_or (near_ticks network request i two past) k 0) (omega (arith, before, own-level, after, e)) gone)
        (in-window clock two.near.shape.prop near_bound far_bound (get_or (near_ticks network request i two past) (length far_own) 0)
        (omega (arith, tick, due, shift, now, in_time, due-same, clock-same, some)) (omega (arith, tick, passed, now, clock-same))) in
        let counted = covered-count _ _ _ _ covers in
        let keeps : Keeps request.contract (near_ticks network request i two past) = row-keeps _ _ row-at.row.row _ near-tells in
        let most = count_in-le request.contract (near_ticks network request i two past) (clock - two.near.shape.prop - (near_bound + far_bound)) (near_bound + far_bound) sound.contract keeps in
        omega (arith, counted, most)

    -- so its slot is free, where the row reckons with the bound of the hop before
    pub slot-free : (row.terms.phase ≡ Tentative → ⊥) → near_bound ≤ row.terms.up_bound → held_packets row.lead (here_at two.far.shape.rate far_packets clock) < slots_of two.far.shape.bounds row.terms
    unfolding slots_of
    slot-free settled reckons =
        let few = fits-window in
        let held = held-channel two.far.shape (part_of (link_number two.after.link) past) clock (is_row_of packet.chan) row (part-admissible network past (link_number two.after.link) two.far fits run two.far_linked) found in
        let own : channel_of row ≡ channel_number request.chan = row-of packet.chan row (find-passes (is_row_of packet.chan) row _ found) ∙ chan in
        let held' = subst (λ c. held_packets row.lead (here_at two.far.shape.rate far_packets clock) ≤ length (filter (is_here two.far.shape.rate (starts_below two.far.shape.rate far_packets clock) clock) (channel_packets c far_packets))) own held in
        let tells = far-row-at network request i two past packet row fits sound run (asked past run) found chan in
        let contract : row.terms.contract ≡ request.contract = tells.contract_is in
        let stay : stay_of two.far.shape.bounds row.terms ≡ row.terms.up_bound + far_bound = by-phase row.terms.phase refl settled in
        let more = most_in-mono request.contract (near_bound + far_bound) (row.terms.up_bound + far_bound) sound.contract (omega (arith, reckons)) in
        let slots : most_in row.terms.contract (stay_of two.far.shape.bounds row.terms) ≡ most_in request.contract (row.terms.up_bound + far_bound) = ap (λ k. most_in k (stay_of two.far.shape.bounds row.terms)) contract ∙ ap (most_in request.contract) stay in
        omega (arith, few, held', more, slots) where
          by-phase : (phase : Phase) → row.terms.phase ≡ phase → (row.terms.phase ≡ Tentative → ⊥) → stay_of two.far.shape.bounds row.terms ≡ row.terms.up_bound + far_bound
          by-phase Tentative is' off = absurd (off is')
          by-phase Committed is' off = rw is' refl
          by-phase Closing is' off = rw is' refl
