-- From one hop to the next: in every run each packet of a channel is eligible at a hop at the latest when it is due there,
-- by its eligible tick, its level's bound and the propagation at the hop before.
use Rattle.std.proofs.Common.{◌≡◌, ◌≢◌, ℕ, zero, suc, ◌+◌, ◌<◌, ◌≤◌, Bool, true, false, cond, List, [], ◌∷◌, ◌++◌, length, map, get_or, Option, Some, None, refl, sym, ap, ◌∙◌, subst, inl, inr, arith}
use Rattle.run_engine.proofs.Words.{cases_Bool, cases_lt, eqb-true, eqb-false, eq-eqb, ne_eqb, le-ltb, lt-ltb, and_from, length-reverse, map-append, length-map, same_Some, slice_get_within, slice_get, option_map, nat_eq, nat_lt, find, reverse, bound_at, link_number, channel_number, Jitter, LinkNo, Traffic, IsContract, IsEligible, eligible, Keeps, keeps_newest_first, link_of, Hop, Ask, Arrive, Tick, Packet, Reply, Link, Each, Among, waits_until, eligible_next, arrive_to, reply_at, reply_to, Row, Scan, clock_of, scan_of, is_row_of, arrived_packet, with_arrival, after_tick, after, Arrival, RequestFits, hop_link, Request, Done, is_of_channel, channel_packets, tick_of_packet, ticks_at, channel_of, offers_to, RowTells, IsElsewhere, IsOnly, HasOneRow, NetworkFits, Network, Flight, is_due, next_due, ask_due, part_of, plane_at, IsNext, IsRun, Rate, packets_on, terms_at, ChannelAsked, ComesFrom}
use Rattle.std.proofs.lemmas.List.Elements.{filter-append}
use Rattle.net_units.specs.declared.Kind.{Kind}
use Rattle.traffic_contract.proofs.BurstIsPositive.{burst-least}
use Rattle.traffic_contract.proofs.LeastEligibleTick.{eligible-is}
use Rattle.traffic_contract.proofs.NewestFirst.{Decides-keeps_newest_first}
use Rattle.link_steps.specs.declared.replies.Reply.TheVariants as Is
use Rattle.link_steps.proofs.LegalChannels.{legal-channels}
use Rattle.link_steps.proofs.SearchAndFilter.{Each-among, Each-find}
use Rattle.setup_protocol.specs.Requests.{kind_of}
use Rattle.channel_laws.proofs.ChannelRows.{packets-on, packets-off, row-of, find-passes, arrive-number, tick-none, tick-free, legal-free}
use Rattle.run_engine.proofs.Channels.ChannelsAt.{stands-at, packet-offered}
use Rattle.hop_reservation.proofs.DistinctLinks.{index-apart}
use Rattle.channel_laws.proofs.Places.{place-of, row-keeps}
use Rattle.link_steps.proofs.PacketRows.{Among-passes}
use Rattle.run_engine.proofs.Flights.FlightOrigins.{part-grows, run-flights}
use Rattle.run_engine.proofs.Delays.HopStep.{IsTimed, eligible-after, timed-none, timed-later, timed-append, timed-more}
use Rattle.run_engine.proofs.Runs.RunLegal.{RunStands, clock_at, run-stands, part-admissible, by-part, arrive-due}
use Rattle.run_engine.specs.channels.Flights.{FlightsStand}
use Rattle.link_steps.proofs.ListParts.{Each-parts}
use Rattle.link_steps.proofs.ClockAdvances.{clock_with-later}
use Rattle.link_steps.proofs.EntryEffects.{packets-by}

-- ---- lists

-- ---- a packet that arrives

pub record ArriveComes (network : Network) (past : List Done) (done : Done) (packet : Packet) : Type 0 where
  pub flight : Flight
  pub to : flight.to ≡ done.link
  pub same : flight.packet ≡ packet
  pub due : next_due (plane_at network past) ≡ Some flight
  pub from : ComesFrom network past flight
  pub now : flight.round ≡ clock_of (part_of (link_number done.link) past)

pub same-packet : (a b : Packet) → Arrive a ≡ Arrive b → a ≡ b
same-packet a b same = cc

pub flight-passes : (test : Flight → Bool) (flight : Flight) (flights : List Flight) → find test flights ≡ Some flight → test flight ≡ true
flight-passes test flight [] found = cc
flight-passes test flight (f ∷ flights) found =
    elim (cases_Bool (test f)) [
      | inl passed ↦ subst (λ y. test y ≡ true) (same_Some f flight (rw passed at found)) passed
      | inr failed ↦ flight-passes test flight flights (rw failed at found)
    ]

due-comes : (network : Network) (past : List Done) (done : Done) (packet : Packet) (found : Option Flight) → RunStands network past → FlightsStand network past → link_number done.link < length network.links → next_due (plane_at network past) ≡ found → ask_due (plane_at network past).ticked found ≡ (done.link, done.ask) → done.ask ≡ Arrive packet → ArriveComes network past done packet
due-comes network past done packet None stands flights inside due asks is = absurd (let clash : Tick ≡ Arrive packet = ap (λ pair. pair.1) asks ∙ is in cc)
due-comes network past done packet (Some flight) stands flights inside due asks is =
    let arrives : Arrive flight.packet ≡ Arrive packet = ap (λ pair. pair.1) asks ∙ is in
    let passes : is_due (plane_at network past).round flight ≡ true = flight-passes (is_due (plane_at network past).round) flight (plane_at network past).flights due in
    let round : flight.round ≡ (plane_at network past).round = eqb-true flight.round (plane_at network past).round passes in
    let first : (plane_at network past).ticked ≡ 0 = none-ticked (plane_at network past).ticked (λ some. (let clash : Some flight ≡ None = sym due ∙ flights.none some in cc)) in
    let clock = stands.clocks (link_number done.link) inside in
    let same : clock_at (plane_at network past) (link_number done.link) ≡ (plane_at network past).round = ap (λ b. (plane_at network past).round + cond b 1 0) (le-ltb (link_number done.link) (plane_at network past).ticked (omega (arith, first))) ∙ omega arith in
    record {
      flight = flight;
      to = ap (λ pair. pair.0) asks;
      same = same-packet flight.packet packet arrives;
      due = due;
      from = Each-find (ComesFrom network past) (is_due (plane_at network past).round) (plane_at network past).flights flight flights.from due;
      now = omega (arith, round, clock, same);
    } where
      none-ticked : (n : ℕ) → (1 ≤ n → ⊥) → n ≡ 0
      none-ticked zero none = refl
      none-ticked (suc n) none = absurd (none (omega arith))

pub arrive-comes : (network : Network) (past : List Done) (done : Done) (packet : Packet) → NetworkFits network → IsRun network past → (next : IsNext network past done) → done.ask ≡ Arrive packet → ArriveComes network past done packet
arrive-comes network past done packet fits run next is =
    let asks = arrive-due network past done fits run next packet is in
    due-comes network past done packet (next_due (plane_at network past)) (run-stands network past fits run) (run-flights network past fits run) (slice_get_within network.links (link_number done.link) next.link next.linked) refl asks.asks is

-- ---- two hops

pub record TwoHops (network : Network) (request : Request) (i : ℕ) : Type 0 where
  pub hop : Hop
  pub after : Hop
  pub stands : slice_get request.route i ≡ Some hop
  pub follows : slice_get request.route (suc i) ≡ Some after
  pub near : Link
  pub far : Link
  pub linked : slice_get network.links (link_number hop.link) ≡ Some near
  pub far_linked : slice_get network.links (link_number after.link) ≡ Some far

-- the ticks of the channel at both
abbrev pub near_ticks : (network : Network) (request : Request) (i : ℕ) → TwoHops network request i → List Done → List ℕ
near_ticks network request i two run = ticks_at (channel_number request.chan) (packets_on two.near (link_number two.hop.link) run)

abbrev pub far_ticks : (network : Network) (request : Request) (i : ℕ) → TwoHops network request i → List Done → List ℕ
far_ticks network request i two run = ticks_at (channel_number request.chan) (packets_on two.far (link_number two.after.link) run)

waits-most : (kind : Kind) (first : Bool) (t due : ℕ) → t ≤ due → waits_until kind first t due ≤ due
waits-most Jitter false t due early = omega (arith, early)
waits-most Rate true t due early = early
waits-most _ _ t due early = early

waits-exact : (kind : Kind) (first : Bool) (t due : ℕ) → kind ≡ Jitter → first ≡ false → due ≤ waits_until kind first t due
waits-exact Jitter false t due is later = omega arith
waits-exact _ _ t due is later = cc

-- the link after a hop that names the next one
pub next-link : (found : Option Hop) (to : LinkNo) → option_map hop_link found ≡ Some to → (hop : Hop) × (found ≡ Some hop) × (hop.link ≡ to)
next-link None to is = cc
next-link (Some hop) to is = (hop, refl, same_Some hop.link to is)

-- where the packet comes from is the hop before
pub record FromNear (network : Network) (request : Request) (i : ℕ) (two : TwoHops network request i) (past : List Done) (packet : Packet) (round : ℕ) : Type 0 where
  pub taken : Arrival
  pub among : Among taken (packets_on two.near (link_number two.hop.link) past)
  pub chan : channel_number taken.chan ≡ channel_number request.chan
  pub own : is_of_channel (channel_number request.chan) taken ≡ true
  pub number : packet.number ≡ taken.number
  pub size : packet.size ≡ taken.size
  pub due : packet.due ≡ taken.eligible + bound_at two.near.shape.bounds taken.level + two.near.shape.prop
  pub passed : taken.eligible + two.near.shape.prop < round

pub from-near : (network : Network) (request : Request) (i : ℕ) (two : TwoHops network request i) (past : List Done) (done : Done) (packet : Packet) → NetworkFits network → RequestFits network.links request → IsRun network past → ChannelAsked request past → (comes : ArriveComes network past done packet) → (chan : channel_number packet.chan ≡ channel_number request.chan) → link_number done.link ≡ link_number two.after.link
    → FromNear network request i two past packet comes.flight.round
from-near network request i two past done packet fits sound run asked comes chan at =
    let from = comes.from in
    let own : channel_number from.taken.chan ≡ channel_number request.chan = ap channel_number (sym from.chan) ∙ ap (λ p. channel_number p.chan) comes.same ∙ chan in
    let mine : is_of_channel (channel_number request.chan) from.taken ≡ true = and_from (nat_eq (channel_number from.taken.chan) (channel_number request.chan)) (nat_lt 0 from.taken.number) (eq-eqb (channel_number from.taken.chan) (channel_number request.chan) own) (lt-ltb 0 from.taken.number from.numbered) in
    let row = packet-offered network request past from.n from.link from.taken fits run asked sound from.linked mine from.among in
    let packets : Among from.taken (channel_packets (channel_number request.chan) (packets_on from.link from.n past)) = Among-passes (is_of_channel (channel_number request.chan)) from.taken (packets_on from.link from.n past) mine from.among in
    let next : from.taken.next ≡ option_map hop_link (slice_get request.route (suc row.route.index)) = Each-among (λ p. p.next ≡ (terms_at request row.route.index).next) from.taken _ row.row.tells.nexts packets in
    let rest = next-link (slice_get request.route (suc row.route.index)) comes.flight.to (sym next ∙ from.next) in
    let number : link_of rest.0 ≡ link_of two.after = ap link_number (rest.2 ∙ comes.to) ∙ at in
    let index : suc row.route.index ≡ suc i = index-apart request.route (suc row.route.index) (suc i) rest.0 two.after sound.route rest.1 two.follows number in
    let same : row.route.index ≡ i = omega (arith, index) in
    let hop : row.route.hop ≡ two.hop = same_Some row.route.hop two.hop (sym row.route.stands ∙ ap (slice_get request.route) same ∙ two.stands) in
    let n : from.n ≡ link_number two.hop.link = sym row.route.number ∙ ap link_of hop in
    let link : from.link ≡ two.near = same_Some from.link two.near (sym from.linked ∙ ap (slice_get network.links) n ∙ two.linked) in
    record {
      taken = from.taken;
      among = subst (λ l. Among from.taken (packets_on l (link_number two.hop.link) past)) link (subst (λ m. Among from.taken (packets_on from.link m past)) n from.among);
      chan = own;
      own = mine;
      number = ap (λ p. p.number) (sym comes.same) ∙ from.number;
      size = ap (λ p. p.size) (sym comes.same) ∙ from.size;
      due = ap (λ p. p.due) (sym comes.same) ∙ from.due ∙ ap (λ l. from.taken.eligible + bound_at l.shape.bounds from.taken.level + l.shape.prop) link;
      passed = subst (λ l. from.taken.eligible + l.shape.prop < comes.flight.round) link from.passed;
    }

-- ---- one packet more at the far hop

pub eligible-same : (c : Traffic) (a b : List ℕ) (low e : ℕ) → a ≡ b → IsEligible c a low e → IsEligible c b low e
eligible-same c a b low e same is = subst (λ ticks. IsEligible c ticks low e) same is

module _ (network : Network) (request : Request) (i : ℕ) (two : TwoHops network request i) (past : List Done) where
  -- the row that is found at the far hop
  pub far-row-at : (packet : Packet) (row : Row) → NetworkFits network → RequestFits network.links request → IsRun network past → ChannelAsked request past → find (is_row_of packet.chan) (scan_of two.far.shape (part_of (link_number two.after.link) past)).rows ≡ Some row → channel_number packet.chan ≡ channel_number request.chan
      → RowTells (terms_at request (suc i)) (channel_number request.chan) row (channel_packets (channel_number request.chan) (packets_on two.far (link_number two.after.link) past))
  far-row-at packet row fits sound run asked found chan =
      let row-chan : channel_of row ≡ channel_number request.chan = row-of packet.chan row (find-passes (is_row_of packet.chan) row _ found) ∙ chan in
      elim (cases_lt 0 (offers_to (channel_number request.chan) (part_of (link_number two.after.link) past))) [
        | inl some ↦
            (let at-far = stands-at network request past (suc i) two.after (link_number two.after.link) two.far fits run asked two.follows refl two.far_linked in
            let once = asked.once (link_number two.after.link) in
            let has = at-far.known (omega (arith, once, some)) in
            let same : row ≡ has.row = Each-find (IsOnly (channel_number request.chan) has.row) (is_row_of packet.chan) _ row has.only found row-chan in
            subst (λ r. RowTells (terms_at request (suc i)) (channel_number request.chan) r (channel_packets (channel_number request.chan) (packets_on two.far (link_number two.after.link) past))) (sym same) has.tells)
        | inr none ↦
            (let free = legal-free two.far.shape (terms_at request 0) (channel_number request.chan) (part_of (link_number two.after.link) past) (part-admissible network past (link_number two.after.link) two.far fits run two.far_linked) (omega (arith, none)) in
            absurd (Each-find (IsElsewhere (channel_number request.chan)) (is_row_of packet.chan) _ row free.rows found row-chan))
      ]

  taken-after : (done : Done) (packet : Packet) (row : Row) (level clock e held : ℕ) → NetworkFits network → RequestFits network.links request → IsRun network past → ChannelAsked request past → ArriveComes network past done packet → channel_number packet.chan ≡ channel_number request.chan → link_number done.link ≡ link_number two.after.link
      → Each (λ p. p.level ≡ level) (channel_packets (channel_number request.chan) (packets_on two.near (link_number two.hop.link) past))
      → find (is_row_of packet.chan) (scan_of two.far.shape (part_of (link_number two.after.link) past)).rows ≡ Some row
      → packet.number ≡ suc (length row.ticks)
      → IsTimed (kind_of request.control) (bound_at two.near.shape.bounds level + two.near.shape.prop) two.near.shape.prop (clock_of (part_of (link_number two.after.link) past)) (near_ticks network request i two past) (far_ticks network request i two past)
      → IsTimed (kind_of request.control) (bound_at two.near.shape.bounds level + two.near.shape.prop) two.near.shape.prop (clock_of (part_of (link_number two.after.link) past)) (near_ticks network request i two past) (far_ticks network request i two past ++ eligible_next row.terms row.ticks (clock_of (part_of (link_number two.after.link) past)) packet.due ∷ [])
  unfolding eligible_next
  taken-after done packet row level clock e held fits sound run asked comes chan at levels found numbered rest =
      let c : ℕ = channel_number request.chan in
      let near = from-near network request i two past done packet fits sound run asked comes chan at in
      let own : Among near.taken (channel_packets (channel_number request.chan) (packets_on two.near (link_number two.hop.link) past)) = Among-passes (is_of_channel (channel_number request.chan)) near.taken (packets_on two.near (link_number two.hop.link) past) near.own near.among in
      let near-row = has-row i two.hop (link_number two.hop.link) two.near refl two.stands two.linked near.taken near.own near.among in
      let far-row : (row ≡ row) × RowTells (terms_at request (suc i)) (channel_number request.chan) row (channel_packets (channel_number request.chan) (packets_on two.far (link_number two.after.link) past)) = (refl, far-row-at packet row fits sound run asked found chan) in
      let place = place-of 0 _ near.taken near-row.tells.numbered own in
      let count : length (far_ticks network request i two past) ≡ length row.ticks = ap length (sym far-row.1.eligible) ∙ length-reverse row.ticks in
      let index : place.index ≡ length (far_ticks network request i two past) = (let a = place.number in let b = near.number in omega (arith, a, b, numbered, count)) in
      let tick : get_or (near_ticks network request i two past) (length (far_ticks network request i two past)) 0 ≡ near.taken.eligible = ap (λ k. get_or (near_ticks network request i two past) k 0) (sym index) ∙ place.tick in
      let same : near.taken.level ≡ level = Each-among (λ p. p.level ≡ level) near.taken _ levels own in
      let shift : bound_at two.near.shape.bounds near.taken.level ≡ bound_at two.near.shape.bounds level = ap (bound_at two.near.shape.bounds) same in
      let due = near.due in
      let now = comes.now in
      let in_time = comes.from.in_time in
      let t : ℕ = clock_of (part_of (link_number two.after.link) past) in
      let clock-same : clock_of (part_of (link_number done.link) past) ≡ clock_of (part_of (link_number two.after.link) past) = ap (λ m. clock_of (part_of m past)) at in
      let due-same : comes.flight.packet.due ≡ packet.due = ap (λ p. p.due) comes.same in
      let early : clock_of (part_of (link_number two.after.link) past) ≤ packet.due = omega (arith, now, in_time, clock-same, due-same) in
      let most = waits-most row.terms.kind row.terms.first (clock_of (part_of (link_number two.after.link) past)) packet.due early in
      let shorter : length (far_ticks network request i two past) < length (near_ticks network request i two past) = (let w = place.within in let l = length-map (channel_packets (channel_number request.chan) (packets_on two.near (link_number two.hop.link) past)) tick_of_packet in omega (arith, w, index, l)) in
      let valid : IsContract row.terms.contract = subst IsContract (sym far-row.1.contract_is) far-row.1.valid in
      let keeps : Keeps row.terms.contract (reverse row.ticks) = (Decides-keeps_newest_first row.terms.contract row.ticks (burst-least row.terms.contract valid)).0 (subst (λ k. keeps_newest_first k row.ticks ≡ true) (sym far-row.1.contract_is) far-row.1.keeps) in
      let is = eligible-is row.terms.contract row.ticks (waits_until row.terms.kind row.terms.first (clock_of (part_of (link_number two.after.link) past)) packet.due) valid (burst-least row.terms.contract valid) keeps in
      let is-far : IsEligible row.terms.contract (far_ticks network request i two past) (waits_until row.terms.kind row.terms.first (clock_of (part_of (link_number two.after.link) past)) packet.due) (eligible row.terms.contract row.ticks (waits_until row.terms.kind row.terms.first (clock_of (part_of (link_number two.after.link) past)) packet.due)) = eligible-same row.terms.contract (reverse row.ticks) (far_ticks network request i two past) _ _ far-row.1.eligible is in
      let near-keeps : Keeps row.terms.contract (near_ticks network request i two past) = subst (λ k. Keeps k (near_ticks network request i two past)) (sym far-row.1.contract_is) (row-keeps _ _ near-row.row _ near-row.tells) in
      let far-keeps : Keeps row.terms.contract (far_ticks network request i two past) = subst (Keeps row.terms.contract) far-row.1.eligible keeps in
      let under = eligible-after row.terms.contract (near_ticks network request i two past) (far_ticks network request i two past) (bound_at two.near.shape.bounds level + two.near.shape.prop) _ _ (burst-least row.terms.contract valid) near-keeps far-keeps shorter rest.after (omega (arith, most, tick, due, shift)) is-far in
      let reached = is-far.reached in
      let passed = near.passed in
      let later : row.terms.first ≡ false = far-row.1.first_is ∙ ne_eqb (suc i) 0 (λ same. omega (arith, same)) in
      timed-more (kind_of request.control) (bound_at two.near.shape.bounds level + two.near.shape.prop) two.near.shape.prop (clock_of (part_of (link_number two.after.link) past)) _ (near_ticks network request i two past) (far_ticks network request i two past) shorter rest under
      (omega (arith, tick, passed, now, clock-same))
      (λ is-jitter. (let exact = waits-exact row.terms.kind row.terms.first (clock_of (part_of (link_number two.after.link) past)) packet.due (far-row.1.kind_is ∙ is-jitter) later in omega (arith, exact, reached, tick, due, shift)))
    where
      has-row : (j : ℕ) (hop : Hop) (n : ℕ) (link : Link) → link_number hop.link ≡ n → slice_get request.route j ≡ Some hop → slice_get network.links n ≡ Some link → (p : Arrival) → is_of_channel (channel_number request.chan) p ≡ true → Among p (packets_on link n past) → HasOneRow (terms_at request j) (channel_number request.chan) (scan_of link.shape (part_of n past))
      has-row j hop n link number stands linked p chan among =
          let row-at = packet-offered network request past n link p fits run asked sound linked chan among in
          let same : row-at.route.index ≡ j = index-apart request.route row-at.route.index j row-at.route.hop hop sound.route row-at.route.stands stands (row-at.route.number ∙ sym number) in
          subst (λ k. HasOneRow (terms_at request k) (channel_number request.chan) (scan_of link.shape (part_of n past))) same row-at.row

  -- ---- each entry at the far hop

  far-arrives : (done : Done) (packet : Packet) (level clock e : ℕ) (row : Row) → NetworkFits network → RequestFits network.links request → IsRun network past → ChannelAsked request past → (next : IsNext network past done) → done.ask ≡ Arrive packet → link_number done.link ≡ link_number two.after.link
      → Each (λ p. p.level ≡ level) (channel_packets (channel_number request.chan) (packets_on two.near (link_number two.hop.link) past))
      → find (is_row_of packet.chan) (scan_of two.far.shape (part_of (link_number two.after.link) past)).rows ≡ Some row
      → Is.Taken clock e ≡ arrive_to two.far.shape (clock_of (part_of (link_number two.after.link) past)) (packets_on two.far (link_number two.after.link) past) packet (Some row)
      → IsTimed (kind_of request.control) (bound_at two.near.shape.bounds level + two.near.shape.prop) two.near.shape.prop (clock_of (part_of (link_number two.after.link) past)) (near_ticks network request i two past) (far_ticks network request i two past)
      → IsTimed (kind_of request.control) (bound_at two.near.shape.bounds level + two.near.shape.prop) two.near.shape.prop (clock_of (part_of (link_number two.after.link) past)) (near_ticks network request i two past) (ticks_at (channel_number request.chan) (with_arrival (clock_of (part_of (link_number two.after.link) past)) packet (scan_of two.far.shape (part_of (link_number two.after.link) past)) (Some row)).packets)
  unfolding with_arrival
  far-arrives done packet level clock e row fits sound run asked next is at levels found answered rest =
      let scan : Scan = scan_of two.far.shape (part_of (link_number two.after.link) past) in
      let t : ℕ = clock_of (part_of (link_number two.after.link) past) in
      let chan : channel_of row ≡ channel_number packet.chan = row-of packet.chan row (find-passes (is_row_of packet.chan) row _ found) in
      elim (cases_Bool (nat_eq (channel_of row) (channel_number request.chan))) [
        | inl on ↦
            (let own : channel_of row ≡ channel_number request.chan = eqb-true (channel_of row) (channel_number request.chan) on in
            let number = arrive-number two.far.shape.bounds (clock_of (part_of (link_number two.after.link) past)) packet row.terms (length row.ticks) _ _ clock e answered in
            let more = taken-after done packet row level clock e 0 fits sound run asked (arrive-comes network past done packet fits run next is) (sym chan ∙ own) at levels found number rest in
            let ticks = ap (map tick_of_packet) (packets-on (channel_number request.chan) (packets_on two.far (link_number two.after.link) past) (arrived_packet (clock_of (part_of (link_number two.after.link) past)) (suc (length (packets_on two.far (link_number two.after.link) past))) packet row) own (omega (arith, number))) ∙ map-append tick_of_packet (channel_packets (channel_number request.chan) (packets_on two.far (link_number two.after.link) past)) (arrived_packet (clock_of (part_of (link_number two.after.link) past)) (suc (length (packets_on two.far (link_number two.after.link) past))) packet row ∷ []) in
            subst (IsTimed (kind_of request.control) (bound_at two.near.shape.bounds level + two.near.shape.prop) two.near.shape.prop (clock_of (part_of (link_number two.after.link) past)) (near_ticks network request i two past)) (sym ticks) more)
        | inr off ↦
            (let other : channel_of row ≢ channel_number request.chan = eqb-false (channel_of row) (channel_number request.chan) off in
            subst (λ ps. IsTimed (kind_of request.control) (bound_at two.near.shape.bounds level + two.near.shape.prop) two.near.shape.prop (clock_of (part_of (link_number two.after.link) past)) (near_ticks network request i two past) (map tick_of_packet ps)) (sym (packets-off (channel_number request.chan) (packets_on two.far (link_number two.after.link) past) (arrived_packet (clock_of (part_of (link_number two.after.link) past)) (suc (length (packets_on two.far (link_number two.after.link) past))) packet row) other)) rest)
      ]

  -- a tick brings no packet of the channel here
  pub far-ticks : NetworkFits network → IsRun network past → ChannelAsked request past
      → channel_packets (channel_number request.chan) (after_tick two.far.shape (clock_of (part_of (link_number two.after.link) past)) (scan_of two.far.shape (part_of (link_number two.after.link) past))).packets ≡ channel_packets (channel_number request.chan) (packets_on two.far (link_number two.after.link) past)
  far-ticks fits run asked =
      let legal = part-admissible network past (link_number two.after.link) two.far fits run two.far_linked in
      let differ = legal-channels two.far.shape (part_of (link_number two.after.link) past) legal in
      elim (cases_lt 0 (offers_to (channel_number request.chan) (part_of (link_number two.after.link) past))) [
        | inl some ↦
            (let at-far = stands-at network request past (suc i) two.after (link_number two.after.link) two.far fits run asked two.follows refl two.far_linked in
            let once = asked.once (link_number two.after.link) in
            tick-none two.far.shape (terms_at request (suc i)) (channel_number request.chan) (clock_of (part_of (link_number two.after.link) past)) (scan_of two.far.shape (part_of (link_number two.after.link) past)) (ne_eqb (suc i) 0 (λ same. omega (arith, same))) differ (at-far.known (omega (arith, once, some))))
        | inr none ↦
            (let free = legal-free two.far.shape (terms_at request 0) (channel_number request.chan) (part_of (link_number two.after.link) past) legal (omega (arith, none)) in
            tick-free two.far.shape (channel_number request.chan) (clock_of (part_of (link_number two.after.link) past)) (scan_of two.far.shape (part_of (link_number two.after.link) past)) free)
      ]

  far-step : (done : Done) (level : ℕ) (ask : Ask) (reply : Reply) → NetworkFits network → RequestFits network.links request → IsRun network past → ChannelAsked request past → (next : IsNext network past done) → done.ask ≡ ask → link_number done.link ≡ link_number two.after.link
      → Each (λ p. p.level ≡ level) (channel_packets (channel_number request.chan) (packets_on two.near (link_number two.hop.link) past))
      → reply ≡ reply_at two.far (clock_of (part_of (link_number two.after.link) past)) (scan_of two.far.shape (part_of (link_number two.after.link) past)) ask
      → IsTimed (kind_of request.control) (bound_at two.near.shape.bounds level + two.near.shape.prop) two.near.shape.prop (clock_of (part_of (link_number two.after.link) past)) (near_ticks network request i two past) (far_ticks network request i two past)
      → IsTimed (kind_of request.control) (bound_at two.near.shape.bounds level + two.near.shape.prop) two.near.shape.prop (clock_of (part_of (link_number two.after.link) past)) (near_ticks network request i two past) (ticks_at (channel_number request.chan) (after two.far.shape (clock_of (part_of (link_number two.after.link) past)) (scan_of two.far.shape (part_of (link_number two.after.link) past)) ask reply).packets)
  unfolding reply_at with_arrival
  far-step done level ask reply fits sound run asked next is at levels answered rest =
      let t : ℕ = clock_of (part_of (link_number two.after.link) past) in
      let scan : Scan = scan_of two.far.shape (part_of (link_number two.after.link) past) in
      packets-by (λ a r clock packets. done.ask ≡ a → r ≡ reply_at two.far t scan a → IsTimed (kind_of request.control) (bound_at two.near.shape.bounds level + two.near.shape.prop) two.near.shape.prop t (near_ticks network request i two past) (ticks_at (channel_number request.chan) packets)) two.far.shape t scan
      (λ a r asks tells. rest)
      (λ packet row clock e found asks tells. far-arrives done packet level clock e row fits sound run asked next asks at levels found (tells ∙ ap (arrive_to two.far.shape t scan.packets packet) found) rest)
      (λ r asks tells. subst (λ ps. IsTimed (kind_of request.control) (bound_at two.near.shape.bounds level + two.near.shape.prop) two.near.shape.prop t (near_ticks network request i two past) (map tick_of_packet ps)) (sym (far-ticks fits run asked)) rest)
      ask reply is answered

  -- ---- every run

  -- the packets at the near hop are more, or the same
  near-more : (done : Done) (shift now : ℕ) (ticks : List ℕ) → IsTimed (kind_of request.control) shift two.near.shape.prop now (near_ticks network request i two past) ticks → IsTimed (kind_of request.control) shift two.near.shape.prop now (near_ticks network request i two (done ∷ past)) ticks
  near-more done shift now ticks rest =
      let grows = part-grows two.near (link_number two.hop.link) done past in
      let same : near_ticks network request i two (done ∷ past) ≡ near_ticks network request i two past ++ ticks_at (channel_number request.chan) grows.more =
      ap (ticks_at (channel_number request.chan)) grows.is ∙ ap (map tick_of_packet) (filter-append (is_of_channel (channel_number request.chan)) (packets_on two.near (link_number two.hop.link) past) grows.more) ∙ map-append tick_of_packet _ _ in
      subst (λ before. IsTimed (kind_of request.control) shift two.near.shape.prop now before ticks) (sym same) (timed-append (kind_of request.control) shift two.near.shape.prop now (near_ticks network request i two past) _ ticks rest)

  levels-before : (done : Done) (level : ℕ) → Each (λ p. p.level ≡ level) (channel_packets (channel_number request.chan) (packets_on two.near (link_number two.hop.link) (done ∷ past))) → Each (λ p. p.level ≡ level) (channel_packets (channel_number request.chan) (packets_on two.near (link_number two.hop.link) past))
  levels-before done level levels =
      let grows = part-grows two.near (link_number two.hop.link) done past in
      let same : channel_packets (channel_number request.chan) (packets_on two.near (link_number two.hop.link) (done ∷ past)) ≡ channel_packets (channel_number request.chan) (packets_on two.near (link_number two.hop.link) past) ++ channel_packets (channel_number request.chan) grows.more =
      ap (channel_packets (channel_number request.chan)) grows.is ∙ filter-append (is_of_channel (channel_number request.chan)) (packets_on two.near (link_number two.hop.link) past) grows.more in
      (Each-parts (λ p. p.level ≡ level) _ _ (subst (Each (λ p. p.level ≡ level)) same levels)).0

  hop-step : (done : Done) (level : ℕ) → NetworkFits network → RequestFits network.links request → IsRun network past → ChannelAsked request past → (next : IsNext network past done)
      → Each (λ p. p.level ≡ level) (channel_packets (channel_number request.chan) (packets_on two.near (link_number two.hop.link) past))
      → IsTimed (kind_of request.control) (bound_at two.near.shape.bounds level + two.near.shape.prop) two.near.shape.prop (clock_of (part_of (link_number two.after.link) past)) (near_ticks network request i two past) (far_ticks network request i two past)
      → IsTimed (kind_of request.control) (bound_at two.near.shape.bounds level + two.near.shape.prop) two.near.shape.prop (clock_of (part_of (link_number two.after.link) past)) (near_ticks network request i two past) (far_ticks network request i two (done ∷ past))
  unfolding scan_of reply_to
  hop-step done level fits sound run asked next levels rest =
      by-part (λ h. IsTimed (kind_of request.control) (bound_at two.near.shape.bounds level + two.near.shape.prop) two.near.shape.prop (clock_of (part_of (link_number two.after.link) past)) (near_ticks network request i two past) (ticks_at (channel_number request.chan) (scan_of two.far.shape h).packets)) (link_number two.after.link) done past
      (λ at.
      let link : next.link ≡ two.far = same_Some next.link two.far (sym next.linked ∙ ap (slice_get network.links) at ∙ two.far_linked) in
      let answered : done.reply ≡ reply_to two.far (part_of (link_number two.after.link) past) done.ask = next.answered ∙ ap (λ l. reply_to l (part_of (link_number done.link) past) done.ask) link ∙ ap (λ m. reply_to two.far (part_of m past) done.ask) at in
      far-step done level done.ask done.reply fits sound run asked next refl at levels answered rest)
      (λ off. rest)

clock-later : (n : ℕ) (done : Done) (past : List Done) → clock_of (part_of n past) ≤ clock_of (part_of n (done ∷ past))
unfolding clock_of
clock-later n done past =
    by-part (λ h. clock_of (part_of n past) ≤ clock_of h) n done past (λ on. clock_with-later done.ask (clock_of (part_of n past))) (λ off. omega arith)

-- the law of two hops
pub hop-law : (network : Network) (request : Request) (i : ℕ) (two : TwoHops network request i) → NetworkFits network → RequestFits network.links request → ((past : List Done) → IsRun network past → ChannelAsked request past) → (run : List Done) → IsRun network run → (level : ℕ)
    → Each (λ p. p.level ≡ level) (channel_packets (channel_number request.chan) (packets_on two.near (link_number two.hop.link) run))
    → IsTimed (kind_of request.control) (bound_at two.near.shape.bounds level + two.near.shape.prop) two.near.shape.prop (clock_of (part_of (link_number two.after.link) run)) (near_ticks network request i two run) (far_ticks network request i two run)
unfolding IsRun part_of scan_of
hop-law network request i two fits sound asked [] is level levels = timed-none (kind_of request.control) _ two.near.shape.prop _ _
hop-law network request i two fits sound asked (done ∷ past) is level levels =
    let before = levels-before network request i two past done level levels in
    near-more network request i two past done (bound_at two.near.shape.bounds level + two.near.shape.prop) _ (far_ticks network request i two (done ∷ past))
    (timed-later (kind_of request.control) (bound_at two.near.shape.bounds level + two.near.shape.prop) two.near.shape.prop (clock_of (part_of (link_number two.after.link) past)) (clock_of (part_of (link_number two.after.link) (done ∷ past))) (near_ticks network request i two past) (far_ticks network request i two (done ∷ past)) (clock-later (link_number two.after.link) done past)
    (hop-step network request i two past done level fits sound is.0 (asked past is.0) is.1 before (hop-law network request i two fits sound asked past is.0 level before)))
