-- In a run: the flights of a channel from one hop to the next are a queue from those taken to those departed.
use Rattle.std.proofs.Common.{◌≡◌, ◌≢◌, ℕ, suc, ◌+◌, ◌≤◌, Bool, true, false, List, [], ◌∷◌, ◌++◌, length, Option, Some, None, refl, sym, ap, ◌∙◌, subst, inl, inr, arith}
use Rattle.run_engine.proofs.Words.{cases_Bool, eqb-true, eqb-false, eq-eqb, and_parts, and_from, same_Some, slice_get, option_map, nat_eq, find, link_number, channel_number, LinkNo, link_of, Ask, Arrive, Tick, Packet, Entry, Reply, LinkShape, Link, IsAdmissible, without_first, Among, reply_to, tick_reply, Row, Scan, clock_with, clock_of, scan_of, is_row_of, arrived_packet, after, Arrival, RequestFits, hop_link, Request, Done, is_of_channel, channel_packets, SizeWithin, NetworkFits, Network, Flight, Plane, is_due, next_due, ask_due, flight_in, tick_made, plane_with, plane_of, entry_of, part_of, replies_to, plane_at, IsNext, IsRun, ticked, gone_of, Sent, IsSent, packets_on, terms_at, ChannelAsked}
use Rattle.link_steps.proofs.SearchAndFilter.{Each-among}
use Rattle.channel_laws.proofs.ChannelRows.{packets-off, row-of, find-passes}
use Rattle.run_engine.proofs.Tasks.CallerAsksFit.{IsCallers}
use Rattle.interleave_core.proofs.Flights.FlightQueue.{IsQueue, queue-head, queue-skips, queue-others}
use Rattle.channel_laws.proofs.SizeLaw.{legal-within}
use Rattle.interleave_core.proofs.Delays.HopLaw.{TwoHops, arrive-comes, from-near, next-link, far-ticks, same-packet}
use Rattle.run_engine.proofs.Channels.ChannelsAt.{packet-offered}
use Rattle.link_steps.proofs.PacketRows.{Among-passes}
use Rattle.hop_reservation.proofs.DistinctLinks.{index-apart}
use Rattle.channel_laws.proofs.DepartedCount.{gone-quiet, start-among, more-legal, level-channel}
use Rattle.channel_laws.proofs.NumberedPackets.{HasNumber, packets-have_numbers}
use Rattle.run_engine.specs.channels.Flights.{IsPunctual}
use Rattle.run_engine.proofs.Flights.FlightOrigins.{entry-tick, quiet-clock}
use Rattle.run_engine.proofs.Flights.Punctual.{run-punctual}
use Rattle.interleave_core.proofs.Flights.QueueTicks.{leg, QueueOf, SendsTo, queue-ticks}
use Rattle.run_engine.proofs.Runs.RunLegal.{flight-sent, part-on, part-off, run-stands, part-admissible, by-part, arrive-due, by-actor, caller-asks}
use Rattle.channel_laws.proofs.SentInTime.{tick-answer}
use Rattle.link_steps.proofs.EntryEffects.{packets-by}

-- how many packets of the channel the far hop has taken
abbrev pub far_count : (network : Network) (request : Request) (i : ℕ) → TwoHops network request i → List Done → ℕ
far_count network request i two run = length (channel_packets (channel_number request.chan) (packets_on two.far (link_number two.after.link) run))

abbrev pub LegStands : (network : Network) (request : Request) (i : ℕ) → TwoHops network request i → List Done → Type 0
LegStands network request i two run = QueueOf two.near.shape (channel_number request.chan) (link_number two.after.link) (far_count network request i two run) (part_of (link_number two.hop.link) run) (plane_at network run).flights

pub queue-lower : (own : Flight → Bool) (n dep low lower hi : ℕ) (fs : List Flight) → lower ≤ low → IsQueue own n dep low hi fs → IsQueue own n dep lower hi fs
queue-lower own n dep low lower hi [] less is = (is.0, (let l = is.1 in omega (arith, l, less)))
queue-lower own n dep low lower hi (f ∷ fs) less is =
    elim is [
      | inl mine ↦ inl (mine.0, mine.1, (let l = mine.2 in omega (arith, l, less)), mine.3)
      | inr other ↦ inr (other.0, queue-lower own n dep low lower hi fs less other.1)
    ]

pub near-quiet : (network : Network) (shape : LinkShape) (c to n m : ℕ) (done : Done) (past : List Done) (flights : List Flight) → IsAdmissible shape (part_of m (done ∷ past)) → done.ask ≢ Tick → QueueOf shape c to n (part_of m past) flights → QueueOf shape c to n (part_of m (done ∷ past)) flights
unfolding clock_of
near-quiet network shape c to n m done past flights legal other is =
    by-part (λ h. IsAdmissible shape h → QueueOf shape c to n h flights) m done past
    (λ on legal.
    let still : clock_with done.ask (clock_of (part_of m past)) ≡ clock_of (part_of m past) = quiet-clock done.ask (clock_of (part_of m past)) other in
    let gone = gone-quiet shape c (entry_of done) (part_of m past) legal still in
    subst (λ dep. IsQueue (leg c to) n dep 0 (clock_with done.ask (clock_of (part_of m past)) + shape.prop) flights) (sym gone)
    (subst (λ t. IsQueue (leg c to) n (gone_of shape c (part_of m past)) 0 (t + shape.prop) flights) (sym still) is))
    (λ off legal. is) legal

-- an ask that is no arrive of the channel leaves the far hop's packets of it as they are
off-arrives : (c t : ℕ) (packet : Packet) (scan : Scan) (row : Row) → find (is_row_of packet.chan) scan.rows ≡ Some row → channel_number packet.chan ≢ c → channel_packets c (scan.packets ++ arrived_packet t (suc (length scan.packets)) packet row ∷ []) ≡ channel_packets c scan.packets
off-arrives c t packet scan row is other = packets-off c scan.packets (arrived_packet t (suc (length scan.packets)) packet row) (λ same. other (sym (row-of packet.chan row (find-passes (is_row_of packet.chan) row scan.rows is)) ∙ same))

abbrev pub IsNoArriveOf : ℕ → Ask → Type 0
IsNoArriveOf c (Arrive packet) = channel_number packet.chan ≢ c
IsNoArriveOf c _ = Unit {0}

module _ (network : Network) (request : Request) (i : ℕ) (two : TwoHops network request i) where
  far-after : (past : List Done) (ask : Ask) (reply : Reply) → NetworkFits network → IsRun network past → ChannelAsked request past → IsNoArriveOf (channel_number request.chan) ask
      → channel_packets (channel_number request.chan) (after two.far.shape (clock_of (part_of (link_number two.after.link) past)) (scan_of two.far.shape (part_of (link_number two.after.link) past)) ask reply).packets ≡ channel_packets (channel_number request.chan) (packets_on two.far (link_number two.after.link) past)
  far-after past ask reply fits run asked other =
      let c : ℕ = channel_number request.chan in
      let scan : Scan = scan_of two.far.shape (part_of (link_number two.after.link) past) in
      packets-by (λ a r clock packets. IsNoArriveOf c a → channel_packets c packets ≡ channel_packets c scan.packets) two.far.shape (clock_of (part_of (link_number two.after.link) past)) scan
      (λ a r off. refl)
      (λ packet row clock e found off. off-arrives c (clock_of (part_of (link_number two.after.link) past)) packet scan row found off)
      (λ r off. far-ticks network request i two past fits run asked)
      ask reply other

  pub far-kept : (past : List Done) (done : Done) → NetworkFits network → IsRun network past → ChannelAsked request past → (link_number done.link ≡ link_number two.after.link → IsNoArriveOf (channel_number request.chan) done.ask) → far_count network request i two (done ∷ past) ≡ far_count network request i two past
  unfolding scan_of
  far-kept past done fits run asked other =
      by-part (λ h. length (channel_packets (channel_number request.chan) (scan_of two.far.shape h).packets) ≡ far_count network request i two past) (link_number two.after.link) done past
      (λ at. ap length (far-after past done.ask done.reply fits run asked (other at))) (λ off. refl)

  -- the packets of the channel at the near hop go to the far one
  pub near-sends : (run : List Done) (p : Arrival) → NetworkFits network → RequestFits network.links request → IsRun network run → ChannelAsked request run → Among p (packets_on two.near (link_number two.hop.link) run) → is_of_channel (channel_number request.chan) p ≡ true
      → SendsTo two.near.shape (channel_number request.chan) (link_number two.after.link) (part_of (link_number two.hop.link) run)
  near-sends run p fits sound is asked among chan =
      let row = packet-offered network request run (link_number two.hop.link) two.near p fits is asked sound two.linked chan among in
      let index : row.route.index ≡ i = index-apart request.route row.route.index i row.route.hop two.hop sound.route row.route.stands two.stands row.route.number in
      record {
        terms = terms_at request row.route.index;
        row = row.row.row;
        tells = row.row.tells;
        link = two.after.link;
        number = refl;
        next = ap (λ k. option_map hop_link (slice_get request.route (suc k))) index ∙ ap (option_map hop_link) two.follows;
      }

  -- a packet of the channel that goes to the far link is at the near hop's
  pub leg-near : (run : List Done) (n : ℕ) (link : Link) (p : Arrival) (to : LinkNo) → NetworkFits network → RequestFits network.links request → IsRun network run → ChannelAsked request run → slice_get network.links n ≡ Some link → Among p (packets_on link n run) → is_of_channel (channel_number request.chan) p ≡ true → p.next ≡ Some to → link_number to ≡ link_number two.after.link
      → n ≡ link_number two.hop.link
  leg-near run n link p to fits sound is asked linked among chan next at =
      let row = packet-offered network request run n link p fits is asked sound linked chan among in
      let packets : Among p (channel_packets (channel_number request.chan) (packets_on link n run)) = Among-passes (is_of_channel (channel_number request.chan)) p (packets_on link n run) chan among in
      let named : p.next ≡ option_map hop_link (slice_get request.route (suc row.route.index)) = Each-among (λ q. q.next ≡ (terms_at request row.route.index).next) p _ row.row.tells.nexts packets in
      let rest = next-link (slice_get request.route (suc row.route.index)) to (sym named ∙ next) in
      let index : suc row.route.index ≡ suc i = index-apart request.route (suc row.route.index) (suc i) rest.0 two.after sound.route rest.1 two.follows (ap link_number rest.2 ∙ at) in
      let same : row.route.index ≡ i = omega (arith, index) in
      let hop = same_Some row.route.hop two.hop (sym row.route.stands ∙ ap (slice_get request.route) same ∙ two.stands) in
      sym row.route.number ∙ ap link_of hop

-- ---- one entry more

made-same : (links : ℕ) (plane : Plane) (new : List Flight) → (tick_made links plane new).flights ≡ plane.flights ++ new
made-same links plane new =
    elim (cases_Bool (nat_eq (suc plane.ticked) links)) [
      | inl last ↦ rw last refl
      | inr more ↦ rw more refl
    ]

-- what another link sends is none of the leg
elsewhere-keeps : (network : Network) (request : Request) (i : ℕ) (two : TwoHops network request i) (run : List Done) (m : ℕ) (link : Link) (h : List Entry) (n dep hi : ℕ) (flights : List Flight) (reply : Reply) → NetworkFits network → RequestFits network.links request → IsRun network run → ChannelAsked request run → slice_get network.links m ≡ Some link → part_of m run ≡ ticked link.shape h → IsAdmissible link.shape h → reply ≡ tick_reply link.shape (clock_of h) (scan_of link.shape h) → m ≢ link_number two.hop.link
    → IsQueue (leg (channel_number request.chan) (link_number two.after.link)) n dep 0 hi flights → IsQueue (leg (channel_number request.chan) (link_number two.after.link)) n dep 0 hi (flights ++ flight_in reply)
unfolding clock_of
elsewhere-keeps network request i two run m link h n dep hi flights reply fits sound is-run asked linked part legal answered other is =
    queue-others (leg (channel_number request.chan) (link_number two.after.link)) n dep 0 hi flights (flight_in reply) (flight-sent (λ f. leg (channel_number request.chan) (link_number two.after.link) f ≡ false) link.shape h reply legal answered off) is where
      off : (sent : Sent) (l : LinkNo) → IsSent link.shape h sent → sent.next ≡ Some l → leg (channel_number request.chan) (link_number two.after.link) (record { to = l; round = sent.arrives; packet = sent.packet }) ≡ false
      off sent l from same =
          elim (cases_Bool (leg (channel_number request.chan) (link_number two.after.link) (record { to = l; round = sent.arrives; packet = sent.packet }))) [
            | inl mine ↦
                (let parts = and_parts (nat_eq (channel_number sent.packet.chan) (channel_number request.chan)) (nat_eq (link_number l) (link_number two.after.link)) mine in
                let chan = eqb-true (channel_number sent.packet.chan) (channel_number request.chan) parts.0 in
                let at = eqb-true (link_number l) (link_number two.after.link) parts.1 in
                let there : Among from.start.packet (scan_of link.shape (ticked link.shape h)).packets = start-among link.shape.rate (scan_of link.shape (ticked link.shape h)).packets (suc (clock_of h)) from.start from.among in
                let numbers = Each-among (HasNumber link.shape.bounds) from.start.packet _ (packets-have_numbers link.shape (ticked link.shape h) (more-legal link.shape h legal)) there in
                absurd (other (leg-near network request i two run m link from.start.packet l fits sound is-run asked linked (subst (λ p. Among from.start.packet (scan_of link.shape p).packets) (sym part) there) (level-channel link.shape (channel_number request.chan) from.start.packet numbers from.level (sym (ap (λ s. channel_number s.packet.chan) from.is) ∙ chan)) (sym (ap (λ s. s.next) from.is) ∙ same) at)))
            | inr away ↦ away
          ]

-- each arrive of the channel at the far hop is taken there
abbrev pub ArriveCounts : (network : Network) (request : Request) (i : ℕ) → TwoHops network request i → Done → List Done → Type 0
ArriveCounts network request i two done past = (packet : Packet) → done.ask ≡ Arrive packet → channel_number packet.chan ≡ channel_number request.chan → link_number done.link ≡ link_number two.after.link → far_count network request i two (done ∷ past) ≡ suc (far_count network request i two past)

no-tick-arrives : (packet : Packet) (ask : Ask) → Arrive packet ≡ ask → ask ≢ Tick
no-tick-arrives packet ask is same = (let clash : Arrive packet ≡ Tick = is ∙ same in cc)

leg-with : (network : Network) (request : Request) (i : ℕ) (two : TwoHops network request i) (plane : Plane) (found : Option Flight) (done : Done) (past : List Done) → NetworkFits network → RequestFits network.links request → IsRun network past → IsRun network (done ∷ past) → ChannelAsked request past → ChannelAsked request (done ∷ past) → (next : IsNext network past done) → ArriveCounts network request i two done past → IsPunctual plane → next_due plane ≡ found → ask_due plane.ticked found ≡ (done.link, done.ask)
    → QueueOf two.near.shape (channel_number request.chan) (link_number two.after.link) (far_count network request i two past) (part_of (link_number two.hop.link) past) plane.flights
    → QueueOf two.near.shape (channel_number request.chan) (link_number two.after.link) (far_count network request i two (done ∷ past)) (part_of (link_number two.hop.link) (done ∷ past)) (plane_with (length network.links) plane found done.reply).flights
leg-with network request i two plane (Some flight) done past fits sound before after-run asked asked-after next counts punctual due asks is =
    let arrives : Arrive flight.packet ≡ done.ask = ap (λ pair. pair.1) asks in
    let to : flight.to ≡ done.link = ap (λ pair. pair.0) asks in
    let legal = part-admissible network (done ∷ past) (link_number two.hop.link) two.near fits after-run two.linked in
    near-quiet network two.near.shape (channel_number request.chan) (link_number two.after.link) (far_count network request i two (done ∷ past)) (link_number two.hop.link) done past (without_first (is_due plane.round) plane.flights) legal (no-tick-arrives flight.packet done.ask arrives)
    (elim (cases_Bool (leg (channel_number request.chan) (link_number two.after.link) flight)) [
      | inl mine ↦
          (let parts = and_parts (nat_eq (channel_number flight.packet.chan) (channel_number request.chan)) (nat_eq (link_number flight.to) (link_number two.after.link)) mine in
          let more = counts flight.packet (sym arrives) (eqb-true (channel_number flight.packet.chan) (channel_number request.chan) parts.0) (ap link_number (sym to) ∙ eqb-true (link_number flight.to) (link_number two.after.link) parts.1) in
          subst (λ n. QueueOf two.near.shape (channel_number request.chan) (link_number two.after.link) n (part_of (link_number two.hop.link) past) (without_first (is_due plane.round) plane.flights)) (sym more)
          (queue-lower (leg (channel_number request.chan) (link_number two.after.link)) (suc (far_count network request i two past)) _ (suc plane.round) 0 _ (without_first (is_due plane.round) plane.flights) (omega arith)
          (queue-head (leg (channel_number request.chan) (link_number two.after.link)) (far_count network request i two past) _ 0 _ plane.round plane.flights flight punctual due mine is).1))
      | inr off ↦
          subst (λ n. QueueOf two.near.shape (channel_number request.chan) (link_number two.after.link) n (part_of (link_number two.hop.link) past) (without_first (is_due plane.round) plane.flights))
          (sym (far-kept network request i two past done fits before asked (λ at. subst (IsNoArriveOf (channel_number request.chan)) arrives
          (λ chan. (let mine : leg (channel_number request.chan) (link_number two.after.link) flight ≡ true = and_from (nat_eq (channel_number flight.packet.chan) (channel_number request.chan)) (nat_eq (link_number flight.to) (link_number two.after.link)) (eq-eqb (channel_number flight.packet.chan) (channel_number request.chan) chan) (eq-eqb (link_number flight.to) (link_number two.after.link) (ap link_number to ∙ at)) in let clash : false ≡ true = sym off ∙ mine in cc)))))
          (queue-skips (leg (channel_number request.chan) (link_number two.after.link)) (far_count network request i two past) _ 0 _ plane.round plane.flights flight due off is)
    ])
leg-with network request i two plane None done past fits sound before after-run asked asked-after next counts punctual due asks is =
    let tick : Tick ≡ done.ask = ap (λ pair. pair.1) asks in
    let kept = far-kept network request i two past done fits before asked (λ at. subst (IsNoArriveOf (channel_number request.chan)) tick tt) in
    let answered : done.reply ≡ tick_reply next.link.shape (clock_of (part_of (link_number done.link) past)) (scan_of next.link.shape (part_of (link_number done.link) past)) = next.answered ∙ ap (reply_to next.link (part_of (link_number done.link) past)) (sym tick) ∙ tick-answer next.link (part_of (link_number done.link) past) in
    let part : part_of (link_number done.link) (done ∷ past) ≡ ticked next.link.shape (part_of (link_number done.link) past) = part-on (link_number done.link) done past refl ∙ ap (λ e. e ∷ part_of (link_number done.link) past) (entry-tick done _ tick answered) in
    let legal = part-admissible network past (link_number done.link) next.link fits before next.linked in
    subst (λ n. QueueOf two.near.shape (channel_number request.chan) (link_number two.after.link) n (part_of (link_number two.hop.link) (done ∷ past)) (tick_made (length network.links) plane (flight_in done.reply)).flights) (sym kept)
    (subst (QueueOf two.near.shape (channel_number request.chan) (link_number two.after.link) (far_count network request i two past) (part_of (link_number two.hop.link) (done ∷ past))) (sym (made-same (length network.links) plane (flight_in done.reply)))
    (elim (cases_Bool (nat_eq (link_number done.link) (link_number two.hop.link))) [
      | inl on ↦
          (let at : link_number done.link ≡ link_number two.hop.link = eqb-true (link_number done.link) (link_number two.hop.link) on in
          let link : next.link ≡ two.near = same_Some next.link two.near (sym next.linked ∙ ap (slice_get network.links) at ∙ two.linked) in
          let near-part : part_of (link_number two.hop.link) (done ∷ past) ≡ ticked two.near.shape (part_of (link_number two.hop.link) past) = subst (λ l. part_of (link_number two.hop.link) (done ∷ past) ≡ ticked l.shape (part_of (link_number two.hop.link) past)) link (subst (λ m. part_of m (done ∷ past) ≡ ticked next.link.shape (part_of m past)) at part) in
          let near-reply : done.reply ≡ tick_reply two.near.shape (clock_of (part_of (link_number two.hop.link) past)) (scan_of two.near.shape (part_of (link_number two.hop.link) past)) = answered ∙ ap (λ l. tick_reply l.shape (clock_of (part_of (link_number done.link) past)) (scan_of l.shape (part_of (link_number done.link) past))) link ∙ ap (λ m. tick_reply two.near.shape (clock_of (part_of m past)) (scan_of two.near.shape (part_of m past))) at in
          subst (λ h. QueueOf two.near.shape (channel_number request.chan) (link_number two.after.link) (far_count network request i two past) h (plane.flights ++ flight_in done.reply)) (sym near-part)
          (queue-ticks two.near.shape (channel_number request.chan) (link_number two.after.link) (far_count network request i two past) (part_of (link_number two.hop.link) past) done.reply plane.flights (part-admissible network past (link_number two.hop.link) two.near fits before two.linked) near-reply
          (λ p among chan. subst (SendsTo two.near.shape (channel_number request.chan) (link_number two.after.link)) near-part (near-sends network request i two (done ∷ past) p fits sound after-run asked-after (subst (λ h. Among p (scan_of two.near.shape h).packets) (sym near-part) among) chan)) is))
      | inr off ↦
          (let away = eqb-false (link_number done.link) (link_number two.hop.link) off in
          subst (λ h. QueueOf two.near.shape (channel_number request.chan) (link_number two.after.link) (far_count network request i two past) h (plane.flights ++ flight_in done.reply)) (sym (part-off (link_number two.hop.link) done past away))
          (elsewhere-keeps network request i two (done ∷ past) (link_number done.link) next.link (part_of (link_number done.link) past) (far_count network request i two past) _ _ plane.flights done.reply fits sound after-run asked-after next.linked part legal answered away is))
    ]))

no-tick-callers : (ask : Ask) → IsCallers ask → ask ≢ Tick
no-tick-callers ask callers same = subst IsCallers same callers

other-callers : (c : ℕ) (ask : Ask) → IsCallers ask → IsNoArriveOf c ask
other-callers c (Arrive packet) callers = absurd callers
other-callers c _ callers = tt

module _ (network : Network) (request : Request) (i : ℕ) (two : TwoHops network request i) where
  -- one entry more, where an arrive of the channel is taken
  pub leg-step : (done : Done) (past : List Done) → NetworkFits network → RequestFits network.links request → ((run : List Done) → IsRun network run → ChannelAsked request run) → IsRun network (done ∷ past) → ArriveCounts network request i two done past → LegStands network request i two past → LegStands network request i two (done ∷ past)
  unfolding IsRun
  leg-step done past fits sound asked run counts is =
      let stands = run-stands network past fits run.0 in
      by-actor (λ p. QueueOf two.near.shape (channel_number request.chan) (link_number two.after.link) (far_count network request i two (done ∷ past)) (part_of (link_number two.hop.link) (done ∷ past)) p.flights) network done past run.1
      (λ asks. leg-with network request i two (plane_at network past) (next_due (plane_at network past)) done past fits sound run.0 run (asked past run.0) (asked (done ∷ past) run) run.1 counts (run-punctual network past fits run.0) refl asks.asks is)
      (λ asks.
      let callers = (caller-asks network past done stands asks).callers in
      near-quiet network two.near.shape (channel_number request.chan) (link_number two.after.link) (far_count network request i two (done ∷ past)) (link_number two.hop.link) done past (plane_at network past).flights (part-admissible network (done ∷ past) (link_number two.hop.link) two.near fits run two.linked) (no-tick-callers done.ask callers)
      (subst (λ n. QueueOf two.near.shape (channel_number request.chan) (link_number two.after.link) n (part_of (link_number two.hop.link) past) (plane_at network past).flights) (sym (far-kept network request i two past done fits run.0 (asked past run.0) (λ at. other-callers (channel_number request.chan) done.ask callers))) is))

  -- ---- the first entry, and the number of an arrive

  pub leg-start : LegStands network request i two []
  unfolding part_of scan_of clock_of replies_to plane_of
  leg-start = (refl, omega arith)

  due-number : (plane : Plane) (found : Option Flight) (done : Done) (past : List Done) (packet : Packet) → IsPunctual plane → next_due plane ≡ found → ask_due plane.ticked found ≡ (done.link, done.ask) → done.ask ≡ Arrive packet → channel_number packet.chan ≡ channel_number request.chan → link_number done.link ≡ link_number two.after.link
      → QueueOf two.near.shape (channel_number request.chan) (link_number two.after.link) (far_count network request i two past) (part_of (link_number two.hop.link) past) plane.flights → packet.number ≡ suc (far_count network request i two past)
  due-number plane None done past packet punctual due asks arrives chan at is = absurd (let clash : Tick ≡ Arrive packet = ap (λ pair. pair.1) asks ∙ arrives in cc)
  due-number plane (Some flight) done past packet punctual due asks arrives chan at is =
      let same : flight.packet ≡ packet = same-packet flight.packet packet (ap (λ pair. pair.1) asks ∙ arrives) in
      let to : flight.to ≡ done.link = ap (λ pair. pair.0) asks in
      let mine : leg (channel_number request.chan) (link_number two.after.link) flight ≡ true = and_from (nat_eq (channel_number flight.packet.chan) (channel_number request.chan)) (nat_eq (link_number flight.to) (link_number two.after.link)) (eq-eqb (channel_number flight.packet.chan) (channel_number request.chan) (ap (λ p. channel_number p.chan) same ∙ chan)) (eq-eqb (link_number flight.to) (link_number two.after.link) (ap link_number to ∙ at)) in
      ap (λ p. p.number) (sym same) ∙ (queue-head (leg (channel_number request.chan) (link_number two.after.link)) (far_count network request i two past) _ 0 _ plane.round plane.flights flight punctual due mine is).0

  -- an arrive of the channel at the far hop has the number after those taken there
  pub arrive-in-turn : (done : Done) (past : List Done) (packet : Packet) → NetworkFits network → IsRun network past → (next : IsNext network past done) → done.ask ≡ Arrive packet → channel_number packet.chan ≡ channel_number request.chan → link_number done.link ≡ link_number two.after.link → LegStands network request i two past → packet.number ≡ suc (far_count network request i two past)
  arrive-in-turn done past packet fits run next arrives chan at is =
      let asks = arrive-due network past done fits run next packet arrives in
      due-number (plane_at network past) (next_due (plane_at network past)) done past packet (run-punctual network past fits run) refl asks.asks arrives chan at is

  -- and a size within the contract
  pub arrive-small : (done : Done) (past : List Done) (packet : Packet) → NetworkFits network → RequestFits network.links request → IsRun network past → ChannelAsked request past → (next : IsNext network past done) → done.ask ≡ Arrive packet → channel_number packet.chan ≡ channel_number request.chan → link_number done.link ≡ link_number two.after.link → packet.size ≤ request.contract.smax
  arrive-small done past packet fits sound run asked next arrives chan at =
      let near = from-near network request i two past done packet fits sound run asked (arrive-comes network past done packet fits run next arrives) chan at in
      let sizes = (legal-within two.near.shape (terms_at request i) (channel_number request.chan) (part_of (link_number two.hop.link) past) (part-admissible network past (link_number two.hop.link) two.near fits run two.linked) (asked.names i two.hop two.stands)) in
      let own = Among-passes (is_of_channel (channel_number request.chan)) near.taken (packets_on two.near (link_number two.hop.link) past) near.own near.among in
      let small = Each-among (SizeWithin (terms_at request i)) near.taken _ sizes own in
      let size = near.size in
      omega (arith, small, size)
