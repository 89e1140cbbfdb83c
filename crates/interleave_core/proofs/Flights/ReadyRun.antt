-- In every run each arrive of a channel past its first hop finds its row ready, so it is taken, and the flights from hop to
-- hop are a queue.
use Rattle.std.proofs.Common.{◌≡◌, ℕ, zero, suc, ◌<◌, ◌≤◌, true, List, [], ◌∷◌, length, Some, refl, sym, ap, ◌∙◌, subst, inl, inr, arith}
use Rattle.run_engine.proofs.Words.{cases_Bool, cases_lt, eq-eqb, ne_eqb, and_from, lt-ltb, length-map, same_Some, slice_get_within, slice_get, option_map, find, nat_eq, nat_lt, bound_at, link_number, channel_number, level_number, ChanNo, link_of, Arrive, Packet, Each, Among, eligible_next, reply_to, Reservation, is_of, Row, clock_of, scan_of, is_row_of, Arrival, RequestFits, hop_link, Request, Done, is_of_channel, channel_packets, tick_of_packet, channel_of, offers_to, NetworkFits, Network, part_of, IsNext, IsRun, OwnedFully, held_by, packets_on, terms_at, ChannelAsked, HopAt, packets_at, count_at}
use Rattle.net_units.proofs.BoundsInOrder.{bound-least}
use Rattle.link_steps.specs.declared.replies.Phase.TheVariants as Ph
use Rattle.link_steps.specs.declared.replies.Reply.TheVariants as Is
use Rattle.link_steps.proofs.LegalOrder.{legal-order}
use Rattle.link_steps.proofs.RowsInOrder.{IsInOrder}
use Rattle.link_steps.proofs.SearchAndFilter.{Each-find}
use Rattle.channel_laws.proofs.ChannelRows.{own-count, legal-free, row-of, find-passes}
use Rattle.interleave_core.proofs.Delays.BufferLaw.{slot-free}
use Rattle.interleave_core.proofs.Channels.ChainLaw.{run-chain, same-count}
use Rattle.interleave_core.proofs.Channels.FarHolds.{hop-tells}
use Rattle.channel_laws.proofs.HoldFates.{Fate, FateOpen, FateClosing, FateGone}
use Rattle.interleave_core.proofs.Delays.HopLaw.{TwoHops, arrive-comes, from-near, next-link, far-row-at, hop-law, same-packet}
use Rattle.channel_laws.proofs.Places.{place-of}
use Rattle.run_engine.proofs.Channels.ChannelsAt.{packet-offered, stands-at}
use Rattle.link_steps.proofs.PacketRows.{Among-passes}
use Rattle.interleave_core.proofs.Flights.LegLaw.{LegStands, leg-start, leg-step, arrive-in-turn, arrive-small}
use Rattle.interleave_core.proofs.Channels.LevelsHold.{Levelled, run-levelled}
use Rattle.run_engine.proofs.Channels.HopsAt.{hop-at}
use Rattle.interleave_core.proofs.Flights.ReadyLaw.{FarReady, ready-counts, taken-reply, replied}
use Rattle.run_engine.proofs.Channels.RowsFollow.{held_at_hop}
use Rattle.run_engine.proofs.Replies.RunCloses.{fully-asked}
use Rattle.run_engine.proofs.Runs.RunLegal.{part-admissible}

abbrev pub two_of : (network : Network) (request : Request) (i : ℕ) → HopAt network request i → HopAt network request (suc i) → TwoHops network request i
two_of network request i near far = record { hop = near.hop; after = far.hop; stands = near.stands; follows = far.stands; near = near.link; far = far.link; linked = near.linked; far_linked = far.linked }

-- ---- counts fall along the route

record OneLevel (packets : List Arrival) : Type 0 where
  level : ℕ
  levels : Each (λ p. p.level ≡ level) packets

one-level : (network : Network) (request : Request) (i : ℕ) (at : HopAt network request i) (run : List Done) → NetworkFits network → IsRun network run → ChannelAsked request run → OneLevel (packets_at network request i at run)
one-level network request i at run fits is asked =
    elim (cases_lt 0 (offers_to (channel_number request.chan) (part_of (link_number at.hop.link) run))) [
      | inl some ↦
          (let stands = stands-at network request run i at.hop (link_number at.hop.link) at.link fits is asked at.stands refl at.linked in
          let once = asked.once (link_number at.hop.link) in
          let has = stands.known (omega (arith, once, some)) in
          record { level = level_number has.row.terms.level; levels = has.tells.levels })
      | inr none ↦
          (let free = legal-free at.link.shape (terms_at request 0) (channel_number request.chan) (part_of (link_number at.hop.link) run) (part-admissible network run (link_number at.hop.link) at.link fits is at.linked) (omega (arith, none)) in
          record { level = 0; levels = subst (Each (λ p. p.level ≡ 0)) (sym free.packets) tt })
    ]

pub counts-fall : (network : Network) (request : Request) (i : ℕ) (near : HopAt network request i) (far : HopAt network request (suc i)) (run : List Done) → NetworkFits network → RequestFits network.links request → ((run : List Done) → IsRun network run → ChannelAsked request run) → IsRun network run → count_at network request (suc i) far run ≤ count_at network request i near run
counts-fall network request i near far run fits sound asked is =
    let level = one-level network request i near run fits is (asked run is) in
    let fewer = (hop-law network request i (two_of network request i near far) fits sound asked run is level.level level.levels).after.fewer in
    let a = length-map (packets_at network request i near run) tick_of_packet in
    let b = length-map (packets_at network request (suc i) far run) tick_of_packet in
    omega (arith, fewer, a, b)

pub counts-first : (network : Network) (request : Request) (first : HopAt network request 0) (i : ℕ) (at : HopAt network request i) (run : List Done) → NetworkFits network → RequestFits network.links request → ((run : List Done) → IsRun network run → ChannelAsked request run) → IsRun network run → count_at network request i at run ≤ count_at network request 0 first run
counts-first network request first zero at run fits sound asked is = (let same = same-count network request 0 at first run in omega (arith, same))
counts-first network request first (suc i) at run fits sound asked is =
    let within = slice_get_within request.route (suc i) at.hop at.stands in
    let before = hop-at network request i sound (omega (arith, within)) in
    let step = counts-fall network request i before at run fits sound asked is in
    let rest = counts-first network request first i before run fits sound asked is in
    omega (arith, step, rest)

-- ---- the row that is held

record HeldRow (chan : ChanNo) (rows : List Row) (terms : Reservation) : Type 0 where
  row : Row
  found : find (is_row_of chan) rows ≡ Some row
  is : row.terms ≡ terms

held-row : (chan : ChanNo) (rows : List Row) (terms : Reservation) → held_by chan rows ≡ Some terms → HeldRow chan rows terms
held-row chan [] terms held = cc
held-row chan (row ∷ rows) terms held =
    elim (cases_Bool (is_of chan row.terms)) [
      | inl own ↦ record { row = row; found = rw own refl; is = same_Some row.terms terms (rw own at held) }
      | inr off ↦ (let rest = held-row chan rows terms (rw off at held) in record { row = rest.row; found = rw off rest.found; is = rest.is })
    ]

-- ---- an arrive finds it ready

pub record FindsReady (network : Network) (request : Request) (i : ℕ) (near : HopAt network request i) (far : HopAt network request (suc i)) (past : List Done) (packet : Packet) : Type 0 where
  pub level : ℕ
  pub levels : Each (λ p. p.level ≡ level) (packets_at network request i near past)
  pub ready : FarReady network request i (two_of network request i near far) past packet level

ready-held : (network : Network) (request : Request) (i : ℕ) (near : HopAt network request i) (far : HopAt network request (suc i)) (past : List Done) (packet : Packet) (terms : Reservation) → NetworkFits network → RequestFits network.links request → ChannelAsked request past → IsRun network past → channel_number packet.chan ≡ channel_number request.chan → Levelled network request past
    → held_at_hop network request (suc i) far past ≡ Some terms → (terms.phase ≡ Ph.Tentative → ⊥) → (terms.phase ≡ Ph.Closing → count_at network request (suc i) far past < terms.count) → FindsReady network request i near far past packet
ready-held network request i near far past packet terms fits sound asked run chan levelled held settled counts =
    let own = held-row request.chan (scan_of far.link.shape (part_of (link_number far.hop.link) past)).rows terms held in
    let found : find (is_row_of packet.chan) (scan_of far.link.shape (part_of (link_number far.hop.link) past)).rows ≡ Some own.row = ap (λ n. find (λ r. nat_eq (channel_number r.terms.chan) n) (scan_of far.link.shape (part_of (link_number far.hop.link) past)).rows) chan ∙ own.found in
    let row-chan : channel_of own.row ≡ channel_number request.chan = row-of request.chan own.row (find-passes (is_row_of request.chan) own.row _ own.found) in
    let tells = hop-tells network request (suc i) far past own.row (is_row_of request.chan) fits run asked own.found row-chan in
    let ticks = own-count own.row.ticks _ tells.eligible in
    let kept = levelled.rows.kept (suc i) far terms held in
    let order = Each-find (IsInOrder far.link.shape (clock_of (part_of (link_number far.hop.link) past))) (is_row_of request.chan) _ own.row (legal-order far.link.shape (part_of (link_number far.hop.link) past) (part-admissible network past (link_number far.hop.link) far.link fits run far.linked)).held own.found in
    record {
      level = get_level levelled.levels;
      levels = levelled.packets i near;
      ready = record {
        row = own.row;
        found = found;
        settled = λ tentative. settled (ap (λ k. k.phase) (sym own.is) ∙ tentative);
        counts = λ closes. (let less = counts (ap (λ k. k.phase) (sym own.is) ∙ closes) in let same : own.row.terms.count ≡ terms.count = ap (λ k. k.count) own.is in omega (arith, less, same, ticks));
        some = bound-least far.link.shape.bounds (level_number own.row.terms.level) far.link.shape.bounds_rise order.level_least order.level_most;
        reckons = (let same : own.row.terms.up_bound ≡ bound_at near.link.shape.bounds (get_level levelled.levels) = ap (λ k. k.up_bound) own.is ∙ kept.up_bound ∙ ap (λ h. Rattle.setup_protocol.specs.Setup.bound_if h (get_level levelled.levels)) near.stands ∙ ap (λ bs. bound_at bs (get_level levelled.levels)) near.bounds in omega (arith, same));
      };
    } where
      get_level : List ℕ → ℕ
      get_level levels = Rattle.std.specs.Prelude.get_or levels i 0

pub run-ready : (network : Network) (request : Request) (owner : ℕ) (i : ℕ) (near : HopAt network request i) (far : HopAt network request (suc i)) (done : Done) (past : List Done) (packet : Packet) → NetworkFits network → RequestFits network.links request → OwnedFully network request owner → IsRun network past → (next : IsNext network past done) → LegStands network request i (two_of network request i near far) past → done.ask ≡ Arrive packet → channel_number packet.chan ≡ channel_number request.chan → link_number done.link ≡ link_number far.hop.link
    → FindsReady network request i near far past packet
run-ready network request owner i near far done past packet fits sound full run next leg arrives chan at =
    let names = fully-asked network request owner fits sound full in
    let first = hop-at network request 0 sound sound.route.least in
    let turn = arrive-in-turn network request i (two_of network request i near far) done past packet fits run next arrives chan at leg in
    let from = from-near network request i (two_of network request i near far) past done packet fits sound run (names past run) (arrive-comes network past done packet fits run next arrives) chan at in
    let own : Among from.taken (packets_at network request i near past) = Among-passes (is_of_channel (channel_number request.chan)) from.taken (packets_on near.link (link_number near.hop.link) past) from.own from.among in
    let row = packet-offered network request past (link_number near.hop.link) near.link from.taken fits run (names past run) sound near.linked from.own from.among in
    let place = place-of 0 (packets_at network request i near past) from.taken row.row.tells.numbered own in
    let within = place.within in
    let number = place.number in
    let same = from.number in
    let most = counts-first network request first i near past fits sound names run in
    let some : count_at network request (suc i) far past < count_at network request 0 first past = omega (arith, turn, within, number, same, most) in
    let levelled = run-levelled network request owner first past fits sound full run (omega (arith, some)) in
    by-fate first some levelled ((run-chain network request owner first past fits sound full run).fates (omega (arith, some)) (suc i) far) where
      by-fate : (first : HopAt network request 0) → count_at network request (suc i) far past < count_at network request 0 first past → Levelled network request past → Fate (count_at network request 0 first past) (count_at network request (suc i) far past) (held_at_hop network request (suc i) far past) → FindsReady network request i near far past packet
      by-fate first some levelled (FateOpen terms is phase) = ready-held network request i near far past packet terms fits sound (fully-asked network request owner fits sound full past run) run chan levelled is (λ tent. (let clash : Ph.Tentative ≡ Ph.Committed = sym tent ∙ phase in cc)) (λ closes. absurd (let clash : Ph.Closing ≡ Ph.Committed = sym closes ∙ phase in cc))
      by-fate first some levelled (FateClosing terms is phase upto) = ready-held network request i near far past packet terms fits sound (fully-asked network request owner fits sound full past run) run chan levelled is (λ tent. (let clash : Ph.Tentative ≡ Ph.Closing = sym tent ∙ phase in cc)) (λ closes. omega (arith, some, upto))
      by-fate first some levelled (FateGone none upto) = absurd (omega (arith, some, upto))

-- ---- the queue of each leg, in every run

pub run-legs : (network : Network) (request : Request) (owner : ℕ) (i : ℕ) (near : HopAt network request i) (far : HopAt network request (suc i)) (run : List Done) → NetworkFits network → RequestFits network.links request → OwnedFully network request owner → IsRun network run → LegStands network request i (two_of network request i near far) run
unfolding IsRun
run-legs network request owner i near far [] fits sound full is = leg-start network request i (two_of network request i near far)
run-legs network request owner i near far (done ∷ past) fits sound full is =
    let leg = run-legs network request owner i near far past fits sound full is.0 in
    let names = fully-asked network request owner fits sound full in
    let level = one-level network request i near past fits is.0 (names past is.0) in
    leg-step network request i (two_of network request i near far) done past fits sound names is
    (λ packet arrives chan at. (let ready = run-ready network request owner i near far done past packet fits sound full is.0 is.1 leg arrives chan at in
    ready-counts network request i (two_of network request i near far) done past ready.level fits sound names is.0 is.1 leg ready.levels (λ p arrives' chan' at'. subst (λ q. FarReady network request i (two_of network request i near far) past q ready.level) (same-packet packet p (sym arrives ∙ arrives')) ready.ready) packet arrives chan at)) leg

-- ---- so it is taken

pub ready-taken : (network : Network) (request : Request) (i : ℕ) (two : TwoHops network request i) (done : Done) (past : List Done) (packet : Packet) (level : ℕ) → NetworkFits network → RequestFits network.links request → ((run : List Done) → IsRun network run → ChannelAsked request run) → IsRun network past → (next : IsNext network past done) → LegStands network request i two past
    → Each (λ p. p.level ≡ level) (channel_packets (channel_number request.chan) (packets_on two.near (link_number two.hop.link) past))
    → done.ask ≡ Arrive packet → channel_number packet.chan ≡ channel_number request.chan → link_number done.link ≡ link_number two.after.link → FarReady network request i two past packet level
    → (clock : ℕ) × (eligible : ℕ) × (done.reply ≡ Is.Taken clock eligible)
unfolding scan_of reply_to
ready-taken network request i two done past packet level fits sound asked run next leg levels arrives chan at is =
    let tells = far-row-at network request i two past packet is.row fits sound run (asked past run) is.found chan in
    let turn = arrive-in-turn network request i two done past packet fits run next arrives chan at leg in
    let count = own-count is.row.ticks _ tells.eligible in
    let number : packet.number ≡ suc (length is.row.ticks) = omega (arith, turn, count) in
    let small = arrive-small network request i two done past packet fits sound run (asked past run) next arrives chan at in
    let narrow : is.row.terms.contract.smax ≡ request.contract.smax = ap (λ k. k.smax) tells.contract_is in
    let slot = slot-free network request i two past done packet is.row level fits sound asked run next arrives at levels is.found chan number is.some is.settled is.reckons in
    let link : next.link ≡ two.far = same_Some next.link two.far (sym next.linked ∙ ap (slice_get network.links) at ∙ two.far_linked) in
    let answered : done.reply ≡ reply_to two.far (part_of (link_number two.after.link) past) done.ask = next.answered ∙ ap (λ s. reply_to s (part_of (link_number done.link) past) done.ask) link ∙ ap (λ m. reply_to two.far (part_of m past) done.ask) at in (
      clock_of (part_of (link_number two.after.link) past),
      eligible_next is.row.terms is.row.ticks (clock_of (part_of (link_number two.after.link) past)) packet.due,
      answered ∙ ap (reply_to two.far (part_of (link_number two.after.link) past)) arrives ∙ replied two.far (clock_of (part_of (link_number two.after.link) past)) packet (scan_of two.far.shape (part_of (link_number two.after.link) past)) is.row is.found
          ∙ taken-reply two.far.shape.bounds (clock_of (part_of (link_number two.after.link) past)) packet is.row.terms (length is.row.ticks) _ _ (tells.first_is ∙ ne_eqb (suc i) 0 (λ same. omega (arith, same))) is.settled number is.counts (omega (arith, small, narrow)) slot,
    )

-- an arrive of the channel comes at a later hop of its route
pub record ArrivesAt (network : Network) (request : Request) (done : Done) : Type 0 where
  pub i : ℕ
  pub near : HopAt network request i
  pub far : HopAt network request (suc i)
  pub on : link_number done.link ≡ link_number far.hop.link

pub arrives-at : (network : Network) (request : Request) (done : Done) (past : List Done) (packet : Packet) → NetworkFits network → RequestFits network.links request → ChannelAsked request past → IsRun network past → (next : IsNext network past done) → done.ask ≡ Arrive packet → channel_number packet.chan ≡ channel_number request.chan → ArrivesAt network request done
arrives-at network request done past packet fits sound asked run next arrives chan =
    let comes = arrive-comes network past done packet fits run next arrives in
    let from = comes.from in
    let own : channel_number from.taken.chan ≡ channel_number request.chan = ap channel_number (sym from.chan) ∙ ap (λ p. channel_number p.chan) comes.same ∙ chan in
    let mine : is_of_channel (channel_number request.chan) from.taken ≡ true = and_from (nat_eq (channel_number from.taken.chan) (channel_number request.chan)) (nat_lt 0 from.taken.number) (eq-eqb (channel_number from.taken.chan) (channel_number request.chan) own) (lt-ltb 0 from.taken.number from.numbered) in
    let row = packet-offered network request past from.n from.link from.taken fits run asked sound from.linked mine from.among in
    let packets : Among from.taken (channel_packets (channel_number request.chan) (packets_on from.link from.n past)) = Among-passes (is_of_channel (channel_number request.chan)) from.taken (packets_on from.link from.n past) mine from.among in
    let named : from.taken.next ≡ option_map hop_link (slice_get request.route (suc row.route.index)) = Rattle.link_steps.proofs.SearchAndFilter.Each-among (λ p. p.next ≡ (terms_at request row.route.index).next) from.taken _ row.row.tells.nexts packets in
    let after = next-link (slice_get request.route (suc row.route.index)) comes.flight.to (sym named ∙ from.next) in
    let within = slice_get_within request.route (suc row.route.index) after.0 after.1 in
    let far = hop-at network request (suc row.route.index) sound within in
    record {
      i = row.route.index;
      near = hop-at network request row.route.index sound (omega (arith, within));
      far = far;
      on = sym (ap link_number (after.2 ∙ comes.to)) ∙ ap link_of (same_Some after.0 far.hop (sym after.1 ∙ far.stands));
    }

-- each arrive of the channel in every run is taken
pub arrives-taken : (network : Network) (request : Request) (owner : ℕ) (done : Done) (past : List Done) (packet : Packet) → NetworkFits network → RequestFits network.links request → OwnedFully network request owner → IsRun network past → (next : IsNext network past done) → done.ask ≡ Arrive packet → channel_number packet.chan ≡ channel_number request.chan → (clock : ℕ) × (eligible : ℕ) × (done.reply ≡ Is.Taken clock eligible)
arrives-taken network request owner done past packet fits sound full run next arrives chan =
    let names = fully-asked network request owner fits sound full in
    let at = arrives-at network request done past packet fits sound (names past run) run next arrives chan in
    let leg = run-legs network request owner at.i at.near at.far past fits sound full run in
    let ready = run-ready network request owner at.i at.near at.far done past packet fits sound full run next leg arrives chan at.on in
    ready-taken network request at.i (two_of network request at.i at.near at.far) done past packet ready.level fits sound names run next leg ready.levels arrives chan at.on ready.ready
