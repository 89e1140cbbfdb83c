-- Past the first hop an arrive is taken where its row is ready.
use Rattle.std.proofs.Common.{◌≡◌, ℕ, suc, ◌<◌, ◌≤◌, false, not, List, [], ◌∷◌, length, Some, None, refl, sym, ap, ◌∙◌, inl, inr, arith}
use Rattle.run_engine.proofs.Words.{cases_Bool, eq-eqb, ne_eqb, le-leb, leb-true, lt-ltb, length-append, same_Some, slice_get, find, nat_le, bound_at, link_number, channel_number, level_number, Arrive, Packet, Phase, Tentative, Committed, Closing, Reply, LinkShape, Link, slots_of, held_packets, Each, eligible_next, arrive_reply, arrive_to, reply_at, reply_to, Reservation, is_phase, Row, Scan, clock_of, scan_of, is_row_of, arrived_packet, with_arrival, after, here_at, RequestFits, Request, Done, channel_packets, channel_of, NetworkFits, Network, part_of, IsNext, IsRun, packets_on, ChannelAsked}
use Rattle.link_steps.specs.declared.replies.Reply.TheVariants as Is
use Rattle.link_steps.specs.declared.replies.Refusal.TheVariants.{Full, Stray}
use Rattle.link_steps.specs.declared.replies.Why.TheVariants.{FirstHop, Uncommitted, WrongNumber, Big}
use Rattle.link_steps.specs.Refusals.{RefusalRule, refused_unless, first_refusal, first_hop, uncommitted, wrong_number, past_count, big, full}
use Rattle.interleave_core.proofs.Delays.BufferLaw.{slot-free}
use Rattle.channel_laws.proofs.ChannelRows.{own-count, packets-on, row-of, find-passes}
use Rattle.interleave_core.proofs.Delays.HopLaw.{TwoHops, far-row-at}
use Rattle.interleave_core.proofs.Flights.LegLaw.{LegStands, ArriveCounts, arrive-in-turn, arrive-small}
use Rattle.run_engine.proofs.Runs.RunLegal.{part-on}

-- the row that takes the packet
pub record FarReady (network : Network) (request : Request) (i : ℕ) (two : TwoHops network request i) (past : List Done) (packet : Packet) (level : ℕ) : Type 0 where
  pub row : Row
  pub found : find (is_row_of packet.chan) (scan_of two.far.shape (part_of (link_number two.after.link) past)).rows ≡ Some row
  pub settled : row.terms.phase ≡ Tentative → ⊥
  pub counts : row.terms.phase ≡ Closing → length row.ticks < row.terms.count
  pub some : 1 ≤ bound_at two.far.shape.bounds (level_number row.terms.level)
  pub reckons : bound_at two.near.shape.bounds level ≤ row.terms.up_bound

not-tentative : (phase : Phase) → (phase ≡ Tentative → ⊥) → is_phase phase Tentative ≡ false
not-tentative Tentative settled = absurd (settled refl)
not-tentative Committed settled = refl
not-tentative Closing settled = refl

counts-on : (terms : Reservation) (taken : ℕ) → (terms.phase ≡ Closing → taken < terms.count) → past_count terms taken ≡ None
counts-on terms taken counts = by-phase terms.phase refl where
  by-phase : (phase : Phase) → terms.phase ≡ phase → past_count terms taken ≡ None
  by-phase Tentative is = rw is refl
  by-phase Committed is = rw is refl
  by-phase Closing is =
      elim (cases_Bool (nat_le terms.count taken)) [
        | inl more ↦ absurd (let a = leb-true terms.count taken more in let b = counts is in omega (arith, a, b))
        | inr less ↦ rw (is, less) refl
      ]

passes : (a b c d e f : RefusalRule) (r : Reply) → a ≡ None → b ≡ None → c ≡ None → d ≡ None → e ≡ None → f ≡ None → first_refusal (a ∷ b ∷ c ∷ d ∷ e ∷ f ∷ []) r ≡ r
passes a b c d e f r pa pb pc pd pe pf = rw (pa, pb, pc, pd, pe, pf) refl

pub taken-reply : (bounds : List ℕ) (t : ℕ) (packet : Packet) (terms : Reservation) (taken held e : ℕ) → terms.first ≡ false → (terms.phase ≡ Tentative → ⊥) → packet.number ≡ suc taken → (terms.phase ≡ Closing → taken < terms.count) → packet.size ≤ terms.contract.smax → held < slots_of bounds terms → arrive_reply bounds t packet terms taken held e ≡ Is.Taken t e
unfolding arrive_reply
taken-reply bounds t packet terms taken held e first settled number counts small slot =
    passes (first_hop terms) (uncommitted terms) (wrong_number packet.number (suc taken)) (past_count terms taken) (big terms packet.size) (full held (slots_of bounds terms)) (Is.Taken t e)
    (ap (λ b. refused_unless (not b) (Stray FirstHop)) first)
    (ap (λ b. refused_unless (not b) (Stray Uncommitted)) (not-tentative terms.phase settled))
    (ap (λ b. refused_unless b (Stray (WrongNumber (suc taken)))) (eq-eqb packet.number (suc taken) number))
    (counts-on terms taken counts)
    (ap (λ b. refused_unless b (Stray (Big terms.contract.smax))) (le-leb packet.size terms.contract.smax small))
    (ap (λ b. refused_unless b (Full held (slots_of bounds terms))) (lt-ltb held (slots_of bounds terms) slot))

-- what the arrive leaves
counted : (c t : ℕ) (shape : LinkShape) (packet : Packet) (scan : Scan) (row : Row) (e : ℕ) → 1 ≤ packet.number → find (is_row_of packet.chan) scan.rows ≡ Some row → channel_of row ≡ c → length (channel_packets c (after shape t scan (Arrive packet) (Is.Taken t e)).packets) ≡ suc (length (channel_packets c scan.packets))
unfolding after with_arrival
counted c t shape packet scan row e numbered found own =
    ap (λ f. length (channel_packets c (with_arrival t packet scan f).packets)) found
    ∙ ap length (packets-on c scan.packets (arrived_packet t (suc (length scan.packets)) packet row) own numbered)
    ∙ length-append (channel_packets c scan.packets) (arrived_packet t (suc (length scan.packets)) packet row ∷ []) ∙ omega arith

pub replied : (link : Link) (t : ℕ) (packet : Packet) (scan : Scan) (row : Row) → find (is_row_of packet.chan) scan.rows ≡ Some row → reply_at link t scan (Arrive packet) ≡ arrive_reply link.shape.bounds t packet row.terms (length row.ticks) (held_packets row.lead (here_at link.shape.rate scan.packets t)) (eligible_next row.terms row.ticks t packet.due)
unfolding reply_at
replied link t packet scan row found = ap (arrive_to link.shape t scan.packets packet) found

-- a packet whose row is ready is taken
pub ready-counts : (network : Network) (request : Request) (i : ℕ) (two : TwoHops network request i) (done : Done) (past : List Done) (level : ℕ) → NetworkFits network → RequestFits network.links request → ((run : List Done) → IsRun network run → ChannelAsked request run) → IsRun network past → (next : IsNext network past done) → LegStands network request i two past
    → Each (λ p. p.level ≡ level) (channel_packets (channel_number request.chan) (packets_on two.near (link_number two.hop.link) past))
    → ((packet : Packet) → done.ask ≡ Arrive packet → channel_number packet.chan ≡ channel_number request.chan → link_number done.link ≡ link_number two.after.link → FarReady network request i two past packet level)
    → ArriveCounts network request i two done past
unfolding scan_of reply_to
ready-counts network request i two done past level fits sound asked run next leg levels ready packet arrives chan at =
    let is = ready packet arrives chan at in
    let tells = far-row-at network request i two past packet is.row fits sound run (asked past run) is.found chan in
    let own : channel_of is.row ≡ channel_number request.chan = row-of packet.chan is.row (find-passes (is_row_of packet.chan) is.row _ is.found) ∙ chan in
    let turn = arrive-in-turn network request i two done past packet fits run next arrives chan at leg in
    let count = own-count is.row.ticks _ tells.eligible in
    let number : packet.number ≡ suc (length is.row.ticks) = omega (arith, turn, count) in
    let small = arrive-small network request i two done past packet fits sound run (asked past run) next arrives chan at in
    let narrow : is.row.terms.contract.smax ≡ request.contract.smax = ap (λ k. k.smax) tells.contract_is in
    let slot = slot-free network request i two past done packet is.row level fits sound asked run next arrives at levels is.found chan number is.some is.settled is.reckons in
    let link : next.link ≡ two.far = same_Some next.link two.far (sym next.linked ∙ ap (slice_get network.links) at ∙ two.far_linked) in
    let answered : done.reply ≡ reply_to two.far (part_of (link_number two.after.link) past) done.ask = next.answered ∙ ap (λ s. reply_to s (part_of (link_number done.link) past) done.ask) link ∙ ap (λ m. reply_to two.far (part_of m past) done.ask) at in
    let reply : done.reply ≡ Is.Taken (clock_of (part_of (link_number two.after.link) past)) (eligible_next is.row.terms is.row.ticks (clock_of (part_of (link_number two.after.link) past)) packet.due) =
    answered ∙ ap (reply_to two.far (part_of (link_number two.after.link) past)) arrives ∙ replied two.far (clock_of (part_of (link_number two.after.link) past)) packet (scan_of two.far.shape (part_of (link_number two.after.link) past)) is.row is.found
    ∙ taken-reply two.far.shape.bounds (clock_of (part_of (link_number two.after.link) past)) packet is.row.terms (length is.row.ticks) _ _ (tells.first_is ∙ ne_eqb (suc i) 0 (λ same. omega (arith, same))) is.settled number is.counts (omega (arith, small, narrow)) slot in
    ap (λ h. length (channel_packets (channel_number request.chan) (scan_of two.far.shape h).packets)) (part-on (link_number two.after.link) done past at)
    ∙ ap (λ a. length (channel_packets (channel_number request.chan) (after two.far.shape (clock_of (part_of (link_number two.after.link) past)) (scan_of two.far.shape (part_of (link_number two.after.link) past)) a done.reply).packets)) arrives
    ∙ ap (λ r. length (channel_packets (channel_number request.chan) (after two.far.shape (clock_of (part_of (link_number two.after.link) past)) (scan_of two.far.shape (part_of (link_number two.after.link) past)) (Arrive packet) r).packets)) reply
    ∙ counted (channel_number request.chan) (clock_of (part_of (link_number two.after.link) past)) two.far.shape packet (scan_of two.far.shape (part_of (link_number two.after.link) past)) is.row _ (omega (arith, number)) is.found own
