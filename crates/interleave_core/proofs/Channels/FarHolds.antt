-- In every run: once a packet of a channel was taken at its first hop, each hop holds it committed, or closing with a
-- count of at least so many, or has taken so many and let it go.
use Rattle.std.proofs.Common.{◌≡◌, ℕ, suc, ◌≤◌, Bool, List, ◌∷◌, ◌++◌, length, Option, Some, None, refl, sym, ap, ◌∙◌, subst, inl, inr, arith}
use Rattle.run_engine.proofs.Words.{cases_lt, eq-eqb, length-append, find, link_number, channel_number, Ask, Reserve, Tick, Entry, Reply, LinkShape, IsAdmissible, Reservation, Row, clock_of, scan_of, RequestFits, asked, Request, Done, is_of_channel, channel_packets, channel_of, offers_with, offers_to, RowTells, IsOnly, IsElsewhere, NetworkFits, Network, part_of, IsNext, IsRun, IsMild, held_by, ComesOf, Stays, Closed, packets_on, terms_at, ChannelAsked, HopAt, packets_at, count_at}
use Rattle.std.proofs.lemmas.List.Elements.{filter-append}
use Rattle.link_steps.specs.declared.replies.Phase.TheVariants as Ph
use Rattle.link_steps.specs.declared.replies.Reply.TheVariants as Is
use Rattle.link_steps.proofs.LegalChannels.{legal-channels}
use Rattle.link_steps.proofs.LegalOrder.{legal-order}
use Rattle.link_steps.proofs.SearchAndFilter.{Each-find}
use Rattle.channel_laws.proofs.ChannelRows.{own-count, legal-free}
use Rattle.run_engine.proofs.Flights.FlightOrigins.{part-grows}
use Rattle.channel_laws.proofs.HoldFates.{Fate, FateOpen, FateClosing, FateGone, NoSecond, TellsAll, NotCommitted, fate-after, first-quiet}
use Rattle.run_engine.proofs.Channels.ChannelsAt.{stands-at}
use Rattle.run_engine.proofs.Channels.RowsFollow.{held_at_hop, hop-may}
use Rattle.run_engine.proofs.Replies.RunGoes.{hop-comes}
use Rattle.run_engine.proofs.Runs.RunLegal.{part-admissible, by-part}
use Rattle.run_engine.proofs.Runs.RunFronts.{run-more}

-- ---- one hop

pub hop-tells : (network : Network) (request : Request) (i : ℕ) (at : HopAt network request i) (run : List Done) (row : Row) (test : Row → Bool) → NetworkFits network → IsRun network run → ChannelAsked request run → find test (scan_of at.link.shape (part_of (link_number at.hop.link) run)).rows ≡ Some row → channel_of row ≡ channel_number request.chan
    → RowTells (terms_at request i) (channel_number request.chan) row (packets_at network request i at run)
hop-tells network request i at run row test fits is asked found chan =
    elim (cases_lt 0 (offers_to (channel_number request.chan) (part_of (link_number at.hop.link) run))) [
      | inl some ↦
          (let stands = stands-at network request run i at.hop (link_number at.hop.link) at.link fits is asked at.stands refl at.linked in
          let once = asked.once (link_number at.hop.link) in
          let has = stands.known (omega (arith, once, some)) in
          let same : row ≡ has.row = Each-find (IsOnly (channel_number request.chan) has.row) test _ row has.only found chan in
          subst (λ r. RowTells (terms_at request i) (channel_number request.chan) r (packets_at network request i at run)) (sym same) has.tells)
      | inr none ↦
          (let free = legal-free at.link.shape (terms_at request 0) (channel_number request.chan) (part_of (link_number at.hop.link) run) (part-admissible network run (link_number at.hop.link) at.link fits is at.linked) (omega (arith, none)) in
          absurd (Each-find (IsElsewhere (channel_number request.chan)) test _ row free.rows found chan))
    ]

pub count-grows : (network : Network) (request : Request) (i : ℕ) (at : HopAt network request i) (done : Done) (past : List Done) → count_at network request i at past ≤ count_at network request i at (done ∷ past)
count-grows network request i at done past =
    let grows = part-grows at.link (link_number at.hop.link) done past in
    let same : packets_at network request i at (done ∷ past) ≡ packets_at network request i at past ++ channel_packets (channel_number request.chan) grows.more =
    ap (channel_packets (channel_number request.chan)) grows.is ∙ filter-append (is_of_channel (channel_number request.chan)) (packets_on at.link (link_number at.hop.link) past) grows.more in
    let long = ap length same ∙ length-append (packets_at network request i at past) (channel_packets (channel_number request.chan) grows.more) in
    omega (arith, long)

no-second : (shape : LinkShape) (request : Request) (h : List Entry) (ask : Ask) (reply : Reply) (least : ℕ) → IsAdmissible shape h → offers_with (channel_number request.chan) (offers_to (channel_number request.chan) h) ask reply ≤ 1 → 1 ≤ least
    → Fate least (length (channel_packets (channel_number request.chan) (scan_of shape h).packets)) (held_by request.chan (scan_of shape h).rows) → NoSecond request.chan (scan_of shape h).rows ask reply
no-second shape request h (Reserve other contract kind delay up_reach first next) (Is.Offer level reach) least legal once some (FateOpen terms is phase) = λ same none. (let clash : Some terms ≡ None = sym is ∙ none in cc)
no-second shape request h (Reserve other contract kind delay up_reach first next) (Is.Offer level reach) least legal once some (FateClosing terms is phase upto) = λ same none. (let clash : Some terms ≡ None = sym is ∙ none in cc)
no-second shape request h (Reserve other contract kind delay up_reach first next) (Is.Offer level reach) least legal once some (FateGone gone upto) = λ same none.
    (let more : suc (offers_to (channel_number request.chan) h) ≤ 1 = rw (eq-eqb (channel_number other) (channel_number request.chan) same) at once in
    let free = legal-free shape (terms_at request 0) (channel_number request.chan) h legal (omega (arith, more)) in
    let zero' : length (channel_packets (channel_number request.chan) (scan_of shape h).packets) ≡ 0 = ap length free.packets in omega (arith, zero', upto, some))
no-second shape request h _ _ least legal once some fate = tt

-- an entry keeps a hop's fate
pub hop-fate : (network : Network) (request : Request) (i : ℕ) (at : HopAt network request i) (done : Done) (past : List Done) (least : ℕ) → NetworkFits network → RequestFits network.links request → ((run : List Done) → IsRun network run → ChannelAsked request run) → IsRun network past → (next : IsNext network past done) → 1 ≤ least
    → (link_number done.link ≡ link_number at.hop.link → TellsAll (channel_number request.chan) least (count_at network request i at past) done.ask) → Fate least (count_at network request i at past) (held_at_hop network request i at past) → Fate least (count_at network request i at (done ∷ past)) (held_at_hop network request i at (done ∷ past))
unfolding scan_of offers_to
hop-fate network request i at done past least fits sound asked run next some tells fate =
    let legal = part-admissible network past (link_number at.hop.link) at.link fits run at.linked in
    by-part (λ h. offers_to (channel_number request.chan) h ≤ 1 → count_at network request i at past ≤ length (channel_packets (channel_number request.chan) (scan_of at.link.shape h).packets) → Fate least (length (channel_packets (channel_number request.chan) (scan_of at.link.shape h).packets)) (held_by request.chan (scan_of at.link.shape h).rows)) (link_number at.hop.link) done past
    (λ e once grows. fate-after at.link.shape request.chan (clock_of (part_of (link_number at.hop.link) past)) (scan_of at.link.shape (part_of (link_number at.hop.link) past)) done.ask done.reply least (count_at network request i at past) _
    (legal-channels at.link.shape (part_of (link_number at.hop.link) past) legal) (hop-may network request i at done past fits run next e)
    (λ row chan test found. sym (own-count row.ticks _ (hop-tells network request i at past row test fits run (asked past run) found chan).eligible)) grows
    (no-second at.link.shape request (part_of (link_number at.hop.link) past) done.ask done.reply least legal once some fate) (tells e) fate)
    (λ off once grows. fate)
    ((asked (done ∷ past) (run-more network past done run next)).once (link_number at.hop.link)) (count-grows network request i at done past)

-- the first hop takes no packet but by a tick while it is committed
pub first-same : (network : Network) (request : Request) (first : HopAt network request 0) (done : Done) (past : List Done) → NetworkFits network → ChannelAsked request past → IsRun network past → (next : IsNext network past done) → (done.ask ≡ Tick → NotCommitted (held_at_hop network request 0 first past)) → count_at network request 0 first (done ∷ past) ≡ count_at network request 0 first past
unfolding scan_of
first-same network request first done past fits asked run next none =
    let legal = part-admissible network past (link_number first.hop.link) first.link fits run first.linked in
    by-part (λ h. length (channel_packets (channel_number request.chan) (scan_of first.link.shape h).packets) ≡ count_at network request 0 first past) (link_number first.hop.link) done past
    (λ e. ap length (first-quiet first.link.shape request.chan (clock_of (part_of (link_number first.hop.link) past)) (scan_of first.link.shape (part_of (link_number first.hop.link) past)) done.ask done.reply (legal-channels first.link.shape (part_of (link_number first.hop.link) past) legal) (legal-order first.link.shape (part_of (link_number first.hop.link) past) legal).held (hop-may network request 0 first done past fits run next e)
    (λ row chan test found. (hop-tells network request 0 first past row test fits run asked found chan).first_is) none))
    (λ off. refl)

pub committed-comes : (terms : Reservation) (before : Option Reservation) → terms.phase ≡ Ph.Committed → ComesOf terms before → before ≡ Some terms
committed-comes terms before phase (Stays is) = is
committed-comes terms before phase (Closed old count is closed) = absurd (let clash : Ph.Committed ≡ Ph.Closing = sym phase ∙ ap (λ k. k.phase) closed in cc)

-- ---- the first hop after its release

pub record Frozen (network : Network) (request : Request) (first : HopAt network request 0) (run : List Done) (told : ℕ) : Type 0 where
  pub upto : count_at network request 0 first run ≡ told
  pub closes : (terms : Reservation) → held_at_hop network request 0 first run ≡ Some terms → terms.phase ≡ Ph.Closing

pub closing-comes : (terms : Reservation) (before : Option Reservation) → ((old : Reservation) → before ≡ Some old → old.phase ≡ Ph.Closing) → ComesOf terms before → terms.phase ≡ Ph.Closing
closing-comes terms before closes (Stays is) = closes terms is
closing-comes terms before closes (Closed old count is closed) = ap (λ k. k.phase) closed

pub frozen-later : (network : Network) (request : Request) (first : HopAt network request 0) (done : Done) (past : List Done) (told : ℕ) → NetworkFits network → ChannelAsked request past → IsRun network past → (next : IsNext network past done) → IsMild (channel_number request.chan) done.ask → Frozen network request first past told → Frozen network request first (done ∷ past) told
frozen-later network request first done past told fits asked run next mild was = record {
  upto = (let same = first-same network request first done past fits asked run next (λ tick terms held phase. (let clash : Ph.Committed ≡ Ph.Closing = sym phase ∙ was.closes terms held in cc)) in let upto = was.upto in omega (arith, same, upto));
  closes = λ terms held. closing-comes terms (held_at_hop network request 0 first past) was.closes (hop-comes network request done past fits run 0 first terms mild held);
}
