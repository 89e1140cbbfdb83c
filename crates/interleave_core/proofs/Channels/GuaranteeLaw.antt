-- Every run of a network whose parts fit, and whose channels each have one owner, is guaranteed after each of its entries.
use Rattle.std.proofs.Common.{◌≡◌, ℕ, suc, ◌+◌, ◌-◌, ◌<◌, ◌≤◌, true, List, [], ◌∷◌, length, map, get_or, Some, None, refl, sym, ap, ◌∙◌, subst, inl, inr, arith}
use Rattle.run_engine.proofs.Words.{eq-eqb, ne_eqb, and_from, lt-ltb, take_all, same_Some, slice_get_within, slice_get, nat_eq, nat_lt, link_number, actor_number, channel_number, Jitter, Ask, Reserve, Arrive, Packet, Entry, Reply, LinkShape, IsAdmissible, LeavesInTime, HasLeftInTime, deadline_of, clock_of, scan_of, starts_of, Link, Each, Among, Arrival, Start, leaves_at, RequestFits, Accepts, Request, Done, HopTerms, is_of_channel, tick_of_packet, offers_with, offers_to, NetworkFits, Task, Network, network_of, part_of, replies_to, IsNext, IsRun, standing, outcome_in, OwnedFully, IsOwned, IsUnnamed, AllOwned, IsOff, delay_over, packets_on, terms_at, ChannelAsked, HopAt, reaches_at, bound_of, packets_at, hop_ticks, arrival_ticks, eligible_at, arrived_at, delay_before, Passed}
use Rattle.net_units.proofs.BoundsInOrder.{bound-least}
use Rattle.link_steps.specs.declared.replies.Reply.TheVariants as Is
use Rattle.link_steps.specs.SourceGuarantee.{arrival_of}
use Rattle.link_steps.proofs.HopHolds.{guaranteed}
use Rattle.link_steps.proofs.LegalOrder.{IsCarried, legal-order}
use Rattle.link_steps.proofs.SearchAndFilter.{Each-among}
use Rattle.link_steps.proofs.SourceHistory.{source-guarantee}
use Rattle.setup_protocol.specs.Laws.{KeepsRequest}
use Rattle.call_script.proofs.OneOwner.{all-owned}
use Rattle.call_script.proofs.PlansFit.{plan-fits}
use Rattle.interleave_core.proofs.Channels.AcceptedPath.{accepted-path}
use Rattle.channel_laws.proofs.ChannelRows.{legal-free}
use Rattle.channel_laws.proofs.DepartedCount.{channel-few}
use Rattle.channel_laws.proofs.NumberedPackets.{HasNumber, packets-have_numbers}
use Rattle.interleave_core.proofs.Delays.DepartLaw.{HaveTicks, path-departed}
use Rattle.channel_laws.proofs.FirstSource.{source-served}
use Rattle.interleave_core.proofs.Delays.HopLaw.{arrive-comes}
use Rattle.link_steps.proofs.PacketRows.{Among-passes}
use Rattle.interleave_core.proofs.Delays.PathDelays.{passed, close-delays}
use Rattle.interleave_core.proofs.Channels.AcceptedOnly.{taken-accepted}
use Rattle.interleave_core.proofs.Flights.ReadyRun.{arrives-taken, counts-first}
use Rattle.run_engine.proofs.Replies.RunCloses.{owned-once, fully-asked}
use Rattle.run_engine.proofs.Replies.RunGoes.{accepted-levels}
use Rattle.run_engine.proofs.Runs.RunLegal.{part-admissible, by-part}
use Rattle.interleave_core.proofs.Channels.KeptRequest.{accepted-kept}
use Rattle.interleave_core.specs.channels.Guarantee.{LeavesWithinBound, TakesArrive, IsOfAccepted, LinkGuaranteed, SourceKept, HasLeft, ChannelGuaranteed, Guaranteed}
use Rattle.interleave_core.specs.channels.Kept.{VerdictSums}
use Rattle.interleave_core.specs.channels.Laws.{EveryRunIsGuaranteed, EveryRunOfAPlanIsGuaranteed}
use Rattle.run_engine.proofs.Channels.HopsAt.{hop-at, HaveLevelsAt}
use Rattle.run_engine.proofs.Channels.ChannelsAt.{packets-numbered, packet-offered}
use Rattle.link_steps.proofs.FoundElements.{Each-from_among}
use Rattle.hop_reservation.proofs.OneMoreOffer.{AreLevels-at}
use Rattle.run_engine.proofs.Tasks.TaskAsks.{entry-off}

-- ---- an accepted channel

have-ticks : (network : Network) (request : Request) (levels : List ℕ) (delay : ℕ) → KeepsRequest request levels delay → HaveTicks network request levels
have-ticks network request levels delay keeps i at =
    let whole = keeps.have_levels.whole in
    let within = slice_get_within request.route i at.hop at.stands in
    let level = AreLevels-at request.route levels i at.hop keeps.have_levels.are_levels at.stands (omega (arith, whole, within)) in
    let most = level.most in
    let same : length at.hop.bounds ≡ length at.link.shape.bounds = ap length at.bounds in
    bound-least at.link.shape.bounds (get_or levels i 0) at.link.shape.bounds_rise level.least (omega (arith, most, same))

ticks-same : (own : List Arrival) → Each (λ p. p.eligible ≡ p.at) own → map tick_of_packet own ≡ map arrival_of own
ticks-same [] each = refl
ticks-same (p ∷ own) each = ap (λ t. t ∷ map tick_of_packet own) each.0 ∙ ap (λ ts. p.at ∷ ts) (ticks-same own each.1)

first-at-once : (network : Network) (request : Request) (first : HopAt network request 0) (run : List Done) → NetworkFits network → IsRun network run → ChannelAsked request run → SourceKept network request first run → hop_ticks network request 0 first run ≡ arrival_ticks network request first run
first-at-once network request first run fits is asked kept =
    ticks-same (packets_at network request 0 first run)
    (source-served first.link.shape (terms_at request 0) (channel_number request.chan) (part_of (link_number first.hop.link) run) (part-admissible network run (link_number first.hop.link) first.link fits is first.linked) (asked.names 0 first.hop first.stands) (asked.once (link_number first.hop.link)) kept).at_once

-- the delay over the whole route
delay-whole : (request : Request) (levels : List ℕ) (n : ℕ) → length levels ≡ n → delay_before request levels n ≡ delay_over request.route levels
delay-whole request levels n whole = ap (delay_over request.route) (take_all n levels (omega (arith, whole)))

-- its index by its number
same-index : (j k : ℕ) (start : Start) → start.packet.number ≡ suc j → start.packet.number ≡ suc k → j ≡ k
same-index j k start one other = omega (arith, one, other)

-- differences of delays
closer : (x y a b d : ℕ) → 1 ≤ d → x + b < y + a + d → x - a < (y - b) + d
closer x y a b d some close = omega (arith, some, close)

pub channel-guaranteed : (network : Network) (request : Request) (owner : ℕ) (tasks : List Task) (levels : List ℕ) (delay : ℕ) (first : HopAt network request 0) (run : List Done)
    → NetworkFits network → RequestFits network.links request → OwnedFully network request owner → IsRun network run → slice_get network.scripts owner ≡ Some tasks
    → outcome_in request.chan (standing tasks (replies_to owner run)).outcomes ≡ Some (Accepts levels delay) → ChannelGuaranteed network request levels delay first run
channel-guaranteed network request owner tasks levels delay first run fits sound full is found accepted = record {
  sum = sums.sum;
  keeps = sums.keeps;
  numbered = λ i at. packets-numbered network request run i at fits is (asked run is);
  has_levels = have.at;
  path = accepted-path network request owner run tasks levels delay fits sound full is found accepted;
  departs = λ i at k taken due. (let gone = path-departed network request owner levels run first i at k fits sound full is have ticks taken due in record { there = gone.0; departed = gone.1 });
  arrives = arrives;
  at_once = at-once;
  in_time = λ kept i at k start last left. (let by = arrives i at k start last left in let same = at-once kept k in omega (arith, by, same));
  close = λ jitter kept i at j k one other left left-other.
      (let p = left-at i at j one left in
      let q = left-at i at k other left-other in
      let inside : i < length levels = (let n = have.count in let w = slice_get_within request.route i at.hop at.stands in omega (arith, n, w)) in
      let near = close-delays network request levels run first i at one other inside jitter p q in
      let a : eligible_at first run p.index ≡ arrived_at first run j = ap (eligible_at first run) (same-index p.index j one p.number left.number) ∙ at-once kept j in
      let b : eligible_at first run q.index ≡ arrived_at first run k = ap (eligible_at first run) (same-index q.index k other q.number left-other.number) ∙ at-once kept k in
      closer (reaches_at at one) (reaches_at at other) (arrived_at first run j) (arrived_at first run k) (bound_of at levels) (ticks i at) (omega (arith, near, a, b)));
} where
  asked : (past : List Done) → IsRun network past → ChannelAsked request past
  asked = fully-asked network request owner fits sound full

  have : HaveLevelsAt network request levels run
  have = (accepted-levels network request owner run tasks levels delay fits sound (owned-once network request owner full) is found accepted).0

  sums : VerdictSums request levels delay
  sums = accepted-kept network request owner run tasks levels delay fits sound full is found accepted

  ticks : HaveTicks network request levels
  ticks = have-ticks network request levels delay sums.keeps

  at-once : SourceKept network request first run → (k : ℕ) → eligible_at first run k ≡ arrived_at first run k
  at-once kept k = ap (λ times. get_or times k 0) (first-at-once network request first run fits is (asked run is) kept)

  left-at : (i : ℕ) (at : HopAt network request i) (k : ℕ) (start : Start) → HasLeft network request i at run k start → Passed network request levels run first i at start
  left-at i at k start left = passed network request levels run fits sound asked is have first i at start left.among left.left left.own

  arrives : (i : ℕ) (at : HopAt network request i) (k : ℕ) (start : Start) → suc i ≡ length request.route → HasLeft network request i at run k start → reaches_at at start ≤ eligible_at first run k + delay
  arrives i at k start last left =
      let p = left-at i at k start left in
      let same : eligible_at first run p.index ≡ eligible_at first run k = ap (eligible_at first run) (same-index p.index k start p.number left.number) in
      let all = delay-whole request levels (suc i) (sums.keeps.have_levels.whole ∙ sym last) in
      let by = p.in_time in
      let sum = sums.sum in
      omega (arith, by, same, all, sum)

-- ---- a channel that no script names

off-offers : (c n : ℕ) (ask : Ask) (reply : Reply) → IsOff c ask → offers_with c n ask reply ≡ n
off-offers c n (Reserve chan contract kind delay up_reach first next) (Is.Offer level reach) off = rw (ne_eqb (channel_number chan) c off) refl
off-offers c n _ _ off = refl

unnamed-off : (network : Network) (c : ℕ) (done : Done) (past : List Done) → IsUnnamed network c → (next : IsNext network past done) → IsOff c done.ask
unnamed-off network c done past unnamed next = entry-off network c past done next (unnamed (actor_number done.actor))

unnamed-none : (network : Network) (c n : ℕ) (run : List Done) → IsUnnamed network c → IsRun network run → offers_to c (part_of n run) ≡ 0
unfolding IsRun part_of offers_to
unnamed-none network c n [] unnamed is = refl
unnamed-none network c n (done ∷ past) unnamed is =
    let rest = unnamed-none network c n past unnamed is.0 in
    by-part (λ h. offers_to c h ≡ 0) n done past (λ on. off-offers c (offers_to c (part_of n past)) done.ask done.reply (unnamed-off network c done past unnamed is.1) ∙ rest) (λ off. rest)

-- no numbered packet is of it
pub unnamed-packet : (network : Network) (n : ℕ) (link : Link) (p : Arrival) (run : List Done) → NetworkFits network → IsRun network run → slice_get network.links n ≡ Some link → Among p (packets_on link n run) → is_of_channel (channel_number p.chan) p ≡ true → IsUnnamed network (channel_number p.chan) → ⊥
unnamed-packet network n link p run fits is linked among own unnamed =
    let free = legal-free link.shape any-terms (channel_number p.chan) (part_of n run) (part-admissible network run n link fits is linked) (unnamed-none network (channel_number p.chan) n run unnamed is) in
    subst (Among p) free.packets (Among-passes (is_of_channel (channel_number p.chan)) p (packets_on link n run) own among) where
      any-terms : HopTerms
      any-terms = record { contract = record { xmin = 0; xave = 0; interval = 0; smax = 0 }; kind = Jitter; first = true; next = None }

-- a numbered packet is of its channel
pub own-channel : (p : Arrival) → 1 ≤ p.number → is_of_channel (channel_number p.chan) p ≡ true
own-channel p numbered = and_from (nat_eq (channel_number p.chan) (channel_number p.chan)) (nat_lt 0 p.number) (eq-eqb (channel_number p.chan) (channel_number p.chan) refl) (lt-ltb 0 p.number numbered)

unnamed-arrive : (network : Network) (done : Done) (past : List Done) (packet : Packet) → NetworkFits network → IsRun network past → (next : IsNext network past done) → done.ask ≡ Arrive packet → IsUnnamed network (channel_number packet.chan) → ⊥
unnamed-arrive network done past packet fits run next arrives unnamed =
    let comes = arrive-comes network past done packet fits run next arrives in
    let from = comes.from in
    let chan : channel_number packet.chan ≡ channel_number from.taken.chan = ap (λ p. channel_number p.chan) (sym comes.same) ∙ ap channel_number from.chan in
    unnamed-packet network from.n from.link from.taken past fits run from.linked from.among (own-channel from.taken from.numbered) (subst (IsUnnamed network) chan unnamed)

-- ---- only accepted channels have packets

pub some-there : (p : Arrival) (ps : List Arrival) → Among p ps → 1 ≤ length ps
some-there p [] among = absurd among
some-there p (q ∷ ps) among = omega arith

owned-packet : (network : Network) (run : List Done) (n : ℕ) (link : Link) (p : Arrival) → NetworkFits network → IsRun network run → slice_get network.links n ≡ Some link → Among p (packets_on link n run) → is_of_channel (channel_number p.chan) p ≡ true → IsOwned network (channel_number p.chan) → IsOfAccepted network run n p
owned-packet network run n link p fits is linked among own owned =
    let request : Request = owned.request in
    let asked = fully-asked network owned.request owned.owner fits owned.sound owned.full in
    let mine : is_of_channel (channel_number owned.request.chan) p ≡ true = subst (λ c. is_of_channel c p ≡ true) (sym owned.chan) own in
    let row = packet-offered network owned.request run n link p fits is (asked run is) owned.sound linked mine among in
    let hop = hop-at network owned.request row.route.index owned.sound (slice_get_within owned.request.route row.route.index row.route.hop row.route.stands) in
    let first = hop-at network owned.request 0 owned.sound owned.sound.route.least in
    let on : link_number hop.hop.link ≡ n = ap (λ h. link_number h.link) (same_Some hop.hop row.route.hop (sym hop.stands ∙ row.route.stands)) ∙ row.route.number in
    let same : hop.link ≡ link = same_Some hop.link link (sym hop.linked ∙ ap (slice_get network.links) on ∙ linked) in
    let there : Among p (packets_on hop.link (link_number hop.hop.link) run) = subst (λ l. Among p (packets_on l (link_number hop.hop.link) run)) (sym same) (subst (λ m. Among p (packets_on link m run)) (sym on) among) in
    let some = some-there p (packets_at network owned.request row.route.index hop run) (Among-passes (is_of_channel (channel_number owned.request.chan)) p (packets_on hop.link (link_number hop.hop.link) run) mine there) in
    let fewer = counts-first network owned.request first row.route.index hop run fits owned.sound asked is in
    record {
      request = owned.request;
      owner = owned.owner;
      sound = owned.sound;
      full = owned.full;
      chan = owned.chan;
      index = row.route.index;
      hop = hop;
      on = on;
      accepted = taken-accepted network owned.request owned.owner first run fits owned.sound owned.full is (omega (arith, some, fewer));
    }

packet-accepted : (network : Network) (run : List Done) (n : ℕ) (link : Link) (p : Arrival) → NetworkFits network → AllOwned network → IsRun network run → slice_get network.links n ≡ Some link → Among p (packets_on link n run) → 1 ≤ p.number → IsOfAccepted network run n p
packet-accepted network run n link p fits owned is linked among numbered =
    elim (owned (channel_number p.chan)) [
      | inl own ↦ owned-packet network run n link p fits is linked among (own-channel p numbered) own
      | inr unnamed ↦ absurd (unnamed-packet network n link p run fits is linked among (own-channel p numbered) unnamed)
    ]

-- ---- every run

arrive-taken : (network : Network) (done : Done) (past : List Done) (ask : Ask) → NetworkFits network → AllOwned network → IsRun network past → (next : IsNext network past done) → done.ask ≡ ask → TakesArrive ask done.reply
arrive-taken network done past (Arrive packet) fits owned run next is =
    elim (owned (channel_number packet.chan)) [
      | inl own ↦ arrives-taken network own.request own.owner done past packet fits own.sound own.full run next is (sym own.chan)
      | inr unnamed ↦ absurd (unnamed-arrive network done past packet fits run next is unnamed)
    ]
arrive-taken network done past _ fits owned run next is = tt

pub all-arrives : (network : Network) (run : List Done) → NetworkFits network → AllOwned network → IsRun network run → Each (λ done. TakesArrive done.ask done.reply) run
unfolding IsRun
all-arrives network [] fits owned is = tt
all-arrives network (done ∷ past) fits owned is = (arrive-taken network done past done.ask fits owned is.0 is.1 refl, all-arrives network past fits owned is.0)

-- ---- a link

leaves-within : (shape : LinkShape) (h : List Entry) (p : Arrival) → IsAdmissible shape h → Among p (scan_of shape h).packets → 1 ≤ p.number → LeavesWithinBound shape h p
leaves-within shape h p legal among numbered = record {
  level_least = (Each-among (IsCarried shape) p _ (legal-order shape h legal).carried among).level_least;
  level_most = few;
  after = λ start there same by. subst (λ q. q.eligible < leaves_at shape.rate start) same ((leaves start there).after by);
  within = λ start there same by. subst (λ q. leaves_at shape.rate start ≤ deadline_of shape q) same
      ((leaves start there).within (subst (λ q. q.level ≤ length shape.bounds) (sym same) few) by);
  gone = (Each-among (HasLeftInTime shape (clock_of h) (starts_of shape h)) p _ (guaranteed shape h legal).in_time among).gone few;
} where
  few : p.level ≤ length shape.bounds
  few = channel-few shape (channel_number p.chan) p (Each-among (HasNumber shape.bounds) p _ (packets-have_numbers shape h legal) among) (own-channel p numbered)

  leaves : (start : Start) → Among start (starts_of shape h) → LeavesInTime shape (clock_of h) start
  leaves start there = Each-among (LeavesInTime shape (clock_of h)) start _ (guaranteed shape h legal).departed there

link-guaranteed : (network : Network) (run : List Done) (n : ℕ) (link : Link) → NetworkFits network → AllOwned network → IsRun network run → slice_get network.links n ≡ Some link → LinkGuaranteed network run n link
link-guaranteed network run n link fits owned is linked =
    let legal = part-admissible network run n link fits is linked in
    record {
      rows_pass = (guaranteed link.shape (part_of n run) legal).rows;
      leaves_in_time = Each-from_among (λ p. 1 ≤ p.number → LeavesWithinBound link.shape (part_of n run) p) (packets_on link n run)
          (λ p among numbered. leaves-within link.shape (part_of n run) p legal among numbered);
      finds_buffer = source-guarantee link.shape (part_of n run) legal;
      accepted = Each-from_among (λ p. 1 ≤ p.number → IsOfAccepted network run n p) (packets_on link n run)
          (λ p among numbered. packet-accepted network run n link p fits owned is linked among numbered);
    }

pub run-guaranteed : (network : Network) (run : List Done) → NetworkFits network → AllOwned network → IsRun network run → Guaranteed network run
run-guaranteed network run fits owned is = record {
  links = λ n link linked. link-guaranteed network run n link fits owned is linked;
  arrives = all-arrives network run fits owned is;
  channels = λ request owner tasks levels delay first sound full found accepted. channel-guaranteed network request owner tasks levels delay first run fits sound full is found accepted;
}

-- after each entry
pub guaranteed-throughout : EveryRunIsGuaranteed
unfolding IsRun
guaranteed-throughout network [] fits owned is = run-guaranteed network [] fits owned is
guaranteed-throughout network (done ∷ past) fits owned is = (guaranteed-throughout network past fits owned is.0, run-guaranteed network (done ∷ past) fits owned is)

-- and every run of a plan is one of such a network
pub plan-guaranteed : EveryRunOfAPlanIsGuaranteed
plan-guaranteed parts run plan is = record {
  run_is = is;
  guaranteed = guaranteed-throughout (network_of parts) run (plan-fits parts plan) (all-owned parts plan) is;
}
