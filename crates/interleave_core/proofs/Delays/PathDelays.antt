-- The delay of a packet over its whole route; and under delay-jitter control how far two delays are apart.
use Rattle.std.proofs.Common.{◌≡◌, ℕ, zero, suc, ◌+◌, ◌<◌, ◌≤◌, true, List, [], ◌∷◌, length, get_or, take, refl, ap, arith}
use Rattle.run_engine.proofs.Words.{slice_get_within, bound_at, link_number, channel_number, Jitter, delay_over, Hop, LeavesInTime, Each, Among, clock_of, starts_of, Start, leaves_at, RequestFits, Request, Done, is_of_channel, tick_of_packet, NetworkFits, Network, part_of, IsRun, length-map, packets_on, ChannelAsked, HopAt, hop_ticks, packets_at, delay_before, Passed}
use Rattle.link_steps.proofs.HopHolds.{guaranteed}
use Rattle.link_steps.proofs.FoundElements.{Each-from_among}
use Rattle.link_steps.proofs.SearchAndFilter.{Each-among}
use Rattle.link_steps.proofs.ServiceStarts.{starts-fact}
use Rattle.setup_protocol.specs.Requests.{kind_of}
use Rattle.channel_laws.proofs.DepartedCount.{channel-few}
use Rattle.channel_laws.proofs.NumberedPackets.{HasNumber, packets-have_numbers}
use Rattle.interleave_core.proofs.Delays.HopLaw.{TwoHops, hop-law}
use Rattle.channel_laws.proofs.Places.{place-of}
use Rattle.link_steps.proofs.PacketRows.{Among-passes}
use Rattle.run_engine.proofs.Channels.ChannelsAt.{packet-offered}
use Rattle.run_engine.proofs.Channels.HopsAt.{hop-at, HaveLevelsAt}
use Rattle.interleave_core.proofs.Delays.PathLaw.{delay-more, path-law, same-hop}
use Rattle.run_engine.proofs.Runs.RunLegal.{part-admissible}

module _ (network : Network) (request : Request) (levels : List ℕ) (run : List Done) (fits : NetworkFits network) (sound : RequestFits network.links request) (asked : (past : List Done) → IsRun network past → ChannelAsked request past) (is : IsRun network run) (have : HaveLevelsAt network request levels run) where
  -- under delay-jitter control the packets are exactly the shift later
  pub path-exact : kind_of request.control ≡ Jitter → (first : HopAt network request 0) (i : ℕ) (at : HopAt network request i) (k : ℕ) → k < length (hop_ticks network request i at run) → get_or (hop_ticks network request 0 first run) k 0 + delay_before request levels i ≤ get_or (hop_ticks network request i at run) k 0
  unfolding delay_over
  path-exact jitter first zero at k within =
      let none = no-delay request.route in
      let same = ap (λ ticks. get_or ticks k 0) (same-hop network request 0 first at run) in
      omega (arith, none, same) where
        no-delay : (hops : List Hop) → delay_over hops (take 0 levels) ≡ 0
        no-delay [] = refl
        no-delay (hop ∷ hops) = refl
  path-exact jitter first (suc i) at k within =
      let inside : suc i < length request.route = slice_get_within request.route (suc i) at.hop at.stands in
      let before = hop-at network request i sound (omega arith) in
      let two : TwoHops network request i = record { hop = before.hop; after = at.hop; stands = before.stands; follows = at.stands; near = before.link; far = at.link; linked = before.linked; far_linked = at.linked } in
      let step = hop-law network request i two fits sound asked run is (get_or levels i 0) (have.at i before) in
      let fewer = step.after.fewer in
      let own = step.paced jitter k within in
      let so-far = path-exact jitter first i before k (omega (arith, fewer, within)) in
      let more = delay-more network request levels i before (let count = have.count in omega (arith, inside, count)) in
      omega (arith, own, so-far, more)

  pub passed : (first : HopAt network request 0) (i : ℕ) (at : HopAt network request i) (start : Start) → Among start (starts_of at.link.shape (part_of (link_number at.hop.link) run)) → leaves_at at.link.shape.rate start ≤ clock_of (part_of (link_number at.hop.link) run) → is_of_channel (channel_number request.chan) start.packet ≡ true → Passed network request levels run first i at start
  passed first i at start among by chan =
      let legal = part-admissible network run (link_number at.hop.link) at.link fits is at.linked in
      let leaves = Each-among (LeavesInTime at.link.shape (clock_of (part_of (link_number at.hop.link) run))) start _ (guaranteed at.link.shape (part_of (link_number at.hop.link) run) legal).departed among in
      let all : Each (λ p. Among p (packets_on at.link (link_number at.hop.link) run)) (packets_on at.link (link_number at.hop.link) run) = Each-from_among (λ p. Among p (packets_on at.link (link_number at.hop.link) run)) (packets_on at.link (link_number at.hop.link) run) (λ p there. there) in
      let there : Among start.packet (packets_on at.link (link_number at.hop.link) run) = Each-among (λ s. Among s.packet (packets_on at.link (link_number at.hop.link) run)) start _ (starts-fact (λ p. Among p (packets_on at.link (link_number at.hop.link) run)) at.link.shape.rate (packets_on at.link (link_number at.hop.link) run) (clock_of (part_of (link_number at.hop.link) run)) all) among in
      let own : Among start.packet (packets_at network request i at run) = Among-passes (is_of_channel (channel_number request.chan)) start.packet (packets_on at.link (link_number at.hop.link) run) chan there in
      let row = packet-offered network request run (link_number at.hop.link) at.link start.packet fits is (asked run is) sound at.linked chan there in
      let place = place-of 0 (packets_at network request i at run) start.packet row.row.tells.numbered own in
      let path = path-law network request levels run fits sound asked is have first i at in
      let count = length-map (packets_at network request i at run) tick_of_packet in
      let inside : place.index < length (hop_ticks network request i at run) = (let w = place.within in omega (arith, w, count)) in
      let rest = path.after place.index inside in
      let tick = place.tick in
      let level : start.packet.level ≡ get_or levels i 0 = Each-among (λ p. p.level ≡ get_or levels i 0) start.packet _ (have.at i at) own in
      let bound : bound_at at.link.shape.bounds start.packet.level ≡ bound_at at.link.shape.bounds (get_or levels i 0) = ap (bound_at at.link.shape.bounds) level in
      let few = channel-few at.link.shape (channel_number request.chan) start.packet (Each-among (HasNumber at.link.shape.bounds) start.packet _ (packets-have_numbers at.link.shape (part_of (link_number at.hop.link) run) legal) there) chan in
      let most = leaves.within few by in
      let least = leaves.after by in
      let more = delay-more network request levels i at (let n = have.count in let j = slice_get_within request.route i at.hop at.stands in omega (arith, n, j)) in
      record {
        index = place.index;
        number = (let e = place.number in omega (arith, e));
        within = (let fewer = path.fewer in let all = length-map (packets_at network request 0 first run) tick_of_packet in omega (arith, fewer, inside, all));
        in_time = omega (arith, rest, tick, bound, most, more);
        later = λ jitter. (let exact = path-exact jitter first i at place.index inside in omega (arith, exact, tick, least));
      }

-- the delays of two packets that have left a hop, from their eligible ticks at the first hop on, differ by less than the
-- bound of the hop's level
pub close-delays : (network : Network) (request : Request) (levels : List ℕ) (run : List Done) (first : HopAt network request 0) (i : ℕ) (at : HopAt network request i) (one other : Start) → i < length levels → kind_of request.control ≡ Jitter → (p : Passed network request levels run first i at one) → (q : Passed network request levels run first i at other)
    → leaves_at at.link.shape.rate one + at.link.shape.prop + get_or (hop_ticks network request 0 first run) q.index 0 < leaves_at at.link.shape.rate other + at.link.shape.prop + get_or (hop_ticks network request 0 first run) p.index 0 + bound_at at.link.shape.bounds (get_or levels i 0)
close-delays network request levels run first i at one other inside jitter p q =
    let a = p.in_time in let b = q.later jitter in let more = delay-more network request levels i at inside in omega (arith, a, b, more)
