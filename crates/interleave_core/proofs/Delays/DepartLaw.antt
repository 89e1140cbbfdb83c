-- In every run: once the clock of a hop has reached a packet's bound there, counted from the first hop on, the packet has
-- departed from it.
use Rattle.std.proofs.Common.{◌≡◌, ◌≢◌, ℕ, zero, suc, ◌+◌, ◌<◌, ◌≤◌, Bool, true, false, cond, List, [], ◌∷◌, length, map, get_or, Some, None, refl, sym, ap, ◌∙◌, subst, inl, inr, arith}
use Rattle.run_engine.proofs.Words.{cases_Bool, cases_lt, eqb-true, eqb-false, eq-eqb, and_parts, and_from, lt-ltb, length-map, same_Some, slice_get_within, slice_get, find, filter, nat_eq, nat_lt, reverse, bound_at, link_number, channel_number, Keeps, Spaced, HasLeftInTime, clock_of, starts_of, Arrival, has_departed, starts_below, Among, RequestFits, Request, Done, is_of_channel, tick_of_packet, offers_to, NetworkFits, Network, Flight, is_due, part_of, plane_at, IsRun, OwnedFully, gone_of, packets_on, terms_at, ChannelAsked, ComesFrom, HopAt, packets_at, hop_ticks, delay_before, count_at}
use Rattle.traffic_contract.proofs.NewestFirst.{Decides-keeps_newest_first}
use Rattle.link_steps.proofs.HopHolds.{guaranteed}
use Rattle.link_steps.proofs.SearchAndFilter.{Each-among}
use Rattle.channel_laws.proofs.ChannelRows.{legal-free}
use Rattle.run_engine.proofs.Flights.FlightOrigins.{run-flights}
use Rattle.interleave_core.proofs.Flights.FlightQueue.{IsQueue}
use Rattle.channel_laws.proofs.Places.{place-of, tick-at}
use Rattle.run_engine.proofs.Channels.ChannelsAt.{packet-offered, stands-at}
use Rattle.link_steps.proofs.PacketRows.{Among-passes}
use Rattle.interleave_core.proofs.Flights.LegLaw.{leg-near}
use Rattle.run_engine.proofs.Channels.HopsAt.{hop-at, HaveLevelsAt}
use Rattle.interleave_core.proofs.Delays.PathLaw.{delay-more, path-law}
use Rattle.run_engine.proofs.Flights.Punctual.{run-punctual}
use Rattle.interleave_core.proofs.Flights.QueueTicks.{leg}
use Rattle.interleave_core.proofs.Flights.ReadyRun.{two_of, run-legs}
use Rattle.run_engine.proofs.Replies.RunCloses.{fully-asked}
use Rattle.run_engine.proofs.Runs.RunLegal.{run-stands, part-admissible}
use Rattle.channel_laws.proofs.DepartedCount.{channel-few}
use Rattle.channel_laws.proofs.NumberedPackets.{HasNumber, packets-have_numbers}
use Rattle.interleave_core.proofs.Channels.ChainLaw.{same-count}
use Rattle.link_steps.proofs.ListParts.{Among-at}
use Rattle.std.proofs.lemmas.List.Sums.{length-filter, count_by-le-length}

-- ---- lists

front-gone : (test : Arrival → Bool) (own : List Arrival) (k : ℕ) → k < length own → ((j : ℕ) (p : Arrival) → j ≤ k → slice_get own j ≡ Some p → test p ≡ true) → k < length (filter test own)
front-gone test [] k within all = absurd (omega (arith, within))
front-gone test (p ∷ own) zero within all = (let first = all 0 p (omega arith) refl in rw first (omega arith))
front-gone test (p ∷ own) (suc k) within all =
    let first = all 0 p (omega arith) refl in
    let rest = front-gone test own k (omega (arith, within)) (λ j q upto found. all (suc j) q (omega (arith, upto)) found) in
    rw first (omega (arith, rest))

rises : (least : ℕ) (ticks : List ℕ) (j k : ℕ) → Spaced 1 least ticks → j ≤ k → k < length ticks → get_or ticks j 0 ≤ get_or ticks k 0
rises least ticks zero zero spaced upto within = omega arith
rises least ticks (suc j) zero spaced upto within = absurd (omega (arith, upto))
rises least ticks j (suc k) spaced upto within =
    elim (cases_lt j (suc k)) [
      | inl less ↦
          (let rest = rises least ticks j k spaced (omega (arith, less)) (omega (arith, within)) in
          let step : get_or ticks k 0 + least ≤ get_or ticks (k + 1) 0 = spaced.apart k (omega (arith, within)) in
          let at : get_or ticks (k + 1) 0 ≡ get_or ticks (suc k) 0 = ap (λ n. get_or ticks n 0) (omega arith) in omega (arith, rest, step, at))
      | inr more ↦ (let same : j ≡ suc k = omega (arith, upto, more) in subst (λ n. get_or ticks n 0 ≤ get_or ticks (suc k) 0) (sym same) (omega arith))
    ]

-- ---- one hop

first-rises : (network : Network) (request : Request) (first : HopAt network request 0) (run : List Done) (j k : ℕ) → NetworkFits network → IsRun network run → ChannelAsked request run → j ≤ k → k < length (hop_ticks network request 0 first run) → get_or (hop_ticks network request 0 first run) j 0 ≤ get_or (hop_ticks network request 0 first run) k 0
first-rises network request first run j k fits is asked upto within =
    elim (cases_lt 0 (offers_to (channel_number request.chan) (part_of (link_number first.hop.link) run))) [
      | inl some ↦
          (let stands = stands-at network request run 0 first.hop (link_number first.hop.link) first.link fits is asked first.stands refl first.linked in
          let once = asked.once (link_number first.hop.link) in
          let has = stands.known (omega (arith, once, some)) in
          let keeps : Keeps (terms_at request 0).contract (reverse has.row.ticks) = (Decides-keeps_newest_first (terms_at request 0).contract has.row.ticks (Rattle.traffic_contract.proofs.BurstIsPositive.burst-least (terms_at request 0).contract has.tells.valid)).0 has.tells.keeps in
          rises (terms_at request 0).contract.xmin (hop_ticks network request 0 first run) j k (subst (Spaced 1 (terms_at request 0).contract.xmin) has.tells.eligible keeps.neighbours) upto within)
      | inr none ↦
          (let free = legal-free first.link.shape (terms_at request 0) (channel_number request.chan) (part_of (link_number first.hop.link) run) (part-admissible network run (link_number first.hop.link) first.link fits is first.linked) (omega (arith, none)) in
          absurd (let e : length (hop_ticks network request 0 first run) ≡ 0 = ap (λ ps. length (map tick_of_packet ps)) free.packets in omega (arith, e, within)))
    ]

module _ (network : Network) (request : Request) (levels : List ℕ) (run : List Done) (first : HopAt network request 0) (i : ℕ) (at : HopAt network request i) (k : ℕ) where
  pub hop-departed : NetworkFits network → RequestFits network.links request → ((past : List Done) → IsRun network past → ChannelAsked request past) → IsRun network run → HaveLevelsAt network request levels run
      → k < count_at network request i at run → get_or (hop_ticks network request 0 first run) k 0 + delay_before request levels (suc i) ≤ clock_of (part_of (link_number at.hop.link) run) + at.link.shape.prop
      → (j : ℕ) (p : Arrival) → j ≤ k → slice_get (packets_at network request i at run) j ≡ Some p → has_departed at.link.shape.rate (starts_below at.link.shape.rate (packets_on at.link (link_number at.hop.link) run) (clock_of (part_of (link_number at.hop.link) run))) (clock_of (part_of (link_number at.hop.link) run)) p ≡ true
  hop-departed fits sound asked is have taken due j p upto found =
      let path = path-law network request levels run fits sound asked is have first i at in
      let own = length-map (packets_at network request i at run) tick_of_packet in
      let within = slice_get_within (packets_at network request i at run) j p found in
      let after = path.after j (omega (arith, within, own)) in
      let fewer = path.fewer in
      let rising = first-rises network request first run j k fits is (asked run is) upto (omega (arith, fewer, own, taken)) in
      let tick = (tick-at (packets_at network request i at run) j p found).1 in
      let among = Among-at (packets_at network request i at run) j p found in
      let level = Each-among (λ q. q.level ≡ get_or levels i 0) p _ (have.at i at) among in
      let bound : bound_at at.link.shape.bounds p.level ≡ bound_at at.link.shape.bounds (get_or levels i 0) = ap (bound_at at.link.shape.bounds) level in
      let more = delay-more network request levels i at (let n = have.count in let inside = slice_get_within request.route i at.hop at.stands in omega (arith, n, inside)) in
      let there = (Rattle.link_steps.proofs.SearchAndFilter.Among-filter (is_of_channel (channel_number request.chan)) p (packets_on at.link (link_number at.hop.link) run) among) in
      let legal = part-admissible network run (link_number at.hop.link) at.link fits is at.linked in
      let few = channel-few at.link.shape (channel_number request.chan) p (Each-among (HasNumber at.link.shape.bounds) p _ (packets-have_numbers at.link.shape (part_of (link_number at.hop.link) run) legal) there.0) there.1 in
      (Each-among (HasLeftInTime at.link.shape (clock_of (part_of (link_number at.hop.link) run)) (starts_of at.link.shape (part_of (link_number at.hop.link) run))) p _ (guaranteed at.link.shape (part_of (link_number at.hop.link) run) legal).in_time there.0).gone few
      (omega (arith, after, rising, tick, bound, more, due))

  pub hop-gone : NetworkFits network → RequestFits network.links request → ((past : List Done) → IsRun network past → ChannelAsked request past) → IsRun network run → HaveLevelsAt network request levels run
      → k < count_at network request i at run → get_or (hop_ticks network request 0 first run) k 0 + delay_before request levels (suc i) ≤ clock_of (part_of (link_number at.hop.link) run) + at.link.shape.prop
      → k < gone_of at.link.shape (channel_number request.chan) (part_of (link_number at.hop.link) run)
  hop-gone fits sound asked is have taken due =
      front-gone (has_departed at.link.shape.rate (starts_below at.link.shape.rate (packets_on at.link (link_number at.hop.link) run) (clock_of (part_of (link_number at.hop.link) run))) (clock_of (part_of (link_number at.hop.link) run))) (packets_at network request i at run) k taken
      (hop-departed fits sound asked is have taken due)

-- ---- what is on its way

record OnItsWay (own : Flight → Bool) (k : ℕ) (fs : List Flight) : Type 0 where
  flight : Flight
  among : Among flight fs
  mine : own flight ≡ true
  number : flight.packet.number ≡ suc k

queue-holds : (own : Flight → Bool) (n dep low hi k : ℕ) (fs : List Flight) → IsQueue own n dep low hi fs → n ≤ k → k < dep → OnItsWay own k fs
queue-holds own n dep low hi k [] is from upto = absurd (let e = is.0 in omega (arith, e, from, upto))
queue-holds own n dep low hi k (f ∷ fs) is from upto =
    elim is [
      | inl mine ↦ elim (cases_lt n k) [
        | inl later ↦ (let rest = queue-holds own (suc n) dep (suc f.round) hi k fs mine.3 (omega (arith, later)) upto in record { flight = rest.flight; among = inr rest.among; mine = rest.mine; number = rest.number })
        | inr here ↦ record { flight = f; among = inl refl; mine = mine.0; number = (let e = mine.1 in omega (arith, e, from, here)) }
      ]
      | inr other ↦ (let rest = queue-holds own n dep low hi k fs other.1 from upto in record { flight = rest.flight; among = inr rest.among; mine = rest.mine; number = rest.number })
    ]

none-due : (t : ℕ) (fs : List Flight) (f : Flight) → find (is_due t) fs ≡ None → Among f fs → f.round ≢ t
none-due t [] f none among same = absurd among
none-due t (g ∷ fs) f none among same =
    elim (cases_Bool (is_due t g)) [
      | inl due ↦ (let clash : Some g ≡ None = rw due at none in cc)
      | inr later ↦ elim among [
        | inl here ↦ eqb-false g.round t later (ap (λ x. x.round) (sym here) ∙ same)
        | inr there ↦ none-due t fs f (rw later at none) there same
      ]
    ]

-- a flight hasn't arrived: the clock of its link is at most its round
not-arrived : (network : Network) (run : List Done) (flight : Flight) (m : ℕ) → NetworkFits network → IsRun network run → Among flight (plane_at network run).flights → m < length network.links → clock_of (part_of m run) ≤ flight.round
not-arrived network run flight m fits is among inside =
    let clock = (run-stands network run fits is).clocks m inside in
    let late = Each-among (λ f. (plane_at network run).round ≤ f.round) flight _ (run-punctual network run fits is) among in
    elim (cases_Bool (nat_lt m (plane_at network run).ticked)) [
      | inl ticked ↦
          (let some = cases-ticked m (plane_at network run).ticked ticked in
          let apart = none-due (plane_at network run).round (plane_at network run).flights flight ((run-flights network run fits is).none some) among in
          let now : clock_of (part_of m run) ≡ (plane_at network run).round + 1 = clock ∙ rw ticked refl in
          elim (cases_lt (plane_at network run).round flight.round) [
            | inl more ↦ omega (arith, now, more)
            | inr same ↦ absurd (apart (omega (arith, same, late)))
          ])
      | inr before ↦ (let now : clock_of (part_of m run) ≡ (plane_at network run).round + 0 = clock ∙ rw before refl in omega (arith, now, late))
    ] where
      cases-ticked : (a b : ℕ) → nat_lt a b ≡ true → 1 ≤ b
      cases-ticked a b less = (let h = Rattle.std.proofs.lemmas.Bool.ltb-true a b less in omega (arith, h))

-- a packet that has departed from a hop is taken at the next once that link's clock is past its due
pub next-taken : (network : Network) (request : Request) (owner : ℕ) (levels : List ℕ) (run : List Done) (first : HopAt network request 0) (i : ℕ) (near : HopAt network request i) (far : HopAt network request (suc i)) (k : ℕ) → NetworkFits network → RequestFits network.links request → OwnedFully network request owner → IsRun network run → HaveLevelsAt network request levels run
    → k < gone_of near.link.shape (channel_number request.chan) (part_of (link_number near.hop.link) run) → get_or (hop_ticks network request 0 first run) k 0 + delay_before request levels (suc i) < clock_of (part_of (link_number far.hop.link) run)
    → k < count_at network request (suc i) far run
next-taken network request owner levels run first i near far k fits sound full is have gone due =
    elim (cases_lt k (count_at network request (suc i) far run)) [
      | inl less ↦ less
      | inr more ↦ absurd (late (queue-holds (leg (channel_number request.chan) (link_number far.hop.link)) _ _ 0 _ k (plane_at network run).flights (run-legs network request owner i near far run fits sound full is) more gone))
    ] where
      late : OnItsWay (leg (channel_number request.chan) (link_number far.hop.link)) k (plane_at network run).flights → ⊥
      late way =
          let names = fully-asked network request owner fits sound full in
          let from = Each-among (ComesFrom network run) way.flight _ (run-flights network run fits is).from way.among in
          let parts = and_parts (nat_eq (channel_number way.flight.packet.chan) (channel_number request.chan)) (nat_eq (link_number way.flight.to) (link_number far.hop.link)) way.mine in
          let chan : channel_number from.taken.chan ≡ channel_number request.chan = ap channel_number (sym from.chan) ∙ eqb-true (channel_number way.flight.packet.chan) (channel_number request.chan) parts.0 in
          let mine : is_of_channel (channel_number request.chan) from.taken ≡ true = and_from (nat_eq (channel_number from.taken.chan) (channel_number request.chan)) (nat_lt 0 from.taken.number) (eq-eqb (channel_number from.taken.chan) (channel_number request.chan) chan) (lt-ltb 0 from.taken.number from.numbered) in
          let n : from.n ≡ link_number near.hop.link = leg-near network request i (two_of network request i near far) run from.n from.link from.taken way.flight.to fits sound is (names run is) from.linked from.among mine from.next (eqb-true (link_number way.flight.to) (link_number far.hop.link) parts.1) in
          let link : from.link ≡ near.link = same_Some from.link near.link (sym from.linked ∙ ap (slice_get network.links) n ∙ near.linked) in
          let among : Among from.taken (packets_on near.link (link_number near.hop.link) run) = subst (λ l. Among from.taken (packets_on l (link_number near.hop.link) run)) link (subst (λ m. Among from.taken (packets_on from.link m run)) n from.among) in
          let own : Among from.taken (packets_at network request i near run) = Among-passes (is_of_channel (channel_number request.chan)) from.taken (packets_on near.link (link_number near.hop.link) run) mine among in
          let row = packet-offered network request run (link_number near.hop.link) near.link from.taken fits is (names run is) sound near.linked mine among in
          let place = place-of 0 (packets_at network request i near run) from.taken row.row.tells.numbered own in
          let index : place.index ≡ k = (let a = place.number in let b = from.number in let c = way.number in omega (arith, a, b, c)) in
          let tick : get_or (hop_ticks network request i near run) k 0 ≡ from.taken.eligible = ap (λ x. get_or (hop_ticks network request i near run) x 0) (sym index) ∙ place.tick in
          let count = length-map (packets_at network request i near run) tick_of_packet in
          let inside = place.within in
          let after = (path-law network request levels run fits sound names is have first i near).after k (omega (arith, inside, index, count)) in
          let level = Each-among (λ q. q.level ≡ get_or levels i 0) from.taken _ (have.at i near) own in
          let bound : bound_at from.link.shape.bounds from.taken.level ≡ bound_at near.link.shape.bounds (get_or levels i 0) = ap (λ l. bound_at l.shape.bounds from.taken.level) link ∙ ap (bound_at near.link.shape.bounds) level in
          let prop : from.link.shape.prop ≡ near.link.shape.prop = ap (λ l. l.shape.prop) link in
          let more = delay-more network request levels i near (let c = have.count in let j = slice_get_within request.route i near.hop near.stands in omega (arith, c, j)) in
          let arrives = from.in_time in
          let planned = from.due in
          let now = not-arrived network run way.flight (link_number far.hop.link) fits is way.among (slice_get_within network.links (link_number far.hop.link) far.link far.linked) in
          omega (arith, after, tick, bound, prop, more, arrives, planned, now, due)

-- the clocks of two links differ by at most one
pub clocks-near : (network : Network) (run : List Done) (m n : ℕ) → NetworkFits network → IsRun network run → m < length network.links → n < length network.links → clock_of (part_of m run) ≤ suc (clock_of (part_of n run))
clocks-near network run m n fits is a b =
    let one = (run-stands network run fits is).clocks m a in
    let other = (run-stands network run fits is).clocks n b in
    let most = at-most (nat_lt m (plane_at network run).ticked) in
    omega (arith, one, other, most) where
      at-most : (t : Bool) → cond t 1 0 ≤ 1
      at-most true = omega arith
      at-most false = omega arith

-- each level has a bound of at least a tick
abbrev pub HaveTicks : Network → Request → List ℕ → Type 0
HaveTicks network request levels = (i : ℕ) (at : HopAt network request i) → 1 ≤ bound_at at.link.shape.bounds (get_or levels i 0)

module _ (network : Network) (request : Request) (owner : ℕ) (levels : List ℕ) (run : List Done) (first : HopAt network request 0) where
  -- where the bound of packet k, less the hop's propagation, is at most the hop's clock, it has departed from the hop
  pub path-departs : (i : ℕ) (at : HopAt network request i) (k : ℕ) → NetworkFits network → RequestFits network.links request → OwnedFully network request owner → IsRun network run → HaveLevelsAt network request levels run → HaveTicks network request levels
      → k < count_at network request 0 first run → get_or (hop_ticks network request 0 first run) k 0 + delay_before request levels (suc i) ≤ clock_of (part_of (link_number at.hop.link) run) + at.link.shape.prop
      → k < gone_of at.link.shape (channel_number request.chan) (part_of (link_number at.hop.link) run)
  path-departs zero at k fits sound full is have ticks taken due =
      let names = fully-asked network request owner fits sound full in
      let same = same-count network request 0 at first run in
      hop-gone network request levels run first 0 at k fits sound names is have (omega (arith, same, taken)) due
  path-departs (suc i) at k fits sound full is have ticks taken due =
      let names = fully-asked network request owner fits sound full in
      let within = slice_get_within request.route (suc i) at.hop at.stands in
      let before = hop-at network request i sound (omega (arith, within)) in
      let more = delay-more network request levels (suc i) at (let n = have.count in omega (arith, n, within)) in
      let one = ticks (suc i) at in
      let clocks = clocks-near network run (link_number at.hop.link) (link_number before.hop.link) fits is (slice_get_within network.links (link_number at.hop.link) at.link at.linked) (slice_get_within network.links (link_number before.hop.link) before.link before.linked) in
      let gone = path-departs i before k fits sound full is have ticks taken (omega (arith, more, one, clocks, due)) in
      let there = next-taken network request owner levels run first i before at k fits sound full is have gone (omega (arith, more, one, due)) in
      hop-gone network request levels run first (suc i) at k fits sound names is have there due

  -- it is taken there, and it has departed
  pub path-departed : (i : ℕ) (at : HopAt network request i) (k : ℕ) → NetworkFits network → RequestFits network.links request → OwnedFully network request owner → IsRun network run → HaveLevelsAt network request levels run → HaveTicks network request levels
      → k < count_at network request 0 first run → get_or (hop_ticks network request 0 first run) k 0 + delay_before request levels (suc i) ≤ clock_of (part_of (link_number at.hop.link) run) + at.link.shape.prop
      → (k < count_at network request i at run) × ((p : Arrival) → slice_get (packets_at network request i at run) k ≡ Some p → has_departed at.link.shape.rate (starts_below at.link.shape.rate (packets_on at.link (link_number at.hop.link) run) (clock_of (part_of (link_number at.hop.link) run))) (clock_of (part_of (link_number at.hop.link) run)) p ≡ true)
  path-departed i at k fits sound full is have ticks taken due =
      let names = fully-asked network request owner fits sound full in
      let gone = path-departs i at k fits sound full is have ticks taken due in
      let fewer = count_by-le-length (has_departed at.link.shape.rate (starts_below at.link.shape.rate (packets_on at.link (link_number at.hop.link) run) (clock_of (part_of (link_number at.hop.link) run))) (clock_of (part_of (link_number at.hop.link) run))) (packets_at network request i at run) in
      let kept = length-filter (has_departed at.link.shape.rate (starts_below at.link.shape.rate (packets_on at.link (link_number at.hop.link) run) (clock_of (part_of (link_number at.hop.link) run))) (clock_of (part_of (link_number at.hop.link) run))) (packets_at network request i at run) in
      let there : k < count_at network request i at run = omega (arith, gone, fewer, kept) in
      (there, λ p found. hop-departed network request levels run first i at k fits sound names is have there due k p (omega arith) found)
