-- The table of a run of a plan, audited with the levels with which its requests were accepted, is sound.
use Rattle.std.proofs.Common.{◌≡◌, ℕ, zero, suc, ◌+◌, ◌-◌, ◌<◌, ◌≤◌, true, false, List, [], ◌∷◌, ◌++◌, length, map, get_or, take, Option, Some, refl, sym, ap, ◌∙◌, subst, inl, inr, arith}
use Rattle.run_engine.proofs.Words.{eq-eqb, ne_eqb, and_from, map-append, length-map, length_push, same_Some, slice_get_within, slice_get, nat_eq, reverse, bound_at, link_number, channel_number, eligible, Hop, Arrive, Packet, Entry, Sent, Each, Among, waits_until, clock_of, Arrival, leaves_at, Link, HopTerms, is_of_channel, channel_packets, tick_of_packet, AreNumberedAfter, PlanParts, IsPlan, network_of, part_of, Done, packets_on, packets_at, IsRun}
use Rattle.std.proofs.lemmas.List.{take_at, take-append-le}
use Rattle.net_units.specs.Allotted.{levels_of}
use Rattle.net_units.specs.declared.levels.Levels.{Levels}
use Rattle.traffic_contract.specs.Eligible.{earliest_tick}
use Rattle.hop_reservation.proofs.DistinctLinks.{index-apart}
use Rattle.link_steps.specs.declared.replies.Reply.TheVariants as Is
use Rattle.link_steps.proofs.SearchAndFilter.{Among-filter, Each-among}
use Rattle.link_steps.proofs.ListParts.{Among-turned}
use Rattle.link_steps.proofs.FoundElements.{Each-from_among}
use Rattle.link_steps.proofs.PacketRows.{Among-passes}
use Rattle.channel_laws.proofs.DepartedCount.{start-among}
use Rattle.setup_protocol.specs.Requests.{kind_of}
use Rattle.call_script.specs.declared.entries.RequestEntry.{RequestEntry}
use Rattle.call_script.proofs.PlansFit.{plan-fits}
use Rattle.call_script.proofs.OneOwner.{all-owned}
use Rattle.run_record.specs.Rows.{row_of, links_of, rows_of}
use Rattle.run_record.specs.declared.rows.HopRow.{HopRow}
use Rattle.run_engine.specs.channels.Hops.{terms_at as asked_at}
use Rattle.interleave_core.proofs.Delays.HopLaw.{TwoHops}
use Rattle.run_engine.proofs.Channels.HopsAt.{hop-at}
use Rattle.interleave_core.proofs.Flights.LegLaw.{leg-near}
use Rattle.run_engine.proofs.Runs.RunLegal.{part-admissible}
use Rattle.trace_audit.specs.Above.{is_at, rows_at, tick_of}
use Rattle.trace_audit.specs.Checks.{IsSound}
use Rattle.trace_audit.specs.Departures.{HasNear, ticks_before, IsDeparture, AreDepartures}
use Rattle.audit_laws.specs.RunLevels.{AuditsOfRunsFindNothing, AreLevelsOf}
use Rattle.trace_audit.specs.Terms.{hop_terms, prop_of, prop_before, bound_of, bound_before}
use Rattle.trace_audit.proofs.TableInOrder.{at-parts}
use Rattle.audit_laws.proofs.RunDeparts.{HasPacket, numbers-above, ticks-front, counted-le, turn-at, same-entry, hop-link, asked-past, counted}
use Rattle.audit_laws.proofs.RunRows.{part-among, arrival-told, told-departs, sent-at, run-split}
use Rattle.audit_laws.proofs.RunSound.{RowIs, row-is, told-is, departures_of, row-terms, row-size, row-bound}
use Rattle.trace_audit.proofs.SoundFound.{sound-found}
use Rattle.trace_audit.proofs.TableSound.{departures-sound}
use Rattle.trace_audit.proofs.Turns.{CameFrom, FromSource, FromLink, IsInTurn, AreInTurn, legal-turns}
use Rattle.interleave_core.proofs.Channels.GuaranteeLaw.{own-channel}

-- ---- the packets at the hop of a departure

-- the packet of a row at the same hop
here-packet : (plan : PlanParts) (run : List Done) (levels : List (Option Levels)) (x row : HopRow) → (one : RowIs plan run levels x) → (own : RowIs plan run levels row) → channel_number x.chan ≡ channel_number row.chan → x.hop ≡ row.hop → Among one.start.packet (channel_packets (channel_number row.chan) (packets_on own.link (link_number row.link) run))
here-packet plan run levels x row one own chan hop =
    let n = hop-link plan run levels row x own one chan hop in
    let same : one.link ≡ own.link = same_Some one.link own.link (sym one.linked ∙ ap (slice_get (network_of plan).links) n ∙ own.linked) in
    let there : Among one.start.packet (packets_on own.link (link_number row.link) run) = subst (λ l. Among one.start.packet (packets_on l (link_number row.link) run)) same (subst (λ m. Among one.start.packet (packets_on one.link m run)) n one.among) in
    let c : channel_number one.own.entry.request.chan ≡ channel_number row.chan = one.own.chan ∙ ap channel_number (sym one.chan) ∙ chan in
    let mine : is_of_channel (channel_number row.chan) one.start.packet ≡ true = subst (λ k. is_of_channel k one.start.packet ≡ true) c one.own.mine in
    Among-passes (is_of_channel (channel_number row.chan)) one.start.packet (packets_on own.link (link_number row.link) run) mine there

has-packets : (plan : PlanParts) (run : List Done) (levels : List (Option Levels)) (row : HopRow) → IsPlan plan → IsRun (network_of plan) run → AreLevelsOf plan run levels → (own : RowIs plan run levels row) → Each (HasPacket (channel_packets (channel_number row.chan) (packets_on own.link (link_number row.link) run))) (rows_at (channel_number row.chan) row.hop (departures_of run))
has-packets plan run levels row is run_is are own = Each-from_among _ (rows_at (channel_number row.chan) row.hop (departures_of run)) (λ x among. has x among) where
  has : (x : HopRow) → Among x (rows_at (channel_number row.chan) row.hop (departures_of run)) → HasPacket (channel_packets (channel_number row.chan) (packets_on own.link (link_number row.link) run)) x
  has x among =
      let inside = Among-filter (is_at (channel_number row.chan) row.hop) x (departures_of run) among in
      let parts = at-parts (channel_number row.chan) row.hop x inside.1 in
      let one = row-is plan run levels x is run_is are inside.0 in
      record { packet = one.start.packet; among = here-packet plan run levels x row one own parts.0 parts.1; number = sym one.number; eligible = sym one.eligible; at = sym one.at }

same-count : (a b : ℕ) → a ≡ b + 1 → a ≡ suc b
same-count a b is = omega (arith, is)

turns-numbered : (terms : HopTerms) (c : ℕ) (h : List Entry) (before own : List Arrival) → AreInTurn terms c h before own → AreNumberedAfter (length before) own
turns-numbered terms c h before [] turns = tt
turns-numbered terms c h before (p ∷ own) turns = ((turns.0).number, subst (λ k. AreNumberedAfter k own) (let l = length_push before p in same-count (length (before ++ p ∷ [])) (length before) l) (turns-numbered terms c h (before ++ p ∷ []) own turns.1))

-- a packet of a lower number is in front
early-front : (n : ℕ) (front back : List Arrival) (p q : Arrival) → AreNumberedAfter n (front ++ p ∷ back) → Among q (front ++ p ∷ back) → q.number < p.number → Among q front
early-front n [] back p q are (inl same) less = absurd (let e : q.number ≡ p.number = ap (λ (x : Arrival). x.number) same in omega (arith, e, less))
early-front n [] back p q are (inr there) less = absurd (let above = Each-among (λ (x : Arrival). suc n < x.number) q back (numbers-above (suc n) back are.1) there in let e = are.0 in omega (arith, above, e, less))
early-front n (x ∷ front) back p q are (inl same) less = inl same
early-front n (x ∷ front) back p q are (inr there) less = inr (early-front (suc n) front back p q are.1 there less)

pub record HasHop (plan : PlanParts) (run : List Done) (levels : List (Option Levels)) (row : HopRow) (own : RowIs plan run levels row) : Type 0 where
  pub front : List Arrival
  pub turn : IsInTurn (asked_at own.own.entry.request own.own.index) (channel_number row.chan) (part_of (link_number row.link) run) front own.start.packet
  pub ticks : map tick_of_packet front ≡ take (row.number - 1) (map tick_of (rows_at (channel_number row.chan) row.hop (departures_of run)))
  pub sooner : (other : HopRow) → Among other (departures_of run) → channel_number other.chan ≡ channel_number row.chan → other.hop ≡ row.hop → other.number < row.number → other.at ≤ row.at

hop-of : (plan : PlanParts) (run : List Done) (levels : List (Option Levels)) (row : HopRow) → IsPlan plan → IsRun (network_of plan) run → AreLevelsOf plan run levels → (own : RowIs plan run levels row) → Among row (departures_of run) → HasHop plan run levels row own
hop-of plan run levels row is run_is are own among =
    let asked = asked-past plan run levels row own run run_is in
    let legal = part-admissible (network_of plan) run (link_number row.link) own.link (plan-fits plan is) run_is own.linked in
    let turns = (legal-turns own.link.shape (asked_at own.own.entry.request own.own.index) (channel_number row.chan) (part_of (link_number row.link) run) legal asked.0 asked.1).turns in
    let packets : List Arrival = channel_packets (channel_number row.chan) (packets_on own.link (link_number row.link) run) in
    let rows : List HopRow = rows_at (channel_number row.chan) row.hop (departures_of run) in
    let numbered : AreNumberedAfter 0 (channel_packets (channel_number row.chan) (packets_on own.link (link_number row.link) run)) = turns-numbered (asked_at own.own.entry.request own.own.index) (channel_number row.chan) (part_of (link_number row.link) run) [] (channel_packets (channel_number row.chan) (packets_on own.link (link_number row.link) run)) turns in
    let at = turn-at (asked_at own.own.entry.request own.own.index) (channel_number row.chan) (part_of (link_number row.link) run) [] (channel_packets (channel_number row.chan) (packets_on own.link (link_number row.link) run)) own.start.packet turns (here-packet plan run levels row row own own refl refl) in
    let has = has-packets plan run levels row is run_is are own in
    let count = counted plan run levels is run_is are (channel_number row.chan) row.hop in
    let ticks = ticks-front 0 (rows_at (channel_number row.chan) row.hop (departures_of run)) (channel_packets (channel_number row.chan) (packets_on own.link (link_number row.link) run)) count numbered has in
    let in_rows : Among row (rows_at (channel_number row.chan) row.hop (departures_of run)) = Among-passes (is_at (channel_number row.chan) row.hop) row (departures_of run) (and_from _ _ (eq-eqb (channel_number row.chan) (channel_number row.chan) refl) (eq-eqb row.hop row.hop refl)) among in
    let few = counted-le 0 (rows_at (channel_number row.chan) row.hop (departures_of run)) row count in_rows in
    let long : length (map tick_of (rows_at (channel_number row.chan) row.hop (departures_of run))) ≡ length (rows_at (channel_number row.chan) row.hop (departures_of run)) = length-map (rows_at (channel_number row.chan) row.hop (departures_of run)) tick_of in
    let number = own.number in
    let turn_number : own.start.packet.number ≡ suc (length at.front) = at.turn.number in
    let front_long : length (map tick_of_packet at.front) ≡ length at.front = length-map at.front tick_of_packet in
    record {
      front = at.front;
      turn = at.turn;
      ticks = sym (sym (take-append-le (row.number - 1) (map tick_of rows) ticks.0 (omega (arith, few, long)))
          ∙ ap (λ ts. take (row.number - 1) ts) (sym ticks.1)
          ∙ ap (λ ps. take (row.number - 1) (map tick_of_packet ps)) at.is
          ∙ ap (λ ts. take (row.number - 1) ts) (map-append tick_of_packet at.front (own.start.packet ∷ at.back))
          ∙ take_at (map tick_of_packet at.front) (map tick_of_packet (own.start.packet ∷ at.back)) (row.number - 1) (omega (arith, number, turn_number, front_long)));
      sooner = λ other there chan hop less. earlier at.front at.back at.is numbered at.turn other there chan hop less;
    } where
      earlier : (front back : List Arrival) → channel_packets (channel_number row.chan) (packets_on own.link (link_number row.link) run) ≡ front ++ own.start.packet ∷ back → AreNumberedAfter 0 (channel_packets (channel_number row.chan) (packets_on own.link (link_number row.link) run)) → IsInTurn (asked_at own.own.entry.request own.own.index) (channel_number row.chan) (part_of (link_number row.link) run) front own.start.packet
          → (other : HopRow) → Among other (departures_of run) → channel_number other.chan ≡ channel_number row.chan → other.hop ≡ row.hop → other.number < row.number → other.at ≤ row.at
      earlier front back cut numbered turn other there chan hop less =
          let one = row-is plan run levels other is run_is are there in
          let inside : Among one.start.packet (front ++ own.start.packet ∷ back) = subst (Among one.start.packet) cut (here-packet plan run levels other row one own chan hop) in
          let a = one.number in
          let b = own.number in
          let ahead = early-front 0 front back own.start.packet one.start.packet (subst (AreNumberedAfter 0) cut numbered) inside (omega (arith, a, b, less)) in
          let before = Each-among (λ (q : Arrival). q.at ≤ own.start.packet.at) one.start.packet front turn.sooner ahead in
          let x = one.at in
          let y = own.at in
          omega (arith, before, x, y)

-- ---- the row at the hop before

pub record NearOf (plan : PlanParts) (run : List Done) (levels : List (Option Levels)) (row : HopRow) (own : RowIs plan run levels row) (due : ℕ) : Type 0 where
  pub has : HasNear (departures_of run) (hop_terms plan own.own.entry.request (levels_of own.own.given) own.own.index own.own.at.hop) row
  pub due_is : due ≡ has.near.eligible + bound_before own.own.entry.request.route (levels_of own.own.given) own.own.index + prop_before own.own.entry.request.route own.own.index

before-at : (route : List Hop) (levels : List ℕ) (index j : ℕ) (hop : Hop) → index ≡ suc j → slice_get route j ≡ Some hop → (bound_before route levels index ≡ bound_at hop.bounds (get_or levels j 0)) × (prop_before route index ≡ hop.prop)
before-at route levels index j hop far stands =
    (ap (bound_before route levels) far ∙ ap (λ f. bound_of f (get_or levels j 0)) stands, ap (prop_before route) far ∙ ap prop_of stands)

near-of : (plan : PlanParts) (run : List Done) (levels : List (Option Levels)) (row : HopRow) (due j : ℕ) (packet : Packet) (tick : ℕ) → IsPlan plan → IsRun (network_of plan) run → AreLevelsOf plan run levels → (own : RowIs plan run levels row) → own.own.index ≡ suc j
    → Among (record { ask = Arrive packet; reply = Is.Taken own.start.packet.at tick }) (part_of (link_number row.link) run) → channel_number packet.chan ≡ channel_number row.chan → packet.number ≡ own.start.packet.number → packet.size ≡ own.start.packet.size → packet.due ≡ due → NearOf plan run levels row own due
near-of plan run levels row due j packet tick is run_is are own far among chan number size due_is =
    let fits = plan-fits plan is in
    let owned = all-owned plan is in
    let entry = own.own.entry in
    let took = part-among run (link_number row.link) (record { ask = Arrive packet; reply = Is.Taken own.start.packet.at tick }) among in
    let from = arrival-told (network_of plan) run took.done packet own.start.packet.at tick fits run_is took.among (sym (ap (λ (e : Entry). e.ask) took.is)) (sym (ap (λ (e : Entry). e.reply) took.is)) in
    let split = run-split (network_of plan) run from.done run_is from.among in
    let at = sent-at (network_of plan) run from.done split.next.link from.clock from.full from.sent from.best_sent from.best_lost fits owned run_is from.among split.next.linked from.reply in
    let there : Among at.start.packet (packets_on split.next.link (link_number from.done.link) run) = start-among split.next.link.shape.rate (packets_on split.next.link (link_number from.done.link) run) (clock_of (part_of (link_number from.done.link) run)) at.start at.among in
    let near = told-is plan run levels from.done from.clock from.full from.sent from.best_sent from.best_lost is run_is are from.among from.reply in
    let row_near : HopRow = row_of (links_of (channel_number from.sent.packet.chan) (reverse run)) from.done.link from.clock from.sent in
    let sent_chan : channel_number from.sent.packet.chan ≡ channel_number row.chan = ap (λ (p : Packet). channel_number p.chan) from.packet_is ∙ chan in
    let own_chan : channel_number own.own.entry.request.chan ≡ channel_number row.chan = own.own.chan ∙ ap channel_number (sym own.chan) in
    let start_chan : channel_number at.start.packet.chan ≡ channel_number own.own.entry.request.chan = sym (ap (λ (s : Sent). channel_number s.packet.chan) at.is) ∙ sent_chan ∙ sym own_chan in
    let mine : is_of_channel (channel_number own.own.entry.request.chan) at.start.packet ≡ true = subst (λ k. is_of_channel k at.start.packet ≡ true) start_chan (own-channel at.start.packet at.numbered) in
    let within = slice_get_within own.own.entry.request.route own.own.index own.own.at.hop own.own.at.stands in
    let hop = hop-at (network_of plan) own.own.entry.request j own.own.sound (omega (arith, within, far)) in
    let two : TwoHops (network_of plan) own.own.entry.request j = record { hop = hop.hop; after = own.own.at.hop; stands = hop.stands; follows = ap (slice_get own.own.entry.request.route) (sym far) ∙ own.own.at.stands; near = hop.link; far = own.own.at.link; linked = hop.linked; far_linked = own.own.at.linked } in
    let next : at.start.packet.next ≡ Some took.done.link = sym (ap (λ (s : Sent). s.next) at.is) ∙ from.next in
    let n : link_number from.done.link ≡ link_number hop.hop.link = leg-near (network_of plan) own.own.entry.request j two run (link_number from.done.link) split.next.link at.start.packet took.done.link fits own.own.sound run_is (own.own.asked run run_is) split.next.linked there mine next (took.on ∙ sym own.own.on) in
    let link : split.next.link ≡ hop.link = same_Some split.next.link hop.link (sym split.next.linked ∙ ap (slice_get (network_of plan).links) n ∙ hop.linked) in
    let same = same-entry plan run levels row row_near own near sent_chan in
    let near_stands : slice_get own.own.entry.request.route near.own.index ≡ Some near.own.at.hop = ap (λ (e : RequestEntry). slice_get e.request.route near.own.index) (sym same) ∙ near.own.at.stands in
    let index : near.own.index ≡ j = index-apart own.own.entry.request.route near.own.index j near.own.at.hop hop.hop own.own.sound.route near_stands hop.stands (near.own.on ∙ n) in
    let near_hop = near.hop in
    let own_hop = own.hop in
    let befores = before-at own.own.entry.request.route (levels_of own.own.given) own.own.index j hop.hop far hop.stands in
    let prop : prop_before own.own.entry.request.route own.own.index ≡ split.next.link.shape.prop = befores.1 ∙ hop.prop ∙ ap (λ (l : Link). l.shape.prop) (sym link) in
    let on_hop : Among at.start.packet (packets_on hop.link (link_number hop.hop.link) run) = subst (λ l. Among at.start.packet (packets_on l (link_number hop.hop.link) run)) link (subst (λ m. Among at.start.packet (packets_on split.next.link m run)) n there) in
    let of_hop = Among-passes (is_of_channel (channel_number own.own.entry.request.chan)) at.start.packet (packets_on hop.link (link_number hop.hop.link) run) mine on_hop in
    let level : at.start.packet.level ≡ get_or (levels_of own.own.given) j 0 = Each-among (λ (q : Arrival). q.level ≡ get_or (levels_of own.own.given) j 0) at.start.packet (packets_at (network_of plan) own.own.entry.request j hop run) (own.own.have.at j hop) of_hop in
    let bound : bound_before own.own.entry.request.route (levels_of own.own.given) own.own.index ≡ bound_at split.next.link.shape.bounds at.start.packet.level =
    befores.0 ∙ ap (λ bs. bound_at bs (get_or (levels_of own.own.given) j 0)) (hop.bounds ∙ ap (λ (l : Link). l.shape.bounds) (sym link)) ∙ ap (bound_at split.next.link.shape.bounds) (sym level) in
    let at_is = own.at in
    let arrives : own.start.packet.at ≡ leaves_at split.next.link.shape.rate at.start + split.next.link.shape.prop = sym from.arrives ∙ ap (λ (s : Sent). s.arrives) at.is in
    let leaves = at.leaves in
    let eligible_is : from.sent.eligible ≡ at.start.packet.eligible = ap (λ (s : Sent). s.eligible) at.is in
    let sent_due : packet.due ≡ at.start.packet.eligible + bound_at split.next.link.shape.bounds at.start.packet.level + split.next.link.shape.prop = sym (ap (λ (p : Packet). p.due) from.packet_is) ∙ ap (λ (s : Sent). s.packet.due) at.is in
    record {
      has = record {
        near = row_near;
        among = told-departs (reverse run) (reverse run) from.done from.clock from.full from.sent from.best_sent from.best_lost (Among-turned from.done run from.among) from.reply;
        chan = sent_chan;
        number = ap (λ (p : Packet). p.number) from.packet_is ∙ number ∙ sym own.number;
        hop = omega (arith, near_hop, own_hop, index, far);
        size = own.size ∙ sym size ∙ sym (ap (λ (p : Packet). p.size) from.packet_is);
        at = omega (arith, at_is, arrives, leaves, prop);
      };
      due_is = omega (arith, due_is, sent_due, eligible_is, bound, prop);
    }

-- ---- each departure

row-departs : (plan : PlanParts) (run : List Done) (levels : List (Option Levels)) (row : HopRow) → IsPlan plan → IsRun (network_of plan) run → AreLevelsOf plan run levels → Among row (departures_of run) → IsDeparture plan levels (departures_of run) row
row-departs plan run levels row is run_is are among =
    let own = row-is plan run levels row is run_is are among in
    let hop = hop-of plan run levels row is run_is are own among in
    by-index own own.own.index refl hop hop.turn.due hop.turn.from hop.turn.eligible where
      ticks-are : (own : RowIs plan run levels row) (hop : HasHop plan run levels row own) (until : ℕ) → eligible own.own.entry.request.contract (reverse (map tick_of_packet hop.front)) until ≡ eligible own.own.entry.request.contract (ticks_before (departures_of run) row) until
      ticks-are own hop until = ap (λ ts. eligible own.own.entry.request.contract (reverse ts) until) hop.ticks

      by-index : (own : RowIs plan run levels row) (index : ℕ) → own.own.index ≡ index → (hop : HasHop plan run levels row own) (due : ℕ) → CameFrom (asked_at own.own.entry.request own.own.index) (channel_number row.chan) (part_of (link_number row.link) run) own.start.packet due
          → own.start.packet.eligible ≡ eligible own.own.entry.request.contract (reverse (map tick_of_packet hop.front)) (waits_until (kind_of own.own.entry.request.control) (nat_eq own.own.index 0) own.start.packet.at due) → IsDeparture plan levels (departures_of run) row
      by-index own zero at hop due from tick =
          let hop_is = own.hop in
          record {
            terms = hop_terms plan own.own.entry.request (levels_of own.own.given) own.own.index own.own.at.hop;
            known = row-terms plan run levels row own;
            size_least = own.size_some;
            size_most = row-size plan run levels row is run_is own;
            bound = row-bound plan run levels row is run_is own;
            sooner = λ one other there chan first less. hop.sooner other there chan (first ∙ sym one) less;
            first = λ one. own.eligible ∙ tick ∙ ticks-are own hop (waits_until (kind_of own.own.entry.request.control) (nat_eq own.own.index 0) own.start.packet.at due)
                ∙ ap (eligible own.own.entry.request.contract (ticks_before (departures_of run) row)) (ap (λ b. waits_until (kind_of own.own.entry.request.control) b own.start.packet.at due) (eq-eqb own.own.index 0 at) ∙ sym own.at);
            near = λ far. absurd (omega (arith, far, hop_is, at));
            later = λ far. absurd (omega (arith, far, hop_is, at));
          }
      by-index own (suc j) at hop due (FromSource first) tick = absurd (let clash : false ≡ true = sym (ne_eqb own.own.index 0 (λ e. omega (arith, e, at))) ∙ first in cc)
      by-index own (suc j) at hop due (FromLink packet clock there off chan number size due_is) tick =
          let hop_is = own.hop in
          let near = near-of plan run levels row due j packet clock is run_is are own at there chan number size due_is in
          record {
            terms = hop_terms plan own.own.entry.request (levels_of own.own.given) own.own.index own.own.at.hop;
            known = row-terms plan run levels row own;
            size_least = own.size_some;
            size_most = row-size plan run levels row is run_is own;
            bound = row-bound plan run levels row is run_is own;
            sooner = λ one other there chan first less. hop.sooner other there chan (first ∙ sym one) less;
            first = λ one. absurd (omega (arith, one, hop_is, at));
            near = λ far. near.has;
            later = λ far. own.eligible ∙ tick ∙ ticks-are own hop (waits_until (kind_of own.own.entry.request.control) (nat_eq own.own.index 0) own.start.packet.at due)
                ∙ ap (eligible own.own.entry.request.contract (ticks_before (departures_of run) row))
                (ap (λ b. waits_until (kind_of own.own.entry.request.control) b own.start.packet.at due) (ne_eqb own.own.index 0 (λ e. omega (arith, e, at))) ∙ ap (λ t. earliest_tick (kind_of own.own.entry.request.control) t due) (sym own.at) ∙ ap (earliest_tick (kind_of own.own.entry.request.control) row.at) near.due_is);
          }

run-departs : (plan : PlanParts) (run : List Done) (levels : List (Option Levels)) → IsPlan plan → IsRun (network_of plan) run → AreLevelsOf plan run levels → AreDepartures plan levels (departures_of run)
run-departs plan run levels is run_is are = record {
  counted = λ c hop. counted plan run levels is run_is are c hop;
  each = Each-from_among _ (departures_of run) (λ row among. row-departs plan run levels row is run_is are among);
}

pub run-is_sound : (plan : PlanParts) (run : List Done) (levels : List (Option Levels)) → IsPlan plan → IsRun (network_of plan) run → AreLevelsOf plan run levels → IsSound plan levels (rows_of (reverse run))
run-is_sound plan run levels is run_is are = departures-sound plan levels (departures_of run) (run-departs plan run levels is run_is are)

-- so an audit of it finds nothing
pub runs-find_nothing : AuditsOfRunsFindNothing
runs-find_nothing plan run levels is run_is are = sound-found plan levels _ (run-is_sound plan run levels is run_is are)
