-- In the run of a plan, audited with the levels with which its requests were accepted, the departures are as a sound table has them.
use Rattle.std.proofs.Common.{◌≡◌, ℕ, suc, ◌+◌, ◌-◌, ◌≤◌, Bool, true, List, length, map, get_or, take, Option, Some, refl, sym, ap, ◌∙◌, subst, arith}
use Rattle.run_engine.proofs.Words.{eq-eqb, ne_eqb, le-leb, and_from, same_Some, slice_get_within, slice_get, reverse, bound_at, link_number, actor_number, channel_number, link_of, Sent, LeavesInTime, clock_of, starts_of, Arrival, Start, leaves_at, Link, Among, AllOfferTerms, SizeWithin, is_of_channel, offers_in, PlanParts, IsPlan, entry_link, groups_in, network_of, part_of, Done, packets_on, packets_at, IsRun}
use Rattle.net_units.specs.Allotted.{levels_of}
use Rattle.net_units.specs.Quotient.{ceil_quotient}
use Rattle.net_units.specs.declared.levels.Levels.{Levels}
use Rattle.link_steps.specs.declared.replies.Reply.TheVariants as Is
use Rattle.link_steps.proofs.HopHolds.{guaranteed}
use Rattle.link_steps.proofs.SearchAndFilter.{Each-among}
use Rattle.link_steps.proofs.ListParts.{comes-from, Among-reverse}
use Rattle.link_steps.proofs.Departures.{starts-eligible}
use Rattle.link_steps.proofs.PacketRows.{Among-passes}
use Rattle.channel_laws.proofs.DepartedCount.{start-among, channel-few}
use Rattle.channel_laws.proofs.NumberedPackets.{HasNumber, packets-have_numbers}
use Rattle.channel_laws.proofs.SizeLaw.{legal-within}
use Rattle.call_script.proofs.PlansFit.{plan-fits}
use Rattle.call_script.proofs.OneOwner.{all-owned}
use Rattle.run_record.specs.Rows.{row_of, hop_among, links_of, departures_in}
use Rattle.run_record.specs.declared.rows.HopRow.{HopRow}
use Rattle.run_engine.specs.channels.Hops.{terms_at as asked_at}
use Rattle.run_engine.specs.replies.Verdicts.{setup_replies}
use Rattle.run_engine.proofs.Runs.RunLegal.{part-admissible}
use Rattle.trace_audit.specs.Checks.{is_within_bound}
use Rattle.audit_laws.specs.RunLevels.{AreLevelsOf}
use Rattle.trace_audit.specs.Terms.{hop_terms, rate_of, terms_at, over_link, terms_of_row}
use Rattle.trace_audit.proofs.HopOrder.{offers-in-order, hop-number}
use Rattle.audit_laws.proofs.PacketOf.{PacketOf, packet-of}
use Rattle.trace_audit.proofs.WholeRoute.{terms-given}
use Rattle.audit_laws.proofs.RunRows.{departure-told, sent-at, run-split}
use Rattle.trace_audit.proofs.RowTerms.{IsGiven, given-at}

-- ---- the packet of a row

pub record RowIs (plan : PlanParts) (run : List Done) (levels : List (Option Levels)) (row : HopRow) : Type 0 where
  pub link : Link
  pub linked : slice_get (network_of plan).links (link_number row.link) ≡ Some link
  pub start : Start
  pub own : PacketOf plan run levels (link_number row.link) link start.packet
  pub among : Among start.packet (packets_on link (link_number row.link) run)
  pub started : Among start (starts_of link.shape (part_of (link_number row.link) run))
  pub left : leaves_at link.shape.rate start ≤ clock_of (part_of (link_number row.link) run)
  pub leaves : leaves_at link.shape.rate start ≡ row.departed
  pub chan : row.chan ≡ start.packet.chan
  pub number : row.number ≡ start.packet.number
  pub size : row.size ≡ start.packet.size
  pub size_some : 1 ≤ row.size
  pub at : row.at ≡ start.packet.at
  pub eligible : row.eligible ≡ start.packet.eligible
  pub hop : row.hop ≡ suc own.index
  pub numbered : 1 ≤ row.number

-- what a tick of the run tells
pub told-is : (plan : PlanParts) (run : List Done) (levels : List (Option Levels)) (done : Done) (clock full : ℕ) (sent : Sent) (best_sent best_lost : Bool) → IsPlan plan → IsRun (network_of plan) run → AreLevelsOf plan run levels → Among done run → done.reply ≡ Is.Ticked clock full (Some sent) best_sent best_lost → RowIs plan run levels (row_of (links_of (channel_number sent.packet.chan) (reverse run)) done.link clock sent)
told-is plan run levels done clock full sent best_sent best_lost is run_is are among reply =
    let fits = plan-fits plan is in
    let owned = all-owned plan is in
    let split = run-split (network_of plan) run done run_is among in
    let link = split.next.link in
    let at = sent-at (network_of plan) run done split.next.link clock full sent best_sent best_lost fits owned run_is among split.next.linked reply in
    let there : Among at.start.packet (packets_on split.next.link (link_number done.link) run) = start-among split.next.link.shape.rate (packets_on split.next.link (link_number done.link) run) (clock_of (part_of (link_number done.link) run)) at.start at.among in
    let own = packet-of plan run levels (link_number done.link) split.next.link at.start.packet is run_is are split.next.linked there at.numbered in
    let chan : sent.packet.chan ≡ at.start.packet.chan = ap (λ (s : Sent). s.packet.chan) at.is in
    let c : channel_number sent.packet.chan ≡ channel_number own.entry.request.chan = ap channel_number chan ∙ sym own.chan in
    let links : links_of (channel_number sent.packet.chan) (reverse run) ≡ map link_of (take (length (offers_in (setup_replies (channel_number own.entry.request.chan) run))) own.entry.request.route) =
    ap (λ k. links_of k (reverse run)) c ∙ offers-in-order (network_of plan) own.entry.request (actor_number own.entry.caller) own.tasks run fits owned own.sound.route own.full own.script run_is in
    let inside = slice_get_within own.entry.request.route own.index own.at.hop own.at.stands in
    let offered = own.offered in
    let size : sent.packet.size ≡ at.start.packet.size = ap (λ (s : Sent). s.packet.size) at.is in
    let some = at.size in
    let number : sent.packet.number ≡ at.start.packet.number = ap (λ (s : Sent). s.packet.number) at.is in
    let least = at.numbered in
    record {
      link = split.next.link;
      linked = split.next.linked;
      start = at.start;
      own = own;
      among = there;
      started = at.among;
      left = at.left;
      leaves = at.leaves;
      chan = chan;
      number = number;
      size = size;
      size_some = omega (arith, size, some);
      at = ap (λ (s : Sent). s.at) at.is;
      eligible = ap (λ (s : Sent). s.eligible) at.is;
      hop = ap (hop_among (link_number done.link)) links ∙ ap (λ k. hop_among k (map link_of (take (length (offers_in (setup_replies (channel_number own.entry.request.chan) run))) own.entry.request.route))) (sym own.on)
          ∙ hop-number own.entry.request.route (length (offers_in (setup_replies (channel_number own.entry.request.chan) run))) own.index own.at.hop own.sound.route own.at.stands (omega (arith, inside, offered));
      numbered = omega (arith, number, least);
    }

abbrev pub departures_of : List Done → List HopRow
departures_of run = departures_in (reverse run) (reverse run)

pub row-is : (plan : PlanParts) (run : List Done) (levels : List (Option Levels)) (row : HopRow) → IsPlan plan → IsRun (network_of plan) run → AreLevelsOf plan run levels → Among row (departures_of run) → RowIs plan run levels row
row-is plan run levels row is run_is are among =
    let told = departure-told (reverse run) (reverse run) row among in
    subst (RowIs plan run levels) (sym told.is) (told-is plan run levels told.done told.clock told.full told.sent told.best_sent told.best_lost is run_is are (Among-reverse told.done run told.among) told.reply)

-- ---- its terms

pub row-terms : (plan : PlanParts) (run : List Done) (levels : List (Option Levels)) (row : HopRow) → (own : RowIs plan run levels row) → terms_of_row plan levels row ≡ Some (hop_terms plan own.own.entry.request (levels_of own.own.given) own.own.index own.own.at.hop)
unfolding terms_of_row
row-terms plan run levels row own =
    let hop = own.hop in
    let chan : channel_number row.chan ≡ channel_number own.start.packet.chan = ap channel_number own.chan in
    let far = ne_eqb row.hop 0 (λ e. omega (arith, e, hop)) in
    let less : row.hop - 1 ≡ own.own.index = omega (arith, hop) in
    let given : IsGiven plan levels (channel_number own.start.packet.chan) = record { entry = own.own.entry; given = own.own.given; requested = own.own.requested; accepted = given-at levels (channel_number own.start.packet.chan) own.own.given own.own.accepted } in
    let at : terms_at plan levels (channel_number row.chan) (row.hop - 1) ≡ Some (hop_terms plan own.own.entry.request (levels_of own.own.given) own.own.index own.own.at.hop) =
    ap (λ k. terms_at plan levels k (row.hop - 1)) chan ∙ ap (terms_at plan levels (channel_number own.start.packet.chan)) less ∙ terms-given plan levels (channel_number own.start.packet.chan) own.own.index given own.own.at.hop own.own.at.stands in
    let over = eq-eqb (link_number own.own.at.hop.link) (link_number row.link) own.own.on in
    rw far (ap (over_link (link_number row.link)) at ∙ (rw over refl))

-- ---- its size and its bound

pub same-link : (plan : PlanParts) (run : List Done) (levels : List (Option Levels)) (row : HopRow) → (own : RowIs plan run levels row) → own.own.at.link ≡ own.link
same-link plan run levels row own = same_Some own.own.at.link own.link (sym own.own.at.linked ∙ ap (slice_get (network_of plan).links) own.own.on ∙ own.linked)

rate-is : (plan : PlanParts) (n : ℕ) (link : Link) → slice_get (network_of plan).links n ≡ Some link → rate_of (slice_get plan.links n) ≡ link.shape.rate
unfolding network_of
rate-is plan n link linked =
    let from = comes-from (entry_link (groups_in plan)) plan.links n link linked in
    ap rate_of from.found ∙ ap (λ (l : Link). l.shape.rate) from.is

pub row-size : (plan : PlanParts) (run : List Done) (levels : List (Option Levels)) (row : HopRow) → IsPlan plan → IsRun (network_of plan) run → (own : RowIs plan run levels row) → row.size ≤ own.own.entry.request.contract.smax
row-size plan run levels row is run_is own =
    let legal = part-admissible (network_of plan) run (link_number row.link) own.link (plan-fits plan is) run_is own.linked in
    let names : AllOfferTerms (asked_at own.own.entry.request own.own.index) (channel_number own.own.entry.request.chan) (part_of (link_number row.link) run) = subst (λ n. AllOfferTerms (asked_at own.own.entry.request own.own.index) (channel_number own.own.entry.request.chan) (part_of n run)) own.own.on ((own.own.asked run run_is).names own.own.index own.own.at.hop own.own.at.stands) in
    let all = legal-within own.link.shape (asked_at own.own.entry.request own.own.index) (channel_number own.own.entry.request.chan) (part_of (link_number row.link) run) legal names in
    let here = Among-passes (is_of_channel (channel_number own.own.entry.request.chan)) own.start.packet (packets_on own.link (link_number row.link) run) own.own.mine own.among in
    let within = Each-among (SizeWithin (asked_at own.own.entry.request own.own.index)) own.start.packet _ all here in
    let size = own.size in
    omega (arith, within, size)

-- the level of its packet
row-level : (plan : PlanParts) (run : List Done) (levels : List (Option Levels)) (row : HopRow) → (own : RowIs plan run levels row) → own.start.packet.level ≡ get_or (levels_of own.own.given) own.own.index 0
row-level plan run levels row own =
    let there : Among own.start.packet (packets_on own.own.at.link (link_number own.own.at.hop.link) run) = subst (λ l. Among own.start.packet (packets_on l (link_number own.own.at.hop.link) run)) (sym (same-link plan run levels row own)) (subst (λ n. Among own.start.packet (packets_on own.link n run)) (sym own.own.on) own.among) in
    let here = Among-passes (is_of_channel (channel_number own.own.entry.request.chan)) own.start.packet (packets_on own.own.at.link (link_number own.own.at.hop.link) run) own.own.mine there in
    Each-among (λ (q : Arrival). q.level ≡ get_or (levels_of own.own.given) own.own.index 0) own.start.packet (packets_at (network_of plan) own.own.entry.request own.own.index own.own.at run) (own.own.have.at own.own.index own.own.at) here

pub row-bound : (plan : PlanParts) (run : List Done) (levels : List (Option Levels)) (row : HopRow) → IsPlan plan → IsRun (network_of plan) run → (own : RowIs plan run levels row) → is_within_bound (hop_terms plan own.own.entry.request (levels_of own.own.given) own.own.index own.own.at.hop) row ≡ true
unfolding is_within_bound
row-bound plan run levels row is run_is own =
    let legal = part-admissible (network_of plan) run (link_number row.link) own.link (plan-fits plan is) run_is own.linked in
    let same = same-link plan run levels row own in
    let rate : rate_of (slice_get plan.links (link_number own.own.at.hop.link)) ≡ own.link.shape.rate = ap (λ n. rate_of (slice_get plan.links n)) own.own.on ∙ rate-is plan (link_number row.link) own.link own.linked in
    let after = Each-among (λ (s : Start). s.packet.eligible ≤ s.tick) own.start (starts_of own.link.shape (part_of (link_number row.link) run)) (starts-eligible own.link.shape.rate (packets_on own.link (link_number row.link) run) (clock_of (part_of (link_number row.link) run))) own.started in
    let work : ceil_quotient row.size (rate_of (slice_get plan.links (link_number own.own.at.hop.link))) ≡ ceil_quotient own.start.packet.size own.link.shape.rate = ap (λ r. ceil_quotient row.size r) rate ∙ ap (λ s. ceil_quotient s own.link.shape.rate) own.size in
    let eligible = own.eligible in
    let leaves = own.leaves in
    let left = own.left in
    let numbers = Each-among (HasNumber own.link.shape.bounds) own.start.packet _ (packets-have_numbers own.link.shape (part_of (link_number row.link) run) legal) own.among in
    let few = channel-few own.link.shape (channel_number own.own.entry.request.chan) own.start.packet numbers own.own.mine in
    let times = Each-among (LeavesInTime own.link.shape (clock_of (part_of (link_number row.link) run))) own.start _ (guaranteed own.link.shape (part_of (link_number row.link) run) legal).departed own.started in
    let most = times.within few own.left in
    let bound : bound_at own.own.at.hop.bounds (get_or (levels_of own.own.given) own.own.index 0) ≡ bound_at own.link.shape.bounds own.start.packet.level =
    ap (λ bs. bound_at bs (get_or (levels_of own.own.given) own.own.index 0)) (own.own.at.bounds ∙ ap (λ (l : Link). l.shape.bounds) same) ∙ ap (bound_at own.link.shape.bounds) (sym (row-level plan run levels row own)) in
    and_from _ _ (le-leb (row.eligible + ceil_quotient row.size (rate_of (slice_get plan.links (link_number own.own.at.hop.link)))) row.departed (omega (arith, after, work, eligible, leaves)))
    (le-leb row.departed (row.eligible + bound_at own.own.at.hop.bounds (get_or (levels_of own.own.given) own.own.index 0)) (omega (arith, most, eligible, leaves, bound)))
