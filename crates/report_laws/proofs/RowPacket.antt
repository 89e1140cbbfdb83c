-- Each row of an accepted channel is of a packet of that channel that has left a hop of its route: the row tells the hop's place in the
-- route, the packet's number, when it arrived there and when it departed.
use Rattle.std.proofs.Common.{◌≡◌, ℕ, suc, ◌≤◌, Bool, true, List, length, map, take, Some, refl, sym, ap, ◌∙◌, subst, arith}
use Rattle.run_engine.proofs.Words.{same_Some, slice_get_within, slice_get, reverse, link_number, actor_number, channel_number, link_of, Hop, Sent, clock_of, starts_of, leaves_at, Link, Among, offers_in, verdict_of, Accepts, Request, is_of_channel, PlanParts, IsPlan, network_of, part_of, Done, packets_on, IsRun}
use Rattle.link_steps.specs.declared.replies.Reply.TheVariants as Is
use Rattle.link_steps.proofs.ListParts.{Among-reverse, stands-at}
use Rattle.setup_protocol.proofs.SettledRequest.{accepted-passed}
use Rattle.channel_laws.proofs.DepartedCount.{start-among}
use Rattle.call_script.specs.declared.entries.RequestEntry.{RequestEntry}
use Rattle.call_script.proofs.PlansFit.{plan-fits}
use Rattle.call_script.proofs.OneOwner.{owned-by, all-owned}
use Rattle.run_record.specs.Rows.{row_of, hop_among, links_of}
use Rattle.run_record.specs.declared.rows.HopRow.{HopRow}
use Rattle.run_engine.specs.replies.Verdicts.{setup_replies}
use Rattle.run_engine.proofs.Channels.ChannelsAt.{packet-offered}
use Rattle.run_engine.proofs.Channels.HopsAt.{hop-at}
use Rattle.trace_audit.proofs.HopOrder.{offers-in-order, hop-number}
use Rattle.audit_laws.proofs.RunRows.{departure-told, sent-at, run-split}
use Rattle.audit_laws.proofs.RunSound.{departures_of}
use Rattle.trace_audit.proofs.SortedRows.{order-among}
use Rattle.report_laws.specs.Rows.{TellsDeparture, RowsShowDepartures}
use Rattle.interleave_core.proofs.Channels.GuaranteeLaw.{own-channel}
use Rattle.run_engine.proofs.Channels.PlanChannels.{request-asked, request-sound}

-- every hop has offered
abbrev pub AllOffered : List Done → Request → Type 0
AllOffered run request = length request.route ≤ length (offers_in (setup_replies (channel_number request.chan) run))

told-is-of : (plan : PlanParts) (run : List Done) (c : ℕ) (entry : RequestEntry) (done : Done) (clock full : ℕ) (sent : Sent) (best_sent best_lost : Bool) → IsPlan plan → IsRun (network_of plan) run → slice_get plan.requests c ≡ Some entry → AllOffered run entry.request
    → Among done run → done.reply ≡ Is.Ticked clock full (Some sent) best_sent best_lost → channel_number sent.packet.chan ≡ channel_number entry.request.chan → TellsDeparture (network_of plan) run entry.request (row_of (links_of (channel_number sent.packet.chan) (reverse run)) done.link clock sent)
told-is-of plan run c entry done clock full sent best_sent best_lost is run_is requested offered among reply chan =
    let fits = plan-fits plan is in
    let owned = all-owned plan is in
    let whole = owned-by plan c entry is requested in
    let sound = request-sound plan c entry is requested in
    let asked = request-asked plan c entry is requested in
    let split = run-split (network_of plan) run done run_is among in
    let at = sent-at (network_of plan) run done split.next.link clock full sent best_sent best_lost fits owned run_is among split.next.linked reply in
    let there : Among at.start.packet (packets_on split.next.link (link_number done.link) run) = start-among split.next.link.shape.rate (packets_on split.next.link (link_number done.link) run) (clock_of (part_of (link_number done.link) run)) at.start at.among in
    let same : channel_number at.start.packet.chan ≡ channel_number entry.request.chan = ap (λ (s : Sent). channel_number s.packet.chan) (sym at.is) ∙ chan in
    let mine : is_of_channel (channel_number entry.request.chan) at.start.packet ≡ true = subst (λ k. is_of_channel k at.start.packet ≡ true) same (own-channel at.start.packet at.numbered) in
    let row = packet-offered (network_of plan) entry.request run (link_number done.link) split.next.link at.start.packet fits run_is (asked run run_is) sound split.next.linked mine there in
    let hop = hop-at (network_of plan) entry.request row.route.index sound (slice_get_within entry.request.route row.route.index row.route.hop row.route.stands) in
    let on : link_number hop.hop.link ≡ link_number done.link = ap (λ (h : Hop). link_number h.link) (same_Some hop.hop row.route.hop (sym hop.stands ∙ row.route.stands)) ∙ row.route.number in
    let link : hop.link ≡ split.next.link = same_Some hop.link split.next.link (sym hop.linked ∙ ap (slice_get (network_of plan).links) on ∙ split.next.linked) in
    let script = stands-at (network_of plan).scripts (actor_number entry.caller) whole.inside in
    let links : links_of (channel_number sent.packet.chan) (reverse run) ≡ map link_of (take (length (offers_in (setup_replies (channel_number entry.request.chan) run))) entry.request.route) =
    ap (λ k. links_of k (reverse run)) chan ∙ offers-in-order (network_of plan) entry.request (actor_number entry.caller) script.0 run fits owned sound.route whole script.1 run_is in
    let inside = slice_get_within entry.request.route row.route.index hop.hop hop.stands in
    record {
      index = row.route.index;
      at = hop;
      hop = ap (hop_among (link_number done.link)) links ∙ ap (λ k. hop_among k (map link_of (take (length (offers_in (setup_replies (channel_number entry.request.chan) run))) entry.request.route))) (sym on)
          ∙ hop-number entry.request.route (length (offers_in (setup_replies (channel_number entry.request.chan) run))) row.route.index hop.hop sound.route hop.stands (omega (arith, inside, offered));
      link = sym on;
      start = at.start;
      among = subst (λ (l : Link). Among at.start (starts_of l.shape (part_of (link_number hop.hop.link) run))) (sym link) (subst (λ m. Among at.start (starts_of split.next.link.shape (part_of m run))) (sym on) at.among);
      own = mine;
      left = subst (λ (l : Link). leaves_at l.shape.rate at.start ≤ clock_of (part_of (link_number hop.hop.link) run)) (sym link) (subst (λ m. leaves_at split.next.link.shape.rate at.start ≤ clock_of (part_of m run)) (sym on) at.left);
      size = ap (λ (s : Sent). s.packet.size) at.is;
      eligible = ap (λ (s : Sent). s.eligible) at.is;
      departed = subst (λ (l : Link). suc clock ≡ leaves_at l.shape.rate at.start) (sym link) (sym at.leaves);
      number = ap (λ (s : Sent). s.packet.number) at.is;
      numbered = at.numbered;
      arrived = ap (λ (s : Sent). s.at) at.is;
    }

pub row-is-of : (plan : PlanParts) (run : List Done) (c : ℕ) (entry : RequestEntry) (row : HopRow) → IsPlan plan → IsRun (network_of plan) run → slice_get plan.requests c ≡ Some entry → AllOffered run entry.request → Among row (departures_of run) → channel_number row.chan ≡ channel_number entry.request.chan
    → TellsDeparture (network_of plan) run entry.request row
row-is-of plan run c entry row is run_is requested offered among chan =
    let told = departure-told (reverse run) (reverse run) row among in
    subst (TellsDeparture (network_of plan) run entry.request) (sym told.is)
    (told-is-of plan run c entry told.done told.clock told.full told.sent told.best_sent told.best_lost is run_is requested offered (Among-reverse told.done run told.among) told.reply
    (ap (λ (r : HopRow). channel_number r.chan) (sym told.is) ∙ chan))

-- every hop of an accepted channel has offered
pub all-offered : (run : List Done) (request : Request) (levels : List ℕ) (delay : ℕ) → verdict_of request (setup_replies (channel_number request.chan) run) ≡ Some (Accepts levels delay) → AllOffered run request
all-offered run request levels delay accepted = ((accepted-passed request (setup_replies (channel_number request.chan) run) (Accepts levels delay) accepted).0 refl).all_offer

pub rows-tell : RowsShowDepartures
rows-tell plan run c entry levels delay row is run_is requested accepted among chan =
    row-is-of plan run c entry row is run_is requested (all-offered run entry.request levels delay accepted) (order-among row (departures_of run) among) chan
