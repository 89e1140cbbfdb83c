-- Each delay that the report tells of an accepted channel is that of a packet that has left the last hop, as the whole guarantee has it.
use Rattle.std.proofs.Common.{List, Some, ◌≡◌, ℕ, suc, ◌-◌, true, length, sym, ap, ◌∙◌, arith}
use Rattle.run_engine.proofs.Words.{slice_get, reverse, link_number, channel_number, Link, Among, Arrival, leaves_at, RequestFits, Request, is_of_channel, NetworkFits, PlanParts, IsPlan, Network, network_of, Done, IsRun, packets_on, ChannelAsked, HopAt, packets_at, arrived_at}
use Rattle.link_steps.proofs.PacketRows.{Among-passes}
use Rattle.link_steps.proofs.ListParts.{Among-reverse}
use Rattle.channel_laws.proofs.DepartedCount.{start-among}
use Rattle.call_script.specs.declared.entries.RequestEntry.{RequestEntry}
use Rattle.call_script.proofs.PlansFit.{plan-fits}
use Rattle.run_record.specs.Rows.{rows_of}
use Rattle.run_record.specs.declared.rows.HopRow.{HopRow}
use Rattle.run_engine.proofs.Channels.ChannelsAt.{packet-offered}
use Rattle.run_engine.specs.channels.Paths.{clock_at}
use Rattle.audit_laws.proofs.RunSound.{departures_of}
use Rattle.trace_audit.proofs.SortedRows.{order-among}
use Rattle.channel_report.specs.Delays.{last_prop, prop_of}
use Rattle.report_laws.proofs.HopPacket.{AreOneHop, one-hop, left-there, packets-there, arrived-at}
use Rattle.report_laws.specs.Rows.{TellsDeparture}
use Rattle.report_laws.specs.Delivered.{IsDelay}
use Rattle.report_laws.proofs.RowPacket.{AllOffered, row-is-of}
use Rattle.report_laws.proofs.ToldDelays.{DelayOf}
use Rattle.run_engine.proofs.Channels.PlanChannels.{request-asked, request-sound}

-- the delay of the packet of this number, which has left the last hop, and the packet at the first hop
pub record ToldDelay (network : Network) (request : Request) (first : HopAt network request 0) (m : ℕ) (last : HopAt network request m) (run : List Done) (number delay : ℕ) : Type 0 where
  pub is : IsDelay network request first m last run delay
  pub number_is : is.start.packet.number ≡ number
  pub packet : Arrival
  pub taken : Among packet (packets_on first.link (link_number first.hop.link) run)
  pub own : is_of_channel (channel_number request.chan) packet ≡ true

-- the propagation of the last link
last-prop : (network : Network) (request : Request) (m : ℕ) (last : HopAt network request m) → suc m ≡ length request.route → last_prop request.route ≡ last.link.shape.prop
last-prop network request m last is =
    let at : length request.route - 1 ≡ m = omega (arith, is) in
    ap (λ i. prop_of (slice_get request.route i)) at ∙ ap prop_of last.stands ∙ last.prop

pub delay-is : (plan : PlanParts) (run : List Done) (c : ℕ) (entry : RequestEntry) (first : HopAt (network_of plan) entry.request 0) (m : ℕ) (last : HopAt (network_of plan) entry.request m) (delay : ℕ) → IsPlan plan → IsRun (network_of plan) run → slice_get plan.requests c ≡ Some entry → AllOffered run entry.request
    → suc m ≡ length entry.request.route → (of : DelayOf entry.request (reverse (rows_of (reverse run))) delay) → ToldDelay (network_of plan) entry.request first m last run of.row.number delay
delay-is plan run c entry first m last delay is run_is requested offered end of = record {
  is = record {
    k = r.start.packet.number - 1;
    start = r.start;
    left = left-there (network_of plan) entry.request r.index m r.at last run (r.start.packet.number - 1) r.start at-last r.among r.own r.left (let some = r.numbered in omega (arith, some));
    is = (let told = of.is in
        let departed : of.row.departed ≡ leaves_at last.link.shape.rate r.start = r.departed ∙ ap (λ (l : Link). leaves_at l.shape.rate r.start) at-last.link in
        let prop = last-prop (network_of plan) entry.request m last end in
        let start = f.arrived in
        omega (arith, told, departed, prop, start, arrived));
  };
  number_is = sym r.number;
  packet = f.start.packet;
  taken = mine;
  own = f.own;
} where
  fits : NetworkFits (network_of plan)
  fits = plan-fits plan is

  sound : RequestFits (network_of plan).links entry.request
  sound = request-sound plan c entry is requested

  asked : (past : List Done) → IsRun (network_of plan) past → ChannelAsked entry.request past
  asked = request-asked plan c entry is requested

  there : (row : HopRow) → Among row (reverse (rows_of (reverse run))) → Among row (departures_of run)
  there row among = order-among row (departures_of run) (Among-reverse row (rows_of (reverse run)) among)

  r : TellsDeparture (network_of plan) run entry.request of.row
  r = row-is-of plan run c entry of.row is run_is requested offered (there of.row of.among) of.chan

  f : TellsDeparture (network_of plan) run entry.request of.first
  f = row-is-of plan run c entry of.first is run_is requested offered (there of.first of.first_among) (sym of.first_chan ∙ of.chan)

  at-last : AreOneHop (network_of plan) entry.request r.index m r.at last
  at-last = one-hop (network_of plan) entry.request r.index m r.at last (let a = r.hop in let b = of.last in omega (arith, a, b, end))

  at-first : AreOneHop (network_of plan) entry.request f.index 0 f.at first
  at-first = one-hop (network_of plan) entry.request f.index 0 f.at first (let a = f.hop in let b = of.first_hop in omega (arith, a, b))

  mine : Among f.start.packet (packets_on first.link (link_number first.hop.link) run)
  mine = packets-there (network_of plan) entry.request f.index 0 f.at first run f.start.packet at-first
      (start-among f.at.link.shape.rate (packets_on f.at.link (link_number f.at.hop.link) run) (clock_at f.at run) f.start f.among)

  arrived : arrived_at first run (r.start.packet.number - 1) ≡ f.start.packet.at
  arrived = arrived-at 0 (packets_at (network_of plan) entry.request 0 first run) f.start.packet (r.start.packet.number - 1)
      (packet-offered (network_of plan) entry.request run (link_number first.hop.link) first.link f.start.packet fits run_is (asked run run_is) sound first.linked f.own mine).row.tells.numbered
      (Among-passes (is_of_channel (channel_number entry.request.chan)) f.start.packet (packets_on first.link (link_number first.hop.link) run) f.own mine)
      (let a = of.first_number in let b = f.number in let d = r.number in let some = r.numbered in omega (arith, a, b, d, some))
