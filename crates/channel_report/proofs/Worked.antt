-- A worked report, computed from the definitions alone: one caller opens a channel over one link and sends a packet on it, and
-- the plane makes three rounds. The packet is on the link in ticks 0 and 1, and crosses it in 2 more.
use Rattle.std.proofs.Common.{None, ◌≡◌, ℕ, List, [], ◌∷◌, ◌++◌, codes, refl, lit<}
use Rattle.std.specs.Prelude.{Bool, true, false, reverse}
use Rattle.std.specs.Fmt.{digits}
use Rattle.net_units.specs.declared.numbers.ActorNo.{ActorNo}
use Rattle.traffic_contract.specs.Admission.{work_in, work_up_to, load, some_upto, passes_up_to, passes, admits, first_level, best_level}
use Rattle.traffic_contract.specs.Contract.{most_in}
use Rattle.traffic_contract.specs.Eligible.{first_from, eligible}
use Rattle.traffic_contract.specs.Keeping.{are_spaced, keeps, may_follow}
use Rattle.hop_reservation.specs.Offers.{delay_over}
use Rattle.relaxation.specs.Allotment.{bound_at_end, allotment}
use Rattle.link_steps.specs.declared.shape.LinkShape.{LinkShape}
use Rattle.link_steps.specs.BestEffort.{best_step, waiting_best}
use Rattle.link_steps.specs.Buffer.{slots_of, need_of, held_units, free_units, held_packets}
use Rattle.link_steps.specs.Hold.{hold_ended}
use Rattle.link_steps.specs.Lists.{change_first, without_first}
use Rattle.link_steps.specs.Regulator.{eligible_next}
use Rattle.link_steps.specs.Replies.{reserve_reply, relax_reply, deny_reply, submit_reply, release_reply, arrive_reply, sent_at, best_sent_at, reply_at, reply_to}
use Rattle.link_steps.specs.Room.{whole_room, room_of}
use Rattle.link_steps.specs.Rows.{planned_from}
use Rattle.link_steps.specs.Scan.{clock_of, with_arrival, without_expired, with_sources, with_best, best_step_at, after_tick, after, scan_of}
use Rattle.link_steps.specs.Service.{goes_before, first_in_line, is_waiting, serve_tick, starts_below, here_at}
use Rattle.link_steps.specs.Sources.{step_of, source_packets, rows_after, dropped_in}
use Rattle.setup_protocol.specs.Setup.{offers_in, after_offers, reach_after}
use Rattle.call_script.specs.Parts.{PlanParts, parts_of}
use Rattle.call_script.specs.Scripts.{newest, standing, resumed, from_step, is_established, outcome_in}
use Rattle.call_script.specs.Tasks.{network_of, tasks_of}
use Rattle.call_script.specs.declared.operations.Op.TheVariants.{Open, Send}
use Rattle.call_script.specs.declared.version.Version.TheVariants.{One}
use Rattle.run_engine.specs.runs.Runs.{next_for, run_from}
use Rattle.run_engine.specs.replies.Verdicts.{setup_replies}
use Rattle.run_engine.proofs.Worked.Networks.{k1, chan0, wide_link, request_over}
use Rattle.run_record.specs.Rows.{links_of, place_in, departures_in, put_row, in_order}
use Rattle.run_record.specs.Runs.{replies_to, part_of}
use Rattle.tick_plane.specs.Planes.{plane_of}
use Rattle.channel_report.specs.Delays.{arrived_at, delays_of, least_of, worst_of}
use Rattle.channel_report.specs.Links.{total_in}
use Rattle.channel_report.specs.Report.{report_of}
use Rattle.channel_report.specs.Sources.{planned_in, refused_in}

-- the plane, after one caller
abbrev plane : ActorNo
plane = record { number = 1; small = lit< tt }

abbrev shape : LinkShape
shape = wide_link 0

abbrev plan : PlanParts
plan = parts_of One
    (record { name = codes "A"; from = codes "n1"; to = codes "n2"; shape = shape; quotas = [] } ∷ [])
    (record {
      name = codes "r1";
      caller = k1;
      request = request_over chan0 (shape ∷ []) 12;
      found = None;
    } ∷ [])
    (record { name = codes "k1"; group = 0; ops = Open chan0 ∷ Send chan0 1 10 2 ∷ [] } ∷ [])
    3 0

-- the report of the run of these actors
unfoldable told : List ActorNo → Bool → List ℕ
unfolding network_of tasks_of run_from next_for part_of replies_to plane_of standing resumed from_step newest is_established outcome_in offers_in after_offers reach_after delay_over bound_at_end allotment reply_to reply_at reserve_reply room_of whole_room relax_reply deny_reply submit_reply release_reply arrive_reply sent_at best_sent_at clock_of scan_of after with_arrival after_tick with_best best_step_at best_step waiting_best change_first without_first without_expired with_sources hold_ended here_at starts_below serve_tick is_waiting first_in_line goes_before held_packets slots_of need_of held_units free_units planned_from eligible_next step_of source_packets rows_after dropped_in work_in work_up_to load some_upto passes_up_to passes admits first_level best_level most_in first_from eligible may_follow setup_replies links_of place_in departures_in put_row in_order arrived_at delays_of least_of worst_of total_in planned_in refused_in are_spaced keeps digits
told actors packets = report_of plan (reverse (run_from (network_of plan) [] actors)) packets

-- all steps: two of the setup, the send, and three ticks
whole-run : told (k1 ∷ k1 ∷ k1 ∷ plane ∷ plane ∷ plane ∷ []) true ≡
    codes "accept r1 delay 12 levels 1\n"
    ++ codes "channel r1 offered 1 keeps delivered 1 least 4 worst 4 refused 0\n"
    ++ codes "link A clock 3 sent 1 full 0\n"
    ++ codes "end steps 6\n"
    ++ codes "channel,packet,hop,link,size,at,eligible,departed\n"
    ++ codes "r1,1,1,A,2,0,0,2\n"
unfolding told
whole-run = refl

-- the first step alone
setup-begun : told (k1 ∷ []) false ≡ codes "pending r1\n" ++ codes "link A clock 0 sent 0 full 0\n" ++ codes "end steps 1\n"
unfolding told
setup-begun = refl
