-- The words of the crates below, and of runs, that most proofs here cite, passed on from one place. Declares nothing.
pub use Rattle.std.specs.List.{AllByRecursion, list_all, list_any, slice_get}
unfoldable pub use Rattle.std.specs.List.{IsDistinct}
pub use Rattle.std.specs.Option.{option_map}
pub use Rattle.std.specs.Prelude.{Err, IfOk, Ok, OnErr, OnOk, Result, false, filter, find, if◌then◌else◌, map, nat_eq, nat_le, nat_lt, not, reverse, ◌&&◌, ◌||◌, ◌≤◌}
pub use Rattle.std.proofs.lemmas.Bool.{and_from, and_parts, cases_Bool, cases_eq, cases_lt, cond_both, eq-eqb, eqb-false, eqb-true, le-leb, le-ltb, leb-true, lt-leb, lt-ltb, ltb-true, ne_eqb}
pub use Rattle.std.proofs.lemmas.List.{append-nil, append_assoc, get_or_append_left, get_or_push, length-append, length-map, length-reverse, length-set, length-take-le, length_push, map-append, reverse-append, take-append-drop, take_all, take_more, with_items_is}
pub use Rattle.std.proofs.lemmas.Option.{get_or_from_slice_get, same_Some, slice_get-map, slice_get_cases, slice_get_past, slice_get_read, slice_get_within}
pub use Rattle.net_units.specs.LevelBounds.{bound_at}
pub use Rattle.net_units.specs.Numbers.{actor_at, actor_number, channel_number, level_number, link_at, link_number}
pub use Rattle.net_units.specs.declared.Kind.TheVariants.{Jitter, Rate}
pub use Rattle.net_units.specs.declared.numbers.ActorNo.{ActorNo}
pub use Rattle.net_units.specs.declared.numbers.ChanNo.{ChanNo}
pub use Rattle.net_units.specs.declared.numbers.LinkNo.{LinkNo}
pub use Rattle.traffic_contract.specs.Admission.{total}
unfoldable pub use Rattle.traffic_contract.specs.Admission.{admits, best_level, first_level, load, passes, passes_up_to, some_upto, work_in, work_up_to}
pub use Rattle.traffic_contract.specs.Contract.{IsContract, Traffic, burst_of, terms_of}
unfoldable pub use Rattle.traffic_contract.specs.Contract.{most_in}
pub use Rattle.traffic_contract.specs.Eligible.{IsEligible}
unfoldable pub use Rattle.traffic_contract.specs.Eligible.{eligible, first_from}
pub use Rattle.traffic_contract.specs.Keeping.{Keeps, Spaced, keeps_newest_first}
unfoldable pub use Rattle.traffic_contract.specs.Keeping.{may_follow}
pub use Rattle.hop_reservation.specs.Offers.{IsLevelOf, next_levels}
unfoldable pub use Rattle.hop_reservation.specs.Offers.{AreLevels, delay_over}
pub use Rattle.hop_reservation.specs.Routes.{IsRoute, link_of}
pub use Rattle.hop_reservation.specs.declared.route.Hop.{Hop}
unfoldable pub use Rattle.relaxation.specs.Allotment.{allotment, bound_at_end}
unfoldable pub use Rattle.link_steps.specs.Admissible.{IsAdmissible, MayAnswer}
pub use Rattle.link_steps.specs.Buffer.{stay_of}
unfoldable pub use Rattle.link_steps.specs.Buffer.{free_units, held_packets, held_units, need_of, slots_of}
pub use Rattle.link_steps.specs.Hold.{expires, stays}
unfoldable pub use Rattle.link_steps.specs.Hold.{hold_ended}
pub use Rattle.link_steps.specs.HopGuarantee.{HasLeftInTime, LeavesInTime, deadline_of}
pub use Rattle.link_steps.specs.Legal.{AskFits, PacketFits, SubmitFits}
unfoldable pub use Rattle.link_steps.specs.Legal.{IsLegal}
pub use Rattle.link_steps.specs.Lists.{Among, Each}
unfoldable pub use Rattle.link_steps.specs.Lists.{change_first, without_first}
pub use Rattle.link_steps.specs.Quiet.{RestsUntil, quiet_reply}
unfoldable pub use Rattle.link_steps.specs.Quiet.{quiet_ticks}
pub use Rattle.link_steps.specs.Regulator.{waits_until}
unfoldable pub use Rattle.link_steps.specs.Regulator.{eligible_next}
pub use Rattle.link_steps.specs.Replies.{arrive_to, cancelled_at_release, count_at_release, release_to, submit_to, tick_reply}
unfoldable pub use Rattle.link_steps.specs.Replies.{arrive_reply, best_sent_at, deny_reply, relax_reply, release_reply, reply_at, reply_to, reserve_reply, sent_at, submit_reply}
pub use Rattle.link_steps.specs.Reservation.{Reservation, closing, committed, is_of, is_phase, is_same, tentative}
pub use Rattle.link_steps.specs.Rows.{Row, SourcePacket, left_at, made_by, new_row, offered_by, row_terms, tick_of}
unfoldable pub use Rattle.link_steps.specs.Rows.{planned_from}
pub use Rattle.link_steps.specs.Scan.{Scan, arrived_packet, arrived_row, clock_with, close_row, is_row_at_hop, is_row_of, names_first_hop, plan_row, relax_row, starts_of}
unfoldable pub use Rattle.link_steps.specs.Scan.{after, after_tick, best_step_at, clock_of, scan_of, with_arrival, with_best, with_sources, without_expired}
pub use Rattle.link_steps.specs.Service.{Arrival, Start, add_start, has_departed, is_busy, is_here, leaves_at}
unfoldable pub use Rattle.link_steps.specs.Service.{first_in_line, goes_before, here_at, is_waiting, serve_tick, starts_below}
pub use Rattle.link_steps.specs.Sources.{Rests, SourceStep, row_after, taken_by}
unfoldable pub use Rattle.link_steps.specs.Sources.{dropped_in, rows_after, source_packets, step_of}
pub use Rattle.link_steps.specs.Split.{Link, Split, SplitFits, whole}
pub use Rattle.link_steps.specs.declared.asks.Ask.{Ask}
pub use Rattle.link_steps.specs.declared.asks.Ask.TheVariants.{Arrive, Deny, Relax, Release, Reserve, Submit, Tick}
pub use Rattle.link_steps.specs.declared.asks.Packet.{Packet}
pub use Rattle.link_steps.specs.declared.replies.Entry.{Entry}
pub use Rattle.link_steps.specs.declared.replies.Phase.{Phase}
pub use Rattle.link_steps.specs.declared.replies.Phase.TheVariants.{Closing, Committed, Tentative}
pub use Rattle.link_steps.specs.declared.replies.Reply.{Reply}
pub use Rattle.link_steps.specs.declared.replies.Reply.TheVariants.{Denied, Offer, Planned, Refused, Relaxed, Taken, Ticked}
pub use Rattle.link_steps.specs.declared.replies.Sent.{Sent}
pub use Rattle.link_steps.specs.declared.shape.LinkShape.{LinkShape}
pub use Rattle.channel_move.specs.Moving.{answers, answers_next, asked_at, first_told, kept_in, next_of_move, shifted_in, told_by}
pub use Rattle.channel_move.specs.Stages.{joining_after, stage_after}
pub use Rattle.channel_move.specs.declared.mover.Stage.TheVariants.{Joining, Leaving, Releasing}
pub use Rattle.channel_move.specs.declared.shifted.Shifted.{Shifted}
pub use Rattle.setup_protocol.specs.Hops.{IsHopOf, RequestFits}
pub use Rattle.setup_protocol.specs.Setup.{Accepts, Denies, Outcome, Progress, Relaxing, Reserving, Settled, Undoing, after_test, answers_deny, answers_relax, answers_reserve, asked, asked_of, at_destination, bound_given, hop_link, is_expected, is_offer, level_in, next_ask, on_the_way, progress_of, relaxing, reserve_of, settled_in, undoing, verdict_of}
unfoldable pub use Rattle.setup_protocol.specs.Setup.{after_offers, offers_in, reach_after}
pub use Rattle.setup_protocol.specs.Teardown.{first_count, is_closing, next_release, told_count}
pub use Rattle.setup_protocol.specs.declared.request.Request.{Request}
pub use Rattle.channel_laws.specs.Asks.{IsMild, IsOff, IsReserve, MayReplyTo}
pub use Rattle.channel_laws.specs.Channels.{AllOfferTerms, AreNumberedAfter, ChannelStands, HasOneRow, HopTerms, IsElsewhere, IsOnly, OffersTerms, RowTells, SizeWithin, channel_of, channel_packets, is_of_channel, offers_with, tick_of_packet, ticks_at}
unfoldable pub use Rattle.channel_laws.specs.Channels.{offers_to}
pub use Rattle.channel_laws.specs.Departing.{IsSent, SendsOther, SendsOwn, TickSends, gone_of, ticked}
pub use Rattle.channel_laws.specs.Reservations.{Closed, ComesOf, IsArriveReply, IsOpen, IsReleased, IsSendReply, Stays, held_by}
pub use Rattle.channel_laws.specs.Unsent.{FewCancelled, IsPlanned, IsUnsent, NoneSent}
pub use Rattle.call_script.specs.Fits.{MoveFits, NetworkFits, TaskFits}
pub use Rattle.call_script.specs.Owners.{AllOwned, ClosesOnce, FullScript, IsMoveFrom, IsMoveOnto, IsOwned, IsSendOn, IsUnnamed, OwnedFully, PacketsOff, SendsOnce, TaskOff, UsedOnce}
pub use Rattle.call_script.specs.Parts.{PlanParts, opening_of}
unfoldable pub use Rattle.call_script.specs.Parts.{openings_in, openings_of}
pub use Rattle.call_script.specs.Plans.{HasTerms, IsPlan}
pub use Rattle.call_script.specs.Scripts.{Learnt, MovedTo, Packets, PlannedOn, Settles, Standing, answers_submit, ask_at, begun, continued, expects, first_ask, first_expects, is_that, move_between, moved_as, moved_by, once_next, or_before, outcome_by, packets_ask, packets_by, packets_in, planned_as, ready, replied, script_ask, settled_as, standing_of, takes_step, task_ask}
unfoldable pub use Rattle.call_script.specs.Scripts.{from_step, is_established, last_packets, moved_off, newest, outcome_in, resumed, standing}
pub use Rattle.call_script.specs.Splits.{entry_link, groups_in, split_by, split_if}
pub use Rattle.call_script.specs.Tasks.{Network, move_for, request_of, script_of, send_on, task_for, with_task}
unfoldable pub use Rattle.call_script.specs.Tasks.{network_of, tasks_of}
pub use Rattle.call_script.specs.declared.schedule.Do.{Do}
pub use Rattle.call_script.specs.declared.tasks.Task.{Task}
pub use Rattle.call_script.specs.declared.tasks.Task.TheVariants.{Closes, Moves, Opens, Sends}
pub use Rattle.run_record.specs.Runs.{entry_of, is_by}
unfoldable pub use Rattle.run_record.specs.Runs.{part_of, replies_to}
pub use Rattle.run_record.specs.declared.done.Done.{Done}
pub use Rattle.tick_plane.specs.Planes.{IsDueLater, Plane, answers_arrive, answers_tick, ask_due, flight_in, flight_to, is_due, next_due, plane_after, plane_ask, plane_expects, plane_start, plane_with, tick_made}
unfoldable pub use Rattle.tick_plane.specs.Planes.{plane_of}
pub use Rattle.tick_plane.specs.declared.flight.Flight.{Flight}
pub use Rattle.link_quota.specs.Any.{AnyStands, any-clock-is, any_account, any_clock, any_rules}
pub use Rattle.link_quota.specs.declared.any_link.AnyLink.{AnyLink}
pub use Rattle.run_engine.specs.runs.Runs.{IsNext, done_at, plane_at, plane_no, step, stepped}
unfoldable pub use Rattle.run_engine.specs.runs.Runs.{IsRun, next_for, run_from}
pub use Rattle.run_engine.specs.channels.Hops.{ChannelAsked, ComesFrom, OnRoute, packets_on, terms_at}
pub use Rattle.run_engine.specs.channels.Paths.{HopAt, IsBehind, Passed, PathKept, arrival_ticks, arrived_at, bound_of, count_at, delay_before, eligible_at, hop_ticks, packets_at, reaches_at}
pub use Rattle.run_engine.specs.channels.Moves.{AMoveLeavesNoPacketBehind, EveryMoveKeeps, EveryMoveTakesTheLast, PlannedPacketsAreOfferedLeftOrCancelled, cancelled_with, last_with, left_in, left_of, moved_in, offered_in, offered_of, plan_at, plan_in, planned_with}
unfoldable pub use Rattle.run_engine.specs.channels.Moves.{cancelled_in, last_planned, planned_in}
