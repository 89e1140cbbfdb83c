-- Worked moves of a channel between two links that lie side by side.
use Rattle.std.proofs.Common.{◌≡◌, ℕ, List, [], ◌∷◌, ◌++◌, Option, Some, None, refl}
use Rattle.run_engine.proofs.Words.{slice_get, LinkNo, ChanNo, ActorNo, actor_number, link_at, work_in, work_up_to, load, some_upto, passes_up_to, passes, admits, first_level, best_level, most_in, may_follow, first_from, eligible, delay_over, bound_at_end, allotment, planned_from, Ask, eligible_next, hold_ended, clock_of, with_arrival, without_expired, with_sources, with_best, best_step_at, after_tick, after, scan_of, slots_of, need_of, held_units, free_units, held_packets, step_of, source_packets, rows_after, dropped_in, change_first, without_first, Relaxed, Denied, Planned, goes_before, first_in_line, is_waiting, serve_tick, starts_below, here_at, reserve_reply, relax_reply, deny_reply, submit_reply, release_reply, arrive_reply, sent_at, best_sent_at, reply_at, reply_to, offers_in, after_offers, reach_after, Request, Shifted, Moves, Opens, Sends, last_packets, standing, resumed, from_step, is_established, outcome_in, newest, moved_off, Network, replies_to, part_of, plane_of, next_for, run_from}
use Rattle.link_steps.specs.Room.{whole_room, room_of}
use Rattle.link_steps.specs.declared.replies.Reply.TheVariants.{Closing}
use Rattle.link_steps.specs.BestEffort.{best_step, waiting_best}
use Rattle.run_engine.proofs.Worked.Networks.{k1, k2, chan0, chan1, wide_link, request_over, network_of, outcomes_in, played, offer, times}

-- what a move from a channel has told
unfoldable moved : Network → List ActorNo → ActorNo → ChanNo → Option Shifted
unfolding run_from next_for part_of replies_to plane_of standing resumed from_step is_established outcome_in newest last_packets moved_off offers_in after_offers reach_after delay_over bound_at_end allotment reply_to reply_at reserve_reply room_of whole_room relax_reply deny_reply submit_reply release_reply arrive_reply sent_at best_sent_at clock_of scan_of after with_arrival after_tick with_best best_step_at best_step waiting_best change_first without_first without_expired with_sources hold_ended here_at starts_below serve_tick is_waiting first_in_line goes_before held_packets slots_of need_of held_units free_units planned_from eligible_next step_of source_packets rows_after dropped_in work_in work_up_to load some_upto passes_up_to passes admits first_level best_level most_in first_from eligible may_follow
moved network actors caller chan = moved_off chan (outcomes_in (slice_get network.scripts (actor_number caller)) (actor_number caller) (run_from network [] actors))

-- whether a caller has a step left
unfoldable asks_on : Network → List ActorNo → ActorNo → Option (LinkNo × Ask)
unfolding run_from next_for part_of replies_to plane_of standing resumed from_step is_established outcome_in newest last_packets moved_off offers_in after_offers reach_after delay_over bound_at_end allotment reply_to reply_at reserve_reply room_of whole_room relax_reply deny_reply submit_reply release_reply arrive_reply sent_at best_sent_at clock_of scan_of after with_arrival after_tick with_best best_step_at best_step waiting_best change_first without_first without_expired with_sources hold_ended here_at starts_below serve_tick is_waiting first_in_line goes_before held_packets slots_of need_of held_units free_units planned_from eligible_next step_of source_packets rows_after dropped_in work_in work_up_to load some_upto passes_up_to passes admits first_level best_level most_in first_from eligible may_follow
asks_on network actors caller = next_for network (actor_number caller) (run_from network [] actors)

-- ---- what is planned on a channel moves to another one

abbrev first_way : Request
first_way = request_over chan0 (wide_link 0 ∷ []) 12

abbrev second_way : ℕ → Request
second_way delay = request_over chan1 (wide_link 1 ∷ []) delay

abbrev moving : ℕ → ℕ → Network
moving delay rounds = network_of (wide_link 0 ∷ wide_link 1 ∷ []) ((Opens first_way ∷ Opens (second_way delay) ∷ Sends (link_at 0) (Some chan0) 4 10 2 ∷ Moves first_way (second_way delay) 1 1 ∷ []) ∷ []) rounds

-- no tick was made, so all four packets move
move-at-once : played (moving 12 0) (times 7 k1) ≡ offer 1 1 ∷ Relaxed 0 ∷ offer 1 1 ∷ Relaxed 0 ∷ Planned 0 ∷ Closing 0 4 ∷ Planned 0 ∷ []
unfolding played times
move-at-once = refl

tells-at-once : moved (moving 12 0) (times 7 k1) k1 chan0 ≡ Some (record { kept = 0; shifted = 4 })
unfolding moved times
tells-at-once = refl

ends-at-once : asks_on (moving 12 0) (times 7 k1) k1 ≡ None
unfolding asks_on times
ends-at-once = refl

-- after fifteen rounds the first hop has taken the packets of ticks 0 and 10, and two move
move-later : moved (moving 12 80) (times 5 k1 ++ times 30 k2 ++ times 2 k1) k1 chan0 ≡ Some (record { kept = 2; shifted = 2 })
unfolding moved times
move-later = refl

-- the second request is denied, so the move takes no step
move-denied : played (moving 11 80) (times 5 k1) ≡ offer 1 1 ∷ Relaxed 0 ∷ offer 1 1 ∷ Denied ∷ Planned 0 ∷ []
unfolding played times
move-denied = refl

ends-denied : asks_on (moving 11 80) (times 5 k1) k1 ≡ None
unfolding asks_on times
ends-denied = refl
