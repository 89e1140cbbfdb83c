-- Worked runs, computed from the definitions: a request that stays pending, two setups that meet in a ring of two links, and
-- two callers over two links with a packet that crosses both.
use Rattle.std.proofs.Common.{◌≡◌, ℕ, List, [], ◌∷◌, ◌++◌, Option, Some, None, refl}
use Rattle.run_engine.proofs.Words.{slice_get, ChanNo, ActorNo, actor_number, link_at, work_in, work_up_to, load, some_upto, passes_up_to, passes, admits, first_level, best_level, most_in, may_follow, first_from, eligible, delay_over, bound_at_end, allotment, planned_from, eligible_next, hold_ended, clock_of, with_arrival, without_expired, with_sources, with_best, best_step_at, after_tick, after, scan_of, slots_of, need_of, held_units, free_units, held_packets, step_of, source_packets, rows_after, dropped_in, change_first, without_first, Relaxed, Denied, Planned, Taken, Refused, goes_before, first_in_line, is_waiting, serve_tick, starts_below, here_at, reserve_reply, relax_reply, deny_reply, submit_reply, release_reply, arrive_reply, sent_at, best_sent_at, reply_at, reply_to, Outcome, Accepts, Denies, offers_in, after_offers, reach_after, Request, Opens, Sends, standing, resumed, from_step, is_established, outcome_in, newest, Network, replies_to, part_of, plane_of, next_for, run_from}
use Rattle.link_steps.specs.Room.{whole_room, room_of}
use Rattle.link_steps.specs.declared.replies.Refusal.TheVariants.{NoLevel}
use Rattle.link_steps.specs.BestEffort.{best_step, waiting_best}
use Rattle.setup_protocol.specs.declared.verdict.Deny.TheVariants.{Hop as AtHop}
use Rattle.run_engine.proofs.Worked.Networks.{k1, k2, plane, chan0, chan1, narrow_link, wide_link, request_over, network_of, outcomes_in, played, offer, ticked, times}

-- what a caller's request has come to
unfoldable settled : Network → List ActorNo → ActorNo → ChanNo → Option Outcome
unfolding run_from next_for part_of replies_to plane_of standing resumed from_step is_established outcome_in newest offers_in after_offers reach_after delay_over bound_at_end allotment reply_to reply_at reserve_reply room_of whole_room relax_reply deny_reply submit_reply release_reply arrive_reply sent_at best_sent_at clock_of scan_of after with_arrival after_tick with_best best_step_at best_step waiting_best change_first without_first without_expired with_sources hold_ended here_at starts_below serve_tick is_waiting first_in_line goes_before held_packets slots_of need_of held_units free_units planned_from eligible_next step_of source_packets rows_after dropped_in work_in work_up_to load some_upto passes_up_to passes admits first_level best_level most_in first_from eligible may_follow
settled network actors caller chan = outcome_in chan (outcomes_in (slice_get network.scripts (actor_number caller)) (actor_number caller) (run_from network [] actors))

-- ---- a request that isn't settled when the run ends

abbrev alone : Network
alone = network_of (wide_link 0 ∷ []) ((Opens (request_over chan0 (wide_link 0 ∷ []) 12) ∷ []) ∷ []) 0

alone-replies : played alone (k1 ∷ []) ≡ offer 1 1 ∷ []
unfolding played
alone-replies = refl

alone-pending : settled alone (k1 ∷ []) k1 chan0 ≡ None
unfolding settled
alone-pending = refl

-- ---- two setups over a ring of two links, one way round and the other: each finds the other's reservation at its second hop

abbrev pub ring : Network
ring = network_of (narrow_link 0 ∷ narrow_link 1 ∷ []) ((Opens (request_over chan0 (narrow_link 0 ∷ narrow_link 1 ∷ []) 24) ∷ []) ∷ (Opens (request_over chan1 (narrow_link 1 ∷ narrow_link 0 ∷ []) 24) ∷ []) ∷ []) 0

abbrev pub in_turn : List ActorNo
in_turn = k1 ∷ k2 ∷ k1 ∷ k2 ∷ k1 ∷ k2 ∷ []

ring-replies : played ring in_turn ≡ offer 1 1 ∷ offer 1 1 ∷ Refused (NoLevel 12 10) ∷ Refused (NoLevel 12 10) ∷ Denied ∷ Denied ∷ []
unfolding played
ring-replies = refl

-- nothing is left to ask, so more turns change nothing
ring-over : played ring (in_turn ++ k1 ∷ k2 ∷ []) ≡ played ring in_turn
unfolding played
ring-over = refl

ring-denies-first : settled ring in_turn k1 chan0 ≡ Some (Denies (AtHop 2 (NoLevel 12 10)))
unfolding settled
ring-denies-first = refl

ring-denies-second : settled ring in_turn k2 chan1 ≡ Some (Denies (AtHop 2 (NoLevel 12 10)))
unfolding settled
ring-denies-second = refl

-- one after the other, the first is accepted and the second finds its reservation at its first hop
ring-accepts-first : settled ring (k1 ∷ k1 ∷ k1 ∷ k1 ∷ k2 ∷ []) k1 chan0 ≡ Some (Accepts (1 ∷ 1 ∷ []) 24)
unfolding settled
ring-accepts-first = refl

ring-denies-late : settled ring (k1 ∷ k1 ∷ k1 ∷ k1 ∷ k2 ∷ []) k2 chan1 ≡ Some (Denies (AtHop 1 (NoLevel 12 10)))
unfolding settled
ring-denies-late = refl

-- ---- two callers over two links: the second reserves the second link while the first's setup is under way

abbrev long_way : Request
long_way = request_over chan0 (wide_link 0 ∷ wide_link 1 ∷ []) 50

abbrev short_way : Request
short_way = request_over chan1 (wide_link 1 ∷ []) 22

abbrev chain : ℕ → Network
chain rounds = network_of (wide_link 0 ∷ wide_link 1 ∷ []) ((Opens long_way ∷ Sends (link_at 0) (Some chan0) 1 10 2 ∷ []) ∷ (Opens short_way ∷ []) ∷ []) rounds

abbrev setups : List ActorNo
setups = k1 ∷ k2 ∷ k1 ∷ k2 ∷ k1 ∷ k1 ∷ k1 ∷ []

-- at the second link the load of level 1 would be 4 + 4 + 4 over 10, and that of level 2 is 12 of 20
chain-accepts-first : settled (chain 0) setups k1 chan0 ≡ Some (Accepts (2 ∷ 2 ∷ []) 44)
unfolding settled
chain-accepts-first = refl

chain-accepts-second : settled (chain 0) setups k2 chan1 ≡ Some (Accepts (2 ∷ []) 22)
unfolding settled
chain-accepts-second = refl

-- the packet leaves the first link at 2, arrives at the second at 4 and leaves it at 6. The plane's list has more turns than
-- its seven rounds take
chain-replies : played (chain 7) (setups ++ times 16 plane) ≡
    offer 1 3 ∷ offer 1 2 ∷ offer 2 3 ∷ Relaxed 0 ∷ Relaxed 0 ∷ Relaxed 0 ∷ Planned 0
    ∷ ticked 0 None ∷ ticked 0 None
    ∷ ticked 1 (Some (record { packet = record { chan = chan0; number = 1; size = 2; due = 22 }; at = 0; eligible = 0; arrives = 4; next = Some (link_at 1) })) ∷ ticked 1 None
    ∷ ticked 2 None ∷ ticked 2 None
    ∷ ticked 3 None ∷ ticked 3 None
    ∷ Taken 4 4
    ∷ ticked 4 None ∷ ticked 4 None
    ∷ ticked 5 None ∷ ticked 5 (Some (record { packet = record { chan = chan0; number = 1; size = 2; due = 26 }; at = 4; eligible = 4; arrives = 8; next = None }))
    ∷ ticked 6 None ∷ ticked 6 None
    ∷ []
unfolding played times
chain-replies = refl
