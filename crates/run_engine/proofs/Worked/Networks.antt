-- The networks of the worked runs, and what a run of their actors tells, computed from the definitions.
use Rattle.std.proofs.Common.{ℕ, suc, zero, List, [], ◌∷◌, Option, Some, None, refl, lit≤, lit<}
use Rattle.run_engine.proofs.Words.{map, reverse, false, ChanNo, ActorNo, link_at, work_in, work_up_to, load, some_upto, passes_up_to, passes, admits, first_level, best_level, Traffic, terms_of, most_in, may_follow, first_from, eligible, Hop, delay_over, bound_at_end, allotment, planned_from, eligible_next, hold_ended, clock_of, with_arrival, without_expired, with_sources, with_best, best_step_at, after_tick, after, scan_of, slots_of, need_of, held_units, free_units, held_packets, step_of, source_packets, rows_after, dropped_in, change_first, without_first, LinkShape, whole, Offer, Ticked, Reply, Sent, goes_before, first_in_line, is_waiting, serve_tick, starts_below, here_at, reserve_reply, relax_reply, deny_reply, submit_reply, release_reply, arrive_reply, sent_at, best_sent_at, reply_at, reply_to, offers_in, after_offers, reach_after, Request, last_packets, Learnt, standing, resumed, from_step, is_established, newest, moved_off, Network, Task, Done, replies_to, part_of, plane_of, next_for, run_from}
use Rattle.traffic_contract.specs.declared.admission.Test.TheVariants.{Whole}
use Rattle.link_steps.specs.Room.{whole_room, room_of}
use Rattle.link_steps.specs.BestEffort.{best_step, waiting_best}
use Rattle.link_steps.specs.Levels.{level_of}
use Rattle.setup_protocol.specs.declared.request.Control.TheVariants.{Rate}

-- ---- two callers, their channels, and links that carry a unit a tick

abbrev pub k1 : ActorNo
k1 = record { number = 0; small = lit< tt }

abbrev pub k2 : ActorNo
k2 = record { number = 1; small = lit< tt }

-- the plane, after two callers
abbrev pub plane : ActorNo
plane = record { number = 2; small = lit< tt }

abbrev pub chan0 : ChanNo
chan0 = record { number = 0; small = lit< tt }

abbrev pub chan1 : ChanNo
chan1 = record { number = 1; small = lit< tt }

-- packets of up to 2 units, at least 5 ticks apart, and 10 on average over 20
abbrev pub voice : Traffic
voice = terms_of 5 10 20 2

-- a link of one level of 10 ticks
abbrev pub narrow_link : ℕ → LinkShape
narrow_link n = record {
  link = link_at n;
  rate = 1;
  cap = 4;
  prop = 2;
  buffer = 100;
  bounds = 10 ∷ [];
  test = Whole;
  best = 0;
  best_most = lit≤ tt;
  rate_least = lit≤ tt;
  rate_most = lit≤ tt;
  cap_least = lit≤ tt;
  cap_most = lit≤ tt;
  prop_most = lit≤ tt;
  buffer_most = lit≤ tt;
  bounds_rise = refl;
  blocking_fits = lit≤ tt;
}

-- the same with levels of 10, 20 and 40
abbrev pub wide_link : ℕ → LinkShape
wide_link n = record {
  link = link_at n;
  rate = 1;
  cap = 4;
  prop = 2;
  buffer = 100;
  bounds = 10 ∷ 20 ∷ 40 ∷ [];
  test = Whole;
  best = 0;
  best_most = lit≤ tt;
  rate_least = lit≤ tt;
  rate_most = lit≤ tt;
  cap_least = lit≤ tt;
  cap_most = lit≤ tt;
  prop_most = lit≤ tt;
  buffer_most = lit≤ tt;
  bounds_rise = refl;
  blocking_fits = lit≤ tt;
}

abbrev pub hop_of : LinkShape → Hop
hop_of shape = record { link = shape.link; bounds = shape.bounds; prop = shape.prop }

abbrev pub request_over : ChanNo → List LinkShape → ℕ → Request
request_over chan shapes delay = record { chan = chan; route = map hop_of shapes; contract = voice; control = Rate; delay = delay }

abbrev pub network_of : List LinkShape → List (List Task) → ℕ → Network
network_of shapes scripts rounds = record { links = map whole shapes; requests = []; scripts = scripts; rounds = rounds }

-- ---- what a run of these actors tells, with all rules unfolded

abbrev pub reply_of : Done → Reply
reply_of done = done.reply

abbrev pub outcomes_in : Option (List Task) → ℕ → List Done → List Learnt
outcomes_in None actor run = []
outcomes_in (Some tasks) actor run = (standing tasks (replies_to actor run)).outcomes

-- the replies, in the order of time
unfoldable pub played : Network → List ActorNo → List Reply
unfolding run_from next_for part_of replies_to plane_of standing resumed from_step is_established newest last_packets moved_off offers_in after_offers reach_after delay_over bound_at_end allotment reply_to reply_at reserve_reply room_of whole_room relax_reply deny_reply submit_reply release_reply arrive_reply sent_at best_sent_at clock_of scan_of after with_arrival after_tick with_best best_step_at best_step waiting_best change_first without_first without_expired with_sources hold_ended here_at starts_below serve_tick is_waiting first_in_line goes_before held_packets slots_of need_of held_units free_units planned_from eligible_next step_of source_packets rows_after dropped_in work_in work_up_to load some_upto passes_up_to passes admits first_level best_level most_in first_from eligible may_follow
played network actors = reverse (map reply_of (run_from network [] actors))

abbrev pub offer : ℕ → ℕ → Reply
offer level reach = Offer (level_of level) (level_of reach)

abbrev pub ticked : ℕ → Option Sent → Reply
ticked clock sent = Ticked clock 0 sent false false

-- so many turns of an actor
unfoldable pub times : ℕ → ActorNo → List ActorNo
times zero actor = []
times (suc n) actor = actor ∷ times n actor
