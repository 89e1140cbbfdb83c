-- The legal replies to asks that are made one after another, after a history, and how to compute them in one scan.
use Rattle.std.proofs.Common.{◌≡◌, ℕ, List, [], ◌∷◌, refl, ap}
use Rattle.traffic_contract.specs.Admission.{work_in, work_up_to, load, some_upto, passes_up_to, passes, admits, first_level, best_level}
use Rattle.traffic_contract.specs.Contract.{most_in}
use Rattle.traffic_contract.specs.Eligible.{first_from, eligible}
use Rattle.traffic_contract.specs.Keeping.{may_follow}
use Rattle.link_steps.specs.declared.asks.Ask.{Ask}
use Rattle.link_steps.specs.declared.replies.Entry.{Entry}
use Rattle.link_steps.specs.declared.replies.Reply.{Reply}
use Rattle.link_steps.specs.Room.{group_work, group_units, all_from, group_admits, group_room, whole_room, room_of}
use Rattle.link_steps.specs.Split.{Link}
use Rattle.link_steps.specs.BestEffort.{best_step, waiting_best}
use Rattle.link_steps.specs.Buffer.{slots_of, need_of, held_units, free_units, held_packets}
use Rattle.link_steps.specs.Hold.{hold_ended}
use Rattle.link_steps.specs.Lists.{change_first, without_first}
use Rattle.link_steps.specs.Replies.{reserve_reply, relax_reply, deny_reply, submit_reply, release_reply, arrive_reply, sent_at, best_sent_at, pour_reply, reply_at, reply_to}
use Rattle.link_steps.specs.Scan.{Scan, clock_with, clock_of, with_arrival, without_expired, with_sources, with_best, best_step_at, after_tick, after, scan_of}
use Rattle.link_steps.specs.Service.{goes_before, first_in_line, is_waiting, serve_tick, starts_below, here_at}
use Rattle.link_steps.specs.Regulator.{eligible_next}
use Rattle.link_steps.specs.Rows.{planned_from}
use Rattle.link_steps.specs.Sources.{step_of, source_packets, rows_after, dropped_in}

-- the entry of an ask that gets its legal reply
abbrev pub answered : Link → List Entry → Ask → Entry
answered link past ask = record { ask = ask; reply = reply_to link past ask }

-- the legal replies to these asks, made in this order after a history
unfoldable pub legal_replies : Link → List Entry → List Ask → List Reply
legal_replies link past [] = []
legal_replies link past (ask ∷ asks) = reply_to link past ask ∷ legal_replies link (answered link past ask ∷ past) asks

-- the same from the scan of the history, which goes on with each ask
unfoldable pub replies_from : Link → ℕ → Scan → List Ask → List Reply
replies_from link t scan [] = []
replies_from link t scan (ask ∷ asks) =
    reply_at link t scan ask ∷ replies_from link (clock_with ask t) (after link.shape t scan ask (reply_at link t scan ask)) asks

-- they are the legal ones
replies_from-scan : (link : Link) (past : List Entry) (asks : List Ask) → legal_replies link past asks ≡ replies_from link (clock_of past) (scan_of link.shape past) asks
unfolding legal_replies replies_from reply_to clock_of scan_of
replies_from-scan link past [] = refl
replies_from-scan link past (ask ∷ asks) =
    ap (λ rest. reply_to link past ask ∷ rest) (replies_from-scan link (answered link past ask ∷ past) asks)

-- the same after the empty history; a proof that unfolds it computes with all the rules
unfoldable pub replied : Link → List Ask → List Reply
unfolding replies_from reply_at reserve_reply room_of whole_room group_room group_admits all_from group_work group_units relax_reply deny_reply submit_reply release_reply arrive_reply sent_at best_sent_at pour_reply with_best best_step_at best_step waiting_best clock_of scan_of after with_arrival after_tick change_first without_first without_expired with_sources hold_ended here_at starts_below serve_tick is_waiting first_in_line goes_before held_packets slots_of need_of held_units free_units planned_from eligible_next step_of source_packets rows_after dropped_in work_in work_up_to load some_upto passes_up_to passes admits first_level best_level most_in first_from eligible may_follow
replied link asks = replies_from link (clock_of []) (scan_of link.shape []) asks

-- so the legal replies are computed in one scan
pub replied-legal : (link : Link) (asks : List Ask) → legal_replies link [] asks ≡ replied link asks
unfolding replied
replied-legal link asks = replies_from-scan link [] asks
