-- What was planned on a channel at its first hop, how much of it was cancelled, and what its source has offered there. And what comes
-- of a move, as its caller has learnt it: how many packets stay with the channel that was left.
use Rattle.std.specs.Prelude.{◌≡◌, ℕ, ◌+◌, nat_eq, true, find, Option, Some, None, List, [], ◌∷◌, length, if◌then◌else◌}
use Rattle.net_units.specs.Numbers.{link_number, actor_number, channel_number}
use Rattle.traffic_contract.specs.Admission.{total}
use Rattle.link_steps.specs.Admissible.{IsAdmissible}
use Rattle.link_steps.specs.Rows.{Row, SourcePacket, left_at, offered_by}
use Rattle.link_steps.specs.Scan.{clock_of, scan_of, is_row_at_hop}
use Rattle.link_steps.specs.declared.asks.Ask.{Ask}
use Rattle.link_steps.specs.declared.asks.Ask.TheVariants.{Submit, Release}
use Rattle.link_steps.specs.declared.replies.Entry.{Entry}
use Rattle.link_steps.specs.declared.replies.Reply.{Reply}
use Rattle.link_steps.specs.declared.replies.Reply.TheVariants.{Planned, Closing}
use Rattle.link_steps.specs.declared.shape.LinkShape.{LinkShape}
use Rattle.channel_laws.specs.Channels.{channel_of, AreNumberedAfter}
use Rattle.link_steps.specs.Service.{Arrival}
use Rattle.std.specs.List.{slice_get}
use Rattle.net_units.specs.declared.numbers.ChanNo.{ChanNo}
use Rattle.channel_move.specs.declared.shifted.Shifted.{Shifted}
use Rattle.setup_protocol.specs.Hops.{RequestFits}
use Rattle.setup_protocol.specs.declared.request.Request.{Request}
use Rattle.call_script.specs.Fits.{NetworkFits}
use Rattle.call_script.specs.Parts.{PlanParts}
use Rattle.call_script.specs.Standing.{standing_in}
use Rattle.call_script.specs.declared.entries.RequestEntry.{RequestEntry}
use Rattle.call_script.specs.Owners.{OwnedFully, AllOwned}
use Rattle.call_script.specs.declared.tasks.Task.TheVariants.{Moves}
use Rattle.call_script.specs.Scripts.{Packets, moved_off, standing}
use Rattle.call_script.specs.Tasks.{Network}
use Rattle.call_script.specs.declared.tasks.Task.{Task}
use Rattle.run_record.specs.Runs.{part_of, replies_to}
use Rattle.run_record.specs.declared.done.Done.{Done}
use Rattle.run_engine.specs.channels.Paths.{HopAt, packets_at}
use Rattle.run_engine.specs.runs.Runs.{IsRun}

-- ---- one link

-- the packets that the submits on the channel of this number have planned
abbrev pub planned_with : ℕ → ℕ → Ask → Reply → ℕ
planned_with c n (Submit chan count gap size) (Planned clock) = if nat_eq (channel_number chan) c then n + count else n
planned_with c n _ _ = n

unfoldable pub planned_in : ℕ → List Entry → ℕ
planned_in c [] = 0
planned_in c (e ∷ past) = planned_with c (planned_in c past) e.ask e.reply

-- and those that its releases have cancelled
abbrev pub cancelled_with : ℕ → ℕ → Ask → Reply → ℕ
cancelled_with c n (Release chan upstream) (Closing count cancelled) = if nat_eq (channel_number chan) c then n + cancelled else n
cancelled_with c n _ _ = n

unfoldable pub cancelled_in : ℕ → List Entry → ℕ
cancelled_in c [] = 0
cancelled_in c (e ∷ past) = cancelled_with c (cancelled_in c past) e.ask e.reply

-- what its source has offered by clock t in these rows, dropped packets included, and what is left
abbrev pub offered_of : ℕ → ℕ → Row → ℕ
offered_of c t row = if nat_eq (channel_of row) c then length (offered_by t row) else 0

abbrev pub left_of : ℕ → ℕ → Row → ℕ
left_of c t row = if nat_eq (channel_of row) c then length (left_at t row.plan) else 0

abbrev pub offered_in : ℕ → LinkShape → List Entry → ℕ
offered_in c shape h = total (offered_of c (clock_of h)) (scan_of shape h).rows + total (offered_of c (clock_of h)) (scan_of shape h).gone

abbrev pub left_in : ℕ → LinkShape → List Entry → ℕ
left_in c shape h = total (left_of c (clock_of h)) (scan_of shape h).rows + total (left_of c (clock_of h)) (scan_of shape h).gone

-- every packet that was planned is offered, is left or was cancelled
abbrev pub PlannedPacketsAreOfferedLeftOrCancelled : Type 0
PlannedPacketsAreOfferedLeftOrCancelled = (shape : LinkShape) (c : ℕ) (h : List Entry) → IsAdmissible shape h → planned_in c h ≡ offered_in c shape h + left_in c shape h + cancelled_in c h

-- ---- moves

-- what the move from a request's channel has come to in a run, if one was made, as its caller knows it
abbrev pub moved_in : PlanParts → List Done → RequestEntry → Option Shifted
moved_in parts run entry = moved_off entry.request.chan (standing_in parts (actor_number entry.caller) (replies_to (actor_number entry.caller) run)).outcomes

-- these are the packets with the numbers from 1 up to this one, in order
pub record AreUpTo (last : ℕ) (packets : List Arrival) : Type 0 where
  pub numbered : AreNumberedAfter 0 packets
  pub count : length packets ≡ last

-- the packets that the first hop of a channel has taken, once a move has left it, are those with the numbers up to what was kept
abbrev pub EveryMoveKeeps : Type 0
EveryMoveKeeps = (network : Network) (request : Request) (owner : ℕ) (first : HopAt network request 0) (run : List Done) (tasks : List Task) (told : Shifted) → NetworkFits network → RequestFits network.links request → OwnedFully network request owner → IsRun network run → slice_get network.scripts owner ≡ Some tasks
    → moved_off request.chan (standing tasks (replies_to owner run)).outcomes ≡ Some told → AreUpTo told.kept (packets_at network request 0 first run)

-- the packets that its source has offered there and those that were shifted are all that its submits planned
abbrev pub AMoveLeavesNoPacketBehind : Type 0
AMoveLeavesNoPacketBehind = (network : Network) (request : Request) (owner : ℕ) (first : HopAt network request 0) (run : List Done) (tasks : List Task) (told : Shifted) → NetworkFits network → RequestFits network.links request → OwnedFully network request owner → IsRun network run → slice_get network.scripts owner ≡ Some tasks
    → moved_off request.chan (standing tasks (replies_to owner run)).outcomes ≡ Some told
    → planned_in (channel_number request.chan) (part_of (link_number first.hop.link) run) ≡ offered_in (channel_number request.chan) first.link.shape (part_of (link_number first.hop.link) run) + told.shifted

-- the plan of the channel at its first hop, by the link's history
abbrev pub plan_in : Option Row → List SourcePacket
plan_in None = []
plan_in (Some row) = row.plan

abbrev pub plan_at : ChanNo → LinkShape → List Entry → List SourcePacket
plan_at chan shape h = plan_in (find (is_row_at_hop chan true) (scan_of shape h).rows)

-- the gap and the size of the last packets that a submit on the channel of this number has planned, or 1 and 1 where none has
abbrev pub last_with : ℕ → Packets → Ask → Reply → Packets
last_with c was (Submit chan count gap size) (Planned clock) = if nat_eq (channel_number chan) c then record { gap = gap; size = size } else was
last_with c was _ _ = was

unfoldable pub last_planned : ℕ → List Entry → Packets
last_planned c [] = record { gap = 1; size = 1 }
last_planned c (e ∷ past) = last_with c (last_planned c past) e.ask e.reply

-- a move is of packets like the last ones that were planned on the channel that it leaves
abbrev pub EveryMoveTakesTheLast : Type 0
EveryMoveTakesTheLast = (network : Network) (request new : Request) (owner gap size : ℕ) (first : HopAt network request 0) (run : List Done) (tasks rest : List Task) → NetworkFits network → AllOwned network → RequestFits network.links request → OwnedFully network request owner → IsRun network run → slice_get network.scripts owner ≡ Some tasks
    → (standing tasks (replies_to owner run)).tasks ≡ Moves request new gap size ∷ rest → last_planned (channel_number request.chan) (part_of (link_number first.hop.link) run) ≡ record { gap = gap; size = size }
