-- The steps of a move, as they follow from what the links have answered and not from what its caller keeps in mind. First the first
-- hop of the channel that is left is released. Where that has cancelled some packets, one submit at the first hop of the other
-- channel plans as many, with the gap and the size of the last that were planned on the channel that is left. Then the further hops
-- of that channel are released, each with the count of packets that the first one has taken. What a channel's submits planned is
-- therefore what its source has offered at its first hop, dropped packets included, what is left there, what a release without a
-- move has cancelled, and what a move has given to another channel.
use Rattle.std.specs.Prelude.{◌≡◌, ◌≢◌, ℕ, suc, ◌+◌, ◌≤◌, nat_eq, Option, Some, None, List, [], ◌∷◌, if◌then◌else◌}
use Rattle.std.specs.List.{slice_get}
use Rattle.net_units.specs.Numbers.{link_number, actor_number, channel_number}
use Rattle.channel_move.specs.declared.shifted.Shifted.{Shifted}
use Rattle.link_steps.specs.declared.asks.Ask.{Ask}
use Rattle.link_steps.specs.declared.asks.Ask.TheVariants.{Submit, Release}
use Rattle.link_steps.specs.declared.replies.Reply.{Reply}
use Rattle.link_steps.specs.declared.replies.Reply.TheVariants.{Planned}
use Rattle.link_steps.specs.Rows.{planned_from}
use Rattle.link_steps.specs.Scan.{clock_of}
use Rattle.setup_protocol.specs.Hops.{RequestFits}
use Rattle.setup_protocol.specs.declared.request.Request.{Request}
use Rattle.call_script.specs.Fits.{NetworkFits}
use Rattle.call_script.specs.Owners.{OwnedFully, AllOwned}
use Rattle.call_script.specs.Scripts.{moved_off, standing, standing_of}
use Rattle.call_script.specs.Tasks.{Network}
use Rattle.call_script.specs.declared.tasks.Task.{Task}
use Rattle.call_script.specs.declared.tasks.Task.TheVariants.{Moves}
use Rattle.run_record.specs.Runs.{part_of, replies_to}
use Rattle.run_record.specs.declared.done.Done.{Done}
use Rattle.run_engine.specs.channels.Moves.{planned_in, cancelled_in, offered_in, left_in, plan_at, last_planned}
use Rattle.run_engine.specs.channels.Paths.{HopAt, history_at, count_at}
use Rattle.run_engine.specs.runs.Runs.{IsNext, IsRun}

-- ---- a step of a move

-- the submit of a move, at the first hop of the channel that it joins
pub record PlansTheShifted (network : Network) (past : List Done) (done : Done) (next : IsNext network past done) (old new : Request) (first : HopAt network old 0) (count gap size : ℕ) : Type 0 where
  pub to : HopAt network new 0
  pub on : link_number done.link ≡ link_number to.hop.link
  pub asked : done.ask ≡ Submit new.chan count gap size
  -- as many packets as the first hop of the channel that is left has cancelled, which are some
  pub shifted : count ≡ cancelled_in (channel_number old.chan) (history_at first past)
  pub some : 1 ≤ count
  -- and like the last ones that were planned there
  pub like : last_planned (channel_number old.chan) (history_at first past) ≡ record { gap = gap; size = size }
  -- it is planned, and then the plan there has exactly these
  pub planned : done.reply ≡ Planned (clock_of (part_of (link_number done.link) past))
  pub plan : plan_at new.chan next.link.shape (part_of (link_number done.link) (done ∷ past)) ≡ planned_from (clock_of (part_of (link_number done.link) past)) gap size count

pub data MoveStep (network : Network) (past : List Done) (done : Done) (next : IsNext network past done) (old new : Request) (first : HopAt network old 0) : Type 0 where
  Leaves : link_number done.link ≡ link_number first.hop.link → done.ask ≡ Release old.chan None → cancelled_in (channel_number old.chan) (history_at first past) ≡ 0 → MoveStep network past done next old new first
  Joins : (count gap size : ℕ) → PlansTheShifted network past done next old new first count gap size → MoveStep network past done next old new first
  Frees : (i kept : ℕ) (at : HopAt network old (suc i)) → link_number done.link ≡ link_number at.hop.link → done.ask ≡ Release old.chan (Some kept) → count_at network old 0 first (done ∷ past) ≡ kept → MoveStep network past done next old new first

-- each step of a caller that has a move from one channel to another under way is one of these
abbrev pub EveryMovePlansTheShifted : Type 0
EveryMovePlansTheShifted = (network : Network) (past : List Done) (done : Done) (owner gap size : ℕ) (tasks rest : List Task) (old new : Request) (first : HopAt network old 0) → NetworkFits network → AllOwned network → RequestFits network.links old → OwnedFully network old owner → IsRun network past → (next : IsNext network past done)
    → actor_number done.actor ≡ owner → slice_get network.scripts owner ≡ Some tasks → (standing tasks (replies_to owner past)).tasks ≡ Moves old new gap size ∷ rest → MoveStep network past done next old new first

-- ---- what moves have given

-- how many packets a step of a move from the channel of this number has had planned
abbrev pub given_with : ℕ → ℕ → List Task → Ask → Reply → ℕ
given_with c n (Moves old new gap size ∷ tasks) (Submit chan count own_gap own_size) (Planned clock) = if nat_eq (channel_number old.chan) c then n + count else n
given_with c n _ _ _ = n

-- and all steps of moves from it in a run
unfoldable pub given_in : Network → ℕ → List Done → ℕ
given_in network c [] = 0
given_in network c (done ∷ past) = given_with c (given_in network c past) (standing_of (slice_get network.scripts (actor_number done.actor)) (replies_to (actor_number done.actor) past)).tasks done.ask done.reply

-- once a move has left a channel, what the first hop has cancelled there is what was shifted, and as much was planned on the other
pub record GivesTheShifted (network : Network) (request : Request) (first : HopAt network request 0) (run : List Done) (told : Shifted) : Type 0 where
  pub cancelled : cancelled_in (channel_number request.chan) (history_at first run) ≡ told.shifted
  pub given : given_in network (channel_number request.chan) run ≡ told.shifted

abbrev pub EveryMoveGivesTheShifted : Type 0
EveryMoveGivesTheShifted = (network : Network) (request : Request) (owner : ℕ) (first : HopAt network request 0) (run : List Done) (tasks : List Task) (told : Shifted) → NetworkFits network → AllOwned network → RequestFits network.links request → OwnedFully network request owner → IsRun network run → slice_get network.scripts owner ≡ Some tasks
    → moved_off request.chan (standing tasks (replies_to owner run)).outcomes ≡ Some told → GivesTheShifted network request first run told

-- ---- one law over both

-- no move from the channel of this number is under way
abbrev pub IsNotLeaving : ℕ → List Task → Type 0
IsNotLeaving c (Moves old new gap size ∷ tasks) = channel_number old.chan ≢ c
IsNotLeaving c _ = Unit {0}

-- what was cancelled without a move
abbrev pub cancelled_alone : Option Shifted → ℕ → ℕ
cancelled_alone None cancelled = cancelled
cancelled_alone (Some told) cancelled = 0

-- what its submits planned is offered, is left, was cancelled without a move, or was given to another channel
abbrev pub EveryPlannedPacketIsCounted : Type 0
EveryPlannedPacketIsCounted = (network : Network) (request : Request) (owner : ℕ) (first : HopAt network request 0) (run : List Done) (tasks : List Task) → NetworkFits network → AllOwned network → RequestFits network.links request → OwnedFully network request owner → IsRun network run → slice_get network.scripts owner ≡ Some tasks
    → IsNotLeaving (channel_number request.chan) (standing tasks (replies_to owner run)).tasks
    → planned_in (channel_number request.chan) (history_at first run)
    ≡ offered_in (channel_number request.chan) first.link.shape (history_at first run)
    + left_in (channel_number request.chan) first.link.shape (history_at first run)
    + cancelled_alone (moved_off request.chan (standing tasks (replies_to owner run)).outcomes) (cancelled_in (channel_number request.chan) (history_at first run))
    + given_in network (channel_number request.chan) run
