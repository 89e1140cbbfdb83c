-- What a move of planned packets from one channel to another adds to the own entries of a pass, and when it may be made. The
-- entries are exactly the asks of the move, each after the replies of those before it. Both channels have to be established
-- over the move's routes, nothing may have been submitted on the one that is joined, and the packets are those that were
-- planned last on the one that is left.
use Rattle.std.specs.Prelude.{◌≡◌, ◌≢◌, ◌==◌, ℕ, ◌≤◌, if◌then◌else◌, Option, Some, None, List, [], ◌∷◌, ◌++◌, map}
use Rattle.std.specs.List.{slice_get}
use Rattle.atomic_table.specs.Seated.{TableId}
use Rattle.net_units.specs.Numbers.{channel_number}
use Rattle.net_units.specs.declared.numbers.ActorNo.{ActorNo}
use Rattle.net_units.specs.declared.numbers.ChanNo.{ChanNo}
use Rattle.net_units.specs.declared.numbers.LinkNo.{LinkNo}
use Rattle.hop_reservation.specs.declared.route.Hop.{Hop}
use Rattle.traffic_contract.specs.Contract.{Traffic}
use Rattle.link_steps.specs.Legal.{SubmitFits}
use Rattle.link_steps.specs.Lists.{Each}
use Rattle.link_steps.specs.Split.{Link}
use Rattle.link_steps.specs.declared.asks.Ask.{Ask}
use Rattle.link_steps.specs.declared.asks.Ask.TheVariants.{Submit}
use Rattle.link_steps.specs.declared.replies.Reply.{Reply}
use Rattle.link_steps.specs.declared.replies.Reply.TheVariants.{Planned}
use Rattle.setup_protocol.specs.Hops.{IsHopOf}
use Rattle.channel_laws.specs.Unsent.{IsUnsent}
use Rattle.channel_move.specs.Moving.{Move, next_of_move, shifted_of}
use Rattle.channel_move.specs.Standing.{Moves}
use Rattle.channel_move.specs.declared.mover.Mover.{Mover}
use Rattle.channel_move.specs.declared.shifted.Shifted.{Shifted}
use Rattle.link_ledger.specs.Owners.{IsOwner}
use Rattle.link_ledger.specs.Tokens.{Token, last_seen}
use Rattle.link_ledger.specs.declared.entries.OwnEntry.{OwnEntry}
use Rattle.shared_network.specs.Added.{AddsAbove}
use Rattle.shared_network.specs.Calls.{Follows, HoldsRoute, OthersStay, reply_in}
use Rattle.shared_network.specs.Ready.{PassGoesOn}

-- ---- when

-- a channel is established over this route, on some contract
pub record IsOpenOver (chan : ChanNo) (route : List Hop) (own : List OwnEntry) : Type 0 where
  pub contract : Traffic
  pub holds : HoldsRoute chan route contract own

-- and packets of this size keep its contract
pub record TakesSize (chan : ChanNo) (route : List Hop) (size : ℕ) (own : List OwnEntry) : Type 0 where
  pub contract : Traffic
  pub holds : HoldsRoute chan route contract own
  pub small : size ≤ contract.smax

-- packets that are planned at the first hop of a route over which their channel is established keep its contract
abbrev pub KeepsContract : LinkNo → Ask → Reply → List OwnEntry → Type 0
KeepsContract link (Submit chan count gap size) (Planned clock) own =
    (route : List Hop) (contract : Traffic) (hop : Hop) → slice_get route 0 ≡ Some hop → hop.link ≡ link → HoldsRoute chan route contract own → size ≤ contract.smax
KeepsContract link _ _ own = Unit {0}

-- no entry submits on the channel
abbrev pub NoneSubmitted : ChanNo → List OwnEntry → Type 0
NoneSubmitted chan own = Each (λ (e : OwnEntry). IsUnsent (channel_number chan) e.ask) own

-- the gap and the size of planned packets
pub record Packets : Type 0 where
  pub gap : ℕ
  pub size : ℕ

-- what one entry makes of those that were planned last on a channel
abbrev pub planned_with : ℕ → Option Packets → Ask → Reply → Option Packets
planned_with c last (Submit chan count gap size) (Planned clock) = if channel_number chan == c then Some (record { gap = gap; size = size }) else last
planned_with c last _ _ = last

unfoldable pub planned_after : ℕ → Option Packets → List OwnEntry → Option Packets
planned_after c last [] = last
planned_after c last (e ∷ own) = planned_after c (planned_with c last e.ask e.reply) own

-- by the own entries, in their order
abbrev pub last_planned : ChanNo → List OwnEntry → Option Packets
last_planned chan own = planned_after (channel_number chan) None own

-- where a submit on the channel was planned, the last one had this gap and this size
abbrev pub WerePlanned : ChanNo → ℕ → ℕ → List OwnEntry → Type 0
WerePlanned chan gap size own = (last : Packets) → last_planned chan own ≡ Some last → (gap ≡ last.gap) × (size ≡ last.size)

-- a pass may make this move. The packets are in their ranges, the pass's actor owns both channels, which differ, and the routes are over
-- links of the network. By the own entries both channels are established over these routes, the one that is joined on a contract that
-- the packets keep, and nothing was submitted on it; and the packets are those that were planned last on the one that is left
pub record MayShift (owners : List ActorNo) (links : List Link) (pass : Token) (move : Move) : Type 0 where
  pub packets : SubmitFits 1 move.gap move.size
  pub apart : channel_number move.joining ≢ channel_number move.leaving
  pub owned_leaving : IsOwner owners pass.actor move.leaving
  pub owned_joining : IsOwner owners pass.actor move.joining
  pub hops_leaving : Each (IsHopOf links) move.leaving_route
  pub hops_joining : Each (IsHopOf links) move.joining_route
  pub leaving : IsOpenOver move.leaving move.leaving_route pass.own
  pub joining : TakesSize move.joining move.joining_route move.size pass.own
  pub unsent : NoneSubmitted move.joining pass.own
  pub last : WerePlanned move.leaving move.gap move.size pass.own

-- ---- what it adds

-- a move has come to this, and the mover stands at its end
pub record Shifts (move : Move) (mover : Mover) (pass pass' : Token) (told : Shifted) : Type 0 where
  pub entries : List OwnEntry
  pub own : pass'.own ≡ pass.own ++ entries
  pub follows : Follows (next_of_move move) [] entries
  pub told_is : shifted_of move (map reply_in entries) ≡ Some told
  pub stands : Moves mover (map reply_in entries)

-- and the pass may go on: each of its channels but the one that is left is as it was, and its new entries have stamps above all that it
-- had seen
pub record HasShifted (table : TableId) (owners : List ActorNo) (links : List Link) (move : Move) (mover : Mover) (pass pass' : Token) (told : Shifted) : Type 0 where
  pub shifts : Shifts move mover pass pass' told
  pub others : OthersStay move.leaving pass.own pass'.own
  pub later : AddsAbove (last_seen pass) pass pass'
  pub ready : PassGoesOn table owners links pass pass'
