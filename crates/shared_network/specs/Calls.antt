-- What a setup and a teardown add to the own entries of a pass, and when they may be called. The entries are exactly the asks of
-- the protocol, each after the replies of those before it. A setup's verdict is that of its replies; a teardown answers the
-- count that the first hop has reported.
use Rattle.std.specs.Prelude.{◌≡◌, ◌≢◌, ℕ, nat_eq, Bool, Option, Some, List, [], ◌∷◌, ◌++◌, length, map}
use Rattle.std.specs.List.{slice_get}
use Rattle.net_units.specs.Numbers.{channel_number}
use Rattle.net_units.specs.declared.numbers.ChanNo.{ChanNo}
use Rattle.net_units.specs.declared.numbers.LinkNo.{LinkNo}
use Rattle.hop_reservation.specs.Routes.{link_of}
use Rattle.hop_reservation.specs.declared.route.Hop.{Hop}
use Rattle.traffic_contract.specs.Contract.{Traffic}
use Rattle.link_steps.specs.Lists.{Each}
use Rattle.link_steps.specs.Reservation.{Reservation}
use Rattle.link_steps.specs.declared.asks.Ask.{Ask}
use Rattle.link_steps.specs.declared.replies.Phase.TheVariants.{Committed}
use Rattle.link_steps.specs.declared.replies.Reply.{Reply}
use Rattle.setup_protocol.specs.Setup.{Outcome, next_ask, verdict_of}
use Rattle.setup_protocol.specs.Teardown.{first_count, next_release}
use Rattle.setup_protocol.specs.declared.request.Request.{Request}
use Rattle.channel_laws.specs.Asks.{IsOff}
use Rattle.link_ledger.specs.Own.{own_at}
use Rattle.link_ledger.specs.Tokens.{Token}
use Rattle.link_ledger.specs.declared.entries.OwnEntry.{OwnEntry}
use Rattle.shared_network.specs.Holds.{Hold, Holds, hold_of}

-- no entry names the channel
abbrev pub HasNone : ChanNo → List OwnEntry → Type 0
HasNone chan own = Each (λ (e : OwnEntry). IsOff (channel_number chan) e.ask) own

abbrev pub reply_in : OwnEntry → Reply
reply_in e = e.reply

-- these entries are what a protocol asks after these replies, one after the other
unfoldable pub Follows : (List Reply → Option (LinkNo × Ask)) → List Reply → List OwnEntry → Type 0
Follows next replies [] = Unit {0}
Follows next replies (e ∷ entries) = (next replies ≡ Some (e.link, e.ask)) × Follows next (replies ++ e.reply ∷ []) entries

-- after want of memory the steps made before stand: the pass has its own entries and then those that the protocol has asked so far
pub record StepsStand (next : List Reply → Option (LinkNo × Ask)) (pass pass' : Token) : Type 0 where
  pub entries : List OwnEntry
  pub own : pass'.own ≡ pass.own ++ entries
  pub follows : Follows next [] entries

-- a setup has come to this
pub record SetsUp (request : Request) (pass pass' : Token) (outcome : Outcome) : Type 0 where
  pub entries : List OwnEntry
  pub own : pass'.own ≡ pass.own ++ entries
  pub follows : Follows (next_ask request) [] entries
  pub verdict : verdict_of request (map reply_in entries) ≡ Some outcome

-- what the entries tell of the channel at a hop
abbrev pub hold_at : ChanNo → Hop → List OwnEntry → Hold
hold_at chan hop own = hold_of (channel_number chan) (own_at (link_of hop) own)

-- the reservation is committed, on this contract, at the first hop or at a later one
pub record IsCommitted (contract : Traffic) (first : Bool) (hold : Hold) : Type 0 where
  pub terms : Reservation
  pub is : hold ≡ Holds terms
  pub phase : terms.phase ≡ Committed
  pub first_is : terms.first ≡ first
  pub contract_is : terms.contract ≡ contract

-- by the own entries each hop of the route has committed a reservation of the channel on this contract, and wasn't asked to
-- release it
abbrev pub HoldsRoute : ChanNo → List Hop → Traffic → List OwnEntry → Type 0
HoldsRoute chan route contract own = (i : ℕ) (hop : Hop) → slice_get route i ≡ Some hop → IsCommitted contract (nat_eq i 0) (hold_at chan hop own)

-- the pass's setup of the request was accepted, and it has neither torn the channel down nor moved its packets off it
abbrev pub IsEstablished : Request → List OwnEntry → Type 0
IsEstablished request own = HoldsRoute request.chan request.route request.contract own

-- a teardown has released all hops, and the first has told this count
pub record TearsDown (request : Request) (pass pass' : Token) (count : ℕ) : Type 0 where
  pub entries : List OwnEntry
  pub own : pass'.own ≡ pass.own ++ entries
  pub follows : Follows (next_release request.chan request.route) [] entries
  pub whole : length entries ≡ length request.route
  pub count_is : first_count (map reply_in entries) ≡ Some count

-- each other channel of the pass is as it was: an established one stays so, and one that no entry names has none
pub record OthersStay (chan : ChanNo) (own own' : List OwnEntry) : Type 0 where
  pub established : (other : Request) → channel_number other.chan ≢ channel_number chan → IsEstablished other own → IsEstablished other own'
  pub unopened : (other : ChanNo) → channel_number other ≢ channel_number chan → HasNone other own → HasNone other own'
