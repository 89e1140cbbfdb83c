-- When a pass may step the links of a network: it has its seat, of the network's stamps, and no step of it has run out of memory.
-- Then its own entries are exact, and their stamps rise. What it knows of each link is a legal journal, in which each channel was
-- asked for by its owner and the entries of its actor are its own. So its own entries show what the link holds of its channels.
use Rattle.std.specs.Prelude.{◌≡◌, ℕ, ◌<◌, ◌≤◌, true, false, List, [], ◌∷◌, length, map}
use mathlib.Core.List.{IsPrefix}
use Rattle.atomic_table.specs.Seated.{TableId}
use Rattle.net_units.specs.Numbers.{actor_number, channel_number, link_number}
use Rattle.net_units.specs.declared.numbers.ActorNo.{ActorNo}
use Rattle.net_units.specs.declared.numbers.ChanNo.{ChanNo}
use Rattle.channel_laws.specs.Laws.{held_after}
use Rattle.link_steps.specs.Legal.{IsLegal}
use Rattle.link_steps.specs.Lists.{Each}
use Rattle.link_steps.specs.Split.{Link}
use Rattle.step_stamp.specs.Marks.{StampsRise}
use Rattle.step_stamp.specs.Views.{known_of}
use Rattle.link_ledger.specs.Journals.{history_in, journal_of}
use Rattle.link_ledger.specs.Order.{AreInOrder}
use Rattle.link_ledger.specs.Own.{IsExact, Owns, own_at, own_mark}
use Rattle.link_ledger.specs.Owners.{IsOwner}
use Rattle.link_ledger.specs.Tokens.{Token, IsLink}
use Rattle.link_ledger.specs.declared.entries.OwnEntry.{OwnEntry}
use Rattle.shared_network.specs.Holds.{hold_of, IsHeld}

-- what a pass knows of a link
pub record KnowsLink (owners : List ActorNo) (links : ℕ) (link : Link) (l : ℕ) (pass : Token) : Type 0 where
  pub legal : IsLegal link (history_in (journal_of link (known_of l pass.view)))
  pub order : AreInOrder owners links (known_of l pass.view)
  pub owns : Owns link l pass.actor pass.view pass.own
  pub holds : (chan : ChanNo) → IsOwner owners pass.actor chan → IsHeld (hold_of (channel_number chan) (own_at l pass.own)) (held_after link.shape chan (history_in (journal_of link (known_of l pass.view))))

pub record MayStep (table : TableId) (owners : List ActorNo) (links : List Link) (pass : Token) : Type 0 where
  pub has_seat : pass.has_seat ≡ true
  pub table_is : pass.table ≡ table
  pub unspent : pass.spent ≡ false
  pub acts : pass.view.actors ≡ actor_number pass.actor ∷ []
  pub exact : IsExact pass.actor pass.view pass.own
  pub linked : Each (λ (e : OwnEntry). link_number e.link < length links) pass.own
  pub rises : StampsRise (map (own_mark pass.actor) pass.own)
  pub most : Each (λ (e : OwnEntry). e.stamp ≤ pass.view.seen) pass.own
  pub knows : (l : ℕ) (link : Link) → IsLink links l link → KnowsLink owners (length links) link l pass

-- it may go on after a call, and belongs to an opening of as many actors. What it knows of each link begins with what it knew of it
pub record PassGoesOn (table : TableId) (owners : List ActorNo) (links : List Link) (pass pass' : Token) : Type 0 where
  pub may_step : MayStep table owners links pass'
  pub among : pass'.view.among ≡ pass.view.among
  pub knew : (l : ℕ) → IsPrefix (known_of l pass.view) (known_of l pass'.view)

-- a pass of an opening of `actors` actors that has made no step
pub record IsNew (table : TableId) (owners : List ActorNo) (links : List Link) (actors : ℕ) (pass : Token) : Type 0 where
  pub may_step : MayStep table owners links pass
  pub own : pass.own ≡ []
  pub drawn : pass.view.drawn ≡ []
  pub among : pass.view.among ≡ actors
