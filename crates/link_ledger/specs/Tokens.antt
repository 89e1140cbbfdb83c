-- A pass as callers see it: its actor, whether it has its seat and what that knows, its own entries, and whether a step has
-- met want of memory. And what a step at a link makes of it.
use Rattle.std.specs.Prelude.{◌≡◌, ℕ, Bool, true, false, Option, Some, None, option_map, List, [], ◌∷◌, ◌++◌, length, map, slice_get}
use Rattle.net_units.specs.Numbers.{actor_number}
use Rattle.net_units.specs.declared.numbers.ActorNo.{ActorNo}
use Rattle.atomic_table.specs.Seated.{TableId}
use Rattle.link_steps.specs.Split.{Link}
use Rattle.link_steps.specs.declared.asks.Ask.{Ask}
use Rattle.link_steps.specs.declared.replies.Reply.{Reply}
use Rattle.link_steps.specs.declared.shape.LinkShape.{LinkShape}
use Rattle.step_stamp.specs.Seats.{pass_table, pass_view}
use Rattle.step_stamp.specs.Views.{nobody}
use Rattle.step_stamp.specs.declared.seats.PassSeat.{PassSeat}
use Rattle.step_stamp.specs.declared.views.View.{View}
use Rattle.link_ledger.specs.Journals.{entries_of}
use Rattle.link_ledger.specs.Own.{IsExact, Owns, AreAnswered, Acted, own_entry, own_at}
use Rattle.link_ledger.specs.Owners.{no_table}
use Rattle.link_ledger.specs.declared.entries.Entry.{Entry}
use Rattle.link_ledger.specs.declared.entries.OwnEntry.{OwnEntry}

pub record Token : Type 0 where
  pub actor : ActorNo
  pub has_seat : Bool
  pub table : TableId
  pub view : View
  pub own : List OwnEntry
  pub spent : Bool

-- its numbers: how many stamps it has drawn, the largest that it has seen, and how many actors its opening has
abbrev pub stamps_drawn : Token → ℕ
stamps_drawn pass = length pass.view.drawn

abbrev pub last_seen : Token → ℕ
last_seen pass = pass.view.seen

abbrev pub actors_opened : Token → ℕ
actors_opened pass = pass.view.among

-- of its parts; a pass that gave its seat up knows nothing
abbrev pub token_of : ActorNo → Option PassSeat → List OwnEntry → Bool → Token
token_of actor (Some seat) own spent = record { actor = actor; has_seat = true; table = pass_table seat; view = pass_view seat; own = own; spent = spent }
token_of actor None own spent = record { actor = actor; has_seat = false; table = no_table; view = nobody; own = own; spent = spent }

-- the seat is its actor's, and while no step has met want of memory the own entries are exact
pub record KeepsSeat (actor : ActorNo) (seat : PassSeat) (own : List OwnEntry) (spent : Bool) : Type 0 where
  pub actor_is : seat.actor ≡ actor
  pub exact : spent ≡ false → IsExact actor (pass_view seat) own

abbrev pub KeepsToken : ActorNo → Option PassSeat → List OwnEntry → Bool → Type 0
KeepsToken actor (Some seat) own spent = KeepsSeat actor seat own spent
KeepsToken actor None own spent = Unit {0}

-- ---- at a link of a network, by the list of its links

abbrev pub IsLink : List Link → ℕ → Link → Type 0
IsLink links l link = slice_get links l ≡ Some link

-- the shape of a link
abbrev pub shape_at : List Link → ℕ → Option LinkShape
shape_at links l = option_map (λ (link : Link). link.shape) (slice_get links l)

-- the pass owns its entries at this link
abbrev pub OwnsAt : List Link → ℕ → Token → Type 0
OwnsAt links l pass = (link : Link) → IsLink links l link → Owns link l pass.actor pass.view pass.own

-- each of its entries at this link has the reply of the rules after the asks that its seat knows before it
abbrev pub AnsweredAt : List Link → ℕ → Token → Type 0
AnsweredAt links l pass = (link : Link) → IsLink links l link → AreAnswered link l pass.actor pass.view pass.own

-- a step at a link, as the seat of the pass tells it, after some journal of the link
pub record ActedAt (links : List Link) (l : ℕ) (actor : ActorNo) (ask : Ask) (pass pass' : View) (e : OwnEntry) : Type 0 where
  pub link : Link
  pub is_link : IsLink links l link
  pub entries : List Entry
  pub acted : Acted link l actor ask pass pass' entries e

-- a step of a pass at a link: the journal before it, and the entry made, which is the pass's last one and the journal's next.
-- In the journal with it the entries of the pass's actor are exactly the pass's own entries of this link, in their order.
pub record Steps (links : List Link) (l : ℕ) (ask : Ask) (pass pass' : Token) (reply : Reply) : Type 0 where
  pub link : Link
  pub is_link : IsLink links l link
  pub entries : List Entry
  pub entry : OwnEntry
  pub acted : Acted link l pass.actor ask pass.view pass'.view entries entry
  pub reply_is : entry.reply ≡ reply
  pub own : pass'.own ≡ pass.own ++ entry ∷ []
  pub exact : entries_of (actor_number pass.actor) (entries ++ own_entry pass.actor entry ∷ []) ≡ map (own_entry pass.actor) (own_at l pass'.own)
  pub owns : OwnsAt links l pass'
  pub has_seat : pass'.has_seat ≡ true
  pub unspent : pass'.spent ≡ false
