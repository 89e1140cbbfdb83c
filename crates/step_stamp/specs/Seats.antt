-- What a call of a seat changes, stated of the views before and after it. A meeting shows a pass the whole list of a link. What
-- it knew before begins that list, and its own marks there are those that it has drawn for the link, in that order. A draw gives
-- a mark whose stamp is above all that the pass has seen, and so above the stamps of all marks that it knows of any link and of
-- all that it has drawn.
use Rattle.std.specs.Prelude.{◌≡◌, ℕ, ◌*◌, ◌^◌, ◌<◌, ◌≤◌, ◌⊎◌, max, List, [], ◌∷◌, ◌++◌, length}
use mathlib.Core.List.{IsPrefix}
use Rattle.atomic_table.specs.Seated.{TableId}
use Rattle.net_units.specs.Numbers.{actor_number, link_number}
use Rattle.net_units.specs.declared.numbers.ActorNo.{ActorNo}
use Rattle.link_steps.specs.Lists.{Each}
use Rattle.link_steps.specs.declared.asks.Ask.{Ask}
use Rattle.step_stamp.specs.declared.marks.Drawn.{Drawn}
use Rattle.step_stamp.specs.declared.marks.Mark.{Mark}
use Rattle.step_stamp.specs.declared.seats.LinkSeat.{LinkSeat}
use Rattle.step_stamp.specs.declared.seats.PassSeat.{PassSeat}
use Rattle.step_stamp.specs.declared.seats.Ticket.{Ticket}
use Rattle.step_stamp.specs.declared.stamps.Stamps.{Stamps}
use Rattle.step_stamp.specs.declared.views.View.{View}
use Rattle.step_stamp.specs.Lists.{Has, AppearIn}
use Rattle.step_stamp.specs.Marks.{StampsRise, NoTwice, drawn_for, of_actor, for_link, marks_of, longer}
use Rattle.step_stamp.specs.Views.{known_of}

-- which stamps a seat or a ticket belongs to
abbrev pub stamps_table : Stamps → TableId
stamps_table s = s.table.shared.table_id

abbrev pub link_table : LinkSeat → TableId
link_table s = s.seat.table_id

abbrev pub pass_table : PassSeat → TableId
pass_table s = s.seat.table_id

abbrev pub ticket_table : Ticket → TableId
ticket_table s = s.seat.table_id

-- what a seat knows
abbrev pub pass_view : PassSeat → View
pass_view s = s.seat.me.0

abbrev pub link_view : LinkSeat → View
link_view s = s.seat.me.0

-- the number of a pass's actor and of a link, and the list of the marks entered at the link
abbrev pub seat_actor : PassSeat → ℕ
seat_actor s = actor_number s.actor

abbrev pub seat_link : LinkSeat → ℕ
seat_link s = link_number s.link

abbrev pub list_of : LinkSeat → List Mark
list_of s = known_of (seat_link s) (link_view s)

-- what a pass knows of a link
abbrev pub knows_of : PassSeat → ℕ → List Mark
knows_of s l = known_of l (pass_view s)

-- a pass meets a link
pub record Meets (l : ℕ) (pass link pass' link' : View) : Type 0 where
  pub begins : IsPrefix (known_of l pass) (known_of l link)
  pub rises : StampsRise (known_of l link)
  pub own : (m : Mark) → Has m (known_of l link) → Has (actor_number m.actor) pass.actors → Has (drawn_for l m) pass.drawn
  pub in_turn : (a : ℕ) → Has a pass.actors → AppearIn (marks_of a (known_of l link)) (for_link l (of_actor a pass.drawn))
  pub knows : known_of l pass' ≡ known_of l link
  pub keeps : known_of l link' ≡ known_of l link
  pub others : (k : ℕ) → (k ≡ l → ⊥) → known_of k pass' ≡ known_of k pass
  pub saw : link'.seen ≡ max link.seen pass.seen
  pub both_saw : pass'.seen ≡ max pass.seen link'.seen
  pub drawn : pass'.drawn ≡ pass.drawn
  pub actors : pass'.actors ≡ pass.actors
  pub among : pass'.among ≡ pass.among
  pub link_among : link'.among ≡ link.among

-- a pass draws a mark for a link
pub record DrawsMark (actor : ActorNo) (l : ℕ) (ask : Ask) (pass pass' : View) (mark : Mark) : Type 0 where
  pub actor_is : mark.actor ≡ actor
  pub ask_is : mark.ask ≡ ask
  pub above : pass.seen < mark.stamp
  pub above_known : (k : ℕ) → Each (λ (m : Mark). m.stamp < mark.stamp) (known_of k pass)
  pub above_drawn : Each (λ (d : Drawn). d.mark.stamp < mark.stamp) pass.drawn
  pub most : mark.stamp ≤ 65 * 2 ^ 40
  pub drawn : pass'.drawn ≡ pass.drawn ++ drawn_for l mark ∷ []
  pub saw : pass'.seen ≡ mark.stamp
  pub knows : (k : ℕ) → known_of k pass' ≡ known_of k pass
  pub actors : pass'.actors ≡ pass.actors
  pub among : pass'.among ≡ pass.among

-- a draw that wanted memory: it has drawn at most one mark more
pub record DrawsNone (pass pass' : View) : Type 0 where
  pub lost : List Drawn
  pub one : length lost ≤ 1
  pub drawn : pass'.drawn ≡ pass.drawn ++ lost
  pub saw : pass.seen ≤ pass'.seen
  pub knows : (k : ℕ) → known_of k pass' ≡ known_of k pass
  pub actors : pass'.actors ≡ pass.actors
  pub among : pass'.among ≡ pass.among

-- a mark goes to the end of a link's list
pub record EntersMark (l : ℕ) (link link' : View) (mark : Mark) : Type 0 where
  pub list : known_of l link' ≡ known_of l link ++ mark ∷ []
  pub saw : link'.seen ≡ mark.stamp
  pub among : link'.among ≡ link.among

-- a pass joins a pass
pub record Gathered (this that now : View) : Type 0 where
  pub drawn : now.drawn ≡ this.drawn ++ that.drawn
  pub once : NoTwice now.drawn
  pub actors : now.actors ≡ this.actors ++ that.actors
  pub knows : (l : ℕ) → known_of l now ≡ longer (known_of l this) (known_of l that)
  pub in_line : (l : ℕ) → IsPrefix (known_of l this) (known_of l that) ⊎ IsPrefix (known_of l that) (known_of l this)
  pub saw : now.seen ≡ max this.seen that.seen
  pub among : now.among ≡ this.among

-- a link's seat joins a pass, which had no list of that link, since no two seats are of one link
pub record Settled (l : ℕ) (pass link now : View) : Type 0 where
  pub begins : IsPrefix (known_of l pass) (known_of l link)
  pub rises : StampsRise (known_of l link)
  pub own : (m : Mark) → Has m (known_of l link) → Has (actor_number m.actor) pass.actors → Has (drawn_for l m) pass.drawn
  pub all : ((a : ℕ) → a < pass.among → Has a pass.actors) → (m : Mark) → Has m (known_of l link) → Has (drawn_for l m) pass.drawn
  pub new : Has l pass.links → ⊥
  pub links : now.links ≡ pass.links ++ l ∷ []
  pub knows : known_of l now ≡ known_of l link
  pub others : (k : ℕ) → (k ≡ l → ⊥) → known_of k now ≡ known_of k pass
  pub drawn : now.drawn ≡ pass.drawn
  pub actors : now.actors ≡ pass.actors
  pub saw : now.seen ≡ max pass.seen link.seen
  pub among : now.among ≡ pass.among
