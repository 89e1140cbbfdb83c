-- At opening there is one seat for each link and one pass for each actor, in the order of their numbers. No list has a mark,
-- and nobody has seen a stamp. They are cut one by one from a first seat that has all links and all actors.
use Rattle.std.specs.Prelude.{◌≡◌, ℕ, ◌<◌, ◌≤◌, List, [], map}
use Rattle.atomic_table.specs.Seated.{TableId}
use Rattle.link_steps.specs.Lists.{Each}
use Rattle.step_stamp.specs.declared.seats.LinkSeat.{LinkSeat}
use Rattle.step_stamp.specs.declared.seats.PassSeat.{PassSeat}
use Rattle.step_stamp.specs.declared.views.View.{View}
use Rattle.step_stamp.specs.Lists.{Has, up_to}
use Rattle.step_stamp.specs.Views.{first_view, new_pass}
use Rattle.step_stamp.specs.Seats.{link_table, pass_table, link_view, pass_view, seat_link, seat_actor, list_of}

-- a link's seat with an empty list
pub record IsNewLink (table : TableId) (actors : ℕ) (s : LinkSeat) : Type 0 where
  pub from_table : link_table s ≡ table
  pub unseen : (link_view s).seen ≡ 0
  pub empty : list_of s ≡ []
  pub among : (link_view s).among ≡ actors

-- a pass's seat with its own actor, which has drawn nothing and knows nothing
pub record IsNewPass (table : TableId) (actors : ℕ) (s : PassSeat) : Type 0 where
  pub from_table : pass_table s ≡ table
  pub view_is : pass_view s ≡ new_pass (seat_actor s) (first_view 0 actors)

-- the seats of links 0 to n - 1, and of actors 0 to n - 1, in their order
pub record AreLinks (table : TableId) (actors n : ℕ) (seats : List LinkSeat) : Type 0 where
  pub numbers : map seat_link seats ≡ up_to n
  pub new : Each (IsNewLink table actors) seats

pub record ArePasses (table : TableId) (actors n : ℕ) (seats : List PassSeat) : Type 0 where
  pub numbers : map seat_actor seats ≡ up_to n
  pub new : Each (IsNewPass table actors) seats

-- what the first seat still has, once the first links or actors were cut from it
pub record IsFirst (links actors next_link next_actor : ℕ) (v : View) : Type 0 where
  pub links_left : (k : ℕ) → next_link ≤ k → k < links → Has k v.links
  pub actors_left : (k : ℕ) → next_actor ≤ k → k < actors → Has k v.actors
  pub among : v.among ≡ actors
  pub seen : v.seen ≡ 0
  pub drawn : v.drawn ≡ []
  pub hand : v.hand ≡ []
  pub shelves : v.shelves ≡ []
