-- The word holds how many stamps were drawn. Behind it stand all draws in their order, the list of marks entered at each link,
-- which view has that list, and which view each actor is in. The rule says how the word and every view agree with these and
-- with the opening. The draws are numbered from 1 to the word. Each link's list rises and holds marks drawn for it alone, and
-- it stands in exactly one view, as each actor does. What any view knows of a link begins that link's list; the view that has
-- the list knows all of it; a view that has an actor has all that the actor drew; and each view has seen the stamps of the
-- marks that it knows and of those that it has drawn. There are at most 65 actors, and none draws more than 2^40 marks. A view
-- without an actor has drawn nothing and speaks of one link alone, and a spent one has seen nothing and has nothing. Each drawn
-- mark stands either in one hand or in its link's list, and no other mark stands there. The rule holds between any two steps.
use Rattle.std.specs.Prelude.{◌≡◌, ℕ, ◌*◌, ◌^◌, ◌<◌, ◌≤◌, ◌⊎◌, List, [], ◌∷◌, length}
use mathlib.Core.Option.{some}
use mathlib.Core.List.{IsPrefix}
use lib.ListN.{get_elem?}
use Rattle.net_units.specs.Numbers.{actor_number}
use Rattle.link_steps.specs.Lists.{Each}
use Rattle.step_stamp.specs.declared.marks.Drawn.{Drawn}
use Rattle.step_stamp.specs.declared.marks.Mark.{Mark}
use Rattle.step_stamp.specs.declared.views.Opening.{Opening}
use Rattle.step_stamp.specs.declared.views.Shelf.{Shelf}
use Rattle.step_stamp.specs.declared.views.View.{View}
use Rattle.step_stamp.specs.Lists.{Has, Differ}
use Rattle.step_stamp.specs.Marks.{StampsRise, Numbered, NoTwice, drawn_for, drawn_marks, of_actor}
use Rattle.step_stamp.specs.Placing.{hand_at, Placed}
use Rattle.step_stamp.specs.Views.{shelf_of, known_of, first_of, second_of, nobody}

-- what stands behind the word: all draws in their order, the list of each link and the number of the view that has it, the
-- number of the view of each actor, and how many links and actors there are
pub record Tally : Type 0 where
  pub draws : List Drawn
  pub log : ℕ → List Mark
  pub seat : ℕ → ℕ
  pub owner : ℕ → ℕ
  pub links : ℕ
  pub actors : ℕ

-- the links and the actors are those of the opening
pub record IsOfOpening (about : Opening) (t : Tally) : Type 0 where
  pub links : t.links ≡ about.links
  pub actors : t.actors ≡ about.actors
  pub most : about.actors ≤ 65

-- all that stands on a shelf begins the link's list
pub record Begins (list : List Mark) (s : Shelf) : Type 0 where
  pub known : IsPrefix s.known list
  pub first : IsPrefix s.first list
  pub second : IsPrefix s.second list

-- view `by` has the list of link l, and knows all of it
pub record HasList (t : Tally) (by l : ℕ) (v : View) : Type 0 where
  pub here : t.seat l ≡ by
  pub whole : known_of l v ≡ t.log l
  pub small : l < t.links

-- view `by` has actor a, and what it has drawn of that actor is all that the actor drew
pub record HasActor (t : Tally) (by a : ℕ) (drawn : List Drawn) : Type 0 where
  pub here : t.owner a ≡ by
  pub whole : of_actor a drawn ≡ of_actor a t.draws
  pub small : a < t.actors

-- it speaks of one link alone and has drawn nothing. So it is with a link's seat, which has that link's list, and with every
-- copy, made for one link; a spent seat and the first seat, once its actors were cut from it, speak of no link at all
pub record OfOneLink (v : View) : Type 0 where
  pub link : ℕ
  pub lists : (k : ℕ) → Has k v.links → (k ≡ link) ⊎ (v.shelves ≡ [])
  pub drawn : v.drawn ≡ []
  pub alone : Each (λ (s : Shelf). s.link ≡ link) v.shelves

-- it has seen the stamps of all marks that it knows, and of all that it has drawn
pub record HasSeen (v : View) : Type 0 where
  pub known : (l : ℕ) → Each (λ (m : Mark). m.stamp ≤ v.seen) (known_of l v)
  pub drawn : Each (λ (d : Drawn). d.mark.stamp ≤ v.seen) v.drawn

-- what the rule says of view `by`
pub record Fits (t : Tally) (by : ℕ) (v : View) : Type 0 where
  pub seen : v.seen ≤ length t.draws
  pub saw : HasSeen v
  pub among : (v.among ≡ 0) ⊎ (v.among ≡ t.actors)
  pub knows : (l : ℕ) → Begins (t.log l) (shelf_of l v.shelves)
  pub has : (l : ℕ) → Has l v.links → HasList t by l v
  pub apart : Differ v.links
  pub acts : (a : ℕ) → Has a v.actors → HasActor t by a v.drawn
  pub drew : Each (λ (d : Drawn). Has (actor_number d.mark.actor) v.actors) v.drawn
  pub holds : Each (λ (d : Drawn). Has d t.draws) v.hand
  pub once : NoTwice v.hand
  pub spent : v.among ≡ 0 → v ≡ nobody
  pub lone : v.actors ≡ [] → OfOneLink v

-- view `by` is there, and P holds of it
pub record Stands (views : List View) (by : ℕ) (P : View → Type 0) : Type 0 where
  pub view : View
  pub found : get_elem? views by ≡ some view
  pub fact : P view

-- it has the list of link l; it has actor a
abbrev pub HoldsList : ℕ → View → Type 0
HoldsList l v = Has l v.links

abbrev pub HoldsActor : ℕ → View → Type 0
HoldsActor a v = Has a v.actors

-- the rule on the word and all views
pub record KeepsRule (about : Opening) (words : List ℕ) (views : List View) : Type 0 where
  pub tally : Tally
  pub opening : IsOfOpening about tally
  pub word : words ≡ length tally.draws ∷ []
  pub numbered : Numbered 0 tally.draws
  pub room : (a : ℕ) → length (of_actor a tally.draws) ≤ 2 ^ 40
  pub acting : Each (λ (d : Drawn). actor_number d.mark.actor < tally.actors) tally.draws
  pub rises : (l : ℕ) → StampsRise (tally.log l)
  pub drawn : (l : ℕ) → Each (λ (m : Mark). Has (drawn_for l m) tally.draws) (tally.log l)
  pub placed : Placed tally.draws tally.log (hand_at views)
  pub seated : (l : ℕ) → l < tally.links → Stands views (tally.seat l) (HoldsList l)
  pub owned : (a : ℕ) → a < tally.actors → Stands views (tally.owner a) (HoldsActor a)
  pub fits : (by : ℕ) (v : View) → get_elem? views by ≡ some v → Fits tally by v

-- ---- what the rule tells of a view, whatever the table is

-- it has seen the stamps of its marks, and has no list twice; what was joined into a list that it has begins that list, and its
-- stamps rise; its drawn marks are few, none has the stamp of another, and each actor's stamps rise; a mark known of an actor
-- of its own is one that it has drawn for that link, and where it has all actors, so is each mark known
pub record Learnt (v : View) : Type 0 where
  pub saw : HasSeen v
  pub apart : Differ v.links
  pub begun : (l : ℕ) → Has l v.links → IsPrefix (first_of l v) (known_of l v)
  pub joined : (l : ℕ) → Has l v.links → IsPrefix (second_of l v) (known_of l v)
  pub in_line : (l : ℕ) → IsPrefix (first_of l v) (second_of l v) ⊎ IsPrefix (second_of l v) (first_of l v)
  pub rises : (l : ℕ) → Has l v.links → StampsRise (known_of l v)
  pub few : length v.drawn ≤ 65 * 2 ^ 40
  pub once : NoTwice v.drawn
  pub in_turn : (a : ℕ) → StampsRise (drawn_marks (of_actor a v.drawn))
  pub own : (l : ℕ) (m : Mark) → Has m (known_of l v) → Has (actor_number m.actor) v.actors → Has (drawn_for l m) v.drawn
  pub all : 1 ≤ v.among → ((a : ℕ) → a < v.among → Has a v.actors) → (l : ℕ) (m : Mark) → Has m (known_of l v) → Has (drawn_for l m) v.drawn
