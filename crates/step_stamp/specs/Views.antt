-- A seat knows a part of what has happened, its view: the largest stamp that it has seen, the links whose lists it has,
-- its actors, the marks that these have drawn, the marks in hand on their way into a list, and what it knows of each
-- link's list. Seats are cut in two and put together, and what each then knows is said here, change by change. A link is
-- spoken of on shelves: the newest shelf of a link counts.
use Rattle.std.specs.Prelude.{ℕ, ◌==◌, max, if◌then◌else◌, List, [], ◌∷◌, ◌++◌, map}
use Rattle.step_stamp.specs.declared.marks.Drawn.{Drawn}
use Rattle.step_stamp.specs.declared.marks.Mark.{Mark}
use Rattle.step_stamp.specs.declared.views.Shelf.{Shelf}
use Rattle.step_stamp.specs.declared.views.View.{View}
use Rattle.step_stamp.specs.Lists.{below, without_number}
use Rattle.step_stamp.specs.Marks.{drawn_marks, longer}

-- ---- what is known of a link

abbrev pub shelf : ℕ → List Mark → List Mark → List Mark → Shelf
shelf l known first second = record { link = l; known = known; first = first; second = second }

-- the newest shelf of a link
unfoldable pub shelf_of : ℕ → List Shelf → Shelf
shelf_of l [] = shelf l [] [] []
shelf_of l (s ∷ ss) = if s.link == l then s else shelf_of l ss

-- the marks that a view knows of a link, and the two lists of it that its last join brought together
abbrev pub known_of : ℕ → View → List Mark
known_of l v = (shelf_of l v.shelves).known

abbrev pub first_of : ℕ → View → List Mark
first_of l v = (shelf_of l v.shelves).first

abbrev pub second_of : ℕ → View → List Mark
second_of l v = (shelf_of l v.shelves).second

-- ---- at opening: the first seat has all links and all actors, and a new seat takes its own from it

abbrev pub first_view : ℕ → ℕ → View
first_view links actors = record { seen = 0; among = actors; links = below links; actors = below actors; drawn = []; hand = []; shelves = [] }

abbrev pub new_link : ℕ → View → View
new_link l v = record { seen = v.seen; among = v.among; links = l ∷ []; actors = []; drawn = []; hand = []; shelves = shelf l (known_of l v) [] [] ∷ [] }

abbrev pub less_link : ℕ → View → View
less_link l v = record v { links = without_number l v.links }

abbrev pub new_pass : ℕ → View → View
new_pass a v = record { seen = v.seen; among = v.among; links = []; actors = a ∷ []; drawn = []; hand = []; shelves = [] }

abbrev pub less_actor : ℕ → View → View
less_actor a v = record v { actors = without_number a v.actors }

-- ---- copies: what is left of a seat that joined another; a copy that shows what is known of a link; one that takes the
-- marks in hand, and what stays behind

abbrev pub nobody : View
nobody = record { seen = 0; among = 0; links = []; actors = []; drawn = []; hand = []; shelves = [] }

abbrev pub copy : View → List Drawn → Shelf → View
copy v hand s = record { seen = v.seen; among = v.among; links = []; actors = []; drawn = []; hand = hand; shelves = s ∷ [] }

abbrev pub shown : ℕ → View → View
shown l v = copy v [] (shelf l (known_of l v) [] [])

abbrev pub handed : ℕ → View → View
handed l v = copy v v.hand (shelf l [] [] [])

abbrev pub emptied : View → View
emptied v = record v { hand = [] }

-- ---- joins

-- a copy joins a link's seat, whose list takes the marks that it has in hand
abbrev pub entered : ℕ → View → View → View
entered l v w = record v { seen = max v.seen w.seen; shelves = shelf l (known_of l v ++ drawn_marks w.hand) (known_of l v) (known_of l w) ∷ v.shelves }

-- a copy joins a pass, which then knows the longer list
abbrev pub taken : ℕ → View → View → View
taken l v w = record v { seen = max v.seen w.seen; shelves = shelf l (longer (known_of l v) (known_of l w)) (known_of l v) (known_of l w) ∷ v.shelves }

-- at closing a link's seat joins a pass, which then has the link's list
abbrev pub settled : ℕ → View → View → View
settled l v w = record v { seen = max v.seen w.seen; links = v.links ++ w.links; shelves = shelf l (known_of l w) (known_of l v) (known_of l w) ∷ v.shelves }

-- at closing a pass joins a pass, which then knows the longer list of each link
abbrev pub merged : View → View → Shelf → Shelf
merged v w s = shelf s.link (longer (known_of s.link v) (known_of s.link w)) (known_of s.link v) (known_of s.link w)

abbrev pub gathered : View → View → View
gathered v w = record { seen = max v.seen w.seen; among = v.among; links = v.links ++ w.links; actors = v.actors ++ w.actors; drawn = v.drawn ++ w.drawn; hand = v.hand ++ w.hand; shelves = map (merged v w) (v.shelves ++ w.shelves) }

-- ---- steps on the word

-- a draw, and a load that counts as seen
abbrev pub drew : List Drawn → ℕ → View → View
drew ds top v = record v { seen = top; drawn = v.drawn ++ ds; hand = v.hand ++ ds }

abbrev pub saw : ℕ → View → View
saw top v = record v { seen = top }
