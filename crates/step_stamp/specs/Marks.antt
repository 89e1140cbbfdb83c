-- Every step of a link has a stamp, drawn by the actor that asks: a number that no other step has. A mark is a stamp with
-- the actor that drew it and what it asks. Each mark is drawn for one link and goes into that link's list, and the stamps
-- of a list rise.
use Rattle.std.specs.Prelude.{◌≡◌, ℕ, suc, ◌<◌, ◌==◌, nat_lt, Bool, if◌then◌else◌, List, [], ◌∷◌, length, map, filter}
use Rattle.net_units.specs.Numbers.{actor_number}
use Rattle.link_steps.specs.Lists.{Each}
use Rattle.step_stamp.specs.declared.marks.Drawn.{Drawn}
use Rattle.step_stamp.specs.declared.marks.Mark.{Mark}

-- the stamps rise, from above `low`
abbrev pub RisesFrom : ℕ → List Mark → Type 0
RisesFrom low [] = Unit {0}
RisesFrom low (m ∷ ms) = (low < m.stamp) × RisesFrom m.stamp ms

abbrev pub StampsRise : List Mark → Type 0
StampsRise ms = RisesFrom 0 ms

-- a mark drawn for this link
abbrev pub drawn_for : ℕ → Mark → Drawn
drawn_for l m = record { link = l; mark = m }

-- the marks of drawn ones
abbrev pub drawn_marks : List Drawn → List Mark
drawn_marks ds = map (λ (d : Drawn). d.mark) ds

-- what an actor has drawn
abbrev pub by_actor : ℕ → Drawn → Bool
by_actor a d = actor_number d.mark.actor == a

abbrev pub of_actor : ℕ → List Drawn → List Drawn
of_actor a ds = filter (by_actor a) ds

-- the marks drawn for a link
abbrev pub for_link : ℕ → List Drawn → List Mark
for_link l ds = drawn_marks (filter (λ (d : Drawn). d.link == l) ds)

-- an actor's marks in a list
abbrev pub marks_of : ℕ → List Mark → List Mark
marks_of a ms = filter (λ (m : Mark). actor_number m.actor == a) ms

-- no stamp stands twice
abbrev pub NoTwice : List Drawn → Type 0
NoTwice [] = Unit {0}
NoTwice (d ∷ ds) = Each (λ (e : Drawn). e.mark.stamp ≡ d.mark.stamp → ⊥) ds × NoTwice ds

-- the k-th mark, counted from 0, has stamp n + k + 1
abbrev pub Numbered : ℕ → List Drawn → Type 0
Numbered n [] = Unit {0}
Numbered n (d ∷ ds) = (d.mark.stamp ≡ suc n) × Numbered (suc n) ds

-- the longer of two lists, the second where they are as long
abbrev pub longer : List Mark → List Mark → List Mark
longer xs ys = if nat_lt (length ys) (length xs) then xs else ys
