-- A wheel keeps the entries of a calendar as places in the order of their puts, where a key that was taken leaves its
-- place behind. The places of one tick of the turn at hand are a chain, in their order. What is due later stands in no
-- chain until the next turn.
use Rattle.std.specs.Prelude.{◌≡◌, ℕ, suc, ◌+◌, ◌<◌, ◌≤◌, Bool, true, nat_eq, ◌&&◌, if◌then◌else◌, Option, Some, None, List, [], ◌∷◌, ◌++◌, length, get_or}
use Rattle.std.specs.List.{AllByRecursion}
use Rattle.tick_calendar.specs.Calendar.{EntryOf}
use Rattle.tick_calendar.specs.declared.place.Place.{Place}

-- the entries at the places
unfoldable pub entries_in : {T : Type 0} → List (Place T) → List (EntryOf T)
entries_in [] = []
entries_in (p ∷ ps) = if p.waits then (p.tick, p.key) ∷ entries_in ps else entries_in ps

-- whether a place has an entry for tick t
abbrev pub waits_at : {T : Type 0} → ℕ → Place T → Bool
waits_at t p = p.waits && nat_eq p.tick t

-- the first place for tick t, where the places are counted from i
unfoldable pub first_at : {T : Type 0} → ℕ → ℕ → List (Place T) → Option ℕ
first_at t i [] = None
first_at t i (p ∷ ps) = if waits_at t p then Some i else first_at t (suc i) ps

-- a place whose tick is below the end of the turn names the next place of its tick
abbrev pub IsChained : {T : Type 0} → ℕ → ℕ → Place T → List (Place T) → Type 0
IsChained end i p after = p.waits ≡ true → p.tick < end → p.next ≡ first_at p.tick (suc i) after

unfoldable pub AreLinked : {T : Type 0} → ℕ → ℕ → List (Place T) → Type 0
AreLinked end i [] = Unit {0}
AreLinked end i (p ∷ ps) = IsChained end i p ps × AreLinked end (suc i) ps

-- an entry isn't due before tick t
abbrev pub IsFrom : {T : Type 0} → ℕ → EntryOf T → Type 0
IsFrom t entry = t ≤ entry.0

-- the first of two answers that there is
abbrev pub first_found : Option ℕ → Option ℕ → Option ℕ
first_found None other = other
first_found (Some q) other = Some q

-- the last place for tick t
unfoldable pub last_at : {T : Type 0} → ℕ → ℕ → List (Place T) → Option ℕ
last_at t i [] = None
last_at t i (p ∷ ps) = first_found (last_at t (suc i) ps) (if waits_at t p then Some i else None)

-- the slots of the wheel: one for each of the 1,024 ticks from `base` on, with the first and the last place of the tick
pub record IsWheel {T : Type 0} (places : List (Place T)) (firsts : List (Option ℕ)) (lasts : List ℕ) (base : ℕ) : Type 0 where
  pub slots : length firsts ≡ 1024
  pub ends : length lasts ≡ 1024
  pub firsts_at : (slot : ℕ) → slot < 1024 → get_or firsts slot None ≡ first_at (base + slot) 0 places
  pub lasts_at : (slot last : ℕ) → slot < 1024 → last_at (base + slot) 0 places ≡ Some last → get_or lasts slot 0 ≡ last
  pub linked : AreLinked (base + 1024) 0 places

-- no entry is due before tick t
abbrev pub AreAllFrom : {T : Type 0} → ℕ → List (EntryOf T) → Type 0
AreAllFrom t entries = AllByRecursion (IsFrom t) entries

-- the first entry of tick t is gone, and it had this key
pub record RemovesFirst {T : Type 0} (t : ℕ) (old new : List (Place T)) (key : T) : Type 0 where
  pub before : List (Place T)
  pub place : Place T
  pub after : List (Place T)
  pub was : old ≡ before ++ place ∷ after
  pub at : waits_at t place ≡ true
  pub none : first_at t 0 before ≡ None
  pub key_is : key ≡ place.key
  pub left : entries_in new ≡ entries_in before ++ entries_in after

-- the first entry of tick t has this key
pub record StandsFirst {T : Type 0} (t : ℕ) (places : List (Place T)) (key : T) : Type 0 where
  pub before : List (Place T)
  pub place : Place T
  pub after : List (Place T)
  pub is : places ≡ before ++ place ∷ after
  pub at : waits_at t place ≡ true
  pub none : first_at t 0 before ≡ None
  pub key_is : key ≡ place.key

-- the turn stands at the first entry that is due at the clock: where its slot has none, none is due
abbrev pub Stands : {T : Type 0} → ℕ → ℕ → ℕ → List (EntryOf T) → Type 0
Stands base slot clock entries = AreAllFrom (suc (base + slot)) entries → AreAllFrom (suc clock) entries

-- what a calendar keeps
pub record IsKeptWheel {T : Type 0} (places : List (Place T)) (firsts : List (Option ℕ)) (lasts : List ℕ) (base slot waiting room clock capacity : ℕ) : Type 0 where
  pub wheel : IsWheel places firsts lasts base
  pub counted : length (entries_in places) ≡ waiting
  pub within : waiting ≤ room
  pub roomy : room ≤ capacity
  pub slot_most : slot < 1024
  pub begun : base + slot ≤ clock
  pub ahead : AreAllFrom (base + slot) (entries_in places)
  pub stands : Stands base slot clock (entries_in places)

-- the same of the places from i on, where those before them aren't in a chain yet: a turn puts them in, from the last on
pub record IsWheelFrom {T : Type 0} (i : ℕ) (places : List (Place T)) (firsts : List (Option ℕ)) (lasts : List ℕ) (base : ℕ) : Type 0 where
  pub slots : length firsts ≡ 1024
  pub ends : length lasts ≡ 1024
  pub firsts_at : (slot : ℕ) → slot < 1024 → get_or firsts slot None ≡ first_at (base + slot) i places
  pub lasts_at : (slot last : ℕ) → slot < 1024 → last_at (base + slot) i places ≡ Some last → get_or lasts slot 0 ≡ last
  pub linked : AreLinked (base + 1024) i places

-- the least tick of an entry, or `now` where that is less
pub record IsLeastBy {T : Type 0} (entries : List (EntryOf T)) (now least : ℕ) : Type 0 where
  pub most : least ≤ now
  pub all : AreAllFrom least entries
  pub reached : AreAllFrom (suc least) entries → least ≡ now
