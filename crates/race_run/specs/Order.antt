-- The order of a race's steps, by a table of their stamps. No stamp stands twice in the journals of a race, so at each stamp the table
-- says in which journal it stands, by the journal's number, or that it stands in none.
use Rattle.std.specs.Prelude.{◌≡◌, ℕ, suc, ◌<◌, ◌≤◌, Bool, true, false, nat_eq, if◌then◌else◌, Some, List, [], ◌∷◌, length}
use Rattle.std.specs.List.{slice_get}
use Rattle.link_steps.specs.Lists.{Each}
use Rattle.link_ledger.specs.declared.entries.Entry.{Entry}
use Rattle.link_ledger.specs.declared.entries.Journal.{Journal}

-- whether one of the entries has this stamp
unfoldable pub has_stamp : ℕ → List Entry → Bool
has_stamp stamp [] = false
has_stamp stamp (e ∷ entries) = if nat_eq e.stamp stamp then true else has_stamp stamp entries

-- the number of the journal that has the stamp, where the first of these has number n: the last of them that has it, or else this number
unfoldable pub journal_with : ℕ → ℕ → ℕ → List Journal → ℕ
journal_with stamp n none [] = none
journal_with stamp n none (journal ∷ journals) = journal_with stamp (suc n) (if has_stamp stamp journal.entries then n else none) journals

-- at each stamp of the table stands the number of the journal that has it, or 255
abbrev pub HasOrder : List Journal → List ℕ → Type 0
HasOrder journals order = (stamp : ℕ) → stamp < length order → slice_get order stamp ≡ Some (journal_with stamp 0 255 journals)

-- each stamp of the entries is below this one
abbrev pub AreBelow : ℕ → List Entry → Type 0
AreBelow stamp entries = Each (λ (e : Entry). e.stamp < stamp) entries

abbrev pub AreStampedUpTo : ℕ → Journal → Type 0
AreStampedUpTo stamp journal = Each (λ (e : Entry). e.stamp ≤ stamp) journal.entries

-- the table has the order of all stamps of these journals
pub record IsOrder (journals : List Journal) (order : List ℕ) : Type 0 where
  pub all : Each (λ (journal : Journal). AreBelow (length order) journal.entries) journals
  pub has : HasOrder journals order

-- the number stands at the stamps of these entries now, and elsewhere what stood there
pub record IsMarked (number : ℕ) (entries : List Entry) (old new : List ℕ) : Type 0 where
  pub long : length new ≡ length old
  pub at : (stamp : ℕ) → stamp < length old → slice_get new stamp ≡ (if has_stamp stamp entries then Some number else slice_get old stamp)
