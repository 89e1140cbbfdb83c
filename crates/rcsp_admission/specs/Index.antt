-- A link finds the row of a key by an index. It keeps the place of each row under the row's key, and the keys stand in their
-- order, so a binary search finds one. The rows themselves stay in the order in which they were added. When one is taken out,
-- the rows after it move up by one.
use Rattle.std.specs.Prelude.{◌≡◌, ℕ, suc, ◌-◌, ◌<◌, ◌≤◌, nat_eq, nat_lt, if◌then◌else◌, Option, Some, None, List, [], ◌∷◌, length, slice_index_or}
use Rattle.std.specs.List.{position_from}
use Rattle.rcsp_admission.specs.Sums.{Held, has_key}
use Rattle.rcsp_admission.specs.declared.key_index.KeyPlace.{KeyPlace}

-- the place that the index has for the key
abbrev pub place_in : ℕ → List KeyPlace → Option ℕ
place_in key [] = None
place_in key (kept ∷ places) = if nat_eq kept.key key then Some kept.place else place_in key places

-- the place of the key's row among the rows
abbrev pub place_among : ℕ → List Held → Option ℕ
place_among key rows = position_from (has_key key) 0 rows

-- the keys rise, from `low` on
abbrev pub AreByKey : ℕ → List KeyPlace → Type 0
AreByKey low [] = Unit {0}
AreByKey low (kept ∷ places) = (low ≤ kept.key) × AreByKey (suc kept.key) places

-- the place of the key is kept here
pub record IsKeptAt (key : ℕ) (places : List KeyPlace) (i : ℕ) : Type 0 where
  pub inside : i < length places
  pub here : (d : KeyPlace) → (slice_index_or places i d).key ≡ key

-- none of the key is kept, and it would be kept here
pub record IsGapFor (key : ℕ) (places : List KeyPlace) (i : ℕ) : Type 0 where
  pub within : i ≤ length places
  pub below : (k : ℕ) (d : KeyPlace) → k < i → (slice_index_or places k d).key < key
  pub above : (d : KeyPlace) → i < length places → key < (slice_index_or places i d).key

-- where a row stands once the one at the place `left` is out
abbrev pub place_after : ℕ → ℕ → ℕ
place_after left place = if nat_lt left place then place - 1 else place

abbrev pub moved_up : ℕ → KeyPlace → KeyPlace
moved_up left kept = record { key = kept.key; place = place_after left kept.place }

-- the index has the place of each row, and no other
pub record IsIndex (rows : List Held) (places : List KeyPlace) : Type 0 where
  pub by_key : AreByKey 0 places
  pub each : (key : ℕ) → place_in key places ≡ place_among key rows
