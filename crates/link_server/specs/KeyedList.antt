-- A list whose values stand in a slab, each under a key of its own, which it keeps until it leaves. The keys stand in the order
-- of the list, so no value is moved when another comes or leaves. A value gets a stamp as it comes, above the stamps of all before
-- it, so the place of a key among the others is found by a binary search for its stamp.
use Rattle.std.specs.Prelude.{◌≡◌, ◌≢◌, ◌+◌, ◌<◌, ◌≤◌, ◌^◌, ℕ, suc, nat_eq, if◌then◌else◌, List, [], ◌∷◌, Option, None, IsSome, is_some, count_by, length, map, slice_index_or, refl}
use Rattle.std.specs.Coded.{Coded, code_by, coded×, coded_ℕ, coded_list}
use Rattle.std.specs.List.{All, filter_map}

-- what a contract sees of such a list: its values, their keys in the same order, and for how many more there is room
pub record Listed (T : Type 0) : Type 0 where
  pub items : List T
  pub keys : List ℕ
  pub spare : ℕ

abbrev pub listed_code : {T : Type 0} → Coded T → Coded (Listed T)
listed_code {T} code = code_by (List T × (List ℕ × ℕ)) (coded× (coded_list code) (coded× (coded_list coded_ℕ) coded_ℕ)) (λ l. (l.items, (l.keys, l.spare))) (λ p. record { items = p.0; keys = p.1.0; spare = p.1.1 }) (λ _. refl)

-- where a key stands among these; past them all where it is none of them
unfoldable pub position : List ℕ → ℕ → ℕ
position [] key = 0
position (other ∷ keys) key = if nat_eq other key then 0 else suc (position keys key)

-- the value stands under the key
pub record IsUnder {T : Type 0} (list : Listed T) (key : ℕ) (value : T) : Type 0 where
  pub inside : position list.keys key < length list.items
  pub there : value ≡ slice_index_or list.items (position list.keys key) value

-- what stands under a key, where these are the slots of the slab
abbrev pub slot_at : {T : Type 0} → List (Option T) → ℕ → Option T
slot_at slots key = slice_index_or slots key None

-- the values under these keys
abbrev pub items_at : {T : Type 0} → List (Option T) → List ℕ → List T
items_at slots keys = filter_map (slot_at slots) keys

-- each of these keys has a value
abbrev pub AreHeld : {T : Type 0} → List (Option T) → List ℕ → Type 0
AreHeld slots [] = Unit {0}
AreHeld slots (key ∷ keys) = IsSome (slot_at slots key) × AreHeld slots keys

-- a key is none of these
abbrev pub IsNoneOf : List ℕ → ℕ → Type 0
IsNoneOf [] key = Unit {0}
IsNoneOf (other ∷ keys) key = (other ≢ key) × IsNoneOf keys key

-- none stands twice
abbrev pub AreApart : List ℕ → Type 0
AreApart [] = Unit {0}
AreApart (key ∷ keys) = IsNoneOf keys key × AreApart keys

-- these are the keys of all values in the slab
pub record AreKeys {T : Type 0} (slots : List (Option T)) (keys : List ℕ) : Type 0 where
  pub held : AreHeld slots keys
  pub apart : AreApart keys
  pub whole : count_by is_some slots ≡ length keys

-- these numbers rise, from `low` on, and stay below `high`
abbrev pub AreRising : ℕ → ℕ → List ℕ → Type 0
AreRising low high [] = low ≤ high
AreRising low high (n ∷ ns) = (low ≤ n) × AreRising (suc n) high ns

-- these are the stamps of the keys, each told by its key; they rise, and the next one is above them all
pub record AreStamps (keys stamps under : List ℕ) (next : ℕ) : Type 0 where
  pub told : map (λ key. slice_index_or under key 0) keys ≡ stamps
  pub inside : All (λ key. key < length under) keys
  pub rising : AreRising 0 next stamps

-- there is room for `spare` values more than these, in each part, and a stamp for each
pub record HasSpare (spare values next slots keys stamps under : ℕ) : Type 0 where
  pub stamps_left : next + spare < 2 ^ 64
  pub slots_hold : values + spare ≤ slots
  pub keys_hold : values + spare ≤ keys
  pub stamps_hold : values + spare ≤ stamps
  pub under_holds : 0 < spare → slots ≤ under
