-- A link keeps the channels that it has admitted as a list of rows, each under a key of its own, in the order in
-- which they were added. Adding puts a row at the end, moving a row changes its level alone, and taking one out
-- leaves all others as they are. `spare` is the number of rows for which memory is at hand.
use Rattle.std.specs.Prelude.{◌≡◌, ◌≢◌, ◌==◌, ℕ, ◌≤◌, Bool, not, if◌then◌else◌, IsTrue, List, [], ◌∷◌, ◌++◌, map, Contains}
use Rattle.std.specs.List.{filter, All, Any, AllPairs}
use Rattle.net_units.specs.LevelBounds.{are_bounds, bound_at}
use Rattle.traffic_contract.specs.Contract.{Traffic, IsContract}
use Rattle.traffic_contract.specs.declared.admission.Test.{Test}
use Rattle.traffic_contract.specs.Admission.{Server, Admitted, Passes}

-- an admitted channel: its row under its key
pub record Held : Type 0 where
  pub key : ℕ
  pub row : Admitted

-- what a link keeps of admission
pub record Sums : Type 0 where
  pub server : Server
  pub rows : List Held
  pub spare : ℕ

abbrev pub server_with : List ℕ → ℕ → ℕ → Test → Server
server_with bounds rate blocking test = record { bounds = bounds; rate = rate; blocking = blocking; test = test }

abbrev pub admitted_row : Held → Admitted
admitted_row held = held.row

abbrev pub key_of : Held → ℕ
key_of held = held.key

-- the level of its row
abbrev pub level_held : Held → ℕ
level_held held = held.row.level

-- the rows alone, as the admission test sums them
abbrev pub admitted_rows : List Held → List Admitted
admitted_rows rows = map admitted_row rows

abbrev pub row_held : ℕ → Traffic → ℕ → Held
row_held key contract level = record { key = key; row = record { contract = contract; level = level } }

abbrev pub has_key : ℕ → Held → Bool
has_key key held = held.key == key

-- a row of this key is held
abbrev pub Holds : List Held → ℕ → Type 0
Holds rows key = Contains (map key_of rows) key

-- a row of this key is held at this level or a smaller one
abbrev pub HoldsUpTo : List Held → ℕ → ℕ → Type 0
HoldsUpTo rows key level = Any (λ held. (held.key ≡ key) × (held.row.level ≤ level)) rows

-- the rows with a new one at the end
abbrev pub added : List Held → ℕ → Traffic → ℕ → List Held
added rows key contract level = rows ++ row_held key contract level ∷ []

-- a row with another level
abbrev pub put_at : ℕ → Held → Held
put_at level held = row_held held.key held.row.contract level

-- this row, moved to the level where it has the key
abbrev pub move_row : ℕ → ℕ → Held → Held
move_row key level held = if has_key key held then put_at level held else held

-- the rows with that of the key at the level
abbrev pub moved : List Held → ℕ → ℕ → List Held
moved rows key level = map (move_row key level) rows

abbrev pub has_other_key : ℕ → Held → Bool
has_other_key key held = not (has_key key held)

-- the rows of the other keys
abbrev pub without_key : List Held → ℕ → List Held
without_key rows key = filter (has_other_key key) rows

-- no key stands twice
pub record IsDistinct (rows : List Held) : Type 0 where
  pub apart : AllPairs (λ one other. one.key ≢ other.key) rows

-- a link on which an admission test makes sense: its bounds are those of a link, it sends at least a unit a tick,
-- and a packet of at least a tick blocks it no longer than the first bound
pub record IsServer (server : Server) : Type 0 where
  pub bounds : IsTrue (are_bounds server.bounds)
  pub rate : 1 ≤ server.rate
  pub blocking : 1 ≤ server.blocking
  pub first : server.blocking ≤ bound_at server.bounds 1

-- a row that is held has a contract
abbrev pub HoldsContract : Held → Type 0
HoldsContract held = IsContract held.row.contract

-- what is kept always: the rows have contracts and pass, and their keys differ
pub record AreAdmitted (sums : Sums) : Type 0 where
  pub server : IsServer sums.server
  pub contracts : All HoldsContract sums.rows
  pub passes : Passes sums.server (admitted_rows sums.rows)
  pub distinct : IsDistinct sums.rows
