-- Bytes in memory that are read from their front on, at most `most` of them in one read. A read takes as many as there
-- are left and as the room holds, up to that number, and answers the end exactly where none is left.
use Rattle.std.specs.Prelude.{◌≡◌, ℕ, ◌≤◌, min, List, [], length, take, drop}
use Rattle.byte_ends.specs.Faults.{Plan, FailsNext, after_call, after_fault}
use Rattle.byte_ends.specs.declared.source.Took.{Took}
use Rattle.byte_ends.specs.declared.source.Took.TheVariants.{Taken, End, Failed}

-- the bytes left, and the largest number of bytes in one read
pub record Supply : Type 0 where
  pub left : List ℕ
  pub most : ℕ

-- how many bytes the next read into a room of this length takes
abbrev pub supply_count : Supply → ℕ → ℕ
supply_count s room = min (min s.most room) (length s.left)

-- a read took n bytes of s and left t
pub record Supplied (n : ℕ) (s t : Supply) (room : List ℕ) : Type 0 where
  pub some : 1 ≤ n
  pub count : n ≡ supply_count s (length room)
  pub moved : take n room ≡ take n s.left
  pub rest : t ≡ record s { left = drop n s.left }

-- what a read of s answers: it never fails
abbrev pub Supplies : Took → Supply → Supply → List ℕ → Type 0
Supplies (Taken n) s t room = Supplied n s t room
Supplies End s t room = (s.left ≡ []) × (t ≡ s)
Supplies Failed s t room = ⊥

-- a supply whose reads fail by a plan
pub record FaultySupply : Type 0 where
  pub supply : Supply
  pub plan : Plan

-- a read that isn't to fail
pub record ReadsWell (answer : Took) (s t : FaultySupply) (room : List ℕ) : Type 0 where
  pub not_planned : FailsNext s.plan → ⊥
  pub supplies : Supplies answer s.supply t.supply room
  pub counts : t.plan ≡ after_call s.plan

-- a read that is to fail
pub record ReadFails (s t : FaultySupply) : Type 0 where
  pub planned : FailsNext s.plan
  pub keeps : t.supply ≡ s.supply
  pub counts : t.plan ≡ after_fault (after_call s.plan)

-- what a read answers: it fails exactly where the plan says so
abbrev pub SuppliesByPlan : Took → FaultySupply → FaultySupply → List ℕ → Type 0
SuppliesByPlan (Taken n) s t room = ReadsWell (Taken n) s t room
SuppliesByPlan End s t room = ReadsWell End s t room
SuppliesByPlan Failed s t room = ReadFails s t
