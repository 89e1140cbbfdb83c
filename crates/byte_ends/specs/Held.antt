-- How a cutting is held. What is pending stands in two parts: the beginning of the line that is pending, which has no line
-- feed, and after it the rest of the block that was read last. A line that is whole is in hand and isn't pending. Room
-- for the rest of the block is reserved after the beginning, so a line that was taken is given without taking memory.
use Rattle.std.specs.Prelude.{◌≡◌, ℕ, ◌+◌, ◌<◌, ◌≤◌, Bool, List, [], ◌++◌, length, take, slice_index, if◌then◌else◌}
use Rattle.byte_ends.specs.WholeLines.{feed}
use Rattle.byte_ends.specs.Cutting.{Cutting, HasNoFeed, IsCutting}

-- the beginning of the line that is pending, where a line that is whole isn't pending
abbrev pub front_of : Bool → List ℕ → List ℕ
front_of whole line = if whole then [] else line

-- a cutting by its parts
abbrev pub cutting_of : ℕ → ℕ → ℕ → Bool → Bool → List ℕ → List ℕ → Cutting
cutting_of most taken number ended whole line block =
    record {
      most = most;
      taken = taken;
      pending = front_of whole line ++ block;
      ended = ended;
      number = number;
      line = (if whole then line else []);
    }

-- what holds of the parts
pub record HoldsParts (t : Cutting) (front block : List ℕ) (capacity : ℕ) : Type 0 where
  pub cutting : IsCutting t
  pub no_feed : HasNoFeed front
  pub reserved : length front + length block ≤ capacity

-- what is pending, without the beginning of a line that no block has any more
pub record IsRestOfBlock (pending rest : List ℕ) : Type 0 where
  pub front : List ℕ
  pub joined : pending ≡ front ++ rest
  pub no_feed : HasNoFeed front

-- the first line feed of a list stands at this place
pub record IsFirstFeed (bs : List ℕ) (at : ℕ) : Type 0 where
  pub within : at < length bs
  pub is_feed : slice_index bs at ≡ feed
  pub none_before : HasNoFeed (take at bs)
