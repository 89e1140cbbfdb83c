-- A short list kept in a fixed array: its items first, and zeros in the places after them. So two arrays
-- with the same items are the same.
use Rattle.std.specs.Prelude.{◌≡◌, ℕ, ◌-◌, ◌++◌, List, length, take, replicate}

-- the items, and zeros up to the array's size
abbrev pub padded : ℕ → List ℕ → List ℕ
padded size xs = xs ++ replicate (size - length xs) 0

-- the array has `len` items and is zero after them
pub record IsPadded (size len : ℕ) (cells : List ℕ) : Type 0 where
  pub whole : padded size (take len cells) ≡ cells
  pub count : length (take len cells) ≡ len
