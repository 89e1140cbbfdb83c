-- The first parts of a line, as the code has them at hand: each in the cell of its place, and no bytes in the cells after the last.
use Rattle.std.specs.Prelude.{◌≡◌, ◌<◌, ℕ, List, [], length, get_or}

pub record AreAtHand (cells fields : List (List ℕ)) : Type 0 where
  pub room : length cells ≡ 32
  pub same : (place : ℕ) → place < 32 → get_or cells place [] ≡ get_or fields place []
