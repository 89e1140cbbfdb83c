-- The lines of a list of bytes. A line ends with a line feed, which is not a part of it. Of the bytes, at most the first
-- `most` may stand in lines, line feeds included. The whole lines are those whose line feed is among these. After them,
-- either all bytes were given; or there are more than `most` bytes, so the bytes are too long; or they are cut short:
-- the last line has no line feed.
use Rattle.std.specs.Prelude.{ℕ, suc, zero, Bool, false, not, ◌==◌, if◌then◌else◌, List, [], ◌∷◌}

-- the byte that ends a line
abbrev pub feed : ℕ
feed = 10

-- a byte put in front of the first line; a byte with no whole line after it stands in no whole line
abbrev pub with_front : ℕ → List (List ℕ) → List (List ℕ)
with_front b [] = []
with_front b (line ∷ lines) = (b ∷ line) ∷ lines

-- the whole lines among the first `most` bytes, each without its line feed
abbrev pub whole_lines : ℕ → List ℕ → List (List ℕ)
whole_lines most [] = []
whole_lines zero (b ∷ bs) = []
whole_lines (suc most) (b ∷ bs) = if b == feed then [] ∷ whole_lines most bs else with_front b (whole_lines most bs)

-- what comes after the whole lines
pub data Ending : Type 0 where
  all_given : Ending
  cut_short : Ending
  too_long : Ending

-- what comes after the whole lines, where a line is open or not
abbrev pub ending_from : Bool → ℕ → List ℕ → Ending
ending_from open_line most [] = if open_line then cut_short else all_given
ending_from open_line zero (b ∷ bs) = too_long
ending_from open_line (suc most) (b ∷ bs) = ending_from (not (b == feed)) most bs

-- what comes after the whole lines of all bytes
abbrev pub ending : ℕ → List ℕ → Ending
ending most bs = ending_from false most bs

-- what is to come of bytes that are not given yet: their whole lines, and what comes after them
pub record Outlook : Type 0 where
  pub lines : List (List ℕ)
  pub ending : Ending

-- the outlook on bytes of which the first `most` may stand in lines
abbrev pub outlook : ℕ → List ℕ → Outlook
outlook most bs = record { lines = whole_lines most bs; ending = ending most bs }
