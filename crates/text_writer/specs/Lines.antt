-- A line of a text is made of words with one space between two of them, and ends with a line feed.
use Rattle.std.specs.Prelude.{ℕ, List, [], ◌∷◌, ◌++◌, codes}
use Rattle.std.specs.List.{join_with_byte}
use Rattle.std.specs.Fmt.{decimal}

-- the line of these words
abbrev pub whole_line : List (List ℕ) → List ℕ
whole_line words = join_with_byte 32 words ++ 10 ∷ []

-- do ACTOR COUNT
abbrev pub do_words : List ℕ → ℕ → List (List ℕ)
do_words actor count = codes "do" ∷ actor ∷ decimal count ∷ []

abbrev pub do_line : List ℕ → ℕ → List ℕ
do_line actor count = whole_line (do_words actor count)
