-- What the words `play --workers N` ask for: what `play` does, with the rounds of the plane made by N workers, from 1 to 16. What is
-- due doesn't depend on N, so an answer is what it is for `play`. The two words stand one after the other, at any place after `play`.
-- `--packets` asks for the table of packets, at any place but between them.
use Rattle.std.specs.Prelude.{ℕ, Bool, true, false, ◌&&◌, if◌then◌else◌, Option, Some, None, List, [], ◌∷◌, codes}
use Rattle.tenet_app.specs.Making.{number_from}
use Rattle.tenet_app.specs.Playing.{is_this_word}

-- the first of these words is `play`, and the second `--workers`
abbrev pub are_to_work : List ℕ → List ℕ → Bool
are_to_work first second = is_this_word (codes "play") first && is_this_word (codes "--workers") second

-- whether the table is asked for, with the number of workers
abbrev pub work_of : Bool → Option ℕ → Option (Bool × ℕ)
work_of packets None = None
work_of packets (Some workers) = Some (packets, workers)

-- with the word `--packets` in front, in the middle or at the end
abbrev pub work_with_table : List ℕ → List ℕ → List ℕ → List ℕ → Option (Bool × ℕ)
work_with_table first second third fourth =
    if is_this_word (codes "--packets") first && are_to_work second third then work_of true (number_from 1 16 fourth)
    else (if is_this_word (codes "--packets") second && are_to_work first third then work_of true (number_from 1 16 fourth)
    else (if is_this_word (codes "--packets") fourth && are_to_work first second then work_of true (number_from 1 16 third) else None))

-- whether the table is asked for, and the number of workers
abbrev pub work_words : List (List ℕ) → Option (Bool × ℕ)
work_words [] = None
work_words (word ∷ []) = None
work_words (first ∷ second ∷ []) = None
work_words (first ∷ second ∷ third ∷ []) = if are_to_work first second then work_of false (number_from 1 16 third) else None
work_words (first ∷ second ∷ third ∷ fourth ∷ []) = work_with_table first second third fourth
work_words (first ∷ second ∷ third ∷ fourth ∷ fifth ∷ others) = None
