-- A file is its lines. Where a change has its places, a line is what stands before each place, the word at the place, and what stands after the
-- last one. With the words that the file itself has at its places, the lines give the file; with the words of a variant they give the text
-- of the variant. So whatever isn't at a place stays, byte for byte, and a line without places is the same in all variants.
--
-- The changes count like an odometer: the last change has its next value in each variant, and each other one keeps its value for as many
-- variants as the changes after it have combinations.
use Rattle.std.specs.Prelude.{◌≡◌, ℕ, ◌+◌, ◌*◌, ◌/◌, ◌%◌, ◌<◌, max, Option, Some, None, List, [], ◌∷◌, ◌++◌, length, map}
use Rattle.std.specs.List.{slice_get}
use Rattle.network_variants.specs.declared.variants.Place.{Place}
use Rattle.network_variants.specs.declared.variants.Line.{Line}
use Rattle.network_variants.specs.declared.variants.Change.{Change}

-- ---- a file with its places

-- what stands at a place in the file
abbrev pub own_of : Place → List ℕ
own_of place = place.own.items

-- places with the words that they are given, and what stands after them
unfoldable pub written : (Place → List ℕ) → List Place → List ℕ → List ℕ
written says [] back = back
written says (place ∷ places) back = place.front.items ++ (says place ++ written says places back)

abbrev pub line_in : (Place → List ℕ) → Line → List ℕ
line_in says line = written says line.places.items line.back.items

-- all lines
unfoldable pub text_in : (Place → List ℕ) → List Line → List ℕ
text_in says [] = []
text_in says (line ∷ lines) = line_in says line ++ text_in says lines

-- ---- the words of a variant

-- which of its values a change has in the variant of this number
abbrev pub picked : Change → ℕ → ℕ
picked change number = (number / max change.every 1) % max (length change.words.items) 1

abbrev pub or_empty : Option (List ℕ) → List ℕ
or_empty None = []
or_empty (Some word) = word

abbrev pub words_of : Change → List (List ℕ)
words_of change = map (λ word. word.items) change.words.items

abbrev pub word_of : Change → ℕ → List ℕ
word_of change number = or_empty (slice_get (words_of change) (picked change number))

abbrev pub word_of_any : Option Change → ℕ → List ℕ
word_of_any None number = []
word_of_any (Some change) number = word_of change number

-- the word at a place in the variant of this number
abbrev pub word_at : List Change → ℕ → Place → List ℕ
word_at changes number place = word_of_any (slice_get changes place.change) number

-- ---- how many variants there are

-- each change keeps a value for as many variants as the changes after it have combinations, and together they have this many
unfoldable pub AreCounted : List Change → ℕ → Type 0
AreCounted [] count = count ≡ 1
AreCounted (change ∷ changes) count = (count ≡ length change.words.items * change.every) × AreCounted changes change.every

-- ---- the combinations

-- what the values of a variant read as on the odometer: each by its number, times for how many variants the change keeps a value
unfoldable pub read_off : List Change → ℕ → ℕ
read_off [] number = 0
read_off (change ∷ changes) number = picked change number * change.every + read_off changes number

-- the values of the variant of a number read as that number. So no two variants have the same values, and each combination is a variant's
abbrev pub EachCombinationOnce : Type 0
EachCombinationOnce = (changes : List Change) (count number : ℕ) → AreCounted changes count → number < count → read_off changes number ≡ number
