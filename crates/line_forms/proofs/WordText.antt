-- A fixed word is its own text and a field, and no name is one of the two words that end a route or stand for the plane.
use Rattle.std.proofs.Common.{◌≡◌, ℕ, true, false, not, ◌&&◌, nat_le, List, length, codes, refl}
use Rattle.std.proofs.lemmas.Bool.{and_parts, or_parts, not-true}
use Rattle.std.proofs.lemmas.Slice.Eq.{bytes_eq-Decides}
use Rattle.std.specs.Cmp.Lexicographic.{pointwise}
use Rattle.std.specs.Prelude.{nat_eq}
use Rattle.net_units.specs.Text.{begins_as_name, is_kept_word, is_name}
use Rattle.line_forms.specs.Fields.{is_field}
use Rattle.line_forms.specs.Words.{text_of, is_word, is_plane}
use Rattle.line_forms.specs.declared.word.Keyword.{Keyword}
use Rattle.line_forms.specs.declared.word.Keyword.TheVariants as word

-- the same bytes
pub same-bytes : (xs ys : List ℕ) → pointwise nat_eq xs ys ≡ true → xs ≡ ys
same-bytes xs ys e = (bytes_eq-Decides xs ys).0 e

-- a word is written and read as itself
pub record IsText (keyword : Keyword) : Type 0 where
  pub read : is_word keyword (text_of keyword) ≡ true
  pub field : is_field (text_of keyword) ≡ true

pub word-text : (keyword : Keyword) → IsText keyword
word-text word.Link = record { read = refl; field = refl }
word-text word.Group = record { read = refl; field = refl }
word-text word.Quota = record { read = refl; field = refl }
word-text word.Caller = record { read = refl; field = refl }
word-text word.Open = record { read = refl; field = refl }
word-text word.Send = record { read = refl; field = refl }
word-text word.Close = record { read = refl; field = refl }
word-text word.Pour = record { read = refl; field = refl }
word-text word.Move = record { read = refl; field = refl }
word-text word.Rounds = record { read = refl; field = refl }
word-text word.Tail = record { read = refl; field = refl }
word-text word.Schedule = record { read = refl; field = refl }
word-text word.Do = record { read = refl; field = refl }
word-text word.Rate = record { read = refl; field = refl }
word-text word.Cap = record { read = refl; field = refl }
word-text word.Prop = record { read = refl; field = refl }
word-text word.Buffer = record { read = refl; field = refl }
word-text word.Best = record { read = refl; field = refl }
word-text word.Levels = record { read = refl; field = refl }
word-text word.Route = record { read = refl; field = refl }
word-text word.Contract = record { read = refl; field = refl }
word-text word.Delay = record { read = refl; field = refl }
word-text word.Jitter = record { read = refl; field = refl }
word-text word.From = record { read = refl; field = refl }
word-text word.To = record { read = refl; field = refl }

-- a name is neither of the two words of the grammar
kept-no-name : (name : List ℕ) → is_name name ≡ true → (pointwise nat_eq name (codes "contract") ≡ false) × (pointwise nat_eq name (codes "plane") ≡ false)
kept-no-name name e =
    let kept = not-true (is_kept_word name) (and_parts (begins_as_name name && nat_le (length name) 16) (not (is_kept_word name)) e).1 in
    or_parts (pointwise nat_eq name (codes "contract")) (pointwise nat_eq name (codes "plane")) kept

pub name-no-end : (name : List ℕ) → is_name name ≡ true → is_word word.Contract name ≡ false
name-no-end name e = (kept-no-name name e).0

pub name-no-plane : (name : List ℕ) → is_name name ≡ true → is_plane name ≡ false
name-no-plane name e = (kept-no-name name e).1
