-- A name is text: each of its bytes is below 128.
use Rattle.std.proofs.Common.{◌≡◌, ℕ, zero, suc, ◌<◌, true, ◌&&◌, ◌||◌, not, List, [], ◌∷◌, length, eqb, leb, inl, inr, arith}
use Rattle.std.specs.Str.{IsAscii, IsUtf8}
use Rattle.std.specs.List.{list_all}
use Rattle.std.proofs.lemmas.Bool.{and_parts, or_cases, leb-true, eqb-true}
use Rattle.std.proofs.lemmas.Str.{IsUtf8-from_ascii}
use Rattle.net_units.specs.Text.{is_letter, is_digit, is_name_byte, begins_as_name, is_kept_word, is_name}
use Rattle.net_units.specs.Limits.{most_name}

letter-small : (b : ℕ) → is_letter b ≡ true → b < 128
letter-small b h =
    elim (or_cases (leb 65 b && leb b 90) (leb 97 b && leb b 122) h) [
      | inl upper ↦ omega (arith, leb-true b 90 (and_parts (leb 65 b) (leb b 90) upper).1)
      | inr lower ↦ omega (arith, leb-true b 122 (and_parts (leb 97 b) (leb b 122) lower).1)
    ]

plain-small : (b : ℕ) → (is_letter b || is_digit b) ≡ true → b < 128
plain-small b h =
    elim (or_cases (is_letter b) (is_digit b) h) [
      | inl letter ↦ letter-small b letter
      | inr digit ↦ omega (arith, leb-true b 57 (and_parts (leb 48 b) (leb b 57) digit).1)
    ]

name-byte-small : (b : ℕ) → is_name_byte b ≡ true → b < 128
name-byte-small b h =
    elim (or_cases (is_letter b || is_digit b) (eqb b 95) h) [
      | inl plain ↦ plain-small b plain
      | inr line ↦ omega (arith, eqb-true b 95 line)
    ]

rest-small : (bs : List ℕ) → list_all is_name_byte bs ≡ true → IsAscii bs
rest-small [] h i = omega arith
rest-small (b ∷ bs) h zero = name-byte-small b (and_parts (is_name_byte b) (list_all is_name_byte bs) h).0
rest-small (b ∷ bs) h (suc i) = rest-small bs (and_parts (is_name_byte b) (list_all is_name_byte bs) h).1 i

begun-small : (bs : List ℕ) → begins_as_name bs ≡ true → IsAscii bs
begun-small [] h i = omega arith
begun-small (b ∷ bs) h zero = letter-small b (and_parts (is_letter b) (list_all is_name_byte bs) h).0
begun-small (b ∷ bs) h (suc i) = rest-small bs (and_parts (is_letter b) (list_all is_name_byte bs) h).1 i

-- a name is text
pub name-is-text : (bs : List ℕ) → is_name bs ≡ true → IsUtf8 bs
name-is-text bs h =
    IsUtf8-from_ascii bs (begun-small bs (and_parts (begins_as_name bs) (leb (length bs) most_name) (and_parts (begins_as_name bs && leb (length bs) most_name) (not (is_kept_word bs)) h).0).0)
