-- What the digits of a number stand for, digit by digit.
use Rattle.std.proofs.Common.{◌≡◌, ℕ, ◌+◌, ◌-◌, ◌*◌, ◌^◌, ◌<◌, ◌≤◌, true, ◌&&◌, List, [], ◌∷◌, length, get_or, take, refl, ◌∙◌, ap, arith}
use Rattle.std.specs.Char.{digit_value, is_ascii_digit}
use Rattle.std.specs.Int.{IsInRange}
use Rattle.std.specs.List.{list_all}
use Rattle.std.specs.Str.{all_ascii_digits}
use Rattle.std.specs.Str.Parse.{digits_value}
use Rattle.std.proofs.lemmas.Int.Digits.{digits_value_more}
use Rattle.std.proofs.lemmas.Str.{digit_value_digit}
use Rattle.std.proofs.lemmas.Str.Parse.{IsNumeralModel, numerals_by_value, tells_all_ascii_digits, digit_at, digits_value-take-le, digits_value_short}

-- a text of digits, and the number that it stands for, in the words of the library
pub numerals : IsNumeralModel (λ ds. all_ascii_digits ds ≡ true) (digits_value 10)
numerals = numerals_by_value _ tells_all_ascii_digits

-- the test of each byte is the test of the text
pub all-digits : (bs : List ℕ) → list_all is_ascii_digit bs ≡ all_ascii_digits bs
all-digits [] = refl
all-digits (b ∷ bs) = ap (λ t. is_ascii_digit b && t) (all-digits bs)

-- a byte of a text of digits is a digit
pub digit-in : (bs : List ℕ) (i : ℕ) → all_ascii_digits bs ≡ true → i < length bs → IsInRange 48 57 (get_or bs i 0)
digit-in bs i d h = digit_at bs i (numerals.to bs d) h

-- one digit more makes ten times the value, and the digit
pub value-more : (bs : List ℕ) (i : ℕ) → all_ascii_digits bs ≡ true → i < length bs → digits_value 10 (take (i + 1) bs) ≡ digits_value 10 (take i bs) * 10 + (get_or bs i 0 - 48)
value-more bs i d h =
    let digit : digit_value (get_or bs i 0) + 48 ≡ get_or bs i 0 = digit_value_digit (get_or bs i 0) (digit-in bs i d h) in
    digits_value_more 10 bs i h ∙ ap (λ v. digits_value 10 (take i bs) * 10 + v) (omega arith)

-- up to 18 digits stand for less than 10 ^ 18
pub value-below : (bs : List ℕ) → all_ascii_digits bs ≡ true → length bs ≤ 18 → digits_value 10 bs < 10 ^ 18
value-below bs d h = digits_value_short numerals bs 18 d h

-- and so does each prefix of them
pub value-so-far : (bs : List ℕ) (i : ℕ) → all_ascii_digits bs ≡ true → length bs ≤ 18 → digits_value 10 (take i bs) < 10 ^ 18
value-so-far bs i d h =
    omega (arith, value-below bs d h, digits_value-take-le 10 bs i (omega arith))
