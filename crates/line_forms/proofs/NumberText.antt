-- A number's decimal form is a number, which stands for it.
use Rattle.std.proofs.Common.{◌≡◌, ℕ, ◌^◌, ◌<◌, ◌≤◌, ◌⊎◌, true, not, ◌&&◌, ◌||◌, nat_eq, nat_le, length, get_or, decimal, ap, arith, inl, inr}
use Rattle.std.proofs.lemmas.Bool.{le-leb, eq-eqb, ne_eqb, and_from, or_left, or_right, not_from_false, cases_lt}
use Rattle.std.proofs.lemmas.Fmt.{digits_decimal, digits_value-decimal, decimal_nonempty, decimal_digit, first_decimal, length-decimal-le}
use Rattle.std.specs.Str.{all_ascii_digits}
use Rattle.line_forms.specs.Decimal.{is_number, value_of}
use Rattle.line_forms.proofs.DecimalDigits.{numerals}

-- a decimal form of up to 18 digits is a number
pub is_number-decimal : (n : ℕ) → n < 10 ^ 18 → is_number (decimal n) ≡ true
is_number-decimal n h =
    let few : n < 2 ^ 64 = omega arith in
    let most = length-decimal-le 18 n (omega arith) h few in
    and_from (all_ascii_digits (decimal n) && nat_le 1 (length (decimal n)) && nat_le (length (decimal n)) 18) (nat_eq (length (decimal n)) 1 || not (nat_eq (get_or (decimal n) 0 0) 48))
    (and_from (all_ascii_digits (decimal n) && nat_le 1 (length (decimal n))) (nat_le (length (decimal n)) 18)
    (and_from (all_ascii_digits (decimal n)) (nat_le 1 (length (decimal n))) (digits_decimal numerals n few) (le-leb 1 (length (decimal n)) (decimal_nonempty n few)))
    (le-leb (length (decimal n)) 18 most))
    (front (cases_lt n 10))
  where
    front : (n < 10) ⊎ (10 ≤ n) → (nat_eq (length (decimal n)) 1 || not (nat_eq (get_or (decimal n) 0 0) 48)) ≡ true
    front (inl one) = or_left _ (not (nat_eq (get_or (decimal n) 0 0) 48)) (eq-eqb (length (decimal n)) 1 (ap length (decimal_digit n one)))
    front (inr more) =
        let above = first_decimal n (omega arith) (omega arith) in
        or_right (nat_eq (length (decimal n)) 1) _ (not_from_false (nat_eq (get_or (decimal n) 0 0) 48) (ne_eqb (get_or (decimal n) 0 0) 48 (λ e. omega arith)))

-- the value of a decimal form
pub value-decimal : (n : ℕ) → n < 2 ^ 64 → value_of (decimal n) ≡ n
value-decimal n h = digits_value-decimal numerals n h
