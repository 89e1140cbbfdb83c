-- The names of a load are names, and those of two requests differ.
use Rattle.std.proofs.Common.{◌≡◌, ◌≢◌, ℕ, suc, ◌<◌, true, false, nat_eq, ◌||◌, List, [], ◌∷◌, length, drop, decimal, refl, sym, ap, inl, inr, arith}
use Rattle.std.proofs.lemmas.Bool.{cases_Bool, and_from, and_parts, or_left, or_right, le-leb}
use Rattle.std.proofs.lemmas.Fmt.{digits_decimal, decimal_injective, length-decimal-le}
use Rattle.std.proofs.lemmas.Str.Parse.{IsNumeralModel, numerals_by_value, tells_all_ascii_digits}
use Rattle.std.specs.Cmp.Lexicographic.{same_text}
use Rattle.std.specs.List.{list_all}
use Rattle.std.specs.Str.{all_ascii_digits}
use Rattle.std.specs.Str.Parse.{digits_value}
use Rattle.net_units.specs.Text.{is_letter, is_digit, is_name_byte, is_name}
use Rattle.call_script.specs.Rules.{is_named}
use Rattle.load_maker.specs.Made.{request_name}

digit-part : (c : ℕ) → is_digit c ≡ true → is_name_byte c ≡ true
digit-part c digit = or_left (is_letter c || is_digit c) (nat_eq c 95) (or_right (is_letter c) (is_digit c) digit)

digits-part : (ds : List ℕ) → all_ascii_digits ds ≡ true → list_all is_name_byte ds ≡ true
digits-part [] digits = refl
digits-part (d ∷ ds) digits = (let both = and_parts (is_digit d) (all_ascii_digits ds) digits in and_from (is_name_byte d) (list_all is_name_byte ds) (digit-part d both.0) (digits-part ds both.1))

numerals : IsNumeralModel (λ ds. all_ascii_digits ds ≡ true) (digits_value 10)
numerals = numerals_by_value _ tells_all_ascii_digits

pub request-name : (n : ℕ) → n < 1024 → is_name (request_name n) ≡ true
request-name n few =
    let digits = digits-part (decimal (suc n)) (digits_decimal numerals (suc n) (omega (arith, few))) in
    let short = length-decimal-le 10 (suc n) (omega arith) (omega (arith, few)) (omega (arith, few)) in
    rw (digits, le-leb (suc (length (decimal (suc n)))) 16 (omega (arith, short))) refl

pub names-apart : (a b : ℕ) → a < 1024 → b < 1024 → a ≢ b → is_named (request_name a) (request_name b) ≡ false
names-apart a b few_a few_b apart =
    elim (cases_Bool (is_named (request_name a) (request_name b))) [
      | inl same ↦ absurd (
          let texts = same_text (request_name b) (request_name a) (sym same) in
          let numbers : suc b ≡ suc a = decimal_injective (suc b) (suc a) (omega (arith, few_b)) (omega (arith, few_a)) (ap (drop 1) texts) in
          apart (omega (arith, numbers)))
      | inr other ↦ other
    ]
