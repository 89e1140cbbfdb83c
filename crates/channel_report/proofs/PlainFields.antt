-- Fields that need no quotes, and the line that `csv` writes of them.
use Rattle.std.proofs.Common.{◌≡◌, ◌≢◌, ℕ, ◌<◌, ◌^◌, Option, Result, Ok, Err, OnOk, true, false, ◌&&◌, not, List, [], ◌∷◌, length, refl, sym, ap, ◌∙◌, append-nil, true≢false, arith, decimal, nat_le}
use Rattle.std.specs.List.{list_all}
use Rattle.std.specs.Result.{result_ok}
use Rattle.std.specs.Str.{all_ascii_digits}
use Rattle.std.specs.Str.Parse.{digits_value}
use Rattle.std.proofs.lemmas.Bool.{and_parts, ne_eqb}
use Rattle.std.proofs.lemmas.Fmt.{digits_decimal}
use Rattle.std.proofs.lemmas.Str.Parse.{IsNumeralModel, numerals_by_value, tells_all_ascii_digits}
use Rattle.net_units.specs.Text.{is_letter, is_name_byte, begins_as_name, is_kept_word, is_name}
use Rattle.csv.specs.Writing.{needs_byte, row_text, fields_text, is_blank}
use Rattle.channel_report.specs.Csv.{IsPlain, table_setup}
use Rattle.channel_report.specs.Table.{row_line}
use Rattle.std.proofs.lemmas.Option.{none-some}

plain-byte : (b : ℕ) → b ≢ 44 → b ≢ 34 → b ≢ 13 → b ≢ 10 → needs_byte table_setup b ≡ false
plain-byte b comma quote return feed = rw (ne_eqb b 44 comma, ne_eqb b 34 quote, ne_eqb b 13 return, ne_eqb b 10 feed) refl

plain-name-byte : (b : ℕ) → is_name_byte b ≡ true → needs_byte table_setup b ≡ false
plain-name-byte b named = plain-byte b (other 44 refl) (other 34 refl) (other 13 refl) (other 10 refl)
  where
    other : (n : ℕ) → is_name_byte n ≡ false → b ≢ n
    other n outside e = true≢false (sym named ∙ ap is_name_byte e ∙ outside)

plain-name-bytes : (bs : List ℕ) → list_all is_name_byte bs ≡ true → IsPlain bs
plain-name-bytes [] all = refl
plain-name-bytes (b ∷ bs) all =
    let parts = and_parts (is_name_byte b) (list_all is_name_byte bs) all in
    rw (plain-name-byte b parts.0, plain-name-bytes bs parts.1) refl

letter-in-name : (b : ℕ) → is_letter b ≡ true → is_name_byte b ≡ true
letter-in-name b letter = rw letter refl

plain-begun : (bs : List ℕ) → begins_as_name bs ≡ true → IsPlain bs
plain-begun [] begun = refl
plain-begun (b ∷ bs) begun =
    let parts = and_parts (is_letter b) (list_all is_name_byte bs) begun in
    rw (plain-name-byte b (letter-in-name b parts.0), plain-name-bytes bs parts.1) refl

-- a name needs no quotes
pub plain-name : (bs : List ℕ) → is_name bs ≡ true → IsPlain bs
plain-name bs named =
    let parts = and_parts (begins_as_name bs && nat_le (length bs) 16) (not (is_kept_word bs)) named in
    plain-begun bs (and_parts (begins_as_name bs) (nat_le (length bs) 16) parts.0).0

numerals : IsNumeralModel (λ digits. all_ascii_digits digits ≡ true) (digits_value 10)
numerals = numerals_by_value _ tells_all_ascii_digits

plain-digits : (bs : List ℕ) → all_ascii_digits bs ≡ true → IsPlain bs
plain-digits [] all = refl
plain-digits (b ∷ bs) all =
    let parts = tells_all_ascii_digits.parts b bs all in
    rw (plain-byte b (λ e. omega (arith, e, parts.0.0)) (λ e. omega (arith, e, parts.0.0)) (λ e. omega (arith, e, parts.0.0)) (λ e. omega (arith, e, parts.0.0)), plain-digits bs parts.1) refl

pub ruleset plain_names = (plain-name)

-- nor does a number
pub plain-number : (n : ℕ) → n < 2 ^ 64 → IsPlain (decimal n)
plain-number n fits = plain-digits (decimal n) (digits_decimal numerals n fits)

-- what is written of eight such fields
pub plain-row : (a b c d e f g h : List ℕ) → IsPlain a → IsPlain b → IsPlain c → IsPlain d → IsPlain e → IsPlain f → IsPlain g → IsPlain h → row_text table_setup (a ∷ b ∷ c ∷ d ∷ e ∷ f ∷ g ∷ h ∷ []) ≡ row_line (a ∷ b ∷ c ∷ d ∷ e ∷ f ∷ g ∷ h ∷ [])
unfolding fields_text is_blank
plain-row a b c d e f g h pa pb pc pd pe pf pg ph = rw (pa, pb, pc, pd, pe, pf, pg, ph, append-nil h) refl

-- an answer that lost its error says what it said on `Ok`
pub without-error : {T E F : Type 0} {P Q : Type 0} (answer : Result T E) (value : Option T) (told : Result T F) → OnOk answer P → value ≡ result_ok answer → value ≡ result_ok told → (P → Q) → OnOk told Q
without-error (Ok x) value (Ok y) own was is more = more own
without-error (Ok x) value (Err e) own was is more = tt
without-error (Err x) value (Ok y) own was is more = absurd (none-some y (sym was ∙ is))
without-error (Err x) value (Err e) own was is more = tt
