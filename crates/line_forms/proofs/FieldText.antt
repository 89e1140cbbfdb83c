-- A line of fields gives those fields back, and has no line feed; and the words, names and numbers of a plan are
-- fields.
use Rattle.std.proofs.Common.{◌≡◌, ◌≢◌, ℕ, ◌^◌, ◌<◌, Bool, true, false, not, ◌&&◌, nat_eq, nat_le, List, [], ◌∷◌, length, All, decimal, refl, ◌∙◌, ap, arith}
use Rattle.std.proofs.lemmas.Bool.{leb-true, ne_eqb, and_parts, and_from, not_from_false}
use Rattle.std.proofs.lemmas.Bool.Decides.{nat_tests}
use Rattle.std.proofs.lemmas.Fmt.{digits_decimal, decimal_nonempty}
use Rattle.std.proofs.lemmas.List.Elements.{All-nil, All-cons, All-append}
use Rattle.std.proofs.lemmas.List.Splits.{slice_split_none, slice_split_at}
use Rattle.std.specs.Char.{is_ascii_digit}
use Rattle.std.specs.List.{list_all}
use Rattle.std.specs.Str.{all_ascii_digits}
use Rattle.byte_ends.specs.Cutting.{HasNoFeed}
use Rattle.byte_ends.specs.WholeLines.{feed}
use Rattle.net_units.specs.Text.{is_letter, is_name_byte, begins_as_name, is_kept_word, is_name}
use Rattle.line_forms.specs.Fields.{is_space, fields_of, line_of, is_graphic, is_field, are_fields}
use Rattle.line_forms.proofs.DecimalDigits.{numerals, all-digits}

-- a byte of a field is none below 33
graphic-apart : (b c : ℕ) → c < 33 → is_graphic b ≡ true → b ≢ c
graphic-apart b c low g e =
    let least = leb-true 33 b (and_parts (nat_le 33 b) (nat_le b 126) g).0 in
    omega arith

-- what a test says of a byte holds of each
all-from : (P : ℕ → Type 0) (p : ℕ → Bool) → ((b : ℕ) → p b ≡ true → P b) → (bs : List ℕ) → list_all p bs ≡ true → All P bs
all-from P p f [] e = All-nil P
all-from P p f (b ∷ bs) e =
    let q = and_parts (p b) (list_all p bs) e in
    All-cons P b bs (f b q.0) (all-from P p f bs q.1)

-- the bytes of a field
field-bytes : (field : List ℕ) → is_field field ≡ true → list_all is_graphic field ≡ true
field-bytes field e = (and_parts (not (nat_eq (length field) 0)) (list_all is_graphic field) e).1

-- a field has no space
no-space : (field : List ℕ) → is_field field ≡ true → All (λ b. is_space b ≡ false) field
no-space field e = all-from (λ b. is_space b ≡ false) is_graphic (λ b g. ne_eqb b 32 (graphic-apart b 32 (omega arith) g)) field (field-bytes field e)

-- the parts of a line of fields are those fields
pub fields-back : (field : List ℕ) (fields : List (List ℕ)) → are_fields (field ∷ fields) ≡ true → fields_of (line_of (field ∷ fields)) ≡ field ∷ fields
fields-back field [] e = slice_split_none is_space field (no-space field (and_parts (is_field field) true e).0)
fields-back field (next ∷ fields) e =
    let p = and_parts (is_field field) (are_fields (next ∷ fields)) e in
    slice_split_at is_space field 32 (line_of (next ∷ fields)) (no-space field p.0) refl ∙ ap (λ rest. field ∷ rest) (fields-back next fields p.1)

-- a field has no line feed
field-no-feed : (field : List ℕ) → is_field field ≡ true → HasNoFeed field
field-no-feed field e = all-from (λ b. b ≢ feed) is_graphic (λ b g. graphic-apart b 10 (omega arith) g) field (field-bytes field e)

-- a line of fields has no line feed
pub line-no-feed : (fields : List (List ℕ)) → are_fields fields ≡ true → HasNoFeed (line_of fields)
line-no-feed [] e = All-nil (λ b. b ≢ feed)
line-no-feed (field ∷ []) e = field-no-feed field (and_parts (is_field field) true e).0
line-no-feed (field ∷ next ∷ fields) e =
    let p = and_parts (is_field field) (are_fields (next ∷ fields)) e in
    let space : 32 ≢ feed = λ s. absurd (omega arith) in
    All-append (λ b. b ≢ feed) field (32 ∷ line_of (next ∷ fields)) (field-no-feed field p.0) (All-cons (λ b. b ≢ feed) 32 (line_of (next ∷ fields)) space (line-no-feed (next ∷ fields) p.1))

-- a letter may stand in a field
letter-graphic : (b : ℕ) → is_letter b ≡ true → is_graphic b ≡ true
letter-graphic b e = grind (arith, nat_tests)

-- and so may a byte of a name
name-byte-graphic : (b : ℕ) → is_name_byte b ≡ true → is_graphic b ≡ true
name-byte-graphic b e = grind (arith, nat_tests)

-- and so may a digit
digit-graphic : (b : ℕ) → is_ascii_digit b ≡ true → is_graphic b ≡ true
digit-graphic b e = grind (arith, nat_tests)

-- and so may all bytes of a kind that may
all-graphic : (p : ℕ → Bool) → ((b : ℕ) → p b ≡ true → is_graphic b ≡ true) → (bs : List ℕ) → list_all p bs ≡ true → list_all is_graphic bs ≡ true
all-graphic p f [] e = refl
all-graphic p f (b ∷ bs) e =
    let q = and_parts (p b) (list_all p bs) e in
    and_from (is_graphic b) (list_all is_graphic bs) (f b q.0) (all-graphic p f bs q.1)

-- bytes that are some
not-empty : (bs : List ℕ) → 0 < length bs → not (nat_eq (length bs) 0) ≡ true
not-empty bs some = not_from_false (nat_eq (length bs) 0) (ne_eqb (length bs) 0 (λ e. omega arith))

-- what begins as a name is a field
begun-name : (bs : List ℕ) → begins_as_name bs ≡ true → is_field bs ≡ true
begun-name [] e = cc
begun-name (b ∷ bs) e =
    let p = and_parts (is_letter b) (list_all is_name_byte bs) e in
    and_from _ (list_all is_graphic (b ∷ bs)) (not-empty (b ∷ bs) (omega arith))
    (and_from (is_graphic b) (list_all is_graphic bs) (letter-graphic b p.0) (all-graphic is_name_byte name-byte-graphic bs p.1))

-- a name is a field
pub name-field : (bs : List ℕ) → is_name bs ≡ true → is_field bs ≡ true
name-field bs e =
    let p = and_parts (begins_as_name bs && nat_le (length bs) 16) (not (is_kept_word bs)) e in
    begun-name bs (and_parts (begins_as_name bs) (nat_le (length bs) 16) p.0).0

-- digits may stand in a field
all-digits-graphic : (bs : List ℕ) → all_ascii_digits bs ≡ true → list_all is_graphic bs ≡ true
all-digits-graphic bs e = all-graphic is_ascii_digit digit-graphic bs (all-digits bs ∙ e)

-- a decimal form is a field
pub number-field : (n : ℕ) → n < 2 ^ 64 → is_field (decimal n) ≡ true
number-field n h = and_from (not (nat_eq (length (decimal n)) 0)) (list_all is_graphic (decimal n)) (not-empty (decimal n) (decimal_nonempty n h)) (all-digits-graphic (decimal n) (digits_decimal numerals n h))
