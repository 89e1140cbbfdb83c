-- Each byte of a text is read back, and none is written that ends the text's place.
use Rattle.std.proofs.Common.{◌≡◌, ◌++◌, [], ◌∷◌, ◌∙◌, ℕ, false, List, Some, None, inl, inr, ap, sym, subst, refl, rules, cond, nat_eq}
use Rattle.std.specs.List.{All}
use Rattle.std.proofs.lemmas.Bool.{cases_Bool, cond-false, eqb-true}
use Rattle.svg_charts.specs.Escapes.{is_mark, escaped_byte, escaped, before, read_on, text_read}

-- what holds of the five bytes that have an entity, and of every other, holds of all
by-byte : (P : ℕ → Type 0) → P 60 → P 62 → P 34 → P 39 → P 38
    → ((byte : ℕ) → nat_eq byte 60 ≡ false → nat_eq byte 62 ≡ false → nat_eq byte 34 ≡ false → nat_eq byte 39 ≡ false → nat_eq byte 38 ≡ false → P byte)
    → (byte : ℕ) → P byte
by-byte P less more quote tick amp plain byte =
    elim (cases_Bool (nat_eq byte 60)) [
      | inl e ↦ subst P (sym (eqb-true byte 60 e)) less
      | inr a ↦ elim (cases_Bool (nat_eq byte 62)) [
        | inl e ↦ subst P (sym (eqb-true byte 62 e)) more
        | inr b ↦ elim (cases_Bool (nat_eq byte 34)) [
          | inl e ↦ subst P (sym (eqb-true byte 34 e)) quote
          | inr c ↦ elim (cases_Bool (nat_eq byte 39)) [
            | inl e ↦ subst P (sym (eqb-true byte 39 e)) tick
            | inr d ↦ elim (cases_Bool (nat_eq byte 38)) [
              | inl e ↦ subst P (sym (eqb-true byte 38 e)) amp
              | inr f ↦ plain byte a b c d f
            ]
          ]
        ]
      ]
    ]

-- every other byte stands for itself
written-plain : (byte : ℕ) → nat_eq byte 60 ≡ false → nat_eq byte 62 ≡ false → nat_eq byte 34 ≡ false → nat_eq byte 39 ≡ false → nat_eq byte 38 ≡ false → escaped_byte byte ≡ byte ∷ []
written-plain byte a b c d f = rw (a, b, c, d, f) refl

plain-is-inert : (byte : ℕ) → nat_eq byte 60 ≡ false → nat_eq byte 62 ≡ false → nat_eq byte 34 ≡ false → nat_eq byte 39 ≡ false → is_mark byte ≡ false
plain-is-inert byte a b c d = rw (a, b, c, d) refl

-- a byte that begins no entity, and is neither a sign nor a quote, is read as itself
read-plain : (byte : ℕ) (rest : List ℕ) → nat_eq byte 38 ≡ false → is_mark byte ≡ false → read_on None (byte ∷ rest) ≡ before byte (read_on None rest)
unfolding read_on
read-plain byte rest f m =
    cond-false (nat_eq byte 38) (read_on (Some []) rest) (cond (is_mark byte) None (before byte (read_on None rest))) f
    ∙ cond-false (is_mark byte) None (before byte (read_on None rest)) m

-- what is written for a byte is read as that byte, whatever follows
read-byte : (rest : List ℕ) (byte : ℕ) → read_on None (escaped_byte byte ++ rest) ≡ before byte (read_on None rest)
unfolding read_on
read-byte rest =
    by-byte (λ byte. read_on None (escaped_byte byte ++ rest) ≡ before byte (read_on None rest)) refl refl refl refl refl
    (λ byte a b c d f. ap (λ front. read_on None (front ++ rest)) (written-plain byte a b c d f) ∙ read-plain byte rest f (plain-is-inert byte a b c d))

-- what is written for a text is read as that text
pub read-back : (text : List ℕ) → text_read (escaped text) ≡ Some text
unfolding read_on
read-back [] = refl
read-back (byte ∷ text) = read-byte (escaped text) byte ∙ ap (before byte) (read-back text)

-- nothing that is written for a byte ends the place of a text
inert-byte : (byte : ℕ) → All (λ b. is_mark b ≡ false) (escaped_byte byte)
inert-byte =
    by-byte (λ byte. All (λ b. is_mark b ≡ false) (escaped_byte byte)) (search rules) (search rules) (search rules) (search rules) (search rules)
    (λ byte a b c d f. subst (All (λ b. is_mark b ≡ false)) (sym (written-plain byte a b c d f)) (search (rules, plain-is-inert byte a b c d)))

pub inert : (text : List ℕ) → All (λ byte. is_mark byte ≡ false) (escaped text)
inert [] = search rules
inert (byte ∷ text) = search (rules, inert-byte byte, inert text)
