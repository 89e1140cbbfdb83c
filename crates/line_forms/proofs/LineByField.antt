-- A line is written field by field.
use Rattle.std.proofs.Common.{◌≡◌, ℕ, List, [], ◌∷◌, ◌++◌, sym, ap, ◌∙◌, append_assoc}
use Rattle.std.proofs.lemmas.Grind.{flat_map-append}
use Rattle.std.proofs.lemmas.List.{append-nil}
use Rattle.text_writer.specs.Lines.{whole_line}
use Rattle.line_forms.specs.Fields.{line_of, spaced}

pub spaced-append : (xs ys : List (List ℕ)) → spaced (xs ++ ys) ≡ spaced xs ++ spaced ys
spaced-append xs ys = flat_map-append (λ (field : List ℕ). 32 ∷ field) xs ys

-- the first field, and then the others each after a space
line-of-fields : (field : List ℕ) (fields : List (List ℕ)) → line_of (field ∷ fields) ≡ field ++ spaced fields
line-of-fields field [] = sym (append-nil field)
line-of-fields field (next ∷ fields) = ap (λ (rest : List ℕ). field ++ 32 ∷ rest) (line-of-fields next fields)

pub whole-line : (field : List ℕ) (fields : List (List ℕ)) → (field ++ spaced fields) ++ 10 ∷ [] ≡ whole_line (field ∷ fields)
whole-line field fields = ap (λ (line : List ℕ). line ++ 10 ∷ []) (sym (line-of-fields field fields))

-- with the next fields, what is left comes to the same line
pub fields-on : (before after : List ℕ) (next rest : List (List ℕ)) → after ≡ before ++ spaced next → before ++ spaced (next ++ rest) ≡ after ++ spaced rest
fields-on before after next rest is =
    ap (λ (more : List ℕ). before ++ more) (spaced-append next rest) ∙ sym (append_assoc before (spaced next) (spaced rest)) ∙ ap (λ (line : List ℕ). line ++ spaced rest) (sym is)
