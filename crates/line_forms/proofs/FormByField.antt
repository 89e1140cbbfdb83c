-- One field that a form takes, and a form at its end.
use Rattle.std.proofs.Common.{◌≡◌, ℕ, suc, ◌-◌, ◌≤◌, true, cond, eqb, ltb, List, [], ◌∷◌, Some, None, length, drop, refl, sym, ◌∙◌, inl, inr, arith, length-drop}
use Rattle.std.proofs.lemmas.List.{drop_all}
use Rattle.std.proofs.lemmas.Bool.{lt-ltb, ne_eqb, eq-eqb, cases_eq}
use Rattle.line_forms.specs.Forms.{one_field, has_form}
use Rattle.line_forms.specs.declared.form.Part.{Part}

-- where one field is taken, there is one
pub one-left : (fields : List (List ℕ)) → one_field (λ field. true) fields ≡ cond (ltb 0 (length fields)) (Some 1) None
one-left [] = refl
one-left (f ∷ fields) = rw (lt-ltb 0 (suc (length fields)) (omega arith)) refl

-- a form at its end wants no field
pub form-ends : (fields : List (List ℕ)) → has_form [] fields ≡ eqb (length fields) 0
form-ends [] = refl
form-ends (f ∷ fields) = sym (ne_eqb (suc (length fields)) 0 (omega arith))

-- after the whole form, the fields have to be at their end too
pub form-at-end : (form : List Part) (fields : List (List ℕ)) (i place : ℕ) → length form ≤ i → place ≤ length fields → has_form (drop i form) (drop place fields) ≡ eqb place (length fields)
form-at-end form fields i place h k =
    rw (drop_all i form h) (form-ends (drop place fields) ∙ same-test (length (drop place fields)) place (length fields) (length-drop place fields) k)
  where
    same-test : (left place count : ℕ) → left ≡ count - place → place ≤ count → eqb left 0 ≡ eqb place count
    same-test left place count e k =
        elim (cases_eq place count) [
          | inl same ↦ eq-eqb left 0 (omega arith) ∙ sym (eq-eqb place count same)
          | inr other ↦ ne_eqb left 0 (omega arith) ∙ sym (ne_eqb place count other)
        ]
