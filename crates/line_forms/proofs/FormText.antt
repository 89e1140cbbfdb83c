-- What is known of the fields of a line that has a form: its next part takes some, and the rest has the rest of the form.
use Rattle.std.proofs.Common.{ℕ, suc, ◌≡◌, ◌≤◌, Bool, true, false, cond, ◌&&◌, nat_le, List, [], ◌∷◌, length, drop, get_or, ◌<◌, Some, None, refl, ap, arith}
use Rattle.std.proofs.lemmas.Bool.{leb-true, and_parts}
use Rattle.line_forms.specs.Forms.{route_length, fields_up_to, on_taken, has_form, are_single, ends_route, have_one_run, is_form}
use Rattle.line_forms.specs.Words.{is_word}
use Rattle.line_forms.specs.declared.form.Part.{Part}
use Rattle.line_forms.specs.declared.form.Part.TheVariants as part
use Rattle.line_forms.specs.declared.known.Set.{Set}
use Rattle.line_forms.specs.declared.slot.Slot.{Slot}
use Rattle.line_forms.specs.declared.word.Keyword.{Keyword}
use Rattle.line_forms.specs.declared.word.Keyword.TheVariants as word

-- one field is there, and the rest has the rest of the form
pub record HasNext (parts : List Part) (fields : List (List ℕ)) : Type 0 where
  pub some : 1 ≤ length fields
  pub rest : has_form parts (drop 1 fields) ≡ true

pub after-word : (keyword : Keyword) (parts : List Part) (fields : List (List ℕ)) → has_form (part.Word keyword ∷ parts) fields ≡ true → HasNext parts fields
after-word keyword parts [] e = cc
after-word keyword parts (f ∷ fields) e = by (is_word keyword f) e where
  by : (test : Bool) → on_taken (cond test (Some 1) None) (λ count. has_form parts (drop count (f ∷ fields))) ≡ true → HasNext parts (f ∷ fields)
  by true e = record { some = omega arith; rest = e }
  by false e = cc

pub after-one : (s : Slot) (parts : List Part) (fields : List (List ℕ)) → has_form (part.One s ∷ parts) fields ≡ true → HasNext parts fields
after-one s parts [] e = cc
after-one s parts (f ∷ fields) e = record { some = omega arith; rest = e }

-- so many fields are there, at least one and not too many, and the rest has the rest of the form
pub record HasRun (most count : ℕ) (parts : List Part) (fields : List (List ℕ)) : Type 0 where
  pub least : 1 ≤ count
  pub few : count ≤ most
  pub rest : has_form parts (drop count fields) ≡ true

after-many : (most count : ℕ) (parts : List Part) (fields : List (List ℕ)) → on_taken (fields_up_to most count) (λ taken. has_form parts (drop taken fields)) ≡ true → HasRun most count parts fields
after-many most count parts fields e = by (nat_le 1 count && nat_le count most) refl e where
  by : (test : Bool) → (nat_le 1 count && nat_le count most) ≡ test → on_taken (cond test (Some count) None) (λ taken. has_form parts (drop taken fields)) ≡ true → HasRun most count parts fields
  by true t e = (let p = and_parts (nat_le 1 count) (nat_le count most) t in record { least = leb-true 1 count p.0; few = leb-true count most p.1; rest = e })
  by false t e = cc

pub after-route : (of : Set) (parts : List Part) (fields : List (List ℕ)) → has_form (part.Route of ∷ parts) fields ≡ true → HasRun 16 (route_length fields) parts fields
after-route of parts fields e = after-many 16 (route_length fields) parts fields e

pub after-numbers : (low high : ℕ) (parts : List Part) (fields : List (List ℕ)) → has_form (part.Numbers low high ∷ parts) fields ≡ true → HasRun 8 (length fields) parts fields
after-numbers low high parts fields e = after-many 8 (length fields) parts fields e

-- a route is within the line
pub route-within : (fields : List (List ℕ)) → route_length fields ≤ length fields
route-within [] = omega arith
route-within (f ∷ fields) =
    let rest = route-within fields in
    elim (is_word word.Contract f) as (λ t. cond t 0 (suc (route_length fields)) ≤ suc (length fields)) [ true ↦ omega arith | false ↦ omega arith ]

-- ---- parts that take one field each

pub single-one-run : (parts : List Part) → are_single parts ≡ true → have_one_run parts ≡ true
single-one-run [] e = refl
single-one-run (part.Word keyword ∷ parts) e = single-one-run parts e
single-one-run (part.One s ∷ parts) e = single-one-run parts e
single-one-run (part.Route of ∷ parts) e = cc
single-one-run (part.Numbers low high ∷ parts) e = cc

-- what follows a route takes one field each
pub ended-single : (parts : List Part) → ends_route parts ≡ true → are_single parts ≡ true
ended-single (part.Word word.Contract ∷ parts) e = e
ended-single parts e = cc

-- ---- a form begins with a fixed word

pub begins-somehow : (form : List Part) → is_form form ≡ true → 0 < length form
begins-somehow [] e = cc
begins-somehow (p ∷ form) e = omega arith

pub record BeginsWithWord (p : Part) : Type 0 where
  pub word : Keyword
  pub is : p ≡ part.Word word

pub begins-with-word : (form : List Part) (other : Part) → is_form form ≡ true → BeginsWithWord (get_or form 0 other)
begins-with-word (part.Word keyword ∷ form) other e = record { word = keyword; is = refl }
begins-with-word form other e = cc

pub begun-by : (form : List Part) (keyword : Keyword) (other : Part) → is_form form ≡ true → get_or form 0 other ≡ part.Word keyword → form ≡ part.Word keyword ∷ drop 1 form
begun-by [] keyword other e is = cc
begun-by (p ∷ form) keyword other e is = ap (λ (q : Part). q ∷ form) is
