-- A line is cut into its parts: each goes into the cell of its place, where there is one, and the cells then hold the first parts.
use Rattle.std.proofs.Common.{◌≡◌, ◌≤◌, ◌&&◌, Bor, Bool, true, false, ℕ, zero, suc, List, [], ◌∷◌, ◌++◌, Option, None, length, get_or, map, set, refl, sym, ap, subst₂, ◌∙◌, inl, inr, arith, length-set}
use Rattle.std.proofs.lemmas.Bool.{cases_eq}
use Rattle.std.proofs.lemmas.Grind.{get_or-set_at}
use Rattle.std.proofs.lemmas.List.{get_or-set_other, get_or_push, length-map, map-append, map-set, set_past}
use Rattle.std.proofs.lemmas.Iterator.{YieldsList}
use Rattle.std.proofs.lemmas.Iterator.Consumers.{YieldsList-end}
use Rattle.std.proofs.lemmas.List.Folds.{list_all-append}
use Rattle.std.specs.Iterator.{Yields}
use Rattle.line_forms.specs.FieldCells.{AreAtHand}
use Rattle.line_forms.specs.Fields.{is_field, are_fields}

-- the bytes of a part
abbrev pub bytes : Bor (List ℕ) → List ℕ
bytes part = part.now

-- a part is put into a cell, or past the last one
pub put_there : (cells : List (Bor (List ℕ))) (place : ℕ) (part : Bor (List ℕ)) → map bytes (set cells place part) ≡ set (map bytes cells) place part.now
put_there cells place part = map-set bytes cells place part

pub put_past : (cells : List (Bor (List ℕ))) (place : ℕ) (part : List ℕ) → length cells ≤ place → map bytes cells ≡ set (map bytes cells) place part
put_past cells place part past = sym (set_past (map bytes cells) place part (omega (arith, length-map cells bytes, past)))

-- before the first part there is nothing in any cell
abbrev pub are_blank : List (List ℕ) → Bool
are_blank [] = true
are_blank ([] ∷ cells) = are_blank cells
are_blank ((b ∷ bs) ∷ cells) = false

blank-at : (cells : List (List ℕ)) → are_blank cells ≡ true → (place : ℕ) → get_or cells place [] ≡ get_or [] place []
blank-at [] blank place = refl
blank-at ([] ∷ cells) blank zero = refl
blank-at ([] ∷ cells) blank (suc place) = blank-at cells blank place
blank-at ((b ∷ bs) ∷ cells) blank place = cc

pub none-cut : (cells : List (List ℕ)) → length cells ≡ 32 → are_blank cells ≡ true → AreAtHand cells []
none-cut cells room blank = record { room = room; same = λ place few. blank-at cells blank place }

-- one more part changes no other place
unpushed : (fields : List (List ℕ)) (field : List ℕ) (place : ℕ) → (place ≡ length fields → ⊥) → get_or (fields ++ field ∷ []) place [] ≡ get_or fields place []
unpushed [] field zero other = absurd (other refl)
unpushed [] field (suc place) other = refl
unpushed (f ∷ fields) field zero other = refl
unpushed (f ∷ fields) field (suc place) other = unpushed fields field place (λ same. other (ap suc same))

-- one more part goes into the cell of its place
one-more : (cells fields : List (List ℕ)) (field : List ℕ) → AreAtHand cells fields → AreAtHand (set cells (length fields) field) (fields ++ field ∷ [])
one-more cells fields field at = record {
  room = length-set cells (length fields) field ∙ at.room;
  same = λ place few. elim (cases_eq place (length fields)) [
    | inl here ↦ get_or-set_at cells (length fields) place field [] here (omega (arith, at.room, here, few)) ∙ sym (get_or_push fields field [] place (sym here))
    | inr other ↦ get_or-set_other cells (length fields) place field [] other ∙ at.same place few ∙ sym (unpushed fields field place other)
  ];
}

pub cut-on : (now before : List (List ℕ)) (place : ℕ) (parts : List (Bor (List ℕ))) (part : Bor (List ℕ)) → AreAtHand before (map bytes parts) → place ≡ length parts → now ≡ set before place part.now
    → AreAtHand now (map bytes (parts ++ part ∷ []))
cut-on now before place parts part at count is =
    subst₂ AreAtHand (sym (is ∙ ap (λ (n : ℕ). set before n part.now) (count ∙ sym (length-map parts bytes)))) (sym (map-append bytes parts (part ∷ []))) (one-more before (map bytes parts) part.now at)

-- at the end of a road, what it has yielded is all of it
pub whole-road : {S A B : Type 0} {steps : S → Option A → S → Type 0} {v : A → B} {s : S} {all : List B} (xs : List A) (t : S) → Yields steps s xs t → (r : Option A) (u : S) → r ≡ None → steps t r u → YieldsList steps v s all → (map v xs ≡ all) × (length xs ≡ length all)
whole-road xs t yielded r u none stepped road = YieldsList-end road xs t yielded r u none stepped

-- with one more part, each is a field where each was, and this one is
and-last : (so_far last : Bool) → (so_far && (last && true)) ≡ (so_far && last)
and-last true true = refl
and-last true false = refl
and-last false last = refl

pub written-on : (parts : List (Bor (List ℕ))) (part : Bor (List ℕ)) → are_fields (map bytes (parts ++ part ∷ [])) ≡ (are_fields (map bytes parts) && is_field part.now)
written-on parts part =
    ap are_fields (map-append bytes parts (part ∷ [])) ∙ list_all-append is_field (map bytes parts) (part.now ∷ []) ∙ and-last (are_fields (map bytes parts)) (is_field part.now)
