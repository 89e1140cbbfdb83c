-- A reader of CSV goes through a line of plain bytes in one field after another, and ends the record at the line feed.
use Rattle.std.proofs.Common.{◌≡◌, ◌==◌, ◌++◌, ◌∷◌, ◌∙◌, [], ℕ, List, Bool, Some, length, not, nat_eq, nat_le, refl, ap, true, false, arith, append_assoc, inl, inr}
use Rattle.std.proofs.lemmas.Bool.{and_parts, cases_Bool, leb-true, ne_eqb}
use Rattle.std.proofs.lemmas.List.{append-nil}
use Rattle.std.proofs.lemmas.List.Splits.{slice_split-cons_yes, slice_split-cons_no}
use Rattle.std.specs.List.{list_all, slice_split, onto_first}
use Rattle.csv.specs.Machine.{next_record}
use Rattle.csv.specs.Reading.{default_config}
use Rattle.csv.specs.declared.parser.State.TheVariants as st
use Rattle.scenario_reader.specs.AuditRows.{is_plain, is_comma}
use Rattle.scenario_reader.specs.CsvRows.{CsvReadsRows}
use Rattle.scenario_reader.specs.Fields.{is_graphic}

-- the bytes of the field at hand, in front of the first part
abbrev onto_field : List ℕ → List (List ℕ) → List (List ℕ)
onto_field field [] = field ∷ []
onto_field field (part ∷ parts) = (field ++ part) ∷ parts

one-more : (field : List ℕ) (b : ℕ) (parts : List (List ℕ)) → onto_field (field ++ b ∷ []) parts ≡ onto_field field (onto_first b parts)
one-more field b [] = refl
one-more field b (part ∷ parts) = ap (λ (f : List ℕ). f ∷ parts) (append_assoc field (b ∷ []) part)

-- a line has a first part
onto-none : (line : List ℕ) → onto_field [] (slice_split is_comma line) ≡ slice_split is_comma line
onto-none [] = refl
onto-none (b ∷ line) = elim (cases_Bool (is_comma b)) [
  | inl comma ↦ rw (slice_split-cons_yes is_comma b line comma) refl
  | inr part ↦ rw (slice_split-cons_no is_comma b line part) (first b (slice_split is_comma line))
]
  where
    first : (b : ℕ) (parts : List (List ℕ)) → onto_field [] (onto_first b parts) ≡ onto_first b parts
    first b [] = refl
    first b (part ∷ parts) = refl

-- a plain byte is no mark of the format but the comma
plain-marks : (b : ℕ) → is_plain b ≡ true → ((b == 34) ≡ false) × ((b == 13) ≡ false) × ((b == 10) ≡ false)
plain-marks b plain =
    let both = and_parts (is_graphic b) (not (nat_eq b 34)) plain in
    let low = leb-true 33 b (and_parts (nat_le 33 b) (nat_le b 126) both.0).0 in
    (flip (nat_eq b 34) both.1, ne_eqb b 13 (λ e. omega arith), ne_eqb b 10 (λ e. omega arith))
  where
    flip : (test : Bool) → not test ≡ true → test ≡ false
    flip true e = cc
    flip false e = refl

-- the rest of a field, the other fields, and the line feed
plain-run : (line rest : List ℕ) (fields : List (List ℕ)) (field : List ℕ) → list_all is_plain line ≡ true
    → (next_record default_config st.InField fields field (line ++ 10 ∷ rest) ≡ Some (fields ++ onto_field field (slice_split is_comma line), st.StartRecord, rest))
    × (next_record default_config st.StartField fields field (line ++ 10 ∷ rest) ≡ Some (fields ++ onto_field field (slice_split is_comma line), st.StartRecord, rest))
unfolding next_record
plain-run [] rest fields field plain = rw (append-nil field) (refl, refl)
plain-run (b ∷ line) rest fields field plain =
    let both = and_parts (is_plain b) (list_all is_plain line) plain in
    let marks = plain-marks b both.0 in
    elim (cases_Bool (nat_eq b 44)) [
      | inl comma ↦ (
          let after = (plain-run line rest (fields ++ field ∷ []) [] both.1).1
          ∙ ap (λ (fs : List (List ℕ)). Some (fs, st.StartRecord, rest)) (append_assoc fields (field ∷ []) (onto_field [] (slice_split is_comma line)) ∙ ap (λ (ps : List (List ℕ)). fields ++ field ∷ ps) (onto-none line)) in
          rw (slice_split-cons_yes is_comma b line comma, append-nil field, marks.0, marks.1, marks.2, comma) (after, after))
      | inr part ↦ (
          let after = (plain-run line rest fields (field ++ b ∷ []) both.1).0
          ∙ ap (λ (ps : List (List ℕ)). Some (fields ++ ps, st.StartRecord, rest)) (one-more field b (slice_split is_comma line)) in
          rw (slice_split-cons_no is_comma b line part, marks.0, marks.1, marks.2, part) (after, after))
    ]

-- a byte that ends no line begins a field where it begins a record
same-start : (b : ℕ) (rest : List ℕ) → (b == 13) ≡ false → (b == 10) ≡ false
    → next_record default_config st.StartRecord [] [] (b ∷ rest) ≡ next_record default_config st.StartField [] [] (b ∷ rest)
unfolding next_record
same-start b rest return feed = rw (return, feed) refl

pub csv-reads-rows : CsvReadsRows
csv-reads-rows [] rest text = cc
csv-reads-rows (b ∷ line) rest text =
    let plain = (and_parts (not (nat_eq (length (b ∷ line)) 0)) (list_all is_plain (b ∷ line)) text).1 in
    let both = and_parts (is_plain b) (list_all is_plain line) plain in
    let marks = plain-marks b both.0 in
    let whole = (plain-run (b ∷ line) rest [] [] plain).1 in
    same-start b (line ++ 10 ∷ rest) marks.1 marks.2 ∙ whole
    ∙ ap (λ (fs : List (List ℕ)). Some (fs, st.StartRecord, rest)) (onto-none (b ∷ line))
