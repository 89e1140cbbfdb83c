-- The law of both ways: the line of values that fit a form is read as these values, and what is read fits the form.
use Rattle.std.proofs.Common.{◌≡◌, Bool, true, false, cond, ℕ, suc, List, [], ◌∷◌, ◌++◌, length, map, take, drop, nat_le, refl, sym, ap, ap₂, subst, ◌∙◌, inl, inr, arith}
use Rattle.std.specs.Prelude.{Ok, Err}
use Rattle.std.proofs.lemmas.Bool.{and_parts, and_from, le-leb}
use Rattle.std.proofs.lemmas.List.{append-nil, length-map, length-take-le}
use Rattle.std.proofs.lemmas.List.Folds.{list_all-append}
use Rattle.std.specs.List.{list_all}
use Rattle.line_forms.specs.BothWays.{FittingValuesAreRead, IsReadBy, IsReadByOne, WhatIsReadFits}
use Rattle.line_forms.specs.Fields.{is_field, are_fields, field_at}
use Rattle.line_forms.specs.Fitting.{AllFit, IsRun, FitParts}
use Rattle.line_forms.specs.Forms.{route_length, on_taken, fields_up_to, has_form, ones_of, are_single, have_one_run, is_form}
use Rattle.line_forms.specs.Known.{KnownNames}
use Rattle.line_forms.specs.Reading.{LineRead, RunRead, read_run, then_on, one_before, run_before, read_parts, read_line}
use Rattle.line_forms.specs.Slots.{FieldRead, read_slot}
use Rattle.line_forms.specs.Values.{number_in, field_of, no_values}
use Rattle.line_forms.specs.Words.{text_of}
use Rattle.line_forms.specs.Writing.{fields_said}
use Rattle.line_forms.specs.declared.form.Part.{Part}
use Rattle.line_forms.specs.declared.form.Part.TheVariants as part
use Rattle.line_forms.specs.declared.known.Set.{Set}
use Rattle.line_forms.specs.declared.slot.Slot.{Slot}
use Rattle.line_forms.specs.declared.slot.Slot.TheVariants as slot
use Rattle.line_forms.specs.declared.value.FieldValue.{FieldValue}
use Rattle.line_forms.specs.declared.value.FieldValue.TheVariants as value
use Rattle.line_forms.specs.declared.value.Values.{Values}
use Rattle.line_forms.specs.declared.word.Keyword.TheVariants as word
use Rattle.line_forms.proofs.FormText.{HasRun, after-word, after-one, after-route, after-numbers, route-within, single-one-run, ended-single}
use Rattle.line_forms.proofs.SlotsBack.{slot-back, slot-field, run-back, run-fields, slot-fits, run-fits}
use Rattle.line_forms.proofs.WordText.{word-text, name-no-end}

-- ---- values that fit

-- the fields of parts, with what they come to
record PartsBack (names : KnownNames) (before : ℕ) (parts : List Part) (ones run : List FieldValue) (fields : List (List ℕ)) : Type 0 where
  written : are_fields fields ≡ true
  form_is : has_form parts fields ≡ true
  read : read_parts names before parts fields ≡ Ok (record { ones = ones; run = run })

-- names are no end of a route
route-ends : (names : KnownNames) (before : ℕ) (of : Set) (run : List FieldValue) (after : List (List ℕ)) → AllFit names before (slot.Known of) run → route_length (map field_of run ++ text_of word.Contract ∷ after) ≡ length run
route-ends names before of [] after fit = refl
route-ends names before of (value.Known name number ∷ run) after fit = rw (name-no-end name fit.0.0) (ap suc (route-ends names before of run after fit.1))
route-ends names before of (v ∷ run) after fit = absurd fit.0

take-front : (xs ys : List (List ℕ)) → take (length xs) (xs ++ ys) ≡ xs
take-front [] ys = refl
take-front (x ∷ xs) ys = ap (λ (rest : List (List ℕ)). x ∷ rest) (take-front xs ys)

drop-front : (xs ys : List (List ℕ)) → drop (length xs) (xs ++ ys) ≡ ys
drop-front [] ys = refl
drop-front (x ∷ xs) ys = drop-front xs ys

-- the rest of a line whose route is so long
route-back : (names : KnownNames) (before : ℕ) (of : Set) (parts : List Part) (ones run : List FieldValue) (after : List (List ℕ)) → IsRun names before 16 (slot.Known of) run → PartsBack names before parts ones [] (text_of word.Contract ∷ after)
    → PartsBack names before (part.Route of ∷ parts) ones run (map field_of run ++ text_of word.Contract ∷ after)
route-back names before of parts ones run after is rest =
    let fields = map field_of run in
    let end = text_of word.Contract ∷ after in
    let count : route_length (map field_of run ++ text_of word.Contract ∷ after) ≡ length (map field_of run) = route-ends names before of run after is.all ∙ sym (length-map run field_of) in
    let long = length-map run field_of in
    let left : drop (route_length (map field_of run ++ text_of word.Contract ∷ after)) (map field_of run ++ text_of word.Contract ∷ after) ≡ text_of word.Contract ∷ after = ap (λ (n : ℕ). drop n (fields ++ end)) count ∙ drop-front fields end in
    let taken : take (route_length (map field_of run ++ text_of word.Contract ∷ after)) (map field_of run ++ text_of word.Contract ∷ after) ≡ map field_of run = ap (λ (n : ℕ). take n (fields ++ end)) count ∙ take-front fields end in
    record {
      written = list_all-append is_field fields end ∙ and_from (are_fields fields) (are_fields end) (run-fields names before (slot.Known of) run is.all) rest.written;
      form_is = ap (λ (n : ℕ). on_taken (fields_up_to 16 n) (λ taken. has_form parts (drop taken (fields ++ end)))) count
          ∙ rw (le-leb 1 (length fields) (omega (arith, long, is.least)), le-leb (length fields) 16 (omega (arith, long, is.few))) (ap (has_form parts) (drop-front fields end) ∙ rest.form_is);
      read = ap₂ (λ front back. then_on (read_run names before (slot.Known of) front) (λ vs. run_before vs (read_parts names before parts back))) taken left
          ∙ ap₂ (λ first second. then_on first (λ vs. run_before vs second)) (run-back names before (slot.Known of) run is.all) rest.read
          ∙ ap (λ all. Ok (record { ones = ones; run = all })) (append-nil run);
    }

-- the numbers of the levels are the last fields
numbers-back : (names : KnownNames) (before low high : ℕ) (run : List FieldValue) → IsRun names before 8 (slot.Number low high) run → PartsBack names before (part.Numbers low high ∷ []) [] run (map field_of run ++ [])
numbers-back names before low high run is =
    let fields = map field_of run in
    let long = length-map run field_of in
    subst (PartsBack names before (part.Numbers low high ∷ []) [] run) (sym (append-nil fields)) (record {
      written = run-fields names before (slot.Number low high) run is.all;
      form_is = rw (le-leb 1 (length fields) (omega (arith, long, is.least)), le-leb (length fields) 8 (omega (arith, long, is.few))) (none-left fields);
      read = ap (λ first. then_on first (λ vs. run_before vs (Ok no_values))) (run-back names before (slot.Number low high) run is.all) ∙ ap (λ all. Ok (record { ones = []; run = all })) (append-nil run);
    })
  where
    none-left : (fields : List (List ℕ)) → has_form [] (drop (length fields) fields) ≡ true
    none-left [] = refl
    none-left (f ∷ fields) = none-left fields

parts-back : (names : KnownNames) (before : ℕ) (parts : List Part) (ones run : List FieldValue) → have_one_run parts ≡ true → FitParts names before parts ones run → PartsBack names before parts ones run (fields_said parts ones run)
parts-back names before [] [] [] is fit = record { written = refl; form_is = refl; read = refl }
parts-back names before (part.Word keyword ∷ parts) ones run is fit =
    let rest = parts-back names before parts ones run is fit in
    let text = word-text keyword in
    record { written = rw (text.field) rest.written; form_is = rw (text.read) rest.form_is; read = rest.read }
parts-back names before (part.One s ∷ parts) (v ∷ ones) run is fit =
    let rest = parts-back names (number_in v) parts ones run is fit.1 in
    record {
      written = rw (slot-field names before s v fit.0) rest.written;
      form_is = rest.form_is;
      read = ap (λ first. then_on first (λ w. one_before w (read_parts names (number_in w) parts (fields_said parts ones run)))) (slot-back names before s v fit.0) ∙ ap (one_before v) rest.read;
    }
parts-back names before (part.Route of ∷ part.Word word.Contract ∷ parts) ones run is fit =
    let rest = parts-back names before (part.Word word.Contract ∷ parts) ones [] (single-one-run parts is) fit.1 in
    route-back names before of (part.Word word.Contract ∷ parts) ones run (fields_said parts ones []) fit.0 rest
parts-back names before (part.Numbers low high ∷ []) [] run is fit = numbers-back names before low high run fit.0
parts-back names before (part.Numbers low high ∷ []) (v ∷ ones) run is fit = absurd fit.1
parts-back names before (part.Numbers low high ∷ p ∷ parts) ones run is fit = cc
parts-back names before (part.Route of ∷ parts) ones run is fit = cc
parts-back names before parts ones run is fit = absurd fit

pub form-back : FittingValuesAreRead
form-back names (part.Word keyword ∷ parts) values is fit =
    let p = and_parts (have_one_run parts) (nat_le (ones_of parts) 16) is in
    let back = parts-back names 0 (part.Word keyword ∷ parts) values.ones values.run p.0 fit in
    record { written = back.written; form_is = back.form_is; read = back.read }
form-back names parts values is fit = cc

-- ---- what is read

ok-same : (a b : Values) → ◌≡◌ {A = LineRead} (Ok a) (Ok b) → a ≡ b
ok-same a b e = cc

-- where each part takes one field, no run is read
record HasNoRun (values : Values) : Type 0 where
  none : values.run ≡ []

no-run-more : (first : FieldRead) (rest : FieldValue → LineRead) (values : Values) → ((v : FieldValue) (w : Values) → rest v ≡ Ok w → HasNoRun w) → then_on first (λ v. one_before v (rest v)) ≡ Ok values → HasNoRun values
no-run-more (Ok v) rest values after e = by (rest v) refl e where
  by : (read : LineRead) → rest v ≡ read → one_before v read ≡ Ok values → HasNoRun values
  by (Ok w) at e = subst HasNoRun (ok-same (record { ones = v ∷ w.ones; run = w.run }) values e) (record { none = (after v w at).none })
  by (Err c) at e = cc
no-run-more (Err c) rest values after e = cc

no-run : (names : KnownNames) (before : ℕ) (parts : List Part) (fields : List (List ℕ)) (values : Values) → are_single parts ≡ true → read_parts names before parts fields ≡ Ok values → HasNoRun values
no-run names before [] fields values single e = subst HasNoRun (ok-same no_values values e) (record { none = refl })
no-run names before (part.Word keyword ∷ parts) fields values single e = no-run names before parts (drop 1 fields) values single e
no-run names before (part.One s ∷ parts) fields values single e =
    no-run-more (read_slot names before s (field_at fields 0)) (λ v. read_parts names (number_in v) parts (drop 1 fields)) values (λ v w at. no-run names (number_in v) parts (drop 1 fields) w single at) e
no-run names before (part.Route of ∷ parts) fields values single e = cc
no-run names before (part.Numbers low high ∷ parts) fields values single e = cc

-- what parts are read as fits them
record PartsFit (names : KnownNames) (before : ℕ) (parts : List Part) (values : Values) : Type 0 where
  fit : FitParts names before parts values.ones values.run

one-fits : (names : KnownNames) (before : ℕ) (s : Slot) (parts : List Part) (field : List ℕ) (values : Values) (first : FieldRead) (rest : FieldValue → LineRead) → ((v : FieldValue) (w : Values) → rest v ≡ Ok w → PartsFit names (number_in v) parts w)
    → read_slot names before s field ≡ first → then_on first (λ v. one_before v (rest v)) ≡ Ok values → PartsFit names before (part.One s ∷ parts) values
one-fits names before s parts field values (Ok v) rest after at e = by (rest v) refl e where
  by : (read : LineRead) → rest v ≡ read → one_before v read ≡ Ok values → PartsFit names before (part.One s ∷ parts) values
  by (Ok w) is e = subst (PartsFit names before (part.One s ∷ parts)) (ok-same (record { ones = v ∷ w.ones; run = w.run }) values e) (record { fit = (slot-fits names before s field v at, (after v w is).fit) })
  by (Err c) is e = cc
one-fits names before s parts field values (Err c) rest after at e = cc

route-fits : (names : KnownNames) (before : ℕ) (of : Set) (parts : List Part) (fields : List (List ℕ)) (values : Values) (first : RunRead) (rest : LineRead) → HasRun 16 (route_length fields) parts fields → ((w : Values) → rest ≡ Ok w → PartsFit names before parts w × HasNoRun w)
    → read_run names before (slot.Known of) (take (route_length fields) fields) ≡ first → then_on first (λ vs. run_before vs rest) ≡ Ok values → PartsFit names before (part.Route of ∷ parts) values
route-fits names before of parts fields values (Ok vs) (Ok w) has after at e =
    let next = after w refl in
    let none = (next.1).none in
    let these = run-fits names before (slot.Known of) (take (route_length fields) fields) vs at in
    let count = length-take-le (route_length fields) fields (route-within fields) in
    let all : vs ++ w.run ≡ vs = ap (λ (more : List FieldValue). vs ++ more) none ∙ append-nil vs in
    subst (PartsFit names before (part.Route of ∷ parts)) (ap (λ (run : List FieldValue). record { ones = w.ones; run = run }) (sym all) ∙ ok-same (record { ones = w.ones; run = vs ++ w.run }) values e) (record {
      fit = (
        record { least = omega (arith, these.count_is, count, has.least); few = omega (arith, these.count_is, count, has.few); all = these.all },
        subst (FitParts names before parts w.ones) none (next.0).fit,
      );
    })
route-fits names before of parts fields values (Ok vs) (Err c) has after at e = cc
route-fits names before of parts fields values (Err c) rest has after at e = cc

numbers-fit : (names : KnownNames) (before low high : ℕ) (fields : List (List ℕ)) (values : Values) (first : RunRead) → HasRun 8 (length fields) [] fields → read_run names before (slot.Number low high) fields ≡ first → then_on first (λ vs. run_before vs (Ok no_values)) ≡ Ok values
    → PartsFit names before (part.Numbers low high ∷ []) values
numbers-fit names before low high fields values (Ok vs) has at e =
    let these = run-fits names before (slot.Number low high) fields vs at in
    subst (PartsFit names before (part.Numbers low high ∷ [])) (ap (λ (run : List FieldValue). record { ones = []; run = run }) (sym (append-nil vs)) ∙ ok-same (record { ones = []; run = vs ++ [] }) values e) (record {
      fit = (record { least = omega (arith, these.count_is, has.least); few = omega (arith, these.count_is, has.few); all = these.all }, tt);
    })
numbers-fit names before low high fields values (Err c) has at e = cc

parts-fit : (names : KnownNames) (before : ℕ) (parts : List Part) (fields : List (List ℕ)) (values : Values) → have_one_run parts ≡ true → has_form parts fields ≡ true → read_parts names before parts fields ≡ Ok values → PartsFit names before parts values
parts-fit names before [] fields values is has e = subst (PartsFit names before []) (ok-same no_values values e) (record { fit = tt })
parts-fit names before (part.Word keyword ∷ parts) fields values is has e =
    let rest = parts-fit names before parts (drop 1 fields) values is (after-word keyword parts fields has).rest e in
    record { fit = rest.fit }
parts-fit names before (part.One s ∷ parts) fields values is has e =
    one-fits names before s parts (field_at fields 0) values (read_slot names before s (field_at fields 0)) (λ v. read_parts names (number_in v) parts (drop 1 fields))
    (λ v w at. parts-fit names (number_in v) parts (drop 1 fields) w is (after-one s parts fields has).rest at) refl e
parts-fit names before (part.Route of ∷ parts) fields values is has e =
    let after = after-route of parts fields has in
    let single = ended-single parts is in
    let left = drop (route_length fields) fields in
    route-fits names before of parts fields values (read_run names before (slot.Known of) (take (route_length fields) fields)) (read_parts names before parts left) after
    (λ w at. (parts-fit names before parts left w (single-one-run parts single) after.rest at, no-run names before parts left w single at)) refl e
parts-fit names before (part.Numbers low high ∷ []) fields values is has e =
    numbers-fit names before low high fields values (read_run names before (slot.Number low high) fields) (after-numbers low high [] fields has) refl e
parts-fit names before (part.Numbers low high ∷ p ∷ parts) fields values is has e = cc

-- what a form is read as fits it
form-fits : (names : KnownNames) (form : List Part) (fields : List (List ℕ)) (values : Values) → is_form form ≡ true → has_form form fields ≡ true → read_parts names 0 form fields ≡ Ok values → IsReadBy names form values fields
form-fits names (part.Word keyword ∷ parts) fields values is has e =
    record { form_is = has; fits = (parts-fit names 0 (part.Word keyword ∷ parts) fields values (and_parts (have_one_run parts) (nat_le (ones_of parts) 16) is).0 has e).fit }
form-fits names parts fields values is has e = cc

first-fits : (names : KnownNames) (form : List Part) (forms : List (List Part)) (fields : List (List ℕ)) (values : Values) (has : Bool) → is_form form ≡ true → has_form form fields ≡ has → (read_line names forms fields ≡ Ok values → IsReadByOne names forms values fields)
    → cond has (read_parts names 0 form fields) (read_line names forms fields) ≡ Ok values → IsReadByOne names (form ∷ forms) values fields
first-fits names form forms fields values true is has after e = inl (form-fits names form fields values is has e)
first-fits names form forms fields values false is has after e = inr (after e)

pub line-fits : WhatIsReadFits
line-fits names [] fields values are e = cc
line-fits names (form ∷ forms) fields values are e =
    let p = and_parts (is_form form) (list_all is_form forms) are in
    first-fits names form forms fields values (has_form form fields) p.0 refl (λ read. line-fits names forms fields values p.1 read) e
