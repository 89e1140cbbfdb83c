-- Reading goes on: with the fields of a part, or one more field of a run, what was read before and what is left come to the same.
use Rattle.std.proofs.Common.{◌≡◌, ◌≤◌, ◌<◌, ◌+◌, ◌-◌, true, false, cond, ℕ, zero, suc, List, [], ◌∷◌, ◌++◌, length, get_or, take, drop, refl, sym, ap, ap₂, subst, ◌∙◌, arith, append_assoc, get_or-drop, drop-drop, length-drop, length-append, nat_le}
use Rattle.std.specs.Prelude.{IsErrAnd, Ok, Err, Result}
use Rattle.std.proofs.lemmas.Bool.{and_parts, leb-true}
use Rattle.std.proofs.lemmas.List.{append-nil, drop_all, take_all}
use Rattle.line_forms.specs.Fields.{field_at}
use Rattle.line_forms.specs.Forms.{route_length, has_form, ones_of, are_single, have_one_run, is_form}
use Rattle.line_forms.specs.Known.{KnownNames}
use Rattle.line_forms.specs.Reading.{LineRead, RunRead, read_run, value_before, then_on, one_before, run_before, read_parts, read_line}
use Rattle.line_forms.specs.ReadSteps.{begun, after_one, after_run, step, IsNext, Puts, Fills}
use Rattle.line_forms.specs.Slots.{FieldRead, read_slot}
use Rattle.line_forms.specs.Values.{number_in, no_values}
use Rattle.line_forms.specs.declared.cause.FieldCause.{FieldCause}
use Rattle.line_forms.specs.declared.form.Part.{Part}
use Rattle.line_forms.specs.declared.form.Part.TheVariants as part
use Rattle.line_forms.specs.declared.known.Set.{Set}
use Rattle.line_forms.specs.declared.reading.Reader.{Reader}
use Rattle.line_forms.specs.declared.slot.Slot.{Slot}
use Rattle.line_forms.specs.declared.slot.Slot.TheVariants as slot
use Rattle.line_forms.specs.declared.value.FieldValue.{FieldValue}
use Rattle.line_forms.specs.declared.value.Values.{Values}
use Rattle.line_forms.specs.declared.word.Keyword.{Keyword}
use Rattle.line_forms.proofs.FormText.{after-word, after-one, after-route, after-numbers, route-within, single-one-run, ended-single}

-- ---- several fields of one kind

-- these values before those that follow
abbrev pub values_before : List FieldValue → RunRead → RunRead
values_before so_far (Ok values) = Ok (so_far ++ values)
values_before so_far (Err cause) = Err cause

-- one value more
push-before : (so_far : List FieldValue) (value : FieldValue) (rest : RunRead) → values_before so_far (value_before value rest) ≡ values_before (so_far ++ value ∷ []) rest
push-before so_far value (Ok values) = ap Ok (sym (append_assoc so_far (value ∷ []) values))
push-before so_far value (Err cause) = refl

run-step : (names : KnownNames) (before : ℕ) (s : Slot) (fields : List (List ℕ)) (place : ℕ) → place < length fields
    → read_run names before s (drop place fields) ≡ then_on (read_slot names before s (get_or fields place [])) (λ value. value_before value (read_run names before s (drop (suc place) fields)))
run-step names before s [] place h = absurd (omega arith)
run-step names before s (f ∷ fields) zero h = refl
run-step names before s (f ∷ fields) (suc place) h = run-step names before s fields place (omega arith)

-- a field that passes
pub run-next : (names : KnownNames) (before : ℕ) (s : Slot) (fields : List (List ℕ)) (place next : ℕ) (field : List ℕ) (so_far : List FieldValue) (value : FieldValue) → place < length fields → next ≡ place + 1 → field ≡ get_or fields place []
    → read_slot names before s field ≡ Ok value → values_before so_far (read_run names before s (drop place fields)) ≡ values_before (so_far ++ value ∷ []) (read_run names before s (drop next fields))
run-next names before s fields place next field so_far value h n e read =
    let at : next ≡ suc place = omega (arith, n) in
    ap (values_before so_far) (run-step names before s fields place h ∙ ap (λ r. then_on r (λ v. value_before v (read_run names before s (drop (suc place) fields)))) (ap (read_slot names before s) (sym e) ∙ read))
    ∙ push-before so_far value (read_run names before s (drop (suc place) fields)) ∙ ap (λ (k : ℕ). values_before (so_far ++ value ∷ []) (read_run names before s (drop k fields))) (sym at)

-- a field that is refused
pub run-stops : (names : KnownNames) (before : ℕ) (s : Slot) (fields : List (List ℕ)) (place : ℕ) (field : List ℕ) (so_far : List FieldValue) (cause : FieldCause) → place < length fields → field ≡ get_or fields place []
    → read_slot names before s field ≡ Err cause → values_before so_far (read_run names before s (drop place fields)) ≡ Err cause
run-stops names before s fields place field so_far cause h e read =
    ap (values_before so_far) (run-step names before s fields place h ∙ ap (λ r. then_on r (λ v. value_before v (read_run names before s (drop (suc place) fields)))) (ap (read_slot names before s) (sym e) ∙ read))

-- no field is left
pub run-over : (names : KnownNames) (before : ℕ) (s : Slot) (fields : List (List ℕ)) (place : ℕ) (so_far : List FieldValue) → length fields ≤ place → values_before so_far (read_run names before s (drop place fields)) ≡ Ok so_far
run-over names before s fields place so_far past = ap (λ left. values_before so_far (read_run names before s left)) (drop_all place fields past) ∙ ap Ok (append-nil so_far)

-- ---- the parts of a form

-- what was read so far, before what follows
abbrev pub with_front : Values → LineRead → LineRead
with_front front (Ok rest) = Ok (record { ones = front.ones ++ rest.ones; run = front.run ++ rest.run })
with_front front (Err cause) = Err cause

-- what the line comes to, of which so much was read
abbrev pub goes_on : KnownNames → List Part → List (List ℕ) → Reader → LineRead
goes_on names parts fields was = with_front was.values (read_parts names was.before parts (drop was.place fields))

-- these parts are still to be read
pub record Stands (parts : List Part) (fields : List (List ℕ)) (was : Reader) : Type 0 where
  pub room : length was.values.ones + ones_of parts ≤ 16
  pub one_run : have_one_run parts ≡ true
  pub unread : are_single parts ≡ false → was.values.run ≡ []
  pub form : has_form parts (drop was.place fields) ≡ true
  pub within : was.place ≤ length fields

-- what comes of the next part
abbrev pub GoesTo : KnownNames → List Part → List (List ℕ) → LineRead → Result Reader FieldCause → Type 0
GoesTo names parts fields all (Ok now) = (all ≡ goes_on names parts fields now) × Stands parts fields now
GoesTo names parts fields all (Err cause) = all ≡ Err cause

-- one value more before what follows
one-on : (front : Values) (value : FieldValue) (rest : LineRead) → with_front front (one_before value rest) ≡ with_front (record { ones = front.ones ++ value ∷ []; run = front.run }) rest
one-on front value (Ok rest) = ap (λ ones. Ok (record { ones = ones; run = front.run ++ rest.run })) (sym (append_assoc front.ones (value ∷ []) rest.ones))
one-on front value (Err cause) = refl

-- and several, where there were none
run-on : (front : Values) (values : List FieldValue) (rest : LineRead) → front.run ≡ [] → with_front front (run_before values rest) ≡ with_front (record { ones = front.ones; run = values }) rest
run-on front values (Ok rest) none = ap (λ run. Ok (record { ones = front.ones ++ rest.ones; run = run ++ (values ++ rest.run) })) none
run-on front values (Err cause) none = refl

-- a fixed word
word-on : (names : KnownNames) (keyword : Keyword) (parts : List Part) (fields : List (List ℕ)) (was : Reader) → Stands (part.Word keyword ∷ parts) fields was
    → GoesTo names parts fields (goes_on names (part.Word keyword ∷ parts) fields was) (step names (part.Word keyword) fields was)
word-on names keyword parts fields was stands =
    let after = after-word keyword parts (drop was.place fields) stands.form in
    let next = drop-drop 1 was.place fields in (
      ap (λ left. with_front was.values (read_parts names was.before parts left)) next,
      record {
        room = stands.room;
        one_run = stands.one_run;
        unread = stands.unread;
        form = subst (λ left. has_form parts left ≡ true) next after.rest;
        within = omega (arith, length-drop was.place fields, after.some);
      },
    )

-- one field
one-goes-on : (names : KnownNames) (s : Slot) (parts : List Part) (fields : List (List ℕ)) (was : Reader) (read : FieldRead) → Stands (part.One s ∷ parts) fields was → read_slot names was.before s (field_at fields was.place) ≡ read
    → GoesTo names parts fields (goes_on names (part.One s ∷ parts) fields was) (after_one was read)
one-goes-on names s parts fields was (Ok value) stands e =
    let after = after-one s parts (drop was.place fields) stands.form in
    let next = drop-drop 1 was.place fields in
    let left = drop 1 (drop was.place fields) in
    let here : field_at (drop was.place fields) 0 ≡ field_at fields was.place = get_or-drop was.place fields 0 [] ∙ ap (λ (k : ℕ). get_or fields k []) (omega arith) in (
      ap (λ r. with_front was.values (then_on r (λ v. one_before v (read_parts names (number_in v) parts left)))) (ap (read_slot names was.before s) here ∙ e)
          ∙ one-on was.values value (read_parts names (number_in value) parts left)
          ∙ ap (λ fs. with_front (record { ones = was.values.ones ++ value ∷ []; run = was.values.run }) (read_parts names (number_in value) parts fs)) next,
      record {
        room = omega (arith, stands.room, length-append was.values.ones (value ∷ []));
        one_run = stands.one_run;
        unread = stands.unread;
        form = subst (λ fs. has_form parts fs ≡ true) next after.rest;
        within = omega (arith, length-drop was.place fields, after.some);
      },
    )
one-goes-on names s parts fields was (Err cause) stands e =
    let left = drop 1 (drop was.place fields) in
    let here : field_at (drop was.place fields) 0 ≡ field_at fields was.place = get_or-drop was.place fields 0 [] ∙ ap (λ (k : ℕ). get_or fields k []) (omega arith) in
    ap (λ r. with_front was.values (then_on r (λ v. one_before v (read_parts names (number_in v) parts left)))) (ap (read_slot names was.before s) here ∙ e)

-- the names of a route
route-on : (names : KnownNames) (of : Set) (parts : List Part) (fields : List (List ℕ)) (was : Reader) (read : RunRead) → Stands (part.Route of ∷ parts) fields was
    → read_run names was.before (slot.Known of) (take (route_length (drop was.place fields)) (drop was.place fields)) ≡ read
    → GoesTo names parts fields (goes_on names (part.Route of ∷ parts) fields was) (after_run was (route_length (drop was.place fields)) read)
route-on names of parts fields was (Ok values) stands e =
    let count = route_length (drop was.place fields) in
    let after = after-route of parts (drop was.place fields) stands.form in
    let single = ended-single parts stands.one_run in
    let next = drop-drop (route_length (drop was.place fields)) was.place fields in
    let left = drop (route_length (drop was.place fields)) (drop was.place fields) in (
      ap (λ r. with_front was.values (then_on r (λ vs. run_before vs (read_parts names was.before parts left)))) e
          ∙ run-on was.values values (read_parts names was.before parts left) (stands.unread refl)
          ∙ ap (λ fs. with_front (record { ones = was.values.ones; run = values }) (read_parts names was.before parts fs)) next,
      record {
        room = stands.room;
        one_run = single-one-run parts single;
        unread = λ many. cc (single, many);
        form = subst (λ fs. has_form parts fs ≡ true) next after.rest;
        within = omega (arith, length-drop was.place fields, route-within (drop was.place fields), stands.within);
      },
    )
route-on names of parts fields was (Err cause) stands e =
    ap (λ r. with_front was.values (then_on r (λ vs. run_before vs (read_parts names was.before parts (drop (route_length (drop was.place fields)) (drop was.place fields)))))) e

-- the numbers of the levels
numbers-on : (names : KnownNames) (low high : ℕ) (parts : List Part) (fields : List (List ℕ)) (was : Reader) (read : RunRead) → Stands (part.Numbers low high ∷ parts) fields was
    → read_run names was.before (slot.Number low high) (take (length fields - was.place) (drop was.place fields)) ≡ read
    → GoesTo names parts fields (goes_on names (part.Numbers low high ∷ parts) fields was) (after_run was (length fields - was.place) read)
numbers-on names low high [] fields was (Ok values) stands e =
    let left = length-drop was.place fields in
    let all : take (length fields - was.place) (drop was.place fields) ≡ drop was.place fields = take_all (length fields - was.place) (drop was.place fields) (omega (arith, left)) in (
      ap (λ r. with_front was.values (then_on r (λ vs. run_before vs (Ok no_values)))) (ap (read_run names was.before (slot.Number low high)) (sym all) ∙ e)
          ∙ run-on was.values values (Ok no_values) (stands.unread refl),
      record {
        room = stands.room;
        one_run = refl;
        unread = λ many. cc (many);
        form = ap (has_form []) (drop_all (was.place + (length fields - was.place)) fields (omega (arith, stands.within)));
        within = omega (arith, stands.within);
      },
    )
numbers-on names low high [] fields was (Err cause) stands e =
    let left = length-drop was.place fields in
    let all : take (length fields - was.place) (drop was.place fields) ≡ drop was.place fields = take_all (length fields - was.place) (drop was.place fields) (omega (arith, left)) in
    ap (λ r. with_front was.values (then_on r (λ vs. run_before vs (Ok no_values)))) (ap (read_run names was.before (slot.Number low high)) (sym all) ∙ e)
numbers-on names low high (p ∷ parts) fields was read stands e = no (stands.one_run) where
  no : false ≡ true → GoesTo names (p ∷ parts) fields (goes_on names (part.Numbers low high ∷ p ∷ parts) fields was) (after_run was (length fields - was.place) read)
  no e = cc

pub step-on : (names : KnownNames) (p : Part) (parts : List Part) (fields : List (List ℕ)) (was : Reader) → Stands (p ∷ parts) fields was
    → GoesTo names parts fields (goes_on names (p ∷ parts) fields was) (step names p fields was)
step-on names (part.Word keyword) parts fields was stands = word-on names keyword parts fields was stands
step-on names (part.One s) parts fields was stands = one-goes-on names s parts fields was (read_slot names was.before s (field_at fields was.place)) stands refl
step-on names (part.Route of) parts fields was stands =
    route-on names of parts fields was (read_run names was.before (slot.Known of) (take (route_length (drop was.place fields)) (drop was.place fields))) stands refl
step-on names (part.Numbers low high) parts fields was stands =
    numbers-on names low high parts fields was (read_run names was.before (slot.Number low high) (take (length fields - was.place) (drop was.place fields))) stands refl

-- the fields that the next part takes are there, and there is room for what they say
pub next-of : (p : Part) (parts : List Part) (fields : List (List ℕ)) (was : Reader) → Stands (p ∷ parts) fields was → IsNext p was fields
next-of (part.Word keyword) parts fields was stands = omega (arith, length-drop was.place fields, (after-word keyword parts (drop was.place fields) stands.form).some)
next-of (part.One s) parts fields was stands = (omega (arith, stands.room), omega (arith, length-drop was.place fields, (after-one s parts (drop was.place fields) stands.form).some))
next-of (part.Route of) parts fields was stands =
    ((after-route of parts (drop was.place fields) stands.form).few, omega (arith, length-drop was.place fields, route-within (drop was.place fields), stands.within))
next-of (part.Numbers low high) parts fields was stands =
    (omega (arith, length-drop was.place fields, (after-numbers low high parts (drop was.place fields) stands.form).few), stands.within)

-- a form that is to be read
pub stands-first : (form : List Part) (fields : List (List ℕ)) → is_form form ≡ true → has_form form fields ≡ true → Stands form fields begun
stands-first (part.Word keyword ∷ parts) fields is has =
    let p = and_parts (have_one_run parts) (nat_le (ones_of parts) 16) is in
    record { room = omega (arith, leb-true (ones_of parts) 16 p.1); one_run = p.0; unread = λ many. refl; form = has; within = omega arith }
stands-first parts fields is has = cc

-- nothing was read yet
pub nothing-before : (names : KnownNames) (form : List Part) (fields : List (List ℕ)) → goes_on names form fields begun ≡ read_parts names 0 form fields
nothing-before names form fields = by (read_parts names 0 form fields) where
  by : (read : LineRead) → with_front no_values read ≡ read
  by (Ok rest) = refl
  by (Err cause) = refl

-- all parts were read
pub all-read : (names : KnownNames) (fields : List (List ℕ)) (was : Reader) → goes_on names [] fields was ≡ Ok was.values
all-read names fields was = ap₂ (λ ones run. Ok (record { ones = ones; run = run })) (append-nil was.values.ones) (append-nil was.values.run)

-- nothing was read yet
pub nothing-run : (read : RunRead) → values_before [] read ≡ read
nothing-run (Ok values) = refl
nothing-run (Err cause) = refl

-- the next part of a form
pub next-part : (form : List Part) (i : ℕ) (other : Part) → i < length form → drop i form ≡ get_or form i other ∷ drop (i + 1) form
next-part form i other h = at form i h ∙ ap (λ (k : ℕ). get_or form i other ∷ drop k form) (let next : suc i ≡ i + 1 = omega arith in next) where
  at : (form : List Part) (i : ℕ) → i < length form → drop i form ≡ get_or form i other ∷ drop (suc i) form
  at [] i h = absurd (omega (arith, h))
  at (p ∷ form) zero h = refl
  at (p ∷ form) (suc i) h = at form i (omega (arith, h))

-- the next part is read
pub part-on : (names : KnownNames) (form rest : List Part) (p : Part) (fields : List (List ℕ)) (was : Reader) → form ≡ p ∷ rest → Stands form fields was → GoesTo names rest fields (goes_on names form fields was) (step names p fields was)
part-on names form rest p fields was at stands =
    subst (λ parts. GoesTo names rest fields (goes_on names parts fields was) (step names p fields was)) (sym at) (step-on names p rest fields was (subst (λ parts. Stands parts fields was) at stands))

-- there are its fields, and room for them
pub part-next : (form rest : List Part) (p : Part) (fields : List (List ℕ)) (was : Reader) → form ≡ p ∷ rest → Stands form fields was → IsNext p was fields
part-next form rest p fields was at stands = next-of p rest fields was (subst (λ parts. Stands parts fields was) at stands)

-- the cause that was told
pub run-told : (r : Result Unit FieldCause) (now : List FieldValue) (all : RunRead) (cause : FieldCause) → IsErrAnd r (λ y. y ≡ cause) → all ≡ Err cause → Puts r now all
run-told (Ok x) now all cause told e = absurd (told)
run-told (Err other) now all cause told e = e ∙ ap Err (sym told)

pub line-told : (r : Result Unit FieldCause) (now : Reader) (all : LineRead) (cause : FieldCause) → IsErrAnd r (λ y. y ≡ cause) → all ≡ Err cause → Fills r now all
line-told (Ok x) now all cause told e = absurd (told)
line-told (Err other) now all cause told e = e ∙ ap Err (sym told)

-- ---- the forms that a line may have

pub form-step : (names : KnownNames) (forms : List (List Part)) (fields : List (List ℕ)) (i : ℕ) (form : List Part) → drop i forms ≡ form ∷ drop (i + 1) forms
    → read_line names (drop i forms) fields ≡ cond (has_form form fields) (read_parts names 0 form fields) (read_line names (drop (i + 1) forms) fields)
form-step names forms fields i form at = ap (λ left. read_line names left fields) at
