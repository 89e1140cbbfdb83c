-- What one field has to be: a value that fits is read from its field, and what is read fits.
use Rattle.std.proofs.Common.{◌≡◌, ◌^◌, ◌<◌, Bool, true, false, cond, ◌&&◌, ℕ, suc, List, [], ◌∷◌, Option, Some, None, length, map, nat_le, refl, ap, subst, arith}
use Rattle.std.specs.Prelude.{Ok, Err, nat_eq, not, ◌||◌, slice_index}
use Rattle.std.specs.Str.{all_ascii_digits}
use Rattle.std.proofs.lemmas.Bool.{le-leb, leb-true, and_parts}
use Rattle.net_units.specs.Text.{is_name}
use Rattle.line_forms.specs.Decimal.{is_number, value_of}
use Rattle.line_forms.specs.Fields.{is_field, are_fields}
use Rattle.line_forms.specs.Fitting.{Fits, AllFit}
use Rattle.line_forms.specs.Known.{KnownNames}
use Rattle.line_forms.specs.Reading.{RunRead, read_run, value_before, then_on}
use Rattle.line_forms.specs.Slots.{FieldRead, read_slot, if_name, as_any, as_new, as_known, as_once, read_number}
use Rattle.line_forms.specs.Values.{field_of}
use Rattle.line_forms.specs.Words.{is_plane}
use Rattle.line_forms.specs.declared.cause.FieldCause.TheVariants as cause
use Rattle.line_forms.specs.declared.known.Set.{Set}
use Rattle.line_forms.specs.declared.known.Set.TheVariants as set
use Rattle.line_forms.specs.declared.slot.Slot.{Slot}
use Rattle.line_forms.specs.declared.slot.Slot.TheVariants as slot
use Rattle.line_forms.specs.declared.value.FieldValue.{FieldValue}
use Rattle.line_forms.specs.declared.value.FieldValue.TheVariants as value
use Rattle.line_forms.proofs.DecimalDigits.{value-below}
use Rattle.line_forms.proofs.FieldText.{name-field, number-field}
use Rattle.line_forms.proofs.NumberText.{is_number-decimal, value-decimal}
use Rattle.line_forms.proofs.WordText.{name-no-plane}

-- ---- a value that fits

pub slot-back : (names : KnownNames) (before : ℕ) (s : Slot) (v : FieldValue) → Fits names before s v → read_slot names before s (field_of v) ≡ Ok v
slot-back names before slot.Name (value.Name name) fit = rw fit refl
slot-back names before (slot.New of) (value.Name name) fit = rw (fit.0, fit.1) refl
slot-back names before (slot.Known of) (value.Known name number) fit = rw (fit.0, fit.1) refl
slot-back names before (slot.Once of) (value.Known name number) fit = rw (fit.0, fit.1, fit.2) refl
slot-back names before (slot.Number low high) (value.Number number) fit =
    rw (is_number-decimal number fit.short, value-decimal number (omega (arith, fit.short)), le-leb low number fit.least, le-leb number high fit.most) refl
slot-back names before slot.Actor value.Plane fit = refl
slot-back names before slot.Actor (value.Known name number) fit = rw (fit.0, name-no-plane name fit.0, fit.1) refl
slot-back names before s v fit = absurd fit

pub slot-field : (names : KnownNames) (before : ℕ) (s : Slot) (v : FieldValue) → Fits names before s v → is_field (field_of v) ≡ true
slot-field names before slot.Name (value.Name name) fit = name-field name fit
slot-field names before (slot.New of) (value.Name name) fit = name-field name fit.0
slot-field names before (slot.Known of) (value.Known name number) fit = name-field name fit.0
slot-field names before (slot.Once of) (value.Known name number) fit = name-field name fit.0
slot-field names before (slot.Number low high) (value.Number number) fit = number-field number (omega (arith, fit.short))
slot-field names before slot.Actor value.Plane fit = refl
slot-field names before slot.Actor (value.Known name number) fit = name-field name fit.0
slot-field names before s v fit = absurd fit

pub run-back : (names : KnownNames) (before : ℕ) (s : Slot) (vs : List FieldValue) → AllFit names before s vs → read_run names before s (map field_of vs) ≡ Ok vs
run-back names before s [] fit = refl
run-back names before s (v ∷ vs) fit = rw (slot-back names before s v fit.0, run-back names before s vs fit.1) refl

pub run-fields : (names : KnownNames) (before : ℕ) (s : Slot) (vs : List FieldValue) → AllFit names before s vs → are_fields (map field_of vs) ≡ true
run-fields names before s [] fit = refl
run-fields names before s (v ∷ vs) fit = rw (slot-field names before s v fit.0, run-fields names before s vs fit.1) refl

-- ---- what is read

ok-same : (a b : FieldValue) → ◌≡◌ {A = FieldRead} (Ok a) (Ok b) → a ≡ b
ok-same a b e = cc

oks-same : (a b : List FieldValue) → ◌≡◌ {A = RunRead} (Ok a) (Ok b) → a ≡ b
oks-same a b e = cc

-- a name was read
on-name : (field : List ℕ) (said : FieldRead) (v : FieldValue) → if_name field said ≡ Ok v → (is_name field ≡ true) × (said ≡ Ok v)
on-name field said v e = by (is_name field) refl e where
  by : (is : Bool) → is_name field ≡ is → cond is said (Err cause.Name) ≡ Ok v → (is_name field ≡ true) × (said ≡ Ok v)
  by true is e = (is, e)
  by false is e = cc

new-fits : (names : KnownNames) (before : ℕ) (of : Set) (field : List ℕ) (v : FieldValue) (found : Option ℕ) → is_name field ≡ true → names.number of field ≡ found → as_new field found ≡ Ok v → Fits names before (slot.New of) v
new-fits names before of field v None is at e = subst (Fits names before (slot.New of)) (ok-same (value.Name field) v e) (is, at)
new-fits names before of field v (Some number) is at e = cc

known-fits : (names : KnownNames) (before : ℕ) (of : Set) (field : List ℕ) (v : FieldValue) (found : Option ℕ) → is_name field ≡ true → names.number of field ≡ found → as_known field found ≡ Ok v → Fits names before (slot.Known of) v
known-fits names before of field v None is at e = cc
known-fits names before of field v (Some number) is at e = subst (Fits names before (slot.Known of)) (ok-same (value.Known field number) v e) (is, at)

actor-fits : (names : KnownNames) (before : ℕ) (field : List ℕ) (v : FieldValue) (found : Option ℕ) → is_name field ≡ true → names.number set.Callers field ≡ found → as_known field found ≡ Ok v → Fits names before slot.Actor v
actor-fits names before field v None is at e = cc
actor-fits names before field v (Some number) is at e = subst (Fits names before slot.Actor) (ok-same (value.Known field number) v e) (is, at)

once-fits : (names : KnownNames) (before : ℕ) (of : Set) (field : List ℕ) (v : FieldValue) (found : Option ℕ) → is_name field ≡ true → names.number of field ≡ found → as_once (names.paired before) field found ≡ Ok v → Fits names before (slot.Once of) v
once-fits names before of field v None is at e = cc
once-fits names before of field v (Some number) is at e = by (names.paired before number) refl e where
  by : (paired : Bool) → names.paired before number ≡ paired → cond paired (Err cause.Known) (Ok (value.Known field number)) ≡ Ok v → Fits names before (slot.Once of) v
  by true pair e = cc
  by false pair e = subst (Fits names before (slot.Once of)) (ok-same (value.Known field number) v e) (is, at, pair)

-- a number that was read stands in its range
is-short : (field : List ℕ) → is_number field ≡ true → value_of field < 10 ^ 18
is-short field e =
    let first = and_parts (all_ascii_digits field && nat_le 1 (length field) && nat_le (length field) 18) (nat_eq (length field) 1 || not (nat_eq (slice_index field 0) 48)) e in
    let second = and_parts (all_ascii_digits field && nat_le 1 (length field)) (nat_le (length field) 18) first.0 in
    let third = and_parts (all_ascii_digits field) (nat_le 1 (length field)) second.0 in
    value-below field third.0 (leb-true (length field) 18 second.1)

number-fits : (names : KnownNames) (before low high : ℕ) (field : List ℕ) (v : FieldValue) → read_number low high field ≡ Ok v → Fits names before (slot.Number low high) v
number-fits names before low high field v e = by (is_number field) refl e where
  in-range : (within : Bool) → is_number field ≡ true → (nat_le low (value_of field) && nat_le (value_of field) high) ≡ within → cond within (Ok (value.Number (value_of field))) (Err cause.Range) ≡ Ok v → Fits names before (slot.Number low high) v
  in-range true is within e =
      let parts = and_parts (nat_le low (value_of field)) (nat_le (value_of field) high) within in
      subst (Fits names before (slot.Number low high)) (ok-same (value.Number (value_of field)) v e) (record { least = leb-true low (value_of field) parts.0; most = leb-true (value_of field) high parts.1; short = is-short field is })
  in-range false is within e = cc

  by : (is : Bool) → is_number field ≡ is → cond is (cond (nat_le low (value_of field) && nat_le (value_of field) high) (Ok (value.Number (value_of field))) (Err cause.Range)) (Err cause.Number) ≡ Ok v → Fits names before (slot.Number low high) v
  by true is e = in-range (nat_le low (value_of field) && nat_le (value_of field) high) is refl e
  by false is e = cc

pub slot-fits : (names : KnownNames) (before : ℕ) (s : Slot) (field : List ℕ) (v : FieldValue) → read_slot names before s field ≡ Ok v → Fits names before s v
slot-fits names before slot.Name field v e = (let p = on-name field (as_any field) v e in subst (Fits names before slot.Name) (ok-same (value.Name field) v p.1) p.0)
slot-fits names before (slot.New of) field v e = (let p = on-name field (as_new field (names.number of field)) v e in new-fits names before of field v (names.number of field) p.0 refl p.1)
slot-fits names before (slot.Known of) field v e = (let p = on-name field (as_known field (names.number of field)) v e in known-fits names before of field v (names.number of field) p.0 refl p.1)
slot-fits names before (slot.Once of) field v e = (let p = on-name field (as_once (names.paired before) field (names.number of field)) v e in once-fits names before of field v (names.number of field) p.0 refl p.1)
slot-fits names before (slot.Number low high) field v e = number-fits names before low high field v e
slot-fits names before slot.Actor field v e = by (is_plane field) e where
  by : (is : Bool) → cond is (Ok value.Plane) (if_name field (as_known field (names.number set.Callers field))) ≡ Ok v → Fits names before slot.Actor v
  by true e = subst (Fits names before slot.Actor) (ok-same value.Plane v e) tt
  by false e = (let p = on-name field (as_known field (names.number set.Callers field)) v e in actor-fits names before field v (names.number set.Callers field) p.0 refl p.1)

-- so do several, as many as there are fields
pub record RunFits (names : KnownNames) (before : ℕ) (s : Slot) (count : ℕ) (vs : List FieldValue) : Type 0 where
  pub all : AllFit names before s vs
  pub count_is : length vs ≡ count

-- with one field more
run-more : (names : KnownNames) (before : ℕ) (s : Slot) (field : List ℕ) (fields : List (List ℕ)) (vs : List FieldValue) (first : FieldRead) (rest : RunRead) → ((ws : List FieldValue) → rest ≡ Ok ws → RunFits names before s (length fields) ws)
    → read_slot names before s field ≡ first → then_on first (λ v. value_before v rest) ≡ Ok vs → RunFits names before s (suc (length fields)) vs
run-more names before s field fields vs (Ok v) (Ok ws) after at e =
    let are = after ws refl in
    subst (RunFits names before s (suc (length fields))) (oks-same (v ∷ ws) vs e) (record { all = (slot-fits names before s field v at, are.all); count_is = ap suc are.count_is })
run-more names before s field fields vs (Ok v) (Err c) after at e = cc
run-more names before s field fields vs (Err c) rest after at e = cc

pub run-fits : (names : KnownNames) (before : ℕ) (s : Slot) (fields : List (List ℕ)) (vs : List FieldValue) → read_run names before s fields ≡ Ok vs → RunFits names before s (length fields) vs
run-fits names before s [] vs e = subst (RunFits names before s 0) (oks-same [] vs e) (record { all = tt; count_is = refl })
run-fits names before s (field ∷ fields) vs e = run-more names before s field fields vs (read_slot names before s field) (read_run names before s fields) (λ ws at. run-fits names before s fields ws at) refl e
