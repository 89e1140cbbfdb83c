-- What values that fit a form say at each place: the value of a field is what the field has to be, and so are those of a run.
use Rattle.std.proofs.Common.{◌≡◌, ◌<◌, true, false, ℕ, zero, suc, List, [], ◌∷◌, Option, Some, None, length, get_or, refl, ap, subst, arith}
use Rattle.std.proofs.lemmas.Option.{same_Some}
use Rattle.net_units.specs.Text.{is_name}
use Rattle.line_forms.specs.Fitting.{Fits, AllFit, IsInRange, IsRun, FitParts, FitsForm}
use Rattle.line_forms.specs.Forms.{ones_of}
use Rattle.line_forms.specs.Known.{KnownNames}
use Rattle.line_forms.specs.Values.{number_in, named_in, number_at, name_at}
use Rattle.line_forms.specs.declared.form.Part.{Part}
use Rattle.line_forms.specs.declared.form.Part.TheVariants as part
use Rattle.line_forms.specs.declared.known.Set.{Set}
use Rattle.line_forms.specs.declared.slot.Slot.{Slot}
use Rattle.line_forms.specs.declared.slot.Slot.TheVariants as slot
use Rattle.line_forms.specs.declared.value.FieldValue.{FieldValue}
use Rattle.line_forms.specs.declared.value.FieldValue.TheVariants as value
use Rattle.line_forms.specs.declared.value.Values.{Values}

-- what the field at a place of its own has to be, from 0
abbrev pub slot_at : List Part → ℕ → Option Slot
slot_at [] k = None
slot_at (part.Word keyword ∷ parts) k = slot_at parts k
slot_at (part.One s ∷ parts) zero = Some s
slot_at (part.One s ∷ parts) (suc k) = slot_at parts k
slot_at (part.Route of ∷ parts) k = slot_at parts k
slot_at (part.Numbers low high ∷ parts) k = slot_at parts k

-- the number of the known name before it
abbrev pub before_at : ℕ → List FieldValue → ℕ → ℕ
before_at before ones zero = before
before_at before ones (suc k) = number_at ones k

at-place : (names : KnownNames) (before : ℕ) (parts : List Part) (ones run : List FieldValue) (k : ℕ) (s : Slot) → FitParts names before parts ones run → slot_at parts k ≡ Some s → Fits names (before_at before ones k) s (get_or ones k value.Plane)
at-place names before [] ones run k s fit e = cc
at-place names before (part.Word keyword ∷ parts) ones run k s fit e = at-place names before parts ones run k s fit e
at-place names before (part.One t ∷ parts) [] run k s fit e = absurd fit
at-place names before (part.One t ∷ parts) (v ∷ ones) run zero s fit e = subst (λ u. Fits names before u v) (same_Some t s e) fit.0
at-place names before (part.One t ∷ parts) (v ∷ ones) run (suc zero) s fit e = at-place names (number_in v) parts ones run zero s fit.1 e
at-place names before (part.One t ∷ parts) (v ∷ ones) run (suc (suc k)) s fit e = at-place names (number_in v) parts ones run (suc k) s fit.1 e
at-place names before (part.Route of ∷ parts) ones run k s fit e = at-place names before parts ones [] k s fit.1 e
at-place names before (part.Numbers low high ∷ parts) ones run k s fit e = at-place names before parts ones [] k s fit.1 e

-- ---- one field

as-number : (names : KnownNames) (before low high : ℕ) (v : FieldValue) → Fits names before (slot.Number low high) v → IsInRange low high (number_in v)
as-number names before low high (value.Number number) fit = fit
as-number names before low high v fit = absurd fit

-- the number at a place stands in its range
pub number-fits : (names : KnownNames) (form : List Part) (values : Values) (k low high : ℕ) → FitsForm names form values → slot_at form k ≡ Some (slot.Number low high) → IsInRange low high (number_at values.ones k)
number-fits names form values k low high fit e = as-number names (before_at 0 values.ones k) low high (get_or values.ones k value.Plane) (at-place names 0 form values.ones values.run k (slot.Number low high) fit e)

-- a name stands at a place
pub record IsNameAt (ones : List FieldValue) (k : ℕ) : Type 0 where
  pub name : List ℕ
  pub is : is_name name ≡ true
  pub here : name_at ones k ≡ Some name

as-name : (names : KnownNames) (before : ℕ) (v : FieldValue) → Fits names before slot.Name v → (name : List ℕ) × (is_name name ≡ true) × (named_in v ≡ Some name)
as-name names before (value.Name name) fit = (name, fit, refl)
as-name names before v fit = absurd fit

pub name-fits : (names : KnownNames) (form : List Part) (values : Values) (k : ℕ) → FitsForm names form values → slot_at form k ≡ Some slot.Name → IsNameAt values.ones k
name-fits names form values k fit e =
    let p = as-name names (before_at 0 values.ones k) (get_or values.ones k value.Plane) (at-place names 0 form values.ones values.run k slot.Name fit e) in
    record { name = p.0; is = p.1; here = p.2 }

-- a new name stands there
pub record IsNewAt (names : KnownNames) (of : Set) (ones : List FieldValue) (k : ℕ) : Type 0 where
  pub name : List ℕ
  pub is : is_name name ≡ true
  pub new : names.number of name ≡ None
  pub here : name_at ones k ≡ Some name

as-new : (names : KnownNames) (before : ℕ) (of : Set) (v : FieldValue) → Fits names before (slot.New of) v → (name : List ℕ) × (is_name name ≡ true) × (names.number of name ≡ None) × (named_in v ≡ Some name)
as-new names before of (value.Name name) fit = (name, fit.0, fit.1, refl)
as-new names before of v fit = absurd fit

pub new-fits : (names : KnownNames) (form : List Part) (values : Values) (k : ℕ) (of : Set) → FitsForm names form values → slot_at form k ≡ Some (slot.New of) → IsNewAt names of values.ones k
new-fits names form values k of fit e =
    let p = as-new names (before_at 0 values.ones k) of (get_or values.ones k value.Plane) (at-place names 0 form values.ones values.run k (slot.New of) fit e) in
    record { name = p.0; is = p.1; new = p.2; here = p.3 }

-- a known name stands there, with its number
pub record IsKnownAt (names : KnownNames) (of : Set) (ones : List FieldValue) (k : ℕ) : Type 0 where
  pub name : List ℕ
  pub is : is_name name ≡ true
  pub known : names.number of name ≡ Some (number_at ones k)
  pub here : name_at ones k ≡ Some name

as-known : (names : KnownNames) (before : ℕ) (of : Set) (v : FieldValue) → Fits names before (slot.Known of) v → (name : List ℕ) × (is_name name ≡ true) × (names.number of name ≡ Some (number_in v)) × (named_in v ≡ Some name)
as-known names before of (value.Known name number) fit = (name, fit.0, fit.1, refl)
as-known names before of v fit = absurd fit

pub known-fits : (names : KnownNames) (form : List Part) (values : Values) (k : ℕ) (of : Set) → FitsForm names form values → slot_at form k ≡ Some (slot.Known of) → IsKnownAt names of values.ones k
known-fits names form values k of fit e =
    let p = as-known names (before_at 0 values.ones k) of (get_or values.ones k value.Plane) (at-place names 0 form values.ones values.run k (slot.Known of) fit e) in
    record { name = p.0; is = p.1; known = p.2; here = p.3 }

-- and there is no pair with the known name before it
pub record IsOnceAt (names : KnownNames) (of : Set) (ones : List FieldValue) (k : ℕ) : Type 0 where
  pub at : IsKnownAt names of ones k
  pub unpaired : names.paired (before_at 0 ones k) (number_at ones k) ≡ false

as-once : (names : KnownNames) (before : ℕ) (of : Set) (v : FieldValue) → Fits names before (slot.Once of) v → (name : List ℕ) × (is_name name ≡ true) × (names.number of name ≡ Some (number_in v)) × (named_in v ≡ Some name) × (names.paired before (number_in v) ≡ false)
as-once names before of (value.Known name number) fit = (name, fit.0, fit.1, refl, fit.2)
as-once names before of v fit = absurd fit

pub once-fits : (names : KnownNames) (form : List Part) (values : Values) (k : ℕ) (of : Set) → FitsForm names form values → slot_at form k ≡ Some (slot.Once of) → IsOnceAt names of values.ones k
once-fits names form values k of fit e =
    let p = as-once names (before_at 0 values.ones k) of (get_or values.ones k value.Plane) (at-place names 0 form values.ones values.run k (slot.Once of) fit e) in
    record { at = record { name = p.0; is = p.1; known = p.2; here = p.3 }; unpaired = p.4 }

-- an actor stands there
pub actor-fits : (names : KnownNames) (form : List Part) (values : Values) (k : ℕ) → FitsForm names form values → slot_at form k ≡ Some slot.Actor → Fits names (before_at 0 values.ones k) slot.Actor (get_or values.ones k value.Plane)
actor-fits names form values k fit e = at-place names 0 form values.ones values.run k slot.Actor fit e

-- ---- several fields

-- what each value of the run has to be, and how many there may be
abbrev pub run_slot : List Part → Option Slot
run_slot [] = None
run_slot (part.Word keyword ∷ parts) = run_slot parts
run_slot (part.One s ∷ parts) = run_slot parts
run_slot (part.Route of ∷ parts) = Some (slot.Known of)
run_slot (part.Numbers low high ∷ parts) = Some (slot.Number low high)

abbrev pub run_most : List Part → ℕ
run_most [] = 0
run_most (part.Word keyword ∷ parts) = run_most parts
run_most (part.One s ∷ parts) = run_most parts
run_most (part.Route of ∷ parts) = 16
run_most (part.Numbers low high ∷ parts) = 8

pub record IsRunOf (names : KnownNames) (s : Slot) (most : ℕ) (run : List FieldValue) : Type 0 where
  pub before : ℕ
  pub is : IsRun names before most s run

run-at : (names : KnownNames) (before : ℕ) (parts : List Part) (ones run : List FieldValue) (s : Slot) → FitParts names before parts ones run → run_slot parts ≡ Some s → IsRunOf names s (run_most parts) run
run-at names before [] ones run s fit e = cc
run-at names before (part.Word keyword ∷ parts) ones run s fit e = run-at names before parts ones run s fit e
run-at names before (part.One t ∷ parts) [] run s fit e = absurd fit
run-at names before (part.One t ∷ parts) (v ∷ ones) run s fit e = run-at names (number_in v) parts ones run s fit.1 e
run-at names before (part.Route of ∷ parts) ones run s fit e = subst (λ t. IsRunOf names t 16 run) (same_Some (slot.Known of) s e) (record { before = before; is = fit.0 })
run-at names before (part.Numbers low high ∷ parts) ones run s fit e = subst (λ t. IsRunOf names t 8 run) (same_Some (slot.Number low high) s e) (record { before = before; is = fit.0 })

pub run-fits-form : (names : KnownNames) (form : List Part) (values : Values) (s : Slot) → FitsForm names form values → run_slot form ≡ Some s → IsRunOf names s (run_most form) values.run
run-fits-form names form values s fit e = run-at names 0 form values.ones values.run s fit e

-- the number at a place of a run stands in its range
pub run-number-fits : (names : KnownNames) (before low high : ℕ) (run : List FieldValue) (k : ℕ) → AllFit names before (slot.Number low high) run → k < length run → IsInRange low high (number_at run k)
run-number-fits names before low high [] k fit h = absurd (omega (arith, h))
run-number-fits names before low high (v ∷ run) zero fit h = as-number names before low high v fit.0
run-number-fits names before low high (v ∷ run) (suc k) fit h = run-number-fits names before low high run k fit.1 (omega (arith, h))

-- ---- as many as the form has

pub as-many : (names : KnownNames) (before : ℕ) (parts : List Part) (ones run : List FieldValue) → FitParts names before parts ones run → length ones ≡ ones_of parts
as-many names before [] [] [] fit = refl
as-many names before (part.Word keyword ∷ parts) ones run fit = as-many names before parts ones run fit
as-many names before (part.One t ∷ parts) (v ∷ ones) run fit = ap suc (as-many names (number_in v) parts ones run fit.1)
as-many names before (part.Route of ∷ parts) ones run fit = as-many names before parts ones [] fit.1
as-many names before (part.Numbers low high ∷ parts) ones run fit = as-many names before parts ones [] fit.1
as-many names before parts ones run fit = absurd fit
