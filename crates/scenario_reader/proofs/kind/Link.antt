-- The line of a link: what one that passes says may be added, and that of a plan's link says it.
use Rattle.std.proofs.Common.{ℕ, ◌≡◌, zero, suc, ◌<◌, ◌≤◌, Bool, true, false, ◌&&◌, nat_eq, nat_le, nat_lt, List, [], ◌∷◌, ◌++◌, length, map, get_or, Option, Some, None, Ok, is_none, if◌then◌else◌, refl, sym, ◌∙◌, ap, subst, inl, inr, arith}
use Rattle.std.proofs.lemmas.Bool.{le-leb, lt-ltb, ltb-true, eqb-true, eqb-false, and_parts, and_from}
use Rattle.std.proofs.lemmas.List.{length-map}
use Rattle.std.proofs.lemmas.Option.{same_Some}
use Rattle.std.specs.Prelude.{unwrap_or, position}
use Rattle.net_units.specs.LevelBounds.{bound_at}
use Rattle.net_units.specs.Numbers.{link_number, link_at}
use Rattle.net_units.specs.Quotient.{ceil_quotient}
use Rattle.net_units.specs.Text.{is_name}
use Rattle.net_units.specs.declared.numbers.LinkNo.{LinkNo}
use Rattle.net_units.proofs.BoundsInOrder.{AreBounds, bounds-parts}
use Rattle.traffic_contract.specs.declared.admission.Test.{Test}
use Rattle.traffic_contract.specs.declared.admission.Test.TheVariants.{Whole, Least}
use Rattle.link_steps.specs.declared.quota.Quota.{Quota}
use Rattle.link_steps.specs.declared.shape.LinkShape.{LinkShape}
use Rattle.call_script.specs.Rules.{is_named, link_has_version, link_names}
use Rattle.call_script.specs.Versions.{test_of, has_best_effort, is_test}
use Rattle.call_script.specs.declared.entries.LinkEntry.{LinkEntry}
use Rattle.call_script.specs.declared.version.Version.{Version}
use Rattle.call_script.specs.declared.version.Version.TheVariants.{One}
use Rattle.line_forms.specs.Fields.{line_of, field_at}
use Rattle.line_forms.specs.Fitting.{AllFit, FitsForm}
use Rattle.line_forms.specs.Forms.{is_form}
use Rattle.line_forms.specs.Known.{KnownNames}
use Rattle.line_forms.specs.Reading.{read_line}
use Rattle.line_forms.specs.Values.{name_at, number_at, number_in}
use Rattle.line_forms.specs.Writing.{fields_with}
use Rattle.line_forms.specs.declared.form.Part.{Part}
use Rattle.line_forms.specs.declared.known.Set.TheVariants as set
use Rattle.line_forms.specs.declared.slot.Slot.TheVariants as slot
use Rattle.line_forms.specs.declared.value.FieldValue.{FieldValue}
use Rattle.line_forms.specs.declared.value.FieldValue.TheVariants as value
use Rattle.line_forms.specs.declared.value.Values.{Values}
use Rattle.line_forms.specs.declared.word.Keyword.TheVariants as word
use Rattle.line_forms.proofs.FitsByPlace.{slot_at, run_slot, run_most, number-fits, name-fits, new-fits, run-fits-form, as-many}
use Rattle.scenario_reader.specs.BothWays.{HasNames}
use Rattle.scenario_reader.specs.Causes.{unless}
use Rattle.scenario_reader.specs.Drafts.{Said, with_item}
use Rattle.scenario_reader.specs.Entries.{LinkNumbers, has_rate, has_room, has_bounds, shape_with, shape_where, shape_of}
use Rattle.scenario_reader.specs.Forms.{is_among}
use Rattle.scenario_reader.specs.Grammar.{is_passed_over}
use Rattle.scenario_reader.specs.Known.{FitsOne, names_said}
use Rattle.scenario_reader.specs.declared.cause.LineCause.TheVariants as cause
use Rattle.scenario_reader.specs.declared.item.Item.{Item}
use Rattle.scenario_reader.specs.declared.item.Item.TheVariants as item
use Rattle.scenario_reader.specs.line.Link.{AreFigures, plain_form, best_form, link_forms, link_numbers, link_rule, link_with, link_said, link_says, bound_values, link_values, link_fields}
use Rattle.scenario_reader.specs.line.Table.{line_word, MayAdd}
use Rattle.scenario_reader.proofs.Finding.NameLookup.{no-place, new-without-place}
use Rattle.scenario_reader.proofs.Passing.PassingLines.{all-pass, unless-passes, stated-ok, no-items, not-said}
use Rattle.scenario_reader.proofs.Passing.ReadBefore.{headed-is}
use Rattle.scenario_reader.proofs.Passing.ReadByForms.{first-form, later-form, line-reads}
use Rattle.scenario_reader.proofs.Back.RulesBack.{pass-all, unless-holds, stated-back}
use Rattle.scenario_reader.proofs.Back.SaysBack.{Reads, front}
use Rattle.scenario_reader.proofs.Finding.ShapeOfNumbers.{IsShape, AreWithin, link-is, shape-is}

-- ---- what a line says

-- no number stands past the last value
pub nothing-past : (ones : List FieldValue) (k : ℕ) → length ones ≤ k → number_at ones k ≡ 0
nothing-past [] k past = refl
nothing-past (v ∷ ones) zero past = absurd (omega (arith, past))
nothing-past (v ∷ ones) (suc k) past = nothing-past ones k (omega (arith, past))

-- without best-effort packets in its version a line says none
abbrev pub IsOfVersion : Version → ℕ → Type 0
IsOfVersion version best = (if has_best_effort version then true else nat_eq best 0) ≡ true

pub record SaysLink (version : Version) (said : Said) (values : Values) : Type 0 where
  pub name : List ℕ
  pub from : List ℕ
  pub to : List ℕ
  pub name_is : is_name name ≡ true
  pub from_is : is_name from ≡ true
  pub to_is : is_name to ≡ true
  pub new : position (is_named name) (link_names said.links) ≡ None
  pub name_here : name_at values.ones 0 ≡ Some name
  pub from_here : name_at values.ones 1 ≡ Some from
  pub to_here : name_at values.ones 2 ≡ Some to
  pub figures : AreFigures values
  pub version_is : IsOfVersion version (number_at values.ones 7)

bounds-small : (names : KnownNames) (before : ℕ) (run : List FieldValue) → AllFit names before (slot.Number 1 1048576) run → (k : ℕ) → number_at run k ≤ 1048576
bounds-small names before [] fit k = omega arith
bounds-small names before (value.Number bound ∷ run) fit zero = fit.0.most
bounds-small names before (value.Number bound ∷ run) fit (suc k) = bounds-small names before run fit.1 k
bounds-small names before (v ∷ run) fit k = absurd fit.0

-- the front of both forms
record IsLinkForm (form : List Part) : Type 0 where
  name : slot_at form 0 ≡ Some (slot.New set.Links)
  from : slot_at form 1 ≡ Some slot.Name
  to : slot_at form 2 ≡ Some slot.Name
  rate : slot_at form 3 ≡ Some (slot.Number 1 65536)
  cap : slot_at form 4 ≡ Some (slot.Number 1 65536)
  prop : slot_at form 5 ≡ Some (slot.Number 0 1048576)
  buffer : slot_at form 6 ≡ Some (slot.Number 0 262144)
  bounds : run_slot form ≡ Some (slot.Number 1 1048576)
  many : run_most form ≡ 8

form-says : (version : Version) (said : Said) (form : List Part) (values : Values) → IsLinkForm form → FitsForm (names_said said) form values → number_at values.ones 7 ≤ 1024 → IsOfVersion version (number_at values.ones 7) → SaysLink version said values
form-says version said form values is fits best of =
    let names = names_said said in
    let name = new-fits (names_said said) form values 0 set.Links fits is.name in
    let from = name-fits (names_said said) form values 1 fits is.from in
    let to = name-fits (names_said said) form values 2 fits is.to in
    let rate = number-fits (names_said said) form values 3 1 65536 fits is.rate in
    let cap = number-fits (names_said said) form values 4 1 65536 fits is.cap in
    let prop = number-fits (names_said said) form values 5 0 1048576 fits is.prop in
    let buffer = number-fits (names_said said) form values 6 0 262144 fits is.buffer in
    let run = run-fits-form (names_said said) form values (slot.Number 1 1048576) fits is.bounds in
    let few = run.is.few in
    let many = is.many in
    record {
      name = name.name;
      from = from.name;
      to = to.name;
      name_is = name.is;
      from_is = from.is;
      to_is = to.is;
      new = name.new;
      name_here = name.here;
      from_here = from.here;
      to_here = to.here;
      figures = record {
        rate_least = rate.least;
        rate_most = rate.most;
        cap_least = cap.least;
        cap_most = cap.most;
        prop_most = prop.most;
        buffer_most = buffer.most;
        best_most = best;
        few = omega (arith, few, many);
        small = bounds-small (names_said said) run.before values.run run.is.all;
      };
      version_is = of;
    }

plain-says : (version : Version) (said : Said) (values : Values) → FitsForm (names_said said) plain_form values → SaysLink version said values
plain-says version said values fits =
    let count = as-many (names_said said) 0 plain_form values.ones values.run fits in
    let none = nothing-past values.ones 7 (omega (arith, count)) in
    form-says version said plain_form values (record { name = refl; from = refl; to = refl; rate = refl; cap = refl; prop = refl; buffer = refl; bounds = refl; many = refl }) fits (omega (arith, none)) (none-said (has_best_effort version) none)
  where
    none-said : (has : Bool) → number_at values.ones 7 ≡ 0 → (if has then true else nat_eq (number_at values.ones 7) 0) ≡ true
    none-said true none = refl
    none-said false none = rw none refl

best-says : (version : Version) (said : Said) (values : Values) → has_best_effort version ≡ true → FitsForm (names_said said) best_form values → SaysLink version said values
best-says version said values has fits =
    let best = number-fits (names_said said) best_form values 7 1 1024 fits refl in
    form-says version said best_form values (record { name = refl; from = refl; to = refl; rate = refl; cap = refl; prop = refl; buffer = refl; bounds = refl; many = refl }) fits best.most (rw has refl)

pub says-link : (version : Version) (said : Said) (values : Values) → FitsOne (names_said said) (link_forms version) values → SaysLink version said values
says-link version said values fits = by (has_best_effort version) refl fits where
  by : (has : Bool) → has_best_effort version ≡ has → FitsOne (names_said said) (if has then plain_form ∷ best_form ∷ [] else plain_form ∷ []) values → SaysLink version said values
  by true has (inl plain) = plain-says version said values plain
  by true has (inr best) = best-says version said values has best
  by false has plain = plain-says version said values plain

-- so its numbers are within the limits of a link
pub figures-within : (values : Values) → AreFigures values → AreWithin (number_at values.ones 3) (number_at values.ones 4) (number_at values.ones 5) (number_at values.ones 6) (number_at values.ones 7)
figures-within values are = record {
  rates = and_from (nat_le 1 (number_at values.ones 3)) (nat_le (number_at values.ones 3) 65536) (le-leb 1 (number_at values.ones 3) are.rate_least) (le-leb (number_at values.ones 3) 65536 are.rate_most);
  caps = and_from (nat_le 1 (number_at values.ones 4)) (nat_le (number_at values.ones 4) 65536) (le-leb 1 (number_at values.ones 4) are.cap_least) (le-leb (number_at values.ones 4) 65536 are.cap_most);
  props = le-leb (number_at values.ones 5) 1048576 are.prop_most;
  buffers = le-leb (number_at values.ones 6) 262144 are.buffer_most;
  bests = le-leb (number_at values.ones 7) 1024 are.best_most;
}

-- the shape of numbers has them
shape-has : (link : LinkNo) (test : Test) (numbers : LinkNumbers) (shape : LinkShape) → shape_of link test numbers ≡ Some shape → IsShape link test numbers shape
unfolding shape_of
shape-has link test numbers shape e = by (has_rate numbers) (has_room numbers) (has_bounds numbers) refl refl refl e where
  by : (rates rooms bounds : Bool) (a : has_rate numbers ≡ rates) (b : has_room numbers ≡ rooms) (c : has_bounds numbers ≡ bounds)
      → shape_where link test numbers rates rooms bounds a b c ≡ Some shape → IsShape link test numbers shape
  by true true true a b c e =
      subst (IsShape link test numbers) (same_Some (shape_with link test numbers a b c) shape e)
      (record { link_is = refl; rate_is = refl; cap_is = refl; prop_is = refl; buffer_is = refl; bounds_are = refl; test_is = refl; best_is = refl })
  by false rooms bounds a b c e = cc
  by true false bounds a b c e = cc
  by true true false a b c e = cc

same-test : (test : Test) → is_test test test ≡ true
same-test Whole = refl
same-test Least = refl

-- the link that a line says
pub record NamesLink (version : Version) (said : Said) (values : Values) (what : Item) : Type 0 where
  pub shape : LinkShape
  pub shape_is : shape_of (link_at (length said.links)) (test_of version) (link_numbers values) ≡ Some shape
  pub says : SaysLink version said values
  pub few : length said.links < 32
  pub is : item.Link (record { name = says.name; from = says.from; to = says.to; shape = shape; quotas = [] }) ≡ what

pub link-named-so : (version : Version) (said : Said) (values : Values) (what : Item) → FitsOne (names_said said) (link_forms version) values → link_says version said values ≡ Ok what → NamesLink version said values what
link-named-so version said values what fits told =
    let says = says-link version said values fits in
    let rules = unless (nat_lt (length said.links) 32) cause.Many ∷ unless (has_bounds (link_numbers values)) cause.Levels ∷ [] in
    let p = stated-ok (link_rule said values) (link_said version said values) what told in
    let q = all-pass rules p.0 in
    let named : link_with (Some says.name) (Some says.from) (Some says.to) (shape_of (link_at (length said.links)) (test_of version) (link_numbers values)) ≡ Some what =
    ap (λ (n : Option (List ℕ)). link_with n (Some says.from) (Some says.to) (shape_of (link_at (length said.links)) (test_of version) (link_numbers values))) (sym says.name_here)
    ∙ ap (λ (f : Option (List ℕ)). link_with (name_at values.ones 0) f (Some says.to) (shape_of (link_at (length said.links)) (test_of version) (link_numbers values))) (sym says.from_here)
    ∙ ap (λ (t : Option (List ℕ)). link_with (name_at values.ones 0) (name_at values.ones 1) t (shape_of (link_at (length said.links)) (test_of version) (link_numbers values))) (sym says.to_here) ∙ p.1 in
    by says (shape_of (link_at (length said.links)) (test_of version) (link_numbers values)) refl named (ltb-true (length said.links) 32 (unless-passes (nat_lt (length said.links) 32) cause.Many q.0))
  where
    by : (says : SaysLink version said values) (found : Option LinkShape) → shape_of (link_at (length said.links)) (test_of version) (link_numbers values) ≡ found → link_with (Some says.name) (Some says.from) (Some says.to) found ≡ Some what → length said.links < 32 → NamesLink version said values what
    by says None at e few = cc
    by says (Some shape) at e few = record { shape = shape; shape_is = at; says = says; few = few; is = same_Some (item.Link (record { name = says.name; from = says.from; to = says.to; shape = shape; quotas = [] })) what e }

pub link-may : (version : Version) (said : Said) (values : Values) (what : Item) → said.version ≡ Some version → (nat_eq (length said.groups) 0 && nat_eq (length said.callers) 0 && is_none said.rounds) ≡ true
    → FitsOne (names_said said) (link_forms version) values → link_says version said values ≡ Ok what → MayAdd said what
link-may version said values what v stands fits told =
    let named = link-named-so version said values what fits told in
    let may = and_parts (nat_eq (length said.groups) 0 && nat_eq (length said.callers) 0) (is_none said.rounds) stands in
    let nobody = and_parts (nat_eq (length said.groups) 0) (nat_eq (length said.callers) 0) may.0 in
    let has = shape-has (link_at (length said.links)) (test_of version) (link_numbers values) named.shape named.shape_is in
    let few = named.few in
    subst (MayAdd said) named.is (record {
      before = record { headed = headed-is said version v; unrounded = not-said said.rounds may.1 };
      link = record {
        first = no-items said.callers nobody.1;
        version = subst (λ (w : Version). (is_test (test_of w) named.shape.test && (if has_best_effort w then true else nat_eq named.shape.best 0)) ≡ true) (sym (ap (λ o. unwrap_or o One) v))
            (and_from (is_test (test_of version) named.shape.test) (if has_best_effort version then true else nat_eq named.shape.best 0)
            (rw has.test_is (same-test (test_of version))) (rw has.best_is named.says.version_is));
        name = new-without-place (link_names said.links) named.says.name named.says.new;
        few = named.few;
        number = ap link_number has.link_is ∙ omega (arith, few);
        unsplit = refl;
      };
    })

-- ---- the links of a plan

numbers_of : LinkEntry → LinkNumbers
numbers_of entry = record { rate = entry.shape.rate; cap = entry.shape.cap; prop = entry.shape.prop; buffer = entry.shape.buffer; best = entry.shape.best; bounds = entry.shape.bounds }

has-its-bounds : (entry : LinkEntry) → has_bounds (numbers_of entry) ≡ true
unfolding numbers_of
has-its-bounds entry = rw (entry.shape.bounds_rise, le-leb (ceil_quotient entry.shape.cap entry.shape.rate) (bound_at entry.shape.bounds 1) entry.shape.blocking_fits) refl

equal-test : (a b : Test) → is_test a b ≡ true → b ≡ a
equal-test Whole Whole e = refl
equal-test Whole Least e = cc
equal-test Least Whole e = cc
equal-test Least Least e = refl

its-shape : (version : Version) (n : ℕ) (entry : LinkEntry) → n < 32 → link_number entry.shape.link ≡ n → is_test (test_of version) entry.shape.test ≡ true → shape_of (link_at n) (test_of version) (numbers_of entry) ≡ Some entry.shape
unfolding numbers_of
its-shape version n entry few number test =
    shape-is (link_at n) (test_of version) (numbers_of entry) entry.shape
    (rw (le-leb 1 entry.shape.rate entry.shape.rate_least, le-leb entry.shape.rate 65536 entry.shape.rate_most, le-leb 1 entry.shape.cap entry.shape.cap_least, le-leb entry.shape.cap 65536 entry.shape.cap_most) refl)
    (rw (le-leb entry.shape.prop 1048576 entry.shape.prop_most, le-leb entry.shape.buffer 262144 entry.shape.buffer_most, le-leb entry.shape.best 1024 entry.shape.best_most) refl)
    (has-its-bounds entry)
    (record { link_is = link-is entry.shape.link n few number; rate_is = refl; cap_is = refl; prop_is = refl; buffer_is = refl; bounds_are = refl; test_is = equal-test (test_of version) entry.shape.test test; best_is = refl })

-- a link that may be added, of this version
pub record IsNextLink (version : Version) (links : List LinkEntry) (entry : LinkEntry) : Type 0 where
  pub named : HasNames entry
  pub kept : link_has_version version entry ≡ true
  pub new : is_among (link_names links) entry.name ≡ false
  pub few : length links < 32
  pub number : link_number entry.shape.link ≡ length links
  pub unsplit : entry.quotas ≡ []

pub entry-bounds : (entry : LinkEntry) → AreBounds entry.shape.bounds
entry-bounds entry = bounds-parts entry.shape.bounds entry.shape.bounds_rise

bounds-again : (bounds : List ℕ) → map number_in (bound_values bounds) ≡ bounds
bounds-again [] = refl
bounds-again (bound ∷ bounds) = ap (λ (rest : List ℕ). bound ∷ rest) (bounds-again bounds)

bounds-fit-line : (names : KnownNames) (before : ℕ) (bounds : List ℕ) → ((i : ℕ) → i < length bounds → (1 ≤ get_or bounds i 0) × (get_or bounds i 0 ≤ 1048576)) → AllFit names before (slot.Number 1 1048576) (bound_values bounds)
bounds-fit-line names before [] each = tt
bounds-fit-line names before (bound ∷ bounds) each =
    let first = each 0 (omega arith) in
    let most = first.1 in
    (record { least = first.0; most = most; short = omega (arith, most) }, bounds-fit-line names before bounds (λ i h. each (suc i) (omega (arith, h))))

-- what the rules of a link say of its line
link-reads-as : (version : Version) (links : List LinkEntry) (entry : LinkEntry) (form : List Part) (values : Values) → IsNextLink version links entry → link_fields entry ≡ fields_with form values → is_form form ≡ true → FitsForm (names_said (front version links [] [] [])) form values
    → line_word (field_at (fields_with form values) 0) ≡ Some word.Link → is_passed_over (line_of (fields_with form values)) ≡ false → read_line (names_said (front version links [] [] [])) (link_forms version) (fields_with form values) ≡ Ok values
    → link_numbers values ≡ numbers_of entry → name_at values.ones 0 ≡ Some entry.name → name_at values.ones 1 ≡ Some entry.from → name_at values.ones 2 ≡ Some entry.to
    → Reads (link_fields entry ∷ []) (front version links [] [] []) (front version (links ++ entry ∷ []) [] [] [])
link-reads-as version links entry form values next same is fits begins counts read numbers name from to =
    let said = front version links [] [] [] in
    let test = (and_parts (is_test (test_of version) entry.shape.test) _ next.kept).0 in
    let shape = ap (shape_of (link_at (length links)) (test_of version)) numbers ∙ its-shape version (length links) entry next.few next.number test in
    let levels : has_bounds (link_numbers values) ≡ true = ap has_bounds numbers ∙ has-its-bounds entry in
    let rules = unless (nat_lt (length links) 32) cause.Many ∷ unless (has_bounds (link_numbers values)) cause.Levels ∷ [] in
    let passes = pass-all rules (unless-holds (nat_lt (length links) 32) cause.Many (lt-ltb (length links) 32 next.few), (unless-holds (has_bounds (link_numbers values)) cause.Levels levels, tt)) in
    let told : link_said version said values ≡ Some (item.Link entry) =
    rw (name, from, to, shape) (ap (λ (quotas : List Quota). Some (item.Link (record { name = entry.name; from = entry.from; to = entry.to; shape = entry.shape; quotas = quotas }))) (sym next.unsplit)) in
    subst (λ (fields : List (List ℕ)). Reads (fields ∷ []) said (with_item (item.Link entry) said)) (sym same)
    (line-reads version said word.Link form values (item.Link entry) (record {
      headed = refl;
      stands = refl;
      is = is;
      fits = fits;
      begins = begins;
      counts = counts;
      read = read;
    }) (λ number. stated-back (link_rule said values) (link_said version said values) (item.Link entry) passes told) (λ number. refl))

effort : (has : Bool) (none : Bool) → (if has then true else none) ≡ true → none ≡ false → has ≡ true
effort true none e f = refl
effort false none e f = (let clash : true ≡ false = sym e ∙ f in cc)

plain-first : (names : KnownNames) (has : Bool) (values : Values) → FitsForm names plain_form values → read_line names (if has then plain_form ∷ best_form ∷ [] else plain_form ∷ []) (fields_with plain_form values) ≡ Ok values
plain-first names true values fits = first-form names plain_form (best_form ∷ []) values refl fits
plain-first names false values fits = first-form names plain_form [] values refl fits

pub link-read : (version : Version) (links : List LinkEntry) (entry : LinkEntry) → IsNextLink version links entry → Reads (link_fields entry ∷ []) (front version links [] [] []) (front version (links ++ entry ∷ []) [] [] [])
unfolding numbers_of
link-read version links entry next = by (nat_eq entry.shape.best 0) refl where
  by : (none : Bool) → nat_eq entry.shape.best 0 ≡ none → Reads (link_fields entry ∷ []) (front version links [] [] []) (front version (links ++ entry ∷ []) [] [] [])
  by true e =
      let b = entry-bounds entry in
      let count = length-map entry.shape.bounds value.Number in
      let least = b.least in
      let most = b.most in
      let rate = entry.shape.rate_most in
      let cap = entry.shape.cap_most in
      let prop = entry.shape.prop_most in
      let buffer = entry.shape.buffer_most in
      let values = link_values entry [] in
      let fits : FitsForm (names_said (front version links [] [] [])) plain_form (link_values entry []) = (
        (next.named.name, no-place (is_named entry.name) (link_names links) next.new),
        (
          next.named.from,
          (
            next.named.to,
            (
              record { least = entry.shape.rate_least; most = rate; short = omega (arith, rate) },
              (
                record { least = entry.shape.cap_least; most = cap; short = omega (arith, cap) },
                (
                  record { least = omega arith; most = prop; short = omega (arith, prop) },
                  (
                    record { least = omega arith; most = buffer; short = omega (arith, buffer) },
                    (record { least = omega (arith, count, least); few = omega (arith, count, most); all = bounds-fit-line (names_said (front version links [] [] [])) entry.shape.buffer entry.shape.bounds b.each }, tt),
                  ),
                ),
              ),
            ),
          ),
        ),
      ) in
      link-reads-as version links entry plain_form (link_values entry []) next (rw e refl) refl fits refl refl (plain-first (names_said (front version links [] [] [])) (has_best_effort version) (link_values entry []) fits)
      (rw (bounds-again entry.shape.bounds, eqb-true entry.shape.best 0 e) refl) refl refl refl
  by false e =
      let b = entry-bounds entry in
      let count = length-map entry.shape.bounds value.Number in
      let least = b.least in
      let most = b.most in
      let rate = entry.shape.rate_most in
      let cap = entry.shape.cap_most in
      let prop = entry.shape.prop_most in
      let buffer = entry.shape.buffer_most in
      let best = entry.shape.best_most in
      let has = effort (has_best_effort version) (nat_eq entry.shape.best 0) (and_parts (is_test (test_of version) entry.shape.test) _ next.kept).1 e in
      let some : 1 ≤ entry.shape.best = (let other = eqb-false entry.shape.best 0 e in omega (arith, other)) in
      let fits : FitsForm (names_said (front version links [] [] [])) best_form (link_values entry (value.Number entry.shape.best ∷ [])) = (
        (next.named.name, no-place (is_named entry.name) (link_names links) next.new),
        (
          next.named.from,
          (
            next.named.to,
            (
              record { least = entry.shape.rate_least; most = rate; short = omega (arith, rate) },
              (
                record { least = entry.shape.cap_least; most = cap; short = omega (arith, cap) },
                (
                  record { least = omega arith; most = prop; short = omega (arith, prop) },
                  (
                    record { least = omega arith; most = buffer; short = omega (arith, buffer) },
                    (
                      record { least = some; most = best; short = omega (arith, best) },
                      (record { least = omega (arith, count, least); few = omega (arith, count, most); all = bounds-fit-line (names_said (front version links [] [] [])) entry.shape.best entry.shape.bounds b.each }, tt),
                    ),
                  ),
                ),
              ),
            ),
          ),
        ),
      ) in
      link-reads-as version links entry best_form (link_values entry (value.Number entry.shape.best ∷ [])) next (rw e refl) refl fits refl refl
      (rw has (later-form (names_said (front version links [] [] [])) plain_form (best_form ∷ []) (fields_with best_form (link_values entry (value.Number entry.shape.best ∷ []))) (link_values entry (value.Number entry.shape.best ∷ [])) refl
      (first-form (names_said (front version links [] [] [])) best_form [] (link_values entry (value.Number entry.shape.best ∷ [])) refl fits)))
      (rw (bounds-again entry.shape.bounds) refl) refl refl refl
