-- The line of a caller: what one that passes says may be added, and that of a plan's caller says it.
use Rattle.std.proofs.Common.{ℕ, ◌≡◌, ◌<◌, ◌≤◌, Bool, true, false, not, ◌&&◌, ◌||◌, nat_eq, nat_lt, List, [], ◌∷◌, ◌++◌, length, Some, None, Ok, is_none, if◌then◌else◌, option_map, refl, sym, ◌∙◌, ap, subst, inl, inr, arith}
use Rattle.std.proofs.lemmas.Bool.{lt-ltb, ltb-true, le-leb, leb-true, eqb-true, eqb-false, and_parts, and_from, or_left, or_right}
use Rattle.std.proofs.lemmas.Option.{same_Some}
use Rattle.std.specs.Prelude.{unwrap_or}
use Rattle.net_units.specs.Text.{is_name}
use Rattle.call_script.specs.Groups.{group_has_version, group_is_there}
use Rattle.call_script.specs.Growing.{new_caller}
use Rattle.call_script.specs.Rules.{is_named, caller_names}
use Rattle.call_script.specs.Versions.{has_groups}
use Rattle.call_script.specs.declared.entries.CallerEntry.{CallerEntry}
use Rattle.call_script.specs.declared.entries.LinkEntry.{LinkEntry}
use Rattle.call_script.specs.declared.entries.RequestEntry.{RequestEntry}
use Rattle.call_script.specs.declared.version.Version.{Version}
use Rattle.call_script.specs.declared.version.Version.TheVariants.{One}
use Rattle.line_forms.specs.Fitting.{FitsForm, FitParts}
use Rattle.line_forms.specs.Fields.{line_of, field_at}
use Rattle.line_forms.specs.Forms.{is_form}
use Rattle.line_forms.specs.Known.{KnownNames}
use Rattle.line_forms.specs.Reading.{read_line}
use Rattle.line_forms.specs.Values.{name_at, number_at, with_ones}
use Rattle.line_forms.specs.Writing.{fields_with}
use Rattle.line_forms.specs.declared.form.Part.{Part}
use Rattle.line_forms.specs.declared.known.Set.TheVariants as set
use Rattle.line_forms.specs.declared.value.FieldValue.{FieldValue}
use Rattle.line_forms.specs.declared.value.FieldValue.TheVariants as value
use Rattle.line_forms.specs.declared.value.Values.{Values}
use Rattle.line_forms.specs.declared.word.Keyword.TheVariants as word
use Rattle.line_forms.proofs.FitsByPlace.{new-fits, known-fits}
use Rattle.scenario_reader.specs.Causes.{unless}
use Rattle.scenario_reader.specs.Drafts.{Said, caller_named, with_item}
use Rattle.scenario_reader.specs.Grammar.{is_passed_over}
use Rattle.scenario_reader.specs.Forms.{is_among}
use Rattle.scenario_reader.specs.Known.{FitsOne, names_said}
use Rattle.scenario_reader.specs.declared.cause.LineCause.TheVariants as cause
use Rattle.scenario_reader.specs.declared.item.Item.{Item}
use Rattle.scenario_reader.specs.declared.item.Item.TheVariants as item
use Rattle.scenario_reader.specs.line.Caller.{caller_form, member_form, caller_forms, caller_of, caller_says, fields_of_member, caller_fields}
use Rattle.scenario_reader.specs.line.Group.{group_name}
use Rattle.scenario_reader.specs.line.Table.{line_word, MayAdd}
use Rattle.scenario_reader.proofs.Finding.NameLookup.{no-place, new-without-place}
use Rattle.scenario_reader.proofs.Passing.PassingLines.{unless-passes, stated-ok, not-said}
use Rattle.scenario_reader.proofs.Passing.ReadBefore.{headed-is, some-items}
use Rattle.scenario_reader.proofs.Passing.ReadByForms.{first-form, later-form, line-reads}
use Rattle.scenario_reader.proofs.Back.RulesBack.{unless-holds, stated-back}
use Rattle.scenario_reader.proofs.Back.SaysBack.{Reads, front, not-none}
use Rattle.scenario_reader.proofs.kind.Group.{GroupsStand, group-here, group-there}

-- ---- what a line says may be added

-- a new name, and a group that the version may have and that is there, or none
pub record SaysCaller (version : Version) (said : Said) (values : Values) : Type 0 where
  pub name : List ℕ
  pub named : is_name name ≡ true
  pub here : name_at values.ones 0 ≡ Some name
  pub new : caller_named said.callers name ≡ None
  pub kept : group_has_version version (number_at values.ones 1) ≡ true
  pub there : number_at values.ones 1 ≤ length said.groups

no-group : (names : KnownNames) (ones run : List FieldValue) → FitParts names 0 caller_form ones run → number_at ones 1 ≡ 0
no-group names [] run fits = absurd fits
no-group names (v ∷ []) run fits = refl
no-group names (v ∷ w ∷ ones) run fits = absurd fits.1

plain-says : (version : Version) (said : Said) (values : Values) → FitsForm (names_said said) caller_form values → SaysCaller version said values
plain-says version said values fits =
    let at = new-fits (names_said said) caller_form values 0 set.Callers fits refl in
    let none = no-group (names_said said) values.ones values.run fits in
    record { name = at.name; named = at.is; here = at.here; new = at.new; kept = or_left (nat_eq (number_at values.ones 1) 0) (has_groups version) (rw none refl); there = omega (arith, none) }

member-says : (version : Version) (said : Said) (values : Values) → has_groups version ≡ true → FitsForm (names_said said) member_form values → SaysCaller version said values
member-says version said values has fits =
    let at = new-fits (names_said said) member_form values 0 set.Callers fits refl in
    let member = known-fits (names_said said) member_form values 1 set.Groups fits refl in
    record {
      name = at.name;
      named = at.is;
      here = at.here;
      new = at.new;
      kept = or_right (nat_eq (number_at values.ones 1) 0) (has_groups version) has;
      there = (group-there said.groups member.name (number_at values.ones 1) member.known).most;
    }

says-caller : (version : Version) (said : Said) (values : Values) → FitsOne (names_said said) (caller_forms version) values → SaysCaller version said values
says-caller version said values fits = by (has_groups version) refl fits where
  by : (has : Bool) → has_groups version ≡ has → FitsOne (names_said said) (if has then caller_form ∷ member_form ∷ [] else caller_form ∷ []) values → SaysCaller version said values
  by true has (inl plain) = plain-says version said values plain
  by true has (inr member) = member-says version said values has member
  by false has plain = plain-says version said values plain

-- so the number of its group is small
pub member_small : (version : Version) (said : Said) (values : Values) → FitsOne (names_said said) (caller_forms version) values → length said.groups ≤ 4 → number_at values.ones 1 ≤ 4
member_small version said values fits few = (let says = says-caller version said values fits in let there = says.there in omega (arith, there, few))

-- what it says
pub record NamesCaller (values : Values) (what : Item) (callers : ℕ) : Type 0 where
  pub name : List ℕ
  pub name_is : is_name name ≡ true
  pub few : callers < 64
  pub is : item.Caller name (number_at values.ones 1) ≡ what

pub caller-named : (version : Version) (said : Said) (values : Values) (what : Item) → FitsOne (names_said said) (caller_forms version) values → caller_says said values ≡ Ok what → NamesCaller values what (length said.callers)
caller-named version said values what fits says =
    let at = says-caller version said values fits in
    let p = stated-ok (unless (nat_lt (length said.callers) 64) cause.Many) (option_map (caller_of values) (name_at values.ones 0)) what says in
    record {
      name = at.name;
      name_is = at.named;
      few = ltb-true (length said.callers) 64 (unless-passes (nat_lt (length said.callers) 64) cause.Many p.0);
      is = same_Some (item.Caller at.name (number_at values.ones 1)) what (sym (ap (option_map (caller_of values)) at.here) ∙ p.1);
    }

pub caller-may : (version : Version) (said : Said) (values : Values) (what : Item) → said.version ≡ Some version → (not (nat_eq (length said.links) 0) && is_none said.rounds) ≡ true
    → FitsOne (names_said said) (caller_forms version) values → caller_says said values ≡ Ok what → MayAdd said what
caller-may version said values what v stands fits says =
    let at = says-caller version said values fits in
    let group = number_at values.ones 1 in
    let p = stated-ok (unless (nat_lt (length said.callers) 64) cause.Many) (option_map (caller_of values) (name_at values.ones 0)) what says in
    let same = same_Some (item.Caller at.name group) what (sym (ap (option_map (caller_of values)) at.here) ∙ p.1) in
    let may = and_parts (not (nat_eq (length said.links) 0)) (is_none said.rounds) stands in
    subst (MayAdd said) same (record {
      before = record { before = record { headed = headed-is said version v; unrounded = not-said said.rounds may.1 }; linked = some-items said.links may.0 };
      caller = record {
        new = new-without-place (caller_names said.callers) at.name at.new;
        few = ltb-true (length said.callers) 64 (unless-passes (nat_lt (length said.callers) 64) cause.Many p.0);
        version = subst (λ (w : Version). group_has_version w group ≡ true) (sym (ap (λ o. unwrap_or o One) v)) at.kept;
        there = le-leb group (length said.groups) at.there;
      };
    })

-- ---- the callers of a plan

-- a caller may be of this group, or of none
pub record IsMember (version : Version) (groups : List (List ℕ)) (group : ℕ) : Type 0 where
  pub kept : group_has_version version group ≡ true
  pub there : group_is_there groups group ≡ true
  pub stand : GroupsStand groups

-- a caller of this name and group may be next
pub record IsNextCaller (version : Version) (groups : List (List ℕ)) (callers : List CallerEntry) (name : List ℕ) (group : ℕ) : Type 0 where
  pub named : is_name name ≡ true
  pub new : is_among (caller_names callers) name ≡ false
  pub few : length callers < 64
  pub member : IsMember version groups group

pub has-of : (none has : Bool) → (none || has) ≡ true → none ≡ false → has ≡ true
has-of true has either e = cc
has-of false has either e = either

-- the first of the forms of any version
plain-first : (names : KnownNames) (has : Bool) (values : Values) → FitsForm names caller_form values → read_line names (if has then caller_form ∷ member_form ∷ [] else caller_form ∷ []) (fields_with caller_form values) ≡ Ok values
plain-first names true values fits = first-form names caller_form (member_form ∷ []) values refl fits
plain-first names false values fits = first-form names caller_form [] values refl fits

caller-reads : (version : Version) (said : Said) (name : List ℕ) (group : ℕ) (form : List Part) (values : Values) → caller_fields said.groups name group ≡ fields_with form values → said.version ≡ Some version
    → (not (nat_eq (length said.links) 0) && is_none said.rounds) ≡ true → is_form form ≡ true → FitsForm (names_said said) form values → line_word (field_at (fields_with form values) 0) ≡ Some word.Caller → is_passed_over (line_of (fields_with form values)) ≡ false
    → read_line (names_said said) (caller_forms version) (fields_with form values) ≡ Ok values → option_map (caller_of values) (name_at values.ones 0) ≡ Some (item.Caller name group) → length said.callers < 64
    → Reads (caller_fields said.groups name group ∷ []) said (with_item (item.Caller name group) said)
caller-reads version said name group form values same v stands is fits begins counts read says few =
    subst (λ (fields : List (List ℕ)). Reads (fields ∷ []) said (with_item (item.Caller name group) said)) (sym same)
    (line-reads version said word.Caller form values (item.Caller name group) (record {
      headed = v;
      stands = stands;
      is = is;
      fits = fits;
      begins = begins;
      counts = counts;
      read = read;
    }) (λ number. stated-back (unless (nat_lt (length said.callers) 64) cause.Many) (option_map (caller_of values) (name_at values.ones 0)) (item.Caller name group) (unless-holds (nat_lt (length said.callers) 64) cause.Many (lt-ltb (length said.callers) 64 few)) says) (λ number. refl))

pub caller-read : (version : Version) (links : List LinkEntry) (groups : List (List ℕ)) (requests : List RequestEntry) (callers : List CallerEntry) (name : List ℕ) (group : ℕ) → 1 ≤ length links → IsNextCaller version groups callers name group
    → Reads (caller_fields groups name group ∷ []) (front version links groups requests callers) (front version links groups requests (callers ++ new_caller name group ∷ []))
caller-read version links groups requests callers name group some is = by (nat_eq group 0) refl where
  by : (none : Bool) → nat_eq group 0 ≡ none → Reads (caller_fields groups name group ∷ []) (front version links groups requests callers) (front version links groups requests (callers ++ new_caller name group ∷ []))
  by true e =
      let values = with_ones (value.Name name ∷ []) in
      let fits : FitsForm (names_said (front version links groups requests callers)) caller_form values = ((is.named, no-place (is_named name) (caller_names callers) is.new), tt) in
      caller-reads version (front version links groups requests callers) name group caller_form values (rw e refl) refl (and_from (not (nat_eq (length links) 0)) true (not-none links some) refl) refl fits refl refl
      (plain-first (names_said (front version links groups requests callers)) (has_groups version) values fits) (ap (λ (g : ℕ). Some (item.Caller name g)) (sym (eqb-true group 0 e))) is.few
  by false e =
      let other = eqb-false group 0 e in
      let within : group ≤ length groups = leb-true group (length groups) is.member.there in
      let here = group-here groups group is.member.stand (omega (arith, other)) within in
      let has = has-of (nat_eq group 0) (has_groups version) is.member.kept e in
      let values = with_ones (value.Name name ∷ value.Known (group_name groups group) group ∷ []) in
      let fits : FitsForm (names_said (front version links groups requests callers)) member_form values = ((is.named, no-place (is_named name) (caller_names callers) is.new), ((here.name, here.found), tt)) in
      caller-reads version (front version links groups requests callers) name group member_form values (rw e (ap (fields_of_member name) here.at)) refl (and_from (not (nat_eq (length links) 0)) true (not-none links some) refl) refl fits refl refl
      (rw has (later-form (names_said (front version links groups requests callers)) caller_form (member_form ∷ []) (fields_with member_form values) values refl (first-form (names_said (front version links groups requests callers)) member_form [] values refl fits))) refl is.few
