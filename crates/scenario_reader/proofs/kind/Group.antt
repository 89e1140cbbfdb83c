-- The line of a group: what one that passes says may be added, and that of a plan's group says it. A group goes by its name.
use Rattle.std.proofs.Common.{ℕ, ◌≡◌, zero, suc, ◌-◌, ◌<◌, ◌≤◌, true, false, not, ◌&&◌, nat_lt, List, [], ◌∷◌, ◌++◌, length, map, Option, Some, None, Ok, position, option_map, refl, sym, ◌∙◌, ap, subst, inl, inr, arith}
use Rattle.std.proofs.lemmas.Bool.{ltb-true, lt-ltb, and_parts}
use Rattle.std.proofs.lemmas.List.{map-id}
use Rattle.std.proofs.lemmas.List.Quantifiers.{position-Some}
use Rattle.std.proofs.lemmas.Option.{same_Some, slice_get_cases}
use Rattle.std.specs.List.{slice_get}
use Rattle.std.specs.Prelude.{unwrap_or}
use Rattle.net_units.specs.Text.{is_name}
use Rattle.link_steps.specs.Lists.{Each}
use Rattle.link_steps.proofs.ListParts.{Each-at}
use Rattle.call_script.specs.Rules.{is_named, are_distinct}
use Rattle.call_script.specs.Versions.{has_groups}
use Rattle.call_script.specs.declared.entries.LinkEntry.{LinkEntry}
use Rattle.call_script.specs.declared.version.Version.{Version}
use Rattle.line_forms.specs.Fitting.{FitsForm}
use Rattle.line_forms.specs.Values.{name_at, with_ones}
use Rattle.line_forms.specs.declared.known.Set.TheVariants as set
use Rattle.line_forms.specs.declared.value.FieldValue.TheVariants as value
use Rattle.line_forms.specs.declared.value.Values.{Values}
use Rattle.line_forms.specs.declared.word.Keyword.TheVariants as word
use Rattle.line_forms.proofs.FitsByPlace.{new-fits}
use Rattle.scenario_reader.specs.Causes.{unless}
use Rattle.scenario_reader.specs.Drafts.{Said, has_quotas, group_named}
use Rattle.scenario_reader.specs.Forms.{is_among}
use Rattle.scenario_reader.specs.Known.{names_said}
use Rattle.scenario_reader.specs.declared.cause.LineCause.TheVariants as cause
use Rattle.scenario_reader.specs.declared.item.Item.{Item}
use Rattle.scenario_reader.specs.declared.item.Item.TheVariants as item
use Rattle.scenario_reader.specs.line.Group.{group_form, group_says, group_fields, group_name, as_group, group_value}
use Rattle.scenario_reader.specs.line.Table.{is_before_callers, MayAdd}
use Rattle.scenario_reader.proofs.Finding.NameLookup.{no-place, new-without-place}
use Rattle.scenario_reader.proofs.Back.NamedBack.{position-back}
use Rattle.scenario_reader.proofs.Passing.PassingLines.{unless-passes, stated-ok, made-some}
use Rattle.scenario_reader.proofs.Passing.ReadBefore.{stands-before, said-groups}
use Rattle.scenario_reader.proofs.Passing.ReadByForms.{first-form, line-reads}
use Rattle.scenario_reader.proofs.Back.RulesBack.{unless-holds, stated-back}
use Rattle.scenario_reader.proofs.Back.SaysBack.{Reads, front, not-none}

-- ---- what a line says may be added

no-number : (found : Option ℕ) → option_map suc found ≡ None → found ≡ None
no-number None e = refl
no-number (Some n) e = cc

-- the name that a line says
pub record NamesGroup (said : Said) (what : Item) : Type 0 where
  pub name : List ℕ
  pub name_is : is_name name ≡ true
  pub new : group_named said.groups name ≡ None
  pub few : length said.groups < 4
  pub is : item.Group name ≡ what

pub group-named : (said : Said) (values : Values) (what : Item) → FitsForm (names_said said) group_form values → group_says said values ≡ Ok what → NamesGroup said what
group-named said values what fits says =
    let at = new-fits (names_said said) group_form values 0 set.Groups fits refl in
    let p = stated-ok (unless (nat_lt (length said.groups) 4) cause.Many) (option_map item.Group (name_at values.ones 0)) what says in
    record {
      name = at.name;
      name_is = at.is;
      new = at.new;
      few = ltb-true (length said.groups) 4 (unless-passes (nat_lt (length said.groups) 4) cause.Many p.0);
      is = same_Some (item.Group at.name) what (sym (ap (option_map item.Group) at.here) ∙ p.1);
    }

pub group-may : (version : Version) (said : Said) (values : Values) (what : Item) → said.version ≡ Some version → (has_groups version && is_before_callers said && not (has_quotas said.links)) ≡ true
    → FitsForm (names_said said) group_form values → group_says said values ≡ Ok what → MayAdd said what
group-may version said values what v stands fits says =
    let named = group-named said values what fits says in
    let may = and_parts (has_groups version && is_before_callers said) (not (has_quotas said.links)) stands in
    let first = and_parts (has_groups version) (is_before_callers said) may.0 in
    let stand = stands-before version said v first.1 in
    subst (MayAdd said) named.is (record {
      before = stand.before;
      group = record {
        first = stand.nobody;
        version = said-groups version said v first.0;
        new = new-without-place said.groups named.name (no-number (position (is_named named.name) said.groups) named.new);
        few = named.few;
      };
    })

-- a group that is found by its name is there
pub record IsGroupThere (groups : List (List ℕ)) (group : ℕ) : Type 0 where
  pub least : 1 ≤ group
  pub most : group ≤ length groups

pub group-there : (groups : List (List ℕ)) (name : List ℕ) (group : ℕ) → group_named groups name ≡ Some group → IsGroupThere groups group
group-there groups name group found =
    let at = made-some suc (position (is_named name) groups) group found in
    let within = (position-Some (is_named name) groups at.0 [] at.1).0 in
    record { least = omega (arith, at.2); most = omega (arith, at.2, within) }

-- ---- the groups of a plan

-- all of them were read
pub record GroupsStand (groups : List (List ℕ)) : Type 0 where
  pub named : Each (λ (name : List ℕ). is_name name ≡ true) groups
  pub apart : are_distinct groups ≡ true

-- one goes by its name
pub record IsGroupHere (groups : List (List ℕ)) (group : ℕ) : Type 0 where
  pub at : group_value groups group ≡ Some (value.Known (group_name groups group) group)
  pub name : is_name (group_name groups group) ≡ true
  pub found : group_named groups (group_name groups group) ≡ Some group

pub group-here : (groups : List (List ℕ)) (group : ℕ) → GroupsStand groups → 1 ≤ group → group ≤ length groups → IsGroupHere groups group
group-here groups zero stand some within = absurd (omega (arith, some))
group-here groups (suc place) stand some within =
    elim (slice_get_cases groups place).1 [
      | inl at ↦ (
          let there : suc place - 1 ≡ place = omega arith in
          let distinct : are_distinct (map (λ (x : List ℕ). x) groups) ≡ true = ap are_distinct (map-id groups) ∙ stand.apart in
          let here : position (is_named at.0) groups ≡ Some place = sym (ap (position (is_named at.0)) (map-id groups)) ∙ position-back (λ (x : List ℕ). x) groups place at.0 distinct at.2 in
          let called : group_name groups (suc place) ≡ at.0 = ap (λ (n : ℕ). unwrap_or (slice_get groups n) []) there ∙ ap (λ (found : Option (List ℕ)). unwrap_or found []) at.2 in
          record {
            at = ap (λ (n : ℕ). option_map (as_group (suc place)) (slice_get groups n)) there ∙ ap (option_map (as_group (suc place))) at.2 ∙ ap (λ (name : List ℕ). Some (value.Known name (suc place))) (sym called);
            name = ap is_name called ∙ Each-at (λ (name : List ℕ). is_name name ≡ true) groups place at.0 stand.named at.2;
            found = ap (group_named groups) called ∙ ap (option_map suc) here;
          })
      | inr past ↦ (let beyond = past.0 in absurd (omega (arith, beyond, within)))
    ]

pub group-read : (version : Version) (links : List LinkEntry) (groups : List (List ℕ)) (name : List ℕ) → has_groups version ≡ true → 1 ≤ length links → has_quotas links ≡ false → is_name name ≡ true → is_among groups name ≡ false → length groups < 4
    → Reads (group_fields name ∷ []) (front version links groups [] []) (front version links (groups ++ name ∷ []) [] [])
group-read version links groups name has some unsplit is new few =
    let said = front version links groups [] [] in
    let values = with_ones (value.Name name ∷ []) in
    let fits : FitsForm (names_said said) group_form values = ((is, ap (option_map suc) (no-place (is_named name) groups new)), tt) in
    line-reads version said word.Group group_form values (item.Group name) (record {
      headed = refl;
      stands = rw (has, not-none links some, unsplit) refl;
      is = refl;
      fits = fits;
      begins = refl;
      counts = refl;
      read = first-form (names_said said) group_form [] values refl fits;
    }) (λ number. stated-back (unless (nat_lt (length groups) 4) cause.Many) (Some (item.Group name)) (item.Group name) (unless-holds (nat_lt (length groups) 4) cause.Many (lt-ltb (length groups) 4 few)) refl) (λ number. refl)
