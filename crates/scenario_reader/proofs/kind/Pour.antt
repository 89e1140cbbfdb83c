-- The line of a pour: what one that passes says may be added, and that of a plan's pour says it.
use Rattle.std.proofs.Common.{ℕ, ◌≡◌, ◌+◌, ◌≤◌, ◌<◌, true, not, ◌&&◌, nat_eq, List, [], ◌∷◌, length, Option, Some, Ok, is_none, refl, sym, ◌∙◌, ap, subst}
use Rattle.std.proofs.lemmas.Bool.{lt-ltb, and_parts, and_from}
use Rattle.std.proofs.lemmas.Option.{same_Some, slice_get_within}
use Rattle.std.specs.List.{slice_get}
use Rattle.std.specs.Prelude.{position, unwrap_or}
use Rattle.net_units.specs.Numbers.{link_number}
use Rattle.net_units.specs.Text.{is_name}
use Rattle.net_units.specs.declared.numbers.LinkNo.{LinkNo}
use Rattle.call_script.specs.Growing.{add_op}
use Rattle.call_script.specs.Rules.{is_named, link_names, load_in, takes_best_effort}
use Rattle.call_script.specs.Versions.{has_best_effort}
use Rattle.call_script.specs.declared.entries.CallerEntry.{CallerEntry}
use Rattle.call_script.specs.declared.entries.LinkEntry.{LinkEntry}
use Rattle.call_script.specs.declared.entries.RequestEntry.{RequestEntry}
use Rattle.call_script.specs.declared.operations.Op.TheVariants as op
use Rattle.call_script.specs.declared.version.Version.{Version}
use Rattle.call_script.specs.declared.version.Version.TheVariants.{One}
use Rattle.line_forms.specs.Fitting.{FitsForm}
use Rattle.line_forms.specs.Values.{number_at, with_ones}
use Rattle.line_forms.specs.declared.known.Set.TheVariants as set
use Rattle.line_forms.specs.declared.value.FieldValue.TheVariants as value
use Rattle.line_forms.specs.declared.value.Values.{Values}
use Rattle.line_forms.specs.declared.word.Keyword.TheVariants as word
use Rattle.line_forms.proofs.FitsByPlace.{known-fits, number-fits}
use Rattle.scenario_reader.specs.Causes.{unless, first_cause}
use Rattle.scenario_reader.specs.Drafts.{Said}
use Rattle.scenario_reader.specs.Kept.{IsDraft}
use Rattle.scenario_reader.specs.Known.{names_said}
use Rattle.scenario_reader.specs.declared.cause.LineCause.TheVariants as cause
use Rattle.scenario_reader.specs.declared.item.Item.{Item}
use Rattle.scenario_reader.specs.declared.item.Item.TheVariants as item
use Rattle.scenario_reader.specs.line.Pour.{pour_form, pour_over, pour_for, pour_says, pour_fields}
use Rattle.scenario_reader.specs.line.Table.{MayAdd}
use Rattle.scenario_reader.specs.line.Using.{load_rule}
use Rattle.scenario_reader.proofs.Finding.NamedByPlace.{link-known}
use Rattle.scenario_reader.proofs.Passing.PassingLines.{all-pass, unless-passes, stated-ok}
use Rattle.scenario_reader.proofs.Passing.ReadBefore.{longer-than-none, linked-by}
use Rattle.scenario_reader.proofs.Passing.ReadByForms.{first-form, line-reads}
use Rattle.scenario_reader.proofs.Back.RulesBack.{pass-all, unless-holds, stated-back}
use Rattle.scenario_reader.proofs.Back.SaysBack.{Reads, front, not-none}
use Rattle.scenario_reader.proofs.kind.Using.{packets-said, load-passes, ArePackets, packets-fit-line, load-back}

pub pour-may : (version : Version) (said : Said) (values : Values) (what : Item) → IsDraft said → said.version ≡ Some version → (has_best_effort version && not (nat_eq (length said.callers) 0) && is_none said.rounds) ≡ true
    → FitsForm (names_said said) pour_form values → pour_says said values ≡ Ok what → MayAdd said what
pour-may version said values what draft v stands fits says =
    let known = known-fits (names_said said) pour_form values 0 set.Links fits refl in
    let there = link-known said.links known.name (number_at values.ones 0) known.known in
    let count = number_at values.ones 1 in
    let told : pour_for said (Some there.entry) values ≡ Ok what = ap (λ (found : Option LinkEntry). pour_for said found values) (sym there.at) ∙ says in
    let rules = load_rule said count ∷ unless (takes_best_effort (Some there.entry)) cause.Best ∷ [] in
    let p = stated-ok (first_cause rules) (Some (pour_over values there.entry)) what told in
    let q = all-pass rules p.0 in
    let both = and_parts (has_best_effort version && not (nat_eq (length said.callers) 0)) (is_none said.rounds) stands in
    let first = and_parts (has_best_effort version) (not (nat_eq (length said.callers) 0)) both.0 in
    let number = link_number there.entry.shape.link in
    let at : slice_get said.links number ≡ Some there.entry = subst (λ (n : ℕ). slice_get said.links n ≡ Some there.entry) (sym (draft.keeps.planned.links (number_at values.ones 0) there.entry there.at)) there.at in
    subst (MayAdd said) (same_Some (pour_over values there.entry) what p.1) (record {
      before = linked-by version said draft v first.1 both.1;
      some = longer-than-none said.callers first.1;
      op = record {
        some = longer-than-none said.callers first.1;
        version = subst (λ (w : Version). has_best_effort w ≡ true) (sym (ap (λ o. unwrap_or o One) v)) first.0;
        there = lt-ltb number (length said.links) (slice_get_within said.links number there.entry at);
        range = packets-said (names_said said) pour_form values fits refl refl refl;
        load = load-passes said count q.0;
        taken = subst (λ (found : Option LinkEntry). takes_best_effort found ≡ true) (sym at) (unless-passes (takes_best_effort (Some there.entry)) cause.Best q.1.0);
      };
    })

-- what a line says of a link that is there
pub record PourIsSmall (said : Said) (values : Values) : Type 0 where
  pub link : number_at values.ones 0 < length said.links
  pub few : number_at values.ones 1 ≤ 262144
  pub small : number_at values.ones 3 ≤ 65536

pub pour_small : (said : Said) (values : Values) → FitsForm (names_said said) pour_form values → PourIsSmall said values
pour_small said values fits =
    let known = known-fits (names_said said) pour_form values 0 set.Links fits refl in
    let there = link-known said.links known.name (number_at values.ones 0) known.known in
    record {
      link = slice_get_within said.links (number_at values.ones 0) there.entry there.at;
      few = (number-fits (names_said said) pour_form values 1 1 262144 fits refl).most;
      small = (number-fits (names_said said) pour_form values 3 1 65536 fits refl).most;
    }

-- the link of this number is found by its name
pub record IsLinkHere (said : Said) (link : LinkNo) (entry : LinkEntry) : Type 0 where
  pub name : is_name entry.name ≡ true
  pub place : position (is_named entry.name) (link_names said.links) ≡ Some (link_number entry.shape.link)
  pub at : slice_get said.links (link_number entry.shape.link) ≡ Some entry
  pub same : link ≡ entry.shape.link
  pub taken : takes_best_effort (Some entry) ≡ true

pub pour-read : (version : Version) (links : List LinkEntry) (groups : List (List ℕ)) (requests : List RequestEntry) (callers : List CallerEntry) (link : LinkNo) (count gap size : ℕ) (entry : LinkEntry) → 1 ≤ length callers → has_best_effort version ≡ true → IsLinkHere (front version links groups requests callers) link entry → ArePackets count gap size
    → load_in requests callers + count ≤ 262144 → Reads (pour_fields count gap size entry ∷ []) (front version links groups requests callers) (front version links groups requests (add_op (op.Pour link count gap size) callers))
pour-read version links groups requests callers link count gap size entry some has is are load =
    let said = front version links groups requests callers in
    let values = with_ones (value.Known entry.name (link_number entry.shape.link) ∷ value.Number count ∷ value.Number gap ∷ value.Number size ∷ []) in
    let fits : FitsForm (names_said said) pour_form values = ((is.name, is.place), packets-fit-line (names_said said) (link_number entry.shape.link) count gap size are) in
    let rules = load_rule said count ∷ unless (takes_best_effort (Some entry)) cause.Best ∷ [] in
    let says = stated-back (first_cause rules) (Some (pour_over values entry)) (pour_over values entry) (pass-all rules (load-back said count load, (unless-holds (takes_best_effort (Some entry)) cause.Best is.taken, tt))) refl in
    line-reads version said word.Pour pour_form values (item.Op (op.Pour link count gap size)) (record {
      headed = refl;
      stands = and_from (has_best_effort version && not (nat_eq (length callers) 0)) true (and_from (has_best_effort version) (not (nat_eq (length callers) 0)) has (not-none callers some)) refl;
      is = refl;
      fits = fits;
      begins = refl;
      counts = refl;
      read = first-form (names_said said) pour_form [] values refl fits;
    }) (λ number. ap (λ (found : Option LinkEntry). pour_for said found values) is.at ∙ says ∙ ap (λ (l : LinkNo). Ok (item.Op (op.Pour l count gap size))) (sym is.same)) (λ number. refl)
