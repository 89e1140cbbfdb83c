-- The line that closes a request: what one that passes says may be added, and that of a plan's close says it.
use Rattle.std.proofs.Common.{ℕ, ◌≡◌, ◌≤◌, true, not, ◌&&◌, nat_eq, List, [], ◌∷◌, length, Some, Ok, is_none, refl, sym, ◌∙◌, ap, subst}
use Rattle.std.proofs.lemmas.Bool.{and_parts, and_from}
use Rattle.std.proofs.lemmas.Option.{same_Some}
use Rattle.net_units.specs.declared.numbers.ChanNo.{ChanNo}
use Rattle.call_script.specs.Growing.{add_op}
use Rattle.call_script.specs.declared.entries.CallerEntry.{CallerEntry}
use Rattle.call_script.specs.declared.entries.LinkEntry.{LinkEntry}
use Rattle.call_script.specs.declared.entries.RequestEntry.{RequestEntry}
use Rattle.call_script.specs.declared.operations.Op.TheVariants as op
use Rattle.call_script.specs.declared.version.Version.{Version}
use Rattle.line_forms.specs.Fitting.{FitsForm}
use Rattle.line_forms.specs.Values.{with_ones}
use Rattle.line_forms.specs.declared.value.Values.{Values}
use Rattle.line_forms.specs.declared.word.Keyword.TheVariants as word
use Rattle.scenario_reader.specs.Causes.{unless}
use Rattle.scenario_reader.specs.Drafts.{Said}
use Rattle.scenario_reader.specs.Kept.{IsDraft}
use Rattle.scenario_reader.specs.Known.{names_said}
use Rattle.scenario_reader.specs.declared.cause.LineCause.TheVariants as cause
use Rattle.scenario_reader.specs.declared.item.Item.{Item}
use Rattle.scenario_reader.specs.declared.item.Item.TheVariants as item
use Rattle.scenario_reader.specs.line.Close.{close_form, close_of, close_for, close_says, close_fields}
use Rattle.scenario_reader.specs.line.Table.{MayAdd}
use Rattle.scenario_reader.specs.line.Using.{request_value, is_closed_request}
use Rattle.scenario_reader.proofs.Passing.PassingLines.{stated-ok}
use Rattle.scenario_reader.proofs.Passing.ReadBefore.{longer-than-none, linked-by}
use Rattle.scenario_reader.proofs.Passing.ReadByForms.{first-form, line-reads}
use Rattle.scenario_reader.proofs.Back.RulesBack.{stated-back}
use Rattle.scenario_reader.proofs.Back.SaysBack.{Reads, front, not-none}
use Rattle.scenario_reader.proofs.kind.Using.{own-said, opened-channel, IsOpenHere, own-fits, not-closed}

pub close-may : (version : Version) (said : Said) (values : Values) (what : Item) → IsDraft said → said.version ≡ Some version → (not (nat_eq (length said.callers) 0) && is_none said.rounds) ≡ true
    → FitsForm (names_said said) close_form values → close_says said values ≡ Ok what → MayAdd said what
close-may version said values what draft v stands fits says =
    let own = own-said said close_form values 0 draft fits refl in
    let told : close_for said (Some own.entry) ≡ Ok what = ap (close_for said) (sym own.at) ∙ says in
    let p = stated-ok (unless (not (is_closed_request said (Some own.entry))) cause.Closed) (Some (close_of own.entry)) what told in
    let may = and_parts (not (nat_eq (length said.callers) 0)) (is_none said.rounds) stands in
    let some = longer-than-none said.callers may.0 in
    subst (MayAdd said) (same_Some (close_of own.entry) what p.1) (record {
      before = linked-by version said draft v may.0 may.1;
      some = some;
      op = opened-channel said own.name own.entry draft some own.own p.0;
    })

pub close-read : (version : Version) (links : List LinkEntry) (groups : List (List ℕ)) (requests : List RequestEntry) (callers : List CallerEntry) (chan : ChanNo) (entry : RequestEntry) → 1 ≤ length callers → IsOpenHere (front version links groups requests callers) chan entry
    → Reads (close_fields entry ∷ []) (front version links groups requests callers) (front version links groups requests (add_op (op.Close chan) callers))
close-read version links groups requests callers chan entry some is =
    let said = front version links groups requests callers in
    let values = with_ones (request_value entry ∷ []) in
    let fits : FitsForm (names_said said) close_form values = (own-fits said chan entry is, tt) in
    let says = stated-back (unless (not (is_closed_request said (Some entry))) cause.Closed) (Some (close_of entry)) (close_of entry) (not-closed said chan entry is) refl in
    line-reads version said word.Close close_form values (item.Op (op.Close chan)) (record {
      headed = refl;
      stands = and_from (not (nat_eq (length callers) 0)) true (not-none callers some) refl;
      is = refl;
      fits = fits;
      begins = refl;
      counts = refl;
      read = first-form (names_said said) close_form [] values refl fits;
    }) (λ number. ap (close_for said) is.at ∙ says ∙ ap (λ (c : ChanNo). Ok (item.Op (op.Close c))) (sym is.same)) (λ number. refl)
