-- The line of a send: what one that passes says may be added, and that of a plan's send says it.
use Rattle.std.proofs.Common.{ℕ, ◌≡◌, ◌+◌, ◌*◌, ◌≤◌, true, not, ◌&&◌, nat_eq, List, [], ◌∷◌, length, Option, Some, Ok, is_none, refl, sym, ◌∙◌, ap, subst}
use Rattle.std.proofs.lemmas.Bool.{and_parts, and_from}
use Rattle.std.proofs.lemmas.Option.{same_Some}
use Rattle.net_units.specs.Numbers.{channel_number}
use Rattle.net_units.specs.declared.numbers.ChanNo.{ChanNo}
use Rattle.call_script.specs.Growing.{add_op}
use Rattle.call_script.specs.Rules.{hops_of, load_in}
use Rattle.call_script.specs.declared.entries.CallerEntry.{CallerEntry}
use Rattle.call_script.specs.declared.entries.LinkEntry.{LinkEntry}
use Rattle.call_script.specs.declared.entries.RequestEntry.{RequestEntry}
use Rattle.call_script.specs.declared.operations.Op.TheVariants as op
use Rattle.call_script.specs.declared.version.Version.{Version}
use Rattle.line_forms.specs.Fitting.{FitsForm}
use Rattle.line_forms.specs.Values.{number_at, with_ones}
use Rattle.line_forms.specs.declared.value.FieldValue.TheVariants as value
use Rattle.line_forms.specs.declared.value.Values.{Values}
use Rattle.line_forms.specs.declared.word.Keyword.TheVariants as word
use Rattle.scenario_reader.specs.Causes.{unless, first_cause}
use Rattle.scenario_reader.specs.Drafts.{Said}
use Rattle.scenario_reader.specs.Kept.{IsDraft}
use Rattle.scenario_reader.specs.Known.{names_said}
use Rattle.scenario_reader.specs.declared.cause.LineCause.TheVariants as cause
use Rattle.scenario_reader.specs.declared.item.Item.{Item}
use Rattle.scenario_reader.specs.declared.item.Item.TheVariants as item
use Rattle.scenario_reader.specs.line.Send.{send_form, send_on, send_for, send_says, send_fields}
use Rattle.scenario_reader.specs.line.Table.{MayAdd}
use Rattle.scenario_reader.specs.line.Using.{request_value, is_over_request, load_rule}
use Rattle.scenario_reader.proofs.Passing.PassingLines.{all-pass, stated-ok}
use Rattle.scenario_reader.proofs.Passing.ReadBefore.{longer-than-none, linked-by}
use Rattle.scenario_reader.proofs.Passing.ReadByForms.{first-form, line-reads}
use Rattle.scenario_reader.proofs.Back.RulesBack.{pass-all, stated-back}
use Rattle.scenario_reader.proofs.Back.SaysBack.{Reads, front, not-none}
use Rattle.scenario_reader.proofs.kind.Using.{own-said, packets-said, still-open, load-passes, ArePackets, packets-fit-line, load-back, IsOpenHere, own-fits, IsUnleft, not-over}

pub send-may : (version : Version) (said : Said) (values : Values) (what : Item) → IsDraft said → said.version ≡ Some version → (not (nat_eq (length said.callers) 0) && is_none said.rounds) ≡ true
    → FitsForm (names_said said) send_form values → send_says said values ≡ Ok what → MayAdd said what
send-may version said values what draft v stands fits says =
    let own = own-said said send_form values 0 draft fits refl in
    let count = number_at values.ones 1 in
    let told : send_for said (Some own.entry) values ≡ Ok what = ap (λ (found : Option RequestEntry). send_for said found values) (sym own.at) ∙ says in
    let rules = unless (not (is_over_request said (Some own.entry))) cause.Closed ∷ load_rule said (count * hops_of (Some own.entry)) ∷ [] in
    let p = stated-ok (first_cause rules) (Some (send_on values own.entry)) what told in
    let q = all-pass rules p.0 in
    let may = and_parts (not (nat_eq (length said.callers) 0)) (is_none said.rounds) stands in
    let some = longer-than-none said.callers may.0 in
    let stays = still-open said own.name own.entry draft some own.own q.0 in
    let load = load-passes said (count * hops_of (Some own.entry)) q.1.0 in
    subst (MayAdd said) (same_Some (send_on values own.entry) what p.1) (record {
      before = linked-by version said draft v may.0 may.1;
      some = some;
      op = record {
        channel = stays.channel;
        unleft = stays.unleft;
        range = packets-said (names_said said) send_form values fits refl refl refl;
        load = subst (λ (found : Option RequestEntry). load_in said.requests said.callers + count * hops_of found ≤ 262144) (sym own.there) load;
      };
    })

pub send-read : (version : Version) (links : List LinkEntry) (groups : List (List ℕ)) (requests : List RequestEntry) (callers : List CallerEntry) (chan : ChanNo) (count gap size : ℕ) (entry : RequestEntry) → 1 ≤ length callers → IsOpenHere (front version links groups requests callers) chan entry → IsUnleft (front version links groups requests callers) chan → ArePackets count gap size
    → load_in requests callers + count * hops_of (Some entry) ≤ 262144 → Reads (send_fields count gap size entry ∷ []) (front version links groups requests callers) (front version links groups requests (add_op (op.Send chan count gap size) callers))
send-read version links groups requests callers chan count gap size entry some is unleft are load =
    let said = front version links groups requests callers in
    let values = with_ones (request_value entry ∷ value.Number count ∷ value.Number gap ∷ value.Number size ∷ []) in
    let fits : FitsForm (names_said said) send_form values = (own-fits said chan entry is, packets-fit-line (names_said said) (channel_number entry.request.chan) count gap size are) in
    let rules = unless (not (is_over_request said (Some entry))) cause.Closed ∷ load_rule said (count * hops_of (Some entry)) ∷ [] in
    let says = stated-back (first_cause rules) (Some (send_on values entry)) (send_on values entry) (pass-all rules (not-over said chan entry is unleft, (load-back said (count * hops_of (Some entry)) load, tt))) refl in
    line-reads version said word.Send send_form values (item.Op (op.Send chan count gap size)) (record {
      headed = refl;
      stands = and_from (not (nat_eq (length callers) 0)) true (not-none callers some) refl;
      is = refl;
      fits = fits;
      begins = refl;
      counts = refl;
      read = first-form (names_said said) send_form [] values refl fits;
    }) (λ number. ap (λ (found : Option RequestEntry). send_for said found values) is.at ∙ says ∙ ap (λ (c : ChanNo). Ok (item.Op (op.Send c count gap size))) (sym is.same)) (λ number. refl)
