-- The line of a move: what one that passes says may be added, and that of a plan's move says it.
use Rattle.std.proofs.Common.{ℕ, ◌≡◌, ◌+◌, ◌*◌, ◌≤◌, true, not, ◌&&◌, nat_eq, List, [], ◌∷◌, length, Option, Some, Ok, is_none, refl, sym, ◌∙◌, ap, subst}
use Rattle.std.proofs.lemmas.Bool.{and_parts, and_from, not-true}
use Rattle.std.proofs.lemmas.Option.{same_Some}
use Rattle.std.specs.List.{slice_get}
use Rattle.std.specs.Prelude.{unwrap_or}
use Rattle.net_units.specs.Numbers.{channel_number}
use Rattle.net_units.specs.declared.numbers.ChanNo.{ChanNo}
use Rattle.call_script.specs.Growing.{add_op}
use Rattle.call_script.specs.Rules.{hops_of, load_at, load_in, loads_in, may_move}
use Rattle.call_script.specs.Versions.{has_moves}
use Rattle.call_script.specs.declared.entries.CallerEntry.{CallerEntry}
use Rattle.call_script.specs.declared.entries.LinkEntry.{LinkEntry}
use Rattle.call_script.specs.declared.entries.RequestEntry.{RequestEntry}
use Rattle.call_script.specs.declared.operations.Op.TheVariants as op
use Rattle.call_script.specs.declared.version.Version.{Version}
use Rattle.call_script.specs.declared.version.Version.TheVariants.{One}
use Rattle.line_forms.specs.Fitting.{FitsForm}
use Rattle.line_forms.specs.Values.{number_at, with_ones}
use Rattle.line_forms.specs.declared.value.Values.{Values}
use Rattle.line_forms.specs.declared.word.Keyword.TheVariants as word
use Rattle.scenario_reader.specs.Causes.{unless, first_cause}
use Rattle.scenario_reader.specs.Drafts.{Said, is_used, is_joined_to}
use Rattle.scenario_reader.specs.Kept.{IsDraft}
use Rattle.scenario_reader.specs.Known.{names_said}
use Rattle.scenario_reader.specs.declared.cause.LineCause.TheVariants as cause
use Rattle.scenario_reader.specs.declared.item.Item.{Item}
use Rattle.scenario_reader.specs.declared.item.Item.TheVariants as item
use Rattle.scenario_reader.specs.line.Move.{move_form, may_join, carried, move_for, move_says, move_fields}
use Rattle.scenario_reader.specs.line.Table.{MayAdd}
use Rattle.scenario_reader.specs.line.Using.{request_value, is_over_request, load_rule}
use Rattle.scenario_reader.proofs.Finding.NamedByPlace.{own-is}
use Rattle.scenario_reader.proofs.Passing.OwnOpenings.{own-opened}
use Rattle.scenario_reader.proofs.Passing.PassingLines.{all-pass, unless-passes, stated-ok}
use Rattle.scenario_reader.proofs.Passing.ReadBefore.{longer-than-none, linked-by}
use Rattle.scenario_reader.proofs.Passing.ReadByForms.{first-form, line-reads}
use Rattle.scenario_reader.proofs.Back.RulesBack.{pass-all, unless-holds, stated-back}
use Rattle.scenario_reader.proofs.Back.SaysBack.{Reads, front, not-none}
use Rattle.scenario_reader.proofs.kind.Using.{own-said, still-open, load-passes, load-back, IsOpenHere, own-fits, IsUnleft, not-over}

pub move-may : (version : Version) (said : Said) (values : Values) (what : Item) → IsDraft said → said.version ≡ Some version → (has_moves version && not (nat_eq (length said.callers) 0) && is_none said.rounds) ≡ true
    → FitsForm (names_said said) move_form values → move_says said values ≡ Ok what → MayAdd said what
move-may version said values what draft v stands fits says =
    let old = own-said said move_form values 0 draft fits refl in
    let new = own-said said move_form values 1 draft fits refl in
    let told : move_for said (Some old.entry) (Some new.entry) ≡ Ok what =
    ap (λ (found : Option RequestEntry). move_for said found (Some new.entry)) (sym old.at) ∙ ap (move_for said (slice_get said.requests (number_at values.ones 0))) (sym new.at) ∙ says in
    let rules = unless (not (is_over_request said (Some old.entry))) cause.Closed ∷ unless (may_join said (Some old.entry) (Some new.entry)) cause.Move ∷ load_rule said (carried said (Some old.entry) * hops_of (Some new.entry)) ∷ [] in
    let p = stated-ok (first_cause rules) (Some (item.Op (op.Move old.entry.request.chan new.entry.request.chan))) what told in
    let q = all-pass rules p.0 in
    let both = and_parts (has_moves version && not (nat_eq (length said.callers) 0)) (is_none said.rounds) stands in
    let first = and_parts (has_moves version) (not (nat_eq (length said.callers) 0)) both.0 in
    let some = longer-than-none said.callers first.1 in
    let stays = still-open said old.name old.entry draft some old.own q.0 in
    let to = own-is said new.name new.entry new.own in
    let joins = unless-passes (may_join said (Some old.entry) (Some new.entry)) cause.Move q.1.0 in
    let unjoined = and_parts (may_move said.links (Some old.entry) (Some new.entry) && not (nat_eq (channel_number old.entry.request.chan) (channel_number new.entry.request.chan)) && not (is_used said new.entry.request.chan)) (not (is_joined_to said new.entry.request.chan)) joins in
    let unused = and_parts (may_move said.links (Some old.entry) (Some new.entry) && not (nat_eq (channel_number old.entry.request.chan) (channel_number new.entry.request.chan))) (not (is_used said new.entry.request.chan)) unjoined.0 in
    let apart = and_parts (may_move said.links (Some old.entry) (Some new.entry)) (not (nat_eq (channel_number old.entry.request.chan) (channel_number new.entry.request.chan))) unused.0 in
    let load = load-passes said (carried said (Some old.entry) * hops_of (Some new.entry)) q.1.1.0 in
    subst (MayAdd said) (same_Some (item.Op (op.Move old.entry.request.chan new.entry.request.chan)) what p.1) (record {
      before = linked-by version said draft v first.1 both.1;
      some = some;
      op = record {
        version = subst (λ (w : Version). has_moves w ≡ true) (sym (ap (λ o. unwrap_or o One) v)) first.0;
        channel = stays.channel;
        unleft = stays.unleft;
        joined = own-opened said.requests said.callers to.place new.entry draft.keeps.planned.openings to.found some to.by;
        fit = and_from (may_move said.links (slice_get said.requests (channel_number old.entry.request.chan)) (slice_get said.requests (channel_number new.entry.request.chan))) (not (nat_eq (channel_number old.entry.request.chan) (channel_number new.entry.request.chan)))
            (ap (λ found. may_move said.links found (slice_get said.requests (channel_number new.entry.request.chan))) old.there ∙ ap (may_move said.links (Some old.entry)) new.there ∙ apart.0) apart.1;
        unused = not-true (is_used said new.entry.request.chan) unused.1;
        unjoined = not-true (is_joined_to said new.entry.request.chan) unjoined.1;
        load = subst (λ (found : Option RequestEntry). load_in said.requests said.callers + load_at (loads_in said.callers) old.entry.request.chan * hops_of found ≤ 262144) (sym new.there) load;
      };
    })

pub move-read : (version : Version) (links : List LinkEntry) (groups : List (List ℕ)) (requests : List RequestEntry) (callers : List CallerEntry) (old new : ChanNo) (from to : RequestEntry) → 1 ≤ length callers → has_moves version ≡ true → IsOpenHere (front version links groups requests callers) old from → IsUnleft (front version links groups requests callers) old
    → IsOpenHere (front version links groups requests callers) new to → may_join (front version links groups requests callers) (Some from) (Some to) ≡ true → load_in requests callers + load_at (loads_in callers) old * hops_of (Some to) ≤ 262144
    → Reads (move_fields from to ∷ []) (front version links groups requests callers) (front version links groups requests (add_op (op.Move old new) callers))
move-read version links groups requests callers old new from to some has is unleft onto joins load =
    let said = front version links groups requests callers in
    let values = with_ones (request_value from ∷ request_value to ∷ []) in
    let fits : FitsForm (names_said said) move_form values = (own-fits said old from is, (own-fits said new to onto, tt)) in
    let its : load_in requests callers + carried said (Some from) * hops_of (Some to) ≤ 262144 = subst (λ (c : ChanNo). load_in requests callers + load_at (loads_in callers) c * hops_of (Some to) ≤ 262144) is.same load in
    let rules = unless (not (is_over_request said (Some from))) cause.Closed ∷ unless (may_join said (Some from) (Some to)) cause.Move ∷ load_rule said (carried said (Some from) * hops_of (Some to)) ∷ [] in
    let says = stated-back (first_cause rules) (Some (item.Op (op.Move from.request.chan to.request.chan))) (item.Op (op.Move from.request.chan to.request.chan))
    (pass-all rules (not-over said old from is unleft, (unless-holds (may_join said (Some from) (Some to)) cause.Move joins, (load-back said (carried said (Some from) * hops_of (Some to)) its, tt)))) refl in
    line-reads version said word.Move move_form values (item.Op (op.Move old new)) (record {
      headed = refl;
      stands = and_from (has_moves version && not (nat_eq (length callers) 0)) true (and_from (has_moves version) (not (nat_eq (length callers) 0)) has (not-none callers some)) refl;
      is = refl;
      fits = fits;
      begins = refl;
      counts = refl;
      read = first-form (names_said said) move_form [] values refl fits;
    }) (λ number. ap (λ (found : Option RequestEntry). move_for said found (slice_get requests (channel_number to.request.chan))) is.at ∙ ap (move_for said (Some from)) onto.at ∙ says
    ∙ ap (λ (c : ChanNo). Ok (item.Op (op.Move c to.request.chan))) (sym is.same) ∙ ap (λ (c : ChanNo). Ok (item.Op (op.Move old c))) (sym onto.same)) (λ number. refl)
