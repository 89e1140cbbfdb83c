-- Whatever is read keeps names, quotas and found routes as a plan's text has them: each line that passes adds such parts alone.
use Rattle.std.proofs.Common.{◌≡◌, ℕ, suc, Bool, true, false, not, if◌then◌else◌, List, [], ◌∷◌, ◌++◌, length, Option, Some, None, Result, Ok, Err, option_map, refl, sym, ◌∙◌, ap, subst, arith}
use Rattle.std.proofs.lemmas.Option.{same_Some}
use Rattle.std.specs.List.{slice_get}
use Rattle.std.specs.Prelude.{zero}
use Rattle.net_units.specs.Numbers.{link_number}
use Rattle.net_units.specs.Text.{is_name}
use Rattle.link_steps.specs.Lists.{Each}
use Rattle.link_steps.specs.declared.quota.Quota.{Quota}
use Rattle.link_steps.proofs.SearchAndFilter.{Each-append}
use Rattle.call_script.specs.Growing.{add_quota, add_op, with_its_quota, new_caller}
use Rattle.call_script.specs.Parts.{PlanParts}
use Rattle.call_script.specs.declared.entries.CallerEntry.{CallerEntry}
use Rattle.call_script.specs.declared.entries.LinkEntry.{LinkEntry}
use Rattle.call_script.specs.declared.entries.RequestEntry.{RequestEntry}
use Rattle.call_script.specs.declared.operations.Op.{Op}
use Rattle.call_script.specs.declared.operations.Op.TheVariants.{Open, Send, Close, Pour, Move}
use Rattle.call_script.specs.declared.schedule.Schedule.{Schedule}
use Rattle.call_script.specs.declared.version.Version.{Version}
use Rattle.byte_ends.specs.WholeLines.{Ending, all_given, cut_short, too_long, outlook}
use Rattle.scenario_reader.specs.BothWays.{AreNamed, AreNodesNamed, HasEightLoads, HasNames, HaveFoundRoutes, IsFoundRoute}
use Rattle.scenario_reader.specs.Causes.{Rule, unless, stated}
use Rattle.scenario_reader.specs.Drafts.{Said, nothing_said, with_item, is_complete, parts_said, schedule_said}
use Rattle.scenario_reader.specs.Fields.{fields_of, are_fields, field_at}
use Rattle.scenario_reader.specs.Grammar.{judge_word, judge_after, is_passed_over, judge}
use Rattle.scenario_reader.specs.Kept.{IsDraft}
use Rattle.scenario_reader.specs.ReadPlans.{IsReadable, WhatIsReadIsReadable}
use Rattle.scenario_reader.specs.Reading.{PlanRead, BadLine, at_end, on_judged, reading_of, reading}
use Rattle.scenario_reader.specs.declared.cause.LineCause.{LineCause}
use Rattle.scenario_reader.specs.declared.cause.LineCause.TheVariants as cause
use Rattle.line_forms.specs.declared.word.Keyword.{Keyword}
use Rattle.line_forms.specs.declared.word.Keyword.TheVariants as word
use Rattle.scenario_reader.specs.declared.item.Item.{Item}
use Rattle.scenario_reader.specs.declared.item.Item.TheVariants as item
use Rattle.scenario_reader.specs.line.Caller.{caller_forms}
use Rattle.scenario_reader.specs.line.Close.{close_form}
use Rattle.scenario_reader.specs.line.Group.{group_form}
use Rattle.line_forms.specs.Values.{number_at}
use Rattle.scenario_reader.proofs.Passing.ReadByForms.{was-read, forms_are}
use Rattle.scenario_reader.proofs.kind.Caller.{caller-named}
use Rattle.scenario_reader.proofs.kind.Group.{group-named}
use Rattle.scenario_reader.proofs.kind.Link.{link-named-so}
use Rattle.scenario_reader.proofs.kind.Request.{request-named-so}
use Rattle.scenario_reader.specs.line.Header.{header_version, header_said}
use Rattle.scenario_reader.specs.line.Link.{link_forms}
use Rattle.scenario_reader.specs.line.Move.{move_form, move_between}
use Rattle.scenario_reader.specs.line.Pour.{pour_form}
use Rattle.scenario_reader.specs.line.Quota.{quota_form}
use Rattle.scenario_reader.specs.line.Request.{open_forms}
use Rattle.scenario_reader.specs.line.Rounds.{rounds_form, tail_form, are_few_ticks}
use Rattle.scenario_reader.specs.line.Schedule.{schedule_form, do_form, do_by}
use Rattle.scenario_reader.specs.line.Send.{send_form}
use Rattle.scenario_reader.specs.line.Table.{may_stand, line_word, says, judge_as, MayAdd}
use Rattle.scenario_reader.proofs.Passing.DraftBecomesPlan.{draft-begins, draft-more, complete-draft}
use Rattle.scenario_reader.proofs.Passing.PassingLines.{judged-ok, made-some, stated-ok}
use Rattle.scenario_reader.proofs.Passing.PassedLinesAdd.{may-add}
use Rattle.scenario_reader.proofs.kind.Quota.{says-quota, eight-said}

-- ---- what a line names

-- a request goes by names, and its route, where it is to be found, is the one that is found over these links
record NamesRequest (said : Said) (entry : RequestEntry) : Type 0 where
  name : is_name entry.name ≡ true
  nodes : AreNodesNamed entry.found
  found : IsFoundRoute said.links entry.request.route entry.found

abbrev NamesItem : Said → Item → Type 0
NamesItem said (item.Link entry) = HasNames entry
NamesItem said (item.Group name) = is_name name ≡ true
NamesItem said (item.Quota link quota) = HasEightLoads quota
NamesItem said (item.Caller name group) = is_name name ≡ true
NamesItem said (item.Open entry) = NamesRequest said entry
NamesItem said _ = Unit {0}

-- ---- a line that passes

-- an operation names nothing
op-names : {X : Type 0} (said : Said) (rule : Rule) (found : Option X) (make : X → Op) (what : Item) → stated rule (option_map (λ x. item.Op (make x)) found) ≡ Ok what → NamesItem said what
op-names said rule found make what e = (let made = made-some (λ x. item.Op (make x)) found what (stated-ok rule (option_map (λ x. item.Op (make x)) found) what e).1 in subst (NamesItem said) made.2 tt)

move-names : (said : Said) (rule : Rule) (old new : Option RequestEntry) (what : Item) → stated rule (move_between old new) ≡ Ok what → NamesItem said what
move-names said rule None new what e = (let none = (stated-ok rule None what e).1 in cc)
move-names said rule (Some old) None what e = (let none = (stated-ok rule None what e).1 in cc)
move-names said rule (Some old) (Some new) what e = subst (NamesItem said) (same_Some (item.Op (Move old.request.chan new.request.chan)) what (stated-ok rule (Some (item.Op (Move old.request.chan new.request.chan))) what e).1) tt

names-as : (keyword : Keyword) (version : Version) (said : Said) (number : ℕ) (fields : List (List ℕ)) (what : Item) → judge_as keyword version said number fields ≡ Ok what → NamesItem said what
names-as word.Link version said number fields what e =
    let line = was-read said (link_forms version) fields (says word.Link version said number) what (forms_are version word.Link) e in
    let named = link-named-so version said line.values what line.fits line.says in
    subst (NamesItem said) named.is (record { name = named.says.name_is; from = named.says.from_is; to = named.says.to_is })
names-as word.Group version said number fields what e =
    let line = was-read said (group_form ∷ []) fields (says word.Group version said number) what refl e in
    let named = group-named said line.values what line.fits line.says in
    subst (NamesItem said) named.is named.name_is
names-as word.Quota version said number fields what e =
    let line = was-read said (quota_form ∷ []) fields (says word.Quota version said number) what refl e in
    let told = says-quota said line.values what line.fits line.says in
    subst (NamesItem said) told.is (eight-said said line.values line.fits)
names-as word.Caller version said number fields what e =
    let line = was-read said (caller_forms version) fields (says word.Caller version said number) what (forms_are version word.Caller) e in
    let named = caller-named version said line.values what line.fits line.says in
    subst (NamesItem said) named.is named.name_is
names-as word.Open version said number fields what e =
    let line = was-read said (open_forms version) fields (says word.Open version said number) what (forms_are version word.Open) e in
    let named = request-named-so version said line.values what line.fits line.says in
    subst (NamesItem said) named.is (record { name = named.says.name_is; nodes = named.nodes; found = named.found })
names-as word.Send version said number fields what e = (let line = was-read said (send_form ∷ []) fields (says word.Send version said number) what refl e in op-names said _ (slice_get said.requests (number_at line.values.ones 0)) (λ (entry : RequestEntry). Send entry.request.chan (number_at line.values.ones 1) (number_at line.values.ones 2) (number_at line.values.ones 3)) what line.says)
names-as word.Close version said number fields what e = (let line = was-read said (close_form ∷ []) fields (says word.Close version said number) what refl e in op-names said _ (slice_get said.requests (number_at line.values.ones 0)) (λ (entry : RequestEntry). Close entry.request.chan) what line.says)
names-as word.Move version said number fields what e = (let line = was-read said (move_form ∷ []) fields (says word.Move version said number) what refl e in move-names said _ (slice_get said.requests (number_at line.values.ones 0)) (slice_get said.requests (number_at line.values.ones 1)) what line.says)
names-as word.Pour version said number fields what e = (let line = was-read said (pour_form ∷ []) fields (says word.Pour version said number) what refl e in op-names said _ (slice_get said.links (number_at line.values.ones 0)) (λ (entry : LinkEntry). Pour entry.shape.link (number_at line.values.ones 1) (number_at line.values.ones 2) (number_at line.values.ones 3)) what line.says)
names-as word.Rounds version said number fields what e =
    let line = was-read said (rounds_form ∷ []) fields (says word.Rounds version said number) what refl e in
    subst (NamesItem said) (judged-ok None (item.Rounds (number_at line.values.ones 0)) what line.says).1 tt
names-as word.Tail version said number fields what e =
    let line = was-read said (tail_form ∷ []) fields (says word.Tail version said number) what refl e in
    let count = number_at line.values.ones 0 in
    subst (NamesItem said) (judged-ok (unless (are_few_ticks said count) cause.Load) (item.Tail count) what line.says).1 tt
names-as word.Schedule version said number fields what e =
    let line = was-read said (schedule_form ∷ []) fields (says word.Schedule version said number) what refl e in
    subst (NamesItem said) (judged-ok None item.Schedule what line.says).1 tt
names-as word.Do version said number fields what e =
    let line = was-read said (do_form ∷ []) fields (says word.Do version said number) what refl e in
    subst (NamesItem said) (judged-ok None (item.Do (do_by said number line.values)) what line.says).1 tt
names-as other version said number fields what e = absurd (not-ok cause.Shape what e)
  where
    not-ok : (c : LineCause) (what : Item) → ◌≡◌ {A = Result Item LineCause} (Err c) (Ok what) → ⊥
    not-ok c what e = cc

names-word : (keyword : Option Keyword) (version : Version) (said : Said) (number : ℕ) (fields : List (List ℕ)) (what : Item) → judge_word keyword version said number fields ≡ Ok what → NamesItem said what
names-word None version said number fields what e = cc
names-word (Some keyword) version said number fields what e = by (may_stand version said keyword) e where
  by : (stands : Bool) → (if stands then judge_as keyword version said number fields else Err cause.Word) ≡ Ok what → NamesItem said what
  by true e = names-as keyword version said number fields what e
  by false e = cc

header-names : (found : Option Version) (said : Said) (what : Item) → header_said found ≡ Ok what → NamesItem said what
header-names None said what e = cc
header-names (Some version) said what e = (let same : item.Header version ≡ what = cc in subst (NamesItem said) same tt)

names-after : (headed : Option Version) (said : Said) (number : ℕ) (fields : List (List ℕ)) (what : Item) → judge_after headed said number fields ≡ Ok what → NamesItem said what
names-after None said number fields what e = header-names (header_version fields) said what e
names-after (Some version) said number fields what e = names-word (line_word (field_at fields 0)) version said number fields what e

line-names : (said : Said) (number : ℕ) (line : List ℕ) (what : Item) → judge said number line ≡ Ok what → NamesItem said what
unfolding judge
line-names said number line what e = by (is_passed_over line) (not (are_fields (fields_of line))) e where
  by : (over bad : Bool) → (if over then Ok item.Nothing else (if bad then Err cause.Shape else judge_after said.version said number (fields_of line))) ≡ Ok what → NamesItem said what
  by true bad e = (let same : item.Nothing ≡ what = cc in subst (NamesItem said) same tt)
  by false true e = cc
  by false false e = names-after said.version said number (fields_of line) what e

-- ---- what was read so far

-- a draft whose parts go by names; there is no request before the first caller
record IsNamed (said : Said) : Type 0 where
  draft : IsDraft said
  named : AreNamed (parts_said said)
  found : HaveFoundRoutes (parts_said said)
  alone : said.callers ≡ [] → said.requests ≡ []

nothing-named : IsNamed nothing_said
nothing-named = record {
  draft = draft-begins;
  named = record { links = tt; groups = tt; quotas = tt; nodes = tt; requests = tt; callers = tt };
  found = tt;
  alone = λ none. refl;
}

-- a line that adds no part of these leaves them
named-still : (said after : Said) → said.links ≡ after.links → said.groups ≡ after.groups → said.requests ≡ after.requests → said.callers ≡ after.callers → IsNamed said → IsDraft after → IsNamed after
named-still said after links groups requests callers n draft = record {
  draft = draft;
  named = record {
    links = subst (Each HasNames) links n.named.links;
    groups = subst (Each (λ (name : List ℕ). is_name name ≡ true)) groups n.named.groups;
    quotas = subst (Each (λ (entry : LinkEntry). Each HasEightLoads entry.quotas)) links n.named.quotas;
    nodes = subst (Each (λ (entry : RequestEntry). AreNodesNamed entry.found)) requests n.named.nodes;
    requests = subst (Each (λ (entry : RequestEntry). is_name entry.name ≡ true)) requests n.named.requests;
    callers = subst (Each (λ (caller : CallerEntry). is_name caller.name ≡ true)) callers n.named.callers;
  };
  found = subst (λ ls. Each (λ (entry : RequestEntry). IsFoundRoute ls entry.request.route entry.found) after.requests) links (subst (Each (λ (entry : RequestEntry). IsFoundRoute said.links entry.request.route entry.found)) requests n.found);
  alone = λ none. sym requests ∙ n.alone (callers ∙ none);
}

-- no route is found before there are callers
none-found : (links : List LinkEntry) (requests : List RequestEntry) → requests ≡ [] → Each (λ (entry : RequestEntry). IsFoundRoute links entry.request.route entry.found) requests
none-found links requests none = subst (Each (λ (entry : RequestEntry). IsFoundRoute links entry.request.route entry.found)) (sym none) tt

-- a quota more leaves what each link has
quota-kept : (P : LinkEntry → Type 0) (quota : Quota) → ((entry : LinkEntry) → P entry → P (with_its_quota quota entry)) → (place : ℕ) (links : List LinkEntry) → Each P links → Each P (add_quota place quota links)
quota-kept P quota keeps place [] each = tt
quota-kept P quota keeps zero (entry ∷ links) each = (keeps entry each.0, each.1)
quota-kept P quota keeps (suc place) (entry ∷ links) each = (each.0, quota-kept P quota keeps place links each.1)

-- and an operation more the name of each caller
op-kept : (op : Op) (callers : List CallerEntry) → Each (λ (caller : CallerEntry). is_name caller.name ≡ true) callers → Each (λ (caller : CallerEntry). is_name caller.name ≡ true) (add_op op callers)
op-kept op [] each = tt
op-kept op (caller ∷ []) each = (each.0, tt)
op-kept op (caller ∷ next ∷ callers) each = (each.0, op-kept op (next ∷ callers) each.1)

none-with_op : (op : Op) (callers : List CallerEntry) → add_op op callers ≡ [] → callers ≡ []
none-with_op op [] none = refl
none-with_op op (caller ∷ []) none = cc
none-with_op op (caller ∷ next ∷ callers) none = cc

none-with_caller : (callers : List CallerEntry) (caller : CallerEntry) → callers ++ caller ∷ [] ≡ [] → ⊥
none-with_caller [] caller none = cc
none-with_caller (first ∷ callers) caller none = cc

named-more : (said : Said) (what : Item) → IsNamed said → MayAdd said what → NamesItem said what → IsNamed (with_item what said)
named-more said item.Nothing n may names = n
named-more said (item.Link entry) n may names = record {
  draft = draft-more said (item.Link entry) n.draft may;
  named = record {
    links = Each-append HasNames said.links (entry ∷ []) n.named.links (names, tt);
    groups = n.named.groups;
    quotas = Each-append (λ (e : LinkEntry). Each HasEightLoads e.quotas) said.links (entry ∷ []) n.named.quotas (subst (Each HasEightLoads) (sym may.link.unsplit) tt, tt);
    nodes = n.named.nodes;
    requests = n.named.requests;
    callers = n.named.callers;
  };
  found = none-found (said.links ++ entry ∷ []) said.requests (n.alone may.link.first);
  alone = n.alone;
}
named-more said (item.Group name) n may names = record {
  draft = draft-more said (item.Group name) n.draft may;
  named = record {
    links = n.named.links;
    groups = Each-append (λ (g : List ℕ). is_name g ≡ true) said.groups (name ∷ []) n.named.groups (names, tt);
    quotas = n.named.quotas;
    nodes = n.named.nodes;
    requests = n.named.requests;
    callers = n.named.callers;
  };
  found = n.found;
  alone = n.alone;
}
named-more said (item.Quota link quota) n may names = record {
  draft = draft-more said (item.Quota link quota) n.draft may;
  named = record {
    links = quota-kept HasNames quota (λ entry has. record { name = has.name; from = has.from; to = has.to }) (link_number link) said.links n.named.links;
    groups = n.named.groups;
    quotas = quota-kept (λ (e : LinkEntry). Each HasEightLoads e.quotas) quota (λ entry each. Each-append HasEightLoads entry.quotas (quota ∷ []) each (names, tt)) (link_number link) said.links n.named.quotas;
    nodes = n.named.nodes;
    requests = n.named.requests;
    callers = n.named.callers;
  };
  found = none-found (add_quota (link_number link) quota said.links) said.requests (n.alone may.share.first);
  alone = n.alone;
}
named-more said (item.Caller name group) n may names = record {
  draft = draft-more said (item.Caller name group) n.draft may;
  named = record {
    links = n.named.links;
    groups = n.named.groups;
    quotas = n.named.quotas;
    nodes = n.named.nodes;
    requests = n.named.requests;
    callers = Each-append (λ (caller : CallerEntry). is_name caller.name ≡ true) said.callers (new_caller name group ∷ []) n.named.callers (names, tt);
  };
  found = n.found;
  alone = λ none. absurd (none-with_caller said.callers (new_caller name group) none);
}
named-more said (item.Open entry) n may names = record {
  draft = draft-more said (item.Open entry) n.draft may;
  named = record {
    links = n.named.links;
    groups = n.named.groups;
    quotas = n.named.quotas;
    nodes = Each-append (λ (r : RequestEntry). AreNodesNamed r.found) said.requests (entry ∷ []) n.named.nodes (names.nodes, tt);
    requests = Each-append (λ (r : RequestEntry). is_name r.name ≡ true) said.requests (entry ∷ []) n.named.requests (names.name, tt);
    callers = op-kept (Open entry.request.chan) said.callers n.named.callers;
  };
  found = Each-append (λ (r : RequestEntry). IsFoundRoute said.links r.request.route r.found) said.requests (entry ∷ []) n.found (names.found, tt);
  alone = λ none. (let nobody = ap length (none-with_op (Open entry.request.chan) said.callers none) in absurd (omega (arith, nobody, may.request.caller)));
}
named-more said (item.Op what) n may names = record {
  draft = draft-more said (item.Op what) n.draft may;
  named = record {
    links = n.named.links;
    groups = n.named.groups;
    quotas = n.named.quotas;
    nodes = n.named.nodes;
    requests = n.named.requests;
    callers = op-kept what said.callers n.named.callers;
  };
  found = n.found;
  alone = λ none. n.alone (none-with_op what said.callers none);
}
named-more said (item.Header version) n may names = named-still said (with_item (item.Header version) said) refl refl refl refl n (draft-more said (item.Header version) n.draft may)
named-more said (item.Rounds count) n may names = named-still said (with_item (item.Rounds count) said) refl refl refl refl n (draft-more said (item.Rounds count) n.draft may)
named-more said (item.Tail count) n may names = named-still said (with_item (item.Tail count) said) refl refl refl refl n (draft-more said (item.Tail count) n.draft may)
named-more said item.Schedule n may names = named-still said (with_item item.Schedule said) refl refl refl refl n (draft-more said item.Schedule n.draft may)
named-more said (item.Do what) n may names = named-still said (with_item (item.Do what) said) refl refl refl refl n (draft-more said (item.Do what) n.draft may)

-- ---- a whole text

complete-read : (said : Said) (parts : PlanParts) (schedule : Schedule) → IsNamed said → is_complete said ≡ true → parts_said said ≡ parts → schedule_said said ≡ schedule → IsReadable parts schedule
complete-read said parts schedule n complete same its =
    subst (λ p. IsReadable p schedule) same (subst (IsReadable (parts_said said)) its (record { plan = complete-draft said n.draft complete; named = n.named; found = n.found; scheduled = n.draft.schedule }))

end-read : (ending : Ending) (count : ℕ) (said : Said) (parts : PlanParts) (schedule : Schedule) → IsNamed said → at_end ending count said ≡ PlanRead parts schedule → IsReadable parts schedule
end-read all_given count said parts schedule n e = by (is_complete said) refl e where
  by : (complete : Bool) → is_complete said ≡ complete → (if complete then PlanRead (parts_said said) (schedule_said said) else BadLine (suc count) cause.End) ≡ PlanRead parts schedule → IsReadable parts schedule
  by true is e =
      let same : parts_said said ≡ parts = cc in
      let its : schedule_said said ≡ schedule = cc in
      complete-read said parts schedule n is same its
  by false is e = cc
end-read cut_short count said parts schedule n e = cc
end-read too_long count said parts schedule n e = cc

lines-read : (lines : List (List ℕ)) (ending : Ending) (count : ℕ) (said : Said) (parts : PlanParts) (schedule : Schedule) → IsNamed said → reading_of count lines ending said ≡ PlanRead parts schedule → IsReadable parts schedule
lines-read [] ending count said parts schedule n e = end-read ending count said parts schedule n e
lines-read (line ∷ lines) ending count said parts schedule n e = by (judge said (suc count) line) refl e (λ after named. lines-read lines ending (suc count) after parts schedule named) where
  by : (r : Result Item LineCause) → judge said (suc count) line ≡ r → on_judged r (suc count) said (λ after. reading_of (suc count) lines ending after) ≡ PlanRead parts schedule
      → ((after : Said) → IsNamed after → reading_of (suc count) lines ending after ≡ PlanRead parts schedule → IsReadable parts schedule) → IsReadable parts schedule
  by (Ok what) is e rest = rest (with_item what said) (named-more said what n (may-add said (suc count) line what n.draft is) (line-names said (suc count) line what is)) e
  by (Err why) is e rest = cc

pub what-is-readable : WhatIsReadIsReadable
unfolding reading
what-is-readable most bytes parts schedule e = lines-read (outlook most bytes).lines (outlook most bytes).ending 0 nothing_said parts schedule nothing-named e
