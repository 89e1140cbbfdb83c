-- The line of a request: what it says, and that what one that passes says may be added.
use Rattle.std.proofs.Common.{ℕ, ◌≡◌, zero, suc, ◌+◌, ◌<◌, ◌≤◌, Bool, true, false, not, ◌&&◌, ◌||◌, nat_eq, nat_lt, nat_le, List, [], ◌∷◌, length, Option, Some, None, Ok, is_some, is_none, option_map, if◌then◌else◌, refl, sym, ◌∙◌, ap, ap₂, subst, inl, inr, arith}
use Rattle.std.proofs.lemmas.Bool.{cases_Bool, le-leb, lt-ltb, ltb-true, eqb-true, eqb-false, and_parts, and_from, or_left, or_right}
use Rattle.std.proofs.lemmas.Option.{same_Some, slice_get_within, cond_some}
use Rattle.std.specs.List.{list_all, slice_get}
use Rattle.std.specs.Prelude.{position, unwrap_or}
use Rattle.net_units.specs.Limits.{is_within}
use Rattle.net_units.specs.Numbers.{link_number, actor_at, channel_at}
use Rattle.net_units.specs.Text.{is_name}
use Rattle.net_units.specs.declared.numbers.ActorNo.{ActorNo}
use Rattle.net_units.specs.declared.numbers.ChanNo.{ChanNo}
use Rattle.traffic_contract.specs.Contract.{Traffic}
use Rattle.traffic_contract.specs.Refusal.{first_bad}
use Rattle.hop_reservation.specs.Routes.{fault_in, IsRoute}
use Rattle.hop_reservation.specs.declared.route.Hop.{Hop}
use Rattle.hop_reservation.proofs.DistinctLinks.{route-from_none}
use Rattle.link_steps.specs.Lists.{Each}
use Rattle.setup_protocol.specs.declared.request.Control.{Control}
use Rattle.call_script.specs.Parts.{FollowsLink}
use Rattle.call_script.specs.Rules.{is_named, request_names, has_link, is_joined, control_in_range}
use Rattle.call_script.specs.Versions.{has_found_routes}
use Rattle.call_script.specs.declared.entries.LinkEntry.{LinkEntry}
use Rattle.call_script.specs.declared.entries.RequestEntry.{RequestEntry}
use Rattle.call_script.specs.declared.version.Version.{Version}
use Rattle.call_script.proofs.Growing.{few-in}
use Rattle.line_forms.specs.Fitting.{IsInRange, AllFit, FitParts, FitsForm}
use Rattle.line_forms.specs.Forms.{are_single}
use Rattle.line_forms.specs.Known.{KnownNames}
use Rattle.line_forms.specs.Values.{name_at, number_at, number_in}
use Rattle.line_forms.specs.declared.form.Part.{Part}
use Rattle.line_forms.specs.declared.form.Part.TheVariants as part
use Rattle.line_forms.specs.declared.known.Set.TheVariants as set
use Rattle.line_forms.specs.declared.slot.Slot.TheVariants as slot
use Rattle.line_forms.specs.declared.value.FieldValue.{FieldValue}
use Rattle.line_forms.specs.declared.value.FieldValue.TheVariants as value
use Rattle.line_forms.specs.declared.value.Values.{Values}
use Rattle.line_forms.proofs.FitsByPlace.{slot_at, run_slot, run_most, number-fits, new-fits, known-fits, run-fits-form, as-many}
use Rattle.scenario_reader.specs.BothWays.{AreNodesNamed, IsFoundRoute}
use Rattle.scenario_reader.specs.Causes.{unless}
use Rattle.scenario_reader.specs.Drafts.{Said, parts_said, last_caller}
use Rattle.scenario_reader.specs.Kept.{IsDraft}
use Rattle.scenario_reader.specs.Known.{FitsOne, names_said, node_number}
use Rattle.scenario_reader.specs.Nodes.{is_node, node_of, route_between}
use Rattle.scenario_reader.specs.declared.cause.LineCause.TheVariants as cause
use Rattle.scenario_reader.specs.declared.item.Item.{Item}
use Rattle.scenario_reader.specs.declared.item.Item.TheVariants as item
use Rattle.scenario_reader.specs.declared.line.request.way.Routed.{Routed}
use Rattle.scenario_reader.specs.line.Request.{AreTermsSmall, AreLinksThere, AreNodes, rate_form, jitter_form, found_rate_form, found_jitter_form, open_forms, is_found, both_nodes, nodes_said, terms_at, term, control_by, control_said, terms_said, contract_said, hop_before, hops_said, is_way, between_rule, nodes_rule, way_rule, found_said, routed_said, open_rule, request_of, open_said, open_says}
use Rattle.scenario_reader.specs.line.Table.{MayAdd}
use Rattle.scenario_reader.proofs.Finding.NameLookup.{new-without-place}
use Rattle.scenario_reader.proofs.Finding.NamedByPlace.{link-known}
use Rattle.scenario_reader.proofs.Finding.NodesByNumber.{found-route, named-equal}
use Rattle.scenario_reader.proofs.Passing.PassingLines.{all-pass, both-pass, unless-passes, stated-ok, contract-passes, not-said}
use Rattle.scenario_reader.proofs.Passing.ReadBefore.{headed-is, some-items, longer-than-none}
use Rattle.scenario_reader.proofs.Back.RulesBack.{pass-all, unless-holds, stated-back}
use Rattle.scenario_reader.proofs.kind.Link.{nothing-past}

-- a number that isn't 0
pub not-zero : (n : ℕ) → 1 ≤ n → nat_eq n 0 ≡ false
not-zero n some = elim (cases_Bool (nat_eq n 0)) [
  | inl none ↦ (let same = eqb-true n 0 none in absurd (omega (arith, same, some)))
  | inr other ↦ other
]

-- ---- the numbers of a line

-- those from a place on
record AreTerms (ones : List FieldValue) (first : ℕ) : Type 0 where
  xmin : IsInRange 1 1048576 (number_at ones (first + 0))
  xave : IsInRange 1 1048576 (number_at ones (first + 1))
  interval : IsInRange 1 16777216 (number_at ones (first + 2))
  smax : IsInRange 1 65536 (number_at ones (first + 3))
  delay : IsInRange 1 67108864 (number_at ones (first + 4))
  jitter : number_at ones (first + 5) ≤ 67108864

control-range : (bound : ℕ) → bound ≤ 67108864 → control_in_range (control_by bound) ≡ true
control-range bound most = by (nat_eq bound 0) refl where
  by : (none : Bool) → nat_eq bound 0 ≡ none → control_in_range (control_by bound) ≡ true
  by true e = rw e refl
  by false e =
      let other = eqb-false bound 0 e in
      rw e (and_from (nat_le 1 bound) (nat_le bound 67108864) (le-leb 1 bound (omega (arith, other))) (le-leb bound 67108864 most))

-- ---- its way

-- a form without a run says none
no-run : (names : KnownNames) (before : ℕ) (parts : List Part) (ones run : List FieldValue) → are_single parts ≡ true → FitParts names before parts ones run → length run ≡ 0
no-run names before [] [] [] single fit = refl
no-run names before (part.Word keyword ∷ parts) ones run single fit = no-run names before parts ones run single fit
no-run names before (part.One t ∷ parts) (v ∷ ones) run single fit = no-run names (number_in v) parts ones run single fit.1
no-run names before (part.Route of ∷ parts) ones run single fit = cc
no-run names before (part.Numbers low high ∷ parts) ones run single fit = cc
no-run names before parts ones run single fit = absurd fit

-- the links of a run are there
links-there : (said : Said) (before : ℕ) (run : List FieldValue) → AllFit (names_said said) before (slot.Known set.Links) run → (k : ℕ) → k < length run → number_at run k < length said.links
links-there said before [] fit k within = absurd (omega (arith, within))
links-there said before (value.Known name number ∷ run) fit zero within =
    let there = link-known said.links name number fit.0.1 in
    slice_get_within said.links number there.entry there.at
links-there said before (v ∷ run) fit (suc k) within = links-there said before run fit.1 k (omega (arith, within))
links-there said before (v ∷ run) fit k within = absurd fit.0

-- a node that is known is one
node-is : (said : Said) (name : List ℕ) (number : ℕ) → node_number said.links name ≡ Some number → is_node said.links name ≡ true
node-is said name number e = (cond_some (is_node said.links name) (node_of said.links name) number e).0

-- the nodes of a line
record SaysNodes (said : Said) (values : Values) : Type 0 where
  from : List ℕ
  to : List ℕ
  are : nodes_said values ≡ Some (from, to)
  from_is : is_name from ≡ true
  to_is : is_name to ≡ true
  from_node : is_node said.links from ≡ true
  to_node : is_node said.links to ≡ true

says-nodes : (said : Said) (form : List Part) (values : Values) → FitsForm (names_said said) form values → slot_at form 1 ≡ Some (slot.Known set.Nodes) → slot_at form 2 ≡ Some (slot.Known set.Nodes) → SaysNodes said values
says-nodes said form values fits first second =
    let from = known-fits (names_said said) form values 1 set.Nodes fits first in
    let to = known-fits (names_said said) form values 2 set.Nodes fits second in
    record {
      from = from.name;
      to = to.name;
      are = ap₂ both_nodes from.here to.here;
      from_is = from.is;
      to_is = to.is;
      from_node = node-is said from.name (number_at values.ones 1) from.known;
      to_node = node-is said to.name (number_at values.ones 2) to.known;
    }

-- ---- what a line says

pub record SaysOpen (version : Version) (said : Said) (values : Values) : Type 0 where
  pub name : List ℕ
  pub name_is : is_name name ≡ true
  pub new : position (is_named name) (request_names said.requests) ≡ None
  pub name_here : name_at values.ones 0 ≡ Some name
  terms : AreTerms values.ones (terms_at values)
  pub links : AreLinksThere said.links values.run
  nodes : is_found values ≡ true → SaysNodes said values
  version_is : is_found values ≡ true → has_found_routes version ≡ true

-- the parts of a form with its name, and with its numbers from a place on
record IsOpenForm (form : List Part) (first : ℕ) : Type 0 where
  name : slot_at form 0 ≡ Some (slot.New set.Requests)
  xmin : slot_at form (first + 0) ≡ Some (slot.Number 1 1048576)
  xave : slot_at form (first + 1) ≡ Some (slot.Number 1 1048576)
  interval : slot_at form (first + 2) ≡ Some (slot.Number 1 16777216)
  smax : slot_at form (first + 3) ≡ Some (slot.Number 1 65536)
  delay : slot_at form (first + 4) ≡ Some (slot.Number 1 67108864)

terms-say : (said : Said) (form : List Part) (first : ℕ) (values : Values) → IsOpenForm form first → FitsForm (names_said said) form values → number_at values.ones (first + 5) ≤ 67108864 → AreTerms values.ones first
terms-say said form first values is fits jitter = record {
  xmin = number-fits (names_said said) form values (first + 0) 1 1048576 fits is.xmin;
  xave = number-fits (names_said said) form values (first + 1) 1 1048576 fits is.xave;
  interval = number-fits (names_said said) form values (first + 2) 1 16777216 fits is.interval;
  smax = number-fits (names_said said) form values (first + 3) 1 65536 fits is.smax;
  delay = number-fits (names_said said) form values (first + 4) 1 67108864 fits is.delay;
  jitter = jitter;
}

-- a form with the links of the route
written-says : (version : Version) (said : Said) (form : List Part) (values : Values) → IsOpenForm form 1 → FitsForm (names_said said) form values → run_slot form ≡ Some (slot.Known set.Links) → run_most form ≡ 16 → number_at values.ones 6 ≤ 67108864 → SaysOpen version said values
written-says version said form values is fits links many jitter =
    let name = new-fits (names_said said) form values 0 set.Requests fits is.name in
    let run = run-fits-form (names_said said) form values (slot.Known set.Links) fits links in
    let some = run.is.least in
    let few = run.is.few in
    let written = not-zero (length values.run) some in
    let at : 1 ≡ terms_at values = rw written refl in
    record {
      name = name.name;
      name_is = name.is;
      new = name.new;
      name_here = name.here;
      terms = subst (AreTerms values.ones) at (terms-say said form 1 values is fits jitter);
      links = record { few = omega (arith, few, many); there = links-there said run.before values.run run.is.all };
      nodes = λ found. absurd (let clash : true ≡ false = sym found ∙ written in cc);
      version_is = λ found. absurd (let clash : true ≡ false = sym found ∙ written in cc);
    }

-- a form with two nodes
between-says : (version : Version) (said : Said) (form : List Part) (values : Values) → has_found_routes version ≡ true → IsOpenForm form 3 → FitsForm (names_said said) form values → slot_at form 1 ≡ Some (slot.Known set.Nodes) → slot_at form 2 ≡ Some (slot.Known set.Nodes) → are_single form ≡ true
    → number_at values.ones 8 ≤ 67108864 → SaysOpen version said values
between-says version said form values has is fits first second single jitter =
    let name = new-fits (names_said said) form values 0 set.Requests fits is.name in
    let none = no-run (names_said said) 0 form values.ones values.run single fits in
    let at : 3 ≡ terms_at values = rw none refl in
    record {
      name = name.name;
      name_is = name.is;
      new = name.new;
      name_here = name.here;
      terms = subst (AreTerms values.ones) at (terms-say said form 3 values is fits jitter);
      links = record { few = omega (arith, none); there = λ k within. absurd (omega (arith, within, none)) };
      nodes = λ found. says-nodes said form values fits first second;
      version_is = λ found. has;
    }

rate-says : (version : Version) (said : Said) (values : Values) → FitsForm (names_said said) rate_form values → SaysOpen version said values
rate-says version said values fits =
    let count = as-many (names_said said) 0 rate_form values.ones values.run fits in
    let none = nothing-past values.ones 6 (omega (arith, count)) in
    written-says version said rate_form values (record { name = refl; xmin = refl; xave = refl; interval = refl; smax = refl; delay = refl }) fits refl refl (omega (arith, none))

jitter-says : (version : Version) (said : Said) (values : Values) → FitsForm (names_said said) jitter_form values → SaysOpen version said values
jitter-says version said values fits =
    let bound = number-fits (names_said said) jitter_form values 6 1 67108864 fits refl in
    written-says version said jitter_form values (record { name = refl; xmin = refl; xave = refl; interval = refl; smax = refl; delay = refl }) fits refl refl bound.most

found-rate-says : (version : Version) (said : Said) (values : Values) → has_found_routes version ≡ true → FitsForm (names_said said) found_rate_form values → SaysOpen version said values
found-rate-says version said values has fits =
    let count = as-many (names_said said) 0 found_rate_form values.ones values.run fits in
    let none = nothing-past values.ones 8 (omega (arith, count)) in
    between-says version said found_rate_form values has (record { name = refl; xmin = refl; xave = refl; interval = refl; smax = refl; delay = refl }) fits refl refl refl (omega (arith, none))

found-jitter-says : (version : Version) (said : Said) (values : Values) → has_found_routes version ≡ true → FitsForm (names_said said) found_jitter_form values → SaysOpen version said values
found-jitter-says version said values has fits =
    let bound = number-fits (names_said said) found_jitter_form values 8 1 67108864 fits refl in
    between-says version said found_jitter_form values has (record { name = refl; xmin = refl; xave = refl; interval = refl; smax = refl; delay = refl }) fits refl refl refl bound.most

pub says-open : (version : Version) (said : Said) (values : Values) → FitsOne (names_said said) (open_forms version) values → SaysOpen version said values
says-open version said values fits = by (has_found_routes version) refl fits where
  by : (has : Bool) → has_found_routes version ≡ has → FitsOne (names_said said) (if has then rate_form ∷ jitter_form ∷ found_rate_form ∷ found_jitter_form ∷ [] else rate_form ∷ jitter_form ∷ []) values → SaysOpen version said values
  by true has (inl rate) = rate-says version said values rate
  by true has (inr (inl jitter)) = jitter-says version said values jitter
  by true has (inr (inr (inl rate))) = found-rate-says version said values has rate
  by true has (inr (inr (inr jitter))) = found-jitter-says version said values has jitter
  by false has (inl rate) = rate-says version said values rate
  by false has (inr jitter) = jitter-says version said values jitter

-- its numbers are small
pub terms-small : (version : Version) (said : Said) (values : Values) → SaysOpen version said values → AreTermsSmall values
terms-small version said values says = record { xmin = says.terms.xmin.most; xave = says.terms.xave.most; interval = says.terms.interval.most; smax = says.terms.smax.most }

-- and its nodes are nodes
pub are-nodes : (version : Version) (said : Said) (values : Values) → SaysOpen version said values → is_found values ≡ true → AreNodes said.links (nodes_said values)
are-nodes version said values says found =
    let nodes = says.nodes found in
    subst (AreNodes said.links) (sym nodes.are) (nodes.from_node, nodes.to_node)

-- ---- what its route has, be it written or found

-- links with the numbers of their places
abbrev pub StandAtOwnNumbers : List LinkEntry → Type 0
StandAtOwnNumbers links = (n : ℕ) (entry : LinkEntry) → slice_get links n ≡ Some entry → link_number entry.shape.link ≡ n

own-place : (links : List LinkEntry) (n : ℕ) (entry : LinkEntry) → StandAtOwnNumbers links → slice_get links n ≡ Some entry → slice_get links (link_number entry.shape.link) ≡ Some entry
own-place links n entry numbered at = subst (λ m. slice_get links m ≡ Some entry) (sym (numbered n entry at)) at

-- the hops of a route are over links that are there
hops-there : (links : List LinkEntry) (run : List FieldValue) → StandAtOwnNumbers links → list_all (λ (hop : Hop). has_link links hop.link) (hops_said links run) ≡ true
hops-there links [] numbered = refl
hops-there links (v ∷ run) numbered = by (slice_get links (number_in v)) refl (hops-there links run numbered) where
  by : (found : Option LinkEntry) → slice_get links (number_in v) ≡ found → list_all (λ (hop : Hop). has_link links hop.link) (hops_said links run) ≡ true → list_all (λ (hop : Hop). has_link links hop.link) (hop_before found (hops_said links run)) ≡ true
  by None e rest = rest
  by (Some entry) e rest =
      let within = slice_get_within links (link_number entry.shape.link) entry (own-place links (number_in v) entry numbered e) in
      and_from (nat_lt (link_number entry.shape.link) (length links)) (list_all (λ (hop : Hop). has_link links hop.link) (hops_said links run))
      (lt-ltb (link_number entry.shape.link) (length links) within) rest

-- and have their bounds and propagations
hops-follow : (links : List LinkEntry) (run : List FieldValue) → StandAtOwnNumbers links → Each (FollowsLink links) (hops_said links run)
hops-follow links [] numbered = tt
hops-follow links (v ∷ run) numbered = by (slice_get links (number_in v)) refl (hops-follow links run numbered) where
  by : (found : Option LinkEntry) → slice_get links (number_in v) ≡ found → Each (FollowsLink links) (hops_said links run) → Each (FollowsLink links) (hop_before found (hops_said links run))
  by None e rest = rest
  by (Some entry) e rest =
      let at = own-place links (number_in v) entry numbered e in (
        record {
          bounds = λ other found. ap (λ (l : LinkEntry). l.shape.bounds) (same_Some entry other (sym at ∙ found));
          prop = λ other found. ap (λ (l : LinkEntry). l.shape.prop) (same_Some entry other (sym at ∙ found));
        },
        rest,
      )

record MayGo (said : Said) (routed : Routed) : Type 0 where
  there : list_all (λ (hop : Hop). has_link said.links hop.link) routed.route ≡ true
  joined : is_joined said.links routed.route ≡ true
  hops : Each (FollowsLink said.links) routed.route
  route : IsRoute routed.route

written-may : (said : Said) (values : Values) → is_found values ≡ false → StandAtOwnNumbers said.links → way_rule said values ≡ None → MayGo said (routed_said said values)
written-may said values is numbered rule =
    let hops = hops_said said.links values.run in
    let passes : unless (is_way said (hops_said said.links values.run)) cause.Route ≡ None = rw is at rule in
    let way = and_parts (is_none (fault_in (hops_said said.links values.run))) (is_joined said.links (hops_said said.links values.run)) (unless-passes (is_way said (hops_said said.links values.run)) cause.Route passes) in
    let same : record { route = hops_said said.links values.run; found = None } ≡ routed_said said values = rw is refl in
    subst (MayGo said) same (record {
      there = hops-there said.links values.run numbered;
      joined = way.1;
      hops = hops-follow said.links values.run numbered;
      route = route-from_none hops (not-said (fault_in hops) way.0);
    })

some-is : {X : Type 0} (o : Option X) → is_some o ≡ true → (x : X) × (o ≡ Some x)
some-is None is = absurd (let clash : false ≡ true = is in cc)
some-is (Some x) is = (x, refl)

found-may : (said : Said) (values : Values) → is_found values ≡ true → StandAtOwnNumbers said.links → length said.links ≤ 32 → SaysNodes said values → way_rule said values ≡ None → MayGo said (routed_said said values)
found-may said values is numbered few nodes rule =
    let ends : nodes_rule said (nodes_said values) ≡ None = rw is at rule in
    let between : between_rule said nodes.from nodes.to ≡ None = subst (λ (n : Option (List ℕ × List ℕ)). nodes_rule said n ≡ None) nodes.are ends in
    let limits = both-pass (unless (not (is_named nodes.to nodes.from)) cause.Route) (unless (is_some (route_between said.links nodes.from nodes.to)) cause.Reach) between in
    let apart = unless-passes (not (is_named nodes.to nodes.from)) cause.Route limits.0 in
    let some = some-is (route_between said.links nodes.from nodes.to) (unless-passes (is_some (route_between said.links nodes.from nodes.to)) cause.Reach limits.1) in
    let good = found-route said.links nodes.from nodes.to some.0 (record { number = numbered }) few nodes.from_node nodes.to_node (λ one. (let named = named-equal nodes.to nodes.from one in let clash : false ≡ true = sym (ap not named) ∙ apart in cc)) some.1 in
    let same : record { route = some.0; found = nodes_said values } ≡ routed_said said values =
    rw is (ap (λ (route : List Hop). record { route = route; found = nodes_said values }) (sym (ap (found_said said) nodes.are ∙ ap (λ (o : Option (List Hop)). unwrap_or o []) some.1))) in
    subst (MayGo said) same (record { there = good.way.there; joined = good.way.joined; hops = good.way.follows; route = good.route })

may-go : (version : Version) (said : Said) (values : Values) → SaysOpen version said values → StandAtOwnNumbers said.links → length said.links ≤ 32 → way_rule said values ≡ None → MayGo said (routed_said said values)
may-go version said values says numbered few rule = elim (cases_Bool (is_found values)) [
  | inl is ↦ found-may said values is numbered few (says.nodes is) rule
  | inr is ↦ written-may said values is numbered rule
]

-- a route that is found is of a version that has it
may-find : (version : Version) (said : Said) (values : Values) → SaysOpen version said values → (has_found_routes version || is_none (routed_said said values).found) ≡ true
may-find version said values says = elim (cases_Bool (is_found values)) [
  | inl is ↦ or_left (has_found_routes version) (is_none (routed_said said values).found) (says.version_is is)
  | inr is ↦ or_right (has_found_routes version) (is_none (routed_said said values).found) (rw is refl)
]

-- its nodes go by names
nodes-named : (version : Version) (said : Said) (values : Values) → SaysOpen version said values → AreNodesNamed (routed_said said values).found
nodes-named version said values says = elim (cases_Bool (is_found values)) [
  | inl is ↦ (let nodes = says.nodes is in let same : Some (nodes.from, nodes.to) ≡ (routed_said said values).found = rw is (sym nodes.are) in subst AreNodesNamed same (nodes.from_is, nodes.to_is))
  | inr is ↦ (let same : None ≡ (routed_said said values).found = rw is refl in subst AreNodesNamed same tt)
]

-- and it is the one that is found
there-is : (o : Option (List Hop)) → is_some o ≡ true → o ≡ Some (unwrap_or o [])
there-is None e = cc
there-is (Some hops) e = refl

nodes-found : (said : Said) (nodes : Option (List ℕ × List ℕ)) → nodes_rule said nodes ≡ None → IsFoundRoute said.links (found_said said nodes) nodes
nodes-found said None rule = tt
nodes-found said (Some (from, to)) rule =
    let limits = both-pass (unless (not (is_named to from)) cause.Route) (unless (is_some (route_between said.links from to)) cause.Reach) rule in
    there-is (route_between said.links from to) (unless-passes (is_some (route_between said.links from to)) cause.Reach limits.1)

route-found : (said : Said) (values : Values) → way_rule said values ≡ None → IsFoundRoute said.links (routed_said said values).route (routed_said said values).found
route-found said values rule = elim (cases_Bool (is_found values)) [
  | inl is ↦ (let ends : nodes_rule said (nodes_said values) ≡ None = rw is at rule in rw is (nodes-found said (nodes_said values) ends))
  | inr is ↦ rw is tt
]

-- ---- the request that a line says

pub record NamesRequest (version : Version) (said : Said) (values : Values) (what : Item) : Type 0 where
  pub says : SaysOpen version said values
  pub nodes : AreNodesNamed (routed_said said values).found
  pub found : IsFoundRoute said.links (routed_said said values).route (routed_said said values).found
  few : length said.requests < 1024
  contract : is_some (contract_said values) ≡ true
  way : way_rule said values ≡ None
  pub is : item.Open (request_of said values (routed_said said values) says.name) ≡ what

pub request-named-so : (version : Version) (said : Said) (values : Values) (what : Item) → FitsOne (names_said said) (open_forms version) values → open_says said values ≡ Ok what → NamesRequest version said values what
request-named-so version said values what fits told =
    let says = says-open version said values fits in
    let p = stated-ok (open_rule said values) (option_map (open_said said values) (name_at values.ones 0)) what told in
    let q = all-pass (unless (nat_lt (length said.requests) 1024) cause.Many ∷ unless (is_some (contract_said values)) cause.Contract ∷ way_rule said values ∷ []) p.0 in
    record {
      says = says;
      nodes = nodes-named version said values says;
      found = route-found said values q.1.1.0;
      few = ltb-true (length said.requests) 1024 (unless-passes (nat_lt (length said.requests) 1024) cause.Many q.0);
      contract = unless-passes (is_some (contract_said values)) cause.Contract q.1.0;
      way = q.1.1.0;
      is = same_Some (open_said said values says.name) what (sym (ap (option_map (open_said said values)) says.name_here) ∙ p.1);
    }

pub open-may : (version : Version) (said : Said) (values : Values) (what : Item) → IsDraft said → said.version ≡ Some version → (not (nat_eq (length said.callers) 0) && is_none said.rounds) ≡ true
    → FitsOne (names_said said) (open_forms version) values → open_says said values ≡ Ok what → MayAdd said what
open-may version said values what draft v stands fits told =
    let named = request-named-so version said values what fits told in
    let may = and_parts (not (nat_eq (length said.callers) 0)) (is_none said.rounds) stands in
    let some = longer-than-none said.callers may.0 in
    let few = named.few in
    let callers = (few-in (parts_said said) draft.keeps.few).callers in
    let go = may-go version said values named.says draft.keeps.planned.links (few-in (parts_said said) draft.keeps.few).links named.way in
    let terms = named.says.terms in
    subst (MayAdd said) named.is (record {
      before = record {
        before = record { headed = headed-is said version v; unrounded = not-said said.rounds may.1 };
        linked = λ none. some-items said.callers may.0 (draft.unlinked_callers none);
      };
      request = record {
        version = rw v (may-find version said values named.says);
        name = new-without-place (request_names said.requests) named.says.name named.says.new;
        few = few;
        number = omega arith;
        caller = omega arith;
        there = go.there;
        joined = go.joined;
        range = and_from (is_within 1 67108864 (term values 4)) (control_in_range (control_said values))
            (and_from (nat_le 1 (term values 4)) (nat_le (term values 4) 67108864) (le-leb 1 (term values 4) terms.delay.least) (le-leb (term values 4) 67108864 terms.delay.most))
            (control-range (term values 5) terms.jitter);
        hops = go.hops;
        terms = record { contract = contract-passes (terms_said values) named.contract; route = go.route };
      };
    })

-- the answer of a judge that has read its parts one by one
pub open-answer : (said : Said) (values : Values) (name : List ℕ) (caller : ActorNo) (chan : ChanNo) (routed : Routed) (contract : Traffic) (control : Control) (delay : ℕ) → unless (nat_lt (length said.requests) 1024) cause.Many ≡ None → contract_said values ≡ Some contract → way_rule said values ≡ None
    → routed ≡ routed_said said values → name_at values.ones 0 ≡ Some name → caller ≡ actor_at (last_caller said) → chan ≡ channel_at (length said.requests) → control ≡ control_said values → delay ≡ term values 4
    → open_says said values ≡ Ok (item.Open (record { name = name; caller = caller; request = record { chan = chan; route = routed.route; contract = contract; control = control; delay = delay }; found = routed.found }))
open-answer said values name caller chan routed contract control delay many terms way same_routed named same_caller same_chan same_control same_delay =
    let told : terms_said values ≡ contract = (cond_some (is_none (first_bad (terms_said values))) (terms_said values) contract terms).1 in
    let entry : RequestEntry = record { name = name; caller = caller; request = record { chan = chan; route = routed.route; contract = contract; control = control; delay = delay }; found = routed.found } in
    let same : request_of said values (routed_said said values) name ≡ entry = rw (same_caller, same_chan, same_routed, sym told, same_control, same_delay) refl in
    let passes = pass-all (unless (nat_lt (length said.requests) 1024) cause.Many ∷ unless (is_some (contract_said values)) cause.Contract ∷ way_rule said values ∷ []) (
      many,
      (unless-holds (is_some (contract_said values)) cause.Contract (ap is_some terms), (way, tt)),
    ) in
    stated-back (open_rule said values) (option_map (open_said said values) (name_at values.ones 0)) (item.Open entry) passes
    (ap (option_map (open_said said values)) named ∙ ap (λ (e : RequestEntry). Some (item.Open e)) same)
