-- The line of a plan's request is read back: what it says fits its form, and says that request.
use Rattle.std.proofs.Common.{ℕ, ◌≡◌, suc, ◌<◌, ◌≤◌, Bool, true, false, not, ◌&&◌, ◌||◌, nat_eq, nat_lt, List, [], ◌∷◌, ◌++◌, length, map, drop, Option, Some, None, Ok, is_some, is_none, option_map, if◌then◌else◌, codes, decimal, refl, sym, ◌∙◌, ap, ap₂, subst, arith}
use Rattle.std.proofs.lemmas.Bool.{le-leb, lt-ltb, and_parts, and_from}
use Rattle.std.specs.List.{slice_get}
use Rattle.std.specs.Prelude.{position}
use Rattle.net_units.specs.Limits.{is_within}
use Rattle.net_units.specs.Numbers.{link_number, actor_number, channel_number, actor_at, channel_at}
use Rattle.net_units.specs.Text.{is_name}
use Rattle.net_units.specs.declared.numbers.ActorNo.{ActorNo}
use Rattle.net_units.specs.declared.numbers.ChanNo.{ChanNo}
use Rattle.traffic_contract.specs.Contract.{Traffic, IsContract, burst_of}
use Rattle.traffic_contract.specs.Refusal.{first_bad}
use Rattle.hop_reservation.specs.Routes.{fault_in, IsRoute}
use Rattle.hop_reservation.specs.declared.route.Hop.{Hop}
use Rattle.hop_reservation.proofs.DistinctLinks.{none-from_route}
use Rattle.link_steps.specs.Lists.{Each}
use Rattle.setup_protocol.specs.declared.request.Control.{Control}
use Rattle.setup_protocol.specs.declared.request.Control.TheVariants.{Rate, Jitter}
use Rattle.call_script.specs.Growing.{add_op}
use Rattle.call_script.specs.Rules.{is_named, link_names, request_names, request_has_version, is_joined, request_in_range, control_in_range}
use Rattle.call_script.specs.Versions.{has_found_routes}
use Rattle.call_script.specs.declared.entries.CallerEntry.{CallerEntry}
use Rattle.call_script.specs.declared.entries.LinkEntry.{LinkEntry}
use Rattle.call_script.specs.declared.entries.RequestEntry.{RequestEntry}
use Rattle.call_script.specs.declared.operations.Op.TheVariants as op
use Rattle.call_script.specs.declared.version.Version.{Version}
use Rattle.call_script.proofs.RulesAreKept.{from-low}
use Rattle.line_forms.specs.Fields.{line_of, field_at}
use Rattle.line_forms.specs.Fitting.{IsInRange, IsRun, AllFit, FitsForm}
use Rattle.line_forms.specs.Forms.{has_form, is_form, route_length}
use Rattle.line_forms.specs.Reading.{read_line}
use Rattle.line_forms.specs.Values.{name_at, number_at, field_of}
use Rattle.line_forms.specs.Words.{is_word}
use Rattle.line_forms.specs.Writing.{fields_with}
use Rattle.line_forms.specs.declared.form.Part.{Part}
use Rattle.line_forms.specs.declared.form.Part.TheVariants as part
use Rattle.line_forms.specs.declared.known.Set.TheVariants as set
use Rattle.line_forms.specs.declared.slot.Slot.TheVariants as slot
use Rattle.line_forms.specs.declared.value.FieldValue.{FieldValue}
use Rattle.line_forms.specs.declared.value.FieldValue.TheVariants as value
use Rattle.line_forms.specs.declared.value.Values.{Values}
use Rattle.line_forms.specs.declared.word.Keyword.TheVariants as word
use Rattle.scenario_reader.specs.BothWays.{AreNodesNamed, IsFoundRoute}
use Rattle.scenario_reader.specs.Causes.{unless}
use Rattle.scenario_reader.specs.Drafts.{Said, last_caller, with_item}
use Rattle.scenario_reader.specs.Entries.{hop_of}
use Rattle.scenario_reader.specs.Forms.{is_among}
use Rattle.scenario_reader.specs.Grammar.{is_passed_over}
use Rattle.scenario_reader.specs.Known.{names_said, node_number}
use Rattle.scenario_reader.specs.Nodes.{LinksAreNumbered, is_node, node_of, route_between}
use Rattle.scenario_reader.specs.declared.cause.LineCause.TheVariants as cause
use Rattle.scenario_reader.specs.declared.item.Item.TheVariants as item
use Rattle.scenario_reader.specs.declared.line.request.way.Routed.{Routed}
use Rattle.scenario_reader.specs.line.Request.{rate_form, jitter_form, found_rate_form, found_jitter_form, open_forms, term, control_by, control_said, terms_said, contract_of, contract_said, hop_before, hops_said, is_way, way_rule, routed_said, open_rule, open_said, link_before, route_values, control_values, way_values, form_by, open_fields}
use Rattle.scenario_reader.specs.line.Table.{line_word}
use Rattle.scenario_reader.proofs.Finding.FoundNodes.{found-nodes}
use Rattle.scenario_reader.proofs.Finding.NameLookup.{no-place}
use Rattle.scenario_reader.proofs.Passing.ReadByForms.{first-form, later-form, line-reads}
use Rattle.scenario_reader.proofs.Back.RulesBack.{pass-all, unless-holds, stated-back, name-no-word}
use Rattle.scenario_reader.proofs.Back.SaysBack.{Reads, front, not-none}
use Rattle.scenario_reader.proofs.Finding.ShapeOfNumbers.{actor-is, channel-is}
use Rattle.scenario_reader.proofs.kind.Request.{not-zero}

-- a hop over a link that is found by its name
pub record IsHopHere (links : List LinkEntry) (hop : Hop) : Type 0 where
  pub entry : LinkEntry
  pub found : slice_get links (link_number hop.link) ≡ Some entry
  pub is : hop_of entry ≡ hop
  pub name : is_name entry.name ≡ true
  pub place : position (is_named entry.name) (link_names links) ≡ Some (link_number hop.link)

-- what a line says of a route, one value a hop
values-next : (links : List LinkEntry) (hop : Hop) (hops : List Hop) (here : IsHopHere links hop) → route_values links (hop ∷ hops) ≡ value.Known here.entry.name (link_number hop.link) ∷ route_values links hops
values-next links hop hops here = ap (λ (found : Option LinkEntry). link_before (link_number hop.link) found (route_values links hops)) here.found

values-count : (links : List LinkEntry) (hops : List Hop) → Each (IsHopHere links) hops → length (route_values links hops) ≡ length hops
values-count links [] here = refl
values-count links (hop ∷ hops) here = ap length (values-next links hop hops here.0) ∙ ap suc (values-count links hops here.1)

values-fit : (said : Said) (before : ℕ) (hops : List Hop) → Each (IsHopHere said.links) hops → AllFit (names_said said) before (slot.Known set.Links) (route_values said.links hops)
values-fit said before [] here = tt
values-fit said before (hop ∷ hops) here =
    subst (AllFit (names_said said) before (slot.Known set.Links)) (sym (values-next said.links hop hops here.0)) ((here.0.name, here.0.place), values-fit said before hops here.1)

hops-again : (links : List LinkEntry) (hops : List Hop) → Each (IsHopHere links) hops → hops_said links (route_values links hops) ≡ hops
hops-again links [] here = refl
hops-again links (hop ∷ hops) here =
    ap (hops_said links) (values-next links hop hops here.0) ∙ ap (λ (found : Option LinkEntry). hop_before found (hops_said links (route_values links hops))) here.0.found
    ∙ ap₂ (λ (h : Hop) (hs : List Hop). h ∷ hs) here.0.is (hops-again links hops here.1)

-- no name of a link is the word `contract`
NoWords : List (List ℕ) → Type 0
NoWords names = Each (λ name. is_word word.Contract name ≡ false) names

no-words : (links : List LinkEntry) (hops : List Hop) → Each (IsHopHere links) hops → NoWords (map field_of (route_values links hops))
unfolding NoWords
no-words links [] here = tt
no-words links (hop ∷ hops) here =
    subst (λ (run : List FieldValue). Each (λ name. is_word word.Contract name ≡ false) (map field_of run)) (sym (values-next links hop hops here.0)) ((name-no-word here.0.entry.name here.0.name).0, no-words links hops here.1)

-- so a form goes on after them
hops-count : (names after : List (List ℕ)) → NoWords names → route_length (names ++ codes "contract" ∷ after) ≡ length names
unfolding NoWords
hops-count [] after none = refl
hops-count (name ∷ names) after none = rw none.0 (ap suc (hops-count names after none.1))

drop-names : (names after : List (List ℕ)) → drop (length names) (names ++ after) ≡ after
drop-names [] after = refl
drop-names (name ∷ names) after = drop-names names after

form-after : (parts : List Part) (names after : List (List ℕ)) → NoWords names → 1 ≤ length names → length names ≤ 16 → has_form (part.Route set.Links ∷ parts) (names ++ codes "contract" ∷ after) ≡ has_form parts (codes "contract" ∷ after)
form-after parts names after none least most =
    rw (hops-count names after none, le-leb 1 (length names) least, le-leb (length names) 16 most) (ap (has_form parts) (drop-names names (codes "contract" ∷ after)))

-- ---- the contract and the control

good-terms : (terms : Traffic) → IsContract terms → first_bad terms ≡ None
good-terms terms c =
    rw (
      le-leb 1 terms.xmin c.xmin_least,
      le-leb terms.xmin 1048576 (omega (arith, c.xave_least, c.xave_most)),
      le-leb terms.xmin terms.xave c.xave_least,
      le-leb terms.xave 1048576 c.xave_most,
      le-leb terms.xave terms.interval c.interval_least,
      le-leb terms.interval 16777216 c.interval_most,
      le-leb (burst_of terms) 256 c.burst_most,
      le-leb 1 terms.smax c.smax_least,
      le-leb terms.smax 65536 c.smax_most,
    ) refl

contract-back : (terms : Traffic) → IsContract terms → is_some (contract_of terms) ≡ true
contract-back terms c = rw (good-terms terms c) refl

control-back : (control : Control) → control_in_range control ≡ true → control_by (number_at (control_values control) 0) ≡ control
control-back Rate range = refl
control-back (Jitter bound) range = (let within = from-low 1 67108864 bound range in rw (not-zero bound within.0) refl)

-- a request that may be opened next
pub record IsNextOpen (version : Version) (said : Said) (entry : RequestEntry) : Type 0 where
  pub kept : request_has_version version entry ≡ true
  pub nodes : AreNodesNamed entry.found
  pub found : IsFoundRoute said.links entry.request.route entry.found
  pub numbered : LinksAreNumbered said.links
  pub few_links : length said.links ≤ 32
  pub name : is_name entry.name ≡ true
  pub new : is_among (request_names said.requests) entry.name ≡ false
  pub few : length said.requests < 1024
  pub number : channel_number entry.request.chan ≡ length said.requests
  pub caller : actor_number entry.caller ≡ last_caller said
  pub callers : last_caller said < 65
  pub hops : Each (IsHopHere said.links) entry.request.route
  pub route : IsRoute entry.request.route
  pub joined : is_joined said.links entry.request.route ≡ true
  pub contract : IsContract entry.request.contract
  pub range : request_in_range entry ≡ true

-- ---- its values fit

-- its numbers, with a control
abbrev numbers_with : RequestEntry → Control → List FieldValue
numbers_with entry control = value.Number entry.request.contract.xmin ∷ value.Number entry.request.contract.xave ∷ value.Number entry.request.contract.interval ∷ value.Number entry.request.contract.smax
    ∷ value.Number entry.request.delay ∷ control_values control

abbrev written_values : List LinkEntry → RequestEntry → Control → Values
written_values links entry control = record { ones = value.Name entry.name ∷ numbers_with entry control; run = route_values links entry.request.route }

abbrev found_values : List LinkEntry → RequestEntry → List ℕ → List ℕ → Control → Values
found_values links entry from to control = record { ones = value.Name entry.name ∷ value.Known from (node_of links from) ∷ value.Known to (node_of links to) ∷ numbers_with entry control; run = [] }

-- each number in its range
record AreInRange (entry : RequestEntry) : Type 0 where
  xmin : IsInRange 1 1048576 entry.request.contract.xmin
  xave : IsInRange 1 1048576 entry.request.contract.xave
  interval : IsInRange 1 16777216 entry.request.contract.interval
  smax : IsInRange 1 65536 entry.request.contract.smax
  delay : IsInRange 1 67108864 entry.request.delay
  control : control_in_range entry.request.control ≡ true

are-in-range : (entry : RequestEntry) → IsContract entry.request.contract → request_in_range entry ≡ true → AreInRange entry
are-in-range entry c in_range =
    let range = and_parts (is_within 1 67108864 entry.request.delay) (control_in_range entry.request.control) in_range in
    let delay = from-low 1 67108864 entry.request.delay range.0 in
    let a = c.xmin_least in
    let b = c.xave_least in
    let d = c.xave_most in
    let e = c.interval_least in
    let f = c.interval_most in
    let g = c.smax_most in
    let h = delay.1 in
    record {
      xmin = record { least = a; most = omega (arith, b, d); short = omega (arith, b, d) };
      xave = record { least = omega (arith, a, b); most = d; short = omega (arith, d) };
      interval = record { least = omega (arith, a, b, e); most = f; short = omega (arith, f) };
      smax = record { least = c.smax_least; most = g; short = omega (arith, g) };
      delay = record { least = delay.0; most = h; short = omega (arith, h) };
      control = range.1;
    }

bound-range : (bound : ℕ) → control_in_range (Jitter bound) ≡ true → IsInRange 1 67108864 bound
bound-range bound range = (let within = from-low 1 67108864 bound range in let most = within.1 in record { least = within.0; most = most; short = omega (arith, most) })

route-fits : (said : Said) (before : ℕ) (route : List Hop) → Each (IsHopHere said.links) route → IsRoute route → IsRun (names_said said) before 16 (slot.Known set.Links) (route_values said.links route)
route-fits said before route here is =
    let count = values-count said.links route here in
    let least = is.least in
    let most = is.most in
    record { least = omega (arith, count, least); few = omega (arith, count, most); all = values-fit said before route here }

written-fits : (version : Version) (said : Said) (entry : RequestEntry) (control : Control) → control_in_range control ≡ true → IsNextOpen version said entry → FitsForm (names_said said) (form_by None control) (written_values said.links entry control)
written-fits version said entry Rate control is =
    let range = are-in-range entry is.contract is.range in
    ((is.name, no-place (is_named entry.name) (request_names said.requests) is.new), (route-fits said 0 entry.request.route is.hops is.route, (range.xmin, (range.xave, (range.interval, (range.smax, (range.delay, tt)))))))
written-fits version said entry (Jitter bound) control is =
    let range = are-in-range entry is.contract is.range in
    ((is.name, no-place (is_named entry.name) (request_names said.requests) is.new), (route-fits said 0 entry.request.route is.hops is.route, (range.xmin, (range.xave, (range.interval, (range.smax, (range.delay, (bound-range bound control, tt))))))))

node-known : (said : Said) (name : List ℕ) → is_node said.links name ≡ true → node_number said.links name ≡ Some (node_of said.links name)
node-known said name is = rw is refl

found-fits : (version : Version) (said : Said) (entry : RequestEntry) (from to : List ℕ) (control : Control) → control_in_range control ≡ true → is_name from ≡ true → is_name to ≡ true → is_node said.links from ≡ true → is_node said.links to ≡ true → IsNextOpen version said entry
    → FitsForm (names_said said) (form_by (Some (from, to)) control) (found_values said.links entry from to control)
found-fits version said entry from to Rate control a b c d is =
    let range = are-in-range entry is.contract is.range in
    ((is.name, no-place (is_named entry.name) (request_names said.requests) is.new), ((a, node-known said from c), ((b, node-known said to d), (range.xmin, (range.xave, (range.interval, (range.smax, (range.delay, tt))))))))
found-fits version said entry from to (Jitter bound) control a b c d is =
    let range = are-in-range entry is.contract is.range in
    ((is.name, no-place (is_named entry.name) (request_names said.requests) is.new), ((a, node-known said from c), ((b, node-known said to d), (range.xmin, (range.xave, (range.interval, (range.smax, (range.delay, (bound-range bound control, tt)))))))))

-- ---- its line is read

abbrev forms_where : Bool → List (List Part)
forms_where has = if has then rate_form ∷ jitter_form ∷ found_rate_form ∷ found_jitter_form ∷ [] else rate_form ∷ jitter_form ∷ []

-- a line with a bound on its jitter has not the form without one
not-rate : (links : List LinkEntry) (entry : RequestEntry) (bound : ℕ) → Each (IsHopHere links) entry.request.route → IsRoute entry.request.route → has_form rate_form (fields_with jitter_form (written_values links entry (Jitter bound))) ≡ false
not-rate links entry bound here is =
    let count = values-count links entry.request.route here in
    let names = map field_of (route_values links entry.request.route) in
    let long = length-map-fields (route_values links entry.request.route) in
    let least = is.least in
    let most = is.most in
    form-after rate-after names (after entry bound) (no-words links entry.request.route here) (omega (arith, long, count, least)) (omega (arith, long, count, most))
  where
    length-map-fields : (run : List FieldValue) → length (map field_of run) ≡ length run
    length-map-fields [] = refl
    length-map-fields (v ∷ run) = ap suc (length-map-fields run)

    rate-after : List Part
    rate-after = part.Word word.Contract ∷ part.One (slot.Number 1 1048576) ∷ part.One (slot.Number 1 1048576) ∷ part.One (slot.Number 1 16777216) ∷ part.One (slot.Number 1 65536) ∷ part.Word word.Delay ∷ part.One (slot.Number 1 67108864) ∷ part.Word word.Rate ∷ []

    after : RequestEntry → ℕ → List (List ℕ)
    after entry bound = decimal entry.request.contract.xmin ∷ decimal entry.request.contract.xave ∷ decimal entry.request.contract.interval ∷ decimal entry.request.contract.smax ∷ codes "delay" ∷ decimal entry.request.delay ∷ codes "jitter" ∷ decimal bound ∷ []

written-read : (version : Version) (said : Said) (entry : RequestEntry) (has : Bool) (control : Control) → control_in_range control ≡ true → IsNextOpen version said entry
    → read_line (names_said said) (forms_where has) (fields_with (form_by None control) (written_values said.links entry control)) ≡ Ok (written_values said.links entry control)
written-read version said entry true Rate control is = first-form (names_said said) rate_form (jitter_form ∷ found_rate_form ∷ found_jitter_form ∷ []) (written_values said.links entry Rate) refl (written-fits version said entry Rate control is)
written-read version said entry false Rate control is = first-form (names_said said) rate_form (jitter_form ∷ []) (written_values said.links entry Rate) refl (written-fits version said entry Rate control is)
written-read version said entry true (Jitter bound) control is =
    later-form (names_said said) rate_form (jitter_form ∷ found_rate_form ∷ found_jitter_form ∷ []) (fields_with jitter_form (written_values said.links entry (Jitter bound))) (written_values said.links entry (Jitter bound)) (not-rate said.links entry bound is.hops is.route)
    (first-form (names_said said) jitter_form (found_rate_form ∷ found_jitter_form ∷ []) (written_values said.links entry (Jitter bound)) refl (written-fits version said entry (Jitter bound) control is))
written-read version said entry false (Jitter bound) control is =
    later-form (names_said said) rate_form (jitter_form ∷ []) (fields_with jitter_form (written_values said.links entry (Jitter bound))) (written_values said.links entry (Jitter bound)) (not-rate said.links entry bound is.hops is.route)
    (first-form (names_said said) jitter_form [] (written_values said.links entry (Jitter bound)) refl (written-fits version said entry (Jitter bound) control is))

found-read : (said : Said) (entry : RequestEntry) (from to : List ℕ) (control : Control) → FitsForm (names_said said) (form_by (Some (from, to)) control) (found_values said.links entry from to control)
    → read_line (names_said said) (rate_form ∷ jitter_form ∷ found_rate_form ∷ found_jitter_form ∷ []) (fields_with (form_by (Some (from, to)) control) (found_values said.links entry from to control)) ≡ Ok (found_values said.links entry from to control)
found-read said entry from to Rate fits =
    let values = found_values said.links entry from to Rate in
    let fields = fields_with found_rate_form values in
    later-form (names_said said) rate_form (jitter_form ∷ found_rate_form ∷ found_jitter_form ∷ []) fields values refl
    (later-form (names_said said) jitter_form (found_rate_form ∷ found_jitter_form ∷ []) fields values refl
    (first-form (names_said said) found_rate_form (found_jitter_form ∷ []) values refl fits))
found-read said entry from to (Jitter bound) fits =
    let values = found_values said.links entry from to (Jitter bound) in
    let fields = fields_with found_jitter_form values in
    later-form (names_said said) rate_form (jitter_form ∷ found_rate_form ∷ found_jitter_form ∷ []) fields values refl
    (later-form (names_said said) jitter_form (found_rate_form ∷ found_jitter_form ∷ []) fields values refl
    (later-form (names_said said) found_rate_form (found_jitter_form ∷ []) fields values refl
    (first-form (names_said said) found_jitter_form [] values refl fits)))

-- what is read of it
record IsRead (version : Version) (said : Said) (entry : RequestEntry) (form : List Part) (values : Values) : Type 0 where
  fields : open_fields said.links entry ≡ fields_with form values
  is : is_form form ≡ true
  fits : FitsForm (names_said said) form values
  begins : line_word (field_at (fields_with form values) 0) ≡ Some word.Open
  counts : is_passed_over (line_of (fields_with form values)) ≡ false
  read : read_line (names_said said) (open_forms version) (fields_with form values) ≡ Ok values
  name : name_at values.ones 0 ≡ Some entry.name
  terms : terms_said values ≡ entry.request.contract
  control : control_said values ≡ entry.request.control
  delay : term values 4 ≡ entry.request.delay
  way : way_rule said values ≡ None
  routed : routed_said said values ≡ record { route = entry.request.route; found = entry.found }

same-request : (e : RequestEntry) (caller : ActorNo) (chan : ChanNo) (routed : Routed) (contract : Traffic) (control : Control) (delay : ℕ) → caller ≡ e.caller → chan ≡ e.request.chan → routed ≡ record { route = e.request.route; found = e.found } → contract ≡ e.request.contract
    → control ≡ e.request.control → delay ≡ e.request.delay → record { name = e.name; caller = caller; request = record { chan = chan; route = routed.route; contract = contract; control = control; delay = delay }; found = routed.found } ≡ e
same-request e caller chan routed contract control delay a b c d f g = rw (a, b, c, d, f, g) refl

open-reads : (version : Version) (said : Said) (entry : RequestEntry) (form : List Part) (values : Values) → said.version ≡ Some version → (not (nat_eq (length said.callers) 0) && is_none said.rounds) ≡ true → IsNextOpen version said entry → IsRead version said entry form values
    → Reads (open_fields said.links entry ∷ []) said (with_item (item.Open entry) said)
open-reads version said entry form values v stands is line =
    let caller : actor_at (last_caller said) ≡ entry.caller = sym (actor-is entry.caller (last_caller said) is.callers is.caller) in
    let few = is.few in
    let chan : channel_at (length said.requests) ≡ entry.request.chan = sym (channel-is entry.request.chan (length said.requests) (omega (arith, few)) is.number) in
    let same = same-request entry (actor_at (last_caller said)) (channel_at (length said.requests)) (routed_said said values) (terms_said values) (control_said values) (term values 4) caller chan line.routed line.terms line.control line.delay in
    let told : option_map (open_said said values) (name_at values.ones 0) ≡ Some (item.Open entry) = ap (option_map (open_said said values)) line.name ∙ ap (λ (e : RequestEntry). Some (item.Open e)) same in
    let passes = pass-all (unless (nat_lt (length said.requests) 1024) cause.Many ∷ unless (is_some (contract_said values)) cause.Contract ∷ way_rule said values ∷ []) (
      unless-holds (nat_lt (length said.requests) 1024) cause.Many (lt-ltb (length said.requests) 1024 is.few),
      (unless-holds (is_some (contract_said values)) cause.Contract (ap (λ (t : Traffic). is_some (contract_of t)) line.terms ∙ contract-back entry.request.contract is.contract), (line.way, tt)),
    ) in
    subst (λ (fields : List (List ℕ)). Reads (fields ∷ []) said (with_item (item.Open entry) said)) (sym line.fields)
    (line-reads version said word.Open form values (item.Open entry) (record {
      headed = v;
      stands = stands;
      is = line.is;
      fits = line.fits;
      begins = line.begins;
      counts = line.counts;
      read = line.read;
    }) (λ number. stated-back (open_rule said values) (option_map (open_said said values) (name_at values.ones 0)) (item.Open entry) passes told) (λ number. refl))

form-is : (found : Option (List ℕ × List ℕ)) (control : Control) → is_form (form_by found control) ≡ true
form-is None Rate = refl
form-is None (Jitter bound) = refl
form-is (Some nodes) Rate = refl
form-is (Some nodes) (Jitter bound) = refl

written-begins : (links : List LinkEntry) (entry : RequestEntry) (control : Control) → (line_word (field_at (fields_with (form_by None control) (written_values links entry control)) 0) ≡ Some word.Open) × (is_passed_over (line_of (fields_with (form_by None control) (written_values links entry control))) ≡ false)
written-begins links entry Rate = (refl, refl)
written-begins links entry (Jitter bound) = (refl, refl)

found-begins : (links : List LinkEntry) (entry : RequestEntry) (from to : List ℕ) (control : Control) → (line_word (field_at (fields_with (form_by (Some (from, to)) control) (found_values links entry from to control)) 0) ≡ Some word.Open) × (is_passed_over (line_of (fields_with (form_by (Some (from, to)) control) (found_values links entry from to control))) ≡ false)
found-begins links entry from to Rate = (refl, refl)
found-begins links entry from to (Jitter bound) = (refl, refl)

written-line : (version : Version) (said : Said) (entry : RequestEntry) → entry.found ≡ None → IsNextOpen version said entry → IsRead version said entry (form_by None entry.request.control) (written_values said.links entry entry.request.control)
written-line version said entry written is =
    let values = written_values said.links entry entry.request.control in
    let range = are-in-range entry is.contract is.range in
    let count = values-count said.links entry.request.route is.hops in
    let least = is.route.least in
    let some : nat_eq (length (route_values said.links entry.request.route)) 0 ≡ false = not-zero (length (route_values said.links entry.request.route)) (omega (arith, count, least)) in
    let again = hops-again said.links entry.request.route is.hops in
    let begins = written-begins said.links entry entry.request.control in
    let way : is_way said (hops_said said.links (route_values said.links entry.request.route)) ≡ true = ap (is_way said) again ∙ and_from (is_none (fault_in entry.request.route)) (is_joined said.links entry.request.route) (ap is_none (none-from_route entry.request.route is.route)) is.joined in
    record {
      fields = ap (λ (found : Option (List ℕ × List ℕ)). fields_with (form_by found entry.request.control) (way_values said.links entry found)) written;
      is = form-is None entry.request.control;
      fits = written-fits version said entry entry.request.control range.control is;
      begins = begins.0;
      counts = begins.1;
      read = written-read version said entry (has_found_routes version) entry.request.control range.control is;
      name = refl;
      terms = rw some refl;
      control = rw some (control-back entry.request.control range.control);
      delay = rw some refl;
      way = rw some (unless-holds (is_way said (hops_said said.links (route_values said.links entry.request.route))) cause.Route way);
      routed = rw some (ap₂ (λ (route : List Hop) (found : Option (List ℕ × List ℕ)). record { route = route; found = found }) again (sym written));
    }

found-line : (version : Version) (said : Said) (entry : RequestEntry) (from to : List ℕ) → entry.found ≡ Some (from, to) → IsNextOpen version said entry → IsRead version said entry (form_by (Some (from, to)) entry.request.control) (found_values said.links entry from to entry.request.control)
found-line version said entry from to at is =
    let range = are-in-range entry is.contract is.range in
    let nodes : AreNodesNamed (Some (from, to)) = subst AreNodesNamed at is.nodes in
    let found : route_between said.links from to ≡ Some entry.request.route = subst (IsFoundRoute said.links entry.request.route) at is.found in
    let ends = found-nodes said.links from to entry.request.route is.numbered is.few_links is.route.least found in
    let has : has_found_routes version ≡ true = has-it (has_found_routes version) entry.found (from, to) at is.kept in
    let begins = found-begins said.links entry from to entry.request.control in
    let fits = found-fits version said entry from to entry.request.control range.control nodes.0 nodes.1 ends.first ends.second is in
    record {
      fields = ap (λ (found : Option (List ℕ × List ℕ)). fields_with (form_by found entry.request.control) (way_values said.links entry found)) at ∙ same-fields entry.request.control;
      is = form-is (Some (from, to)) entry.request.control;
      fits = fits;
      begins = begins.0;
      counts = begins.1;
      read = rw has (found-read said entry from to entry.request.control fits);
      name = refl;
      terms = refl;
      control = control-back entry.request.control range.control;
      delay = refl;
      way = rw (ends.apart, found) refl;
      routed = rw found (ap (λ (found : Option (List ℕ × List ℕ)). record { route = entry.request.route; found = found }) (sym at));
    }
  where
    same-fields : (control : Control) → fields_with (form_by (Some (from, to)) control) (record { ones = value.Name entry.name ∷ value.Name from ∷ value.Name to ∷ numbers_with entry control; run = [] }) ≡ fields_with (form_by (Some (from, to)) control) (found_values said.links entry from to control)
    same-fields Rate = refl
    same-fields (Jitter bound) = refl

    has-it : (has : Bool) (found : Option (List ℕ × List ℕ)) (nodes : List ℕ × List ℕ) → found ≡ Some nodes → (has || is_none found) ≡ true → has ≡ true
    has-it has found nodes at kept = by has (ap (λ (f : Option (List ℕ × List ℕ)). has || is_none f) (sym at) ∙ kept) where
      by : (has : Bool) → (has || false) ≡ true → has ≡ true
      by true e = refl
      by false e = e

pub open-read : (version : Version) (links : List LinkEntry) (groups : List (List ℕ)) (requests : List RequestEntry) (callers : List CallerEntry) (entry : RequestEntry) → 1 ≤ length callers → IsNextOpen version (front version links groups requests callers) entry
    → Reads (open_fields links entry ∷ []) (front version links groups requests callers) (front version links groups (requests ++ entry ∷ []) (add_op (op.Open entry.request.chan) callers))
open-read version links groups requests callers entry some is = by entry.found refl where
  by : (found : Option (List ℕ × List ℕ)) → entry.found ≡ found → Reads (open_fields links entry ∷ []) (front version links groups requests callers) (front version links groups (requests ++ entry ∷ []) (add_op (op.Open entry.request.chan) callers))
  by None at = open-reads version (front version links groups requests callers) entry _ _ refl (and_from (not (nat_eq (length callers) 0)) true (not-none callers some) refl) is (written-line version (front version links groups requests callers) entry at is)
  by (Some (from, to)) at = open-reads version (front version links groups requests callers) entry _ _ refl (and_from (not (nat_eq (length callers) 0)) true (not-none callers some) refl) is (found-line version (front version links groups requests callers) entry from to at is)
