-- The line of a request: open NAME route LINK1 .. LINKh contract XMIN XAVE I SMAX delay D, and then either rate or jitter J. From
-- version four on it may have from NODE1 to NODE2 in place of the route, which is then the least one between these nodes.
use Rattle.std.specs.Prelude.{◌≡◌, ◌≤◌, ◌<◌, ℕ, ◌+◌, Bool, true, nat_eq, nat_lt, not, ◌&&◌, if◌then◌else◌, Option, Some, None, Result, List, [], ◌∷◌, length, option_map, unwrap_or, is_some, is_none}
use Rattle.std.specs.List.{slice_get}
use Rattle.net_units.specs.Limits.{most_gap, most_interval, most_size, most_delay, most_requests}
use Rattle.net_units.specs.Numbers.{actor_at, channel_at, link_number}
use Rattle.traffic_contract.specs.Contract.{Traffic, terms_of}
use Rattle.traffic_contract.specs.Refusal.{first_bad}
use Rattle.hop_reservation.specs.Routes.{fault_in}
use Rattle.hop_reservation.specs.declared.route.Hop.{Hop}
use Rattle.setup_protocol.specs.declared.request.Control.{Control}
use Rattle.setup_protocol.specs.declared.request.Control.TheVariants.{Rate, Jitter}
use Rattle.call_script.specs.Growing.{MayOpen}
use Rattle.call_script.specs.Rules.{is_named, is_joined}
use Rattle.call_script.specs.Versions.{has_found_routes}
use Rattle.call_script.specs.declared.entries.LinkEntry.{LinkEntry}
use Rattle.call_script.specs.declared.entries.RequestEntry.{RequestEntry}
use Rattle.call_script.specs.declared.version.Version.{Version}
use Rattle.line_forms.specs.Values.{name_at, number_at, number_in}
use Rattle.line_forms.specs.Writing.{fields_with}
use Rattle.line_forms.specs.declared.form.Part.{Part}
use Rattle.line_forms.specs.declared.form.Part.TheVariants as part
use Rattle.line_forms.specs.declared.known.Set.TheVariants as set
use Rattle.line_forms.specs.declared.slot.Slot.TheVariants as slot
use Rattle.line_forms.specs.declared.value.FieldValue.{FieldValue}
use Rattle.line_forms.specs.declared.value.FieldValue.TheVariants as value
use Rattle.line_forms.specs.declared.value.Values.{Values}
use Rattle.line_forms.specs.declared.word.Keyword.TheVariants as word
use Rattle.scenario_reader.specs.Causes.{Rule, unless, or_else, first_cause, stated}
use Rattle.scenario_reader.specs.Drafts.{Said, last_caller, parts_said}
use Rattle.scenario_reader.specs.Entries.{hop_of}
use Rattle.scenario_reader.specs.Nodes.{is_node, route_between}
use Rattle.scenario_reader.specs.declared.cause.LineCause.{LineCause}
use Rattle.scenario_reader.specs.declared.cause.LineCause.TheVariants as cause
use Rattle.scenario_reader.specs.declared.item.Item.{Item}
use Rattle.scenario_reader.specs.declared.item.Item.TheVariants as item
use Rattle.scenario_reader.specs.declared.line.request.way.Routed.{Routed}
use Rattle.scenario_reader.specs.line.Before.{HasALink}

-- ---- its forms

-- the parts from the contract up to the delay bound, and then these
abbrev pub terms_end : List Part → List Part
terms_end control = part.Word word.Contract ∷ part.One (slot.Number 1 most_gap) ∷ part.One (slot.Number 1 most_gap) ∷ part.One (slot.Number 1 most_interval) ∷ part.One (slot.Number 1 most_size)
    ∷ part.Word word.Delay ∷ part.One (slot.Number 1 most_delay) ∷ control

abbrev pub rate_end : List Part
rate_end = terms_end (part.Word word.Rate ∷ [])

abbrev pub jitter_end : List Part
jitter_end = terms_end (part.Word word.Jitter ∷ part.One (slot.Number 1 most_delay) ∷ [])

-- a request over the links of a route
abbrev pub route_front : List Part → List Part
route_front after = part.Word word.Open ∷ part.One (slot.New set.Requests) ∷ part.Word word.Route ∷ part.Route set.Links ∷ after

-- and one between two nodes
abbrev pub found_front : List Part → List Part
found_front after = part.Word word.Open ∷ part.One (slot.New set.Requests) ∷ part.Word word.From ∷ part.One (slot.Known set.Nodes) ∷ part.Word word.To ∷ part.One (slot.Known set.Nodes) ∷ after

abbrev pub rate_form : List Part
rate_form = route_front rate_end

abbrev pub jitter_form : List Part
jitter_form = route_front jitter_end

abbrev pub found_rate_form : List Part
found_rate_form = found_front rate_end

abbrev pub found_jitter_form : List Part
found_jitter_form = found_front jitter_end

-- the forms that a version has
abbrev pub open_forms : Version → List (List Part)
open_forms version = if has_found_routes version then rate_form ∷ jitter_form ∷ found_rate_form ∷ found_jitter_form ∷ [] else rate_form ∷ jitter_form ∷ []

-- ---- what its values say

-- whether the route is to be found: the line has no links
abbrev pub is_found : Values → Bool
is_found values = nat_eq (length values.run) 0

-- the nodes between which it is
abbrev pub both_nodes : Option (List ℕ) → Option (List ℕ) → Option (List ℕ × List ℕ)
both_nodes (Some from) (Some to) = Some (from, to)
both_nodes from to = None

abbrev pub nodes_said : Values → Option (List ℕ × List ℕ)
nodes_said values = both_nodes (name_at values.ones 1) (name_at values.ones 2)

-- where the numbers of the contract begin
abbrev pub terms_at : Values → ℕ
terms_at values = if is_found values then 3 else 1

-- the number that stands so many places after the first of them
abbrev pub term : Values → ℕ → ℕ
term values place = number_at values.ones (terms_at values + place)

-- where no jitter bound stands after the delay bound, there is none
abbrev pub control_by : ℕ → Control
control_by bound = if nat_eq bound 0 then Rate else Jitter bound

abbrev pub control_said : Values → Control
control_said values = control_by (term values 5)

-- the four numbers of the contract
abbrev pub terms_said : Values → Traffic
terms_said values = terms_of (term values 0) (term values 1) (term values 2) (term values 3)

-- the contract that four numbers are, if they are one
abbrev pub contract_of : Traffic → Option Traffic
contract_of terms = if is_none (first_bad terms) then Some terms else None

abbrev pub contract_said : Values → Option Traffic
contract_said values = contract_of (terms_said values)

-- the hops over the links that are written
abbrev pub hop_before : Option LinkEntry → List Hop → List Hop
hop_before None hops = hops
hop_before (Some entry) hops = hop_of entry ∷ hops

abbrev pub hops_said : List LinkEntry → List FieldValue → List Hop
hops_said links [] = []
hops_said links (value ∷ values) = hop_before (slice_get links (number_in value)) (hops_said links values)

-- no link stands twice in the route, and each begins at the node where the one before it ends
abbrev pub is_way : Said → List Hop → Bool
is_way said hops = is_none (fault_in hops) && is_joined said.links hops

-- two nodes are different, and there is a walk from the one to the other
abbrev pub between_rule : Said → List ℕ → List ℕ → Rule
between_rule said from to = or_else (unless (not (is_named to from)) cause.Route) (unless (is_some (route_between said.links from to)) cause.Reach)

abbrev pub nodes_rule : Said → Option (List ℕ × List ℕ) → Rule
nodes_rule said None = Some cause.Route
nodes_rule said (Some (from, to)) = between_rule said from to

abbrev pub run_rule : Said → List FieldValue → Rule
run_rule said run = unless (is_way said (hops_said said.links run)) cause.Route

abbrev pub way_rule : Said → Values → Rule
way_rule said values = if is_found values then nodes_rule said (nodes_said values) else run_rule said values.run

-- the least route between two nodes
abbrev pub found_said : Said → Option (List ℕ × List ℕ) → List Hop
found_said said None = []
found_said said (Some (from, to)) = unwrap_or (route_between said.links from to) []

-- the route, and the nodes between which it was found
abbrev pub routed_said : Said → Values → Routed
routed_said said values = if is_found values then record { route = found_said said (nodes_said values); found = nodes_said values } else record { route = hops_said said.links values.run; found = None }

-- what is judged once its fields pass
abbrev pub open_rule : Said → Values → Rule
open_rule said values = first_cause (
    unless (nat_lt (length said.requests) most_requests) cause.Many
    ∷ unless (is_some (contract_said values)) cause.Contract
    ∷ way_rule said values
    ∷ [])

-- the request of this name and this route: its channel has the next number, and the last caller opens it
abbrev pub request_of : Said → Values → Routed → List ℕ → RequestEntry
request_of said values routed name = record {
  name = name;
  caller = actor_at (last_caller said);
  request = record {
    chan = channel_at (length said.requests);
    route = routed.route;
    contract = terms_said values;
    control = control_said values;
    delay = term values 4;
  };
  found = routed.found;
}

abbrev pub open_said : Said → Values → List ℕ → Item
open_said said values name = item.Open (request_of said values (routed_said said values) name)

abbrev pub open_says : Said → Values → Result Item LineCause
open_says said values = stated (open_rule said values) (option_map (open_said said values) (name_at values.ones 0))

pub record MayPutOpen (said : Said) (entry : RequestEntry) : Type 0 where
  pub before : HasALink said
  pub request : MayOpen (parts_said said) entry

-- ---- what the forms let pass

-- the numbers are within their limits
pub record AreTermsSmall (values : Values) : Type 0 where
  pub xmin : term values 0 ≤ most_gap
  pub xave : term values 1 ≤ most_gap
  pub interval : term values 2 ≤ most_interval
  pub smax : term values 3 ≤ most_size

-- the links of a route, of which there are 16 at most, are there
pub record AreLinksThere (links : List LinkEntry) (run : List FieldValue) : Type 0 where
  pub few : length run ≤ 16
  pub there : (k : ℕ) → k < length run → number_at run k < length links

-- two nodes are nodes of the network
abbrev pub AreNodes : List LinkEntry → Option (List ℕ × List ℕ) → Type 0
AreNodes links None = Unit {0}
AreNodes links (Some (from, to)) = (is_node links from ≡ true) × (is_node links to ≡ true)

-- ---- what its line says

-- a link of a route, if it is there
abbrev pub link_before : ℕ → Option LinkEntry → List FieldValue → List FieldValue
link_before number None values = values
link_before number (Some entry) values = value.Known entry.name number ∷ values

abbrev pub route_values : List LinkEntry → List Hop → List FieldValue
route_values links [] = []
route_values links (hop ∷ hops) = link_before (link_number hop.link) (slice_get links (link_number hop.link)) (route_values links hops)

-- the bound on the jitter, where there is one
abbrev pub control_values : Control → List FieldValue
control_values Rate = []
control_values (Jitter bound) = value.Number bound ∷ []

abbrev pub term_values : RequestEntry → List FieldValue
term_values entry = value.Number entry.request.contract.xmin ∷ value.Number entry.request.contract.xave ∷ value.Number entry.request.contract.interval ∷ value.Number entry.request.contract.smax
    ∷ value.Number entry.request.delay ∷ control_values entry.request.control

-- the nodes between which its route was found, or the links of the route
abbrev pub way_values : List LinkEntry → RequestEntry → Option (List ℕ × List ℕ) → Values
way_values links entry None = record { ones = value.Name entry.name ∷ term_values entry; run = route_values links entry.request.route }
way_values links entry (Some (from, to)) = record { ones = value.Name entry.name ∷ value.Name from ∷ value.Name to ∷ term_values entry; run = [] }

abbrev pub open_values : List LinkEntry → RequestEntry → Values
open_values links entry = way_values links entry entry.found

abbrev pub form_by : Option (List ℕ × List ℕ) → Control → List Part
form_by None Rate = rate_form
form_by None (Jitter bound) = jitter_form
form_by (Some nodes) Rate = found_rate_form
form_by (Some nodes) (Jitter bound) = found_jitter_form

abbrev pub open_form : RequestEntry → List Part
open_form entry = form_by entry.found entry.request.control

abbrev pub open_fields : List LinkEntry → RequestEntry → List (List ℕ)
open_fields links entry = fields_with (open_form entry) (open_values links entry)
