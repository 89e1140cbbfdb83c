-- The names that a line may use after what was read, each with its number: links, callers and requests go by the places of their
-- lines, from 0, and groups from 1; the requests of the last caller by their channels; nodes where some link begins or ends. A link
-- and a group are a pair once the link has a quota of the group.
use Rattle.std.specs.Prelude.{ℕ, Bool, false, if◌then◌else◌, Option, Some, None, List, [], ◌∷◌, ◌⊎◌, option_map, position}
use Rattle.std.specs.List.{slice_get}
use Rattle.net_units.specs.Numbers.{channel_number}
use Rattle.call_script.specs.Groups.{has_group}
use Rattle.call_script.specs.Rules.{is_named, link_names, request_names}
use Rattle.call_script.specs.declared.entries.LinkEntry.{LinkEntry}
use Rattle.call_script.specs.declared.entries.RequestEntry.{RequestEntry}
use Rattle.line_forms.specs.Fitting.{FitsForm}
use Rattle.line_forms.specs.Known.{KnownNames}
use Rattle.line_forms.specs.declared.form.Part.{Part}
use Rattle.line_forms.specs.declared.known.Set.{Set}
use Rattle.line_forms.specs.declared.known.Set.TheVariants as set
use Rattle.line_forms.specs.declared.value.Values.{Values}
use Rattle.scenario_reader.specs.Drafts.{Said, group_named, caller_named, own_request}
use Rattle.scenario_reader.specs.Nodes.{is_node, node_of}

-- the number of a node at which some link begins or ends
abbrev pub node_number : List LinkEntry → List ℕ → Option ℕ
node_number links name = if is_node links name then Some (node_of links name) else None

-- the channel of a request
abbrev pub channel_of : RequestEntry → ℕ
channel_of entry = channel_number entry.request.chan

abbrev pub number_said : Said → Set → List ℕ → Option ℕ
number_said said set.Links name = position (is_named name) (link_names said.links)
number_said said set.Nodes name = node_number said.links name
number_said said set.Groups name = group_named said.groups name
number_said said set.Callers name = caller_named said.callers name
number_said said set.Requests name = position (is_named name) (request_names said.requests)
number_said said set.OwnRequests name = option_map channel_of (own_request said name)

-- the link has a quota of the group
abbrev pub is_paired : Option LinkEntry → ℕ → Bool
is_paired None group = false
is_paired (Some entry) group = has_group group entry.quotas

abbrev pub names_said : Said → KnownNames
names_said said = record { number = number_said said; paired = λ link group. is_paired (slice_get said.links link) group }

-- values that fit one of these forms
abbrev pub FitsOne : KnownNames → List (List Part) → Values → Type 0
FitsOne names [] values = ⊥
FitsOne names (form ∷ []) values = FitsForm names form values
FitsOne names (form ∷ forms) values = FitsForm names form values ⊎ FitsOne names forms values
