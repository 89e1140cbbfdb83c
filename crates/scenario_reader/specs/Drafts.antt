-- What was read of a scenario so far: the version that its header says; the links with their quotas, the names of the groups, the
-- requests, and the callers with their operations, as a plan has them; the numbers of rounds, once they were said; and the schedule:
-- whether it was begun, and its items. When `tail` was said, the first parts are those of the plan. Links, requests and callers have
-- the numbers of their places, from 0, in the order of their lines, and groups from 1. The operations that are read belong to the
-- last caller.
use Rattle.std.specs.Prelude.{ℕ, suc, ◌-◌, Bool, true, false, not, nat_eq, if◌then◌else◌, Option, Some, None, List, [], ◌∷◌, ◌++◌, length, find, position, is_some, unwrap_or, option_map}
use Rattle.std.specs.List.{list_any}
use Rattle.net_units.specs.Numbers.{link_number, actor_number, channel_number}
use Rattle.net_units.specs.declared.numbers.ChanNo.{ChanNo}
use Rattle.link_steps.specs.declared.shape.LinkShape.{LinkShape}
use Rattle.call_script.specs.Growing.{new_caller, add_quota, add_op, last_ops}
use Rattle.call_script.specs.Parts.{PlanParts, parts_with}
use Rattle.call_script.specs.Rules.{is_named, caller_names, is_in, load_at, loads_in}
use Rattle.call_script.specs.declared.entries.CallerEntry.{CallerEntry}
use Rattle.call_script.specs.declared.entries.LinkEntry.{LinkEntry}
use Rattle.call_script.specs.declared.entries.RequestEntry.{RequestEntry}
use Rattle.call_script.specs.declared.operations.Op.TheVariants.{Open}
use Rattle.call_script.specs.declared.roles.Role.TheVariants as role
use Rattle.call_script.specs.declared.schedule.Do.{Do}
use Rattle.call_script.specs.declared.schedule.Schedule.{Schedule}
use Rattle.call_script.specs.declared.version.Version.{Version}
use Rattle.call_script.specs.declared.version.Version.TheVariants.{One}
use Rattle.scenario_reader.specs.declared.item.Item.{Item}
use Rattle.scenario_reader.specs.declared.uses.Uses.{Uses}
use Rattle.scenario_reader.specs.declared.item.Item.TheVariants as item

pub record Said : Type 0 where
  pub version : Option Version
  pub links : List LinkEntry
  pub groups : List (List ℕ)
  pub requests : List RequestEntry
  pub callers : List CallerEntry
  pub rounds : Option ℕ
  pub tail : Option ℕ
  pub written : Bool
  pub items : List Do

-- the record of its parts
abbrev pub said_of : Option Version → List LinkEntry → List (List ℕ) → List RequestEntry → List CallerEntry → Option ℕ → Option ℕ → Bool → List Do → Said
said_of version links groups requests callers rounds tail written items =
    record { version = version; links = links; groups = groups; requests = requests; callers = callers; rounds = rounds; tail = tail; written = written; items = items }

-- nothing has been read yet
abbrev pub nothing_said : Said
nothing_said = record { version = None; links = []; groups = []; requests = []; callers = []; rounds = None; tail = None; written = false; items = [] }

-- what was read up to and with this line
abbrev pub with_item : Item → Said → Said
with_item item.Nothing said = said
with_item (item.Header version) said = record said { version = Some version }
with_item (item.Link entry) said = record said { links = said.links ++ entry ∷ [] }
with_item (item.Group name) said = record said { groups = said.groups ++ name ∷ [] }
with_item (item.Quota link quota) said = record said { links = add_quota (link_number link) quota said.links }
with_item (item.Caller name group) said = record said { callers = said.callers ++ new_caller name group ∷ [] }
with_item (item.Open entry) said = record said { requests = said.requests ++ entry ∷ []; callers = add_op (Open entry.request.chan) said.callers }
with_item (item.Op op) said = record said { callers = add_op op said.callers }
with_item (item.Rounds count) said = record said { rounds = Some count }
with_item (item.Tail count) said = record said { tail = Some count }
with_item item.Schedule said = record said { written = true }
with_item (item.Do what) said = record said { items = said.items ++ what ∷ [] }

-- the last line that a plan needs was read
abbrev pub is_complete : Said → Bool
is_complete said = is_some said.tail

-- the rounds of the plane beside the callers, and those after them
abbrev pub rounds_of : Said → ℕ
rounds_of said = unwrap_or said.rounds 0

abbrev pub tail_of : Said → ℕ
tail_of said = unwrap_or said.tail 0

-- the parts of the plan
abbrev pub parts_said : Said → PlanParts
parts_said said = parts_with (unwrap_or said.version One) said.links said.groups said.requests said.callers (rounds_of said) (tail_of said)

-- its schedule
abbrev pub schedule_said : Said → Schedule
schedule_said said = record { written = said.written; items = said.items }

-- ---- what a name stands for

-- the link of this name
abbrev pub link_named : List LinkEntry → List ℕ → Option LinkEntry
link_named links name = find (λ (entry : LinkEntry). is_named name entry.name) links

-- a link of these has quotas
abbrev pub has_quotas : List LinkEntry → Bool
has_quotas links = list_any (λ (entry : LinkEntry). not (nat_eq (length entry.quotas) 0)) links

-- the number of the group of this name, from 1
abbrev pub group_named : List (List ℕ) → List ℕ → Option ℕ
group_named groups name = option_map suc (position (is_named name) groups)

-- the shape of a link
abbrev pub shape_in : LinkEntry → LinkShape
shape_in entry = entry.shape

-- the request of this name
abbrev pub request_named : List RequestEntry → List ℕ → Option RequestEntry
request_named requests name = find (λ (entry : RequestEntry). is_named name entry.name) requests

-- the number of the caller of this name
abbrev pub caller_named : List CallerEntry → List ℕ → Option ℕ
caller_named callers name = position (is_named name) (caller_names callers)

-- the number of the last caller
abbrev pub last_caller : Said → ℕ
last_caller said = length said.callers - 1

-- a request, where the caller of this number opened it
abbrev pub if_own : ℕ → Option RequestEntry → Option RequestEntry
if_own caller None = None
if_own caller (Some entry) = if nat_eq (actor_number entry.caller) caller then Some entry else None

-- the request of this name, where the last caller opened it
abbrev pub own_request : Said → List ℕ → Option RequestEntry
own_request said name = if_own (last_caller said) (request_named said.requests name)

-- whether the last caller has closed a channel, left it by a move, used it or joined it
abbrev pub is_closed : Said → ChanNo → Bool
is_closed said chan = list_any (is_in role.Closes (channel_number chan)) (last_ops said.callers)

abbrev pub is_left : Said → ChanNo → Bool
is_left said chan = list_any (is_in role.Leaves (channel_number chan)) (last_ops said.callers)

abbrev pub is_used : Said → ChanNo → Bool
is_used said chan = list_any (is_in role.Uses (channel_number chan)) (last_ops said.callers)

abbrev pub is_joined_to : Said → ChanNo → Bool
is_joined_to said chan = list_any (is_in role.Joins (channel_number chan)) (last_ops said.callers)

-- all of it, and what it has to carry
abbrev pub uses_said : Said → ChanNo → Uses
uses_said said chan = record {
  closed = is_closed said chan;
  left = is_left said chan;
  used = is_used said chan;
  joined = is_joined_to said chan;
  load = load_at (loads_in said.callers) chan;
}
