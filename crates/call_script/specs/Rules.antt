-- A plan keeps the rules of the scenario's language, as far as a plan can break them. Each has the number of the cause by which a
-- line that breaks it is refused. (A plan has numbers and names where a scenario has text, so it breaks no rule on text. Those on
-- groups and quotas are in `Groups`, and `Broken` has them all in their order.)
--   1 a link's test is its version's; best-effort packets come from version three on, routes that are found from version four
--     on, and moves from version six on
--   2 there is a link
--   6 no two links, callers or requests have one name
--   7 a route and best-effort packets go over links that are there; a send, a close and both sides of a move are of requests
--     that the caller has opened above
--   8 numbers are in their ranges
--   9 there are no more links, callers and requests than are allowed
--  12 each hop of a route begins at the node where the one before it ends
--  13 a send, a close and a move are of a request that wasn't closed above, and a send and a move of one that no move above left
--  14 the packets that are sent or moved, once for each hop that they may cross, and the best-effort ones are within the
--     limit, and so are the ticks of all links together
--  19 best-effort packets are sent at a link that takes them
--  24 a move is between two requests with the same contract whose routes begin and end at the same nodes; and no send, close or move
--     above names the one that is joined
use Rattle.std.specs.Prelude.{ℕ, ◌+◌, ◌-◌, ◌*◌, Bool, true, false, not, nat_eq, nat_le, nat_lt, ◌&&◌, ◌||◌, if◌then◌else◌, Option, Some, None, is_none, option_map, List, [], ◌∷◌, ◌++◌, length, map, max, set, get_or}
use Rattle.std.specs.List.{list_any, list_all, slice_get}
use Rattle.std.specs.Cmp.Lexicographic.{pointwise}
use Rattle.net_units.specs.Numbers.{link_number, channel_number}
use Rattle.net_units.specs.declared.numbers.ChanNo.{ChanNo}
use Rattle.net_units.specs.declared.numbers.LinkNo.{LinkNo}
use Rattle.net_units.specs.Limits.{most_links, most_callers, most_requests, most_delay, most_packets, most_gap, most_size, most_rounds, is_within}
use Rattle.traffic_contract.specs.Contract.{Traffic}
use Rattle.hop_reservation.specs.declared.route.Hop.{Hop}
use Rattle.setup_protocol.specs.declared.request.Control.{Control}
use Rattle.setup_protocol.specs.declared.request.Control.TheVariants.{Rate, Jitter}
use Rattle.call_script.specs.Operations.{attributes_of, channel_of}
use Rattle.call_script.specs.Parts.{PlanParts}
use Rattle.call_script.specs.Versions.{test_of, has_best_effort, has_found_routes, has_feature, is_test}
use Rattle.call_script.specs.declared.attributes.Amount.{Amount}
use Rattle.call_script.specs.declared.attributes.Amount.TheVariants.{Nothing, Fresh, Carried}
use Rattle.call_script.specs.declared.attributes.Way.{Way}
use Rattle.call_script.specs.declared.attributes.Way.TheVariants.{Nowhere, OverRoute, OverLink}
use Rattle.call_script.specs.declared.entries.LinkEntry.{LinkEntry}
use Rattle.call_script.specs.declared.entries.RequestEntry.{RequestEntry}
use Rattle.call_script.specs.declared.entries.CallerEntry.{CallerEntry}
use Rattle.call_script.specs.declared.operations.Op.{Op}
use Rattle.call_script.specs.declared.roles.Role.{Role}
use Rattle.call_script.specs.declared.roles.Role.TheVariants as role
use Rattle.call_script.specs.declared.roles.Order.{Order}
use Rattle.call_script.specs.declared.roles.Order.TheVariants as place
use Rattle.call_script.specs.declared.version.Version.{Version}

-- ---- words on lists

-- each element passes a test that is given the elements above it
unfoldable pub each_after : {X : Type 0} → (List X → X → Bool) → List X → List X → Bool
each_after test above [] = true
each_after test above (x ∷ xs) = test above x && each_after test (above ++ x ∷ []) xs

-- each operation of each caller passes
abbrev pub all_ops : (Op → Bool) → List CallerEntry → Bool
all_ops test callers = list_all (λ caller. list_all test caller.ops) callers

-- ---- 1: the version

abbrev pub link_has_version : Version → LinkEntry → Bool
link_has_version version entry = is_test (test_of version) entry.shape.test && (if has_best_effort version then true else nat_eq entry.shape.best 0)

abbrev pub request_has_version : Version → RequestEntry → Bool
request_has_version version entry = has_found_routes version || is_none entry.found

abbrev pub op_has_version : Version → Op → Bool
op_has_version version op = has_feature version (attributes_of op).needs

unfoldable pub have_version : PlanParts → Bool
have_version parts = list_all (link_has_version parts.version) parts.links && list_all (request_has_version parts.version) parts.requests && all_ops (op_has_version parts.version) parts.callers

-- ---- 2: a link

unfoldable pub have_links : PlanParts → Bool
have_links parts = nat_le 1 (length parts.links)

-- ---- 6: names

abbrev pub is_named : List ℕ → List ℕ → Bool
is_named name other = pointwise nat_eq other name

-- no name above is this one
abbrev pub is_new : List (List ℕ) → List ℕ → Bool
is_new above name = not (list_any (is_named name) above)

abbrev pub are_distinct : List (List ℕ) → Bool
are_distinct names = each_after is_new [] names

abbrev pub link_names : List LinkEntry → List (List ℕ)
link_names links = map (λ entry. entry.name) links

abbrev pub caller_names : List CallerEntry → List (List ℕ)
caller_names callers = map (λ caller. caller.name) callers

abbrev pub request_names : List RequestEntry → List (List ℕ)
request_names requests = map (λ entry. entry.name) requests

unfoldable pub have_names : PlanParts → Bool
have_names parts = are_distinct (link_names parts.links) && are_distinct (caller_names parts.callers) && are_distinct (request_names parts.requests)

-- ---- 7: what is used is there

abbrev pub has_link : List LinkEntry → LinkNo → Bool
has_link links link = nat_lt (link_number link) (length links)

abbrev pub route_is_there : List LinkEntry → RequestEntry → Bool
route_is_there links entry = list_all (λ hop. has_link links hop.link) entry.request.route

-- a test on the one link over which packets go, where they go over one
abbrev pub of_link : (LinkNo → Bool) → Way → Bool
of_link test Nowhere = true
of_link test (OverRoute chan) = true
of_link test (OverLink link) = test link

abbrev pub pour_is_there : List LinkEntry → Op → Bool
pour_is_there links op = of_link (has_link links) (attributes_of op).way

-- ---- what an operation is to a channel

-- the number of the channel to which it is this
abbrev pub named : Role → Op → Option ℕ
named role op = option_map channel_number (channel_of role (attributes_of op))

-- a channel, if there is one, is in a set, or isn't
abbrev pub hits : (ℕ → Bool) → Option ℕ → Bool
hits has None = false
hits has (Some chan) = has chan

abbrev pub misses : (ℕ → Bool) → Option ℕ → Bool
misses has None = false
misses has (Some chan) = not (has chan)

-- whether an operation is this to the channel of this number
abbrev pub is_in : Role → ℕ → Op → Bool
is_in role chan op = hits (λ own. nat_eq own chan) (named role op)

-- it has to be in the set, or mustn't be
abbrev pub may_stand : Order → (ℕ → Bool) → Option ℕ → Bool
may_stand place.After has chan = not (misses has chan)
may_stand place.Apart has chan = not (hits has chan)

-- the channel to which it is `asks` is one to which an operation above is `adds`; or it is none
abbrev pub stands : Order → Role → Role → List Op → Op → Bool
stands at asks adds above op = may_stand at (λ chan. list_any (is_in adds chan) above) (named asks op)

abbrev pub is_after : Role → Role → List Op → Op → Bool
is_after asks adds above op = stands place.After asks adds above op

abbrev pub is_apart : Role → Role → List Op → Op → Bool
is_apart asks adds above op = stands place.Apart asks adds above op

abbrev pub all_stand : Order → Role → Role → List CallerEntry → Bool
all_stand at asks adds callers = list_all (λ caller. each_after (stands at asks adds) [] caller.ops) callers

abbrev pub all_after : Role → Role → List CallerEntry → Bool
all_after asks adds callers = list_all (λ caller. each_after (is_after asks adds) [] caller.ops) callers

abbrev pub all_apart : Role → Role → List CallerEntry → Bool
all_apart asks adds callers = list_all (λ caller. each_after (is_apart asks adds) [] caller.ops) callers

abbrev pub are_opened : List CallerEntry → Bool
are_opened callers = all_after role.Uses role.Opens callers && all_after role.Joins role.Opens callers

unfoldable pub are_there : PlanParts → Bool
are_there parts = list_all (route_is_there parts.links) parts.requests && all_ops (pour_is_there parts.links) parts.callers && are_opened parts.callers

-- ---- 8: ranges

abbrev pub control_in_range : Control → Bool
control_in_range Rate = true
control_in_range (Jitter bound) = is_within 1 most_delay bound

abbrev pub request_in_range : RequestEntry → Bool
request_in_range entry = is_within 1 most_delay entry.request.delay && control_in_range entry.request.control

abbrev pub packets_in_range : ℕ → ℕ → ℕ → Bool
packets_in_range count gap size = is_within 1 most_packets count && is_within 1 most_gap gap && is_within 1 most_size size

abbrev pub amount_in_range : Amount → Bool
amount_in_range Nothing = true
amount_in_range (Fresh count gap size) = packets_in_range count gap size
amount_in_range (Carried chan) = true

abbrev pub op_in_range : Op → Bool
op_in_range op = amount_in_range (attributes_of op).amount

abbrev pub rounds_in_range : ℕ → ℕ → Bool
rounds_in_range rounds tail = nat_le rounds most_rounds && nat_le tail most_rounds

unfoldable pub are_in_range : PlanParts → Bool
are_in_range parts = list_all request_in_range parts.requests && all_ops op_in_range parts.callers && rounds_in_range parts.rounds parts.tail

-- ---- 9: how many there are

unfoldable pub are_few : PlanParts → Bool
are_few parts = nat_le (length parts.links) most_links && nat_le (length parts.callers) most_callers && nat_le (length parts.requests) most_requests

-- ---- 12: routes

-- the nodes where a link begins and ends, or no name where it isn't there
abbrev pub start_of : Option LinkEntry → List ℕ
start_of None = []
start_of (Some entry) = entry.from

abbrev pub end_of : Option LinkEntry → List ℕ
end_of None = []
end_of (Some entry) = entry.to

-- one link ends at the node where the other begins
abbrev pub meets : List LinkEntry → LinkNo → LinkNo → Bool
meets links link next = pointwise nat_eq (end_of (slice_get links (link_number link))) (start_of (slice_get links (link_number next)))

-- so do the hops of a route, one after the other
abbrev pub goes_on : List LinkEntry → Hop → List Hop → Bool
goes_on links hop [] = true
goes_on links hop (next ∷ hops) = meets links hop.link next.link && goes_on links next hops

abbrev pub is_joined : List LinkEntry → List Hop → Bool
is_joined links [] = true
is_joined links (hop ∷ hops) = goes_on links hop hops

unfoldable pub are_joined : PlanParts → Bool
are_joined parts = list_all (λ entry. is_joined parts.links entry.request.route) parts.requests

-- ---- 13: what was closed or left

unfoldable pub are_unclosed : PlanParts → Bool
are_unclosed parts = all_apart role.Uses role.Closes parts.callers && all_apart role.Keeps role.Leaves parts.callers

-- ---- 14: the load

abbrev pub hops_of : Option RequestEntry → ℕ
hops_of None = 0
hops_of (Some entry) = length entry.request.route

-- what each request has to carry, by its number: the most packets of one of its sends so far, or of the request whose packets
-- moved to it
abbrev pub load_at : List ℕ → ChanNo → ℕ
load_at loads chan = get_or loads (channel_number chan) 0

abbrev pub raised : ChanNo → ℕ → List ℕ → List ℕ
raised chan n loads = set loads (channel_number chan) (max n (load_at loads chan))

-- the packets of an operation
abbrev pub amount_in : List ℕ → Amount → ℕ
amount_in loads Nothing = 0
amount_in loads (Fresh count gap size) = count
amount_in loads (Carried chan) = load_at loads chan

-- a request that is opened has nothing to carry yet
abbrev pub with_opened : Option ChanNo → List ℕ → List ℕ
with_opened None loads = loads
with_opened (Some chan) loads = loads ++ 0 ∷ []

-- the one over whose hops packets go has to carry at least this many
abbrev pub raised_over : Way → ℕ → List ℕ → List ℕ
raised_over Nowhere n loads = loads
raised_over (OverRoute chan) n loads = raised chan n loads
raised_over (OverLink link) n loads = loads

abbrev pub loads_with : List ℕ → Op → List ℕ
loads_with loads op = raised_over (attributes_of op).way (amount_in loads (attributes_of op).amount) (with_opened (attributes_of op).opens loads)

unfoldable pub loads_after : List ℕ → List Op → List ℕ
loads_after loads [] = loads
loads_after loads (op ∷ ops) = loads_after (loads_with loads op) ops

-- this many packets, once for each hop
abbrev pub load_over : List RequestEntry → Way → ℕ → ℕ
load_over requests Nowhere n = 0
load_over requests (OverRoute chan) n = n * hops_of (slice_get requests (channel_number chan))
load_over requests (OverLink link) n = n

abbrev pub load_of : List RequestEntry → List ℕ → Op → ℕ
load_of requests loads op = load_over requests (attributes_of op).way (amount_in loads (attributes_of op).amount)

unfoldable pub ops_load : List RequestEntry → List ℕ → List Op → ℕ
ops_load requests loads [] = 0
ops_load requests loads (op ∷ ops) = load_of requests loads op + ops_load requests (loads_with loads op) ops

-- the operations of all callers, one caller after the other
unfoldable pub ops_over : List CallerEntry → List Op
ops_over [] = []
ops_over (caller ∷ callers) = caller.ops ++ ops_over callers

abbrev pub load_in : List RequestEntry → List CallerEntry → ℕ
load_in requests callers = ops_load requests [] (ops_over callers)

-- what each request has to carry after them
abbrev pub loads_in : List CallerEntry → List ℕ
loads_in callers = loads_after [] (ops_over callers)

unfoldable pub are_within_load : PlanParts → Bool
are_within_load parts = nat_le (load_in parts.requests parts.callers) most_packets && nat_le ((parts.rounds + parts.tail) * length parts.links) most_rounds

-- ---- 19: pours

abbrev pub takes_best_effort : Option LinkEntry → Bool
takes_best_effort None = false
takes_best_effort (Some entry) = nat_le 1 entry.shape.best

abbrev pub pour_is_taken : List LinkEntry → Op → Bool
pour_is_taken links op = of_link (λ link. takes_best_effort (slice_get links (link_number link))) (attributes_of op).way

unfoldable pub pours_are_taken : PlanParts → Bool
pours_are_taken parts = all_ops (pour_is_taken parts.links) parts.callers

-- ---- 24: moves

abbrev pub same_contract : Traffic → Traffic → Bool
same_contract a b = nat_eq a.xmin b.xmin && nat_eq a.xave b.xave && nat_eq a.interval b.interval && nat_eq a.smax b.smax

-- two links begin at one node, or end at one
abbrev pub begin_together : List LinkEntry → LinkNo → LinkNo → Bool
begin_together links link other = pointwise nat_eq (start_of (slice_get links (link_number link))) (start_of (slice_get links (link_number other)))

abbrev pub end_together : List LinkEntry → LinkNo → LinkNo → Bool
end_together links link other = pointwise nat_eq (end_of (slice_get links (link_number link))) (end_of (slice_get links (link_number other)))

-- so do two hops, if they are there
abbrev pub hops_agree : (LinkNo → LinkNo → Bool) → Option Hop → Option Hop → Bool
hops_agree agree None other = false
hops_agree agree (Some hop) None = false
hops_agree agree (Some hop) (Some other) = agree hop.link other.link

-- two routes begin at one node, and end at one
abbrev pub same_ends : List LinkEntry → List Hop → List Hop → Bool
same_ends links route other =
    hops_agree (begin_together links) (slice_get route 0) (slice_get other 0) && hops_agree (end_together links) (slice_get route (length route - 1)) (slice_get other (length other - 1))

-- packets may move between these requests, if they are there
abbrev pub may_move : List LinkEntry → Option RequestEntry → Option RequestEntry → Bool
may_move links None new = false
may_move links (Some old) None = false
may_move links (Some old) (Some new) = same_contract old.request.contract new.request.contract && same_ends links old.request.route new.request.route

-- they may move from the channel that is left to the one that is joined, which is another
abbrev pub fits_between : List LinkEntry → List RequestEntry → Option ChanNo → Option ChanNo → Bool
fits_between links requests None joins = true
fits_between links requests (Some old) None = true
fits_between links requests (Some old) (Some new) = may_move links (slice_get requests (channel_number old)) (slice_get requests (channel_number new)) && not (nat_eq (channel_number old) (channel_number new))

abbrev pub move_is_fit : List LinkEntry → List RequestEntry → Op → Bool
move_is_fit links requests op = fits_between links requests (attributes_of op).leaves (attributes_of op).joins

unfoldable pub moves_are_fit : PlanParts → Bool
moves_are_fit parts = all_ops (move_is_fit parts.links parts.requests) parts.callers && all_apart role.Joins role.Uses parts.callers && all_apart role.Joins role.Joins parts.callers
