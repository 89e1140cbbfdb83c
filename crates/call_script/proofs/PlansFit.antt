-- The network of every plan fits.
use Rattle.std.proofs.Common.{◌≡◌, ◌≢◌, ℕ, ◌+◌, ◌<◌, ◌≤◌, true, Option, Some, None, List, [], ◌∷◌, length, map, refl, sym, ap, ◌∙◌, subst, inl, inr, option_map, IsTrue, arith}
use Rattle.std.proofs.lemmas.Bool.{eqb-true, eqb-false, leb-true, ltb-true, and_parts}
use Rattle.std.proofs.lemmas.List.{length-map}
use Rattle.std.proofs.lemmas.Option.{slice_get-map, slice_get_cases}
use Rattle.std.specs.List.{list_all, slice_get}
use Rattle.std.specs.Prelude.{nat_eq, nat_le, not, ◌&&◌}
use Rattle.net_units.specs.LevelBounds.{are_bounds}
use Rattle.net_units.specs.Numbers.{link_number, channel_number}
use Rattle.net_units.specs.declared.numbers.ChanNo.{ChanNo}
use Rattle.net_units.specs.declared.numbers.LinkNo.{LinkNo}
use Rattle.hop_reservation.specs.declared.route.Hop.{Hop}
use Rattle.link_steps.specs.Lists.{Each}
use Rattle.link_steps.specs.Legal.{SubmitFits}
use Rattle.link_steps.specs.Split.{Link, SplitFits}
use Rattle.traffic_contract.specs.Contract.{Traffic}
use Rattle.relaxation.specs.Laws.{HaveBounds}
use Rattle.setup_protocol.specs.declared.request.Request.{Request}
use Rattle.call_script.specs.Fits.{TaskFits, NetworkFits}
use Rattle.call_script.specs.Groups.{have_own_groups, quota_is_there, quotas_fit, KeepGroups}
use Rattle.setup_protocol.specs.Hops.{IsHopOf, RequestFits}
use Rattle.call_script.specs.Parts.{PlanParts, FollowsLink}
use Rattle.call_script.specs.Plans.{HasTerms, IsPlan}
use Rattle.call_script.specs.Rules.{have_links, has_link, route_is_there, request_in_range, op_in_range, rounds_in_range, are_in_range, are_few, takes_best_effort, pour_is_taken, pours_are_taken, same_contract, same_ends, may_move, move_is_fit, packets_in_range}
use Rattle.call_script.specs.Splits.{entry_link, groups_in}
use Rattle.call_script.specs.Tasks.{request_of, send_on, task_for, move_for, task_of, with_task, tasks_of, script_of, network_of}
use Rattle.call_script.specs.declared.entries.CallerEntry.{CallerEntry}
use Rattle.call_script.specs.declared.entries.LinkEntry.{LinkEntry}
use Rattle.call_script.specs.declared.entries.RequestEntry.{RequestEntry}
use Rattle.call_script.specs.declared.operations.Op.{Op}
use Rattle.call_script.specs.declared.operations.Op.TheVariants.{Open, Send, Close, Move}
use Rattle.call_script.specs.declared.tasks.Task.{Task}
use Rattle.call_script.specs.declared.tasks.Task.TheVariants.{Sends}
use Rattle.call_script.proofs.RulesAreKept.{not-true, each-of, packets-fit, keeps-rules, used-in, moves-in}
use Rattle.call_script.proofs.SplitFits.{entry-fits}
use Rattle.link_steps.proofs.ListParts.{Each-at, comes-from}

-- ---- requests

hop-there : (groups : List ℕ) (links : List LinkEntry) (hop : Hop) → has_link links hop.link ≡ true → FollowsLink links hop
    → IsHopOf (map (entry_link groups) links) hop
hop-there groups links hop there follows =
    elim (slice_get_cases links (link_number hop.link)).1 [
      | inl at ↦ record {
        link = entry_link groups at.0;
        linked = slice_get-map (entry_link groups) links (link_number hop.link) ∙ ap (option_map (entry_link groups)) at.2;
        bounds = follows.bounds at.0 at.2;
        prop = follows.prop at.0 at.2;
      }
      | inr past ↦ (let within : link_number hop.link < length links = ltb-true (link_number hop.link) (length links) there in absurd (omega (arith, past.0)))
    ]

hops-there : (groups : List ℕ) (links : List LinkEntry) (route : List Hop) → list_all (λ (hop : Hop). has_link links hop.link) route ≡ true
    → Each (FollowsLink links) route → Each (IsHopOf (map (entry_link groups) links)) route
hops-there groups links [] there follows = tt
hops-there groups links (hop ∷ route) there follows =
    let split = and_parts (has_link links hop.link) (list_all (λ (h : Hop). has_link links h.link) route) there in
    (hop-there groups links hop split.0 follows.0, hops-there groups links route split.1 follows.1)

-- a hop has the bounds of its link, which are a link's bounds
hops-bounds : (links : List LinkEntry) (route : List Hop) → list_all (λ (hop : Hop). has_link links hop.link) route ≡ true
    → Each (FollowsLink links) route → HaveBounds route
unfolding HaveBounds
hops-bounds links [] there follows = tt
hops-bounds links (hop ∷ route) there follows =
    let split = and_parts (has_link links hop.link) (list_all (λ (h : Hop). has_link links h.link) route) there in
    elim (slice_get_cases links (link_number hop.link)).1 [
      | inl at ↦ (subst (λ bs. IsTrue (are_bounds bs)) (sym (follows.0.bounds at.0 at.2)) at.0.shape.bounds_rise, hops-bounds links route split.1 follows.1)
      | inr past ↦ (let within : link_number hop.link < length links = ltb-true (link_number hop.link) (length links) split.0 in absurd (omega (arith, past.0)))
    ]

pub request-fits : (parts : PlanParts) (n : ℕ) (entry : RequestEntry) → IsPlan parts → slice_get parts.requests n ≡ Some entry
    → RequestFits (map (entry_link (groups_in parts)) parts.links) entry.request
request-fits parts n entry plan found =
    let rules = keeps-rules parts plan.kept in
    let routes = used-in parts rules.there in
    let there = Each-at (λ e. route_is_there parts.links e ≡ true) parts.requests n entry (each-of (route_is_there parts.links) parts.requests routes.routes) found in
    let follows = plan.planned.hops n entry found in
    let terms = Each-at HasTerms parts.requests n entry plan.terms found in
    record { contract = terms.contract; bounds = hops-bounds parts.links entry.request.route there follows; route = terms.route; hops = hops-there (groups_in parts) parts.links entry.request.route there follows }

-- ---- tasks

-- what a task fits, where there is one
TaskFitsIf : List Link → Option Task → Type 0
TaskFitsIf links None = Unit {0}
TaskFitsIf links (Some task) = TaskFits links task

with-fits : (links : List Link) (task : Option Task) (tasks : List Task) → TaskFitsIf links task → Each (TaskFits links) tasks
    → Each (TaskFits links) (with_task task tasks)
unfolding TaskFitsIf
with-fits links None tasks fits each = each
with-fits links (Some task) tasks fits each = (fits, each)

-- of the request at an index
of-request : (parts : PlanParts) (own : Request → Task) (n : ℕ) → IsPlan parts
    → ((request : Request) → RequestFits (map (entry_link (groups_in parts)) parts.links) request → TaskFits (map (entry_link (groups_in parts)) parts.links) (own request))
    → (found : Option Request) → slice_get (map request_of parts.requests) n ≡ found
    → TaskFitsIf (map (entry_link (groups_in parts)) parts.links) (option_map own found)
unfolding TaskFitsIf
of-request parts own n plan fits None is = tt
of-request parts own n plan fits (Some request) is =
    let at = comes-from request_of parts.requests n request is in
    fits request (subst (RequestFits (map (entry_link (groups_in parts)) parts.links)) at.is (request-fits parts n at.from plan at.found))

-- packets of a request's channel are asked for at a link of the plan
send-fits : (links : List Link) (request : Request) (count gap size : ℕ) → RequestFits links request
    → op_in_range (Send request.chan count gap size) ≡ true → TaskFitsIf links (send_on count gap size request)
unfolding TaskFitsIf
send-fits links request count gap size fits range = by (slice_get request.route 0) refl where
  by : (found : Option Hop) → slice_get request.route 0 ≡ found → TaskFitsIf links (option_map (λ (hop : Hop). Sends hop.link (Some request.chan) count gap size) found)
  by None is = tt
  by (Some hop) is = (let at = Each-at (IsHopOf links) request.route 0 hop fits.hops is in record { link = at.link; linked = at.linked; packets = packets-fit count gap size range })

sends-fit : (parts : PlanParts) (n count gap size : ℕ) (chan : ChanNo) → IsPlan parts → op_in_range (Send chan count gap size) ≡ true
    → (found : Option Request) → slice_get (map request_of parts.requests) n ≡ found
    → TaskFitsIf (map (entry_link (groups_in parts)) parts.links) (task_for (send_on count gap size) found)
unfolding TaskFitsIf
sends-fit parts n count gap size chan plan range None is = tt
sends-fit parts n count gap size chan plan range (Some request) is =
    let at = comes-from request_of parts.requests n request is in
    send-fits (map (entry_link (groups_in parts)) parts.links) request count gap size (subst (RequestFits (map (entry_link (groups_in parts)) parts.links)) at.is (request-fits parts n at.from plan at.found)) range

-- best-effort packets are asked for at a link that takes them
best-fits : (groups : List ℕ) (links : List LinkEntry) (link : LinkNo) (count gap size : ℕ)
    → takes_best_effort (slice_get links (link_number link)) ≡ true → packets_in_range count gap size ≡ true
    → TaskFitsIf (map (entry_link groups) links) (Some (Sends link None count gap size))
unfolding TaskFitsIf
best-fits groups links link count gap size taken range = by (slice_get links (link_number link)) refl taken where
  by : (found : Option LinkEntry) → slice_get links (link_number link) ≡ found → takes_best_effort found ≡ true → TaskFitsIf (map (entry_link groups) links) (Some (Sends link None count gap size))
  by None is none = cc
  by (Some entry) is some = record { link = entry_link groups entry; linked = slice_get-map (entry_link groups) links (link_number link) ∙ ap (option_map (entry_link groups)) is; packets = (leb-true 1 entry.shape.best some, packets-fit count gap size range) }

-- contracts with the same numbers are one
contract-same : (a b : Traffic) → same_contract a b ≡ true → a ≡ b
contract-same a b same =
    let first = and_parts (nat_eq a.xmin b.xmin && nat_eq a.xave b.xave && nat_eq a.interval b.interval) (nat_eq a.smax b.smax) same in
    let second = and_parts (nat_eq a.xmin b.xmin && nat_eq a.xave b.xave) (nat_eq a.interval b.interval) first.0 in
    let third = and_parts (nat_eq a.xmin b.xmin) (nat_eq a.xave b.xave) second.0 in
    let xmin = eqb-true a.xmin b.xmin third.0 in
    let xave = eqb-true a.xave b.xave third.1 in
    let interval = eqb-true a.interval b.interval second.1 in
    let smax = eqb-true a.smax b.smax first.1 in
    λ i. record { xmin = xmin i; xave = xave i; interval = interval i; smax = smax i }

one-packet : SubmitFits 1 1 1
one-packet = record { count_least = omega arith; count_most = omega arith; gap_least = omega arith; gap_most = omega arith; size_least = omega arith; size_most = omega arith }

move-fits : (parts : PlanParts) (o n : ℕ) → IsPlan parts → o ≢ n → (old new : Option RequestEntry) → slice_get parts.requests o ≡ old
    → slice_get parts.requests n ≡ new → may_move parts.links old new ≡ true
    → TaskFitsIf (map (entry_link (groups_in parts)) parts.links) (move_for (option_map request_of old) (option_map request_of new))
unfolding TaskFitsIf
move-fits parts o n plan apart None new from to fit = cc
move-fits parts o n plan apart (Some old) None from to fit = cc
move-fits parts o n plan apart (Some old) (Some new) from to fit = record {
  of_old = request-fits parts o old plan from;
  of_new = request-fits parts n new plan to;
  same = contract-same old.request.contract new.request.contract (and_parts (same_contract old.request.contract new.request.contract) (same_ends parts.links old.request.route new.request.route) fit).0;
  apart = λ same. apart (sym (plan.planned.requests o old from) ∙ same ∙ plan.planned.requests n new to);
  packets = one-packet;
}

op-fits : (parts : PlanParts) (op : Op) → IsPlan parts → op_in_range op ≡ true → pour_is_taken parts.links op ≡ true
    → move_is_fit parts.links parts.requests op ≡ true
    → TaskFitsIf (map (entry_link (groups_in parts)) parts.links) (task_of (map request_of parts.requests) op)
op-fits parts (Open chan) plan range taken fit = of-request parts _ (channel_number chan) plan (λ request fits. fits) (slice_get (map request_of parts.requests) (channel_number chan)) refl
op-fits parts (Send chan count gap size) plan range taken fit = sends-fit parts (channel_number chan) count gap size chan plan range (slice_get (map request_of parts.requests) (channel_number chan)) refl
op-fits parts (Close chan) plan range taken fit = of-request parts _ (channel_number chan) plan (λ request fits. fits) (slice_get (map request_of parts.requests) (channel_number chan)) refl
op-fits parts (Move old new) plan range taken fit =
    let split = and_parts (may_move parts.links (slice_get parts.requests (channel_number old)) (slice_get parts.requests (channel_number new))) (not (nat_eq (channel_number old) (channel_number new))) fit in
    subst (λ f. TaskFitsIf (map (entry_link (groups_in parts)) parts.links) (move_for f (slice_get (map request_of parts.requests) (channel_number new)))) (sym (slice_get-map request_of parts.requests (channel_number old)))
    (subst (λ f. TaskFitsIf (map (entry_link (groups_in parts)) parts.links) (move_for (option_map request_of (slice_get parts.requests (channel_number old))) f)) (sym (slice_get-map request_of parts.requests (channel_number new)))
    (move-fits parts (channel_number old) (channel_number new) plan (eqb-false (channel_number old) (channel_number new) (not-true (nat_eq (channel_number old) (channel_number new)) split.1)) (slice_get parts.requests (channel_number old)) (slice_get parts.requests (channel_number new)) refl refl split.0))
op-fits parts _ plan range taken fit = best-fits (groups_in parts) parts.links _ _ _ _ taken range

ops-fit : (parts : PlanParts) (ops : List Op) → IsPlan parts → list_all op_in_range ops ≡ true
    → list_all (pour_is_taken parts.links) ops ≡ true → list_all (move_is_fit parts.links parts.requests) ops ≡ true
    → Each (TaskFits (map (entry_link (groups_in parts)) parts.links)) (tasks_of (map request_of parts.requests) ops)
unfolding tasks_of
ops-fit parts [] plan range taken fit = tt
ops-fit parts (op ∷ ops) plan range taken fit =
    let ranges = and_parts (op_in_range op) (list_all op_in_range ops) range in
    let takes = and_parts (pour_is_taken parts.links op) (list_all (pour_is_taken parts.links) ops) taken in
    let fits = and_parts (move_is_fit parts.links parts.requests op) (list_all (move_is_fit parts.links parts.requests) ops) fit in
    with-fits (map (entry_link (groups_in parts)) parts.links) (task_of (map request_of parts.requests) op) (tasks_of (map request_of parts.requests) ops) (op-fits parts op plan ranges.0 takes.0 fits.0) (ops-fit parts ops plan ranges.1 takes.1 fits.1)

callers-fit : (parts : PlanParts) (callers : List CallerEntry) → IsPlan parts
    → list_all (λ (caller : CallerEntry). list_all op_in_range caller.ops) callers ≡ true
    → list_all (λ (caller : CallerEntry). list_all (pour_is_taken parts.links) caller.ops) callers ≡ true
    → list_all (λ (caller : CallerEntry). list_all (move_is_fit parts.links parts.requests) caller.ops) callers ≡ true
    → Each (Each (TaskFits (map (entry_link (groups_in parts)) parts.links))) (map (script_of (map request_of parts.requests)) callers)
callers-fit parts [] plan range taken fit = tt
callers-fit parts (caller ∷ callers) plan range taken fit =
    let ranges = and_parts (list_all op_in_range caller.ops) (list_all (λ (c : CallerEntry). list_all op_in_range c.ops) callers) range in
    let takes = and_parts (list_all (pour_is_taken parts.links) caller.ops) (list_all (λ (c : CallerEntry). list_all (pour_is_taken parts.links) c.ops) callers) taken in
    let fits = and_parts (list_all (move_is_fit parts.links parts.requests) caller.ops) (list_all (λ (c : CallerEntry). list_all (move_is_fit parts.links parts.requests) c.ops) callers) fit in
    (ops-fit parts caller.ops plan ranges.0 takes.0 fits.0, callers-fit parts callers plan ranges.1 takes.1 fits.1)

-- ---- the network

links-fit : (parts : PlanParts) → KeepGroups parts.version parts.groups parts.links parts.callers
    → Each SplitFits (map (entry_link (groups_in parts)) parts.links)
links-fit parts keep = by parts.links keep.own keep.quotas_there keep.fit where
  by : (links : List LinkEntry) → list_all (λ (entry : LinkEntry). have_own_groups entry.quotas) links ≡ true → list_all (λ (entry : LinkEntry). list_all (quota_is_there parts.groups) entry.quotas) links ≡ true
      → list_all (λ (entry : LinkEntry). quotas_fit entry.shape entry.quotas) links ≡ true → Each SplitFits (map (entry_link (groups_in parts)) links)
  by [] own there fit = tt
  by (entry ∷ links) own there fit =
      let owns = and_parts (have_own_groups entry.quotas) (list_all (λ (e : LinkEntry). have_own_groups e.quotas) links) own in
      let theres = and_parts (list_all (quota_is_there parts.groups) entry.quotas) (list_all (λ (e : LinkEntry). list_all (quota_is_there parts.groups) e.quotas) links) there in
      let fits = and_parts (quotas_fit entry.shape entry.quotas) (list_all (λ (e : LinkEntry). quotas_fit e.shape e.quotas) links) fit in
      (entry-fits parts.groups (groups_in parts) entry keep.few owns.0 theres.0 fits.0, by links owns.1 theres.1 fits.1)

pub plan-fits : (parts : PlanParts) → IsPlan parts → NetworkFits (network_of parts)
unfolding network_of have_links are_few are_in_range pours_are_taken
plan-fits parts plan =
    let rules = keeps-rules parts plan.kept in
    let counts = and_parts (nat_le (length parts.links) 32 && nat_le (length parts.callers) 64) (nat_le (length parts.requests) 1024) rules.few in
    let links = and_parts (nat_le (length parts.links) 32) (nat_le (length parts.callers) 64) counts.0 in
    let ranges = and_parts (list_all request_in_range parts.requests && list_all (λ (caller : CallerEntry). list_all op_in_range caller.ops) parts.callers) (rounds_in_range parts.rounds parts.tail) rules.range in
    let ops = and_parts (list_all request_in_range parts.requests) (list_all (λ (caller : CallerEntry). list_all op_in_range caller.ops) parts.callers) ranges.0 in
    let rounds = and_parts (nat_le parts.rounds 524288) (nat_le parts.tail 524288) ranges.1 in
    let least : 1 ≤ length parts.links = leb-true 1 (length parts.links) rules.links in
    let most : length parts.links ≤ 32 = leb-true (length parts.links) 32 links.0 in
    let r : parts.rounds ≤ 524288 = leb-true parts.rounds 524288 rounds.0 in
    let t : parts.tail ≤ 524288 = leb-true parts.tail 524288 rounds.1 in
    record {
      some = omega (arith, length-map parts.links (entry_link (groups_in parts)));
      few = omega (arith, length-map parts.links (entry_link (groups_in parts)));
      splits = links-fit parts rules.groups;
      tasks = callers-fit parts parts.callers plan ops.1 rules.pours (moves-in parts rules.moves).fit;
      rounds = omega arith;
    }

-- a request's route has a hop
pub route-least : (parts : PlanParts) (number : ℕ) (entry : RequestEntry) → IsPlan parts → slice_get parts.requests number ≡ Some entry
    → 1 ≤ length entry.request.route
route-least parts number entry plan found = (request-fits parts number entry plan found).route.least

-- the network of a plan has its links, which are few, and its rounds
pub links-are : (parts : PlanParts) → length (network_of parts).links ≡ length parts.links
unfolding network_of
links-are parts = length-map parts.links (entry_link (groups_in parts))

pub links-few : (parts : PlanParts) → IsPlan parts → length parts.links ≤ 32
links-few parts plan = (let few = (plan-fits parts plan).few in let same = links-are parts in omega (arith, few, same))

pub rounds-are : (parts : PlanParts) → (network_of parts).rounds ≡ parts.rounds + parts.tail
unfolding network_of
rounds-are parts = refl
