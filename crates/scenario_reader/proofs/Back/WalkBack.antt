-- The callers of a plan are read one after another, each with its operations: what was read so far keeps the rules, and what
-- is left of the plan is after it.
use Rattle.std.proofs.Common.{◌≡◌, ℕ, suc, zero, ◌+◌, ◌*◌, ◌-◌, ◌<◌, ◌≤◌, true, false, nat_eq, List, [], ◌∷◌, ◌++◌, length, map, Option, Some, refl, sym, ◌∙◌, ap, subst, inl, inr, append_assoc, arith}
use Rattle.std.specs.Prelude.{◌&&◌, not, option_map, position}
use Rattle.std.proofs.lemmas.Bool.{and_parts, and_from, eq-eqb, not-true, not_from_false, ltb-true}
use Rattle.std.proofs.lemmas.List.{map-append}
use Rattle.std.proofs.lemmas.Option.{slice_get_cases, slice_get_within}
use Rattle.std.specs.List.{slice_get, list_any, list_all}
use Rattle.net_units.specs.Numbers.{link_number, actor_number, channel_number}
use Rattle.net_units.specs.Text.{is_name}
use Rattle.net_units.specs.declared.numbers.ChanNo.{ChanNo}
use Rattle.net_units.specs.declared.numbers.LinkNo.{LinkNo}
use Rattle.hop_reservation.specs.declared.route.Hop.{Hop}
use Rattle.link_steps.specs.Lists.{Each}
use Rattle.link_steps.proofs.SearchAndFilter.{Each-append}
use Rattle.call_script.specs.Growing.{with_its_op, add_op, last_ops, IsOpenedThere, KeepSoFar}
use Rattle.call_script.specs.Parts.{PlanParts, parts_with, Opening, opened_by, opening_of, FollowsLink}
use Rattle.call_script.specs.Plans.{HasTerms}
use Rattle.call_script.specs.Rules.{each_after, is_named, is_new, are_distinct, link_names, caller_names, request_names, have_names, has_link, route_is_there, pour_is_there, is_in, is_after, is_apart, op_has_version, op_in_range, request_in_range, is_joined, hops_of, load_at, load_of, load_in, loads_in, loads_with, ops_load, ops_over, may_move, move_is_fit, takes_best_effort, pour_is_taken}
use Rattle.call_script.specs.declared.entries.CallerEntry.{CallerEntry}
use Rattle.call_script.specs.declared.entries.LinkEntry.{LinkEntry}
use Rattle.call_script.specs.declared.entries.RequestEntry.{RequestEntry}
use Rattle.call_script.specs.declared.operations.Op.{Op}
use Rattle.call_script.specs.declared.operations.Op.TheVariants.{Open, Send, Close, Pour, Move}
use Rattle.call_script.specs.declared.roles.Role.{Role}
use Rattle.call_script.specs.declared.roles.Role.TheVariants as role
use Rattle.call_script.specs.declared.version.Version.{Version}
use Rattle.link_steps.proofs.ListParts.{Each-at}
use Rattle.call_script.proofs.OneMoreOperation.{get-before, added-last, last-of}
use Rattle.call_script.proofs.Growing.{few-in, open-keeps, send-keeps, close-keeps, pour-keeps, move-keeps, length-more}
use Rattle.call_script.proofs.OpeningsInOrder.{opened-has}
use Rattle.call_script.proofs.OneOwner.{after-has, apart-none}
use Rattle.call_script.specs.Rules.{request_has_version}
use Rattle.scenario_reader.specs.BothWays.{AreNodesNamed, IsFoundRoute}
use Rattle.scenario_reader.specs.BothWays.{HasNames}
use Rattle.scenario_reader.specs.Drafts.{Said, if_own, is_used, is_joined_to}
use Rattle.scenario_reader.specs.line.Move.{may_join}
use Rattle.scenario_reader.proofs.Passing.KeptBesideDraft.{use-of, closing-uses}
use Rattle.scenario_reader.specs.line.Operation.{op_fields, op_lines}
use Rattle.scenario_reader.specs.Fields.{lines_if}
use Rattle.scenario_reader.specs.line.Request.{open_fields}
use Rattle.scenario_reader.specs.line.Send.{send_fields}
use Rattle.scenario_reader.specs.line.Close.{close_fields}
use Rattle.scenario_reader.specs.line.Move.{move_fields, fields_between}
use Rattle.scenario_reader.specs.line.Pour.{pour_fields}
use Rattle.scenario_reader.proofs.kind.Using.{are-packets, IsOpenHere}
use Rattle.scenario_reader.proofs.Back.NamedBack.{find-back, position-back}
use Rattle.scenario_reader.proofs.Back.SaysBack.{front}
use Rattle.scenario_reader.proofs.kind.RequestBack.{IsHopHere, open-read}
use Rattle.scenario_reader.proofs.kind.Send.{send-read}
use Rattle.scenario_reader.proofs.kind.Close.{close-read}
use Rattle.scenario_reader.proofs.kind.Move.{move-read}
use Rattle.scenario_reader.proofs.kind.Pour.{pour-read}
use Rattle.scenario_reader.proofs.Back.SaysBack.{Reads}
use Rattle.net_units.proofs.KnownByNumber.{same-link, same-channel}

-- ---- lists

pub at-seam : {X : Type 0} (xs : List X) (x : X) (ys : List X) (n : ℕ) → n ≡ length xs → slice_get (xs ++ x ∷ ys) n ≡ Some x
at-seam [] x ys n same = ap (slice_get (x ∷ ys)) same
at-seam (y ∷ xs) x ys zero same = absurd (omega (arith, same))
at-seam (y ∷ xs) x ys (suc n) same = at-seam xs x ys n (omega (arith, same))

-- ---- the links, all of which were read

pub record LinksStand (links : List LinkEntry) : Type 0 where
  pub some : 1 ≤ length links
  pub named : Each HasNames links
  pub apart : are_distinct (link_names links) ≡ true
  pub numbers : (n : ℕ) (entry : LinkEntry) → slice_get links n ≡ Some entry → link_number entry.shape.link ≡ n

-- a link that is there is found by its name
record IsThere (links : List LinkEntry) (link : LinkNo) : Type 0 where
  entry : LinkEntry
  found : slice_get links (link_number link) ≡ Some entry
  same : link ≡ entry.shape.link
  name : is_name entry.name ≡ true
  place : position (is_named entry.name) (link_names links) ≡ Some (link_number entry.shape.link)
  at : slice_get links (link_number entry.shape.link) ≡ Some entry

is-there : (links : List LinkEntry) (link : LinkNo) → LinksStand links → has_link links link ≡ true → IsThere links link
is-there links link stand there =
    elim (slice_get_cases links (link_number link)).1 [
      | inl at ↦ record {
        entry = at.0;
        found = at.2;
        same = same-link link at.0.shape.link (sym (stand.numbers (link_number link) at.0 at.2));
        name = (Each-at HasNames links (link_number link) at.0 stand.named at.2).name;
        place = position-back (λ (e : LinkEntry). e.name) links (link_number link) at.0 stand.apart at.2 ∙ ap Some (sym (stand.numbers (link_number link) at.0 at.2));
        at = subst (λ (n : ℕ). slice_get links n ≡ Some at.0) (sym (stand.numbers (link_number link) at.0 at.2)) at.2;
      }
      | inr past ↦ (let within : link_number link < length links = ltb-true (link_number link) (length links) there in absurd (omega (arith, past.0, within)))
    ]

hop-here : (links : List LinkEntry) (hop : Hop) → LinksStand links → has_link links hop.link ≡ true → FollowsLink links hop → IsHopHere links hop
hop-here links hop stand there follows =
    let at = is-there links hop.link stand there in
    record { entry = at.entry; found = at.found; is = same-hop hop at.entry.shape.link at.entry.shape.bounds at.entry.shape.prop (sym at.same) (sym (follows.bounds at.entry at.found)) (sym (follows.prop at.entry at.found)); name = at.name; place = at.place ∙ ap (λ (l : LinkNo). Some (link_number l)) (sym at.same) }
  where
    same-hop : (h : Hop) (link : LinkNo) (bounds : List ℕ) (prop : ℕ) → link ≡ h.link → bounds ≡ h.bounds → prop ≡ h.prop → record { link = link; bounds = bounds; prop = prop } ≡ h
    same-hop h link bounds prop a b c = rw (a, b, c) refl

hops-here : (links : List LinkEntry) (hops : List Hop) → LinksStand links → list_all (λ (hop : Hop). has_link links hop.link) hops ≡ true → Each (FollowsLink links) hops → Each (IsHopHere links) hops
hops-here links [] stand there follows = tt
hops-here links (hop ∷ hops) stand there follows =
    let split = and_parts (has_link links hop.link) (list_all (λ (h : Hop). has_link links h.link) hops) there in
    (hop-here links hop stand split.0 follows.0, hops-here links hops stand split.1 follows.1)

-- ---- the requests that are left

pub record IsSound (version : Version) (links : List LinkEntry) (entry : RequestEntry) : Type 0 where
  pub kept : request_has_version version entry ≡ true
  pub nodes : AreNodesNamed entry.found
  pub found : IsFoundRoute links entry.request.route entry.found
  pub name : is_name entry.name ≡ true
  pub there : route_is_there links entry ≡ true
  pub joined : is_joined links entry.request.route ≡ true
  pub range : request_in_range entry ≡ true
  pub hops : Each (FollowsLink links) entry.request.route
  pub terms : HasTerms entry

pub record RestStands (version : Version) (links : List LinkEntry) (requests rest : List RequestEntry) : Type 0 where
  pub sound : Each (IsSound version links) rest
  pub new : each_after is_new (request_names requests) (request_names rest) ≡ true
  pub few : length requests + length rest ≤ 1024
  pub numbers : (k : ℕ) (entry : RequestEntry) → slice_get rest k ≡ Some entry → channel_number entry.request.chan ≡ length requests + k

rest-next : (version : Version) (links : List LinkEntry) (requests : List RequestEntry) (entry : RequestEntry) (rest : List RequestEntry) → RestStands version links requests (entry ∷ rest) → RestStands version links (requests ++ entry ∷ []) rest
unfolding each_after
rest-next version links requests entry rest stand =
    let longer = length-more requests entry in
    record {
      sound = stand.sound.1;
      new = subst (λ (names : List (List ℕ)). each_after is_new names (request_names rest) ≡ true) (sym (map-append (λ (e : RequestEntry). e.name) requests (entry ∷ [])))
          (and_parts (is_new (request_names requests) entry.name) (each_after is_new (request_names requests ++ entry.name ∷ []) (request_names rest)) stand.new).1;
      few = omega (arith, stand.few, longer);
      numbers = λ k e found. stand.numbers (suc k) e found ∙ omega (arith, longer);
    }

-- ---- the load of what was read is no more than with all requests

hops-less : (requests rest : List RequestEntry) (load n : ℕ) → load * hops_of (slice_get requests n) ≤ load * hops_of (slice_get (requests ++ rest) n)
hops-less requests rest load n =
    elim (slice_get_cases requests n).1 [
      | inl at ↦ (let same : load * hops_of (slice_get requests n) ≡ load * hops_of (slice_get (requests ++ rest) n) = ap (λ (found : Option RequestEntry). load * hops_of found) (sym (get-before requests rest n at.1)) in omega (arith, same))
      | inr past ↦ (let none : load * hops_of (slice_get requests n) ≡ load * 0 = ap (λ (found : Option RequestEntry). load * hops_of found) past.1 in let zero_load : load * 0 ≡ 0 = omega arith in omega (arith, none, zero_load))
    ]

load-less : (requests rest : List RequestEntry) (loads : List ℕ) (op : Op) → load_of requests loads op ≤ load_of (requests ++ rest) loads op
load-less requests rest loads (Open chan) = omega arith
load-less requests rest loads (Send chan count gap size) = hops-less requests rest count (channel_number chan)
load-less requests rest loads (Close chan) = omega arith
load-less requests rest loads (Pour link count gap size) = omega arith
load-less requests rest loads (Move old new) = hops-less requests rest (load_at loads old) (channel_number new)

ops-less : (requests rest : List RequestEntry) (loads : List ℕ) (ops : List Op) → ops_load requests loads ops ≤ ops_load (requests ++ rest) loads ops
unfolding ops_load
ops-less requests rest loads [] = omega arith
ops-less requests rest loads (op ∷ ops) = (let one = load-less requests rest loads op in let others = ops-less requests rest (loads_with loads op) ops in omega (arith, one, others))

-- ---- within a caller

-- all callers before one were read, and that one so far; `all` are the requests of the plan
pub record Stands (version : Version) (links : List LinkEntry) (groups : List (List ℕ)) (all requests rest : List RequestEntry) (callers : List CallerEntry) (caller : CallerEntry) : Type 0 where
  pub keeps : KeepSoFar (parts_with version links groups requests (callers ++ caller ∷ []) 0 0)
  pub same : all ≡ requests ++ rest
  pub stand : RestStands version links requests rest
  pub named : Each (λ (entry : RequestEntry). is_name entry.name ≡ true) requests
  pub few : length callers < 64

pub record OpSound (version : Version) (links : List LinkEntry) (op : Op) : Type 0 where
  pub kept : op_has_version version op ≡ true
  pub there : pour_is_there links op ≡ true
  pub range : op_in_range op ≡ true
  pub taken : pour_is_taken links op ≡ true

-- an operation that comes next
pub record IsNextOp (version : Version) (links : List LinkEntry) (groups : List (List ℕ)) (all : List RequestEntry) (callers : List CallerEntry) (caller : CallerEntry) (op : Op) : Type 0 where
  pub sound : OpSound version links op
  pub opened : is_after role.Uses role.Opens caller.ops op ≡ true
  pub onto_opened : is_after role.Joins role.Opens caller.ops op ≡ true
  pub unclosed : is_apart role.Uses role.Closes caller.ops op ≡ true
  pub unleft : is_apart role.Keeps role.Leaves caller.ops op ≡ true
  pub unused : is_apart role.Joins role.Uses caller.ops op ≡ true
  pub unjoined : is_apart role.Joins role.Joins caller.ops op ≡ true
  pub fit : move_is_fit links all op ≡ true
  pub load : load_in all (callers ++ caller ∷ []) + load_of all (loads_in (callers ++ caller ∷ [])) op ≤ 262144

-- the operation was read
pub record Stepped (version : Version) (links : List LinkEntry) (groups : List (List ℕ)) (all requests : List RequestEntry) (callers : List CallerEntry) (caller : CallerEntry) (op : Op) (openings : List Opening) : Type 0 where
  pub after : List RequestEntry
  pub rest : List RequestEntry
  pub stands : Stands version links groups all after rest callers (with_its_op op caller)
  pub left : openings ≡ map opening_of rest
  pub reads : Reads (op_lines links all op) (front version links groups requests (callers ++ caller ∷ [])) (front version links groups after (callers ++ with_its_op op caller ∷ []))

distinct-requests : (parts : PlanParts) → have_names parts ≡ true → are_distinct (request_names parts.requests) ≡ true
unfolding have_names
distinct-requests parts names = (and_parts (are_distinct (link_names parts.links) && are_distinct (caller_names parts.callers)) (are_distinct (request_names parts.requests)) names).1

some-callers : (callers : List CallerEntry) (caller : CallerEntry) → 1 ≤ length (callers ++ caller ∷ [])
some-callers callers caller = (let longer = length-more callers caller in omega (arith, longer))

-- the request of a channel that the caller has opened and not closed
record IsOurs (version : Version) (links : List LinkEntry) (groups : List (List ℕ)) (all requests : List RequestEntry) (callers : List CallerEntry) (caller : CallerEntry) (chan : ChanNo) : Type 0 where
  entry : RequestEntry
  there : IsOpenedThere (parts_with version links groups requests (callers ++ caller ∷ []) 0 0) chan
  here : IsOpenHere (front version links groups requests (callers ++ caller ∷ [])) chan entry
  found : slice_get requests (channel_number chan) ≡ Some entry
  among_all : slice_get all (channel_number chan) ≡ Some entry

is-ours : (version : Version) (links : List LinkEntry) (groups : List (List ℕ)) (all requests rest : List RequestEntry) (callers : List CallerEntry) (caller : CallerEntry) (chan : ChanNo) → Stands version links groups all requests rest callers caller
    → list_any (is_in role.Opens (channel_number chan)) caller.ops ≡ true → list_any (is_in role.Closes (channel_number chan)) caller.ops ≡ false → IsOurs version links groups all requests callers caller chan
is-ours version links groups all requests rest callers caller chan s opened unclosed =
    let parts = parts_with version links groups requests (callers ++ caller ∷ []) 0 0 in
    let has = opened-has parts (length callers) (channel_number chan) caller s.keeps.planned (at-seam callers caller [] (length callers) refl) opened in
    let last : list_any (is_in role.Closes (channel_number chan)) (last_ops (callers ++ caller ∷ [])) ≡ false = ap (list_any (is_in role.Closes (channel_number chan))) (last-of callers caller) ∙ unclosed in
    let find = find-back (λ (e : RequestEntry). e.name) [] requests (channel_number chan) has.entry (distinct-requests parts s.keeps.names) has.found in
    let longer = length-more callers caller in
    let same = same-channel chan has.entry.request.chan (sym (s.keeps.planned.requests (channel_number chan) has.entry has.found)) in
    let ours : nat_eq (actor_number has.entry.caller) (length (callers ++ caller ∷ []) - 1) ≡ true = eq-eqb (actor_number has.entry.caller) (length (callers ++ caller ∷ []) - 1) (omega (arith, has.by, longer)) in
    record {
      entry = has.entry;
      there = record { opened = ap (list_any (is_in role.Opens (channel_number chan))) (last-of callers caller) ∙ opened; unclosed = last };
      here = record {
        name = Each-at (λ (e : RequestEntry). is_name e.name ≡ true) requests (channel_number chan) has.entry s.named has.found;
        own = ap (if_own (length (callers ++ caller ∷ []) - 1)) find ∙ rw ours refl;
        same = same;
        at = subst (λ (c : ChanNo). slice_get requests (channel_number c) ≡ Some has.entry) same has.found;
        unclosed = last;
      };
      found = has.found;
      among_all = ap (λ (es : List RequestEntry). slice_get es (channel_number chan)) s.same ∙ get-before requests rest (channel_number chan) (slice_get_within requests (channel_number chan) has.entry has.found) ∙ has.found;
    }

-- nothing is opened, and the last caller has the operation
plain-step : (version : Version) (links : List LinkEntry) (groups : List (List ℕ)) (all requests rest : List RequestEntry) (callers : List CallerEntry) (caller : CallerEntry) (op : Op) (openings : List Opening) (fields : List (List ℕ))
    → Stands version links groups all requests rest callers caller → openings ≡ map opening_of rest → op_fields links all op ≡ Some fields → KeepSoFar (parts_with version links groups requests (add_op op (callers ++ caller ∷ [])) 0 0)
    → Reads (fields ∷ []) (front version links groups requests (callers ++ caller ∷ [])) (front version links groups requests (add_op op (callers ++ caller ∷ []))) → Stepped version links groups all requests callers caller op openings
plain-step version links groups all requests rest callers caller op openings fields s later is keeps reads = record {
  after = requests;
  rest = rest;
  stands = record { keeps = subst (λ (cs : List CallerEntry). KeepSoFar (parts_with version links groups requests cs 0 0)) (added-last op callers caller) keeps; same = s.same; stand = s.stand; named = s.named; few = s.few };
  left = later;
  reads = subst (λ (lines : List (List (List ℕ))). Reads lines (front version links groups requests (callers ++ caller ∷ [])) (front version links groups requests (callers ++ with_its_op op caller ∷ []))) (sym (ap lines_if is))
      (subst (λ (cs : List CallerEntry). Reads (fields ∷ []) (front version links groups requests (callers ++ caller ∷ [])) (front version links groups requests cs)) (added-last op callers caller) reads);
}

-- the load with one operation more, of what was read
load-so-far : (version : Version) (links : List LinkEntry) (groups : List (List ℕ)) (all requests rest : List RequestEntry) (callers : List CallerEntry) (caller : CallerEntry) (op : Op) → Stands version links groups all requests rest callers caller
    → load_in all (callers ++ caller ∷ []) + load_of all (loads_in (callers ++ caller ∷ [])) op ≤ 262144 → load_in requests (callers ++ caller ∷ []) + load_of requests (loads_in (callers ++ caller ∷ [])) op ≤ 262144
load-so-far version links groups all requests rest callers caller op s load =
    let loads = loads_in (callers ++ caller ∷ []) in
    let whole : load_in (requests ++ rest) (callers ++ caller ∷ []) + load_of (requests ++ rest) loads op ≤ 262144 = subst (λ (es : List RequestEntry). load_in es (callers ++ caller ∷ []) + load_of es loads op ≤ 262144) s.same load in
    let one = load-less requests rest loads op in
    let others = ops-less requests rest [] (ops_over (callers ++ caller ∷ [])) in
    omega (arith, whole, one, others)

-- what the operations of the last caller are not to a channel
in-last : (what : Role) (callers : List CallerEntry) (caller : CallerEntry) (c : ℕ) → list_any (is_in what c) caller.ops ≡ false → list_any (is_in what c) (last_ops (callers ++ caller ∷ [])) ≡ false
in-last what callers caller c none = ap (list_any (is_in what c)) (last-of callers caller) ∙ none

-- a request may be joined that was neither used nor joined
joins-here : (said : Said) (old new : ChanNo) (from to : RequestEntry) → old ≡ from.request.chan → new ≡ to.request.chan → may_move said.links (Some from) (Some to) ≡ true → not (nat_eq (channel_number old) (channel_number new)) ≡ true → is_used said new ≡ false → is_joined_to said new ≡ false → may_join said (Some from) (Some to) ≡ true
joins-here said old new from to is onto may apart unused unjoined =
    let other : not (nat_eq (channel_number from.request.chan) (channel_number to.request.chan)) ≡ true = subst (λ (c : ChanNo). not (nat_eq (channel_number c) (channel_number to.request.chan)) ≡ true) is (subst (λ (c : ChanNo). not (nat_eq (channel_number old) (channel_number c)) ≡ true) onto apart) in
    let plain : not (is_used said to.request.chan) ≡ true = not_from_false (is_used said to.request.chan) (subst (λ (c : ChanNo). is_used said c ≡ false) onto unused) in
    let single : not (is_joined_to said to.request.chan) ≡ true = not_from_false (is_joined_to said to.request.chan) (subst (λ (c : ChanNo). is_joined_to said c ≡ false) onto unjoined) in
    and_from (may_move said.links (Some from) (Some to) && not (nat_eq (channel_number from.request.chan) (channel_number to.request.chan)) && not (is_used said to.request.chan)) (not (is_joined_to said to.request.chan))
    (and_from (may_move said.links (Some from) (Some to) && not (nat_eq (channel_number from.request.chan) (channel_number to.request.chan))) (not (is_used said to.request.chan))
    (and_from (may_move said.links (Some from) (Some to)) (not (nat_eq (channel_number from.request.chan) (channel_number to.request.chan))) may other) plain) single

send-step : (version : Version) (links : List LinkEntry) (groups : List (List ℕ)) (all requests rest : List RequestEntry) (callers : List CallerEntry) (caller : CallerEntry) (chan : ChanNo) (count gap size : ℕ) (openings : List Opening)
    → Stands version links groups all requests rest callers caller → IsNextOp version links groups all callers caller (Send chan count gap size) → openings ≡ map opening_of rest → Stepped version links groups all requests callers caller (Send chan count gap size) openings
send-step version links groups all requests rest callers caller chan count gap size openings s is later =
    let parts = parts_with version links groups requests (callers ++ caller ∷ []) 0 0 in
    let ours = is-ours version links groups all requests rest callers caller chan s (after-has role.Uses role.Opens caller.ops (Send chan count gap size) (channel_number chan) refl is.opened) (apart-none role.Uses role.Closes caller.ops (Send chan count gap size) (channel_number chan) refl is.unclosed) in
    let unleft = in-last role.Leaves callers caller (channel_number chan) (apart-none role.Keeps role.Leaves caller.ops (Send chan count gap size) (channel_number chan) refl is.unleft) in
    let are = are-packets count gap size is.sound.range in
    let load = load-so-far version links groups all requests rest callers caller (Send chan count gap size) s is.load in
    let here : load_in requests (callers ++ caller ∷ []) + count * hops_of (Some ours.entry) ≤ 262144 = subst (λ (found : Option RequestEntry). load_in requests (callers ++ caller ∷ []) + count * hops_of found ≤ 262144) ours.found load in
    plain-step version links groups all requests rest callers caller (Send chan count gap size) openings (send_fields count gap size ours.entry) s later (ap (option_map (send_fields count gap size)) ours.among_all)
    (send-keeps parts chan count gap size s.keeps (record { channel = ours.there; unleft = unleft; range = is.sound.range; load = load }))
    (send-read version links groups requests (callers ++ caller ∷ []) chan count gap size ours.entry (some-callers callers caller) ours.here unleft are here)

close-step : (version : Version) (links : List LinkEntry) (groups : List (List ℕ)) (all requests rest : List RequestEntry) (callers : List CallerEntry) (caller : CallerEntry) (chan : ChanNo) (openings : List Opening)
    → Stands version links groups all requests rest callers caller → IsNextOp version links groups all callers caller (Close chan) → openings ≡ map opening_of rest → Stepped version links groups all requests callers caller (Close chan) openings
close-step version links groups all requests rest callers caller chan openings s is later =
    let parts = parts_with version links groups requests (callers ++ caller ∷ []) 0 0 in
    let ours = is-ours version links groups all requests rest callers caller chan s (after-has role.Uses role.Opens caller.ops (Close chan) (channel_number chan) refl is.opened) (apart-none role.Uses role.Closes caller.ops (Close chan) (channel_number chan) refl is.unclosed) in
    plain-step version links groups all requests rest callers caller (Close chan) openings (close_fields ours.entry) s later (ap (option_map close_fields) ours.among_all)
    (close-keeps parts chan s.keeps ours.there)
    (close-read version links groups requests (callers ++ caller ∷ []) chan ours.entry (some-callers callers caller) ours.here)

-- a move between two requests of the caller
move-step : (version : Version) (links : List LinkEntry) (groups : List (List ℕ)) (all requests rest : List RequestEntry) (callers : List CallerEntry) (caller : CallerEntry) (old new : ChanNo) (openings : List Opening)
    → Stands version links groups all requests rest callers caller → IsNextOp version links groups all callers caller (Move old new) → openings ≡ map opening_of rest → Stepped version links groups all requests callers caller (Move old new) openings
move-step version links groups all requests rest callers caller old new openings s is later =
    let parts = parts_with version links groups requests (callers ++ caller ∷ []) 0 0 in
    let op = Move old new in
    let unused = apart-none role.Joins role.Uses caller.ops (Move old new) (channel_number new) refl is.unused in
    let ours = is-ours version links groups all requests rest callers caller old s (after-has role.Uses role.Opens caller.ops (Move old new) (channel_number old) refl is.opened) (apart-none role.Uses role.Closes caller.ops (Move old new) (channel_number old) refl is.unclosed) in
    let onto = is-ours version links groups all requests rest callers caller new s (after-has role.Joins role.Opens caller.ops (Move old new) (channel_number new) refl is.onto_opened) (use-of role.Closes (channel_number new) caller.ops (closing-uses (channel_number new)) unused) in
    let unleft = in-last role.Leaves callers caller (channel_number old) (apart-none role.Keeps role.Leaves caller.ops (Move old new) (channel_number old) refl is.unleft) in
    let last_unused = in-last role.Uses callers caller (channel_number new) unused in
    let last_unjoined = in-last role.Joins callers caller (channel_number new) (apart-none role.Joins role.Joins caller.ops (Move old new) (channel_number new) refl is.unjoined) in
    let load = load-so-far version links groups all requests rest callers caller (Move old new) s is.load in
    let loads = loads_in (callers ++ caller ∷ []) in
    let here : load_in requests (callers ++ caller ∷ []) + load_at loads old * hops_of (Some onto.entry) ≤ 262144 = subst (λ (found : Option RequestEntry). load_in requests (callers ++ caller ∷ []) + load_at loads old * hops_of found ≤ 262144) onto.found load in
    let fits = and_parts (may_move links (slice_get all (channel_number old)) (slice_get all (channel_number new))) (not (nat_eq (channel_number old) (channel_number new))) is.fit in
    let may : may_move links (Some ours.entry) (Some onto.entry) ≡ true = ap (λ (found : Option RequestEntry). may_move links found (Some onto.entry)) (sym ours.among_all) ∙ ap (may_move links (slice_get all (channel_number old))) (sym onto.among_all) ∙ fits.0 in
    let fit : move_is_fit links requests (Move old new) ≡ true =
    ap (λ (found : Option RequestEntry). may_move links found (slice_get requests (channel_number new)) && not (nat_eq (channel_number old) (channel_number new))) ours.found ∙ ap (λ (found : Option RequestEntry). may_move links (Some ours.entry) found && not (nat_eq (channel_number old) (channel_number new))) onto.found
    ∙ and_from (may_move links (Some ours.entry) (Some onto.entry)) (not (nat_eq (channel_number old) (channel_number new))) may fits.1 in
    let said = front version links groups requests (callers ++ caller ∷ []) in
    let joins = joins-here said old new ours.entry onto.entry ours.here.same onto.here.same may fits.1 last_unused last_unjoined in
    plain-step version links groups all requests rest callers caller (Move old new) openings (move_fields ours.entry onto.entry) s later
    (ap (λ (found : Option RequestEntry). fields_between found (slice_get all (channel_number new))) ours.among_all ∙ ap (fields_between (Some ours.entry)) onto.among_all)
    (move-keeps parts old new s.keeps (record { version = is.sound.kept; channel = ours.there; unleft = unleft; joined = onto.there.opened; fit = fit; unused = last_unused; unjoined = last_unjoined; load = load }))
    (move-read version links groups requests (callers ++ caller ∷ []) old new ours.entry onto.entry (some-callers callers caller) is.sound.kept ours.here unleft onto.here joins here)

pour-step : (version : Version) (links : List LinkEntry) (groups : List (List ℕ)) (all requests rest : List RequestEntry) (callers : List CallerEntry) (caller : CallerEntry) (link : LinkNo) (count gap size : ℕ) (openings : List Opening) → LinksStand links
    → Stands version links groups all requests rest callers caller → IsNextOp version links groups all callers caller (Pour link count gap size) → openings ≡ map opening_of rest → Stepped version links groups all requests callers caller (Pour link count gap size) openings
pour-step version links groups all requests rest callers caller link count gap size openings stand s is later =
    let parts = parts_with version links groups requests (callers ++ caller ∷ []) 0 0 in
    let at = is-there links link stand is.sound.there in
    let are = are-packets count gap size is.sound.range in
    let load = load-so-far version links groups all requests rest callers caller (Pour link count gap size) s is.load in
    plain-step version links groups all requests rest callers caller (Pour link count gap size) openings (pour_fields count gap size at.entry) s later (ap (option_map (pour_fields count gap size)) at.found)
    (pour-keeps parts link count gap size s.keeps (record { some = some-callers callers caller; version = is.sound.kept; there = is.sound.there; range = is.sound.range; load = load; taken = is.sound.taken }))
    (pour-read version links groups requests (callers ++ caller ∷ []) link count gap size at.entry (some-callers callers caller) is.sound.kept
    (record { name = at.name; place = at.place; at = at.at; same = at.same; taken = ap takes_best_effort (sym at.found) ∙ is.sound.taken }) are load)

-- the next request is that of the open
open-step : (version : Version) (links : List LinkEntry) (groups : List (List ℕ)) (all requests rest : List RequestEntry) (callers : List CallerEntry) (caller : CallerEntry) (chan : ChanNo) (openings : List Opening) → LinksStand links
    → Stands version links groups all requests rest callers caller → record { caller = length callers; chan = channel_number chan } ∷ openings ≡ map opening_of rest → Stepped version links groups all requests callers caller (Open chan) openings
unfolding each_after
open-step version links groups all requests [] callers caller chan openings stand s later = cc
open-step version links groups all requests (entry ∷ rest) callers caller chan openings stand s later =
    let parts = parts_with version links groups requests (callers ++ caller ∷ []) 0 0 in
    let first : record { caller = length callers; chan = channel_number chan } ≡ opening_of entry = cc in
    let others : openings ≡ map opening_of rest = cc in
    let by : actor_number entry.caller ≡ length callers = sym (ap (λ (o : Opening). o.caller) first) in
    let chan_is : channel_number chan ≡ channel_number entry.request.chan = ap (λ (o : Opening). o.chan) first in
    let same = same-channel chan entry.request.chan chan_is in
    let number : channel_number entry.request.chan ≡ length requests = s.stand.numbers 0 entry refl ∙ omega arith in
    let sound = s.stand.sound.0 in
    let longer = length-more callers caller in
    let new = new-first requests entry rest s.stand.new in
    let few : length requests < 1024 = (let all_few = s.stand.few in omega (arith, all_few)) in
    let keeps = open-keeps parts entry s.keeps (record {
      version = sound.kept;
      name = new;
      few = few;
      number = number;
      caller = omega (arith, by, longer);
      there = sound.there;
      joined = sound.joined;
      range = sound.range;
      hops = sound.hops;
      terms = sound.terms;
    }) in
    let reads = open-read version links groups requests (callers ++ caller ∷ []) entry (some-callers callers caller) (record {
      kept = sound.kept;
      nodes = sound.nodes;
      found = sound.found;
      numbered = record { number = stand.numbers };
      few_links = (few-in (parts_with version links groups requests (callers ++ caller ∷ []) 0 0) s.keeps.few).links;
      name = sound.name;
      new = not-true (list_any (is_named entry.name) (request_names requests)) new;
      few = few;
      number = number;
      caller = omega (arith, by, longer);
      callers = (let before = s.few in omega (arith, before, longer));
      hops = hops-here links entry.request.route stand sound.there sound.hops;
      route = sound.terms.route;
      joined = sound.joined;
      contract = sound.terms.contract;
      range = sound.range;
    }) in
    let to : add_op (Open entry.request.chan) (callers ++ caller ∷ []) ≡ callers ++ with_its_op (Open chan) caller ∷ [] =
    ap (λ (c : ChanNo). add_op (Open c) (callers ++ caller ∷ [])) (sym same) ∙ added-last (Open chan) callers caller in
    let found : slice_get all (channel_number chan) ≡ Some entry = ap (λ (es : List RequestEntry). slice_get es (channel_number chan)) s.same ∙ at-seam requests entry rest (channel_number chan) (chan_is ∙ number) in
    record {
      after = requests ++ entry ∷ [];
      rest = rest;
      stands = record {
        keeps = subst (λ (cs : List CallerEntry). KeepSoFar (parts_with version links groups (requests ++ entry ∷ []) cs 0 0)) to keeps;
        same = s.same ∙ sym (append_assoc requests (entry ∷ []) rest);
        stand = rest-next version links requests entry rest s.stand;
        named = Each-append (λ (e : RequestEntry). is_name e.name ≡ true) requests (entry ∷ []) s.named (sound.name, tt);
        few = s.few;
      };
      left = others;
      reads = subst (λ (lines : List (List (List ℕ))). Reads lines (front version links groups requests (callers ++ caller ∷ [])) (front version links groups (requests ++ entry ∷ []) (callers ++ with_its_op (Open chan) caller ∷ []))) (sym (ap (λ (e : Option RequestEntry). lines_if (option_map (open_fields links) e)) found))
          (subst (λ (cs : List CallerEntry). Reads (open_fields links entry ∷ []) (front version links groups requests (callers ++ caller ∷ [])) (front version links groups (requests ++ entry ∷ []) cs)) to reads);
    }
  where
    new-first : (es : List RequestEntry) (e : RequestEntry) (after_it : List RequestEntry) → each_after is_new (request_names es) (request_names (e ∷ after_it)) ≡ true → is_new (request_names es) e.name ≡ true
    new-first es e after_it each = (and_parts (is_new (request_names es) e.name) (each_after is_new (request_names es ++ e.name ∷ []) (request_names after_it)) each).0

-- any operation
pub op-step : (version : Version) (links : List LinkEntry) (groups : List (List ℕ)) (all requests rest : List RequestEntry) (callers : List CallerEntry) (caller : CallerEntry) (op : Op) (openings : List Opening) → LinksStand links
    → Stands version links groups all requests rest callers caller → IsNextOp version links groups all callers caller op → opened_by (length callers) op ++ openings ≡ map opening_of rest → Stepped version links groups all requests callers caller op openings
op-step version links groups all requests rest callers caller (Open chan) openings stand s is later = open-step version links groups all requests rest callers caller chan openings stand s later
op-step version links groups all requests rest callers caller (Send chan count gap size) openings stand s is later = send-step version links groups all requests rest callers caller chan count gap size openings s is later
op-step version links groups all requests rest callers caller (Close chan) openings stand s is later = close-step version links groups all requests rest callers caller chan openings s is later
op-step version links groups all requests rest callers caller (Move old new) openings stand s is later = move-step version links groups all requests rest callers caller old new openings s is later
op-step version links groups all requests rest callers caller (Pour link count gap size) openings stand s is later = pour-step version links groups all requests rest callers caller link count gap size openings stand s is later
