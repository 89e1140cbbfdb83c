-- The lines of a plan are read, one after another, to the plan.
use Rattle.std.proofs.Common.{◌≡◌, ℕ, suc, ◌+◌, ◌<◌, ◌≤◌, true, List, [], ◌∷◌, ◌++◌, length, map, flat_map, Some, refl, sym, ◌∙◌, ap, subst, append_assoc, arith}
use Rattle.std.proofs.lemmas.Bool.{and_parts, not-true}
use Rattle.std.proofs.lemmas.List.{append-nil, map-append}
use Rattle.std.specs.List.{slice_get, list_all}
use Rattle.net_units.specs.Numbers.{link_number}
use Rattle.net_units.specs.Text.{is_name}
use Rattle.link_steps.specs.Lists.{Each}
use Rattle.call_script.specs.Groups.{group_has_version, group_is_there}
use Rattle.call_script.specs.Growing.{new_caller, with_its_op, KeepSoFar}
use Rattle.call_script.specs.Parts.{parts_with, Opening, opened_by, openings_in, openings_of, opening_of}
use Rattle.call_script.specs.Rules.{each_after, is_new, link_names, caller_names, link_has_version, is_after, is_apart, move_is_fit, load_of, load_in, loads_after, loads_in, loads_with, ops_load, ops_over}
use Rattle.call_script.specs.declared.entries.CallerEntry.{CallerEntry}
use Rattle.call_script.specs.declared.entries.LinkEntry.{LinkEntry}
use Rattle.call_script.specs.declared.entries.RequestEntry.{RequestEntry}
use Rattle.call_script.specs.declared.operations.Op.{Op}
use Rattle.call_script.specs.declared.roles.Role.TheVariants as role
use Rattle.call_script.specs.declared.version.Version.{Version}
use Rattle.call_script.proofs.ScriptLoads.{load-append, load-push, loads-append, loads-push, over-push, new-over}
use Rattle.call_script.proofs.Growing.{caller-keeps, length-more}
use Rattle.scenario_reader.specs.BothWays.{HasNames}
use Rattle.scenario_reader.specs.line.Link.{link_fields}
use Rattle.scenario_reader.specs.line.Operation.{op_lines}
use Rattle.scenario_reader.specs.line.Caller.{caller_fields}
use Rattle.scenario_reader.specs.PlanText.{caller_lines}
use Rattle.scenario_reader.proofs.kind.Group.{GroupsStand}
use Rattle.scenario_reader.proofs.Back.SaysBack.{front}
use Rattle.scenario_reader.proofs.kind.Link.{link-read}
use Rattle.scenario_reader.proofs.kind.Caller.{caller-read}
use Rattle.scenario_reader.proofs.Back.SaysBack.{Reads, reads-none, reads-on}
use Rattle.scenario_reader.proofs.Back.WalkBack.{LinksStand, RestStands, Stands, OpSound, op-step}

-- ---- links

-- the links that are left
pub record LinksLeft (version : Version) (links rest : List LinkEntry) : Type 0 where
  pub named : Each HasNames rest
  pub kept : list_all (link_has_version version) rest ≡ true
  pub new : each_after is_new (link_names links) (link_names rest) ≡ true
  pub few : length links + length rest ≤ 32
  pub numbers : (k : ℕ) (entry : LinkEntry) → slice_get rest k ≡ Some entry → link_number entry.shape.link ≡ length links + k
  pub unsplit : Each (λ (entry : LinkEntry). entry.quotas ≡ []) rest

pub links-read : (version : Version) (links rest : List LinkEntry) → LinksLeft version links rest → Reads (map link_fields rest) (front version links [] [] []) (front version (links ++ rest) [] [] [])
unfolding each_after
links-read version links [] left = subst (λ (ls : List LinkEntry). Reads [] (front version links [] [] []) (front version ls [] [] [])) (sym (append-nil links)) (reads-none (front version links [] [] []))
links-read version links (entry ∷ rest) left =
    let kept = and_parts (link_has_version version entry) (list_all (link_has_version version) rest) left.kept in
    let new = and_parts (is_new (link_names links) entry.name) (each_after is_new (link_names links ++ entry.name ∷ []) (link_names rest)) left.new in
    let few : length links < 32 = (let all = left.few in omega (arith, all)) in
    let number : link_number entry.shape.link ≡ length links = left.numbers 0 entry refl ∙ omega arith in
    let longer = length-more links entry in
    let one = link-read version links entry (record { named = left.named.0; kept = kept.0; new = not-true _ new.0; few = few; number = number; unsplit = left.unsplit.0 }) in
    let others = links-read version (links ++ entry ∷ []) rest (record {
      named = left.named.1;
      kept = kept.1;
      new = subst (λ (names : List (List ℕ)). each_after is_new names (link_names rest) ≡ true) (sym (map-append (λ (e : LinkEntry). e.name) links (entry ∷ []))) new.1;
      few = (let all = left.few in omega (arith, all, longer));
      numbers = λ k e found. left.numbers (suc k) e found ∙ omega (arith, longer);
      unsplit = left.unsplit.1;
    }) in
    subst (λ (ls : List LinkEntry). Reads (map link_fields (entry ∷ rest)) (front version links [] [] []) (front version ls [] [] [])) (append_assoc links (entry ∷ []) rest)
    (reads-on (link_fields entry ∷ []) (map link_fields rest) (front version links [] [] []) (front version (links ++ entry ∷ []) [] [] []) (front version ((links ++ entry ∷ []) ++ rest) [] [] []) one others)

-- ---- the operations of a caller

abbrev with_ops : CallerEntry → List Op → CallerEntry
with_ops caller ops = record { name = caller.name; group = caller.group; ops = caller.ops ++ ops }

pub record OpsLeft (version : Version) (links : List LinkEntry) (groups : List (List ℕ)) (all : List RequestEntry) (callers : List CallerEntry) (caller : CallerEntry) (ops : List Op) (later : ℕ) : Type 0 where
  pub sound : Each (OpSound version links) ops
  pub opened : each_after (is_after role.Uses role.Opens) caller.ops ops ≡ true
  pub onto_opened : each_after (is_after role.Joins role.Opens) caller.ops ops ≡ true
  pub unclosed : each_after (is_apart role.Uses role.Closes) caller.ops ops ≡ true
  pub unleft : each_after (is_apart role.Keeps role.Leaves) caller.ops ops ≡ true
  pub unused : each_after (is_apart role.Joins role.Uses) caller.ops ops ≡ true
  pub unjoined : each_after (is_apart role.Joins role.Joins) caller.ops ops ≡ true
  pub fit : list_all (move_is_fit links all) ops ≡ true
  pub load : load_in all (callers ++ caller ∷ []) + ops_load all (loads_in (callers ++ caller ∷ [])) ops + later ≤ 262144

pub record OpsRead (version : Version) (links : List LinkEntry) (groups : List (List ℕ)) (all requests : List RequestEntry) (callers : List CallerEntry) (caller : CallerEntry) (ops : List Op) (following : List Opening) : Type 0 where
  pub after : List RequestEntry
  pub rest : List RequestEntry
  pub stands : Stands version links groups all after rest callers (with_ops caller ops)
  pub left : following ≡ map opening_of rest
  pub reads : Reads (flat_map (op_lines links all) ops) (front version links groups requests (callers ++ caller ∷ [])) (front version links groups after (callers ++ with_ops caller ops ∷ []))

same-caller : (caller : CallerEntry) → caller ≡ with_ops caller []
same-caller caller = ap (λ (ops : List Op). record { name = caller.name; group = caller.group; ops = ops }) (sym (append-nil caller.ops))

step-caller : (caller : CallerEntry) (op : Op) (ops : List Op) → with_ops (with_its_op op caller) ops ≡ with_ops caller (op ∷ ops)
step-caller caller op ops = ap (λ (all : List Op). record { name = caller.name; group = caller.group; ops = all }) (append_assoc caller.ops (op ∷ []) ops)

-- the load with an operation more, and what the requests have to carry
over-step : (callers : List CallerEntry) (caller : CallerEntry) (op : Op) → ops_over (callers ++ with_its_op op caller ∷ []) ≡ ops_over (callers ++ caller ∷ []) ++ op ∷ []
over-step callers caller op = over-push callers (with_its_op op caller) ∙ sym (append_assoc (ops_over callers) caller.ops (op ∷ [])) ∙ ap (λ ops. ops ++ op ∷ []) (sym (over-push callers caller))

load-step : (all : List RequestEntry) (callers : List CallerEntry) (caller : CallerEntry) (op : Op) → load_in all (callers ++ with_its_op op caller ∷ []) ≡ load_in all (callers ++ caller ∷ []) + load_of all (loads_in (callers ++ caller ∷ [])) op
load-step all callers caller op = ap (ops_load all []) (over-step callers caller op) ∙ load-push all [] (ops_over (callers ++ caller ∷ [])) op

loads-step : (callers : List CallerEntry) (caller : CallerEntry) (op : Op) → loads_in (callers ++ with_its_op op caller ∷ []) ≡ loads_with (loads_in (callers ++ caller ∷ [])) op
loads-step callers caller op = ap (loads_after []) (over-step callers caller op) ∙ loads-push [] (ops_over (callers ++ caller ∷ [])) op

ops-read : (version : Version) (links : List LinkEntry) (groups : List (List ℕ)) (all requests rest : List RequestEntry) (callers : List CallerEntry) (caller : CallerEntry) (ops : List Op) (later : ℕ) (following : List Opening) → LinksStand links
    → Stands version links groups all requests rest callers caller → OpsLeft version links groups all callers caller ops later → openings_in (length callers) ops ++ following ≡ map opening_of rest → OpsRead version links groups all requests callers caller ops following
unfolding each_after openings_in ops_load
ops-read version links groups all requests rest callers caller [] later following stand s left is = record {
  after = requests;
  rest = rest;
  stands = subst (λ (c : CallerEntry). Stands version links groups all requests rest callers c) (same-caller caller) s;
  left = is;
  reads = subst (λ (c : CallerEntry). Reads [] (front version links groups requests (callers ++ caller ∷ [])) (front version links groups requests (callers ++ c ∷ []))) (same-caller caller) (reads-none (front version links groups requests (callers ++ caller ∷ [])));
}
ops-read version links groups all requests rest callers caller (op ∷ ops) later following stand s left is =
    let opened = and_parts (is_after role.Uses role.Opens caller.ops op) (each_after (is_after role.Uses role.Opens) (caller.ops ++ op ∷ []) ops) left.opened in
    let onto_opened = and_parts (is_after role.Joins role.Opens caller.ops op) (each_after (is_after role.Joins role.Opens) (caller.ops ++ op ∷ []) ops) left.onto_opened in
    let unclosed = and_parts (is_apart role.Uses role.Closes caller.ops op) (each_after (is_apart role.Uses role.Closes) (caller.ops ++ op ∷ []) ops) left.unclosed in
    let unleft = and_parts (is_apart role.Keeps role.Leaves caller.ops op) (each_after (is_apart role.Keeps role.Leaves) (caller.ops ++ op ∷ []) ops) left.unleft in
    let unused = and_parts (is_apart role.Joins role.Uses caller.ops op) (each_after (is_apart role.Joins role.Uses) (caller.ops ++ op ∷ []) ops) left.unused in
    let unjoined = and_parts (is_apart role.Joins role.Joins caller.ops op) (each_after (is_apart role.Joins role.Joins) (caller.ops ++ op ∷ []) ops) left.unjoined in
    let fit = and_parts (move_is_fit links all op) (list_all (move_is_fit links all) ops) left.fit in
    let load = left.load in
    let step = op-step version links groups all requests rest callers caller op (openings_in (length callers) ops ++ following) stand s
    (record { sound = left.sound.0; opened = opened.0; onto_opened = onto_opened.0; unclosed = unclosed.0; unleft = unleft.0; unused = unused.0; unjoined = unjoined.0; fit = fit.0; load = omega (arith, load) })
    (sym (append_assoc (opened_by (length callers) op) (openings_in (length callers) ops) following) ∙ is) in
    let more = load-step all callers caller op in
    let carried = ap (λ (loads : List ℕ). ops_load all loads ops) (loads-step callers caller op) in
    let others = ops-read version links groups all step.after step.rest callers (with_its_op op caller) ops later following stand step.stands
    (record { sound = left.sound.1; opened = opened.1; onto_opened = onto_opened.1; unclosed = unclosed.1; unleft = unleft.1; unused = unused.1; unjoined = unjoined.1; fit = fit.1; load = omega (arith, load, more, carried) }) step.left in
    record {
      after = others.after;
      rest = others.rest;
      stands = subst (λ (c : CallerEntry). Stands version links groups all others.after others.rest callers c) (step-caller caller op ops) others.stands;
      left = others.left;
      reads = subst (λ (c : CallerEntry). Reads (flat_map (op_lines links all) (op ∷ ops)) (front version links groups requests (callers ++ caller ∷ [])) (front version links groups others.after (callers ++ c ∷ []))) (step-caller caller op ops)
          (reads-on (op_lines links all op) (flat_map (op_lines links all) ops) (front version links groups requests (callers ++ caller ∷ [])) (front version links groups step.after (callers ++ with_its_op op caller ∷ []))
          (front version links groups others.after (callers ++ with_ops (with_its_op op caller) ops ∷ [])) step.reads others.reads);
    }

-- ---- the callers

pub record CallersLeft (version : Version) (links : List LinkEntry) (groups : List (List ℕ)) (all : List RequestEntry) (callers left : List CallerEntry) : Type 0 where
  pub named : Each (λ (caller : CallerEntry). is_name caller.name ≡ true) left
  pub new : each_after is_new (caller_names callers) (caller_names left) ≡ true
  pub few : length callers + length left ≤ 64
  pub kept : list_all (λ (caller : CallerEntry). group_has_version version caller.group) left ≡ true
  pub there : list_all (λ (caller : CallerEntry). group_is_there groups caller.group) left ≡ true
  pub sound : Each (λ (caller : CallerEntry). Each (OpSound version links) caller.ops) left
  pub opened : list_all (λ (caller : CallerEntry). each_after (is_after role.Uses role.Opens) [] caller.ops) left ≡ true
  pub onto_opened : list_all (λ (caller : CallerEntry). each_after (is_after role.Joins role.Opens) [] caller.ops) left ≡ true
  pub unclosed : list_all (λ (caller : CallerEntry). each_after (is_apart role.Uses role.Closes) [] caller.ops) left ≡ true
  pub unleft : list_all (λ (caller : CallerEntry). each_after (is_apart role.Keeps role.Leaves) [] caller.ops) left ≡ true
  pub unused : list_all (λ (caller : CallerEntry). each_after (is_apart role.Joins role.Uses) [] caller.ops) left ≡ true
  pub unjoined : list_all (λ (caller : CallerEntry). each_after (is_apart role.Joins role.Joins) [] caller.ops) left ≡ true
  pub fit : list_all (λ (caller : CallerEntry). list_all (move_is_fit links all) caller.ops) left ≡ true
  pub load : load_in all callers + ops_load all (loads_in callers) (ops_over left) ≤ 262144

-- what was read of the requests
pub record RequestsStand (version : Version) (links : List LinkEntry) (groups : List (List ℕ)) (all requests rest : List RequestEntry) : Type 0 where
  pub same : all ≡ requests ++ rest
  pub stand : RestStands version links requests rest
  pub named : Each (λ (entry : RequestEntry). is_name entry.name ≡ true) requests

pub record CallersRead (version : Version) (links : List LinkEntry) (groups : List (List ℕ)) (all requests : List RequestEntry) (callers left : List CallerEntry) : Type 0 where
  pub keeps : KeepSoFar (parts_with version links groups all (callers ++ left) 0 0)
  pub reads : Reads (flat_map (caller_lines links groups all) left) (front version links groups requests callers) (front version links groups all (callers ++ left))

load-new : (all : List RequestEntry) (callers : List CallerEntry) (name : List ℕ) (group : ℕ) → load_in all (callers ++ new_caller name group ∷ []) ≡ load_in all callers
load-new all callers name group = ap (ops_load all []) (new-over name group callers)

load-both : (all : List RequestEntry) (callers : List CallerEntry) (caller : CallerEntry) → load_in all (callers ++ caller ∷ []) ≡ load_in all callers + ops_load all (loads_in callers) caller.ops
load-both all callers caller = ap (ops_load all []) (over-push callers caller) ∙ load-append all [] (ops_over callers) caller.ops

loads-both : (callers : List CallerEntry) (caller : CallerEntry) → loads_in (callers ++ caller ∷ []) ≡ loads_after (loads_in callers) caller.ops
loads-both callers caller = ap (loads_after []) (over-push callers caller) ∙ loads-append [] (ops_over callers) caller.ops

pub callers-read : (version : Version) (links : List LinkEntry) (groups : List (List ℕ)) (all requests rest : List RequestEntry) (callers left : List CallerEntry) → LinksStand links → GroupsStand groups → KeepSoFar (parts_with version links groups requests callers 0 0) → RequestsStand version links groups all requests rest
    → CallersLeft version links groups all callers left → openings_of (length callers) left ≡ map opening_of rest → CallersRead version links groups all requests callers left
unfolding each_after openings_of ops_over
callers-read version links groups all requests [] callers [] stand gs keeps rs cs is =
    let whole : requests ≡ all = sym (append-nil requests) ∙ sym rs.same in
    record {
      keeps = subst (λ (all_callers : List CallerEntry). KeepSoFar (parts_with version links groups all all_callers 0 0)) (sym (append-nil callers)) (subst (λ (es : List RequestEntry). KeepSoFar (parts_with version links groups es callers 0 0)) whole keeps);
      reads = subst (λ (all_callers : List CallerEntry). Reads [] (front version links groups requests callers) (front version links groups all all_callers)) (sym (append-nil callers))
          (subst (λ (es : List RequestEntry). Reads [] (front version links groups requests callers) (front version links groups es callers)) whole (reads-none (front version links groups requests callers)));
    }
callers-read version links groups all requests (entry ∷ rest) callers [] stand gs keeps rs cs is = cc
callers-read version links groups all requests rest callers (caller ∷ left) stand gs keeps rs cs is =
    let begun = new_caller caller.name caller.group in
    let kept = and_parts (group_has_version version caller.group) (list_all (λ (c : CallerEntry). group_has_version version c.group) left) cs.kept in
    let there = and_parts (group_is_there groups caller.group) (list_all (λ (c : CallerEntry). group_is_there groups c.group) left) cs.there in
    let new = and_parts (is_new (caller_names callers) caller.name) (each_after is_new (caller_names callers ++ caller.name ∷ []) (caller_names left)) cs.new in
    let all_few = cs.few in
    let few : length callers < 64 = omega (arith, all_few) in
    let opened = and_parts (each_after (is_after role.Uses role.Opens) [] caller.ops) (list_all (λ (c : CallerEntry). each_after (is_after role.Uses role.Opens) [] c.ops) left) cs.opened in
    let onto_opened = and_parts (each_after (is_after role.Joins role.Opens) [] caller.ops) (list_all (λ (c : CallerEntry). each_after (is_after role.Joins role.Opens) [] c.ops) left) cs.onto_opened in
    let unclosed = and_parts (each_after (is_apart role.Uses role.Closes) [] caller.ops) (list_all (λ (c : CallerEntry). each_after (is_apart role.Uses role.Closes) [] c.ops) left) cs.unclosed in
    let unleft = and_parts (each_after (is_apart role.Keeps role.Leaves) [] caller.ops) (list_all (λ (c : CallerEntry). each_after (is_apart role.Keeps role.Leaves) [] c.ops) left) cs.unleft in
    let unused = and_parts (each_after (is_apart role.Joins role.Uses) [] caller.ops) (list_all (λ (c : CallerEntry). each_after (is_apart role.Joins role.Uses) [] c.ops) left) cs.unused in
    let unjoined = and_parts (each_after (is_apart role.Joins role.Joins) [] caller.ops) (list_all (λ (c : CallerEntry). each_after (is_apart role.Joins role.Joins) [] c.ops) left) cs.unjoined in
    let fit = and_parts (list_all (move_is_fit links all) caller.ops) (list_all (λ (c : CallerEntry). list_all (move_is_fit links all) c.ops) left) cs.fit in
    let load = cs.load in
    let grown = caller-keeps (parts_with version links groups requests callers 0 0) caller.name caller.group keeps (record {
      new = new.0;
      few = few;
      version = kept.0;
      there = there.0;
    }) in
    let first = caller-read version links groups requests callers caller.name caller.group stand.some (record {
      named = cs.named.0;
      new = not-true _ new.0;
      few = few;
      member = record { kept = kept.0; there = there.0; stand = gs };
    }) in
    let empty = load-new all callers caller.name caller.group in
    let none = ap (loads_after []) (new-over caller.name caller.group callers) in
    let first_loads = ap (λ (loads : List ℕ). ops_load all loads caller.ops) none in
    let both = load-append all (loads_in callers) caller.ops (ops_over left) in
    let last = ops_load all (loads_after (loads_in callers) caller.ops) (ops_over left) in
    let ops = ops-read version links groups all requests rest callers begun caller.ops last (openings_of (suc (length callers)) left) stand
    (record { keeps = grown; same = rs.same; stand = rs.stand; named = rs.named; few = few })
    (record { sound = cs.sound.0; opened = opened.0; onto_opened = onto_opened.0; unclosed = unclosed.0; unleft = unleft.0; unused = unused.0; unjoined = unjoined.0; fit = fit.0; load = omega (arith, load, empty, first_loads, both) }) is in
    let longer = length-more callers caller in
    let more = load-both all callers caller in
    let after = ap (λ (loads : List ℕ). ops_load all loads (ops_over left)) (loads-both callers caller) in
    let others = callers-read version links groups all ops.after ops.rest (callers ++ caller ∷ []) left stand gs ops.stands.keeps (record { same = ops.stands.same; stand = ops.stands.stand; named = ops.stands.named })
    (record {
      named = cs.named.1;
      new = subst (λ (names : List (List ℕ)). each_after is_new names (caller_names left) ≡ true) (sym (map-append (λ (c : CallerEntry). c.name) callers (caller ∷ []))) new.1;
      few = omega (arith, all_few, longer);
      kept = kept.1;
      there = there.1;
      sound = cs.sound.1;
      opened = opened.1;
      onto_opened = onto_opened.1;
      unclosed = unclosed.1;
      unleft = unleft.1;
      unused = unused.1;
      unjoined = unjoined.1;
      fit = fit.1;
      load = omega (arith, load, more, after, both);
    })
    (ap (λ (n : ℕ). openings_of n left) longer ∙ ops.left) in
    record {
      keeps = subst (λ (all_callers : List CallerEntry). KeepSoFar (parts_with version links groups all all_callers 0 0)) (append_assoc callers (caller ∷ []) left) others.keeps;
      reads = subst (λ (all_callers : List CallerEntry). Reads (flat_map (caller_lines links groups all) (caller ∷ left)) (front version links groups requests callers) (front version links groups all all_callers)) (append_assoc callers (caller ∷ []) left)
          (reads-on (caller_lines links groups all caller) (flat_map (caller_lines links groups all) left) (front version links groups requests callers) (front version links groups ops.after (callers ++ caller ∷ [])) (front version links groups all ((callers ++ caller ∷ []) ++ left))
          (reads-on (caller_fields groups caller.name caller.group ∷ []) (flat_map (op_lines links all) caller.ops) (front version links groups requests callers) (front version links groups requests (callers ++ begun ∷ [])) (front version links groups ops.after (callers ++ caller ∷ [])) first ops.reads)
          others.reads);
    }
