-- The text of a plan is read as that plan and its schedule.
use Rattle.std.proofs.Common.{◌≡◌, ℕ, suc, ◌+◌, ◌*◌, ◌≤◌, Bool, true, List, [], ◌∷◌, ◌++◌, length, map, flat_map, refl, sym, ◌∙◌, ap, subst, arith}
use Rattle.std.specs.Prelude.{nat_eq, nat_le, ◌||◌, if◌then◌else◌}
use Rattle.std.proofs.lemmas.Bool.{and_parts, leb-true, ne_eqb}
use Rattle.std.proofs.lemmas.List.{length-map}
use Rattle.std.specs.List.{All, list_all}
use Rattle.net_units.specs.Text.{is_name}
use Rattle.link_steps.specs.Lists.{Each}
use Rattle.call_script.specs.Groups.{quotas_have_version, have_own_groups, quota_is_there, quota_in_range, quotas_fit}
use Rattle.call_script.specs.Growing.{KeepSoFar}
use Rattle.call_script.specs.Parts.{PlanParts, parts_with, openings_of, LeavesUnused}
use Rattle.call_script.specs.Versions.{has_groups}
use Rattle.call_script.specs.Plans.{HasTerms, IsPlan}
use Rattle.scenario_reader.specs.BothWays.{HasEightLoads, AreNodesNamed, IsFoundRoute, HaveFoundRoutes}
use Rattle.call_script.specs.Rules.{each_after, are_distinct, link_has_version, request_has_version, have_version, have_links, have_names, are_there, are_in_range, are_few, route_is_there, pour_is_there, op_has_version, op_in_range, request_in_range, is_joined, are_joined, are_unclosed, load_in, are_within_load, loads_after, loads_in, ops_load, ops_over, pour_is_taken, pours_are_taken, moves_are_fit}
use Rattle.call_script.specs.declared.entries.CallerEntry.{CallerEntry}
use Rattle.call_script.specs.declared.entries.LinkEntry.{LinkEntry}
use Rattle.call_script.specs.declared.entries.RequestEntry.{RequestEntry}
use Rattle.call_script.specs.declared.operations.Op.{Op}
use Rattle.call_script.specs.declared.schedule.Schedule.{Schedule}
use Rattle.call_script.specs.declared.version.Version.{Version}
use Rattle.link_steps.proofs.ListParts.{Each-at, Each-by_place}
use Rattle.call_script.proofs.Growing.{version-in, version-from, names-in, names-from, ranges-in, few-in, few-from}
use Rattle.call_script.proofs.RulesAreKept.{each-of, keeps-rules, used-in, unclosed-in, moves-in}
use Rattle.scenario_reader.specs.BothWays.{AreNamed, unnumbered, APlansTextIsRead, ATextIsOfOnePlan}
use Rattle.scenario_reader.specs.Drafts.{Said, nothing_said, is_complete, parts_said, schedule_said}
use Rattle.scenario_reader.specs.Kept.{IsScheduleOf}
use Rattle.scenario_reader.specs.line.Header.{header_fields}
use Rattle.scenario_reader.specs.line.Link.{link_fields}
use Rattle.scenario_reader.specs.line.Group.{group_fields}
use Rattle.scenario_reader.specs.line.Quota.{quota_lines}
use Rattle.scenario_reader.specs.PlanText.{caller_lines, plan_lines, plan_text}
use Rattle.scenario_reader.specs.line.Rounds.{rounds_fields, tail_fields}
use Rattle.scenario_reader.specs.line.Schedule.{schedule_lines}
use Rattle.scenario_reader.specs.Reading.{PlanRead, BadLine, reading_on, reading}
use Rattle.scenario_reader.specs.declared.cause.LineCause.TheVariants as cause
use Rattle.scenario_reader.specs.declared.item.Item.TheVariants as item
use Rattle.scenario_reader.specs.Drafts.{with_item}
use Rattle.scenario_reader.proofs.kind.Group.{GroupsStand}
use Rattle.scenario_reader.proofs.kind.Caller.{has-of}
use Rattle.scenario_reader.proofs.Back.LineText.{lines-of-text}
use Rattle.scenario_reader.proofs.Back.PlanBack.{links-read, callers-read}
use Rattle.scenario_reader.proofs.Back.SaysBack.{front, whole}
use Rattle.scenario_reader.proofs.kind.HeaderBack.{header-read}
use Rattle.scenario_reader.proofs.kind.Rounds.{rounds-read, tail-read}
use Rattle.scenario_reader.proofs.Back.SaysBack.{Reads, leads-reading, leads-lines}
use Rattle.scenario_reader.proofs.kind.Schedule.{SomeLead, then-some, IsWhole, schedule-back}
use Rattle.scenario_reader.proofs.Back.SplitBack.{bare, bare-names, bare-lines, bare-unsplit, bare-named, bare-kept, bare-numbers, bare-each, groups-read, QuotasLeft, shares-read}
use Rattle.scenario_reader.proofs.Back.WalkBack.{LinksStand, IsSound, OpSound}

-- ---- what a plan's rules say of its parts

record PlanSays (parts : PlanParts) : Type 0 where
  kept : list_all (link_has_version parts.version) parts.links ≡ true
  ops_kept : list_all (λ (c : CallerEntry). list_all (op_has_version parts.version) c.ops) parts.callers ≡ true
  some : 1 ≤ length parts.links
  joined : list_all (λ (e : RequestEntry). is_joined parts.links e.request.route) parts.requests ≡ true
  load : load_in parts.requests parts.callers ≤ 262144
  ticks : (parts.rounds + parts.tail) * length parts.links ≤ 524288
  taken : list_all (λ (c : CallerEntry). list_all (pour_is_taken parts.links) c.ops) parts.callers ≡ true

plan-says : (parts : PlanParts) → IsPlan parts → PlanSays parts
unfolding have_version have_links are_joined are_within_load pours_are_taken
plan-says parts plan =
    let rules = keeps-rules parts plan.kept in
    let version = version-in parts rules.version in
    let load = and_parts (nat_le (load_in parts.requests parts.callers) 262144) (nat_le ((parts.rounds + parts.tail) * length parts.links) 524288) rules.load in
    record {
      kept = version.links;
      ops_kept = version.ops;
      some = leb-true 1 (length parts.links) rules.links;
      joined = rules.joined;
      load = leb-true (load_in parts.requests parts.callers) 262144 load.0;
      ticks = leb-true ((parts.rounds + parts.tail) * length parts.links) 524288 load.1;
      taken = rules.pours;
    }

ops-sound : (version : Version) (links : List LinkEntry) (ops : List Op) → list_all (op_has_version version) ops ≡ true → list_all (pour_is_there links) ops ≡ true → list_all op_in_range ops ≡ true → list_all (pour_is_taken links) ops ≡ true → Each (OpSound version links) ops
ops-sound version links [] kept there range taken = tt
ops-sound version links (op ∷ ops) kept there range taken =
    let a = and_parts (op_has_version version op) (list_all (op_has_version version) ops) kept in
    let b = and_parts (pour_is_there links op) (list_all (pour_is_there links) ops) there in
    let c = and_parts (op_in_range op) (list_all op_in_range ops) range in
    let d = and_parts (pour_is_taken links op) (list_all (pour_is_taken links) ops) taken in
    (record { kept = a.0; there = b.0; range = c.0; taken = d.0 }, ops-sound version links ops a.1 b.1 c.1 d.1)

callers-sound : (version : Version) (links : List LinkEntry) (callers : List CallerEntry) → list_all (λ (c : CallerEntry). list_all (op_has_version version) c.ops) callers ≡ true → list_all (λ (c : CallerEntry). list_all (pour_is_there links) c.ops) callers ≡ true
    → list_all (λ (c : CallerEntry). list_all op_in_range c.ops) callers ≡ true → list_all (λ (c : CallerEntry). list_all (pour_is_taken links) c.ops) callers ≡ true → Each (λ (c : CallerEntry). Each (OpSound version links) c.ops) callers
callers-sound version links [] kept there range taken = tt
callers-sound version links (caller ∷ callers) kept there range taken =
    let a = and_parts (list_all (op_has_version version) caller.ops) (list_all (λ (c : CallerEntry). list_all (op_has_version version) c.ops) callers) kept in
    let b = and_parts (list_all (pour_is_there links) caller.ops) (list_all (λ (c : CallerEntry). list_all (pour_is_there links) c.ops) callers) there in
    let c = and_parts (list_all op_in_range caller.ops) (list_all (λ (c : CallerEntry). list_all op_in_range c.ops) callers) range in
    let d = and_parts (list_all (pour_is_taken links) caller.ops) (list_all (λ (c : CallerEntry). list_all (pour_is_taken links) c.ops) callers) taken in
    (ops-sound version links caller.ops a.0 b.0 c.0 d.0, callers-sound version links callers a.1 b.1 c.1 d.1)

-- ---- before the callers

-- the links, groups and quotas of a plan keep the rules so far
begun-keeps : (parts : PlanParts) → IsPlan parts → KeepSoFar (parts_with parts.version parts.links parts.groups [] [] 0 0)
unfolding have_version have_names are_there are_in_range are_few are_joined are_unclosed pours_are_taken moves_are_fit openings_of each_after ops_over ops_load
begun-keeps parts plan =
    let rules = keeps-rules parts plan.kept in
    let keep = rules.groups in
    let names = names-in parts rules.names in
    let few = few-in parts rules.few in
    let begun = parts_with parts.version parts.links parts.groups [] [] 0 0 in
    record {
      version = version-from begun (record { links = (version-in parts rules.version).links; requests = refl; ops = refl });
      names = names-from begun (record { links = names.links; callers = refl; requests = refl });
      there = refl;
      range = refl;
      few = few-from begun (record { links = few.links; callers = omega arith; requests = omega arith });
      joined = refl;
      unclosed = refl;
      load = omega arith;
      pours = refl;
      moves = refl;
      groups = record {
        version_groups = keep.version_groups;
        version_links = keep.version_links;
        version_callers = refl;
        named = keep.named;
        own = keep.own;
        quotas_there = keep.quotas_there;
        callers_there = refl;
        range = keep.range;
        few = keep.few;
        fit = keep.fit;
      };
      planned = record { links = plan.planned.links; requests = λ n entry found. cc; openings = refl; hops = λ n entry found. cc; unused = plan.planned.unused };
      terms = tt;
    }

-- a list with elements is none of those that any version has
has-for : {X : Type 0} (xs : List X) (has : Bool) → (nat_eq (length xs) 0 || has) ≡ true → 1 ≤ length xs → has ≡ true
has-for xs has either some = has-of (nat_eq (length xs) 0) has either (ne_eqb (length xs) 0 (λ e. omega (arith, e, some)))

-- what holds of each holds at each place
each-in : {X : Type 0} (P : X → Type 0) (xs : List X) → All P xs → Each P xs
each-in P [] all = tt
each-in P (x ∷ xs) all = (all 0 x (omega arith), each-in P xs (λ k d inside. all (suc k) d (omega (arith, inside))))

-- the quotas of each link are left
quotas-left : (parts : PlanParts) → IsPlan parts → AreNamed parts → Each (λ (entry : LinkEntry). QuotasLeft parts.version parts.groups entry [] entry.quotas) parts.links
quotas-left parts plan named =
    let keep = (keeps-rules parts plan.kept).groups in
    let ls = parts.links in
    Each-by_place (λ (entry : LinkEntry). QuotasLeft parts.version parts.groups entry [] entry.quotas) parts.links (λ n e found. record {
      has = has-for e.quotas (has_groups parts.version) (Each-at (λ (x : LinkEntry). quotas_have_version parts.version x ≡ true) ls n e (each-of (quotas_have_version parts.version) ls keep.version_links) found);
      own = Each-at (λ (x : LinkEntry). have_own_groups x.quotas ≡ true) ls n e (each-of (λ (x : LinkEntry). have_own_groups x.quotas) ls keep.own) found;
      there = Each-at (λ (x : LinkEntry). list_all (quota_is_there parts.groups) x.quotas ≡ true) ls n e (each-of (λ (x : LinkEntry). list_all (quota_is_there parts.groups) x.quotas) ls keep.quotas_there) found;
      range = Each-at (λ (x : LinkEntry). list_all quota_in_range x.quotas ≡ true) ls n e (each-of (λ (x : LinkEntry). list_all quota_in_range x.quotas) ls keep.range) found;
      fit = Each-at (λ (x : LinkEntry). quotas_fit x.shape x.quotas ≡ true) ls n e (each-of (λ (x : LinkEntry). quotas_fit x.shape x.quotas) ls keep.fit) found;
      eight = Each-at (λ (x : LinkEntry). Each HasEightLoads x.quotas) ls n e named.quotas found;
      unused = each-in (LeavesUnused e.shape.bounds) e.quotas (plan.planned.unused n e found);
    })

-- before any caller nothing is loaded
load-all : (requests : List RequestEntry) (callers : List CallerEntry) → load_in requests callers ≤ 262144 → load_in requests [] + ops_load requests (loads_in []) (ops_over callers) ≤ 262144
unfolding loads_after ops_load ops_over
load-all requests callers few = omega (arith, few)

-- ---- all lines

plan-leads : (parts : PlanParts) (schedule : Schedule) → IsPlan parts → AreNamed parts → HaveFoundRoutes parts → IsScheduleOf parts.callers schedule → SomeLead (plan_lines parts schedule) nothing_said (IsWhole parts schedule) 0
plan-leads parts schedule plan named routes is =
    let rules = keeps-rules parts plan.kept in
    let says = plan-says parts plan in
    let names = names-in parts rules.names in
    let used = used-in parts rules.there in
    let ranges = ranges-in parts rules.range in
    let few = few-in parts rules.few in
    let keep = rules.groups in
    let v = parts.version in
    let l = parts.links in
    let gs = parts.groups in
    let rs = parts.requests in
    let cs = parts.callers in
    let bares = map bare parts.links in
    let nobody = front v [] [] [] [] in
    let linked = front v bares [] [] [] in
    let grouped = front v bares gs [] [] in
    let split = front v l gs [] [] in
    let called = front v l gs rs cs in
    let rounded = with_item (item.Rounds parts.rounds) called in
    let done = whole v l gs rs cs parts.rounds parts.tail in
    let links_few = few.links in
    let requests_few = few.requests in
    let callers_few = few.callers in
    let stand : LinksStand l = record { some = says.some; named = named.links; apart = names.links; numbers = plan.planned.links } in
    let groups_stand : GroupsStand gs = record { named = named.groups; apart = keep.named } in
    let some_bares : 1 ≤ length bares = (let some = says.some in omega (arith, some, length-map l bare)) in
    let links = links-read v [] bares (record {
      named = bare-named l named.links;
      kept = bare-kept v l says.kept;
      new = ap are_distinct (bare-names l) ∙ names.links;
      few = omega (arith, links_few, length-map l bare);
      numbers = λ k e found. bare-numbers l 0 (λ n x at. plan.planned.links n x at ∙ omega arith) k e found ∙ omega arith;
      unsplit = bare-each l;
    }) in
    let groups = groups-read v bares [] gs some_bares (bare-unsplit l) (record { has = has-for gs (has_groups v) keep.version_groups; named = named.groups; new = keep.named; few = omega (arith, keep.few) }) in
    let shares = shares-read v gs [] l groups_stand (record { named = named.links; apart = names.links; numbers = λ k e found. plan.planned.links k e found ∙ omega arith; quotas = quotas-left parts plan named }) in
    let sound : Each (IsSound v l) rs = Each-by_place (IsSound v l) rs (λ n e found. record {
      name = Each-at (λ (x : RequestEntry). is_name x.name ≡ true) rs n e named.requests found;
      there = Each-at (λ (x : RequestEntry). route_is_there l x ≡ true) rs n e (each-of (route_is_there l) rs used.routes) found;
      joined = Each-at (λ (x : RequestEntry). is_joined l x.request.route ≡ true) rs n e (each-of (λ (x : RequestEntry). is_joined l x.request.route) rs says.joined) found;
      range = Each-at (λ (x : RequestEntry). request_in_range x ≡ true) rs n e (each-of request_in_range rs ranges.requests) found;
      hops = plan.planned.hops n e found;
      terms = Each-at HasTerms rs n e plan.terms found;
      kept = Each-at (λ (x : RequestEntry). request_has_version v x ≡ true) rs n e (each-of (request_has_version v) rs (version-in parts rules.version).requests) found;
      nodes = Each-at (λ (x : RequestEntry). AreNodesNamed x.found) rs n e named.nodes found;
      found = Each-at (λ (x : RequestEntry). IsFoundRoute l x.request.route x.found) rs n e routes found;
    }) in
    let unclosed = unclosed-in parts rules.unclosed in
    let moves = moves-in parts rules.moves in
    let load = says.load in
    let callers = callers-read v l gs rs [] rs [] cs stand groups_stand (begun-keeps parts plan)
    (record { same = refl; stand = record { sound = sound; new = names.requests; few = omega (arith, requests_few); numbers = λ k e found. plan.planned.requests k e found ∙ omega arith }; named = tt })
    (record { named = named.callers; new = names.callers; few = omega (arith, callers_few); kept = keep.version_callers; there = keep.callers_there; sound = callers-sound v l cs says.ops_kept used.pours ranges.ops says.taken; opened = used.opened; onto_opened = used.onto_opened; unclosed = unclosed.closed; unleft = unclosed.left; unused = moves.unused; unjoined = moves.unjoined; fit = moves.fit; load = load-all rs cs load })
    plan.planned.openings in
    let end = schedule-back parts schedule named.callers names.callers few.callers is.items is.unwritten in
    let tails = then-some (tail_fields parts.tail ∷ []) (schedule_lines cs schedule) rounded done (IsWhole parts schedule) (tail-read v l gs rs cs parts.rounds parts.tail ranges.tail says.ticks) end in
    let rounds = then-some (rounds_fields parts.rounds ∷ []) (tail_fields parts.tail ∷ schedule_lines cs schedule) called rounded (IsWhole parts schedule) (rounds-read v l gs rs cs parts.rounds says.some ranges.rounds) tails in
    let later = rounds_fields parts.rounds ∷ tail_fields parts.tail ∷ schedule_lines cs schedule in
    let call_lines = flat_map (caller_lines l gs rs) cs in
    let share_lines = flat_map (quota_lines gs) l in
    let calls = then-some call_lines later split called (IsWhole parts schedule) callers.reads rounds in
    let quotas = then-some share_lines (call_lines ++ later) grouped split (IsWhole parts schedule) shares calls in
    let behind = then-some (map group_fields gs) (share_lines ++ (call_lines ++ later)) linked grouped (IsWhole parts schedule) groups quotas in
    let bare_link_lines = subst (λ (lines : List (List (List ℕ))). Reads lines nobody linked) (bare-lines l) links in
    let lines = then-some (map link_fields l) (map group_fields gs ++ (share_lines ++ (call_lines ++ later))) nobody linked (IsWhole parts schedule) bare_link_lines behind in
    then-some (header_fields v ∷ []) (map link_fields l ++ (map group_fields gs ++ (share_lines ++ (call_lines ++ later)))) nothing_said nobody (IsWhole parts schedule) (header-read v) lines 0

-- ---- the law

pub text-is-read : APlansTextIsRead
unfolding reading plan_text
text-is-read parts schedule plan named routes is few =
    let lead = plan-leads parts schedule plan named routes is in
    let are = leads-lines (plan_lines parts schedule) 0 lead.end nothing_said lead.after lead.leads in
    record {
      again = schedule_said lead.after;
      is =
          ap (λ rest. reading_on 0 rest nothing_said) (lines-of-text (plan_lines parts schedule) 4194304 are few)
          ∙ leads-reading (plan_lines parts schedule) 0 lead.end nothing_said lead.after lead.leads
          ∙ at-its-end lead.end lead.after lead.holds.complete
          ∙ ap (λ (p : PlanParts). PlanRead p (schedule_said lead.after)) lead.holds.parts_are;
      same = lead.holds.same;
    }
  where
    at-its-end : (end : ℕ) (after : Said) → is_complete after ≡ true → (if is_complete after then PlanRead (parts_said after) (schedule_said after) else BadLine (suc end) cause.End) ≡ PlanRead (parts_said after) (schedule_said after)
    at-its-end end after complete = rw complete refl

-- what was read of one text is the same
one-read : (parts other : PlanParts) (schedule its : Schedule) → PlanRead parts schedule ≡ PlanRead other its → (parts ≡ other) × (schedule ≡ its)
one-read parts other schedule its same = (cc, cc)

pub text-of-one : ATextIsOfOnePlan
text-of-one parts other schedule its plan its_plan named its_named routes its_routes is its_is few same =
    let first = text-is-read parts schedule plan named routes is few in
    let second = text-is-read other its its_plan its_named its_routes its_is (subst (λ (text : List ℕ). length text ≤ 4194304) same few) in
    let one = one-read parts other first.again second.again (sym first.is ∙ ap (reading 4194304) same ∙ second.is) in
    record {
      parts_same = one.0;
      schedule_same = record {
        written = sym first.same.written ∙ ap (λ (s : Schedule). s.written) one.1 ∙ second.same.written;
        items = sym first.same.items ∙ ap (λ (s : Schedule). map unnumbered s.items) one.1 ∙ second.same.items;
      };
    }
