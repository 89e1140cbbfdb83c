-- What is kept beside a draft, with each further line.
use Rattle.std.proofs.Common.{◌≡◌, ℕ, zero, suc, ◌+◌, ◌-◌, ◌<◌, ◌≤◌, Bool, true, false, ◌||◌, nat_eq, Option, None, List, [], ◌∷◌, ◌++◌, length, Some, Result, Ok, Err, OnOk, refl, sym, ◌∙◌, ap, subst, arith, inl, inr, set, get_or, append_assoc, IfSome}
use Rattle.std.proofs.Math.Bool.{or-false}
use Rattle.std.proofs.lemmas.Bool.{cases_Bool, eqb-true, and_parts, or_cases}
use Rattle.std.proofs.lemmas.List.{length-append, map-append, get_or_past}
use Rattle.std.proofs.lemmas.Option.{same_Some, slice_get_within}
use Rattle.std.specs.List.{list_any, slice_get}
use Rattle.net_units.specs.Numbers.{link_number, actor_number, channel_number}
use Rattle.net_units.specs.declared.numbers.ChanNo.{ChanNo}
use Rattle.net_units.specs.declared.numbers.LinkNo.{LinkNo}
use Rattle.link_steps.specs.declared.quota.Quota.{Quota}
use Rattle.link_steps.specs.Lists.{Each}
use Rattle.link_steps.proofs.SearchAndFilter.{Each-append}
use Rattle.call_script.specs.Growing.{with_its_quota, new_caller, add_quota, add_op, last_ops}
use Rattle.call_script.specs.Rules.{each_after, is_in, is_after, hits, named, loads_in, load_of, load_in, ops_load, ops_over}
use Rattle.call_script.specs.declared.entries.CallerEntry.{CallerEntry}
use Rattle.call_script.specs.declared.entries.LinkEntry.{LinkEntry}
use Rattle.call_script.specs.declared.entries.RequestEntry.{RequestEntry}
use Rattle.call_script.specs.declared.operations.Op.{Op}
use Rattle.call_script.specs.declared.operations.Op.TheVariants.{Open, Send, Close, Pour, Move}
use Rattle.call_script.specs.declared.roles.Role.{Role}
use Rattle.call_script.specs.declared.roles.Role.TheVariants as role
use Rattle.call_script.specs.declared.version.Version.{Version}
use Rattle.call_script.proofs.OneOwner.{any-later, after-has}
use Rattle.call_script.proofs.OneMoreOperation.{last-passes, get-more, added-names, added-length}
use Rattle.call_script.proofs.Growing.{HaveRequests, callers-load, all-have}
use Rattle.call_script.proofs.ScriptLoads.{new-over}
use Rattle.call_script.proofs.OpeningsInOrder.{owner-inside}
use Rattle.call_script.proofs.QuotaGrowth.{quota-names, quota-length}
use Rattle.call_script.proofs.RulesAreKept.{used-in}
use Rattle.scenario_reader.specs.Drafts.{Said, nothing_said, with_item, parts_said, uses_said}
use Rattle.scenario_reader.specs.Kept.{IsDraft, IsKeptBeside}
use Rattle.scenario_reader.specs.line.Link.{MayPutLink}
use Rattle.scenario_reader.specs.line.Caller.{MayPutCaller}
use Rattle.scenario_reader.specs.line.Request.{MayPutOpen}
use Rattle.scenario_reader.specs.line.Operation.{MayPutOp, MayDo}
use Rattle.scenario_reader.specs.Uses.{IsLight, blank, used_by}
use Rattle.scenario_reader.specs.declared.item.Item.TheVariants as item
use Rattle.scenario_reader.specs.declared.uses.Uses.{Uses}
use Rattle.scenario_reader.proofs.Passing.RequestUses.{after_op, uses-added, op-used, used-length, loads-are, used-light, op-carries, op-load, load-before, same-use}

-- before the first line
pub kept-begins : IsKeptBeside nothing_said [] [] [] [] 0
unfolding ops_load ops_over
kept-begins = record {
  same_links = refl;
  same_requests = refl;
  same_callers = refl;
  all_used = refl;
  same_uses = λ n entry found by. cc;
  light = tt;
  same_load = refl;
  few_links = omega arith;
  few_requests = omega arith;
  few_callers = omega arith;
  small_load = omega arith;
  few_rounds = tt;
}

-- links, requests and callers alone matter of what was read, and that the rounds are few
kept-with : (said : Said) (links requests callers : List (List ℕ)) (uses : List Uses) (load : ℕ) (version : Option Version) (groups : List (List ℕ)) (rounds tail : Option ℕ) → IsKeptBeside said links requests callers uses load → IfSome rounds (λ count. count ≤ 524288)
    → IsKeptBeside (record said { version = version; groups = groups; rounds = rounds; tail = tail }) links requests callers uses load
kept-with said links requests callers uses load version groups rounds tail k few = record {
  same_links = k.same_links;
  same_requests = k.same_requests;
  same_callers = k.same_callers;
  all_used = k.all_used;
  same_uses = k.same_uses;
  light = k.light;
  same_load = k.same_load;
  few_links = k.few_links;
  few_requests = k.few_requests;
  few_callers = k.few_callers;
  small_load = k.small_load;
  few_rounds = few;
}

-- a link more
pub kept-link : (said : Said) (links requests callers : List (List ℕ)) (uses : List Uses) (load : ℕ) (entry : LinkEntry) → IsKeptBeside said links requests callers uses load → MayPutLink said entry
    → IsKeptBeside (with_item (item.Link entry) said) (links ++ entry.name ∷ []) requests callers uses load
kept-link said links requests callers uses load entry k may = record {
  same_links = ap (λ names. names ++ entry.name ∷ []) k.same_links ∙ sym (map-append (λ (e : LinkEntry). e.name) said.links (entry ∷ []));
  same_requests = k.same_requests;
  same_callers = k.same_callers;
  all_used = k.all_used;
  same_uses = k.same_uses;
  light = k.light;
  same_load = k.same_load;
  few_links = omega (arith, may.link.few, length-append said.links (entry ∷ []));
  few_requests = k.few_requests;
  few_callers = k.few_callers;
  small_load = k.small_load;
  few_rounds = k.few_rounds;
}

-- a group more
pub kept-group : (said : Said) (links requests callers : List (List ℕ)) (uses : List Uses) (load : ℕ) (name : List ℕ) → IsKeptBeside said links requests callers uses load
    → IsKeptBeside (with_item (item.Group name) said) links requests callers uses load
kept-group said links requests callers uses load name k = kept-with said links requests callers uses load said.version (said.groups ++ name ∷ []) said.rounds said.tail k k.few_rounds

-- a quota more
pub kept-quota : (said : Said) (links requests callers : List (List ℕ)) (uses : List Uses) (load : ℕ) (link : LinkNo) (quota : Quota) → IsKeptBeside said links requests callers uses load
    → IsKeptBeside (with_item (item.Quota link quota) said) links requests callers uses load
kept-quota said links requests callers uses load link quota k = record {
  same_links = k.same_links ∙ sym (quota-names (link_number link) quota said.links);
  same_requests = k.same_requests;
  same_callers = k.same_callers;
  all_used = k.all_used;
  same_uses = k.same_uses;
  light = k.light;
  same_load = k.same_load;
  few_links = omega (arith, k.few_links, quota-length (link_number link) quota said.links);
  few_requests = k.few_requests;
  few_callers = k.few_callers;
  small_load = k.small_load;
  few_rounds = k.few_rounds;
}

-- ---- callers

-- a caller more
pub kept-caller : (said : Said) (links requests callers : List (List ℕ)) (uses : List Uses) (load : ℕ) (name : List ℕ) (group : ℕ) → IsDraft said → IsKeptBeside said links requests callers uses load → MayPutCaller said name group
    → IsKeptBeside (with_item (item.Caller name group) said) links requests (callers ++ name ∷ []) uses load
kept-caller said links requests callers uses load name group d k may = record {
  same_links = k.same_links;
  same_requests = k.same_requests;
  same_callers = ap (λ names. names ++ name ∷ []) k.same_callers ∙ sym (map-append (λ (c : CallerEntry). c.name) said.callers (new_caller name group ∷ []));
  all_used = k.all_used;
  light = k.light;
  same_uses = λ n entry found by.
      let inside = owner-inside (parts_said said) n entry d.keeps.planned found in
      absurd (omega (arith, inside, by, length-append said.callers (new_caller name group ∷ [])));
  same_load = k.same_load ∙ sym (ap (ops_load said.requests []) (new-over name group said.callers));
  few_links = k.few_links;
  few_requests = k.few_requests;
  few_callers = omega (arith, may.caller.few, length-append said.callers (new_caller name group ∷ []));
  small_load = k.small_load;
  few_rounds = k.few_rounds;
}

-- ---- operations

-- uses with a blank one after them
use-more : (uses : List Uses) (n : ℕ) → get_or (uses ++ blank ∷ []) n blank ≡ get_or uses n blank
use-more [] zero = refl
use-more [] (suc n) = refl
use-more (one ∷ uses) zero = refl
use-more (one ∷ uses) (suc n) = use-more uses n

-- a channel to which an operation is this was opened above
done-opened : (what : Role) (c : ℕ) (above ops : List Op) → each_after (is_after what role.Opens) above ops ≡ true → list_any (is_in what c) ops ≡ true → list_any (is_in role.Opens c) (above ++ ops) ≡ true
unfolding each_after
done-opened what c above [] opened any = cc
done-opened what c above (op ∷ ops) opened any =
    let split = and_parts (is_after what role.Opens above op) (each_after (is_after what role.Opens) (above ++ op ∷ []) ops) opened in
    elim (or_cases (is_in what c op) (list_any (is_in what c) ops) any) [
      | inl here ↦ any-later (is_in role.Opens c) above (op ∷ ops) (own (named what op) refl here split.0)
      | inr later ↦ subst (λ os. list_any (is_in role.Opens c) os ≡ true) (append_assoc above (op ∷ []) ops) (done-opened what c (above ++ op ∷ []) ops split.1 later)
    ]
  where
    own : (chan : Option ℕ) → named what op ≡ chan → hits (λ n. nat_eq n c) (named what op) ≡ true → is_after what role.Opens above op ≡ true → list_any (is_in role.Opens c) above ≡ true
    own None is here after = absurd (let clash : false ≡ true = sym (ap (hits (λ n. nat_eq n c)) is) ∙ here in cc)
    own (Some n) is here after =
        (let same : n ≡ c = eqb-true n c (sym (ap (hits (λ m. nat_eq m c)) is) ∙ here) in subst (λ m. list_any (is_in role.Opens m) above ≡ true) same (after-has what role.Opens above op n is after))

-- what holds of the operations of each caller holds of those of the last
each-last : (P : List Op → Type 0) (callers : List CallerEntry) → P [] → Each (λ (c : CallerEntry). P c.ops) callers → P (last_ops callers)
each-last P [] none each = none
each-last P (caller ∷ []) none each = each.0
each-last P (caller ∷ next ∷ callers) none each = each-last P (next ∷ callers) none each.1

-- a channel that the last caller has opened has a request
pub opened-within : (said : Said) (c : ℕ) → IsDraft said → list_any (is_in role.Opens c) (last_ops said.callers) ≡ true → c < length said.requests
opened-within said c d any =
    each-last (HaveRequests said.requests) said.callers (λ n none. cc) (all-have (parts_said said) d.keeps.planned) c any

-- a closing and a leaving are uses
pub use-of : (what : Role) (c : ℕ) (ops : List Op) → ((op : Op) → is_in what c op ≡ true → is_in role.Uses c op ≡ true) → list_any (is_in role.Uses c) ops ≡ false → list_any (is_in what c) ops ≡ false
use-of what c [] is none = refl
use-of what c (op ∷ ops) is none =
    elim (cases_Bool (is_in what c op)) [
      | inl here ↦ absurd (let clash : true ≡ false = sym (ap (λ b. b || list_any (is_in role.Uses c) ops) (is op here)) ∙ none in cc)
      | inr off ↦ ap (λ b. b || list_any (is_in what c) ops) off ∙ use-of what c ops is (rest (is_in role.Uses c op) (list_any (is_in role.Uses c) ops) none)
    ]
  where
    rest : (a b : Bool) → (a || b) ≡ false → b ≡ false
    rest true b none = cc
    rest false b none = none

pub closing-uses : (c : ℕ) (op : Op) → is_in role.Closes c op ≡ true → is_in role.Uses c op ≡ true
closing-uses c (Open chan) is = cc
closing-uses c (Send chan count gap size) is = cc
closing-uses c (Close chan) is = is
closing-uses c (Pour link count gap size) is = cc
closing-uses c (Move old new) is = cc

leaving-uses : (c : ℕ) (op : Op) → is_in role.Leaves c op ≡ true → is_in role.Uses c op ≡ true
leaving-uses c (Open chan) is = cc
leaving-uses c (Send chan count gap size) is = cc
leaving-uses c (Close chan) is = cc
leaving-uses c (Pour link count gap size) is = cc
leaving-uses c (Move old new) is = is

-- the last caller has done nothing with a channel that is to be opened
fresh-done : (what : Role) (said : Said) (c : ℕ) → IsDraft said → c ≡ length said.requests → each_after (is_after what role.Opens) [] (last_ops said.callers) ≡ true → list_any (is_in what c) (last_ops said.callers) ≡ false
fresh-done what said c d new after =
    elim (cases_Bool (list_any (is_in what c) (last_ops said.callers))) [
      | inl any ↦ absurd (let within = opened-within said c d (done-opened what c [] (last_ops said.callers) after any) in omega (arith, within, new))
      | inr none ↦ none
    ]

fresh-use : (said : Said) (chan : ChanNo) → IsDraft said → channel_number chan ≡ length said.requests → uses_said said chan ≡ blank
unfolding each_after
fresh-use said chan d new =
    let used = used-in (parts_said said) d.keeps.there in
    let c = channel_number chan in
    let uses = fresh-done role.Uses said c d new (last-passes (each_after (is_after role.Uses role.Opens) []) said.callers refl used.opened) in
    let joins = fresh-done role.Joins said c d new (last-passes (each_after (is_after role.Joins role.Opens) []) said.callers refl used.onto_opened) in
    same-use (uses_said said chan) blank (use-of role.Closes c (last_ops said.callers) (closing-uses c) uses) (use-of role.Leaves c (last_ops said.callers) (leaving-uses c) uses) uses joins
    (get_or_past (loads_in said.callers) c 0 (let long = loads-are said d in omega (arith, long, new)))

-- a request more
pub kept-open : (said : Said) (links requests callers : List (List ℕ)) (uses : List Uses) (load : ℕ) (entry : RequestEntry) → IsDraft said → IsKeptBeside said links requests callers uses load → MayPutOpen said entry
    → IsKeptBeside (with_item (item.Open entry) said) links (requests ++ entry.name ∷ []) callers (uses ++ blank ∷ []) load
kept-open said links requests callers uses load entry d k may =
    let op = Open entry.request.chan in
    let some : 1 ≤ length said.callers = omega (arith, may.request.caller) in
    let longer = added-length (Open entry.request.chan) said.callers in
    let opened : (chan : ChanNo) → uses_said said chan ≡ uses_said (with_item (item.Open entry) said) chan =
    λ chan. after-open said chan ∙ sym (uses-added said (with_item (item.Open entry) said) op chan some refl) in
    record {
      same_links = k.same_links;
      same_requests = ap (λ names. names ++ entry.name ∷ []) k.same_requests ∙ sym (map-append (λ (e : RequestEntry). e.name) said.requests (entry ∷ []));
      same_callers = k.same_callers ∙ sym (added-names op said.callers);
      all_used = omega (arith, k.all_used, length-append uses (blank ∷ []), length-append said.requests (entry ∷ []));
      same_uses = λ n e found by.
          let own : actor_number e.caller ≡ length said.callers - 1 = omega (arith, by, longer) in
          use-more uses n ∙ elim (get-more said.requests entry n e found) [
            | inl old ↦ k.same_uses n e old own ∙ opened e.request.chan
            | inr new ↦ get_or_past uses n blank (omega (arith, new.0, k.all_used))
                ∙ sym (fresh-use said e.request.chan d (ap (λ (x : RequestEntry). channel_number x.request.chan) (sym new.1) ∙ may.request.number)) ∙ opened e.request.chan
          ];
      light = Each-append IsLight uses (blank ∷ []) k.light (omega arith, tt);
      same_load =
          let more = open-load said.requests entry said.callers some in
          let same = callers-load (parts_said said) entry (used-in (parts_said said) d.keeps.there) d.keeps.planned in
          k.same_load ∙ sym same ∙ sym more;
      few_links = k.few_links;
      few_requests = omega (arith, may.request.few, length-append said.requests (entry ∷ []));
      few_callers = omega (arith, k.few_callers, longer);
      small_load = k.small_load;
      few_rounds = k.few_rounds;
    }
  where
    -- an open is nothing to a channel but the opening
    after-open : (s : Said) (chan : ChanNo) → uses_said s chan ≡ after_op (Open entry.request.chan) chan (loads_in s.callers) (uses_said s chan)
    after-open s chan =
        same-use (uses_said s chan) (after_op (Open entry.request.chan) chan (loads_in s.callers) (uses_said s chan)) (sym (or-false _)) (sym (or-false _)) (sym (or-false _)) (sym (or-false _)) (sym (load-before (loads_in s.callers) (channel_number chan)))

    -- and has no load
    open-load : (requests : List RequestEntry) (e : RequestEntry) (cs : List CallerEntry) → 1 ≤ length cs → load_in (requests ++ e ∷ []) (add_op (Open e.request.chan) cs) ≡ load_in (requests ++ e ∷ []) cs
    open-load requests e [] some = absurd (omega arith)
    open-load requests e (c ∷ cs) some = (let more = op-load (requests ++ e ∷ []) (Open e.request.chan) (c ∷ cs) (omega arith) in omega (arith, more))

-- the load with an operation that may be added is within the limit
pub op-fits : (said : Said) (what : Op) → IsDraft said → MayDo (parts_said said) what → load_in said.requests said.callers + load_of said.requests (loads_in said.callers) what ≤ 262144
op-fits said (Open chan) d may = absurd may
op-fits said (Send chan count gap size) d may = may.load
op-fits said (Close chan) d may = omega (arith, d.keeps.load)
op-fits said (Pour link count gap size) d may = may.load
op-fits said (Move old new) d may = may.load

-- an operation more
pub kept-op : (said : Said) (links requests callers : List (List ℕ)) (uses : List Uses) (load packets : ℕ) (what : Op) → IsDraft said → IsKeptBeside said links requests callers uses load → MayPutOp said what
    → packets ≡ load_of said.requests (loads_in said.callers) what → IsKeptBeside (with_item (item.Op what) said) links requests callers (used_by what uses) (load + packets)
kept-op said links requests callers uses load packets what d k may of =
    let longer = added-length what said.callers in
    let more = op-load said.requests what said.callers may.some in
    let carries = op-carries said links requests callers uses load what d k may.some may.op in
    record {
      same_links = k.same_links;
      same_requests = k.same_requests;
      same_callers = k.same_callers ∙ sym (added-names what said.callers);
      all_used = used-length what uses ∙ k.all_used;
      same_uses = λ n e found by.
          let own : actor_number e.caller ≡ length said.callers - 1 = omega (arith, by, longer) in
          let number : channel_number e.request.chan ≡ n = d.keeps.planned.requests n e found in
          let inside = slice_get_within said.requests n e found in
          ap (λ m. get_or (used_by what uses) m blank) (sym number)
          ∙ op-used uses (loads_in said.callers) e.request.chan (uses_said said e.request.chan) (loads-are said d ∙ sym k.all_used) (omega (arith, inside, number, k.all_used)) (ap (λ m. get_or uses m blank) number ∙ k.same_uses n e found own) refl what carries
          ∙ sym (uses-added said (with_item (item.Op what) said) what e.request.chan may.some refl);
      light = used-light said what uses may.op k.light;
      same_load = omega (arith, k.same_load, more, of);
      few_links = k.few_links;
      few_requests = k.few_requests;
      few_callers = omega (arith, k.few_callers, longer);
      small_load = omega (arith, k.same_load, of, op-fits said what d may.op);
      few_rounds = k.few_rounds;
    }

-- rounds
pub kept-rounds : (said : Said) (links requests callers : List (List ℕ)) (uses : List Uses) (load count : ℕ) → IsKeptBeside said links requests callers uses load → count ≤ 524288
    → IsKeptBeside (with_item (item.Rounds count) said) links requests callers uses load
kept-rounds said links requests callers uses load count k few = kept-with said links requests callers uses load said.version said.groups (Some count) said.tail k few

-- the header
pub kept-header : (said : Said) (links requests callers : List (List ℕ)) (uses : List Uses) (load : ℕ) (version : Version) → IsKeptBeside said links requests callers uses load
    → IsKeptBeside (with_item (item.Header version) said) links requests callers uses load
kept-header said links requests callers uses load version k = kept-with said links requests callers uses load (Some version) said.groups said.rounds said.tail k k.few_rounds

-- the tail
pub kept-tail : (said : Said) (links requests callers : List (List ℕ)) (uses : List Uses) (load : ℕ) (count : ℕ) → IsKeptBeside said links requests callers uses load
    → IsKeptBeside (with_item (item.Tail count) said) links requests callers uses load
kept-tail said links requests callers uses load count k = kept-with said links requests callers uses load said.version said.groups said.rounds (Some count) k k.few_rounds

-- ---- cells of links and callers

-- a link, with one quota more in its place
pub set-quota : (links : List LinkEntry) (quota : Quota) (place : ℕ) (entry link : LinkEntry) → slice_get links place ≡ Some entry → link ≡ with_its_quota quota entry → set links place link ≡ add_quota place quota links
set-quota [] quota place entry link at is = refl
set-quota (first ∷ links) quota zero entry link at is = ap (λ (e : LinkEntry). e ∷ links) (is ∙ ap (with_its_quota quota) (sym (same_Some first entry at)))
set-quota (first ∷ links) quota (suc place) entry link at is = ap (λ es. first ∷ es) (set-quota links quota place entry link at is)

-- the last caller, with one operation more in its place
pub set-last : (callers : List CallerEntry) (op : Op) (place : ℕ) (entry caller : CallerEntry) → place + 1 ≡ length callers → slice_get callers place ≡ Some entry
    → caller ≡ record { name = entry.name; group = entry.group; ops = entry.ops ++ op ∷ [] } → set callers place caller ≡ add_op op callers
set-last [] op place entry caller last at is = absurd (omega (arith, last))
set-last (c ∷ []) op zero entry caller last at is = ap (λ (e : CallerEntry). e ∷ []) (is ∙ ap (λ (e : CallerEntry). record { name = e.name; group = e.group; ops = e.ops ++ op ∷ [] }) (sym (same_Some c entry at)))
set-last (c ∷ []) op (suc place) entry caller last at is = absurd (omega (arith, last))
set-last (c ∷ next ∷ callers) op zero entry caller last at is = absurd (omega (arith, last))
set-last (c ∷ next ∷ callers) op (suc place) entry caller last at is = ap (λ es. c ∷ es) (set-last (next ∷ callers) op place entry caller (omega (arith, last)) at is)

-- what follows where a call is Ok
pub on-ok : {X Y : Type 0} (r : Result X Y) (P Q : Type 0) → (P → Q) → OnOk r P → OnOk r Q
on-ok (Ok x) P Q f p = f p
on-ok (Err e) P Q f p = tt
