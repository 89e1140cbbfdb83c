-- Parts that grow a line at a time keep the rules, whichever way they grow.
use Rattle.std.proofs.Common.{◌≡◌, ℕ, suc, ◌+◌, ◌<◌, ◌≤◌, Bool, true, false, not, Option, Some, None, List, [], ◌∷◌, ◌++◌, length, map, refl, sym, ap, ◌∙◌, subst, inl, inr, append_assoc, option_map, arith}
use Rattle.std.proofs.lemmas.Bool.{and_from, and_parts, le-leb, leb-true, not_from_false}
use Rattle.std.proofs.lemmas.List.{length-append, map-append}
use Rattle.std.proofs.lemmas.Option.{slice_get_within}
use Rattle.std.specs.List.{All, list_all, list_any}
use Rattle.std.specs.Prelude.{nat_le, ◌&&◌, ◌*◌}
use Rattle.net_units.specs.Numbers.{link_number, actor_number, channel_number}
use Rattle.net_units.specs.declared.numbers.ChanNo.{ChanNo}
use Rattle.net_units.specs.declared.numbers.LinkNo.{LinkNo}
use Rattle.link_steps.proofs.SearchAndFilter.{Each-append}
use Rattle.link_steps.specs.Lists.{Each}
use Rattle.call_script.specs.Broken.{unless_broken, use_rule_broken, range_rule_broken, name_rule_broken, rule_broken}
use Rattle.call_script.specs.Groups.{groups_have_version, groups_have_names, groups_are_there, quotas_are_in_range, groups_are_few, quotas_are_fit}
use Rattle.call_script.specs.Growing.{nothing_of, new_caller, add_op, last_ops, with_link, with_caller, with_open, with_op, with_rounds, with_tail, MayAddLink, MayAddCaller, MayOpen, IsOpenedThere, MayFollow, MaySend, MayPour, MayMove, KeepSoFar, AreEnough}
use Rattle.call_script.specs.Operations.{attributes_of}
use Rattle.call_script.specs.Parts.{PlanParts, parts_with, Opening, opening_by, openings_of, opening_of, FollowsLink, LeavesUnused, ArePlanned}
use Rattle.call_script.specs.Plans.{HasTerms, IsPlan}
use Rattle.call_script.specs.Rules.{each_after, link_has_version, request_has_version, op_has_version, have_version, have_links, is_new, are_distinct, link_names, caller_names, request_names, have_names, route_is_there, pour_is_there, is_in, is_after, is_apart, all_after, are_there, request_in_range, op_in_range, rounds_in_range, are_in_range, are_few, is_joined, are_joined, are_unclosed, misses, load_of, load_in, loads_in, ops_load, ops_over, are_within_load, pour_is_taken, pours_are_taken, fits_between, move_is_fit, moves_are_fit}
use Rattle.call_script.specs.declared.entries.CallerEntry.{CallerEntry}
use Rattle.call_script.specs.declared.entries.LinkEntry.{LinkEntry}
use Rattle.call_script.specs.declared.entries.RequestEntry.{RequestEntry}
use Rattle.call_script.specs.declared.operations.Op.{Op}
use Rattle.call_script.specs.declared.operations.Op.TheVariants.{Open, Send, Close, Pour, Move}
use Rattle.call_script.specs.declared.roles.Role.TheVariants as role
use Rattle.call_script.specs.declared.version.Version.{Version}
use Rattle.link_steps.proofs.ListParts.{Each-by_place}
use Rattle.call_script.proofs.OneMoreOperation.{all-more, after-more, get-before, get-more, added-all, added-after, added-names, added-length, added-openings, added-opens-none, new-opens-none}
use Rattle.call_script.proofs.GroupRulesStay.{no-groups, none-unused, groups-with-link, groups-with-caller, groups-with-op, groups-from}
use Rattle.call_script.proofs.OpeningsInOrder.{opened-has}
use Rattle.call_script.proofs.ScriptLoads.{load-more, added-load, new-over}
use Rattle.call_script.proofs.OperationTable.{IsThere, HasHops, leaves-there}
use Rattle.call_script.proofs.OneOwner.{any-later, twice-not}
use Rattle.call_script.proofs.RulesAreKept.{HasUsed, used-in, used-from, unclosed-in, unclosed-from, moves-in, moves-from}

-- ---- the rules on names and numbers, in their parts

-- the names of links, callers and requests
pub record HasNames (parts : PlanParts) : Type 0 where
  pub links : are_distinct (link_names parts.links) ≡ true
  pub callers : are_distinct (caller_names parts.callers) ≡ true
  pub requests : are_distinct (request_names parts.requests) ≡ true

pub names-in : (parts : PlanParts) → have_names parts ≡ true → HasNames parts
unfolding have_names
names-in parts names =
    let first = and_parts (are_distinct (link_names parts.links) && are_distinct (caller_names parts.callers)) (are_distinct (request_names parts.requests)) names in
    let second = and_parts (are_distinct (link_names parts.links)) (are_distinct (caller_names parts.callers)) first.0 in
    record { links = second.0; callers = second.1; requests = first.1 }

pub names-from : (parts : PlanParts) → HasNames parts → have_names parts ≡ true
unfolding have_names
names-from parts has =
    and_from (are_distinct (link_names parts.links) && are_distinct (caller_names parts.callers)) (are_distinct (request_names parts.requests))
    (and_from (are_distinct (link_names parts.links)) (are_distinct (caller_names parts.callers)) has.links has.callers) has.requests

-- links, requests and operations of the version
pub record HasVersion (parts : PlanParts) : Type 0 where
  pub links : list_all (link_has_version parts.version) parts.links ≡ true
  pub requests : list_all (request_has_version parts.version) parts.requests ≡ true
  pub ops : list_all (λ (c : CallerEntry). list_all (op_has_version parts.version) c.ops) parts.callers ≡ true

pub version-in : (parts : PlanParts) → have_version parts ≡ true → HasVersion parts
unfolding have_version
version-in parts version =
    let first = and_parts (list_all (link_has_version parts.version) parts.links && list_all (request_has_version parts.version) parts.requests) (list_all (λ (c : CallerEntry). list_all (op_has_version parts.version) c.ops) parts.callers) version in
    let second = and_parts (list_all (link_has_version parts.version) parts.links) (list_all (request_has_version parts.version) parts.requests) first.0 in
    record { links = second.0; requests = second.1; ops = first.1 }

pub version-from : (parts : PlanParts) → HasVersion parts → have_version parts ≡ true
unfolding have_version
version-from parts has =
    and_from (list_all (link_has_version parts.version) parts.links && list_all (request_has_version parts.version) parts.requests) (list_all (λ (c : CallerEntry). list_all (op_has_version parts.version) c.ops) parts.callers)
    (and_from (list_all (link_has_version parts.version) parts.links) (list_all (request_has_version parts.version) parts.requests) has.links has.requests) has.ops

-- numbers in their ranges
pub record HasRanges (parts : PlanParts) : Type 0 where
  pub requests : list_all request_in_range parts.requests ≡ true
  pub ops : list_all (λ (c : CallerEntry). list_all op_in_range c.ops) parts.callers ≡ true
  pub rounds : parts.rounds ≤ 524288
  pub tail : parts.tail ≤ 524288

pub ranges-in : (parts : PlanParts) → are_in_range parts ≡ true → HasRanges parts
unfolding are_in_range
ranges-in parts range =
    let first = and_parts (list_all request_in_range parts.requests && list_all (λ (c : CallerEntry). list_all op_in_range c.ops) parts.callers) (rounds_in_range parts.rounds parts.tail) range in
    let second = and_parts (list_all request_in_range parts.requests) (list_all (λ (c : CallerEntry). list_all op_in_range c.ops) parts.callers) first.0 in
    let third = and_parts (nat_le parts.rounds 524288) (nat_le parts.tail 524288) first.1 in
    record { requests = second.0; ops = second.1; rounds = leb-true parts.rounds 524288 third.0; tail = leb-true parts.tail 524288 third.1 }

ranges-from : (parts : PlanParts) → HasRanges parts → are_in_range parts ≡ true
unfolding are_in_range
ranges-from parts has =
    and_from (list_all request_in_range parts.requests && list_all (λ (c : CallerEntry). list_all op_in_range c.ops) parts.callers) (rounds_in_range parts.rounds parts.tail)
    (and_from (list_all request_in_range parts.requests) (list_all (λ (c : CallerEntry). list_all op_in_range c.ops) parts.callers) has.requests has.ops)
    (and_from (nat_le parts.rounds 524288) (nat_le parts.tail 524288) (le-leb parts.rounds 524288 has.rounds) (le-leb parts.tail 524288 has.tail))

-- how many there are
pub record AreFew (parts : PlanParts) : Type 0 where
  pub links : length parts.links ≤ 32
  pub callers : length parts.callers ≤ 64
  pub requests : length parts.requests ≤ 1024

pub few-in : (parts : PlanParts) → are_few parts ≡ true → AreFew parts
unfolding are_few
few-in parts few =
    let first = and_parts (nat_le (length parts.links) 32 && nat_le (length parts.callers) 64) (nat_le (length parts.requests) 1024) few in
    let second = and_parts (nat_le (length parts.links) 32) (nat_le (length parts.callers) 64) first.0 in
    record { links = leb-true (length parts.links) 32 second.0; callers = leb-true (length parts.callers) 64 second.1; requests = leb-true (length parts.requests) 1024 first.1 }

pub few-from : (parts : PlanParts) → AreFew parts → are_few parts ≡ true
unfolding are_few
few-from parts are =
    and_from (nat_le (length parts.links) 32 && nat_le (length parts.callers) 64) (nat_le (length parts.requests) 1024)
    (and_from (nat_le (length parts.links) 32) (nat_le (length parts.callers) 64) (le-leb (length parts.links) 32 are.links) (le-leb (length parts.callers) 64 are.callers))
    (le-leb (length parts.requests) 1024 are.requests)

-- one more
pub length-more : {X : Type 0} (xs : List X) (x : X) → length (xs ++ x ∷ []) ≡ suc (length xs)
length-more xs x = (let both : length (xs ++ x ∷ []) ≡ length xs + 1 = length-append xs (x ∷ []) in omega arith)

pub names-more : (names : List (List ℕ)) (name : List ℕ) → are_distinct names ≡ true → is_new names name ≡ true
    → are_distinct (names ++ name ∷ []) ≡ true
names-more names name apart new = after-more is_new [] names name apart new

-- ---- nothing

pub nothing-keeps : (version : Version) → KeepSoFar (nothing_of version)
unfolding have_version have_names are_there are_in_range are_few are_joined are_unclosed pours_are_taken moves_are_fit openings_of each_after ops_over ops_load
nothing-keeps version = record {
  version = refl;
  names = refl;
  there = refl;
  range = refl;
  few = refl;
  joined = refl;
  unclosed = refl;
  load = omega arith;
  pours = refl;
  moves = refl;
  groups = no-groups version;
  planned = record { links = λ n entry found. cc; requests = λ n entry found. cc; openings = refl; hops = λ n entry found. cc; unused = λ n entry found. cc };
  terms = tt;
}

-- ---- a link

pub no-request : (parts : PlanParts) → ArePlanned parts → parts.callers ≡ [] → [] ≡ parts.requests
unfolding openings_of
no-request parts planned none = by parts.requests (sym (ap (openings_of 0) none) ∙ planned.openings) where
  by : (requests : List RequestEntry) → [] ≡ map opening_of requests → [] ≡ requests
  by [] same = refl
  by (request ∷ requests) same = cc

link-grown : (version : Version) (links : List LinkEntry) (groups : List (List ℕ)) (entry : LinkEntry) (rounds tail : ℕ)
    → KeepSoFar (parts_with version links groups [] [] rounds tail) → MayAddLink (parts_with version links groups [] [] rounds tail) entry
    → KeepSoFar (parts_with version (links ++ entry ∷ []) groups [] [] rounds tail)
unfolding have_version are_there are_in_range are_joined are_unclosed pours_are_taken moves_are_fit openings_of
link-grown version links groups entry rounds tail keep may =
    let few = few-in (parts_with version links groups [] [] rounds tail) keep.few in
    let names = names-in (parts_with version links groups [] [] rounds tail) keep.names in
    let longer = length-more links entry in
    record {
      version = version-from (parts_with version (links ++ entry ∷ []) groups [] [] rounds tail) (record { links = all-more (link_has_version version) links entry (version-in (parts_with version links groups [] [] rounds tail) keep.version).links may.version; requests = refl; ops = refl });
      names = names-from (parts_with version (links ++ entry ∷ []) groups [] [] rounds tail) (record {
        links = ap are_distinct (map-append (λ (e : LinkEntry). e.name) links (entry ∷ [])) ∙ names-more (link_names links) entry.name names.links may.name;
        callers = names.callers;
        requests = names.requests;
      });
      there = refl;
      range = keep.range;
      few = few-from (parts_with version (links ++ entry ∷ []) groups [] [] rounds tail) (record { links = omega (arith, may.few, longer); callers = few.callers; requests = few.requests });
      joined = refl;
      unclosed = refl;
      load = keep.load;
      pours = refl;
      moves = refl;
      groups = groups-with-link version groups links entry [] may.unsplit keep.groups;
      planned = record {
        links = λ n e found. elim (get-more links entry n e found) [
          | inl old ↦ keep.planned.links n e old
          | inr new ↦ ap (λ (x : LinkEntry). link_number x.shape.link) (sym new.1) ∙ may.number ∙ sym new.0
        ];
        requests = λ n e found. cc;
        openings = refl;
        hops = λ n e found. cc;
        unused = λ n e found. elim (get-more links entry n e found) [
          | inl old ↦ keep.planned.unused n e old
          | inr new ↦ subst (λ (x : LinkEntry). All (LeavesUnused x.shape.bounds) x.quotas) new.1 (none-unused entry may.unsplit)
        ];
      };
      terms = tt;
    }

pub link-keeps : (parts : PlanParts) (entry : LinkEntry) → KeepSoFar parts → MayAddLink parts entry → KeepSoFar (with_link entry parts)
link-keeps parts entry keep may = by parts.callers parts.requests (sym may.first) (no-request parts keep.planned may.first) keep may where
  by : (callers : List CallerEntry) (requests : List RequestEntry) → [] ≡ callers → [] ≡ requests
      → KeepSoFar (parts_with parts.version parts.links parts.groups requests callers parts.rounds parts.tail) → MayAddLink (parts_with parts.version parts.links parts.groups requests callers parts.rounds parts.tail) entry
      → KeepSoFar (parts_with parts.version (parts.links ++ entry ∷ []) parts.groups requests callers parts.rounds parts.tail)
  by [] [] nobody nothing = link-grown parts.version parts.links parts.groups entry parts.rounds parts.tail
  by (caller ∷ callers) requests nobody nothing = cc
  by [] (request ∷ requests) nobody nothing = cc

-- ---- a caller

pub caller-keeps : (parts : PlanParts) (name : List ℕ) (group : ℕ) → KeepSoFar parts → MayAddCaller parts name group
    → KeepSoFar (with_caller name group parts)
unfolding have_version are_joined pours_are_taken each_after
caller-keeps parts name group keep may =
    let names = names-in parts keep.names in
    let used = used-in parts keep.there in
    let ranges = ranges-in parts keep.range in
    let few = few-in parts keep.few in
    let version = version-in parts keep.version in
    let longer = length-more parts.callers (new_caller name group) in
    let load = ap (ops_load parts.requests []) (new-over name group parts.callers) in
    let unclosed = unclosed-in parts keep.unclosed in
    let moves = moves-in parts keep.moves in
    record {
      version = version-from (with_caller name group parts) (record { links = version.links; requests = version.requests; ops = stays (list_all (op_has_version parts.version)) refl version.ops });
      names = names-from (with_caller name group parts) (record {
        links = names.links;
        callers = ap are_distinct (map-append (λ (c : CallerEntry). c.name) parts.callers (new_caller name group ∷ [])) ∙ names-more (caller_names parts.callers) name names.callers may.new;
        requests = names.requests;
      });
      there = used-from (with_caller name group parts) (record { routes = used.routes; pours = stays (list_all (pour_is_there parts.links)) refl used.pours; opened = stays (each_after (is_after role.Uses role.Opens) []) refl used.opened; onto_opened = stays (each_after (is_after role.Joins role.Opens) []) refl used.onto_opened });
      range = ranges-from (with_caller name group parts) (record { requests = ranges.requests; ops = stays (list_all op_in_range) refl ranges.ops; rounds = ranges.rounds; tail = ranges.tail });
      few = few-from (with_caller name group parts) (record { links = few.links; callers = omega (arith, may.few, longer); requests = few.requests });
      joined = keep.joined;
      unclosed = unclosed-from (with_caller name group parts) (record { closed = stays (each_after (is_apart role.Uses role.Closes) []) refl unclosed.closed; left = stays (each_after (is_apart role.Keeps role.Leaves) []) refl unclosed.left });
      load = omega (arith, keep.load, load);
      pours = stays (list_all (pour_is_taken parts.links)) refl keep.pours;
      moves = moves-from (with_caller name group parts) (record { fit = stays (list_all (move_is_fit parts.links parts.requests)) refl moves.fit; unused = stays (each_after (is_apart role.Joins role.Uses) []) refl moves.unused; unjoined = stays (each_after (is_apart role.Joins role.Joins) []) refl moves.unjoined });
      groups = groups-with-caller parts.version parts.groups parts.links parts.callers name group may.version may.there keep.groups;
      planned = record { links = keep.planned.links; requests = keep.planned.requests; openings = new-opens-none 0 name group parts.callers ∙ keep.planned.openings; hops = keep.planned.hops; unused = keep.planned.unused };
      terms = keep.terms;
    } where
      -- a caller without operations passes what no operations pass
      stays : (test : List Op → Bool) → test [] ≡ true → list_all (λ (c : CallerEntry). test c.ops) parts.callers ≡ true → list_all (λ (c : CallerEntry). test c.ops) (parts.callers ++ new_caller name group ∷ []) ≡ true
      stays test none all = all-more (λ (c : CallerEntry). test c.ops) parts.callers (new_caller name group) all none

-- ---- an operation

-- one that opens nothing
pub op-keeps : (parts : PlanParts) (op : Op) → KeepSoFar parts → MayFollow parts op → KeepSoFar (with_op op parts)
unfolding have_version are_joined pours_are_taken
op-keeps parts op keep may =
    let names = names-in parts keep.names in
    let used = used-in parts keep.there in
    let ranges = ranges-in parts keep.range in
    let few = few-in parts keep.few in
    let version = version-in parts keep.version in
    let load = added-load parts.requests op parts.callers in
    let unclosed = unclosed-in parts keep.unclosed in
    let moves = moves-in parts keep.moves in
    record {
      version = version-from (with_op op parts) (record { links = version.links; requests = version.requests; ops = added-all (op_has_version parts.version) op parts.callers version.ops may.version });
      names = names-from (with_op op parts) (record { links = names.links; callers = ap are_distinct (added-names op parts.callers) ∙ names.callers; requests = names.requests });
      there = used-from (with_op op parts) (record { routes = used.routes; pours = added-all (pour_is_there parts.links) op parts.callers used.pours may.there; opened = added-after (is_after role.Uses role.Opens) op parts.callers used.opened may.opened; onto_opened = added-after (is_after role.Joins role.Opens) op parts.callers used.onto_opened may.onto_opened });
      range = ranges-from (with_op op parts) (record { requests = ranges.requests; ops = added-all op_in_range op parts.callers ranges.ops may.range; rounds = ranges.rounds; tail = ranges.tail });
      few = few-from (with_op op parts) (record { links = few.links; callers = omega (arith, few.callers, added-length op parts.callers); requests = few.requests });
      joined = keep.joined;
      unclosed = unclosed-from (with_op op parts) (record { closed = added-after (is_apart role.Uses role.Closes) op parts.callers unclosed.closed may.unclosed; left = added-after (is_apart role.Keeps role.Leaves) op parts.callers unclosed.left may.unleft });
      load = omega (arith, load, may.load);
      pours = added-all (pour_is_taken parts.links) op parts.callers keep.pours may.taken;
      moves = moves-from (with_op op parts) (record { fit = added-all (move_is_fit parts.links parts.requests) op parts.callers moves.fit may.fit; unused = added-after (is_apart role.Joins role.Uses) op parts.callers moves.unused may.unused; unjoined = added-after (is_apart role.Joins role.Joins) op parts.callers moves.unjoined may.unjoined });
      groups = groups-with-op parts.version parts.groups parts.links parts.callers op keep.groups;
      planned = record { links = keep.planned.links; requests = keep.planned.requests; openings = added-opens-none op parts.callers (λ n. ap (opening_by n) may.opens_none) ∙ keep.planned.openings; hops = keep.planned.hops; unused = keep.planned.unused };
      terms = keep.terms;
    }

not-missed : (b : Bool) → b ≡ true → not (not b) ≡ true
not-missed true holds = refl
not-missed false fails = cc

pub send-keeps : (parts : PlanParts) (chan : ChanNo) (count gap size : ℕ) → KeepSoFar parts → MaySend parts chan count gap size
    → KeepSoFar (with_op (Send chan count gap size) parts)
send-keeps parts chan count gap size keep may = op-keeps parts (Send chan count gap size) keep (record {
  version = refl;
  there = refl;
  opened = not-missed (list_any (is_in role.Opens (channel_number chan)) (last_ops parts.callers)) may.channel.opened;
  onto_opened = refl;
  range = may.range;
  unclosed = not_from_false (list_any (is_in role.Closes (channel_number chan)) (last_ops parts.callers)) may.channel.unclosed;
  unleft = not_from_false (list_any (is_in role.Leaves (channel_number chan)) (last_ops parts.callers)) may.unleft;
  fit = refl;
  unused = refl;
  unjoined = refl;
  load = may.load;
  taken = refl;
  opens_none = refl;
})

pub close-keeps : (parts : PlanParts) (chan : ChanNo) → KeepSoFar parts → IsOpenedThere parts chan → KeepSoFar (with_op (Close chan) parts)
close-keeps parts chan keep may = op-keeps parts (Close chan) keep (record {
  version = refl;
  there = refl;
  opened = not-missed (list_any (is_in role.Opens (channel_number chan)) (last_ops parts.callers)) may.opened;
  onto_opened = refl;
  range = refl;
  unclosed = not_from_false (list_any (is_in role.Closes (channel_number chan)) (last_ops parts.callers)) may.unclosed;
  unleft = refl;
  fit = refl;
  unused = refl;
  unjoined = refl;
  load = (let none : load_of parts.requests (loads_in parts.callers) (Close chan) ≡ 0 = refl in omega (arith, keep.load, none));
  taken = refl;
  opens_none = refl;
})

pub pour-keeps : (parts : PlanParts) (link : LinkNo) (count gap size : ℕ) → KeepSoFar parts → MayPour parts link count gap size
    → KeepSoFar (with_op (Pour link count gap size) parts)
pour-keeps parts link count gap size keep may = op-keeps parts (Pour link count gap size) keep (record {
  version = may.version;
  there = may.there;
  opened = refl;
  onto_opened = refl;
  range = may.range;
  unclosed = refl;
  unleft = refl;
  fit = refl;
  unused = refl;
  unjoined = refl;
  load = may.load;
  taken = may.taken;
  opens_none = refl;
})

pub move-keeps : (parts : PlanParts) (old new : ChanNo) → KeepSoFar parts → MayMove parts old new → KeepSoFar (with_op (Move old new) parts)
move-keeps parts old new keep may = op-keeps parts (Move old new) keep (record {
  version = may.version;
  there = refl;
  opened = not-missed (list_any (is_in role.Opens (channel_number old)) (last_ops parts.callers)) may.channel.opened;
  onto_opened = not-missed (list_any (is_in role.Opens (channel_number new)) (last_ops parts.callers)) may.joined;
  range = refl;
  unclosed = not_from_false (list_any (is_in role.Closes (channel_number old)) (last_ops parts.callers)) may.channel.unclosed;
  unleft = not_from_false (list_any (is_in role.Leaves (channel_number old)) (last_ops parts.callers)) may.unleft;
  fit = may.fit;
  unused = not_from_false (list_any (is_in role.Uses (channel_number new)) (last_ops parts.callers)) may.unused;
  unjoined = not_from_false (list_any (is_in role.Joins (channel_number new)) (last_ops parts.callers)) may.unjoined;
  load = may.load;
  taken = refl;
  opens_none = refl;
})

-- ---- an open

-- every channel that operations open has a request
abbrev pub HaveRequests : List RequestEntry → List Op → Type 0
HaveRequests requests ops = (c : ℕ) → list_any (is_in role.Opens c) ops ≡ true → c < length requests

-- so has each that they use or join
ops-have : (requests : List RequestEntry) (above ops : List Op) → each_after (is_after role.Uses role.Opens) above ops ≡ true
    → each_after (is_after role.Joins role.Opens) above ops ≡ true → HaveRequests requests (above ++ ops) → Each (HasHops requests) ops
unfolding each_after
ops-have requests above [] opened onto have = tt
ops-have requests above (op ∷ ops) opened onto have =
    let uses = and_parts (is_after role.Uses role.Opens above op) (each_after (is_after role.Uses role.Opens) (above ++ op ∷ []) ops) opened in
    let joins = and_parts (is_after role.Joins role.Opens above op) (each_after (is_after role.Joins role.Opens) (above ++ op ∷ []) ops) onto in
    ((there (attributes_of op).uses uses.0, there (attributes_of op).joins joins.0), ops-have requests (above ++ op ∷ []) ops uses.1 joins.1 (λ c any. have c (subst (λ os. list_any (is_in role.Opens c) os ≡ true) (append_assoc above (op ∷ []) ops) any)))
  where
    there : (found : Option ChanNo) → not (misses (λ chan. list_any (is_in role.Opens chan) above) (option_map channel_number found)) ≡ true → IsThere requests found
    there None after = tt
    there (Some chan) after = have (channel_number chan) (any-later (is_in role.Opens (channel_number chan)) above (op ∷ ops) (twice-not (list_any (is_in role.Opens (channel_number chan)) above) after))

callers-have : (requests : List RequestEntry) (callers : List CallerEntry) → all_after role.Uses role.Opens callers ≡ true
    → all_after role.Joins role.Opens callers ≡ true → Each (λ (c : CallerEntry). HaveRequests requests c.ops) callers
    → Each (λ (c : CallerEntry). Each (HasHops requests) c.ops) callers
callers-have requests [] opened onto have = tt
callers-have requests (caller ∷ callers) opened onto have =
    let uses = and_parts (each_after (is_after role.Uses role.Opens) [] caller.ops) (all_after role.Uses role.Opens callers) opened in
    let joins = and_parts (each_after (is_after role.Joins role.Opens) [] caller.ops) (all_after role.Joins role.Opens callers) onto in
    (ops-have requests [] caller.ops uses.0 joins.0 have.0, callers-have requests callers uses.1 joins.1 have.1)

over-have : (requests : List RequestEntry) (callers : List CallerEntry) → Each (λ (c : CallerEntry). Each (HasHops requests) c.ops) callers
    → Each (HasHops requests) (ops_over callers)
unfolding ops_over
over-have requests [] have = tt
over-have requests (caller ∷ callers) have = Each-append (HasHops requests) caller.ops (ops_over callers) have.0 (over-have requests callers have.1)

-- what the callers of planned parts open has a request
pub all-have : (parts : PlanParts) → ArePlanned parts → Each (λ (c : CallerEntry). HaveRequests parts.requests c.ops) parts.callers
all-have parts planned = Each-by_place (λ (c : CallerEntry). HaveRequests parts.requests c.ops) parts.callers (λ n caller found c any.
    let has = opened-has parts n c caller planned found any in
    slice_get_within parts.requests c has.entry has.found)

-- one request more doesn't change the load of callers whose requests are there
pub callers-load : (parts : PlanParts) (entry : RequestEntry) → HasUsed parts → ArePlanned parts
    → load_in (parts.requests ++ entry ∷ []) parts.callers ≡ load_in parts.requests parts.callers
callers-load parts entry used planned = load-more parts.requests entry [] (ops_over parts.callers) (over-have parts.requests parts.callers (callers-have parts.requests parts.callers used.opened used.onto_opened (all-have parts planned)))

-- nor which moves fit
moves-more : (parts : PlanParts) (entry : RequestEntry) → HasUsed parts → ArePlanned parts
    → list_all (λ (c : CallerEntry). list_all (move_is_fit parts.links parts.requests) c.ops) parts.callers ≡ true
    → list_all (λ (c : CallerEntry). list_all (move_is_fit parts.links (parts.requests ++ entry ∷ [])) c.ops) parts.callers ≡ true
moves-more parts entry used planned fit = by parts.callers (callers-have parts.requests parts.callers used.opened used.onto_opened (all-have parts planned)) fit where
  between : (leaves joins : Option ChanNo) → IsThere parts.requests leaves → IsThere parts.requests joins → fits_between parts.links parts.requests leaves joins ≡ true → fits_between parts.links (parts.requests ++ entry ∷ []) leaves joins ≡ true
  between None joins old_there new_there fits = refl
  between (Some old) None old_there new_there fits = refl
  between (Some old) (Some new) old_there new_there fits = rw (get-before parts.requests (entry ∷ []) (channel_number old) old_there, get-before parts.requests (entry ∷ []) (channel_number new) new_there) fits

  one : (o : Op) → HasHops parts.requests o → move_is_fit parts.links parts.requests o ≡ true → move_is_fit parts.links (parts.requests ++ entry ∷ []) o ≡ true
  one o there = between (attributes_of o).leaves (attributes_of o).joins (leaves-there parts.requests o there) there.1

  ops : (os : List Op) → Each (HasHops parts.requests) os → list_all (move_is_fit parts.links parts.requests) os ≡ true → list_all (move_is_fit parts.links (parts.requests ++ entry ∷ [])) os ≡ true
  ops [] have all = refl
  ops (o ∷ os) have all =
      (let split = and_parts (move_is_fit parts.links parts.requests o) (list_all (move_is_fit parts.links parts.requests) os) all in
      and_from (move_is_fit parts.links (parts.requests ++ entry ∷ []) o) (list_all (move_is_fit parts.links (parts.requests ++ entry ∷ [])) os) (one o have.0 split.0) (ops os have.1 split.1))

  by : (callers : List CallerEntry) → Each (λ (c : CallerEntry). Each (HasHops parts.requests) c.ops) callers → list_all (λ (c : CallerEntry). list_all (move_is_fit parts.links parts.requests) c.ops) callers ≡ true → list_all (λ (c : CallerEntry). list_all (move_is_fit parts.links (parts.requests ++ entry ∷ [])) c.ops) callers ≡ true
  by [] have all = refl
  by (caller ∷ callers) have all =
      (let split = and_parts (list_all (move_is_fit parts.links parts.requests) caller.ops) (list_all (λ (c : CallerEntry). list_all (move_is_fit parts.links parts.requests) c.ops) callers) all in
      and_from (list_all (move_is_fit parts.links (parts.requests ++ entry ∷ [])) caller.ops) (list_all (λ (c : CallerEntry). list_all (move_is_fit parts.links (parts.requests ++ entry ∷ [])) c.ops) callers) (ops caller.ops have.0 split.0) (by callers have.1 split.1))

-- the openings of the callers with this open more
opens-it : (chan : ChanNo) (by : ℕ) (callers : List CallerEntry) → suc by ≡ length callers
    → openings_of 0 (add_op (Open chan) callers) ≡ openings_of 0 callers ++ record { caller = by; chan = channel_number chan } ∷ []
opens-it chan by [] last = absurd (omega (arith, last))
opens-it chan by (caller ∷ callers) last = added-openings 0 by (Open chan) caller callers (omega (arith, last))

pub open-keeps : (parts : PlanParts) (entry : RequestEntry) → KeepSoFar parts → MayOpen parts entry → KeepSoFar (with_open entry parts)
unfolding have_version are_joined pours_are_taken
open-keeps parts entry keep may =
    let op = Open entry.request.chan in
    let requests = parts.requests ++ entry ∷ [] in
    let names = names-in parts keep.names in
    let used = used-in parts keep.there in
    let ranges = ranges-in parts keep.range in
    let few = few-in parts keep.few in
    let version = version-in parts keep.version in
    let same = callers-load parts entry used keep.planned in
    let load = added-load requests op parts.callers in
    let none : load_of requests (loads_in parts.callers) op ≡ 0 = refl in
    let unclosed = unclosed-in parts keep.unclosed in
    let moves = moves-in parts keep.moves in
    let longer = length-more parts.requests entry in
    record {
      version = version-from (with_open entry parts) (record { links = version.links; requests = all-more (request_has_version parts.version) parts.requests entry version.requests may.version; ops = added-all (op_has_version parts.version) op parts.callers version.ops refl });
      names = names-from (with_open entry parts) (record {
        links = names.links;
        callers = ap are_distinct (added-names op parts.callers) ∙ names.callers;
        requests = ap are_distinct (map-append (λ (e : RequestEntry). e.name) parts.requests (entry ∷ [])) ∙ names-more (request_names parts.requests) entry.name names.requests may.name;
      });
      there = used-from (with_open entry parts) (record {
        routes = all-more (route_is_there parts.links) parts.requests entry used.routes may.there;
        pours = added-all (pour_is_there parts.links) op parts.callers used.pours refl;
        opened = added-after (is_after role.Uses role.Opens) op parts.callers used.opened refl;
        onto_opened = added-after (is_after role.Joins role.Opens) op parts.callers used.onto_opened refl;
      });
      range = ranges-from (with_open entry parts) (record { requests = all-more request_in_range parts.requests entry ranges.requests may.range; ops = added-all op_in_range op parts.callers ranges.ops refl; rounds = ranges.rounds; tail = ranges.tail });
      few = few-from (with_open entry parts) (record { links = few.links; callers = omega (arith, few.callers, added-length op parts.callers); requests = omega (arith, may.few, longer) });
      joined = all-more (λ (e : RequestEntry). is_joined parts.links e.request.route) parts.requests entry keep.joined may.joined;
      unclosed = unclosed-from (with_open entry parts) (record { closed = added-after (is_apart role.Uses role.Closes) op parts.callers unclosed.closed refl; left = added-after (is_apart role.Keeps role.Leaves) op parts.callers unclosed.left refl });
      load = omega (arith, load, none, same, keep.load);
      pours = added-all (pour_is_taken parts.links) op parts.callers keep.pours refl;
      moves = moves-from (with_open entry parts) (record { fit = added-all (move_is_fit parts.links requests) op parts.callers (moves-more parts entry used keep.planned moves.fit) refl; unused = added-after (is_apart role.Joins role.Uses) op parts.callers moves.unused refl; unjoined = added-after (is_apart role.Joins role.Joins) op parts.callers moves.unjoined refl });
      groups = groups-with-op parts.version parts.groups parts.links parts.callers op keep.groups;
      planned = record {
        links = keep.planned.links;
        requests = λ n e found. elim (get-more parts.requests entry n e found) [
          | inl old ↦ keep.planned.requests n e old
          | inr new ↦ ap (λ (x : RequestEntry). channel_number x.request.chan) (sym new.1) ∙ may.number ∙ sym new.0
        ];
        openings = opens-it entry.request.chan (actor_number entry.caller) parts.callers may.caller ∙ ap (λ (os : List Opening). os ++ opening_of entry ∷ []) keep.planned.openings ∙ sym (map-append opening_of parts.requests (entry ∷ []));
        hops = λ n e found. elim (get-more parts.requests entry n e found) [
          | inl old ↦ keep.planned.hops n e old
          | inr new ↦ subst (λ (x : RequestEntry). Each (FollowsLink parts.links) x.request.route) new.1 may.hops
        ];
        unused = keep.planned.unused;
      };
      terms = Each-append HasTerms parts.requests (entry ∷ []) keep.terms (may.terms, tt);
    }

-- ---- rounds and tail

pub rounds-keep : (parts : PlanParts) (rounds : ℕ) → KeepSoFar parts → rounds ≤ 524288 → KeepSoFar (with_rounds rounds parts)
unfolding have_version have_names are_there are_few are_joined are_unclosed pours_are_taken moves_are_fit
rounds-keep parts rounds keep few =
    let ranges = ranges-in parts keep.range in
    record {
      version = keep.version;
      names = keep.names;
      there = keep.there;
      range = ranges-from (with_rounds rounds parts) (record { requests = ranges.requests; ops = ranges.ops; rounds = few; tail = ranges.tail });
      few = keep.few;
      joined = keep.joined;
      unclosed = keep.unclosed;
      load = keep.load;
      pours = keep.pours;
      moves = keep.moves;
      groups = keep.groups;
      planned = record { links = keep.planned.links; requests = keep.planned.requests; openings = keep.planned.openings; hops = keep.planned.hops; unused = keep.planned.unused };
      terms = keep.terms;
    }

pub tail-keeps : (parts : PlanParts) (tail : ℕ) → KeepSoFar parts → tail ≤ 524288 → KeepSoFar (with_tail tail parts)
unfolding have_version have_names are_there are_few are_joined are_unclosed pours_are_taken moves_are_fit
tail-keeps parts tail keep few =
    let ranges = ranges-in parts keep.range in
    record {
      version = keep.version;
      names = keep.names;
      there = keep.there;
      range = ranges-from (with_tail tail parts) (record { requests = ranges.requests; ops = ranges.ops; rounds = ranges.rounds; tail = few });
      few = keep.few;
      joined = keep.joined;
      unclosed = keep.unclosed;
      load = keep.load;
      pours = keep.pours;
      moves = keep.moves;
      groups = keep.groups;
      planned = record { links = keep.planned.links; requests = keep.planned.requests; openings = keep.planned.openings; hops = keep.planned.hops; unused = keep.planned.unused };
      terms = keep.terms;
    }

-- ---- a plan

passes : (kept : Bool) (rule : ℕ) (other : Option ℕ) → kept ≡ true → other ≡ None → unless_broken kept rule other ≡ None
passes true rule other holds none = none
passes false rule other fails none = cc

pub grown-is-plan : (parts : PlanParts) → KeepSoFar parts → AreEnough parts → IsPlan parts
unfolding rule_broken name_rule_broken range_rule_broken use_rule_broken have_links are_within_load
grown-is-plan parts keep enough =
    let groups = groups-from parts keep.groups in
    let ticks = (parts.rounds + parts.tail) * length parts.links in
    let load = load_in parts.requests parts.callers in
    let within = and_from (nat_le load 262144) (nat_le ticks 524288) (le-leb load 262144 keep.load) (le-leb ticks 524288 enough.ticks) in
    let uses = passes (are_unclosed parts) 13 _ keep.unclosed (passes (are_within_load parts) 14 _ within (passes (pours_are_taken parts) 19 _ keep.pours (passes (quotas_are_fit parts) 23 _ groups.fit (passes (moves_are_fit parts) 24 None keep.moves refl)))) in
    let range = passes (are_in_range parts) 8 _ keep.range (passes (quotas_are_in_range parts) 8 _ groups.range (passes (are_few parts) 9 _ keep.few (passes (groups_are_few parts) 9 _ groups.few (passes (are_joined parts) 12 _ keep.joined uses)))) in
    let names = passes (have_names parts) 6 _ keep.names (passes (groups_have_names parts) 6 _ groups.names (passes (are_there parts) 7 _ keep.there (passes (groups_are_there parts) 7 _ groups.there range))) in
    record {
      planned = keep.planned;
      terms = keep.terms;
      kept = passes (have_version parts) 1 _ keep.version (passes (groups_have_version parts) 1 _ groups.version (passes (have_links parts) 2 _ (le-leb 1 (length parts.links) enough.links) names));
    }
