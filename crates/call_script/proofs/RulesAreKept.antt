-- A plan that breaks no rule keeps each: what the tests say of its parts.
use Rattle.std.proofs.Common.{◌≡◌, ℕ, ◌≤◌, Bool, true, false, not, Option, None, List, [], ◌∷◌, refl, arith}
use Rattle.std.proofs.lemmas.Bool.{and_from, leb-true, and_parts}
use Rattle.std.specs.List.{list_all}
use Rattle.std.specs.Prelude.{nat_le, ◌&&◌}
use Rattle.net_units.specs.Limits.{is_within}
use Rattle.link_steps.specs.Legal.{SubmitFits}
use Rattle.link_steps.specs.Lists.{Each}
use Rattle.call_script.specs.Broken.{unless_broken, use_rule_broken, range_rule_broken, name_rule_broken, rule_broken}
use Rattle.call_script.specs.Groups.{groups_have_version, groups_have_names, groups_are_there, quotas_are_in_range, groups_are_few, quotas_are_fit, KeepGroups}
use Rattle.call_script.specs.Parts.{PlanParts}
use Rattle.call_script.specs.declared.attributes.Amount.{Amount}
use Rattle.call_script.specs.declared.attributes.Amount.TheVariants.{Nothing, Fresh, Carried}
use Rattle.call_script.specs.Rules.{amount_in, amount_in_range, packets_in_range, have_version, have_links, have_names, route_is_there, pour_is_there, are_opened, all_after, all_apart, are_there, are_in_range, are_few, are_joined, are_unclosed, are_within_load, pours_are_taken, move_is_fit, moves_are_fit}
use Rattle.call_script.specs.declared.entries.CallerEntry.{CallerEntry}
use Rattle.call_script.specs.declared.roles.Role.TheVariants as role
use Rattle.call_script.proofs.GroupRulesStay.{groups-in}

-- ---- tests

pub not-true : (a : Bool) → not a ≡ true → a ≡ false
not-true true fails = cc
not-true false fails = refl

pub each-of : {X : Type 0} (test : X → Bool) (xs : List X) → list_all test xs ≡ true → Each (λ x. test x ≡ true) xs
each-of test [] all = tt
each-of test (x ∷ xs) all = (let split = and_parts (test x) (list_all test xs) all in (split.0, each-of test xs split.1))

pub from-low : (low high x : ℕ) → is_within low high x ≡ true → (low ≤ x) × (x ≤ high)
from-low low high x inside = (let split = and_parts (nat_le low x) (nat_le x high) inside in (leb-true low x split.0, leb-true x high split.1))

pub packets-fit : (count gap size : ℕ) → packets_in_range count gap size ≡ true → SubmitFits count gap size
packets-fit count gap size inside =
    let first = and_parts (is_within 1 262144 count && is_within 1 1048576 gap) (is_within 1 65536 size) inside in
    let second = and_parts (is_within 1 262144 count) (is_within 1 1048576 gap) first.0 in
    let counts = from-low 1 262144 count second.0 in
    let gaps = from-low 1 1048576 gap second.1 in
    let sizes = from-low 1 65536 size first.1 in
    record { count_least = counts.0; count_most = counts.1; gap_least = gaps.0; gap_most = gaps.1; size_least = sizes.0; size_most = sizes.1 }

-- an operation that plans packets of its own plans one at least
abbrev pub is_fresh : Amount → ℕ
is_fresh Nothing = 0
is_fresh (Fresh count gap size) = 1
is_fresh (Carried chan) = 0

pub fresh-some : (amount : Amount) (loads : List ℕ) → amount_in_range amount ≡ true → is_fresh amount ≤ amount_in loads amount
fresh-some Nothing loads range = omega arith
fresh-some (Fresh count gap size) loads range = (packets-fit count gap size range).count_least
fresh-some (Carried chan) loads range = omega arith

-- ---- the rules

pub record KeepsRules (parts : PlanParts) : Type 0 where
  pub version : have_version parts ≡ true
  pub links : have_links parts ≡ true
  pub names : have_names parts ≡ true
  pub there : are_there parts ≡ true
  pub range : are_in_range parts ≡ true
  pub few : are_few parts ≡ true
  pub joined : are_joined parts ≡ true
  pub unclosed : are_unclosed parts ≡ true
  pub load : are_within_load parts ≡ true
  pub pours : pours_are_taken parts ≡ true
  pub moves : moves_are_fit parts ≡ true
  pub groups : KeepGroups parts.version parts.groups parts.links parts.callers

kept-rule : (kept : Bool) (rule : ℕ) (other : Option ℕ) → unless_broken kept rule other ≡ None → (kept ≡ true) × (other ≡ None)
kept-rule true rule other none = (refl, none)
kept-rule false rule other none = cc

pub keeps-rules : (parts : PlanParts) → rule_broken parts ≡ None → KeepsRules parts
unfolding rule_broken name_rule_broken range_rule_broken use_rule_broken
keeps-rules parts none =
    let r1 = kept-rule (have_version parts) 1 _ none in
    let g1 = kept-rule (groups_have_version parts) 1 _ r1.1 in
    let r2 = kept-rule (have_links parts) 2 _ g1.1 in
    let r6 = kept-rule (have_names parts) 6 _ r2.1 in
    let g6 = kept-rule (groups_have_names parts) 6 _ r6.1 in
    let r7 = kept-rule (are_there parts) 7 _ g6.1 in
    let g7 = kept-rule (groups_are_there parts) 7 _ r7.1 in
    let r8 = kept-rule (are_in_range parts) 8 _ g7.1 in
    let g8 = kept-rule (quotas_are_in_range parts) 8 _ r8.1 in
    let r9 = kept-rule (are_few parts) 9 _ g8.1 in
    let g9 = kept-rule (groups_are_few parts) 9 _ r9.1 in
    let r12 = kept-rule (are_joined parts) 12 _ g9.1 in
    let r13 = kept-rule (are_unclosed parts) 13 _ r12.1 in
    let r14 = kept-rule (are_within_load parts) 14 _ r13.1 in
    let r19 = kept-rule (pours_are_taken parts) 19 _ r14.1 in
    let g23 = kept-rule (quotas_are_fit parts) 23 _ r19.1 in
    let r24 = kept-rule (moves_are_fit parts) 24 None g23.1 in
    let groups = groups-in parts (record { version = g1.0; names = g6.0; there = g7.0; range = g8.0; few = g9.0; fit = g23.0 }) in
    record { version = r1.0; links = r2.0; names = r6.0; there = r7.0; range = r8.0; few = r9.0; joined = r12.0; unclosed = r13.0; load = r14.0; pours = r19.0; moves = r24.0; groups = groups }

-- ---- the rules on scripts, in their parts

-- what routes, pours, sends, closes and moves use is there
pub record HasUsed (parts : PlanParts) : Type 0 where
  pub routes : list_all (route_is_there parts.links) parts.requests ≡ true
  pub pours : list_all (λ (c : CallerEntry). list_all (pour_is_there parts.links) c.ops) parts.callers ≡ true
  pub opened : all_after role.Uses role.Opens parts.callers ≡ true
  pub onto_opened : all_after role.Joins role.Opens parts.callers ≡ true

pub used-in : (parts : PlanParts) → are_there parts ≡ true → HasUsed parts
unfolding are_there
used-in parts there =
    let first = and_parts (list_all (route_is_there parts.links) parts.requests && list_all (λ (c : CallerEntry). list_all (pour_is_there parts.links) c.ops) parts.callers) (are_opened parts.callers) there in
    let second = and_parts (list_all (route_is_there parts.links) parts.requests) (list_all (λ (c : CallerEntry). list_all (pour_is_there parts.links) c.ops) parts.callers) first.0 in
    let opened = and_parts (all_after role.Uses role.Opens parts.callers) (all_after role.Joins role.Opens parts.callers) first.1 in
    record { routes = second.0; pours = second.1; opened = opened.0; onto_opened = opened.1 }

pub used-from : (parts : PlanParts) → HasUsed parts → are_there parts ≡ true
unfolding are_there
used-from parts has =
    and_from (list_all (route_is_there parts.links) parts.requests && list_all (λ (c : CallerEntry). list_all (pour_is_there parts.links) c.ops) parts.callers) (are_opened parts.callers)
    (and_from (list_all (route_is_there parts.links) parts.requests) (list_all (λ (c : CallerEntry). list_all (pour_is_there parts.links) c.ops) parts.callers) has.routes has.pours)
    (and_from (all_after role.Uses role.Opens parts.callers) (all_after role.Joins role.Opens parts.callers) has.opened has.onto_opened)

-- what is used wasn't closed, and what is kept in use wasn't left
pub record AreUnclosed (parts : PlanParts) : Type 0 where
  pub closed : all_apart role.Uses role.Closes parts.callers ≡ true
  pub left : all_apart role.Keeps role.Leaves parts.callers ≡ true

pub unclosed-in : (parts : PlanParts) → are_unclosed parts ≡ true → AreUnclosed parts
unfolding are_unclosed
unclosed-in parts kept = (let split = and_parts (all_apart role.Uses role.Closes parts.callers) (all_apart role.Keeps role.Leaves parts.callers) kept in record { closed = split.0; left = split.1 })

pub unclosed-from : (parts : PlanParts) → AreUnclosed parts → are_unclosed parts ≡ true
unfolding are_unclosed
unclosed-from parts are = and_from (all_apart role.Uses role.Closes parts.callers) (all_apart role.Keeps role.Leaves parts.callers) are.closed are.left

-- moves fit, and what is joined was neither used nor joined
pub record AreMoved (parts : PlanParts) : Type 0 where
  pub fit : list_all (λ (c : CallerEntry). list_all (move_is_fit parts.links parts.requests) c.ops) parts.callers ≡ true
  pub unused : all_apart role.Joins role.Uses parts.callers ≡ true
  pub unjoined : all_apart role.Joins role.Joins parts.callers ≡ true

pub moves-in : (parts : PlanParts) → moves_are_fit parts ≡ true → AreMoved parts
unfolding moves_are_fit
moves-in parts kept =
    let first = and_parts (list_all (λ (c : CallerEntry). list_all (move_is_fit parts.links parts.requests) c.ops) parts.callers && all_apart role.Joins role.Uses parts.callers) (all_apart role.Joins role.Joins parts.callers) kept in
    let second = and_parts (list_all (λ (c : CallerEntry). list_all (move_is_fit parts.links parts.requests) c.ops) parts.callers) (all_apart role.Joins role.Uses parts.callers) first.0 in
    record { fit = second.0; unused = second.1; unjoined = first.1 }

pub moves-from : (parts : PlanParts) → AreMoved parts → moves_are_fit parts ≡ true
unfolding moves_are_fit
moves-from parts are =
    and_from (list_all (λ (c : CallerEntry). list_all (move_is_fit parts.links parts.requests) c.ops) parts.callers && all_apart role.Joins role.Uses parts.callers) (all_apart role.Joins role.Joins parts.callers)
    (and_from (list_all (λ (c : CallerEntry). list_all (move_is_fit parts.links parts.requests) c.ops) parts.callers) (all_apart role.Joins role.Uses parts.callers) are.fit are.unused) are.unjoined
