-- A caller of a plan has few operations: a channel is opened once, closed once and joined once at most, and few packets are sent and
-- poured.
use Rattle.std.proofs.Common.{◌≡◌, ℕ, zero, suc, ◌+◌, ◌*◌, ◌<◌, ◌≤◌, Bool, true, false, not, eqb, Option, Some, None, List, [], ◌∷◌, ◌++◌, length, refl, sym, ap, ◌∙◌, subst, inl, inr, append_assoc, arith}
use Rattle.run_engine.proofs.Words.{cases_Bool, and_parts, eqb-true, leb-true, ne_eqb, length-append, length-map, same_Some, slice_get_within, list_all, list_any, slice_get, AllByRecursion, IsDistinct, nat_le, channel_number, ChanNo, Each, total, PlanParts, openings_in, openings_of, opening_of, HasTerms, IsPlan}
use Rattle.std.proofs.lemmas.Map.Steps.{length-le_from_distinct_below}
use Rattle.std.proofs.lemmas.Nat.{mul-le}
use Rattle.call_script.specs.Operations.{attributes_of}
use Rattle.call_script.specs.Rules.{are_within_load, each_after, hops_of, is_after, is_apart, is_in, load_in, load_of, loads_after, loads_with, named, op_in_range, ops_load, ops_over}
use Rattle.call_script.specs.declared.entries.CallerEntry.{CallerEntry}
use Rattle.call_script.specs.declared.entries.RequestEntry.{RequestEntry}
use Rattle.call_script.specs.declared.operations.Op.{Op}
use Rattle.call_script.specs.declared.operations.Op.TheVariants.{Open, Send, Close, Move}
use Rattle.call_script.specs.declared.roles.Role.{Role}
use Rattle.call_script.specs.declared.roles.Role.TheVariants as role
use Rattle.link_steps.proofs.ListParts.{Each-at}
use Rattle.call_script.proofs.Growing.{few-in, ranges-in}
use Rattle.call_script.proofs.ScriptLoads.{load-append}
use Rattle.call_script.proofs.OpeningsInOrder.{opened-has}
use Rattle.call_script.proofs.OneOwner.{any-later, twice-not, now-has}
use Rattle.call_script.proofs.RulesAreKept.{each-of, fresh-some, is_fresh, keeps-rules, moves-in, unclosed-in, used-in}

-- ---- operations by their kinds

abbrev listed : Option ℕ → List ℕ
listed None = []
listed (Some chan) = chan ∷ []

-- the channels to which operations are this
abbrev pub channels_in : Role → List Op → List ℕ
channels_in own [] = []
channels_in own (op ∷ ops) = listed (named own op) ++ channels_in own ops

-- those that plan packets of their own
abbrev pub carries : Op → ℕ
carries op = is_fresh (attributes_of op).amount

-- those are of a packet at least
abbrev pub IsLoaded : List RequestEntry → Op → Type 0
IsLoaded requests op = (loads : List ℕ) → carries op ≤ load_of requests loads op

carried-load : (requests : List RequestEntry) (loads : List ℕ) (ops : List Op) → Each (IsLoaded requests) ops → total carries ops ≤ ops_load requests loads ops
unfolding ops_load
carried-load requests loads [] each = omega arith
carried-load requests loads (op ∷ ops) each = (let rest = carried-load requests (loads_with loads op) ops each.1 in let here = each.0 loads in omega (arith, rest, here))

kinds-most : (n : ℕ) (ops : List Op) → length ops ≤ length (openings_in n ops) + length (channels_in role.Closes ops) + length (channels_in role.Joins ops) + total carries ops
unfolding openings_in
kinds-most n [] = omega arith
kinds-most n (Open chan ∷ ops) = (let rest = kinds-most n ops in omega (arith, rest))
kinds-most n (_ ∷ ops) = (let rest = kinds-most n ops in omega (arith, rest))

-- ---- a caller among all

openings-most : (first : ℕ) (callers : List CallerEntry) (n at : ℕ) (caller : CallerEntry) → slice_get callers n ≡ Some caller → first + n ≡ at → length (openings_in at caller.ops) ≤ length (openings_of first callers)
unfolding openings_of
openings-most first [] n at caller found same = absurd (let clash : None ≡ Some caller = found in cc)
openings-most first (c ∷ callers) zero at caller found same =
    let here : first ≡ at = omega (arith, same) in
    let own = same_Some c caller found in
    let moved : length (openings_in first c.ops) ≡ length (openings_in at caller.ops) = λ i. length (openings_in (here i) ((own i).ops)) in
    let more = length-append (openings_in first c.ops) (openings_of (suc first) callers) in
    omega (arith, moved, more)
openings-most first (c ∷ callers) (suc n) at caller found same =
    let rest = openings-most (suc first) callers n at caller found (omega (arith, same)) in
    let more = length-append (openings_in first c.ops) (openings_of (suc first) callers) in
    omega (arith, rest, more)

-- the load of its operations, by what each request has to carry where they begin
record LoadIsWithin (requests : List RequestEntry) (loads : List ℕ) (callers : List CallerEntry) (caller : CallerEntry) : Type 0 where
  started : List ℕ
  most : ops_load requests started caller.ops ≤ ops_load requests loads (ops_over callers)

load-most : (requests : List RequestEntry) (loads : List ℕ) (callers : List CallerEntry) (n : ℕ) (caller : CallerEntry) → slice_get callers n ≡ Some caller → LoadIsWithin requests loads callers caller
unfolding ops_over
load-most requests loads [] n caller found = absurd (let clash : None ≡ Some caller = found in cc)
load-most requests loads (c ∷ callers) zero caller found =
    let own = ap (λ (e : CallerEntry). ops_load requests loads e.ops) (same_Some c caller found) in
    let all = load-append requests loads c.ops (ops_over callers) in
    record { started = loads; most = omega (arith, own, all) }
load-most requests loads (c ∷ callers) (suc n) caller found =
    let rest = load-most requests (loads_after loads c.ops) callers n caller found in
    let less = rest.most in
    let all = load-append requests loads c.ops (ops_over callers) in
    record { started = rest.started; most = omega (arith, less, all) }

-- ---- no channel is named twice

not-not : (b : Bool) → b ≡ true → not b ≡ true → ⊥
not-not true on off = cc
not-not false on off = cc

-- what adds names is what asks is asked of
abbrev IsAsked : Role → Role → Type 0
IsAsked asks adds = (op : Op) (chan : ℕ) → named adds op ≡ Some chan → named asks op ≡ Some chan

-- what an operation names apart from what is above, is apart from a channel named there
apart-next : (asks adds : Role) → IsAsked asks adds → (k : ℕ) (above : List Op) (op : Op) (rest : List ℕ) (told : Option ℕ) → named adds op ≡ told → is_apart asks adds above op ≡ true → list_any (is_in adds k) above ≡ true
    → AllByRecursion (λ y. eqb k y ≡ false) rest → AllByRecursion (λ y. eqb k y ≡ false) (listed told ++ rest)
apart-next asks adds asked k above op rest None is off before others = others
apart-next asks adds asked k above op rest (Some chan) is off before others =
    let not_there : not (list_any (is_in adds chan) above) ≡ true = rw (asked op chan is) at off in
    (ne_eqb k chan (λ same. not-not (list_any (is_in adds chan) above) (ap (λ n. list_any (is_in adds n) above) (sym same) ∙ before) not_there), others)

-- a channel that was named above is named no more
named-apart : (asks adds : Role) → IsAsked asks adds → (k : ℕ) (above ops : List Op) → each_after (is_apart asks adds) above ops ≡ true → list_any (is_in adds k) above ≡ true → AllByRecursion (λ y. eqb k y ≡ false) (channels_in adds ops)
unfolding each_after
named-apart asks adds asked k above [] kept before = tt
named-apart asks adds asked k above (op ∷ ops) kept before =
    let split = and_parts (is_apart asks adds above op) (each_after (is_apart asks adds) (above ++ op ∷ []) ops) kept in
    apart-next asks adds asked k above op (channels_in adds ops) (named adds op) refl split.0 before (named-apart asks adds asked k (above ++ op ∷ []) ops split.1 (any-later (is_in adds k) above (op ∷ []) before))

once-next : (asks adds : Role) → IsAsked asks adds → (above : List Op) (op : Op) (ops : List Op) (told : Option ℕ) → named adds op ≡ told → each_after (is_apart asks adds) (above ++ op ∷ []) ops ≡ true → IsDistinct eqb (channels_in adds ops) → IsDistinct eqb (listed told ++ channels_in adds ops)
unfolding IsDistinct
once-next asks adds asked above op ops None is later others = others
once-next asks adds asked above op ops (Some chan) is later others = (named-apart asks adds asked chan (above ++ op ∷ []) ops later (now-has adds chan above op is), others)

pub named-once : (asks adds : Role) → IsAsked asks adds → (above ops : List Op) → each_after (is_apart asks adds) above ops ≡ true → IsDistinct eqb (channels_in adds ops)
unfolding each_after IsDistinct
named-once asks adds asked above [] kept = tt
named-once asks adds asked above (op ∷ ops) kept =
    let later = (and_parts (is_apart asks adds above op) (each_after (is_apart asks adds) (above ++ op ∷ []) ops) kept).1 in
    once-next asks adds asked above op ops (named adds op) refl later (named-once asks adds asked (above ++ op ∷ []) ops later)

module _ (parts : PlanParts) (n : ℕ) (caller : CallerEntry) (plan : IsPlan parts) (found : slice_get parts.callers n ≡ Some caller) where
  -- each is of a request
  below-next : (asks adds : Role) → IsAsked asks adds → (above : List Op) (op : Op) (ops : List Op) → caller.ops ≡ above ++ op ∷ ops → is_after asks role.Opens above op ≡ true → (q : ℕ) (told : Option ℕ) → named adds op ≡ told
      → (list_any (eqb q) (channels_in adds ops) ≡ true → q < length parts.requests) → list_any (eqb q) (listed told ++ channels_in adds ops) ≡ true → q < length parts.requests
  below-next asks adds asked above op ops are after q None is rest among = rest among
  below-next asks adds asked above op ops are after q (Some chan) is rest among = elim (cases_Bool (eqb q chan)) [
    | inl same ↦ (let opened : not (not (list_any (is_in role.Opens chan) above)) ≡ true = rw (asked op chan is) at after in
        let there = any-later (is_in role.Opens chan) above (op ∷ ops) (twice-not (list_any (is_in role.Opens chan) above) opened) in
        let has = opened-has parts n chan caller plan.planned found (ap (list_any (is_in role.Opens chan)) are ∙ there) in
        let inside = slice_get_within parts.requests chan has.entry has.found in
        let own = eqb-true q chan same in
        omega (arith, inside, own))
    | inr other ↦ rest (rw other at among)
  ]

  named-below : (asks adds : Role) → IsAsked asks adds → (above ops : List Op) → caller.ops ≡ above ++ ops → each_after (is_after asks role.Opens) above ops ≡ true → (q : ℕ) → list_any (eqb q) (channels_in adds ops) ≡ true → q < length parts.requests
  unfolding each_after
  named-below asks adds asked above [] are opened q any = absurd (let clash : false ≡ true = any in cc)
  named-below asks adds asked above (op ∷ ops) are opened q any =
      let split = and_parts (is_after asks role.Opens above op) (each_after (is_after asks role.Opens) (above ++ op ∷ []) ops) opened in
      below-next asks adds asked above op ops are split.0 q (named adds op) refl (named-below asks adds asked (above ++ op ∷ []) ops (are ∙ sym (append_assoc above (op ∷ []) ops)) split.1 q) any

  -- ---- the packets of each operation

  send-loaded : (chan : ChanNo) (count : ℕ) → list_any (is_in role.Opens (channel_number chan)) caller.ops ≡ true → 1 ≤ count → 1 ≤ count * hops_of (slice_get parts.requests (channel_number chan))
  send-loaded chan count any some =
      let opened = opened-has parts n (channel_number chan) caller plan.planned found any in
      let least = (Each-at HasTerms parts.requests (channel_number chan) opened.entry plan.terms opened.found).route.least in
      let hops : 1 ≤ hops_of (slice_get parts.requests (channel_number chan)) = subst (λ entry. 1 ≤ hops_of entry) (sym opened.found) least in
      mul-le 1 1 count (hops_of (slice_get parts.requests (channel_number chan))) some hops

  all-loaded : (above ops : List Op) → caller.ops ≡ above ++ ops → list_all op_in_range ops ≡ true → each_after (is_after role.Uses role.Opens) above ops ≡ true → Each (IsLoaded parts.requests) ops
  unfolding each_after
  all-loaded above [] are range opened = tt
  all-loaded above (op ∷ ops) are range opened = (by op are ranges.0 split.0, all-loaded (above ++ op ∷ []) ops (are ∙ sym (append_assoc above (op ∷ []) ops)) ranges.1 split.1) where
    ranges : (op_in_range op ≡ true) × (list_all op_in_range ops ≡ true)
    ranges = and_parts (op_in_range op) (list_all op_in_range ops) range

    split : (is_after role.Uses role.Opens above op ≡ true) × (each_after (is_after role.Uses role.Opens) (above ++ op ∷ []) ops ≡ true)
    split = and_parts (is_after role.Uses role.Opens above op) (each_after (is_after role.Uses role.Opens) (above ++ op ∷ []) ops) opened

    by : (o : Op) → caller.ops ≡ above ++ o ∷ ops → op_in_range o ≡ true → is_after role.Uses role.Opens above o ≡ true → IsLoaded parts.requests o
    by (Send chan count gap size) at fits after =
        let there = any-later (is_in role.Opens (channel_number chan)) above (Send chan count gap size ∷ ops) (twice-not (list_any (is_in role.Opens (channel_number chan)) above) after) in
        λ loads. send-loaded chan count (ap (list_any (is_in role.Opens (channel_number chan))) at ∙ there) (fresh-some (attributes_of (Send chan count gap size)).amount loads fits)
    by (Move old new) at fits after = λ loads. omega arith
    by o at fits after = λ loads. fresh-some (attributes_of o).amount loads fits

-- ---- all of them

-- how many operations of each kind a caller has at most
pub record AreFew (caller : CallerEntry) (n : ℕ) : Type 0 where
  pub opens : length (openings_in n caller.ops) ≤ 1024
  pub closes : length (channels_in role.Closes caller.ops) ≤ 1024
  pub joins : length (channels_in role.Joins caller.ops) ≤ 1024
  pub carried : total carries caller.ops ≤ 262144

closes-asked : IsAsked role.Uses role.Closes
closes-asked (Close chan) c is = is
closes-asked _ c is = cc

pub kinds-few : (parts : PlanParts) (n : ℕ) (caller : CallerEntry) → IsPlan parts → slice_get parts.callers n ≡ Some caller → AreFew caller n
unfolding are_within_load
kinds-few parts n caller plan found =
    let rules = keeps-rules parts plan.kept in
    let used = used-in parts rules.there in
    let requests = (few-in parts rules.few).requests in
    let range = Each-at (λ (c : CallerEntry). list_all op_in_range c.ops ≡ true) parts.callers n caller (each-of (λ (c : CallerEntry). list_all op_in_range c.ops) parts.callers (ranges-in parts rules.range).ops) found in
    let opened = Each-at (λ (c : CallerEntry). each_after (is_after role.Uses role.Opens) [] c.ops ≡ true) parts.callers n caller (each-of (λ (c : CallerEntry). each_after (is_after role.Uses role.Opens) [] c.ops) parts.callers used.opened) found in
    let onto = Each-at (λ (c : CallerEntry). each_after (is_after role.Joins role.Opens) [] c.ops ≡ true) parts.callers n caller (each-of (λ (c : CallerEntry). each_after (is_after role.Joins role.Opens) [] c.ops) parts.callers used.onto_opened) found in
    let unclosed = Each-at (λ (c : CallerEntry). each_after (is_apart role.Uses role.Closes) [] c.ops ≡ true) parts.callers n caller (each-of (λ (c : CallerEntry). each_after (is_apart role.Uses role.Closes) [] c.ops) parts.callers (unclosed-in parts rules.unclosed).closed) found in
    let unjoined = Each-at (λ (c : CallerEntry). each_after (is_apart role.Joins role.Joins) [] c.ops ≡ true) parts.callers n caller (each-of (λ (c : CallerEntry). each_after (is_apart role.Joins role.Joins) [] c.ops) parts.callers (moves-in parts rules.moves).unjoined) found in
    let closes = length-le_from_distinct_below (channels_in role.Closes caller.ops) (length parts.requests) (named-once role.Uses role.Closes closes-asked [] caller.ops unclosed) (named-below parts n caller plan found role.Uses role.Closes closes-asked [] caller.ops refl opened) in
    let joins = length-le_from_distinct_below (channels_in role.Joins caller.ops) (length parts.requests) (named-once role.Joins role.Joins (λ op c is. is) [] caller.ops unjoined) (named-below parts n caller plan found role.Joins role.Joins (λ op c is. is) [] caller.ops refl onto) in
    let opens = openings-most 0 parts.callers n n caller found (omega arith) in
    let all = ap length plan.planned.openings ∙ length-map parts.requests opening_of in
    let within = load-most parts.requests [] parts.callers n caller found in
    let less = within.most in
    let most = leb-true (load_in parts.requests parts.callers) 262144 (and_parts (nat_le (load_in parts.requests parts.callers) 262144) _ rules.load).0 in
    let carried = carried-load parts.requests within.started caller.ops (all-loaded parts n caller plan found [] caller.ops refl range opened) in
    record { opens = omega (arith, opens, all, requests); closes = omega (arith, closes, requests); joins = omega (arith, joins, requests); carried = omega (arith, less, most, carried) }

-- 1,024 opens, closes and moves, and 262,144 sends and pours at most
pub ops-few : (parts : PlanParts) (n : ℕ) (caller : CallerEntry) → IsPlan parts → slice_get parts.callers n ≡ Some caller → length caller.ops ≤ 265216
ops-few parts n caller plan found =
    let few = kinds-few parts n caller plan found in
    let all = kinds-most n caller.ops in
    let opens = few.opens in
    let closes = few.closes in
    let joins = few.joins in
    let carried = few.carried in
    omega (arith, all, opens, closes, joins, carried)
