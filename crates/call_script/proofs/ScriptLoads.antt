-- The load of a script, of operations one after the other, and of the operations of all callers.
use Rattle.std.proofs.Common.{◌≡◌, Some, None, ℕ, ◌+◌, ◌*◌, ◌≤◌, ◌<◌, Bool, true, List, [], ◌∷◌, ◌++◌, length, drop, get_or, refl, sym, ap, ◌∙◌, append_assoc, inl, inr, arith}
use Rattle.std.proofs.lemmas.Bool.{and_parts, cases_Bool, lt-leb, le-leb, leb-true, leb-false}
use Rattle.std.proofs.lemmas.List.{drop_all}
use Rattle.std.proofs.lemmas.Option.{same_Some}
use Rattle.std.specs.List.{list_all}
use Rattle.std.specs.Prelude.{nat_le}
use Rattle.net_units.specs.Limits.{most_packets}
use Rattle.call_script.specs.Loads.{within_load}
use Rattle.call_script.proofs.Walks.{left-at}
use Rattle.std.proofs.lemmas.List.{append-nil}
use Rattle.link_steps.specs.Lists.{Each}
use Rattle.net_units.specs.Numbers.{channel_number}
use Rattle.call_script.specs.Growing.{add_op, new_caller}
use Rattle.call_script.specs.Operations.{attributes_of}
use Rattle.call_script.specs.Rules.{hops_of, amount_in, load_over, load_of, loads_with, loads_after, ops_load, ops_over, load_in, loads_in}
use Rattle.call_script.specs.declared.attributes.Way.{Way}
use Rattle.call_script.specs.declared.attributes.Way.TheVariants.{Nowhere, OverRoute, OverLink}
use Rattle.call_script.specs.declared.entries.CallerEntry.{CallerEntry}
use Rattle.call_script.specs.declared.entries.RequestEntry.{RequestEntry}
use Rattle.call_script.specs.declared.operations.Op.{Op}
use Rattle.call_script.proofs.OneMoreOperation.{get-before}
use Rattle.call_script.proofs.OperationTable.{HasHops, WayIsThere, way-there}

-- ---- one list of operations after the other

pub loads-append : (loads : List ℕ) (xs ys : List Op) → loads_after loads (xs ++ ys) ≡ loads_after (loads_after loads xs) ys
unfolding loads_after
loads-append loads [] ys = refl
loads-append loads (op ∷ xs) ys = loads-append (loads_with loads op) xs ys

pub load-append : (requests : List RequestEntry) (loads : List ℕ) (xs ys : List Op) → ops_load requests loads (xs ++ ys) ≡ ops_load requests loads xs + ops_load requests (loads_after loads xs) ys
unfolding ops_load loads_after
load-append requests loads [] ys = omega arith
load-append requests loads (op ∷ xs) ys = (let rest = load-append requests (loads_with loads op) xs ys in omega (arith, rest))

-- one operation more
load-one : (requests : List RequestEntry) (loads : List ℕ) (op : Op) → ops_load requests loads (op ∷ []) ≡ load_of requests loads op
unfolding ops_load
load-one requests loads op = omega arith

loads-one : (loads : List ℕ) (op : Op) → loads_after loads (op ∷ []) ≡ loads_with loads op
unfolding loads_after
loads-one loads op = refl

pub load-push : (requests : List RequestEntry) (loads : List ℕ) (ops : List Op) (op : Op) → ops_load requests loads (ops ++ op ∷ []) ≡ ops_load requests loads ops + load_of requests (loads_after loads ops) op
load-push requests loads ops op = load-append requests loads ops (op ∷ []) ∙ ap (λ (n : ℕ). ops_load requests loads ops + n) (load-one requests (loads_after loads ops) op)

pub loads-push : (loads : List ℕ) (ops : List Op) (op : Op) → loads_after loads (ops ++ op ∷ []) ≡ loads_with (loads_after loads ops) op
loads-push loads ops op = loads-append loads ops (op ∷ []) ∙ loads-one (loads_after loads ops) op

-- ---- a loop over them

pub load-at-hand : (requests : List RequestEntry) (loads : List ℕ) (ops : List Op) (i : ℕ) (op : Op) → i < length ops → op ≡ get_or ops i op
    → ops_load requests loads (drop i ops) ≡ load_of requests loads op + ops_load requests (loads_with loads op) (drop (i + 1) ops)
unfolding ops_load
load-at-hand requests loads ops i op within is = rw (left-at ops i op within is) refl

pub loads-at-hand : (loads : List ℕ) (ops : List Op) (i : ℕ) (op : Op) → i < length ops → op ≡ get_or ops i op → loads_after loads (drop i ops) ≡ loads_after (loads_with loads op) (drop (i + 1) ops)
unfolding loads_after
loads-at-hand loads ops i op within is = rw (left-at ops i op within is) refl

pub load-over : (requests : List RequestEntry) (loads : List ℕ) (ops : List Op) (i : ℕ) → length ops ≤ i → ops_load requests loads (drop i ops) ≡ 0
unfolding ops_load
load-over requests loads ops i past = rw (drop_all i ops past) refl

pub loads-over : (loads : List ℕ) (ops : List Op) (i : ℕ) → length ops ≤ i → loads_after loads (drop i ops) ≡ loads
unfolding loads_after
loads-over loads ops i past = rw (drop_all i ops past) refl

here : (callers : List CallerEntry) (i : ℕ) (caller : CallerEntry) → i < length callers → caller ≡ get_or callers i caller → ops_over (drop i callers) ≡ caller.ops ++ ops_over (drop (i + 1) callers)
unfolding ops_over
here callers i caller within is = rw (left-at callers i caller within is) refl

-- the loads of all callers from the one at hand
pub over-at-hand : (requests : List RequestEntry) (loads : List ℕ) (callers : List CallerEntry) (i : ℕ) (caller : CallerEntry) → i < length callers → caller ≡ get_or callers i caller
    → ops_load requests loads (ops_over (drop i callers)) ≡ ops_load requests loads caller.ops + ops_load requests (loads_after loads caller.ops) (ops_over (drop (i + 1) callers))
over-at-hand requests loads callers i caller within is = ap (ops_load requests loads) (here callers i caller within is) ∙ load-append requests loads caller.ops (ops_over (drop (i + 1) callers))

pub over-past : (requests : List RequestEntry) (loads : List ℕ) (callers : List CallerEntry) (i : ℕ) → length callers ≤ i → ops_load requests loads (ops_over (drop i callers)) ≡ 0
unfolding ops_load ops_over
over-past requests loads callers i past = rw (drop_all i callers past) refl

-- the tests of those that are left
pub tests-left : {X : Type 0} (test : X → Bool) (xs : List X) (i : ℕ) (x : X) → i < length xs → x ≡ get_or xs i x → list_all test (drop i xs) ≡ true → list_all test (drop (i + 1) xs) ≡ true
tests-left test xs i x within is all = (and_parts (test x) _ (sym (ap (list_all test) (left-at xs i x within is)) ∙ all)).1

-- ---- within the limit

pub load-above : (load : ℕ) → most_packets < load → None ≡ within_load load
load-above load over = rw (lt-leb load most_packets over) refl

pub load-inside : (load : ℕ) → load ≤ most_packets → Some load ≡ within_load load
load-inside load within = rw (le-leb load most_packets within) refl

pub none-within : (load : ℕ) → None ≡ within_load load → most_packets < load
none-within load none = elim (cases_Bool (nat_le load most_packets)) [
  | inl within ↦ absurd (let clash : None ≡ Some load = none ∙ sym (load-inside load (leb-true load most_packets within)) in cc)
  | inr over ↦ leb-false load most_packets over
]

pub some-within : (load sum : ℕ) → Some sum ≡ within_load load → (sum ≡ load) × (load ≤ most_packets)
some-within load sum some = elim (cases_Bool (nat_le load most_packets)) [
  | inl within ↦ (same_Some sum load (some ∙ sym (load-inside load (leb-true load most_packets within))), leb-true load most_packets within)
  | inr over ↦ absurd (let clash : Some sum ≡ None = some ∙ sym (load-above load (leb-false load most_packets over)) in cc)
]

-- ---- the operations of all callers

pub added-over : (op : Op) (caller : CallerEntry) (callers : List CallerEntry) → ops_over (add_op op (caller ∷ callers)) ≡ ops_over (caller ∷ callers) ++ op ∷ []
unfolding ops_over
added-over op caller [] = append-nil (caller.ops ++ op ∷ []) ∙ ap (λ ops. ops ++ op ∷ []) (sym (append-nil caller.ops))
added-over op caller (next ∷ callers) = ap (λ ops. caller.ops ++ ops) (added-over op next callers) ∙ sym (append_assoc caller.ops (ops_over (next ∷ callers)) (op ∷ []))

pub over-push : (callers : List CallerEntry) (caller : CallerEntry) → ops_over (callers ++ caller ∷ []) ≡ ops_over callers ++ caller.ops
unfolding ops_over
over-push [] caller = append-nil caller.ops
over-push (first ∷ callers) caller = ap (λ ops. first.ops ++ ops) (over-push callers caller) ∙ sym (append_assoc first.ops (ops_over callers) caller.ops)

pub new-over : (name : List ℕ) (group : ℕ) (callers : List CallerEntry) → ops_over (callers ++ new_caller name group ∷ []) ≡ ops_over callers
new-over name group callers = over-push callers (new_caller name group) ∙ append-nil (ops_over callers)

-- the load with one operation more
pub added-load : (requests : List RequestEntry) (op : Op) (callers : List CallerEntry) → load_in requests (add_op op callers) ≤ load_in requests callers + load_of requests (loads_in callers) op
added-load requests op [] = omega arith
added-load requests op (caller ∷ callers) = (let more = ap (ops_load requests []) (added-over op caller callers) ∙ load-push requests [] (ops_over (caller ∷ callers)) op in omega (arith, more))

-- and what each request has to carry
pub added-loads : (op : Op) (caller : CallerEntry) (callers : List CallerEntry) → loads_in (add_op op (caller ∷ callers)) ≡ loads_with (loads_in (caller ∷ callers)) op
added-loads op caller callers = ap (loads_after []) (added-over op caller callers) ∙ loads-push [] (ops_over (caller ∷ callers)) op

-- ---- one request more

pub load-more : (requests : List RequestEntry) (entry : RequestEntry) (loads : List ℕ) (ops : List Op) → Each (HasHops requests) ops → ops_load (requests ++ entry ∷ []) loads ops ≡ ops_load requests loads ops
unfolding ops_load
load-more requests entry loads [] have = refl
load-more requests entry loads (op ∷ ops) have =
    ap (λ (n : ℕ). n + ops_load (requests ++ entry ∷ []) (loads_with loads op) ops) (over (attributes_of op).way (amount_in loads (attributes_of op).amount) (way-there requests op have.0))
    ∙ ap (λ (n : ℕ). load_of requests loads op + n) (load-more requests entry (loads_with loads op) ops have.1)
  where
    over : (way : Way) (n : ℕ) → WayIsThere requests way → load_over (requests ++ entry ∷ []) way n ≡ load_over requests way n
    over Nowhere n there = refl
    over (OverRoute chan) n there = ap (λ found. n * hops_of found) (get-before requests (entry ∷ []) (channel_number chan) there)
    over (OverLink link) n there = refl
