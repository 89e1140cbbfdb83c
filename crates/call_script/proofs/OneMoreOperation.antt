-- One more element after a list, and one more operation after those of the last caller.
use Rattle.std.proofs.Common.{◌≡◌, ℕ, zero, suc, ◌+◌, ◌<◌, ◌⊎◌, Bool, true, Some, List, [], ◌∷◌, ◌++◌, length, refl, sym, ap, ◌∙◌, subst, inl, inr, append_assoc, arith}
use Rattle.std.proofs.lemmas.Bool.{and_from, and_parts}
use Rattle.std.proofs.lemmas.List.{append-nil}
use Rattle.std.proofs.lemmas.List.Folds.{list_all-append}
use Rattle.std.proofs.lemmas.Option.{same_Some}
use Rattle.std.specs.List.{list_all, slice_get}
use Rattle.std.specs.Prelude.{◌&&◌}
use Rattle.call_script.specs.Growing.{add_op, last_ops, new_caller, with_its_op}
use Rattle.call_script.specs.Parts.{Opening, opened_by, openings_in, openings_of}
use Rattle.call_script.specs.Rules.{each_after, caller_names}
use Rattle.call_script.specs.declared.entries.CallerEntry.{CallerEntry}
use Rattle.call_script.specs.declared.operations.Op.{Op}

-- ---- one element more

pub all-more : {X : Type 0} (test : X → Bool) (xs : List X) (x : X) → list_all test xs ≡ true → test x ≡ true → list_all test (xs ++ x ∷ []) ≡ true
all-more test xs x all one = list_all-append test xs (x ∷ []) ∙ and_from (list_all test xs) (test x && true) all (and_from (test x) true one refl)

pub after-more : {X : Type 0} (test : List X → X → Bool) (above xs : List X) (x : X) → each_after test above xs ≡ true → test (above ++ xs) x ≡ true → each_after test above (xs ++ x ∷ []) ≡ true
unfolding each_after
after-more test above [] x each one = and_from (test above x) true (subst (λ l. test l x ≡ true) (append-nil above) one) refl
after-more test above (y ∷ xs) x each one =
    let split = and_parts (test above y) (each_after test (above ++ y ∷ []) xs) each in
    and_from (test above y) (each_after test (above ++ y ∷ []) (xs ++ x ∷ [])) split.0
    (after-more test (above ++ y ∷ []) xs x split.1 (subst (λ l. test l x ≡ true) (sym (append_assoc above (y ∷ []) xs)) one))

pub get-before : {X : Type 0} (xs ys : List X) (n : ℕ) → n < length xs → slice_get (xs ++ ys) n ≡ slice_get xs n
get-before [] ys n below = absurd (omega arith)
get-before (x ∷ xs) ys zero below = refl
get-before (x ∷ xs) ys (suc n) below = get-before xs ys n (omega arith)

-- the one at an index is one of the list, or the one after them
pub get-more : {X : Type 0} (xs : List X) (x : X) (n : ℕ) (y : X) → slice_get (xs ++ x ∷ []) n ≡ Some y → (slice_get xs n ≡ Some y) ⊎ ((n ≡ length xs) × (x ≡ y))
get-more [] x zero y found = inr (refl, same_Some x y found)
get-more [] x (suc n) y found = cc
get-more (z ∷ xs) x zero y found = inl found
get-more (z ∷ xs) x (suc n) y found = by (get-more xs x n y found) where
  by : (slice_get xs n ≡ Some y) ⊎ ((n ≡ length xs) × (x ≡ y)) → (slice_get xs n ≡ Some y) ⊎ ((suc n ≡ length (z ∷ xs)) × (x ≡ y))
  by (inl old) = inl old
  by (inr new) = inr (ap suc new.0, new.1)

-- ---- one operation more

-- of the last caller of a list
pub added-last : (op : Op) (before : List CallerEntry) (caller : CallerEntry) → add_op op (before ++ caller ∷ []) ≡ before ++ with_its_op op caller ∷ []
added-last op [] caller = refl
added-last op (first ∷ []) caller = refl
added-last op (first ∷ next ∷ before) caller = ap (λ (callers : List CallerEntry). first ∷ callers) (added-last op (next ∷ before) caller)

pub last-of : (before : List CallerEntry) (caller : CallerEntry) → last_ops (before ++ caller ∷ []) ≡ caller.ops
last-of [] caller = refl
last-of (first ∷ []) caller = refl
last-of (first ∷ next ∷ before) caller = last-of (next ∷ before) caller

-- what the operations of each caller pass, those of the last caller pass
pub last-passes : (test : List Op → Bool) (callers : List CallerEntry) → test [] ≡ true → list_all (λ (c : CallerEntry). test c.ops) callers ≡ true → test (last_ops callers) ≡ true
last-passes test [] none all = none
last-passes test (caller ∷ []) none all = (and_parts (test caller.ops) true all).0
last-passes test (caller ∷ next ∷ callers) none all = last-passes test (next ∷ callers) none (and_parts (test caller.ops) (list_all (λ (c : CallerEntry). test c.ops) (next ∷ callers)) all).1

pub added-passes : (test : List Op → Bool) (op : Op) (callers : List CallerEntry) → list_all (λ (c : CallerEntry). test c.ops) callers ≡ true → test (last_ops callers ++ op ∷ []) ≡ true → list_all (λ (c : CallerEntry). test c.ops) (add_op op callers) ≡ true
added-passes test op [] all last = refl
added-passes test op (caller ∷ []) all last = and_from (test (caller.ops ++ op ∷ [])) true last refl
added-passes test op (caller ∷ next ∷ callers) all last =
    let split = and_parts (test caller.ops) (list_all (λ (c : CallerEntry). test c.ops) (next ∷ callers)) all in
    and_from (test caller.ops) (list_all (λ (c : CallerEntry). test c.ops) (add_op op (next ∷ callers))) split.0 (added-passes test op (next ∷ callers) split.1 last)

-- a test on each operation
pub added-all : (test : Op → Bool) (op : Op) (callers : List CallerEntry) → list_all (λ (c : CallerEntry). list_all test c.ops) callers ≡ true → test op ≡ true → list_all (λ (c : CallerEntry). list_all test c.ops) (add_op op callers) ≡ true
added-all test op callers all one = added-passes (list_all test) op callers all (all-more test (last_ops callers) op (last-passes (list_all test) callers refl all) one)

-- a test on each operation and those above it
pub added-after : (test : List Op → Op → Bool) (op : Op) (callers : List CallerEntry) → list_all (λ (c : CallerEntry). each_after test [] c.ops) callers ≡ true → test (last_ops callers) op ≡ true → list_all (λ (c : CallerEntry). each_after test [] c.ops) (add_op op callers) ≡ true
unfolding each_after
added-after test op callers all one = added-passes (each_after test []) op callers all (after-more test [] (last_ops callers) op (last-passes (each_after test []) callers refl all) one)

pub added-names : (op : Op) (callers : List CallerEntry) → caller_names (add_op op callers) ≡ caller_names callers
added-names op [] = refl
added-names op (caller ∷ []) = refl
added-names op (caller ∷ next ∷ callers) = ap (λ (names : List (List ℕ)). caller.name ∷ names) (added-names op (next ∷ callers))

pub added-length : (op : Op) (callers : List CallerEntry) → length (add_op op callers) ≡ length callers
added-length op [] = refl
added-length op (caller ∷ []) = refl
added-length op (caller ∷ next ∷ callers) = ap suc (added-length op (next ∷ callers))

-- ---- what is opened

pub opens-more : (n : ℕ) (ops : List Op) (op : Op) → openings_in n (ops ++ op ∷ []) ≡ openings_in n ops ++ opened_by n op
unfolding openings_in
opens-more n [] op = append-nil (opened_by n op)
opens-more n (o ∷ ops) op = ap (λ (rest : List Opening). opened_by n o ++ rest) (opens-more n ops op) ∙ sym (append_assoc (opened_by n o) (openings_in n ops) (opened_by n op))

-- and one more caller
pub callers-more : (n : ℕ) (callers : List CallerEntry) (caller : CallerEntry) → openings_of n (callers ++ caller ∷ []) ≡ openings_of n callers ++ openings_in (n + length callers) caller.ops
unfolding openings_of
callers-more n [] caller = append-nil (openings_in n caller.ops) ∙ ap (λ k. openings_in k caller.ops) (omega arith)
callers-more n (first ∷ callers) caller =
    ap (λ (rest : List Opening). openings_in n first.ops ++ rest) (callers-more (suc n) callers caller ∙ ap (λ k. openings_of (suc n) callers ++ openings_in k caller.ops) (omega arith))
    ∙ sym (append_assoc (openings_in n first.ops) (openings_of (suc n) callers) (openings_in (n + suc (length callers)) caller.ops))

pub added-openings : (n at : ℕ) (op : Op) (caller : CallerEntry) (callers : List CallerEntry) → at ≡ n + length callers → openings_of n (add_op op (caller ∷ callers)) ≡ openings_of n (caller ∷ callers) ++ opened_by at op
unfolding openings_of
added-openings n at op caller [] same =
    let here : n ≡ at = omega (arith, same) in
    append-nil (openings_in n (caller.ops ++ op ∷ [])) ∙ opens-more n caller.ops op
    ∙ ap (λ (first : List Opening). first ++ opened_by n op) (sym (append-nil (openings_in n caller.ops)))
    ∙ ap (λ (k : ℕ). (openings_in n caller.ops ++ []) ++ opened_by k op) here
added-openings n at op caller (next ∷ callers) same =
    let after : at ≡ suc n + length callers = omega (arith, same) in
    ap (λ (rest : List Opening). openings_in n caller.ops ++ rest) (added-openings (suc n) at op next callers after)
    ∙ sym (append_assoc (openings_in n caller.ops) (openings_of (suc n) (next ∷ callers)) (opened_by at op))

-- what opens nothing changes nothing
pub added-opens-none : (op : Op) (callers : List CallerEntry) → ((n : ℕ) → opened_by n op ≡ []) → openings_of 0 (add_op op callers) ≡ openings_of 0 callers
added-opens-none op [] none = refl
added-opens-none op (caller ∷ callers) none =
    added-openings 0 (length callers) op caller callers (omega arith) ∙ ap (λ (more : List Opening). openings_of 0 (caller ∷ callers) ++ more) (none (length callers)) ∙ append-nil (openings_of 0 (caller ∷ callers))

-- nor does a new caller
pub new-opens-none : (n : ℕ) (name : List ℕ) (group : ℕ) (callers : List CallerEntry) → openings_of n (callers ++ new_caller name group ∷ []) ≡ openings_of n callers
unfolding openings_of openings_in
new-opens-none n name group [] = refl
new-opens-none n name group (caller ∷ callers) = ap (λ (rest : List Opening). openings_in n caller.ops ++ rest) (new-opens-none (suc n) name group callers)
