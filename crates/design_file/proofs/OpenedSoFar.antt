-- What callers open, an operation and a caller at a time.
use Rattle.std.proofs.Common.{◌≡◌, ℕ, ◌+◌, List, [], ◌∷◌, ◌++◌, length, refl, sym, ap, ◌∙◌, arith}
use Rattle.std.proofs.lemmas.List.{append-nil, append_assoc}
use Rattle.net_units.specs.Numbers.{actor_number}
use Rattle.call_script.specs.Parts.{Opening, opened_by, openings_in, openings_of, opening_of}
use Rattle.call_script.specs.declared.entries.CallerEntry.{CallerEntry}
use Rattle.call_script.specs.declared.entries.RequestEntry.{RequestEntry}
use Rattle.call_script.specs.declared.operations.Op.{Op}
use Rattle.call_script.specs.declared.operations.Op.TheVariants.{Open}
use Rattle.call_script.proofs.OneMoreOperation.{opens-more, callers-more}
use Rattle.design_file.specs.Opened.{opened_so_far}

pub one-more-op : (callers : List CallerEntry) (ops : List Op) (op : Op) → opened_so_far callers (ops ++ op ∷ []) ≡ opened_so_far callers ops ++ opened_by (length callers) op
unfolding opened_so_far
one-more-op callers ops op =
    ap (λ (rest : List Opening). openings_of 0 callers ++ rest) (opens-more (length callers) ops op)
    ∙ sym (append_assoc (openings_of 0 callers) (openings_in (length callers) ops) (opened_by (length callers) op))

-- one that opens nothing
pub nothing-more : (opened more : List Opening) → more ≡ [] → opened ++ more ≡ opened
nothing-more opened more none = ap (λ (rest : List Opening). opened ++ rest) none ∙ append-nil opened

-- the caller that did these operations is one of those that are made, and the next has done none
pub caller-ends : (callers : List CallerEntry) (caller : CallerEntry) → opened_so_far (callers ++ caller ∷ []) [] ≡ opened_so_far callers caller.ops
unfolding opened_so_far openings_in
caller-ends callers caller =
    let same : 0 + length callers ≡ length callers = omega arith in
    append-nil (openings_of 0 (callers ++ caller ∷ [])) ∙ callers-more 0 callers caller ∙ ap (λ (k : ℕ). openings_of 0 callers ++ openings_in k caller.ops) same

-- with no operations after them the callers open what they do
pub ended-all : (callers : List CallerEntry) (ops : List Op) → ops ≡ [] → opened_so_far callers ops ≡ openings_of 0 callers
unfolding opened_so_far openings_in
ended-all callers ops none = ap (λ (done : List Op). openings_of 0 callers ++ openings_in (length callers) done) none ∙ append-nil (openings_of 0 callers)

-- a request's open, by the caller of its number
pub open-is : (n : ℕ) (entry : RequestEntry) → n ≡ actor_number entry.caller → opened_by n (Open entry.request.chan) ≡ opening_of entry ∷ []
open-is n entry same = ap (λ (k : ℕ). opened_by k (Open entry.request.chan)) same

-- at first nothing is opened
pub nothing-opened : opened_so_far [] [] ≡ []
unfolding opened_so_far openings_of openings_in
nothing-opened = refl
