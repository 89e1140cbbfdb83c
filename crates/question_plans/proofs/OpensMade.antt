-- The opens of a caller are gathered an operation at a time; a caller with its opens alone, and a link with its quotas.
use Rattle.std.proofs.Common.{◌≡◌, ℕ, ◌+◌, ◌<◌, ◌≤◌, true, false, List, [], ◌∷◌, ◌++◌, length, get_or, take, inl, inr, refl, sym, ap, ◌∙◌}
use Rattle.std.proofs.lemmas.Bool.{cases_Bool}
use Rattle.std.proofs.lemmas.List.{append-nil, take_all}
use Rattle.link_steps.specs.declared.quota.Quota.{Quota}
use Rattle.call_script.specs.declared.entries.CallerEntry.{CallerEntry}
use Rattle.call_script.specs.declared.entries.LinkEntry.{LinkEntry}
use Rattle.call_script.specs.declared.operations.Op.{Op}
use Rattle.question_plans.specs.Alone.{is_open, opens_in, opens_of}
use Rattle.net_units.proofs.ListSteps.{taken-more}

opens-one-more : (ops : List Op) (op : Op) → opens_in (ops ++ op ∷ []) ≡ opens_in ops ++ opens_in (op ∷ [])
unfolding opens_in
opens-one-more [] op = refl
opens-one-more (first ∷ ops) op =
    elim (cases_Bool (is_open first)) [
      | inl opens ↦ rw opens (ap (λ rest. first ∷ rest) (opens-one-more ops op))
      | inr other ↦ rw other (opens-one-more ops op)
    ]

pub one-open : (op : Op) → is_open op ≡ true → opens_in (op ∷ []) ≡ op ∷ []
unfolding opens_in
one-open op opens = rw opens refl

pub no-open : (op : Op) (made : List Op) → is_open op ≡ false → made ≡ made ++ opens_in (op ∷ [])
unfolding opens_in
no-open op made other = rw other (sym (append-nil made))

pub opens-more : (ops : List Op) (i : ℕ) (op : Op) (made : List Op) → i < length ops → op ≡ get_or ops i op → made ≡ opens_in (take i ops) → made ++ opens_in (op ∷ []) ≡ opens_in (take (i + 1) ops)
opens-more ops i op made within is so_far =
    ap (λ front. front ++ opens_in (op ∷ [])) so_far ∙ sym (opens-one-more (take i ops) op) ∙ ap opens_in (taken-more ops i op within is)

pub opens-all : (ops : List Op) (i : ℕ) (made : List Op) → length ops ≤ i → made ≡ opens_in (take i ops) → made ≡ opens_in ops
opens-all ops i made past so_far = so_far ∙ ap opens_in (take_all i ops past)

-- a caller that does this
abbrev pub put-ops : CallerEntry → List Op → CallerEntry
put-ops caller ops = record { name = caller.name; group = caller.group; ops = ops }

pub with-ops : (caller : CallerEntry) (ops : List Op) → ops ≡ opens_in caller.ops → put-ops caller ops ≡ opens_of caller
with-ops caller ops same = ap (λ (o : List Op). put-ops caller o) same

pub with-same-ops : (caller : CallerEntry) (ops : List Op) → ops ≡ caller.ops → put-ops caller ops ≡ caller
with-same-ops caller ops same = ap (λ (o : List Op). put-ops caller o) same

-- a link with these quotas
abbrev pub put-quotas : LinkEntry → List Quota → LinkEntry
put-quotas link quotas = record { name = link.name; from = link.from; to = link.to; shape = link.shape; quotas = quotas }

pub with-quotas : (link : LinkEntry) (quotas : List Quota) → quotas ≡ link.quotas → put-quotas link quotas ≡ link
with-quotas link quotas same = ap (λ (q : List Quota). put-quotas link q) same

pub none-opened : (ops made : List Op) → made ≡ [] → made ≡ opens_in (take 0 ops)
unfolding opens_in
none-opened [] made none = none
none-opened (op ∷ ops) made none = none
