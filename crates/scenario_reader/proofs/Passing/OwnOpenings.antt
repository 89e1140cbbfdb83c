-- A request that the last caller is to open is opened in that caller's operations.
use Rattle.std.proofs.Common.{◌≡◌, ℕ, zero, suc, ◌+◌, ◌-◌, ◌≤◌, ◌⊎◌, true, List, [], ◌∷◌, ◌++◌, Some, length, map, nat_eq, sym, ap, subst, inl, inr, arith}
use Rattle.std.proofs.lemmas.Bool.{eq-eqb, or_left, or_right}
use Rattle.std.proofs.lemmas.Option.{same_Some}
use Rattle.std.specs.List.{list_any, slice_get}
use Rattle.net_units.specs.Numbers.{actor_number, channel_number}
use Rattle.link_steps.specs.Lists.{Among}
use Rattle.call_script.specs.Growing.{last_ops}
use Rattle.call_script.specs.Parts.{Opening, openings_in, openings_of, opening_of}
use Rattle.call_script.specs.Rules.{is_in}
use Rattle.call_script.specs.declared.entries.CallerEntry.{CallerEntry}
use Rattle.call_script.specs.declared.entries.RequestEntry.{RequestEntry}
use Rattle.call_script.specs.declared.operations.Op.{Op}
use Rattle.call_script.specs.declared.operations.Op.TheVariants.{Open, Send, Close, Pour, Move}
use Rattle.call_script.specs.declared.roles.Role.TheVariants as role

-- an opening among two lists is among one of them
parted : (x : Opening) (xs ys : List Opening) → Among x (xs ++ ys) → Among x xs ⊎ Among x ys
parted x [] ys among = inr among
parted x (y ∷ xs) ys (inl same) = inl (inl same)
parted x (y ∷ xs) ys (inr rest) = later (parted x xs ys rest) where
  later : Among x xs ⊎ Among x ys → Among x (y ∷ xs) ⊎ Among x ys
  later (inl own) = inl (inr own)
  later (inr other) = inr other

-- what a caller opens is its own, and is among what its operations open
opened-there : (n : ℕ) (ops : List Op) (opening : Opening) → Among opening (openings_in n ops) → (opening.caller ≡ n) × (list_any (is_in role.Opens opening.chan) ops ≡ true)
unfolding openings_in
opened-there n [] opening among = absurd among
opened-there n (Open chan ∷ ops) opening (inl same) = (
  ap (λ (o : Opening). o.caller) same,
  or_left (nat_eq (channel_number chan) opening.chan) (list_any (is_in role.Opens opening.chan) ops) (eq-eqb (channel_number chan) opening.chan (sym (ap (λ (o : Opening). o.chan) same))),
)
opened-there n (Open chan ∷ ops) opening (inr among) =
    let rest = opened-there n ops opening among in
    (rest.0, or_right (nat_eq (channel_number chan) opening.chan) (list_any (is_in role.Opens opening.chan) ops) rest.1)
opened-there n (Send chan count gap size ∷ ops) opening among = opened-there n ops opening among
opened-there n (Close chan ∷ ops) opening among = opened-there n ops opening among
opened-there n (Pour link count gap size ∷ ops) opening among = opened-there n ops opening among
opened-there n (Move old new ∷ ops) opening among = opened-there n ops opening among

-- what the last caller opens is among what its operations open
opened-last : (first : ℕ) (caller : CallerEntry) (callers : List CallerEntry) (opening : Opening) → Among opening (openings_of first (caller ∷ callers))
    → opening.caller ≡ first + length callers → list_any (is_in role.Opens opening.chan) (last_ops (caller ∷ callers)) ≡ true
unfolding openings_of
opened-last first caller [] opening among last = by (parted opening (openings_in first caller.ops) [] among) where
  by : Among opening (openings_in first caller.ops) ⊎ Among opening [] → list_any (is_in role.Opens opening.chan) caller.ops ≡ true
  by (inl own) = (opened-there first caller.ops opening own).1
  by (inr none) = absurd none
opened-last first caller (next ∷ callers) opening among last =
    by (parted opening (openings_in first caller.ops) (openings_of (suc first) (next ∷ callers)) among) (λ rest. opened-last (suc first) next callers opening rest (omega (arith, last)))
  where
    by : Among opening (openings_in first caller.ops) ⊎ Among opening (openings_of (suc first) (next ∷ callers))
        → (Among opening (openings_of (suc first) (next ∷ callers)) → list_any (is_in role.Opens opening.chan) (last_ops (next ∷ callers)) ≡ true) → list_any (is_in role.Opens opening.chan) (last_ops (next ∷ callers)) ≡ true
    by (inl own) later = absurd (let same = (opened-there first caller.ops opening own).0 in omega (arith, same, last))
    by (inr rest) later = later rest

among-map : (requests : List RequestEntry) (n : ℕ) (entry : RequestEntry) → slice_get requests n ≡ Some entry → Among (opening_of entry) (map opening_of requests)
among-map [] n entry none = cc
among-map (e ∷ requests) zero entry at = inl (ap opening_of (sym (same_Some e entry at)))
among-map (e ∷ requests) (suc n) entry at = inr (among-map requests n entry at)

-- a request of the last caller is opened there
pub own-opened : (requests : List RequestEntry) (callers : List CallerEntry) (n : ℕ) (entry : RequestEntry) → openings_of 0 callers ≡ map opening_of requests
    → slice_get requests n ≡ Some entry → 1 ≤ length callers → actor_number entry.caller ≡ length callers - 1
    → list_any (is_in role.Opens (channel_number entry.request.chan)) (last_ops callers) ≡ true
own-opened requests [] n entry same found some by = absurd (omega arith)
own-opened requests (caller ∷ callers) n entry same found some by =
    opened-last 0 caller callers (opening_of entry) (subst (Among (opening_of entry)) (sym same) (among-map requests n entry found)) (omega (arith, by))
