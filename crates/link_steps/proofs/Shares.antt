-- Amounts of groups that are each within the group's quota are together within all quotas.
use Rattle.std.proofs.Common.{◌≡◌, ℕ, ◌+◌, ◌≤◌, ◌⊎◌, Bool, true, false, cond, List, [], ◌∷◌, map, inl, inr, refl, subst, arith}
use Rattle.std.proofs.lemmas.Bool.{cases_Bool, eqb-true, eq-eqb}
use Rattle.std.specs.Prelude.{nat_eq}
use Rattle.traffic_contract.specs.Admission.{total}
use Rattle.link_steps.specs.declared.quota.Quota.{Quota}
use Rattle.link_steps.specs.Split.{quota_part}

-- an amount of a group
pub record Share : Type 0 where
  pub group : ℕ
  pub amount : ℕ

abbrev pub amount_of : Share → ℕ
amount_of share = share.amount

-- the amount, where it is of this group, and where it isn't
abbrev pub in_group : ℕ → Share → ℕ
in_group group share = cond (nat_eq share.group group) share.amount 0

abbrev out_of_group : ℕ → Share → Share
out_of_group group share = record { group = share.group; amount = cond (nat_eq share.group group) 0 share.amount }

-- where no group has anything, all have nothing
none-together : (shares : List Share) → ((group : ℕ) → total (in_group group) shares ≤ 0) → total amount_of shares ≤ 0
none-together [] none = omega arith
none-together (share ∷ shares) none =
    let own = none share.group in
    let first : in_group share.group share ≡ share.amount = rw (eq-eqb share.group share.group refl) refl in
    let rest = none-together shares (λ group. (let h = none group in omega (arith, h))) in
    omega (arith, own, first, rest)

-- the amounts of a group and the others
split-amounts : (group : ℕ) (shares : List Share) → total amount_of shares ≡ total (in_group group) shares + total amount_of (map (out_of_group group) shares)
split-amounts group [] = refl
split-amounts group (share ∷ shares) =
    let rest = split-amounts group shares in
    elim (nat_eq share.group group) as (λ b. share.amount + total amount_of shares ≡ (cond b share.amount 0 + total (in_group group) shares) + (cond b 0 share.amount + total amount_of (map (out_of_group group) shares))) [ true ↦ omega (arith, rest) | false ↦ omega (arith, rest) ]

-- without a group, no other has more, and that one has none
out-less : (group other : ℕ) (shares : List Share) → total (in_group other) (map (out_of_group group) shares) ≤ total (in_group other) shares
out-less group other [] = omega arith
out-less group other (share ∷ shares) =
    let rest = out-less group other shares in
    less (nat_eq share.group other) (nat_eq share.group group) rest where
      less : (b c : Bool) → total (in_group other) (map (out_of_group group) shares) ≤ total (in_group other) shares → cond b (cond c 0 share.amount) 0 + total (in_group other) (map (out_of_group group) shares) ≤ cond b share.amount 0 + total (in_group other) shares
      less true true rest = omega (arith, rest)
      less true false rest = omega (arith, rest)
      less false c rest = omega (arith, rest)

out-none : (group : ℕ) (shares : List Share) → total (in_group group) (map (out_of_group group) shares) ≡ 0
out-none group [] = refl
out-none group (share ∷ shares) =
    let rest = out-none group shares in
    elim (nat_eq share.group group) as (λ b. cond b (cond b 0 share.amount) 0 + total (in_group group) (map (out_of_group group) shares) ≡ 0) [ true ↦ omega (arith, rest) | false ↦ omega (arith, rest) ]

pub within-together : (part : Quota → ℕ) (quotas : List Quota) (shares : List Share) → ((group : ℕ) → total (in_group group) shares ≤ quota_part part quotas group) → total amount_of shares ≤ total part quotas
within-together part [] shares within = none-together shares within
within-together part (quota ∷ quotas) shares within =
    let own : total (in_group quota.group) shares ≤ part quota = (let h = within quota.group in rw (eq-eqb quota.group quota.group refl) at h) in
    let rest = within-together part quotas (map (out_of_group quota.group) shares) (λ group. others group (cases_Bool (nat_eq quota.group group))) in
    let both = split-amounts quota.group shares in
    omega (arith, own, rest, both) where
      others : (group : ℕ) → (nat_eq quota.group group ≡ true) ⊎ (nat_eq quota.group group ≡ false) → total (in_group group) (map (out_of_group quota.group) shares) ≤ quota_part part quotas group
      others group (inl same) = subst (λ g. total (in_group g) (map (out_of_group quota.group) shares) ≤ quota_part part quotas g) (eqb-true quota.group group same) (let none = out-none quota.group shares in omega (arith, none))
      others group (inr other) =
          let h : total (in_group group) shares ≤ quota_part part quotas group = (let w = within group in rw other at w) in
          let less = out-less quota.group group shares in
          omega (arith, h, less)
