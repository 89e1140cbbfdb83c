-- Ticks that are kept in their order: the one that stands so many places from the end, and whether a packet may follow them.
use Rattle.std.proofs.Common.{◌≡◌, ℕ, suc, ◌+◌, ◌-◌, ◌<◌, ◌≤◌, Bool, true, false, List, ◌∷◌, length, drop, get_or, reverse, sym, ap, ◌∙◌, arith}
use Rattle.std.proofs.Math.Seq.{drop-cons}
use Rattle.std.proofs.lemmas.List.{get_or-reverse, length-reverse}
use Rattle.std.specs.Prelude.{nat_le, ◌&&◌}
use Rattle.traffic_contract.specs.Contract.{Traffic, burst_of}
use Rattle.traffic_contract.specs.Keeping.{may_follow, starts_before}

pub places-back : (ticks : List ℕ) (back least sent : ℕ) → 1 ≤ back → back ≤ length ticks → nat_le (get_or ticks (length ticks - back) 0 + least) sent ≡ starts_before sent least (drop (back - 1) (reverse ticks))
places-back ticks back least sent some inside =
    let long = length-reverse ticks in
    let there : back - 1 < length (reverse ticks) = omega (arith, long, some, inside) in
    let place : length ticks - 1 - (back - 1) ≡ length ticks - back = omega (arith, some, inside) in
    ap (starts_before sent least)
    (sym (drop-cons (reverse ticks) (back - 1) 0 there
    ∙ ap (λ t. t ∷ drop (suc (back - 1)) (reverse ticks)) (get_or-reverse ticks (back - 1) 0 (omega (arith, some, inside)) ∙ ap (λ k. get_or ticks k 0) place)))

module _ (contract : Traffic) (past : List ℕ) (sent xmin : ℕ) where
  far-enough : (b : Bool) → xmin ≡ contract.xmin → starts_before sent xmin past ≡ b → starts_before sent contract.xmin past ≡ b
  far-enough b same is = ap (λ x. starts_before sent x past) (sym same) ∙ is

  pub follow-then : (interval burst : ℕ) → xmin ≡ contract.xmin → interval ≡ contract.interval → burst ≡ burst_of contract → starts_before sent xmin past ≡ true
      → starts_before sent interval (drop (burst - 1) past) ≡ may_follow contract past sent
  unfolding may_follow
  follow-then interval burst first second third holds =
      ap (λ i. starts_before sent i (drop (burst - 1) past)) second
      ∙ ap (λ b. starts_before sent contract.interval (drop (b - 1) past)) third
      ∙ sym (ap (λ h. h && starts_before sent contract.interval (drop (burst_of contract - 1) past)) (far-enough true first holds))

  pub follow-else : xmin ≡ contract.xmin → starts_before sent xmin past ≡ false → false ≡ may_follow contract past sent
  unfolding may_follow
  follow-else first fails =
      sym (ap (λ h. h && starts_before sent contract.interval (drop (burst_of contract - 1) past)) (far-enough false first fails))
