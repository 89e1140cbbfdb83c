-- A split with one quota fits its link where the quota at each of three levels is what the blocking leaves of the bound.
use Rattle.std.proofs.Common.{◌≡◌, ℕ, zero, suc, ◌+◌, ◌≤◌, List, [], ◌∷◌, length, sym, subst, arith}
use Rattle.std.specs.List.{All, AllPairs}
use Rattle.net_units.specs.LevelBounds.{bound_at}
use Rattle.traffic_contract.specs.Admission.{total}
use Rattle.link_steps.specs.declared.quota.Quota.{Quota}
use Rattle.link_steps.specs.declared.shape.LinkShape.{LinkShape}
use Rattle.link_steps.specs.Shape.{blocking_of}
use Rattle.link_steps.specs.Split.{Split, SplitFits, IsOfGroup, AreOfOtherGroups, level_part}

-- the quota of these loads
abbrev pub one_quota : ℕ → ℕ → ℕ → ℕ → Quota
one_quota buffer first second third = record { group = 1; buffer = buffer; levels = first ∷ second ∷ third ∷ 0 ∷ 0 ∷ 0 ∷ 0 ∷ 0 ∷ [] }

module _ (shape : LinkShape) (first second third : ℕ) where
  abbrev quota : Quota
  quota = one_quota shape.buffer first second third

  of-group : All IsOfGroup (quota ∷ [])
  of-group zero d inside = (omega arith, omega arith)
  of-group (suc k) d inside = absurd (omega (arith, inside))

  pub apart : AllPairs AreOfOtherGroups (quota ∷ [])
  apart = λ i j d before inside. absurd (omega (arith, before, inside))

  at-level : length shape.bounds ≡ 3 → blocking_of shape + first ≡ bound_at shape.bounds 1 → blocking_of shape + second ≡ bound_at shape.bounds 2 → blocking_of shape + third ≡ bound_at shape.bounds 3
      → (m : ℕ) → 1 ≤ m → m ≤ length shape.bounds → blocking_of shape + total (level_part m) (quota ∷ []) ≤ bound_at shape.bounds m
  at-level three one two last zero from upto = absurd (omega (arith, from))
  at-level three one two last (suc zero) from upto = omega (arith, one)
  at-level three one two last (suc (suc zero)) from upto = omega (arith, two)
  at-level three one two last (suc (suc (suc zero))) from upto = omega (arith, last)
  at-level three one two last (suc (suc (suc (suc m)))) from upto = absurd (omega (arith, upto, three))

  pub one-fits : (split : Split) → split.quotas ≡ quota ∷ [] → length shape.bounds ≡ 3 → blocking_of shape + first ≡ bound_at shape.bounds 1 → blocking_of shape + second ≡ bound_at shape.bounds 2 → blocking_of shape + third ≡ bound_at shape.bounds 3
      → SplitFits (record { shape = shape; split = split })
  one-fits split is three one two last =
      subst (λ (quotas : List Quota). SplitFits (record { shape = shape; split = record { quotas = quotas; groups = split.groups } })) (sym is)
      (record { groups = of-group; apart = apart; levels = at-level three one two last; buffer = omega arith })
