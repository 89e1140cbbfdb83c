-- Where each mark that was drawn stands: in the hand of one view, or in its link's list.
use Rattle.std.specs.Prelude.{◌≡◌, ℕ, zero, suc, ◌⊎◌, List, [], ◌∷◌}
use Rattle.link_steps.specs.Lists.{Each}
use Rattle.step_stamp.specs.declared.marks.Drawn.{Drawn}
use Rattle.step_stamp.specs.declared.marks.Mark.{Mark}
use Rattle.step_stamp.specs.declared.views.View.{View}
use Rattle.step_stamp.specs.Lists.{Has}

-- what the k-th view has in hand
unfoldable pub hand_at : List View → ℕ → List Drawn
hand_at [] k = []
hand_at (v ∷ vs) zero = v.hand
hand_at (v ∷ vs) (suc k) = hand_at vs k

-- a drawn mark's place is 0 in its link's list and k + 1 in the hand of view k
abbrev pub IsPlaced : (ℕ → List Mark) → (ℕ → ℕ) → (ℕ → List Drawn) → Drawn → Type 0
IsPlaced log place hands d = ((place d.mark.stamp ≡ 0) × Has d.mark (log d.link)) ⊎ ((k : ℕ) × (place d.mark.stamp ≡ suc k) × Has d (hands k))

-- each drawn mark stands at its place alone, and no other mark stands in a hand
pub record Placed (draws : List Drawn) (log : ℕ → List Mark) (hands : ℕ → List Drawn) : Type 0 where
  pub place : ℕ → ℕ
  pub in_hand : (k : ℕ) → Each (λ (d : Drawn). Has d draws × (place d.mark.stamp ≡ suc k)) (hands k)
  pub entered : (l : ℕ) → Each (λ (m : Mark). place m.stamp ≡ 0) (log l)
  pub stands : (d : Drawn) → Has d draws → IsPlaced log place hands d
