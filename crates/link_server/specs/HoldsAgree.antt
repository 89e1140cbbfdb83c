-- Two rules tell when the hold of a released channel is over: the rule of holds decides it by all the eligible ticks that the
-- channel was given, and the rule by which a row expires by how many they are and by the newest one. Where no earlier tick is
-- above the newest one, the two agree.
use Rattle.std.specs.Prelude.{◌≡◌, ◌≤◌, ◌&&◌, ℕ, List, [], ◌∷◌, length, All}
use Rattle.net_units.specs.LevelBounds.{last_bound}
use Rattle.traffic_contract.specs.Eligible.{newest}
use Rattle.release_hold.specs.Hold.{is_over}
use Rattle.link_steps.specs.declared.replies.Phase.TheVariants.{Closing}
use Rattle.link_steps.specs.Hold.{hold_ended}
use Rattle.link_steps.specs.Reservation.{Reservation, is_phase}

-- no earlier tick is above the newest one
abbrev pub NewestIsLast : List ℕ → Type 0
NewestIsLast [] = Unit {0}
NewestIsLast (tick ∷ past) = All (λ earlier. earlier ≤ tick) past

abbrev pub HoldsAgree : Type 0
HoldsAgree = (bounds : List ℕ) (terms : Reservation) (ticks : List ℕ) (t : ℕ) → NewestIsLast ticks → hold_ended bounds terms (length ticks) (newest ticks) t ≡ (is_phase terms.phase Closing && is_over terms.count ticks (last_bound bounds) t)
