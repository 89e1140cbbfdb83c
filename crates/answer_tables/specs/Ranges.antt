-- The delays with which a request would be accepted are told as ranges in rising order. The first and the last delay of a range are accepted, and
-- the ones before the first and behind the last aren't, or can't be asked for. What hops offer changes only where the delay comes to the bound of
-- one more level of one of the route's links. So the last delay before each such bound speaks for those before it: it is in one of the ranges and is accepted, or
-- it isn't accepted. So is the longest delay that may be asked for.
use Rattle.std.specs.Prelude.{◌≡◌, ℕ, ◌+◌, ◌-◌, ◌<◌, ◌≤◌, ◌⊎◌, Bool, true, false, not, Option, Some, None, List, [], ◌∷◌}
use Rattle.std.specs.List.{slice_get}
use Rattle.net_units.specs.LevelBounds.{bound_at}
use Rattle.net_units.specs.Limits.{most_delay}
use Rattle.hop_reservation.specs.Offers.{IsLevelOf}
use Rattle.hop_reservation.specs.declared.route.Hop.{Hop}
use Rattle.link_steps.specs.Lists.{Each}
use Rattle.call_script.specs.Parts.{PlanParts}
use Rattle.call_script.specs.declared.entries.RequestEntry.{RequestEntry}
use Rattle.plan_answers.specs.Delays.{DelayGives}
use Rattle.answer_tables.specs.declared.ranges.Across.{Across}
use Rattle.answer_tables.specs.declared.ranges.Range.{Range}
use Rattle.answer_tables.specs.declared.ranges.Sweep.{Sweep}

-- ---- the bounds on a request's way

abbrev pub hops_asked : Option RequestEntry → List Hop
hops_asked None = []
hops_asked (Some entry) = entry.request.route

-- the hops of the request of a number
abbrev pub hops_of : PlanParts → ℕ → List Hop
hops_of parts number = hops_asked (slice_get parts.requests number)

-- one of the levels of one of these hops has this bound
pub record IsBoundIn (hops : List Hop) (bound : ℕ) : Type 0 where
  pub place : ℕ
  pub hop : Hop
  pub found : slice_get hops place ≡ Some hop
  pub level : ℕ
  pub is_level : IsLevelOf hop level
  pub is : bound_at hop.bounds level ≡ bound

-- no bound of a hop that is over a number of ticks is less than this
abbrev pub IsLeastOver : ℕ → ℕ → Hop → Type 0
IsLeastOver ticks least hop = (level : ℕ) → IsLevelOf hop level → ticks < bound_at hop.bounds level → least ≤ bound_at hop.bounds level

-- ---- what a delay gives: whether the request is accepted with it

abbrev pub Accepts : (ℕ → Bool → Type 0) → ℕ → Type 0
Accepts gives delay = gives delay true

-- a request can't ask for no tick at all
abbrev pub Denies : (ℕ → Bool → Type 0) → ℕ → Type 0
Denies gives delay = (delay ≡ 0) ⊎ gives delay false

-- ---- a range

-- a longer delay can't be asked for, or isn't accepted
abbrev pub EndsAt : (ℕ → Bool → Type 0) → ℕ → Type 0
EndsAt gives last = (last ≡ most_delay) ⊎ gives (last + 1) false

pub record IsRange (gives : ℕ → Bool → Type 0) (range : Range) : Type 0 where
  pub rises : range.first ≤ range.last
  pub first : Accepts gives range.first
  pub last : Accepts gives range.last
  pub begins : Denies gives (range.first - 1)
  pub ends : EndsAt gives range.last

-- each range begins behind a delay that is after the one before
unfoldable pub AreApartFrom : ℕ → List Range → Type 0
AreApartFrom low [] = Unit {0}
AreApartFrom low (range ∷ ranges) = (low < range.first) × AreApartFrom (range.last + 1) ranges

-- a delay is in one of the ranges
unfoldable pub IsInOne : List Range → ℕ → Type 0
IsInOne [] delay = ⊥
IsInOne (range ∷ ranges) delay = ((range.first ≤ delay) × (delay ≤ range.last)) ⊎ IsInOne ranges delay

-- it is accepted and in one of them, or isn't accepted
abbrev pub IsJudged : (ℕ → Bool → Type 0) → List Range → ℕ → Type 0
IsJudged gives ranges delay = (IsInOne ranges delay × Accepts gives delay) ⊎ Denies gives delay

-- ---- the answer

pub record AreRangesOf (gives : ℕ → Bool → Type 0) (hops : List Hop) (ranges : List Range) : Type 0 where
  pub are : Each (IsRange gives) ranges
  pub apart : AreApartFrom 0 ranges
  pub before_bounds : (delay : ℕ) → IsBoundIn hops (delay + 1) → delay ≤ most_delay → IsJudged gives ranges delay
  pub longest : IsJudged gives ranges most_delay

-- of a request of a plan, among the plan's requests alone
abbrev pub AreAllRanges : PlanParts → ℕ → List Range → Type 0
AreAllRanges parts number ranges = AreRangesOf (DelayGives parts number) (hops_of parts number) ranges

-- ---- on the way to it

-- a delay is accepted, or isn't; no tick at all isn't
abbrev pub DelayIs : (ℕ → Bool → Type 0) → ℕ → Bool → Type 0
DelayIs gives delay accepted = ((delay ≡ 0) × (accepted ≡ false)) ⊎ gives delay accepted

-- an open range: it begins here, behind all others
pub record IsOpen (gives : ℕ → Bool → Type 0) (ranges : List Range) (sweep : Sweep) : Type 0 where
  pub rises : sweep.first ≤ sweep.at
  pub some : 0 < sweep.first
  pub first : Accepts gives sweep.first
  pub begins : Denies gives (sweep.first - 1)
  pub behind : Each (λ range. range.last + 1 < sweep.first) ranges

-- where the delay isn't accepted, no range is open, and all end before it
abbrev pub Stands : (ℕ → Bool → Type 0) → List Range → Sweep → Bool → Type 0
Stands gives ranges sweep true = IsOpen gives ranges sweep
Stands gives ranges sweep false = Each (λ range. range.last < sweep.at) ranges

-- a delay is in one of the ranges, or in the open one
abbrev pub IsInOneSoFar : List Range → Sweep → ℕ → Type 0
IsInOneSoFar ranges sweep delay = IsInOne ranges delay ⊎ ((sweep.accepted ≡ true) × (sweep.first ≤ delay))

abbrev pub IsJudgedSoFar : (ℕ → Bool → Type 0) → List Range → Sweep → ℕ → Type 0
IsJudgedSoFar gives ranges sweep delay = (IsInOneSoFar ranges sweep delay × Accepts gives delay) ⊎ Denies gives delay

-- what is known once all delays up to one are gone through
pub record HasSeen (gives : ℕ → Bool → Type 0) (hops : List Hop) (ranges : List Range) (sweep : Sweep) : Type 0 where
  pub most : sweep.at ≤ most_delay
  pub is : DelayIs gives sweep.at sweep.accepted
  pub stands : Stands gives ranges sweep sweep.accepted
  pub are : Each (IsRange gives) ranges
  pub apart : AreApartFrom 0 ranges
  pub judged : (delay : ℕ) → IsBoundIn hops (delay + 1) → delay ≤ sweep.at → IsJudgedSoFar gives ranges sweep delay

-- one of two delays is accepted and the other isn't
pub record IsAcross (gives : ℕ → Bool → Type 0) (across : Across) : Type 0 where
  pub less : across.low < across.high
  pub low : DelayIs gives across.low across.accepted
  pub high : gives across.high (not across.accepted)

-- two delays that are no further apart than two others, and no wider
pub record IsPartOf (across part : Across) : Type 0 where
  pub from : across.low ≤ part.low
  pub to : part.high ≤ across.high
  pub same : part.accepted ≡ across.accepted

-- the verdict changes after this delay
pub record HasEdge (gives : ℕ → Bool → Type 0) (across : Across) (edge : ℕ) : Type 0 where
  pub from : across.low ≤ edge
  pub below : edge < across.high
  pub is : DelayIs gives edge across.accepted
  pub next : gives (edge + 1) (not across.accepted)
