-- A link is clear of the levels up to m at a tick by which each packet of these levels that was eligible before has
-- departed. A busy period of these levels begins at such a tick, where one of their packets becomes eligible, and
-- ends at the next such tick. Let each packet occupy the link for at least one tick and at most the blocking, and
-- let the packets of these levels that are eligible in a window of w ticks, from the beginning on, bring work that
-- fits the window together with the blocking. Then the period ends within the window: a packet of a lower level
-- holds the link for less than the blocking, and until the end every tick works on a packet of the window. (The
-- argument for static-priority servers of Zhang & Ferrari 1993, over a plain list of packets.)
use Rattle.std.specs.Prelude.{ℕ, ◌+◌, ◌<◌, ◌≤◌, Bool, nat_le, nat_lt, ◌&&◌, IsTrue, if◌then◌else◌, List}
use Rattle.traffic_contract.specs.Admission.{total}
use Rattle.link_steps.specs.Lists.{Each}
use Rattle.link_steps.specs.Service.{Arrival, Start, work_of, starts_below, has_departed}

-- a packet of the levels up to m that was eligible before t has departed by t
abbrev pub IsGone : ℕ → List Start → ℕ → ℕ → Arrival → Type 0
IsGone rate starts m t p = p.level ≤ m → p.eligible < t → IsTrue (has_departed rate starts t p)

-- the link is clear of the levels up to m at t
abbrev pub IsClear : ℕ → List Arrival → ℕ → ℕ → Type 0
IsClear rate packets m t = Each (IsGone rate (starts_below rate packets t) m t) packets

-- the work of a packet is from 1 to the blocking
pub record HasWork (rate blocking : ℕ) (p : Arrival) : Type 0 where
  pub least : 1 ≤ work_of rate p
  pub most : work_of rate p ≤ blocking

-- whether a packet of the levels up to m is eligible in the w ticks from t on
abbrev pub is_eligible_in : ℕ → ℕ → ℕ → Arrival → Bool
is_eligible_in m t w p = nat_le p.level m && (nat_le t p.eligible && nat_lt p.eligible (t + w))

-- the work that it brings into the window
abbrev pub window_work : ℕ → ℕ → ℕ → ℕ → Arrival → ℕ
window_work rate m t w p = if is_eligible_in m t w p then work_of rate p else 0

-- the next tick after t at which the link is clear comes within w ticks
pub record EndsWithin (rate : ℕ) (packets : List Arrival) (m t w : ℕ) : Type 0 where
  pub end : ℕ
  pub after : t < end
  pub within : end ≤ t + w
  pub clear : IsClear rate packets m end

-- what the packets bring into a window of w ticks from t on leaves room for the blocking
pub record FitsWindow (rate blocking : ℕ) (packets : List Arrival) (m t w : ℕ) : Type 0 where
  pub some : 1 ≤ w
  pub work : blocking + total (window_work rate m t w) packets ≤ w

-- what they bring into some window of at most `most` ticks from t on does
pub record FitsWithin (rate blocking : ℕ) (packets : List Arrival) (m t most : ℕ) : Type 0 where
  pub window : ℕ
  pub upto : window ≤ most
  pub fits : FitsWindow rate blocking packets m t window
