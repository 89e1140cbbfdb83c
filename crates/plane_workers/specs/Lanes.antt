-- What a link on its own in a window is: its rules, the histories that it stands for, and the replies that it has given and that
-- aren't handed on yet.
use Rattle.std.specs.Prelude.{◌≡◌, ◌≢◌, ℕ, ◌+◌, ◌<◌, ◌≤◌, Option, Some, List, ◌∷◌, ◌++◌, drop, length}
use Rattle.std.specs.List.{slice_get}
use Rattle.link_quota.specs.Any.{any_rules, AnyStands}
use Rattle.link_steps.specs.Split.{Link}
use Rattle.link_steps.specs.declared.replies.Entry.{Entry}
use Rattle.link_steps.specs.declared.replies.Reply.{Reply}
use Rattle.plane_workers.specs.Said.{quiets, said_in, run_in}
use Rattle.plane_workers.specs.declared.lane.Lane.{Lane}
use Rattle.plane_workers.specs.declared.quiet_run.QuietRun.{QuietRun}

abbrev pub lane_rules : Lane → Link
lane_rules lane = any_rules lane.link

abbrev pub lane_stands : Lane → List Entry → Type 0
lane_stands lane = AnyStands lane.link

abbrev pub lane_left : Lane → List Reply
lane_left lane = said_in (drop lane.told lane.said.items)

-- the quiet ticks that it hands on next, if it does
abbrev pub next_run : Lane → Option QuietRun
next_run lane = run_in (drop lane.told lane.said.items)

-- it has a reply left
abbrev pub HasLeft : Lane → Type 0
HasLeft lane = (reply : Reply) × ((rest : List Reply) × (lane_left lane ≡ reply ∷ rest))

-- the first that is left is this, and it is written out
pub record IsNextSaid (reply : Reply) (lane : Lane) : Type 0 where
  pub inside : lane.told < length lane.said.items
  pub first : lane_left lane ≡ reply ∷ said_in (drop (lane.told + 1) lane.said.items)

-- it hands on at least n quiet ticks next, the first of them at this clock
pub record IsQuietNext (clock n : ℕ) (lane : Lane) : Type 0 where
  pub run : QuietRun
  pub next : next_run lane ≡ Some run
  pub at : run.clock ≡ clock
  pub many : n ≤ run.ticks

-- it has handed on these replies
pub record HasHanded (replies : List Reply) (old new : Lane) : Type 0 where
  pub link : new.link ≡ old.link
  pub told : lane_left old ≡ replies ++ lane_left new

-- the lane of this number has handed on a reply
pub record HandsOn (number : ℕ) (reply : Reply) (old new : List Lane) : Type 0 where
  pub long : length new ≡ length old
  pub others : (n : ℕ) → n ≢ number → slice_get new n ≡ slice_get old n
  pub own : (x y : Lane) → slice_get old number ≡ Some x → slice_get new number ≡ Some y → (y.link ≡ x.link) × (lane_left x ≡ reply ∷ lane_left y)

-- each lane has handed on n quiet ticks
pub record HaveHanded (clock n : ℕ) (old new : List Lane) : Type 0 where
  pub same : length new ≡ length old
  pub each : (k : ℕ) (x y : Lane) → slice_get old k ≡ Some x → slice_get new k ≡ Some y → HasHanded (quiets clock n) x y
