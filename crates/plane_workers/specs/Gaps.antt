-- The least time that a packet is on its way. What leaves a link from which its route goes on takes the link's propagation. So where
-- each hop of each route but the last has a propagation of at least `gap`, what leaves in a round reaches the next link more than
-- `gap` rounds later.
use Rattle.std.specs.Prelude.{◌≡◌, ℕ, suc, ◌≤◌, Some, List}
use Rattle.std.specs.List.{slice_get}
use Rattle.hop_reservation.specs.declared.route.Hop.{Hop}
use Rattle.link_steps.specs.Lists.{Each}
use Rattle.call_script.specs.Fits.{NetworkFits}
use Rattle.call_script.specs.Tasks.{Network}
use Rattle.call_script.specs.declared.tasks.Task.{Task}
use Rattle.call_script.specs.declared.tasks.Task.TheVariants.{Opens, Sends, Closes, Moves}
use Rattle.plane_workers.specs.Windows.{KeepsGap}

-- each hop from which the route goes on has a propagation of at least `gap`
abbrev pub IsSpaced : ℕ → List Hop → Type 0
IsSpaced gap hops = (i : ℕ) (hop next : Hop) → slice_get hops i ≡ Some hop → slice_get hops (suc i) ≡ Some next → gap ≤ hop.prop

abbrev pub TaskSpaced : ℕ → Task → Type 0
TaskSpaced gap (Opens request) = IsSpaced gap request.route
TaskSpaced gap (Sends link chan count gap' size) = Unit {0}
TaskSpaced gap (Closes request) = Unit {0}
TaskSpaced gap (Moves old new gap' size) = Unit {0}

-- so is each route that a caller opens
abbrev pub AreSpaced : Network → ℕ → Type 0
AreSpaced network gap = Each (Each (TaskSpaced gap)) network.scripts

-- ---- the law

abbrev pub PacketsTakeTheirTime : Type 0
PacketsTakeTheirTime = (network : Network) (gap : ℕ) → NetworkFits network → AreSpaced network gap → KeepsGap network gap
