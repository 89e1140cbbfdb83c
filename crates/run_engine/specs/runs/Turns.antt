-- The greatest number of steps that an actor may have left. Its steps come to an end: each step that it makes lowers that number,
-- whatever the links reply, and the steps of the others leave it as it is. A caller takes at most two steps a hop to open a request,
-- one step to send packets, one a hop to close, and one a hop and one more to move packets. The plane asks each link for one tick in
-- each round, and a packet that leaves with a tick arrives at most once more.
use Rattle.std.specs.Prelude.{suc, ◌≡◌, ◌≢◌, ℕ, ◌+◌, ◌*◌, ◌-◌, ◌<◌, nat_eq, if◌then◌else◌, IsSome, List, [], ◌∷◌, length}
use Rattle.std.specs.List.{slice_get}
use Rattle.net_units.specs.Numbers.{actor_number}
use Rattle.net_units.specs.declared.numbers.ActorNo.{ActorNo}
use Rattle.call_script.specs.Fits.{NetworkFits}
use Rattle.call_script.specs.Scripts.{Standing, standing_of}
use Rattle.call_script.specs.Tasks.{Network}
use Rattle.call_script.specs.declared.tasks.Task.{Task}
use Rattle.call_script.specs.declared.tasks.Task.TheVariants.{Opens, Sends, Closes, Moves}
use Rattle.run_engine.specs.runs.Runs.{plane_no, plane_at, next_for, IsRun, step}
use Rattle.run_record.specs.Runs.{replies_to}
use Rattle.run_record.specs.declared.done.Done.{Done}
use Rattle.tick_plane.specs.Planes.{Plane}

-- ---- callers

-- the steps of a task: a setup goes forward and back, a teardown goes forward
abbrev pub most_steps : Task → ℕ
most_steps (Opens request) = 2 * length request.route
most_steps (Sends link chan count gap size) = 1
most_steps (Closes request) = length request.route
most_steps (Moves old new gap size) = suc (length old.route)

unfoldable pub most_over : List Task → ℕ
most_over [] = 0
most_over (task ∷ tasks) = most_steps task + most_over tasks

-- those of a caller that stands there
abbrev pub caller_most : Standing → ℕ
caller_most at = most_over at.tasks - length at.replies

-- ---- the plane

abbrev pub ticks_left : ℕ → ℕ → Plane → ℕ
ticks_left links rounds plane = (rounds - plane.round) * links - plane.ticked

-- each tick may set one packet on its way
abbrev pub plane_most : ℕ → ℕ → Plane → ℕ
plane_most links rounds plane = 2 * ticks_left links rounds plane + length plane.flights

-- ---- an actor, by its number

unfoldable pub most_left : Network → ℕ → List Done → ℕ
most_left network actor run =
    if nat_eq actor (plane_no network) then plane_most (length network.links) network.rounds (plane_at network run) else caller_most (standing_of (slice_get network.scripts actor) (replies_to actor run))

-- ---- the law

-- the actor makes one step, and the most that it may have left falls
pub record MakesOne (network : Network) (actor : ActorNo) (past : List Done) : Type 0 where
  pub done : Done
  pub by : done.actor ≡ actor
  pub is : step network actor past ≡ done ∷ past
  pub fewer : most_left network (actor_number actor) (step network actor past) < most_left network (actor_number actor) past

pub record StepsComeToAnEnd : Type 0 where
  -- an actor that has a step left makes one
  pub makes : (network : Network) (past : List Done) (actor : ActorNo) → NetworkFits network → IsRun network past → IsSome (next_for network (actor_number actor) past) → MakesOne network actor past
  -- and the most that the others may have left stays as it was
  pub others : (network : Network) (past : List Done) (actor : ActorNo) (other : ℕ) → other ≢ actor_number actor → most_left network other (step network actor past) ≡ most_left network other past
