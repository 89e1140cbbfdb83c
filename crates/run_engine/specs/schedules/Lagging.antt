-- A watcher may lag behind a run: of the plane's steps it sees only the ticks that tell something, in their order, and it catches up with
-- the others later. These are the arrivals, and the ticks in which nothing happens: they change clocks and numbers of steps alone. So the
-- links may make many rounds on their own, and keep of their replies those that tell something. `lags` says which runs a watcher has
-- seen whole, and with which it has seen what the plane's steps told since.
use Rattle.std.specs.Prelude.{◌≡◌, ◌≢◌, ℕ, ◌+◌, ◌<◌, Bool, false, ◌||◌, nat_lt, is_some, List, ◌∷◌, length}
use Rattle.net_units.specs.declared.numbers.LinkNo.{LinkNo}
use Rattle.link_steps.specs.Scan.{clock_of}
use Rattle.link_steps.specs.declared.asks.Ask.TheVariants.{Tick}
use Rattle.link_steps.specs.declared.replies.Reply.{Reply}
use Rattle.link_steps.specs.declared.replies.Reply.TheVariants.{Ticked}
use Rattle.call_script.specs.Parts.{PlanParts}
use Rattle.call_script.specs.Plans.{IsPlan}
use Rattle.call_script.specs.Tasks.{network_of}
use Rattle.run_engine.specs.runs.Runs.{plane_no, IsNext, IsRun}
use Rattle.run_engine.specs.schedules.PlaneSteps.{plane_step}
use Rattle.run_engine.specs.schedules.Quiet.{the_plane}
use Rattle.run_record.specs.Runs.{part_of, replies_to}
use Rattle.run_record.specs.declared.done.Done.{Done}

-- whether a reply tells something: in the tick a packet finds no slot, leaves, or is lost
abbrev pub is_told : Reply → Bool
is_told (Ticked clock full sent best_sent best_lost) = nat_lt 0 full || (is_some sent || (best_sent || best_lost))
is_told _ = false

-- ---- steps

-- the next step of the run is the plane's, and tells nothing
pub record IsNextUntold {W : Type 0} (lags : W → PlanParts → List Done → List Done → Type 0) (parts : PlanParts) (watch : W) (past run : List Done) (done : Done) : Type 0 where
  pub plan : IsPlan parts
  pub run_is : IsRun (network_of parts) run
  pub next : IsNext (network_of parts) run done
  pub by : done.actor ≡ the_plane (network_of parts)
  pub untold : is_told done.reply ≡ false
  pub lag : lags watch parts past run

-- the next step of the run is the plane's tick of this link, which gets this reply
pub record IsNextTold {W : Type 0} (lags : W → PlanParts → List Done → List Done → Type 0) (parts : PlanParts) (watch : W) (past run : List Done) (link : LinkNo) (reply : Reply) : Type 0 where
  pub plan : IsPlan parts
  pub run_is : IsRun (network_of parts) run
  pub next : IsNext (network_of parts) run (plane_step (network_of parts) link Tick reply)
  pub lag : lags watch parts past run

-- it has seen `past` whole, and of the plane's steps since, which are so many and after which each link's clock is this, what they told
pub record LagsBy {W : Type 0} (lags : W → PlanParts → List Done → List Done → Type 0) (parts : PlanParts) (watch : W) (past run : List Done) (clock steps : ℕ) : Type 0 where
  pub plan : IsPlan parts
  pub run_is : IsRun (network_of parts) run
  pub clocks : (n : ℕ) → n < length parts.links → clock_of (part_of n run) ≡ clock
  pub long : length run ≡ length past + steps
  pub plane : length (replies_to (plane_no (network_of parts)) run) ≡ length (replies_to (plane_no (network_of parts)) past) + steps
  pub others : (n : ℕ) → n ≢ plane_no (network_of parts) → replies_to n run ≡ replies_to n past
  pub lag : lags watch parts past run

-- ---- the law

-- a watcher that has seen a run has seen what no step told since; and a step that tells nothing needn't be seen
pub record MayLag {W : Type 0} (saw : W → PlanParts → List Done → Type 0) (lags : W → PlanParts → List Done → List Done → Type 0) : Type 0 where
  pub begins : (watch : W) (parts : PlanParts) (past : List Done) → saw watch parts past → lags watch parts past past
  pub goes_on : (watch : W) (parts : PlanParts) (past run : List Done) (done : Done) → IsNextUntold lags parts watch past run done → lags watch parts past (done ∷ run)
