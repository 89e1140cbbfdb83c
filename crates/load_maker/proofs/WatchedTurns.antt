-- Turns that an engine makes while a watcher sees the run.
use Rattle.std.proofs.Common.{◌≡◌, ℕ, ◌+◌, ◌^◌, ◌<◌, ◌≤◌, List, [], ◌∷◌, length, refl, arith}
use Rattle.net_units.specs.Numbers.{actor_number}
use Rattle.net_units.specs.declared.numbers.ActorNo.{ActorNo}
use Rattle.net_units.specs.declared.numbers.LinkNo.{LinkNo}
use Rattle.link_steps.specs.declared.asks.Ask.{Ask}
use Rattle.call_script.specs.Parts.{PlanParts}
use Rattle.call_script.specs.Tasks.{network_of}
use Rattle.run_engine.specs.schedules.Watching.{GoesOn, WatchStands}
use Rattle.run_engine.specs.declared.engine.Engine.{Engine}
use Rattle.run_engine.proofs.Keeping.KeptActors.{plane-number}
use Rattle.run_engine.proofs.Runs.RunLength.{run-short}
use Rattle.run_engine.proofs.Keeping.NextStep.{callers-few}
use Rattle.run_engine.proofs.Watched.WatchedSteps.{goes-steps}
use Rattle.load_maker.specs.SeenTurns.{IsCircleAt, IsTurnOf}
use Rattle.load_maker.specs.TurnRuns.{goes_on_at, GoesByTurns}
use Rattle.load_maker.proofs.TurnLaws.{goes-on-within, none-by-turns, turn-made}
use Rattle.run_record.specs.declared.done.Done.{Done}

-- so many steps were made by turns, and this is where the circle goes on
pub record TurnsSoFar {W : Type 0} (saw : W → PlanParts → List Done → Type 0) (parts : PlanParts) (engine : Engine) (watch : W) (next made : ℕ) : Type 0 where
  pub run : List Done
  pub turns : GoesByTurns (network_of parts) run
  pub goes_on : next ≡ goes_on_at run
  pub long : length run ≡ made
  pub stand : WatchStands saw parts engine watch run

module _ {W : Type 0} (saw : W → PlanParts → List Done → Type 0) (parts : PlanParts) where
  pub no-turns : (engine : Engine) (watch : W) → WatchStands saw parts engine watch [] → TurnsSoFar saw parts engine watch 0 0
  no-turns engine watch stand =
      let start = none-by-turns (network_of parts) [] refl in
      record { run = []; turns = start.0; goes_on = start.1; long = refl; stand = stand }

  pub circle-at : (engine : Engine) (watch : W) (next made : ℕ) → (turns : TurnsSoFar saw parts engine watch next made) → IsCircleAt parts engine next turns.run
  circle-at engine watch next made turns = record { stands = turns.stand.stands; goes_on = turns.goes_on }

  pub next-within : (engine : Engine) (watch : W) (next made : ℕ) → TurnsSoFar saw parts engine watch next made → next ≤ 65
  next-within engine watch next made turns =
      let within = goes-on-within (network_of parts) turns.run turns.stand.stands.run in
      let plane = plane-number parts in
      let few = callers-few parts turns.stand.stands.plan in
      omega (arith, turns.goes_on, within, plane, few)

  pub one-turn : (old new : Engine) (seen watch : W) (next after made : ℕ) (actor : ActorNo) (to : LinkNo) (ask : Ask) → (turns : TurnsSoFar saw parts old seen next made) → IsTurnOf parts turns.run actor to ask → GoesOn saw parts new watch turns.run actor → after ≡ actor_number actor + 1
      → TurnsSoFar saw parts new watch after (made + 1)
  one-turn old new seen watch next after made actor to ask turns turn goes is =
      let steps = goes-steps saw parts new watch turns.run actor goes in
      let more = turn-made (network_of parts) turns.run (goes.done ∷ turns.run) actor goes.done.reply turns.turns turn.turn steps in
      let on = more.1 in
      let before = turns.long in
      record { run = goes.done ∷ turns.run; turns = more.0; goes_on = omega (arith, is, on); long = omega (arith, before); stand = goes.stand }

  -- a run has fewer steps
  pub never-ending : (engine : Engine) (watch : W) (next made : ℕ) → TurnsSoFar saw parts engine watch next made → made < 2 ^ 60
  never-ending engine watch next made turns =
      let short = run-short parts turns.run turns.stand.stands.plan turns.stand.stands.run in
      let long = turns.long in
      omega (arith, short, long)
