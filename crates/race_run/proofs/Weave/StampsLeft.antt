-- A pass draws few enough stamps for what a caller of a plan does.
use Rattle.std.proofs.Common.{ℕ, ◌*◌, ◌-◌, ◌^◌, ◌<◌, ◌≤◌, arith}
use Rattle.call_script.specs.Parts.{PlanParts}
use Rattle.call_script.specs.Plans.{IsPlan}
use Rattle.run_engine.proofs.Tasks.OpsFew.{ops-few}
use Rattle.race_run.specs.Callers.{HasLeft}

-- at 32 stamps for each operation before it, a pass has stamps left for the next one
pub stamps-left : (parts : PlanParts) (caller place drawn : ℕ) → IsPlan parts → HasLeft parts caller place → drawn ≤ 32 * place → drawn < 2 ^ 40 - 64
stamps-left parts caller place drawn plan left few =
    let most = ops-few parts caller left.entry plan left.found in
    let inside = left.inside in
    omega (arith, most, inside, few)
