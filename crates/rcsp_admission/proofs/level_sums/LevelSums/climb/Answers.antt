-- Each turn goes on with the load, which every window that fits is at least.
use Rattle.std.proofs.Common.{◌≤◌, sym, subst, arith}
use Rattle.net_units.specs.Numbers.{level_number}
use Rattle.rcsp_admission.specs.Sums.{AreAdmitted, admitted_rows}
use Rattle.rcsp_admission.proofs.LastFullLevel.{search-goes_on}
use Rattle.rcsp_admission.proofs.StaysAdmitted.{contracts-with}
use Rattle.rcsp_admission.proofs.level_sums.LevelSums.climb.Goals as goal

pub loop-turn-init : goal.loop-turn-init
loop-turn-init c = (omega arith, λ none. absurd (omega arith), c.requires.none)

pub loop-turn-preserved : goal.loop-turn-preserved
loop-turn-preserved c =
    let admitted = subst AreAdmitted c.self.view_is c.self.invariant.admitted in (
      omega (arith, c.loop-turn.invariant.0, c.if-load-window.false),
      λ some. omega (arith, c.loop-turn.invariant.0, c.if-load-window.false),
      λ w fits. subst (λ n. n ≤ w) (sym c.load_with-load.ensures)
          (search-goes_on c.args.self.now.server (admitted_rows c.args.self.now.rows) c.args.contract.now (level_number c.args.level) c.loop-turn.window
          (contracts-with c.args.self.now.rows c.args.contract.now (level_number c.args.level) admitted.contracts c.burst-burst.ensures.valid) c.loop-turn.invariant.2 w fits),
    )

pub returns-then-load-window-clause-least : goal.returns-then-load-window-clause-least
returns-then-load-window-clause-least c = c.loop-turn.invariant.2
