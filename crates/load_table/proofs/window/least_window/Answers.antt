-- A window that is too short needs one that is no longer than any that holds the load.
use Rattle.std.proofs.Common.{arith}
use Rattle.net_units.specs.Numbers.{level_number}
use Rattle.load_table.proofs.WorkOfRows.{needs-more}
use Rattle.load_table.proofs.window.least_window.Goals as goal

pub loop-window-init : goal.loop-window-init
loop-window-init c = record { some = omega arith; least = λ v some holds. some }

pub loop-window-preserved : goal.loop-window-preserved
loop-window-preserved c =
    let some = c.loop-window.invariant.some in
    let short = c.if-needed-window.false in
    record {
      some = omega (arith, some, short);
      least = needs-more c.args.link.now c.args.rows.now (level_number c.args.level) c.loop-window.window c.load-needed.result c.see_contracts.ensures c.load-needed.ensures c.loop-window.invariant.least;
    }

pub returns-then-needed-window : goal.returns-then-needed-window
returns-then-needed-window c = (
  c.loop-window-test.true,
  record {
    some = c.loop-window.invariant.some;
    holds = (let is = c.load-needed.ensures in let fits = c.if-needed-window.true in omega (arith, is, fits));
    least = c.loop-window.invariant.least;
  },
)

pub returns : goal.returns
returns c = λ v some within holds. (let low = c.loop-window.invariant.least v some holds in let past = c.loop-window-test.false in omega (arith, low, past, within))
