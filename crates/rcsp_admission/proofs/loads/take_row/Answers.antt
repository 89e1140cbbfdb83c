-- No level before the row's has a part of it, and each from there on has its work.
use Rattle.std.proofs.Common.{◌≡◌, ◌≤◌, ◌+◌, ◌-◌, ap, ◌∙◌, subst, sym, get_or, set, arith}
use Rattle.net_units.specs.LevelBounds.{bound_at}
use Rattle.net_units.specs.Numbers.{level_number}
use Rattle.rcsp_admission.specs.Loads.{row_at}
use Rattle.rcsp_admission.proofs.RunningLoads.{AreLoweredTo, lowered-begins, lowered-one, work-at}
use Rattle.rcsp_admission.proofs.loads.take_row.Goals as goal

pub loop-index-init : goal.loop-index-init
loop-index-init c =
    lowered-begins c.args.rate c.args.bounds.now (row_at c.args.contract.now (level_number c.args.level)) c.args.loads.now (c.get-index.result - 1) (omega (arith, c.get-index.ensures.value, c.get-index.ensures.least))

pub overflow_sub-loads : goal.overflow_sub-loads
overflow_sub-loads c =
    let window : c.from-window.result ≡ bound_at c.args.bounds.now (c.loop-index.index + 1) = c.from-window.ensures ∙ c.at.ensures.value ∙ ap (bound_at c.args.bounds.now) c.level_at.ensures in
    let part = work-at c.args.rate c.args.bounds.now (row_at c.args.contract.now (level_number c.args.level)) c.loop-index.index c.from-window.result c.work.result (omega (arith, c.get-index.ensures.value, c.loop-index.auto.index)) window c.work.ensures.value in
    let same = c.loop-index.invariant.same c.loop-index.index (omega arith) in
    let within = c.requires.within c.loop-index.index (omega (arith, c.loop-index-test.true, c.len-index-end.ensures.value)) in
    subst (λ i. c.work.result ≤ get_or c.loop-index.loads i 0) (sym c.from.ensures) (omega (arith, same, within, part))

pub loop-index-preserved : goal.loop-index-preserved
loop-index-preserved c =
    let row = row_at c.args.contract.now (level_number c.args.level) in
    let window : c.from-window.result ≡ bound_at c.args.bounds.now (c.loop-index.index + 1) = c.from-window.ensures ∙ c.at.ensures.value ∙ ap (bound_at c.args.bounds.now) c.level_at.ensures in
    let part = work-at c.args.rate c.args.bounds.now (row_at c.args.contract.now (level_number c.args.level)) c.loop-index.index c.from-window.result c.work.result (omega (arith, c.get-index.ensures.value, c.loop-index.auto.index)) window c.work.ensures.value in
    let same = c.loop-index.invariant.same c.loop-index.index (omega arith) in
    let within = c.requires.within c.loop-index.index (omega (arith, c.loop-index-test.true, c.len-index-end.ensures.value)) in
    subst (λ i. AreLoweredTo c.args.rate c.args.bounds.now row c.args.loads.now (c.loop-index.index + 1) (set c.loop-index.loads i (get_or c.loop-index.loads i 0 - c.work.result))) (sym c.from.ensures)
    (lowered-one c.args.rate c.args.bounds.now row c.args.loads.now c.loop-index.loads c.loop-index.index _ c.loop-index.invariant (omega (arith, c.loop-index-test.true, c.len-index-end.ensures.value, c.requires.count, c.loop-index.auto.loads)) (omega (arith, same, within, part)))
