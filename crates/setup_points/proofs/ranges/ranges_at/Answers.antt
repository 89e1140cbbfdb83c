use Rattle.std.proofs.Common.{IfOk, List, subst}
use Rattle.call_script.specs.declared.schedule.Do.{Do}
use Rattle.setup_points.specs.Ranges.{AreRangesAt}
use Rattle.setup_points.proofs.ranges.ranges_at.Goals as goal

pub returns : goal.returns
returns c =
    subst (λ (items : List Do). IfOk c.ranges_asked.result (λ ranges. AreRangesAt c.args.plan.now items c.args.start c.args.number ranges.items)) c.in_ok-copied.ensures c.ranges_asked.ensures
