-- One operation more, or all of them.
use Rattle.call_times.specs.Makings.{IsDue}
use Rattle.call_times.proofs.RunsInTime.{when-some}
use Rattle.call_times.proofs.scheduling.schedule_at.Goals as goal
use Rattle.std.proofs.lemmas.Result.{IfOk-weaker}

pub make_due-requires : goal.make_due-requires
make_due-requires c = (c.args.times.now, c.loop.invariant, when-some (IsDue c.args.times.now) _ c.in-Some.due c.in-Some.is c.in_ok-due.ensures)

pub loop-preserved : goal.loop-preserved
loop-preserved c = c.in_ok-make_due-in-Some.ensures c.args.times.now c.loop.invariant (when-some (IsDue c.args.times.now) _ c.in-Some.due c.in-Some.is c.in_ok-due.ensures)

pub finished-requires : goal.finished-requires
finished-requires c = (c.args.times.now, c.loop.invariant)

pub returns : goal.returns
returns c = IfOk-weaker c.finished.result _ _ (λ made at. at c.args.times.now c.loop.invariant) c.finished.ensures
