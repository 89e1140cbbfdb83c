-- It is found where it stands.
use Rattle.std.proofs.Common.{refl}
use Rattle.run_engine.proofs.Keeping.Lookups.{found-at}
use Rattle.call_times.proofs.scheduling.operation_at.Goals as goal

pub returns-in-Some-get : goal.returns-in-Some-get
returns-in-Some-get c =
    let entry = c.in-Some.ensures.lookup in
    let op = c.in-Some-get.ensures.lookup in
    record {
      entry = c.in-Some.entry.now;
      found = found-at c.callers.result.now c.args.plan.now.callers c.args.caller c.args.caller c.in-Some.entry.now c.callers.ensures.value refl entry.3.0 entry.1;
      is = found-at c.as_slice.result.now c.in-Some.entry.now.ops c.args.place c.args.place c.in-Some-get.op.now c.as_slice.ensures refl op.3.0 op.1;
    }
