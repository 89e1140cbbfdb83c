-- The caller's ticks and the tick are found where they stand.
use Rattle.std.proofs.Common.{refl}
use Rattle.run_engine.proofs.Keeping.Lookups.{found-at}
use Rattle.call_times.proofs.scheduling.due_of.Goals as goal

pub returns-in-Some-get-2 : goal.returns-in-Some-get-2
returns-in-Some-get-2 c =
    let own = c.in-Some-get.ensures.lookup in
    let tick = c.in-Some-get-2.ensures.lookup in
    record {
      own = c.in-Some-get.own.now;
      given = found-at c.args.times.now c.args.times.now c.args.caller c.args.caller c.in-Some-get.own.now refl refl own.3.0 own.1;
      at = found-at c.deref.result.now c.in-Some-get.own.now.ticks.items c.args.place c.args.place c.in-Some-get-2.tick.now c.deref.ensures.value refl tick.3.0 tick.1;
    }
