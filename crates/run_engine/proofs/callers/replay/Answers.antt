-- The next entry is the next step of its actor, and the callers stand after it.
use Rattle.std.proofs.Common.{◌≡◌, ◌<◌, length, get_or, reverse, take, sym, subst}
use Rattle.run_engine.proofs.Words.{network_of}
use Rattle.run_engine.specs.schedules.Standing.{CallersStand, IsNextStep}
use Rattle.run_engine.proofs.Runs.RunFronts.{front-run, front-more, front-next}
use Rattle.run_engine.proofs.callers.replay.Goals as goal

pub take-requires : goal.take-requires
take-requires c =
    let entries = c.args.run.now.entries in
    let inside : c.loop-done.done-index < length entries = rw (← c.entries-done-items.ensures) c.loop-done-test.true in
    let at : c.done-item.result ≡ get_or entries c.loop-done.done-index c.done-item.result = rw (← c.entries-done-items.ensures) c.done-item.is in (
      reverse (take c.loop-done.done-index entries),
      record {
        plan = c.loop-done.invariant.plan;
        run = front-run (network_of c.args.plan.now) entries c.loop-done.done-index c.requires;
        next = front-next (network_of c.args.plan.now) entries c.loop-done.done-index c.done-item.result inside at c.requires;
        stand = c.loop-done.invariant.stand;
      },
    )

pub loop-done-preserved : goal.loop-done-preserved
loop-done-preserved c =
    let entries = c.args.run.now.entries in
    let inside : c.loop-done.done-index < length entries = rw (← c.entries-done-items.ensures) c.loop-done-test.true in
    let at : c.done-item.result ≡ get_or entries c.loop-done.done-index c.done-item.result = rw (← c.entries-done-items.ensures) c.done-item.is in
    let due : IsNextStep c.args.plan.now c.loop-done.callers (reverse (take c.loop-done.done-index entries)) c.done-item.result = record {
      plan = c.loop-done.invariant.plan;
      run = front-run (network_of c.args.plan.now) entries c.loop-done.done-index c.requires;
      next = front-next (network_of c.args.plan.now) entries c.loop-done.done-index c.done-item.result inside at c.requires;
      stand = c.loop-done.invariant.stand;
    } in
    record {
      plan = c.loop-done.invariant.plan;
      stand = subst (CallersStand c.args.plan.now c.take.new.self) (sym (front-more entries c.loop-done.done-index c.done-item.result inside at)) (c.take.ensures (reverse (take c.loop-done.done-index entries)) due);
    }
