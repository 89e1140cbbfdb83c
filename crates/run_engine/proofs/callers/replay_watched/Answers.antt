-- The next entry is the next step of its actor; the callers stand after it, and it is seen.
use Rattle.std.proofs.Common.{◌≡◌, ◌<◌, length, get_or, refl, reverse, take, sym, subst, ◌∙◌}
use Rattle.run_engine.proofs.Words.{network_of}
use Rattle.run_engine.specs.schedules.Standing.{IsNextStep}
use Rattle.run_engine.specs.schedules.Watching.{IsNextSeen, IsSeen}
use Rattle.run_engine.proofs.Runs.RunFronts.{front-run, front-more, front-next}
use Rattle.run_engine.proofs.callers.replay_watched.Goals as goal

pub loop-done-init : goal.loop-done-init
loop-done-init g c = record { plan = c.in_ok-callers.ensures.valid; seen = record { stand = c.in_ok-callers.ensures.stand; seen = c.requires.fresh }; table = refl }

pub take-requires : goal.take-requires
take-requires g c =
    let entries = c.args.run.now.entries in
    let inside : c.loop-done.done-index < length entries = rw (← c.entries-done-items.ensures) c.loop-done-test.true in
    let at : c.done-item.result ≡ get_or entries c.loop-done.done-index c.done-item.result = rw (← c.entries-done-items.ensures) c.done-item.is in (
      reverse (take c.loop-done.done-index entries),
      record {
        plan = c.loop-done.invariant.plan;
        run = front-run (network_of c.args.plan.now) entries c.loop-done.done-index c.requires.run;
        next = front-next (network_of c.args.plan.now) entries c.loop-done.done-index c.done-item.result inside at c.requires.run;
        stand = c.loop-done.invariant.seen.stand;
      },
    )

pub see-requires : goal.see-requires
see-requires g c =
    let entries = c.args.run.now.entries in
    let inside : c.loop-done.done-index < length entries = rw (← c.entries-done-items.ensures) c.loop-done-test.true in
    let at : c.done-item.result ≡ get_or entries c.loop-done.done-index c.done-item.result = rw (← c.entries-done-items.ensures) c.done-item.is in (
      reverse (take c.loop-done.done-index entries),
      record {
        plan = c.loop-done.invariant.plan;
        run = front-run (network_of c.args.plan.now) entries c.loop-done.done-index c.requires.run;
        next = front-next (network_of c.args.plan.now) entries c.loop-done.done-index c.done-item.result inside at c.requires.run;
        seen = c.loop-done.invariant.seen.seen;
      },
    )

pub loop-done-preserved : goal.loop-done-preserved
loop-done-preserved g c =
    let entries = c.args.run.now.entries in
    let inside : c.loop-done.done-index < length entries = rw (← c.entries-done-items.ensures) c.loop-done-test.true in
    let at : c.done-item.result ≡ get_or entries c.loop-done.done-index c.done-item.result = rw (← c.entries-done-items.ensures) c.done-item.is in
    let past = reverse (take c.loop-done.done-index entries) in
    let run = front-run (network_of c.args.plan.now) entries c.loop-done.done-index c.requires.run in
    let next = front-next (network_of c.args.plan.now) entries c.loop-done.done-index c.done-item.result inside at c.requires.run in
    let due : IsNextStep c.args.plan.now c.loop-done.callers past c.done-item.result = record { plan = c.loop-done.invariant.plan; run = run; next = next; stand = c.loop-done.invariant.seen.stand } in
    let seen : IsNextSeen g.W.Watch.saw c.args.plan.now c.loop-done.watch past c.done-item.result = record { plan = c.loop-done.invariant.plan; run = run; next = next; seen = c.loop-done.invariant.seen.seen } in
    record {
      plan = c.loop-done.invariant.plan;
      seen = subst (IsSeen g.W.Watch.saw c.args.plan.now c.take.new.self c.see.new.self) (sym (front-more entries c.loop-done.done-index c.done-item.result inside at))
          (record { stand = c.take.ensures past due; seen = c.in_ok-see.ensures.seen past seen });
      table = c.in_ok-see.ensures.table ∙ c.loop-done.invariant.table;
    }
