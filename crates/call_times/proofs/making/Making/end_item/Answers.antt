-- The steps that were counted are an item.
use Rattle.std.proofs.Common.{◌++◌, ap, ◌∙◌}
use Rattle.run_engine.specs.schedules.Schedules.{repeated, turns_of}
use Rattle.call_times.specs.Makings.{turns_made}
use Rattle.call_times.proofs.RunsInTime.{item-ended}
use Rattle.call_times.proofs.making.Making.end_item.Goals as goal

pub returns-in_ok-push-2-clause-turns : goal.returns-in_ok-push-2-clause-turns
unfolding turns_made
returns-in_ok-push-2-clause-turns c =
    let self = c.args.self.now in
    ap (λ items. turns_of items ++ repeated 0 self.actor) c.in_ok-push.ensures.items
    ∙ item-ended self.items.items (record { line = 0; actor = self.actor; count = self.count }) self.actor
