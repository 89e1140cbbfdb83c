-- The item under way gets longer, or a new one begins.
use Rattle.std.proofs.Common.{◌++◌, sym, ap, ◌∙◌}
use Rattle.net_units.proofs.KnownByNumber.{same-actor}
use Rattle.run_engine.specs.schedules.Schedules.{repeated, turns_of}
use Rattle.call_times.specs.Makings.{turns_made}
use Rattle.call_times.proofs.RunsInTime.{item-begun, item-longer}
use Rattle.call_times.proofs.making.Making.add.Goals as goal

pub returns-then-steps-saturating_sub-clause-turns : goal.returns-then-steps-saturating_sub-clause-turns
unfolding turns_made
returns-then-steps-saturating_sub-clause-turns c =
    let self = c.args.self.now in
    item-longer self.items.items self.count c.args.steps self.actor
    ∙ ap (λ a. (turns_of self.items.items ++ repeated self.count self.actor) ++ repeated c.args.steps a) (same-actor self.actor c.args.actor (sym c.get.ensures.value ∙ c.if-get.true ∙ c.get-2.ensures.value))

pub returns-clause-turns : goal.returns-clause-turns
unfolding turns_made
returns-clause-turns c =
    let ended = c.in_ok-end_item.ensures in
    let after = c.end_item.new.self in
    item-begun after.items.items c.args.steps c.args.actor after.actor
    ∙ ap (λ n. (turns_of after.items.items ++ repeated n after.actor) ++ repeated c.args.steps c.args.actor) (sym ended.none)
    ∙ ap (λ turns. turns ++ repeated c.args.steps c.args.actor) ended.turns
