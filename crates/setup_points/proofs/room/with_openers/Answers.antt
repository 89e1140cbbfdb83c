use Rattle.run_engine.specs.schedules.Schedules.{turns_of}
use Rattle.setup_points.proofs.Openers.{by-none, by-one-more}
use Rattle.setup_points.proofs.room.with_openers.Goals as goal

pub loop-kind-init : goal.loop-kind-init
loop-kind-init c = by-none c.args.first (turns_of c.args.front.items)

pub loop-kind-preserved : goal.loop-kind-preserved
loop-kind-preserved c =
    by-one-more c.args.first c.loop-kind.kind c.in_ok-steps.steps c.actor_of-actor.result (turns_of c.args.front.items) c.loop-kind.items.items c.add_item.new.items.items c.actor_of-actor.ensures
    c.loop-kind.invariant c.in_ok-add_item.ensures
