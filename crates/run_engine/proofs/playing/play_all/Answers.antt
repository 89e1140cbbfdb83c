-- One more actor has played out.
use Rattle.std.proofs.Common.{◌≡◌, length, refl, ap, ◌∙◌, arith}
use Rattle.run_engine.proofs.Keeping.NextStep.{callers-few}
use Rattle.run_engine.proofs.Watched.WatchedSteps.{none-yet, one-out}
use Rattle.run_engine.proofs.playing.play_all.Goals as goal

pub loop-number-init : goal.loop-number-init
loop-number-init g c = record { played = none-yet g.W.Watch.saw c.args.plan.now c.args.engine.now c.args.watch.now c.requires; table = refl }

pub actor_of-requires : goal.actor_of-requires
actor_of-requires g c =
    let same : length c.callers.result.now ≡ length c.args.plan.now.callers = ap length c.callers.ensures.value in
    omega (arith, c.loop-number-test.true, callers-few c.args.plan.now c.requires.stands.plan, same)

pub make_all-requires : goal.make_all-requires
make_all-requires g c = (c.loop-number.invariant.played.run, c.loop-number.invariant.played.stand)

pub loop-number-preserved : goal.loop-number-preserved
loop-number-preserved g c = record {
  played = one-out g.W.Watch.saw c.args.plan.now c.loop-number.engine c.make_all.new.engine c.loop-number.watch c.make_all.new.watch c.loop-number.number c.actor_of.result c.actor_of.ensures c.loop-number.invariant.played c.in_ok-make_all.ensures.out;
  table = c.in_ok-make_all.ensures.table ∙ c.loop-number.invariant.table;
}
