-- One actor more has no step left.
use Rattle.std.proofs.Common.{length, sym, ap, ◌∙◌, arith}
use Rattle.run_engine.proofs.Keeping.NextStep.{callers-few}
use Rattle.call_times.proofs.RunsInTime.{none-more}
use Rattle.call_times.proofs.scheduling.check_over.Goals as goal

pub actor_of-requires : goal.actor_of-requires
actor_of-requires c = (let few = callers-few c.args.plan.now c.requires.1.plan in let same = ap length c.callers.ensures.value in omega (arith, few, same, c.loop-number-test.true))

pub loop-number-preserved : goal.loop-number-preserved
loop-number-preserved c = λ run stands actor less.
    let few = callers-few c.args.plan.now stands.plan in
    let same = ap length c.callers.ensures.value in
    none-more c.args.plan.now run c.loop-number.number actor c.actor_of.result c.next_ask.result (omega (arith, few, same, c.loop-number-test.true)) c.actor_of.ensures (c.next_ask.ensures run stands) (sym c.is_some.ensures ∙ c.if-is_some.false)
    (c.loop-number.invariant run stands) less
