-- One more caller, and then all.
use Rattle.std.proofs.Common.{sym, ap, subst, ◌∙◌, ◌≡◌, [], ◌∷◌, length, arith}
use Rattle.run_engine.proofs.Words.{length-append, actor_number}
use Rattle.run_engine.proofs.Keeping.KeptActors.{CallersMade, one-made, all-made}
use Rattle.run_engine.proofs.Keeping.NextStep.{callers-few}
use Rattle.run_engine.proofs.callers.Callers.new.Goals as goal

pub actor_of-requires : goal.actor_of-requires
actor_of-requires c = omega (arith, callers-few c.args.plan.now c.callers-count.ensures.valid, ap length c.callers-count.ensures.value, c.loop-number-test.true)

pub loop-number-preserved : goal.loop-number-preserved
loop-number-preserved c =
    let own = ap actor_number (c.in_ok-new.ensures.caller ∙ c.actor_of.ensures) in
    let few = callers-few c.args.plan.now c.callers-count.ensures.valid in
    record {
      count = omega (arith, ap length c.in_ok-push.ensures.items, length-append c.loop-number.by_number.items (c.in_ok-new.field-0 ∷ []), c.loop-number.invariant.count);
      made = subst (CallersMade c.args.plan.now) (sym c.in_ok-push.ensures.items)
          (one-made c.args.plan.now c.loop-number.by_number.items c.in_ok-new.field-0 c.loop-number.invariant.made (own ∙ omega (arith, few, ap length c.callers-count.ensures.value, c.loop-number-test.true, c.loop-number.invariant.count)) c.in_ok-new.ensures.stands);
    }

pub returns-clause-stand : goal.returns-clause-stand
returns-clause-stand c =
    let long : length c.loop-number.by_number.items ≡ length c.callers-count.result.now = omega (arith, c.loop-number.invariant.count, c.loop-number-test.false, c.loop-number.auto.number-end) in
    all-made c.args.plan.now c.loop-number.by_number.items (long ∙ ap length c.callers-count.ensures.value) c.loop-number.invariant.made
