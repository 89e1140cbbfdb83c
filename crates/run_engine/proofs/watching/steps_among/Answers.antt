-- The entry at hand is of the actor, or it isn't.
use Rattle.std.proofs.Common.{sym, ◌∙◌, refl, arith}
use Rattle.run_engine.proofs.Words.{replies_to}
use Rattle.run_engine.proofs.Keeping.NextStep.{steps-same, steps-other}
use Rattle.run_engine.proofs.watching.steps_among.Goals as goal
use Rattle.run_engine.proofs.watching.steps_among.Goals.{then-get, else-get}

pub loop-done-init : goal.loop-done-init
unfolding replies_to
loop-done-init c = record { made = refl; most = omega arith }

pub loop-done-preserved : goal.loop-done-preserved
loop-done-preserved c =
    elim c.if-get.branch [
      | then-get w ↦
          record {
            made = w.made-is ∙ steps-same c.args.actor c.args.entries.now c.loop-done.done-index c.loop-done.made c.done-item.result c.loop-done-test.true c.done-item.is c.loop-done.invariant.made
                (sym c.get.ensures.value ∙ w.if-get.true ∙ c.get-in-loop-done.ensures.value);
            most = omega (arith, w.made-is, c.loop-done.invariant.most);
          }
      | else-get w ↦
          record {
            made = w.made-is ∙ steps-other c.args.actor c.args.entries.now c.loop-done.done-index c.loop-done.made c.done-item.result c.loop-done-test.true c.done-item.is c.loop-done.invariant.made
                (λ same. w.if-get.false (c.get.ensures.value ∙ same ∙ sym c.get-in-loop-done.ensures.value));
            most = omega (arith, w.made-is, c.loop-done.invariant.most);
          }
    ]
