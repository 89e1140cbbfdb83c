use Rattle.std.proofs.Common.{[], ◌∷◌, length, sym, ap, subst, arith}
use Rattle.std.proofs.lemmas.List.{length-append}
use Rattle.race_run_tests.specs.Worked.{EachWithNumber, IsWorkedCaller}
use Rattle.race_run_tests.proofs.WorkedRaces.{numbered-more}
use Rattle.race_run_tests.proofs.tests.callers.Goals as goal

pub loop-number-preserved : goal.loop-number-preserved
loop-number-preserved c = record {
  all = subst (EachWithNumber IsWorkedCaller 0) (sym c.in_ok-push.ensures.items)
      (numbered-more IsWorkedCaller 0 c.loop-number.callers.items c.in_ok-caller.field-0 c.loop-number.invariant.all (subst (λ n. IsWorkedCaller n c.in_ok-caller.field-0) (let count = c.loop-number.invariant.count in omega (arith, count)) c.in_ok-caller.ensures));
  count = omega (arith, ap length c.in_ok-push.ensures.items, length-append c.loop-number.callers.items (c.in_ok-caller.field-0 ∷ []), c.loop-number.invariant.count);
}
