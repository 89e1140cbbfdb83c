use Rattle.std.proofs.Common.{[], ◌∷◌, length, sym, ap, subst, arith}
use Rattle.std.proofs.lemmas.List.{length-append}
use Rattle.race_run_tests.specs.Worked.{EachWithNumber, IsWorkedLink}
use Rattle.race_run_tests.proofs.WorkedRaces.{numbered-more}
use Rattle.race_run_tests.proofs.tests.moves.links.Goals as goal

pub loop-number-preserved : goal.loop-number-preserved
loop-number-preserved c = record {
  all = subst (EachWithNumber IsWorkedLink 0) (sym c.in_ok-push.ensures.items)
      (numbered-more IsWorkedLink 0 c.loop-number.links.items c.in_ok-link.field-0 c.loop-number.invariant.all (subst (λ n. IsWorkedLink n c.in_ok-link.field-0) (let count = c.loop-number.invariant.count in omega (arith, count)) c.in_ok-link.ensures));
  count = omega (arith, ap length c.in_ok-push.ensures.items, length-append c.loop-number.links.items (c.in_ok-link.field-0 ∷ []), c.loop-number.invariant.count);
}
