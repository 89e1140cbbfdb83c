use Rattle.std.proofs.Common.{[], ◌∷◌, length, sym, ap, subst, arith}
use Rattle.std.proofs.lemmas.List.{length-append}
use Rattle.race_run_tests.specs.Worked.{EachWithNumber, IsMovedRequest}
use Rattle.race_run_tests.proofs.WorkedRaces.{numbered-more}
use Rattle.race_run_tests.proofs.tests.moves.requests.Goals as goal

pub loop-number-preserved : goal.loop-number-preserved
loop-number-preserved c = record {
  all = subst (EachWithNumber IsMovedRequest 0) (sym c.in_ok-push_request.ensures.ok)
      (numbered-more IsMovedRequest 0 c.loop-number.requests.items c.in_ok-request.field-0 c.loop-number.invariant.all (subst (λ n. IsMovedRequest n c.in_ok-request.field-0) (let count = c.loop-number.invariant.count in omega (arith, count)) c.in_ok-request.ensures));
  count = omega (arith, ap length c.in_ok-push_request.ensures.ok, length-append c.loop-number.requests.items (c.in_ok-request.field-0 ∷ []), c.loop-number.invariant.count);
}
