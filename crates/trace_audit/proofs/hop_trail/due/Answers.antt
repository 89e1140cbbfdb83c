use Rattle.std.proofs.Common.{subst, arith}
use Rattle.std.specs.Prelude.{IfSome}
use Rattle.run_record.specs.SmallRows.{IsSmall}
use Rattle.trace_audit.proofs.hop_trail.due.Goals as goal

pub overflow_add-result-in-Some : goal.overflow_add-result-in-Some
overflow_add-result-in-Some c =
    let small = subst (λ o. IfSome o IsSmall) c.in-Some.is c.requires in
    let e = small.eligible in
    omega (arith, e)

pub returns-in-Some-clause-most : goal.returns-in-Some-clause-most
returns-in-Some-clause-most c =
    let small = subst (λ o. IfSome o IsSmall) c.in-Some.is c.requires in
    let e = small.eligible in
    omega (arith, e)
