use Rattle.std.proofs.Common.{Err, ap, subst}
use Rattle.call_script.specs.Plans.{IsPlan}
use Rattle.tenet_app.proofs.AuditDue.{audits-table, audits-unread}
use Rattle.tenet_app.proofs.auditing.audit.Goals as goal

pub returns-in-Ok-clause-audits : goal.returns-in-Ok-clause-audits
returns-in-Ok-clause-audits g c =
    let answers = rw (c.as_slice.ensures.value, c.as_slice-in-Ok.ensures.value) at c.answer.ensures.answers in
    audits-table _ _ c.answer.result c.in-Ok.plan c.in-Ok.levels.items c.in-Ok.table.items (subst IsPlan c.plan.view_is c.plan.invariant)
    c.in-Ok.ensures.accepted c.in-Ok.ensures.told c.in-Ok.ensures.ended answers

pub returns-in-Err-clause-audits : goal.returns-in-Err-clause-audits
returns-in-Err-clause-audits g c =
    audits-unread _ _ c.refuse_reading.result c.in-Err.refusal c.in-Err.ensures.refused
    (λ is. c.in-Err.ensures.fault (ap Err is)) (λ is. c.in-Err.ensures.passing (ap Err is)) c.refuse_reading.ensures.tells
