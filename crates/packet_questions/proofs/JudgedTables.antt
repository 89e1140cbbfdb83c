-- What is judged by the promises of a run is judged by what that run promised.
use Rattle.std.proofs.Common.{◌≡◌, List, subst}
use Rattle.call_script.specs.Parts.{PlanParts}
use Rattle.call_script.specs.Tasks.{network_of}
use Rattle.call_script.specs.declared.schedule.Schedule.{Schedule}
use Rattle.run_engine.specs.schedules.Schedules.{IsPlayed}
use Rattle.run_record.specs.declared.done.Done.{Done}
use Rattle.packet_audit.specs.declared.rows.Promise.{Promise}
use Rattle.packet_answers.specs.PromisesOfRuns.{promises_in}
use Rattle.packet_questions.specs.Audits.{IsAuditOf, IsJudgedBy}
use Rattle.packet_questions.specs.declared.audit.Audit.{Audit}

pub audit-of : (parts : PlanParts) (schedule : Schedule) (run : List Done) (promises : List Promise) (audit : Audit) → IsPlayed (network_of parts) schedule run → promises ≡ promises_in parts.requests run → IsJudgedBy promises audit → IsAuditOf parts schedule audit
audit-of parts schedule run promises audit played are judges = record { run = run; played = played; judges = subst (λ ps. IsJudgedBy ps audit) are judges }
