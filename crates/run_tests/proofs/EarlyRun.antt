-- The rows of a run of a plan can be made of its entries, since each of its ticks is early.
use Rattle.std.proofs.Common.{List, subst}
use Rattle.std.proofs.lemmas.List.{reverse-reverse}
use Rattle.std.specs.Prelude.{reverse}
use Rattle.link_steps.specs.Lists.{Each}
use Rattle.call_script.specs.Parts.{PlanParts}
use Rattle.call_script.specs.Plans.{IsPlan}
use Rattle.call_script.specs.Tasks.{network_of}
use Rattle.run_record.specs.Rows.{IsEarly}
use Rattle.run_record.specs.declared.done.Done.{Done}
use Rattle.run_engine.specs.runs.Runs.{IsRun}
use Rattle.audit_laws.proofs.SmallRuns.{every-tick-is-early}

pub ticks-are-early : (plan : PlanParts) (entries : List Done) → IsPlan plan → IsRun (network_of plan) (reverse entries) → Each (λ (done : Done). IsEarly done.reply) entries
ticks-are-early plan entries is run = subst (Each (λ (done : Done). IsEarly done.reply)) (reverse-reverse entries) (every-tick-is-early plan (reverse entries) is run)
