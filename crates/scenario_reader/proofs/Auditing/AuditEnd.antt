-- What the end of an audit's input comes to, by where it came.
use Rattle.std.proofs.Common.{◌≡◌, None, ℕ, List, Option, refl}
use Rattle.call_script.specs.Parts.{PlanParts}
use Rattle.run_record.specs.declared.rows.HopRow.{HopRow}
use Rattle.scenario_reader.specs.Drafts.{parts_said}
use Rattle.scenario_reader.specs.AuditReading.{AuditSaid, AuditRead, end_at}
use Rattle.scenario_reader.specs.AuditSteps.{place_rule}
use Rattle.scenario_reader.specs.declared.audit.place.Section.{Section}
use Rattle.scenario_reader.specs.declared.audit.place.Section.TheVariants as place

-- an audit's input that may end has come to its table
pub may-end : (now : Section) → place_rule now ≡ None → now ≡ place.Table
may-end place.Scenario is = cc
may-end place.Report is = cc
may-end place.Table is = refl

pub table-end : (now : Section) (n : ℕ) (read : AuditSaid) (plan : PlanParts) (levels : List (Option (List ℕ))) (rows : List HopRow)
    → now ≡ place.Table
    → plan ≡ parts_said read.said → levels ≡ read.levels → rows ≡ read.rows → end_at now n read ≡ AuditRead plan levels rows
table-end now n read plan levels rows at is given told = rw (at, is, given, told) refl
