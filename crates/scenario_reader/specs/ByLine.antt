-- Scenarios and audits' inputs are judged line by line: the first line, and, where it passes, what stands after it. After the last
-- line it is judged whether they may end there.
use Rattle.std.specs.Prelude.{◌≡◌, refl, ℕ, suc, Bool, true, false, if◌then◌else◌, ⊤, None, Some, Result, Ok, Err}
use Rattle.std.proofs.Common.{ap, subst}
use Rattle.std.proofs.lemmas.Option.{same_Some}
use Rattle.byte_ends.specs.WholeLines.{Outlook}
use Rattle.scenario_reader.specs.AuditReading.{AuditSaid, BadAuditLine, audit_line, audit_of, end_at, on_audited}
use Rattle.scenario_reader.specs.AuditSteps.{audits, place_rule}
use Rattle.scenario_reader.specs.Causes.{Rule, unless}
use Rattle.scenario_reader.specs.Drafts.{Said, is_complete, parts_said, schedule_said}
use Rattle.scenario_reader.specs.Grammar.{judge}
use Rattle.scenario_reader.specs.Reading.{BadLine, PlanRead, Reading, on_judged, reading_of, with_judged}
use Rattle.scenario_reader.specs.ReadSteps.{IsByLine, judged_on, scenarios}
use Rattle.scenario_reader.specs.declared.audit.place.Section.{Section}
use Rattle.scenario_reader.specs.declared.audit.place.Section.TheVariants as place
use Rattle.scenario_reader.specs.declared.cause.LineCause.{LineCause}
use Rattle.scenario_reader.specs.declared.cause.LineCause.TheVariants as cause
use Rattle.scenario_reader.specs.declared.item.Item.{Item}

scenario_next : (judged : Result Item LineCause) (count : ℕ) (rest : Outlook) (said : Said)
    → on_judged judged count said (λ after. reading_of count rest.lines rest.ending after) ≡ judged_on scenarios (with_judged said judged) count rest
scenario_next (Ok item) count rest said = refl
scenario_next (Err cause) count rest said = refl

-- a rule that lets a text end refuses it by no cause
abbrev Refused : Rule → Type 0 → Type 0
Refused None P = ⊤
Refused (Some why) P = P

scenario_end : (complete : Bool) (read : Reading) (count : ℕ) (why : LineCause) → unless complete cause.End ≡ Some why → (if complete then read else BadLine (suc count) cause.End) ≡ BadLine (suc count) why
scenario_end true read count why is = subst (λ rule. Refused rule (read ≡ BadLine (suc count) why)) is tt
scenario_end false read count why is = ap (BadLine (suc count)) (same_Some cause.End why is)

pub scenarios_by_line : IsByLine scenarios
scenarios_by_line = record {
  next = λ count line rest said. scenario_next (judge said (suc count) line) (suc count) rest said;
  cut = λ count said. refl;
  end = λ count said why is. scenario_end (is_complete said) (PlanRead (parts_said said) (schedule_said said)) count why is;
  over = λ count said. refl;
}

audit_next : (judged : Result AuditSaid LineCause) (count : ℕ) (rest : Outlook)
    → on_audited judged count (λ after. audit_of count rest.lines rest.ending after) ≡ judged_on audits judged count rest
audit_next (Ok after) count rest = refl
audit_next (Err cause) count rest = refl

audit_end : (at : Section) (count : ℕ) (read : AuditSaid) (why : LineCause) → place_rule at ≡ Some why → end_at at count read ≡ BadAuditLine (suc count) why
audit_end place.Scenario count read why is = ap (BadAuditLine (suc count)) (same_Some cause.End why is)
audit_end place.Report count read why is = ap (BadAuditLine (suc count)) (same_Some cause.Table why is)
audit_end place.Table count read why is = subst (λ rule. Refused rule (end_at place.Table count read ≡ BadAuditLine (suc count) why)) is tt

pub audits_by_line : IsByLine audits
audits_by_line = record {
  next = λ count line rest read. audit_next (audit_line read (suc count) line) (suc count) rest;
  cut = λ count read. refl;
  end = λ count read why is. audit_end read.place count read why is;
  over = λ count read. refl;
}
