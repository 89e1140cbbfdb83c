-- What reading an audit's input answers, line by line and whole. Where the source makes its bytes known, they determine the
-- answer.
use Rattle.std.specs.Prelude.{List, Option, Some, None, IfSome, ℕ}
use Rattle.scenario_reader.specs.AuditReading.{AuditSaid, AuditReading, BadAuditLine, TooManyAuditBytes, audit_line, audit_on, audit_reading, nothing_read}
use Rattle.scenario_reader.specs.Causes.{Rule}
use Rattle.scenario_reader.specs.ReadSteps.{Language, Refuses}
use Rattle.scenario_reader.specs.declared.audit.place.Section.{Section}
use Rattle.scenario_reader.specs.declared.audit.place.Section.TheVariants as place
use Rattle.scenario_reader.specs.declared.cause.LineCause.TheVariants as cause
use Rattle.scenario_reader.specs.declared.reader.ReadRefusal.{ReadRefusal}
use Rattle.scenario_reader.specs.declared.reader.TheConstants.{MOST_BYTES}

-- an audit's input ends in its table
abbrev pub place_rule : Section → Rule
place_rule place.Scenario = Some cause.End
place_rule place.Report = Some cause.Table
place_rule place.Table = None

abbrev pub audit_end_rule : AuditSaid → Rule
audit_end_rule read = place_rule read.place

-- the language of audits' inputs
abbrev pub audits : Language AuditSaid AuditReading
audits = record { first = nothing_read; says = audit_line; ends = audit_end_rule; on = audit_on; refused = BadAuditLine; over = TooManyAuditBytes }

-- a refusal is that of the reading
abbrev pub RefusesReading : ReadRefusal → AuditReading → Type 0
RefusesReading why r = Refuses audits why r

-- the reading of the bytes that the source had, where it tells them, is so
abbrev pub AuditBytes : Option (List ℕ) → (AuditReading → Type 0) → Type 0
AuditBytes left P = IfSome left (λ bytes. P (audit_reading MOST_BYTES bytes))
