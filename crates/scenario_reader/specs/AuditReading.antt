-- What the bytes of an audit's input come to. Its lines are judged one after another, as those of a scenario are. Up to the line
-- `report`, which may stand where a scenario may end, they are those of a scenario. Then those that begin with `accept ` state
-- levels, and others are passed over, up to the header of the table. After it each line is a row. The first line that is refused
-- gives the verdict: before `report` by the scenario's causes; a line that states levels and isn't right by `Accept`; a line of the
-- table that isn't a row by `Table`. Where the input ends before `report` the cause is `End`, and where it ends before the table's
-- header `Table`, both at the line after the last one. A line that is cut is refused as cut wherever it stands.
use Rattle.std.specs.Prelude.{ℕ, suc, Bool, nat_eq, ◌&&◌, if◌then◌else◌, Option, Some, None, Result, Ok, Err, List, [], ◌∷◌, ◌++◌, codes, length, replicate, slice_set}
use Rattle.std.specs.Cmp.Lexicographic.{pointwise}
use Rattle.byte_ends.specs.WholeLines.{Ending, all_given, cut_short, too_long, Outlook, outlook}
use Rattle.call_script.specs.Parts.{PlanParts}
use Rattle.run_record.specs.declared.rows.HopRow.{HopRow}
use Rattle.scenario_reader.specs.AuditLines.{Acceptance, acceptance_in, tells_acceptance}
use Rattle.scenario_reader.specs.AuditRows.{row_told, table_header}
use Rattle.scenario_reader.specs.Drafts.{Said, nothing_said, with_item, is_complete, parts_said}
use Rattle.scenario_reader.specs.Fields.{fields_of, are_fields, field_at}
use Rattle.scenario_reader.specs.Grammar.{judge}
use Rattle.scenario_reader.specs.Reading.{PassesFrom}
use Rattle.scenario_reader.specs.declared.audit.place.Section.{Section}
use Rattle.scenario_reader.specs.declared.audit.place.Section.TheVariants as place
use Rattle.scenario_reader.specs.declared.cause.LineCause.{LineCause}
use Rattle.scenario_reader.specs.declared.cause.LineCause.TheVariants as cause
use Rattle.scenario_reader.specs.declared.item.Item.{Item}

-- what was read so far: of the scenario; which lines are read now; from `report` on the levels of each request that a line has accepted;
-- and the rows
pub record AuditSaid : Type 0 where
  pub said : Said
  pub place : Section
  pub levels : List (Option (List ℕ))
  pub rows : List HopRow

abbrev pub audit_said : Said → Section → List (Option (List ℕ)) → List HopRow → AuditSaid
audit_said said place levels rows = record { said = said; place = place; levels = levels; rows = rows }

-- nothing has been read yet
abbrev pub nothing_read : AuditSaid
nothing_read = audit_said nothing_said place.Scenario [] []

-- ---- a line of the scenario, or `report`

-- the first field of a line is `report`, where that may stand
abbrev pub begins_report : Said → List (List ℕ) → Bool
begins_report said fields = is_complete said && are_fields fields && pointwise nat_eq (field_at fields 0) (codes "report")

-- the report begins, and no request is known to be accepted
abbrev pub report_begun : AuditSaid → AuditSaid
report_begun read = record read { place = place.Report; levels = replicate (length read.said.requests) None }

abbrev pub with_said : AuditSaid → Result Item LineCause → Result AuditSaid LineCause
with_said read (Ok item) = Ok (record read { said = with_item item read.said })
with_said read (Err cause) = Err cause

abbrev pub scenario_line : AuditSaid → ℕ → List ℕ → Result AuditSaid LineCause
scenario_line read number line =
    if begins_report read.said (fields_of line)
    then (if nat_eq (length (fields_of line)) 1 then Ok (report_begun read) else Err cause.Shape)
    else with_said read (judge read.said number line)

-- ---- a line of the report, or the table's header

abbrev pub is_header : List ℕ → Bool
is_header line = pointwise nat_eq line table_header

abbrev pub with_levels : AuditSaid → Option Acceptance → Result AuditSaid LineCause
with_levels read None = Err cause.Accept
with_levels read (Some told) = Ok (record read { levels = slice_set read.levels told.request (Some told.levels) })

abbrev pub report_line : AuditSaid → List ℕ → Result AuditSaid LineCause
report_line read line =
    if is_header line then Ok (record read { place = place.Table })
    else (if tells_acceptance line then with_levels read (acceptance_in read.said.requests read.levels (fields_of line)) else Ok read)

-- ---- a row

abbrev pub with_row : AuditSaid → Option HopRow → Result AuditSaid LineCause
with_row read None = Err cause.Table
with_row read (Some row) = Ok (record read { rows = read.rows ++ row ∷ [] })

-- ---- each line

abbrev pub line_at : Section → AuditSaid → ℕ → List ℕ → Result AuditSaid LineCause
line_at place.Scenario read number line = scenario_line read number line
line_at place.Report read number line = report_line read line
line_at place.Table read number line = with_row read (row_told read.said line)

-- what was read up to and with the line of this number, or the cause by which that line is refused
unfoldable pub audit_line : AuditSaid → ℕ → List ℕ → Result AuditSaid LineCause
audit_line read number line = line_at read.place read number line

-- ---- all lines

-- the plan, the levels of each request that a line has accepted, and the rows; or the line that is refused, and its cause; or too many bytes
pub data AuditReading : Type 0 where
  AuditRead : PlanParts → List (Option (List ℕ)) → List HopRow → AuditReading
  BadAuditLine : ℕ → LineCause → AuditReading
  TooManyAuditBytes : AuditReading

-- what the end comes to, by where it came, after `count` lines
abbrev pub end_at : Section → ℕ → AuditSaid → AuditReading
end_at place.Scenario count read = BadAuditLine (suc count) cause.End
end_at place.Report count read = BadAuditLine (suc count) cause.Table
end_at place.Table count read = AuditRead (parts_said read.said) read.levels read.rows

abbrev pub audit_end : Ending → ℕ → AuditSaid → AuditReading
audit_end all_given count read = end_at read.place count read
audit_end cut_short count read = BadAuditLine (suc count) cause.Cut
audit_end too_long count read = TooManyAuditBytes

-- a refused line is the verdict; otherwise reading goes on
abbrev pub on_audited : Result AuditSaid LineCause → ℕ → (AuditSaid → AuditReading) → AuditReading
on_audited (Ok after) line go_on = go_on after
on_audited (Err cause) line go_on = BadAuditLine line cause

-- what these lines and the end after them come to, after `count` lines that say this
abbrev pub audit_of : ℕ → List (List ℕ) → Ending → AuditSaid → AuditReading
audit_of count [] ending read = audit_end ending count read
audit_of count (line ∷ lines) ending read =
    on_audited (audit_line read (suc count) line) (suc count) (λ after. audit_of (suc count) lines ending after)

-- the same of what is to come of bytes
abbrev pub audit_on : ℕ → Outlook → AuditSaid → AuditReading
audit_on count rest read = audit_of count rest.lines rest.ending read

-- what an audit's input of at most `most` bytes comes to
unfoldable pub audit_reading : ℕ → List ℕ → AuditReading
audit_reading most bytes = audit_on 0 (outlook most bytes) nothing_read

-- ---- what was taken before a fault

-- the bytes taken from a source, `left` being what it told before and after, are no more than may be read, and hold no
-- whole line that is refused
abbrev pub LetsAuditPass : ℕ → Option (List ℕ) → Option (List ℕ) → Type 0
LetsAuditPass most left left' = PassesFrom audit_line nothing_read most left left'
