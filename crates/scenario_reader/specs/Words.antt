-- The words by which a scenario's refusals are printed.
use Rattle.std.specs.Prelude.{ℕ, List, ◌++◌, codes}
use Rattle.std.specs.Fmt.{decimal}
use Rattle.line_forms.specs.declared.cause.FieldCause.{FieldCause}
use Rattle.line_forms.specs.declared.cause.FieldCause.TheVariants as field
use Rattle.scenario_reader.specs.declared.cause.Cause.{Cause}
use Rattle.scenario_reader.specs.declared.cause.Cause.TheVariants as cause
use Rattle.scenario_reader.specs.declared.cause.LineCause.{LineCause}
use Rattle.scenario_reader.specs.declared.cause.LineCause.TheVariants as line
use Rattle.scenario_reader.specs.declared.reader.ReadRefusal.{ReadRefusal}
use Rattle.scenario_reader.specs.declared.reader.ReadRefusal.TheVariants as refusal

-- the cause of a field, among all causes of a line
abbrev pub field_cause : FieldCause → LineCause
field_cause field.Shape = line.Shape
field_cause field.Name = line.Name
field_cause field.Number = line.Number
field_cause field.Known = line.Known
field_cause field.Unknown = line.Unknown
field_cause field.Range = line.Range

-- the cause of a line, among all causes by which a scenario is refused
abbrev pub cause_of : LineCause → Cause
cause_of line.Header = cause.Header
cause_of line.Word = cause.Word
cause_of line.Shape = cause.Shape
cause_of line.Name = cause.Name
cause_of line.Number = cause.Number
cause_of line.Known = cause.Known
cause_of line.Unknown = cause.Unknown
cause_of line.Range = cause.Range
cause_of line.Many = cause.Many
cause_of line.Contract = cause.Contract
cause_of line.Levels = cause.Levels
cause_of line.Route = cause.Route
cause_of line.Closed = cause.Closed
cause_of line.Load = cause.Load
cause_of line.End = cause.End
cause_of line.Cut = cause.Cut
cause_of line.Best = cause.Best
cause_of line.Reach = cause.Reach
cause_of line.Accept = cause.Accept
cause_of line.Table = cause.Table
cause_of line.Quota = cause.Quota
cause_of line.Move = cause.Move

-- the word of a cause
abbrev pub cause_word : Cause → List ℕ
cause_word cause.Header = codes "header"
cause_word cause.Word = codes "word"
cause_word cause.Shape = codes "shape"
cause_word cause.Name = codes "name"
cause_word cause.Number = codes "number"
cause_word cause.Known = codes "known"
cause_word cause.Unknown = codes "unknown"
cause_word cause.Range = codes "range"
cause_word cause.Many = codes "many"
cause_word cause.Contract = codes "contract"
cause_word cause.Levels = codes "levels"
cause_word cause.Route = codes "route"
cause_word cause.Closed = codes "closed"
cause_word cause.Load = codes "load"
cause_word cause.End = codes "end"
cause_word cause.Cut = codes "cut"
cause_word cause.Step = codes "step"
cause_word cause.Best = codes "best"
cause_word cause.Reach = codes "reach"
cause_word cause.Accept = codes "accept"
cause_word cause.Table = codes "table"
cause_word cause.Quota = codes "quota"
cause_word cause.Move = codes "move"

-- what a refusal says
abbrev pub refusal_text : ReadRefusal → List ℕ
refusal_text refusal.Memory = codes "out of memory"
refusal_text refusal.ReadFault = codes "the source failed"
refusal_text (refusal.TooLong taken) = codes "over the limit after " ++ decimal taken ++ codes " bytes"
refusal_text (refusal.Refused line cause) = codes "refused " ++ decimal line ++ codes " " ++ cause_word cause
