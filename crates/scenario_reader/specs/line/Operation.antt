-- The operations of a caller, of any kind: the line of each, and what an operation has to pass to be added.
use Rattle.std.specs.Prelude.{ℕ, Option, List, option_map, ◌≤◌, length}
use Rattle.std.specs.List.{slice_get}
use Rattle.net_units.specs.Numbers.{link_number, channel_number}
use Rattle.call_script.specs.declared.entries.LinkEntry.{LinkEntry}
use Rattle.call_script.specs.declared.entries.RequestEntry.{RequestEntry}
use Rattle.call_script.specs.declared.operations.Op.{Op}
use Rattle.call_script.specs.declared.operations.Op.TheVariants.{Open, Send, Close, Pour, Move}
use Rattle.scenario_reader.specs.line.Request.{open_fields}
use Rattle.scenario_reader.specs.line.Send.{send_fields}
use Rattle.scenario_reader.specs.line.Close.{close_fields}
use Rattle.scenario_reader.specs.line.Pour.{pour_fields}
use Rattle.scenario_reader.specs.line.Move.{fields_between}
use Rattle.scenario_reader.specs.Fields.{lines_if, text_if}
use Rattle.call_script.specs.Growing.{IsOpenedThere, MaySend, MayPour, MayMove}
use Rattle.call_script.specs.Parts.{PlanParts}
use Rattle.scenario_reader.specs.Drafts.{Said, parts_said}
use Rattle.scenario_reader.specs.line.Before.{HasALink}
use Rattle.call_script.specs.declared.operations.Op.TheVariants as op

abbrev pub op_fields : List LinkEntry → List RequestEntry → Op → Option (List (List ℕ))
op_fields links requests (Open chan) = option_map (open_fields links) (slice_get requests (channel_number chan))
op_fields links requests (Send chan count gap size) = option_map (send_fields count gap size) (slice_get requests (channel_number chan))
op_fields links requests (Close chan) = option_map close_fields (slice_get requests (channel_number chan))
op_fields links requests (Pour link count gap size) = option_map (pour_fields count gap size) (slice_get links (link_number link))
op_fields links requests (Move old new) = fields_between (slice_get requests (channel_number old)) (slice_get requests (channel_number new))

abbrev pub op_lines : List LinkEntry → List RequestEntry → Op → List (List (List ℕ))
op_lines links requests op = lines_if (op_fields links requests op)

unfoldable pub op_text : List LinkEntry → List RequestEntry → Op → List ℕ
op_text links requests op = text_if (op_fields links requests op)

-- what a send, a close, a pour and a move have to pass
abbrev pub MayDo : PlanParts → Op → Type 0
MayDo parts (op.Open chan) = ⊥
MayDo parts (op.Send chan count gap size) = MaySend parts chan count gap size
MayDo parts (op.Close chan) = IsOpenedThere parts chan
MayDo parts (op.Pour link count gap size) = MayPour parts link count gap size
MayDo parts (op.Move old new) = MayMove parts old new

pub record MayPutOp (said : Said) (what : Op) : Type 0 where
  pub before : HasALink said
  pub some : 1 ≤ length said.callers
  pub op : MayDo (parts_said said) what
