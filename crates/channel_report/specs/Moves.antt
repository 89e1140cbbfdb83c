-- A move that was made has a line of its own: how many packets stayed with the channel that was left, and how many went to the
-- other. These lines stand in the order of the callers and of their operations. A move that is under way when the run ends has none.
use Rattle.std.specs.Prelude.{ℕ, Option, Some, None, List, [], ◌∷◌, codes}
use Rattle.std.specs.Fmt.{decimal}
use Rattle.std.specs.List.{flat_map, slice_get}
use Rattle.net_units.specs.Numbers.{channel_number}
use Rattle.channel_move.specs.declared.shifted.Shifted.{Shifted}
use Rattle.call_script.specs.Parts.{PlanParts}
use Rattle.call_script.specs.declared.entries.CallerEntry.{CallerEntry}
use Rattle.call_script.specs.declared.entries.RequestEntry.{RequestEntry}
use Rattle.call_script.specs.declared.operations.Op.{Op}
use Rattle.call_script.specs.declared.operations.Op.TheVariants.{Move}
use Rattle.run_engine.specs.channels.Moves.{moved_in}
use Rattle.run_record.specs.declared.done.Done.{Done}
use Rattle.text_writer.specs.Lines.{whole_line}

-- move OLD NEW kept N shifted X, where the move was made
abbrev pub made_line : List ℕ → List ℕ → Option Shifted → List ℕ
made_line old new None = []
made_line old new (Some told) = whole_line (codes "move" ∷ old ∷ new ∷ codes "kept" ∷ decimal told.kept ∷ codes "shifted" ∷ decimal told.shifted ∷ [])

-- that of a move between two requests, if they are there
abbrev pub line_between : PlanParts → List Done → Option RequestEntry → Option RequestEntry → List ℕ
line_between parts run None new = []
line_between parts run (Some old) None = []
line_between parts run (Some old) (Some new) = made_line old.name new.name (moved_in parts run old)

-- that of an operation, which only a move has
abbrev pub op_line : PlanParts → List Done → Op → List ℕ
op_line parts run (Move old new) = line_between parts run (slice_get parts.requests (channel_number old)) (slice_get parts.requests (channel_number new))
op_line parts run _ = []

abbrev pub script_lines : PlanParts → List Done → List Op → List ℕ
script_lines parts run ops = flat_map (op_line parts run) ops

abbrev pub caller_lines : PlanParts → List Done → CallerEntry → List ℕ
caller_lines parts run caller = script_lines parts run caller.ops

-- the lines of all callers
abbrev pub move_lines : PlanParts → List Done → List ℕ
move_lines parts run = flat_map (caller_lines parts run) parts.callers
