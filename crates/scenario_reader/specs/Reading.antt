-- What the bytes of a scenario come to. Lines are judged one after another, each after what the lines before it said; the first that
-- is refused gives the verdict. A line ends with a line feed, and only the lines that are whole within the first `most` bytes are
-- judged. Where none is refused, more bytes than that are too many; what is left after the last line feed is a line that was cut; and
-- without a `tail` line the input ended too early.
use Rattle.std.specs.Prelude.{◌≡◌, ℕ, ◌≤◌, suc, length, Bool, true, false, if◌then◌else◌, Option, Result, Ok, Err, List, [], ◌∷◌}
use Rattle.std.specs.Io.KnownBytes.{Consumes}
use Rattle.byte_ends.specs.WholeLines.{Ending, all_given, cut_short, too_long, Outlook, outlook, whole_lines}
use Rattle.call_script.specs.Parts.{PlanParts}
use Rattle.call_script.specs.declared.schedule.Schedule.{Schedule}
use Rattle.scenario_reader.specs.Drafts.{Said, nothing_said, with_item, is_complete, parts_said, schedule_said}
use Rattle.scenario_reader.specs.Grammar.{judge}
use Rattle.scenario_reader.specs.declared.cause.LineCause.{LineCause}
use Rattle.scenario_reader.specs.declared.cause.LineCause.TheVariants as cause
use Rattle.scenario_reader.specs.declared.item.Item.{Item}

-- the plan and the schedule that were read; the line, from 1, that is refused, and its cause; or too many bytes
pub data Reading : Type 0 where
  PlanRead : PlanParts → Schedule → Reading
  BadLine : ℕ → LineCause → Reading
  TooManyBytes : Reading

-- what the end of the input comes to, after `count` lines that say this
abbrev pub at_end : Ending → ℕ → Said → Reading
at_end all_given count said = if is_complete said then PlanRead (parts_said said) (schedule_said said) else BadLine (suc count) cause.End
at_end cut_short count said = BadLine (suc count) cause.Cut
at_end too_long count said = TooManyBytes

-- a refused line is the verdict; otherwise reading goes on after what the line says
abbrev pub on_judged : Result Item LineCause → ℕ → Said → (Said → Reading) → Reading
on_judged (Ok item) line said go_on = go_on (with_item item said)
on_judged (Err cause) line said go_on = BadLine line cause

-- what these lines and the end after them come to, after `count` lines that say this
abbrev pub reading_of : ℕ → List (List ℕ) → Ending → Said → Reading
reading_of count [] ending said = at_end ending count said
reading_of count (line ∷ lines) ending said =
    on_judged (judge said (suc count) line) (suc count) said (λ after. reading_of (suc count) lines ending after)

-- the same of what is to come of bytes
abbrev pub reading_on : ℕ → Outlook → Said → Reading
reading_on count rest said = reading_of count rest.lines rest.ending said

-- what a scenario of at most `most` bytes comes to
unfoldable pub reading : ℕ → List ℕ → Reading
reading most bytes = reading_on 0 (outlook most bytes) nothing_said

-- ---- what was taken before a fault

-- what was said up to and with the line of this number, or its cause
abbrev pub with_judged : Said → Result Item LineCause → Result Said LineCause
with_judged said (Ok item) = Ok (with_item item said)
with_judged said (Err cause) = Err cause

abbrev pub said_line : Said → ℕ → List ℕ → Result Said LineCause
said_line said number line = with_judged said (judge said number line)

-- a line that passes, and then those after it
abbrev pub passes_and : {X : Type 0} → Result X LineCause → (X → Bool) → Bool
passes_and (Ok after) go_on = go_on after
passes_and (Err cause) go_on = false

-- each of these lines, the first of which is the one after `count`, passes, after what was said and the lines before it, where `says`
-- tells what was said after a line
abbrev pub are_let_pass : {X : Type 0} → (X → ℕ → List ℕ → Result X LineCause) → ℕ → List (List ℕ) → X → Bool
are_let_pass says count [] said = true
are_let_pass says count (line ∷ lines) said = passes_and (says said (suc count) line) (λ after. are_let_pass says (suc count) lines after)

-- the bytes taken from a source, `left` being what it told before and after, are no more than may be read, and hold no
-- whole line that is refused
pub record PassesFrom {X : Type 0} (says : X → ℕ → List ℕ → Result X LineCause) (first : X) (most : ℕ) (left left' : Option (List ℕ)) : Type 0 where
  pub bytes : List ℕ
  pub from_source : Consumes left left' bytes
  pub few : length bytes ≤ most
  pub passing : are_let_pass says 0 (whole_lines most bytes) first ≡ true

-- the same of a scenario
abbrev pub LetsPass : ℕ → Option (List ℕ) → Option (List ℕ) → Type 0
LetsPass most left left' = PassesFrom said_line nothing_said most left left'
