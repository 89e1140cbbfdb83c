-- The lines of a scenario, in their order: the header, which says the version of the language; the links; the groups of callers, and
-- the quotas that groups have of links; the callers, each followed by its operations; `rounds`; `tail`; and then a schedule may
-- stand, with its `do` lines. How a line is judged after what was read: an empty line and one that begins with `#` are passed over,
-- the first one of the others is the header, and each line after it is judged by the word that begins it (`line.Table`).
use Rattle.std.specs.Prelude.{ℕ, Bool, true, nat_eq, not, if◌then◌else◌, Option, Some, None, Result, Ok, Err, List, [], ◌∷◌}
use Rattle.call_script.specs.declared.version.Version.{Version}
use Rattle.scenario_reader.specs.Drafts.{Said}
use Rattle.scenario_reader.specs.Fields.{fields_of, are_fields, field_at}
use Rattle.scenario_reader.specs.declared.cause.LineCause.{LineCause}
use Rattle.line_forms.specs.declared.word.Keyword.{Keyword}
use Rattle.scenario_reader.specs.declared.item.Item.{Item}
use Rattle.scenario_reader.specs.line.Header.{header_version, header_said}
use Rattle.scenario_reader.specs.line.Table.{may_stand, line_word, judge_as}
use Rattle.scenario_reader.specs.declared.cause.LineCause.TheVariants as cause
use Rattle.scenario_reader.specs.declared.item.Item.TheVariants as item

-- the same, where such a line may come next
abbrev pub judge_word : Option Keyword → Version → Said → ℕ → List (List ℕ) → Result Item LineCause
judge_word None version said number fields = Err cause.Word
judge_word (Some keyword) version said number fields = if may_stand version said keyword then judge_as keyword version said number fields else Err cause.Word

-- the first line is the header; after it each line begins with a word
abbrev pub judge_after : Option Version → Said → ℕ → List (List ℕ) → Result Item LineCause
judge_after None said number fields = header_said (header_version fields)
judge_after (Some version) said number fields = judge_word (line_word (field_at fields 0)) version said number fields

-- what the line of these fields says, or its cause
abbrev pub judge_fields : Said → ℕ → List (List ℕ) → Result Item LineCause
judge_fields said number fields = if not (are_fields fields) then Err cause.Shape else judge_after said.version said number fields

-- whether a line is passed over, whatever bytes it has: an empty one, and one that begins with `#`
abbrev pub is_passed_over : List ℕ → Bool
is_passed_over [] = true
is_passed_over (b ∷ bs) = nat_eq b 35

-- what the line of this number says after what was read, or the cause by which it is refused
unfoldable pub judge : Said → ℕ → List ℕ → Result Item LineCause
judge said number line = if is_passed_over line then Ok item.Nothing else judge_fields said number (fields_of line)
