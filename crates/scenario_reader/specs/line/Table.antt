-- The kinds of lines, each with the word that begins it, when it may stand, what it says or the cause by which it is refused, and
-- what it may add. Best-effort packets have their forms from version three on, groups and quotas from version five on, and moves from
-- version six on; before those versions these forms don't exist.
use Rattle.std.specs.Prelude.{ℕ, Bool, false, nat_eq, not, ◌&&◌, if◌then◌else◌, Option, Some, None, Result, Ok, Err, List, [], ◌∷◌, length, is_some, is_none, ◌≡◌}
use Rattle.call_script.specs.Versions.{has_best_effort, has_groups, has_moves}
use Rattle.call_script.specs.declared.version.Version.{Version}
use Rattle.line_forms.specs.Reading.{LineRead, read_line}
use Rattle.line_forms.specs.declared.form.Part.{Part}
use Rattle.line_forms.specs.declared.value.Values.{Values}
use Rattle.scenario_reader.specs.Drafts.{Said, has_quotas}
use Rattle.scenario_reader.specs.Forms.{is_word}
use Rattle.scenario_reader.specs.Known.{names_said}
use Rattle.scenario_reader.specs.Words.{field_cause}
use Rattle.scenario_reader.specs.line.Group.{group_form, group_says, MayPutGroup}
use Rattle.scenario_reader.specs.line.Caller.{caller_forms, caller_says, MayPutCaller}
use Rattle.scenario_reader.specs.line.Link.{link_forms, link_says, MayPutLink}
use Rattle.scenario_reader.specs.line.Request.{open_forms, open_says, MayPutOpen}
use Rattle.scenario_reader.specs.line.Quota.{quota_form, quota_says, MayPutQuota}
use Rattle.scenario_reader.specs.declared.cause.LineCause.{LineCause}
use Rattle.line_forms.specs.declared.word.Keyword.{Keyword}
use Rattle.scenario_reader.specs.declared.item.Item.{Item}
use Rattle.scenario_reader.specs.line.Send.{send_form, send_says}
use Rattle.scenario_reader.specs.line.Close.{close_form, close_says}
use Rattle.scenario_reader.specs.line.Move.{move_form, move_says}
use Rattle.scenario_reader.specs.line.Pour.{pour_form, pour_says}
use Rattle.scenario_reader.specs.line.Rounds.{rounds_form, rounds_says, tail_form, tail_says, MayPutRounds, MayPutTail}
use Rattle.scenario_reader.specs.line.Schedule.{schedule_form, do_form, do_says, MayPutSchedule, MayPutDo}
use Rattle.scenario_reader.specs.line.Operation.{MayPutOp}
use Rattle.scenario_reader.specs.declared.cause.LineCause.TheVariants as cause
use Rattle.line_forms.specs.declared.word.Keyword.TheVariants as word
use Rattle.scenario_reader.specs.declared.item.Item.TheVariants as item

-- a link was read, and no caller and no rounds
abbrev pub is_before_callers : Said → Bool
is_before_callers said = not (nat_eq (length said.links) 0) && nat_eq (length said.callers) 0 && is_none said.rounds

-- whether a line with this first word may come next
abbrev pub may_stand : Version → Said → Keyword → Bool
may_stand version said word.Link = nat_eq (length said.groups) 0 && nat_eq (length said.callers) 0 && is_none said.rounds
may_stand version said word.Group = has_groups version && is_before_callers said && not (has_quotas said.links)
may_stand version said word.Quota = has_groups version && is_before_callers said
may_stand version said word.Caller = not (nat_eq (length said.links) 0) && is_none said.rounds
may_stand version said word.Open = not (nat_eq (length said.callers) 0) && is_none said.rounds
may_stand version said word.Send = not (nat_eq (length said.callers) 0) && is_none said.rounds
may_stand version said word.Close = not (nat_eq (length said.callers) 0) && is_none said.rounds
may_stand version said word.Pour = has_best_effort version && not (nat_eq (length said.callers) 0) && is_none said.rounds
may_stand version said word.Move = has_moves version && not (nat_eq (length said.callers) 0) && is_none said.rounds
may_stand version said word.Rounds = not (nat_eq (length said.links) 0) && is_none said.rounds
may_stand version said word.Tail = is_some said.rounds && is_none said.tail
may_stand version said word.Schedule = is_some said.tail && not said.written
may_stand version said word.Do = said.written
may_stand version said other = false

-- the fixed word that begins a line, if its first field is one
abbrev pub line_word : List ℕ → Option Keyword
line_word field =
    if is_word word.Do field then Some word.Do else (
    if is_word word.Send field then Some word.Send else (
    if is_word word.Open field then Some word.Open else (
    if is_word word.Close field then Some word.Close else (
    if is_word word.Pour field then Some word.Pour else (
    if is_word word.Move field then Some word.Move else (
    if is_word word.Caller field then Some word.Caller else (
    if is_word word.Link field then Some word.Link else (
    if is_word word.Quota field then Some word.Quota else (
    if is_word word.Group field then Some word.Group else (
    if is_word word.Rounds field then Some word.Rounds else (
    if is_word word.Tail field then Some word.Tail else (
    if is_word word.Schedule field then Some word.Schedule else None))))))))))))

-- the forms that a line may have which begins with this word
abbrev pub forms_of : Version → Keyword → List (List Part)
forms_of version word.Link = link_forms version
forms_of version word.Group = group_form ∷ []
forms_of version word.Quota = quota_form ∷ []
forms_of version word.Caller = caller_forms version
forms_of version word.Open = open_forms version
forms_of version word.Send = send_form ∷ []
forms_of version word.Close = close_form ∷ []
forms_of version word.Pour = pour_form ∷ []
forms_of version word.Move = move_form ∷ []
forms_of version word.Rounds = rounds_form ∷ []
forms_of version word.Tail = tail_form ∷ []
forms_of version word.Schedule = schedule_form ∷ []
forms_of version word.Do = do_form ∷ []
forms_of version other = []

-- what the values of the line of this number say, or the cause by which it is refused after its fields passed
abbrev pub says : Keyword → Version → Said → ℕ → Values → Result Item LineCause
says word.Link version said number values = link_says version said values
says word.Group version said number values = group_says said values
says word.Quota version said number values = quota_says said values
says word.Caller version said number values = caller_says said values
says word.Open version said number values = open_says said values
says word.Send version said number values = send_says said values
says word.Close version said number values = close_says said values
says word.Pour version said number values = pour_says said values
says word.Move version said number values = move_says said values
says word.Rounds version said number values = rounds_says values
says word.Tail version said number values = tail_says said values
says word.Schedule version said number values = Ok item.Schedule
says word.Do version said number values = do_says said number values
says other version said number values = Err cause.Word

-- the cause of the first field that doesn't pass, or else what the values say
abbrev pub once_read : LineRead → (Values → Result Item LineCause) → Result Item LineCause
once_read (Ok values) say = say values
once_read (Err cause) say = Err (field_cause cause)

-- what a line says that has to have one of these forms
abbrev pub read_as : Said → List (List Part) → List (List ℕ) → (Values → Result Item LineCause) → Result Item LineCause
read_as said forms fields say = once_read (read_line (names_said said) forms fields) say

-- what the line of this number says, which begins with this word, or its cause
abbrev pub judge_as : Keyword → Version → Said → ℕ → List (List ℕ) → Result Item LineCause
judge_as keyword version said number fields = read_as said (forms_of version keyword) fields (says keyword version said number)

-- what a line that passes says has these
abbrev pub MayAdd : Said → Item → Type 0
MayAdd said item.Nothing = Unit {0}
MayAdd said (item.Header version) = said.version ≡ None
MayAdd said (item.Link entry) = MayPutLink said entry
MayAdd said (item.Group name) = MayPutGroup said name
MayAdd said (item.Quota link quota) = MayPutQuota said link quota
MayAdd said (item.Caller name group) = MayPutCaller said name group
MayAdd said (item.Open entry) = MayPutOpen said entry
MayAdd said (item.Op what) = MayPutOp said what
MayAdd said (item.Rounds count) = MayPutRounds said count
MayAdd said (item.Tail count) = MayPutTail said count
MayAdd said item.Schedule = MayPutSchedule said
MayAdd said (item.Do what) = MayPutDo said what
