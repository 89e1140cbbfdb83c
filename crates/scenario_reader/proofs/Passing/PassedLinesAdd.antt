-- What a line that passes says may be added to what was read.
use Rattle.std.proofs.Common.{ℕ, ◌≡◌, Bool, true, false, not, List, Option, Some, None, Result, Ok, Err, cond, [], ◌∷◌, if◌then◌else◌, refl, sym, subst}
use Rattle.std.proofs.lemmas.Bool.{true≢false}
use Rattle.call_script.specs.declared.version.Version.{Version}
use Rattle.scenario_reader.specs.Drafts.{Said}
use Rattle.scenario_reader.specs.Fields.{fields_of, are_fields, field_at}
use Rattle.scenario_reader.specs.line.Header.{header_version, header_said}
use Rattle.scenario_reader.specs.line.Send.{send_form}
use Rattle.scenario_reader.specs.line.Close.{close_form}
use Rattle.scenario_reader.specs.line.Move.{move_form}
use Rattle.scenario_reader.specs.line.Pour.{pour_form}
use Rattle.scenario_reader.specs.line.Rounds.{rounds_form, tail_form}
use Rattle.scenario_reader.specs.line.Schedule.{schedule_form, do_form}
use Rattle.scenario_reader.specs.line.Table.{may_stand, line_word, says, judge_as, MayAdd}
use Rattle.scenario_reader.specs.Grammar.{judge_word, judge_after, judge_fields, is_passed_over, judge}
use Rattle.scenario_reader.specs.line.Group.{group_form}
use Rattle.scenario_reader.specs.line.Caller.{caller_forms}
use Rattle.scenario_reader.specs.line.Quota.{quota_form}
use Rattle.scenario_reader.specs.Kept.{IsDraft}
use Rattle.scenario_reader.specs.line.Link.{link_forms}
use Rattle.scenario_reader.specs.line.Request.{open_forms}
use Rattle.scenario_reader.specs.declared.cause.LineCause.{LineCause}
use Rattle.line_forms.specs.declared.word.Keyword.{Keyword}
use Rattle.scenario_reader.specs.declared.item.Item.{Item}
use Rattle.scenario_reader.proofs.kind.Group.{group-may}
use Rattle.scenario_reader.proofs.kind.Caller.{caller-may}
use Rattle.scenario_reader.proofs.kind.Link.{link-may}
use Rattle.scenario_reader.proofs.kind.Quota.{quota-may}
use Rattle.scenario_reader.proofs.kind.Send.{send-may}
use Rattle.scenario_reader.proofs.kind.Close.{close-may}
use Rattle.scenario_reader.proofs.kind.Move.{move-may}
use Rattle.scenario_reader.proofs.kind.Pour.{pour-may}
use Rattle.scenario_reader.proofs.kind.Request.{open-may}
use Rattle.scenario_reader.proofs.Passing.PassingLines.{judged-ok}
use Rattle.scenario_reader.proofs.Passing.ReadByForms.{was-read, forms_are}
use Rattle.scenario_reader.proofs.kind.Rounds.{rounds-may, tail-may}
use Rattle.scenario_reader.proofs.kind.Schedule.{schedule-may, do-may}
use Rattle.scenario_reader.specs.declared.cause.LineCause.TheVariants as cause
use Rattle.line_forms.specs.declared.word.Keyword.TheVariants as word
use Rattle.scenario_reader.specs.declared.item.Item.TheVariants as item

-- ---- each line

-- what a line that begins with this word says
says-as : (keyword : Keyword) (version : Version) (said : Said) (number : ℕ) (fields : List (List ℕ)) (what : Item) → IsDraft said → said.version ≡ Some version → may_stand version said keyword ≡ true
    → judge_as keyword version said number fields ≡ Ok what → MayAdd said what
says-as word.Link version said number fields what draft v m e =
    let line = was-read said (link_forms version) fields (says word.Link version said number) what (forms_are version word.Link) e in
    link-may version said line.values what v m line.fits line.says
says-as word.Group version said number fields what draft v m e =
    let line = was-read said (group_form ∷ []) fields (says word.Group version said number) what refl e in
    group-may version said line.values what v m line.fits line.says
says-as word.Quota version said number fields what draft v m e =
    let line = was-read said (quota_form ∷ []) fields (says word.Quota version said number) what refl e in
    quota-may version said line.values what draft v m line.fits line.says
says-as word.Caller version said number fields what draft v m e =
    let line = was-read said (caller_forms version) fields (says word.Caller version said number) what (forms_are version word.Caller) e in
    caller-may version said line.values what v m line.fits line.says
says-as word.Open version said number fields what draft v m e =
    let line = was-read said (open_forms version) fields (says word.Open version said number) what (forms_are version word.Open) e in
    open-may version said line.values what draft v m line.fits line.says
says-as word.Send version said number fields what draft v m e =
    let line = was-read said (send_form ∷ []) fields (says word.Send version said number) what refl e in
    send-may version said line.values what draft v m line.fits line.says
says-as word.Close version said number fields what draft v m e =
    let line = was-read said (close_form ∷ []) fields (says word.Close version said number) what refl e in
    close-may version said line.values what draft v m line.fits line.says
says-as word.Move version said number fields what draft v m e =
    let line = was-read said (move_form ∷ []) fields (says word.Move version said number) what refl e in
    move-may version said line.values what draft v m line.fits line.says
says-as word.Pour version said number fields what draft v m e =
    let line = was-read said (pour_form ∷ []) fields (says word.Pour version said number) what refl e in
    pour-may version said line.values what draft v m line.fits line.says
says-as word.Rounds version said number fields what draft v m e =
    let line = was-read said (rounds_form ∷ []) fields (says word.Rounds version said number) what refl e in
    rounds-may version said line.values what v m line.fits line.says
says-as word.Tail version said number fields what draft v m e =
    let line = was-read said (tail_form ∷ []) fields (says word.Tail version said number) what refl e in
    tail-may version said line.values what v m line.fits line.says
says-as word.Schedule version said number fields what draft v m e =
    let line = was-read said (schedule_form ∷ []) fields (says word.Schedule version said number) what refl e in
    subst (MayAdd said) (judged-ok None item.Schedule what line.says).1 (schedule-may version said v m)
says-as word.Do version said number fields what draft v m e =
    let line = was-read said (do_form ∷ []) fields (says word.Do version said number) what refl e in
    do-may version said number line.values what v m line.fits line.says
says-as other version said number fields what draft v m e = absurd (true≢false (sym m))

-- what is judged Ok where a condition holds
ok-where : (holds : Bool) (r : Result Item LineCause) (c : LineCause) (what : Item) → cond holds r (Err c) ≡ Ok what → (holds ≡ true) × (r ≡ Ok what)
ok-where true r c what e = (refl, e)
ok-where false r c what e = cc

-- what is judged Ok unless a condition holds
ok-unless : (fails : Bool) (r : Result Item LineCause) (c : LineCause) (what : Item) → cond fails (Err c) r ≡ Ok what → r ≡ Ok what
ok-unless true r c what e = cc
ok-unless false r c what e = e

-- what a line after the header says
says-word : (keyword : Option Keyword) (version : Version) (said : Said) (number : ℕ) (fields : List (List ℕ)) (what : Item) → IsDraft said → said.version ≡ Some version
    → judge_word keyword version said number fields ≡ Ok what → MayAdd said what
says-word None version said number fields what draft v e = cc
says-word (Some keyword) version said number fields what draft v e =
    let p = ok-where (may_stand version said keyword) (judge_as keyword version said number fields) cause.Word what e in
    says-as keyword version said number fields what draft v p.0 p.1

header-may : (found : Option Version) (said : Said) (what : Item) → said.version ≡ None → header_said found ≡ Ok what → MayAdd said what
header-may None said what v e = cc
header-may (Some version) said what v e = (let same : item.Header version ≡ what = cc in subst (MayAdd said) same v)

-- what a line of fields says, before and after the header
says-after : (headed : Option Version) (said : Said) (number : ℕ) (fields : List (List ℕ)) (what : Item) → IsDraft said → said.version ≡ headed
    → judge_after headed said number fields ≡ Ok what → MayAdd said what
says-after None said number fields what draft v e = header-may (header_version fields) said what v e
says-after (Some version) said number fields what draft v e = says-word (line_word (field_at fields 0)) version said number fields what draft v e

-- what a line says that is let pass may be added
pub may-add : (said : Said) (number : ℕ) (line : List ℕ) (what : Item) → IsDraft said → judge said number line ≡ Ok what → MayAdd said what
unfolding judge
may-add said number line what draft e = by (is_passed_over line) e where
  by : (over : Bool) → (if over then Ok item.Nothing else judge_fields said number (fields_of line)) ≡ Ok what → MayAdd said what
  by true e = (let same : item.Nothing ≡ what = cc in subst (MayAdd said) same tt)
  by false e = says-after said.version said number (fields_of line) what draft refl (ok-unless (not (are_fields (fields_of line))) (judge_after said.version said number (fields_of line)) cause.Shape what e)
