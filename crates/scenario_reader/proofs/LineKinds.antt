-- A line that was read up to its values says what these say, and that may be added.
use Rattle.std.proofs.Common.{◌≡◌, ℕ, true, List, Option, Some, Result, Ok, Err, ◌∙◌, ap, IfOk}
use Rattle.std.proofs.lemmas.Bool.{cond-true}
use Rattle.call_script.specs.declared.version.Version.{Version}
use Rattle.line_forms.specs.Reading.{LineRead, read_line}
use Rattle.line_forms.specs.declared.value.Values.{Values}
use Rattle.line_forms.specs.declared.word.Keyword.{Keyword}
use Rattle.scenario_reader.specs.Causes.{AnswersWithRoom}
use Rattle.scenario_reader.specs.Drafts.{Said}
use Rattle.scenario_reader.specs.Fields.{field_at}
use Rattle.scenario_reader.specs.Grammar.{judge, judge_after, judge_word}
use Rattle.scenario_reader.specs.Kept.{IsDraft}
use Rattle.scenario_reader.specs.Known.{names_said}
use Rattle.scenario_reader.specs.ReadSteps.{ReadsAs, said_on}
use Rattle.scenario_reader.specs.declared.cause.LineCause.TheVariants as cause
use Rattle.scenario_reader.specs.declared.cause.LineFault.{LineFault}
use Rattle.scenario_reader.specs.declared.item.Item.{Item}
use Rattle.scenario_reader.specs.declared.judge.LineKind.{LineKind}
use Rattle.scenario_reader.specs.declared.judge.LineKind.TheVariants as kind
use Rattle.scenario_reader.specs.line.Table.{MayAdd, forms_of, line_word, may_stand, once_read, says}
use Rattle.scenario_reader.proofs.Passing.PassedLinesAdd.{may-add}
use Rattle.scenario_reader.proofs.Passing.ReadByForms.{read_fits, forms_are}

-- ---- a line by its word

-- a line that may come next is read by the forms of its word
pub word-judged : (version : Version) (said : Said) (number : ℕ) (fields : List (List ℕ)) (keyword : Keyword) → line_word (field_at fields 0) ≡ Some keyword → may_stand version said keyword ≡ true
    → judge_after (Some version) said number fields ≡ once_read (read_line (names_said said) (forms_of version keyword) fields) (says keyword version said number)
word-judged version said number fields keyword begins stands =
    ap (λ (word : Option Keyword). judge_word word version said number fields) begins
    ∙ cond-true (may_stand version said keyword) _ (Err cause.Word) stands

-- and says what its values say, which fit one of them
pub values-read : (version : Version) (said : Said) (fields : List (List ℕ)) (keyword : Keyword) (values : Values) → line_word (field_at fields 0) ≡ Some keyword → may_stand version said keyword ≡ true
    → read_line (names_said said) (forms_of version keyword) fields ≡ Ok values → ReadsAs (Ok (kind.Values keyword version)) (λ number. judge_after (Some version) said number fields) said values
values-read version said fields keyword values begins stands read = (
  λ number. word-judged version said number fields keyword begins stands ∙ ap (λ (r : LineRead). once_read r (says keyword version said number)) read,
  read_fits (names_said said) (forms_of version keyword) fields values (forms_are version keyword) read,
)

-- ---- what it says

-- what was read as this kind says it
pub kind-says : (read kind : LineKind) (said : Said) (number : ℕ) (line : List ℕ) (values : Values) → read ≡ kind → ReadsAs (Ok read) (λ n. judge said n line) said values → judge said number line ≡ said_on kind said number values
kind-says read kind said number line values is reads = reads.0 number ∙ ap (λ (k : LineKind). said_on k said number values) is

-- that may be added
pub kind-may : (read kind : LineKind) (said : Said) (number : ℕ) (line : List ℕ) (values : Values) (what : Item) → IsDraft said → read ≡ kind → ReadsAs (Ok read) (λ n. judge said n line) said values → said_on kind said number values ≡ Ok what → MayAdd said what
kind-may read kind said number line values what draft is reads says = may-add said number line what draft (kind-says read kind said number line values is reads ∙ says)

-- the same of an answer
pub answer-may : (said : Said) (number : ℕ) (line : List ℕ) (r : Result Item LineFault) → IsDraft said → AnswersWithRoom r (judge said number line) → IfOk r (MayAdd said)
answer-may said number line (Ok what) draft told = may-add said number line what draft told
answer-may said number line (Err why) draft told = tt
