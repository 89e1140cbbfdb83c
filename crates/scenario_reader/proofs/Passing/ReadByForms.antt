-- A line of values that fit a form is read as these values; and a line that passes was read as values that fit one of its forms.
use Rattle.std.proofs.Common.{◌≡◌, ℕ, Bool, true, false, if◌then◌else◌, List, [], ◌∷◌, Some, Ok, Err, Result, refl, ◌∙◌, ap, inl, inr}
use Rattle.std.proofs.lemmas.Bool.{cond-true, cond-false}
use Rattle.std.specs.List.{list_all}
use Rattle.call_script.specs.Versions.{has_best_effort, has_found_routes, has_groups}
use Rattle.call_script.specs.declared.version.Version.{Version}
use Rattle.line_forms.specs.BothWays.{IsReadByOne}
use Rattle.line_forms.specs.Fields.{are_fields, line_of, field_at}
use Rattle.line_forms.specs.Fitting.{FitsForm}
use Rattle.line_forms.specs.Forms.{has_form, is_form}
use Rattle.line_forms.specs.Known.{KnownNames}
use Rattle.line_forms.specs.Reading.{LineRead, read_line}
use Rattle.line_forms.specs.Writing.{fields_with}
use Rattle.line_forms.specs.declared.form.Part.{Part}
use Rattle.line_forms.specs.declared.value.Values.{Values}
use Rattle.line_forms.specs.declared.word.Keyword.{Keyword}
use Rattle.line_forms.specs.declared.word.Keyword.TheVariants as word
use Rattle.line_forms.proofs.FormsBack.{form-back, line-fits}
use Rattle.scenario_reader.specs.Drafts.{Said, with_item}
use Rattle.scenario_reader.specs.Grammar.{is_passed_over, judge}
use Rattle.scenario_reader.specs.Known.{names_said, FitsOne}
use Rattle.scenario_reader.specs.declared.cause.LineCause.{LineCause}
use Rattle.scenario_reader.specs.declared.item.Item.{Item}
use Rattle.scenario_reader.specs.line.Caller.{caller_form, member_form}
use Rattle.scenario_reader.specs.line.Link.{plain_form, best_form}
use Rattle.scenario_reader.specs.line.Request.{rate_form, jitter_form, found_rate_form, found_jitter_form}
use Rattle.scenario_reader.specs.line.Table.{forms_of, says, once_read, read_as, judge_as, line_word, may_stand}
use Rattle.scenario_reader.proofs.Back.SaysBack.{Reads, reads-one, judged-as}

-- ---- the line of values that fit

-- the line of the first of the forms
pub first-form : (names : KnownNames) (form : List Part) (forms : List (List Part)) (values : Values) → is_form form ≡ true → FitsForm names form values → read_line names (form ∷ forms) (fields_with form values) ≡ Ok values
first-form names form forms values is fits =
    let back = form-back names form values is fits in
    cond-true (has_form form (fields_with form values)) _ (read_line names forms (fields_with form values)) back.form_is ∙ back.read

-- that of a later one, which hasn't the first
pub later-form : (names : KnownNames) (other : List Part) (forms : List (List Part)) (fields : List (List ℕ)) (values : Values) → has_form other fields ≡ false → read_line names forms fields ≡ Ok values → read_line names (other ∷ forms) fields ≡ Ok values
later-form names other forms fields values apart read = cond-false (has_form other fields) _ (read_line names forms fields) apart ∙ read

-- the line that is read as values
pub record IsLine (version : Version) (said : Said) (keyword : Keyword) (form : List Part) (values : Values) : Type 0 where
  pub headed : said.version ≡ Some version
  pub stands : may_stand version said keyword ≡ true
  pub is : is_form form ≡ true
  pub fits : FitsForm (names_said said) form values
  pub begins : line_word (field_at (fields_with form values) 0) ≡ Some keyword
  pub counts : is_passed_over (line_of (fields_with form values)) ≡ false
  pub read : read_line (names_said said) (forms_of version keyword) (fields_with form values) ≡ Ok values

-- it says what its values say
pub line-judged : (version : Version) (said : Said) (keyword : Keyword) (form : List Part) (values : Values) (number : ℕ) (what : Item) → IsLine version said keyword form values → says keyword version said number values ≡ Ok what
    → judge_as keyword version said number (fields_with form values) ≡ read_as said (forms_of version keyword) (fields_with form values) (says keyword version said number)
    → (are_fields (fields_with form values) ≡ true) × (judge said number (line_of (fields_with form values)) ≡ Ok what)
line-judged version said keyword form values number what line told by =
    let fields = fields_with form values in
    let back = form-back (names_said said) form values line.is line.fits in (
      back.written,
      judged-as version said number fields keyword what back.written line.counts line.headed line.begins line.stands
          (by ∙ ap (λ (r : LineRead). once_read r (says keyword version said number)) line.read ∙ told),
    )

pub line-reads : (version : Version) (said : Said) (keyword : Keyword) (form : List Part) (values : Values) (what : Item) → IsLine version said keyword form values → ((number : ℕ) → says keyword version said number values ≡ Ok what)
    → ((number : ℕ) → judge_as keyword version said number (fields_with form values) ≡ read_as said (forms_of version keyword) (fields_with form values) (says keyword version said number))
    → Reads (fields_with form values ∷ []) said (with_item what said)
line-reads version said keyword form values what line told by =
    let back = form-back (names_said said) form values line.is line.fits in
    reads-one (fields_with form values) said what back.written (λ number. (line-judged version said keyword form values number what line (told number) (by number)).1)

-- ---- a line that passes

fits-one : (names : KnownNames) (forms : List (List Part)) (values : Values) (fields : List (List ℕ)) → IsReadByOne names forms values fields → FitsOne names forms values
fits-one names [] values fields by = absurd by
fits-one names (form ∷ []) values fields (inl by) = by.fits
fits-one names (form ∷ []) values fields (inr none) = absurd none
fits-one names (form ∷ other ∷ forms) values fields (inl by) = inl by.fits
fits-one names (form ∷ other ∷ forms) values fields (inr rest) = inr (fits-one names (other ∷ forms) values fields rest)

pub read_fits : (names : KnownNames) (forms : List (List Part)) (fields : List (List ℕ)) (values : Values) → list_all is_form forms ≡ true → read_line names forms fields ≡ Ok values → FitsOne names forms values
read_fits names forms fields values are read = fits-one names forms values fields (line-fits names forms fields values are read)

-- its values, which say the item
pub record WasRead (said : Said) (forms : List (List Part)) (say : Values → Result Item LineCause) (what : Item) : Type 0 where
  pub values : Values
  pub fits : FitsOne (names_said said) forms values
  pub says : say values ≡ Ok what

pub was-read : (said : Said) (forms : List (List Part)) (fields : List (List ℕ)) (say : Values → Result Item LineCause) (what : Item) → list_all is_form forms ≡ true → read_as said forms fields say ≡ Ok what → WasRead said forms say what
was-read said forms fields say what are e = by (read_line (names_said said) forms fields) refl e where
  by : (read : LineRead) → read_line (names_said said) forms fields ≡ read → once_read read say ≡ Ok what → WasRead said forms say what
  by (Ok values) at e = record { values = values; fits = read_fits (names_said said) forms fields values are at; says = e }
  by (Err cause) at e = cc

-- the forms of the table are forms
pub forms_are : (version : Version) (keyword : Keyword) → list_all is_form (forms_of version keyword) ≡ true
forms_are version word.Link = by (has_best_effort version) where
  by : (has : Bool) → list_all is_form (if has then plain_form ∷ best_form ∷ [] else plain_form ∷ []) ≡ true
  by true = refl
  by false = refl
forms_are version word.Group = refl
forms_are version word.Quota = refl
forms_are version word.Caller = by (has_groups version) where
  by : (has : Bool) → list_all is_form (if has then caller_form ∷ member_form ∷ [] else caller_form ∷ []) ≡ true
  by true = refl
  by false = refl
forms_are version word.Open = by (has_found_routes version) where
  by : (has : Bool) → list_all is_form (if has then rate_form ∷ jitter_form ∷ found_rate_form ∷ found_jitter_form ∷ [] else rate_form ∷ jitter_form ∷ []) ≡ true
  by true = refl
  by false = refl
forms_are version word.Send = refl
forms_are version word.Close = refl
forms_are version word.Pour = refl
forms_are version word.Move = refl
forms_are version word.Rounds = refl
forms_are version word.Tail = refl
forms_are version word.Schedule = refl
forms_are version word.Do = refl
forms_are version other = refl
