-- Lines that say what they are of, one after another.
use Rattle.std.proofs.Common.{ℕ, ◌≡◌, suc, true, false, not, List, [], ◌∷◌, ◌++◌, map, Option, Some, Ok, Result, refl, sym, ◌∙◌, ap, subst, ◌≤◌, nat_eq, length, None, arith}
use Rattle.std.proofs.lemmas.Bool.{cond-false, ne_eqb, not_from_false}
use Rattle.byte_ends.specs.WholeLines.{all_given}
use Rattle.call_script.specs.declared.version.Version.{Version}
use Rattle.scenario_reader.specs.Drafts.{Said, with_item}
use Rattle.scenario_reader.specs.Fields.{fields_of, line_of, are_fields, field_at}
use Rattle.scenario_reader.specs.line.Table.{may_stand, line_word, judge_as}
use Rattle.scenario_reader.specs.Grammar.{judge_word, judge_after, judge_fields, is_passed_over, judge}
use Rattle.scenario_reader.specs.Reading.{at_end, on_judged, reading_of}
use Rattle.scenario_reader.specs.declared.cause.LineCause.{LineCause}
use Rattle.line_forms.specs.declared.word.Keyword.{Keyword}
use Rattle.scenario_reader.specs.declared.item.Item.{Item}
use Rattle.line_forms.proofs.FieldText.{fields-back}
use Rattle.scenario_reader.proofs.Back.LineText.{AreLines}
use Rattle.call_script.specs.declared.entries.CallerEntry.{CallerEntry}
use Rattle.call_script.specs.declared.entries.LinkEntry.{LinkEntry}
use Rattle.call_script.specs.declared.entries.RequestEntry.{RequestEntry}

-- ---- one line

fields-again : (fields : List (List ℕ)) (keyword : Keyword) → line_word (field_at fields 0) ≡ Some keyword → are_fields fields ≡ true → fields_of (line_of fields) ≡ fields
fields-again [] keyword begins are = cc
fields-again (field ∷ fields) keyword begins are = fields-back field fields are

judged-word : (version : Version) (said : Said) (number : ℕ) (begin : Option Keyword) (fields : List (List ℕ)) (keyword : Keyword) (what : Item) → begin ≡ Some keyword → may_stand version said keyword ≡ true
    → judge_as keyword version said number fields ≡ Ok what → judge_word begin version said number fields ≡ Ok what
judged-word version said number begin fields keyword what begins stands says = rw (begins, stands) says

-- a line of fields is judged by its fields
pub judged-as : (version : Version) (said : Said) (number : ℕ) (fields : List (List ℕ)) (keyword : Keyword) (what : Item) → are_fields fields ≡ true → is_passed_over (line_of fields) ≡ false → said.version ≡ Some version
    → line_word (field_at fields 0) ≡ Some keyword → may_stand version said keyword ≡ true → judge_as keyword version said number fields ≡ Ok what → judge said number (line_of fields) ≡ Ok what
unfolding judge
judged-as version said number fields keyword what are over headed begins stands says =
    cond-false (is_passed_over (line_of fields)) _ (judge_fields said number (fields_of (line_of fields))) over
    ∙ ap (judge_fields said number) (fields-again fields keyword begins are)
    ∙ cond-false (not (are_fields fields)) _ (judge_after said.version said number fields) (ap not are)
    ∙ ap (λ (v : Option Version). judge_after v said number fields) headed
    ∙ judged-word version said number (line_word (field_at fields 0)) fields keyword what begins stands says

-- ---- lines one after another

-- these lines, the first of which is the one after `count`, say what takes one draft to the other, up to the line `end`
pub Leads : ℕ → List (List (List ℕ)) → Said → ℕ → Said → Type 0
Leads count [] said end after = (count ≡ end) × (said ≡ after)
Leads count (fields ∷ lines) said end after = (what : Item) × (are_fields fields ≡ true) × (judge said (suc count) (line_of fields) ≡ Ok what) × Leads (suc count) lines (with_item what said) end after

pub leads-nothing : (count : ℕ) (said : Said) → Leads count [] said count said
unfolding Leads
leads-nothing count said = (refl, refl)

pub leads-more : (fields : List (List ℕ)) (lines : List (List (List ℕ))) (count end : ℕ) (said after : Said) (what : Item) → are_fields fields ≡ true → judge said (suc count) (line_of fields) ≡ Ok what → Leads (suc count) lines (with_item what said) end after → Leads count (fields ∷ lines) said end after
unfolding Leads
leads-more fields lines count end said after what are says rest = (what, are, says, rest)

pub leads-on : (xs ys : List (List (List ℕ))) (count middle end : ℕ) (said between after : Said) → Leads count xs said middle between → Leads middle ys between end after → Leads count (xs ++ ys) said end after
unfolding Leads
leads-on [] ys count middle end said between after first rest = subst (λ (s : Said). Leads count ys s end after) (sym first.1) (subst (λ (n : ℕ). Leads n ys between end after) (sym first.0) rest)
leads-on (fields ∷ xs) ys count middle end said between after first rest = (first.0, first.1, first.2, leads-on xs ys (suc count) middle end (with_item first.0 said) between after first.3 rest)

-- wherever they stand
pub record LeadTo (lines : List (List (List ℕ))) (said after : Said) (count : ℕ) : Type 0 where
  pub end : ℕ
  pub leads : Leads count lines said end after

abbrev pub Reads : List (List (List ℕ)) → Said → Said → Type 0
Reads lines said after = (count : ℕ) → LeadTo lines said after count

pub reads-none : (said : Said) → Reads [] said said
unfolding Leads
reads-none said = λ count. record { end = count; leads = (refl, refl) }

pub reads-one : (fields : List (List ℕ)) (said : Said) (what : Item) → are_fields fields ≡ true → ((number : ℕ) → judge said number (line_of fields) ≡ Ok what) → Reads (fields ∷ []) said (with_item what said)
unfolding Leads
reads-one fields said what are says = λ count. record { end = suc count; leads = (what, are, says (suc count), (refl, refl)) }

pub reads-on : (xs ys : List (List (List ℕ))) (said between after : Said) → Reads xs said between → Reads ys between after → Reads (xs ++ ys) said after
reads-on xs ys said between after first rest = λ count.
    let one = first count in
    let two = rest one.end in
    record { end = two.end; leads = leads-on xs ys count one.end two.end said between after one.leads two.leads }

-- ---- what they come to

pub leads-reading : (lines : List (List (List ℕ))) (count end : ℕ) (said after : Said) → Leads count lines said end after → reading_of count (map line_of lines) all_given said ≡ at_end all_given end after
unfolding Leads
leads-reading [] count end said after leads = ap (λ (n : ℕ). at_end all_given n said) leads.0 ∙ ap (at_end all_given end) leads.1
leads-reading (fields ∷ lines) count end said after leads =
    ap (λ (r : Result Item LineCause). on_judged r (suc count) said (λ next. reading_of (suc count) (map line_of lines) all_given next)) leads.2 ∙ leads-reading lines (suc count) end (with_item leads.0 said) after leads.3

pub leads-lines : (lines : List (List (List ℕ))) (count end : ℕ) (said after : Said) → Leads count lines said end after → AreLines lines
unfolding Leads
leads-lines [] count end said after leads = tt
leads-lines (fields ∷ lines) count end said after leads = (leads.1, leads-lines lines (suc count) end (with_item leads.0 said) after leads.3)

-- what was read up to the operations
abbrev pub front : Version → List LinkEntry → List (List ℕ) → List RequestEntry → List CallerEntry → Said
front version links groups requests callers = record { version = Some version; links = links; groups = groups; requests = requests; callers = callers; rounds = None; tail = None; written = false; items = [] }

-- some of a list
pub not-none : {X : Type 0} (xs : List X) → 1 ≤ length xs → not (nat_eq (length xs) 0) ≡ true
not-none xs some = not_from_false (nat_eq (length xs) 0) (ne_eqb (length xs) 0 (λ e. omega (arith, e)))

-- what was read up to `tail`
abbrev pub whole : Version → List LinkEntry → List (List ℕ) → List RequestEntry → List CallerEntry → ℕ → ℕ → Said
whole version links groups requests callers rounds tail = record { version = Some version; links = links; groups = groups; requests = requests; callers = callers; rounds = Some rounds; tail = Some tail; written = false; items = [] }
