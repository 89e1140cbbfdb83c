-- The lines `rounds` and `tail`: what one that passes says may be added, and those of a plan say its rounds.
use Rattle.std.proofs.Common.{ℕ, ◌≡◌, ◌+◌, ◌*◌, ◌≤◌, true, not, ◌&&◌, nat_eq, List, [], ◌∷◌, length, Some, Ok, is_some, is_none, refl, subst, arith}
use Rattle.std.proofs.lemmas.Bool.{le-leb, leb-true, and_parts, and_from}
use Rattle.call_script.specs.declared.entries.CallerEntry.{CallerEntry}
use Rattle.call_script.specs.declared.entries.LinkEntry.{LinkEntry}
use Rattle.call_script.specs.declared.entries.RequestEntry.{RequestEntry}
use Rattle.call_script.specs.declared.version.Version.{Version}
use Rattle.line_forms.specs.Fitting.{FitsForm}
use Rattle.line_forms.specs.Values.{number_at, with_ones}
use Rattle.line_forms.specs.declared.value.FieldValue.TheVariants as value
use Rattle.line_forms.specs.declared.value.Values.{Values}
use Rattle.line_forms.specs.declared.word.Keyword.TheVariants as word
use Rattle.line_forms.proofs.FitsByPlace.{number-fits}
use Rattle.scenario_reader.specs.Causes.{unless}
use Rattle.scenario_reader.specs.Drafts.{Said, rounds_of, with_item}
use Rattle.scenario_reader.specs.Known.{names_said}
use Rattle.scenario_reader.specs.declared.cause.LineCause.TheVariants as cause
use Rattle.scenario_reader.specs.declared.item.Item.{Item}
use Rattle.scenario_reader.specs.declared.item.Item.TheVariants as item
use Rattle.scenario_reader.specs.line.Rounds.{rounds_form, rounds_says, tail_form, tail_says, are_few_ticks, rounds_fields, tail_fields}
use Rattle.scenario_reader.specs.line.Table.{MayAdd}
use Rattle.scenario_reader.proofs.Passing.PassingLines.{judged-ok, unless-passes, not-said}
use Rattle.scenario_reader.proofs.Passing.ReadBefore.{headed-is, some-items, is_some-said}
use Rattle.scenario_reader.proofs.Passing.ReadByForms.{first-form, line-reads}
use Rattle.scenario_reader.proofs.Back.RulesBack.{unless-holds, judged-back}
use Rattle.scenario_reader.proofs.Back.SaysBack.{Reads, front, not-none, whole}

-- ---- what a line says may be added

pub rounds-may : (version : Version) (said : Said) (values : Values) (what : Item) → said.version ≡ Some version → (not (nat_eq (length said.links) 0) && is_none said.rounds) ≡ true
    → FitsForm (names_said said) rounds_form values → rounds_says values ≡ Ok what → MayAdd said what
rounds-may version said values what v stands fits says =
    let may = and_parts (not (nat_eq (length said.links) 0)) (is_none said.rounds) stands in
    let same : item.Rounds (number_at values.ones 0) ≡ what = cc (says) in
    subst (MayAdd said) same (record {
      before = record { before = record { headed = headed-is said version v; unrounded = not-said said.rounds may.1 }; linked = some-items said.links may.0 };
      most = (number-fits (names_said said) rounds_form values 0 0 524288 fits refl).most;
    })

pub tail_few : (said : Said) (values : Values) → FitsForm (names_said said) tail_form values → number_at values.ones 0 ≤ 524288
tail_few said values fits = (number-fits (names_said said) tail_form values 0 0 524288 fits refl).most

pub tail-may : (version : Version) (said : Said) (values : Values) (what : Item) → said.version ≡ Some version → (is_some said.rounds && is_none said.tail) ≡ true
    → FitsForm (names_said said) tail_form values → tail_says said values ≡ Ok what → MayAdd said what
tail-may version said values what v stands fits says =
    let may = and_parts (is_some said.rounds) (is_none said.tail) stands in
    let count = number_at values.ones 0 in
    let p = judged-ok (unless (are_few_ticks said count) cause.Load) (item.Tail count) what says in
    subst (MayAdd said) p.1 (record {
      headed = headed-is said version v;
      rounded = is_some-said said.rounds may.0;
      most = tail_few said values fits;
      ticks = leb-true ((rounds_of said + count) * length said.links) 524288 (unless-passes (are_few_ticks said count) cause.Load p.0);
    })

-- ---- the lines of a plan

pub rounds-read : (version : Version) (links : List LinkEntry) (groups : List (List ℕ)) (requests : List RequestEntry) (callers : List CallerEntry) (rounds : ℕ) → 1 ≤ length links → rounds ≤ 524288
    → Reads (rounds_fields rounds ∷ []) (front version links groups requests callers) (with_item (item.Rounds rounds) (front version links groups requests callers))
rounds-read version links groups requests callers rounds some few =
    let said = front version links groups requests callers in
    let values = with_ones (value.Number rounds ∷ []) in
    let fits : FitsForm (names_said said) rounds_form values = (record { least = omega arith; most = few; short = omega (arith, few) }, tt) in
    line-reads version said word.Rounds rounds_form values (item.Rounds rounds) (record {
      headed = refl;
      stands = and_from (not (nat_eq (length links) 0)) true (not-none links some) refl;
      is = refl;
      fits = fits;
      begins = refl;
      counts = refl;
      read = first-form (names_said said) rounds_form [] values refl fits;
    }) (λ number. refl) (λ number. refl)

pub tail-read : (version : Version) (links : List LinkEntry) (groups : List (List ℕ)) (requests : List RequestEntry) (callers : List CallerEntry) (rounds tail : ℕ) → tail ≤ 524288 → (rounds + tail) * length links ≤ 524288
    → Reads (tail_fields tail ∷ []) (with_item (item.Rounds rounds) (front version links groups requests callers)) (whole version links groups requests callers rounds tail)
tail-read version links groups requests callers rounds tail few ticks =
    let said = with_item (item.Rounds rounds) (front version links groups requests callers) in
    let values = with_ones (value.Number tail ∷ []) in
    let fits : FitsForm (names_said said) tail_form values = (record { least = omega arith; most = few; short = omega (arith, few) }, tt) in
    let load : are_few_ticks said tail ≡ true = le-leb ((rounds + tail) * length links) 524288 ticks in
    line-reads version said word.Tail tail_form values (item.Tail tail) (record {
      headed = refl;
      stands = refl;
      is = refl;
      fits = fits;
      begins = refl;
      counts = refl;
      read = first-form (names_said said) tail_form [] values refl fits;
    }) (λ number. judged-back (unless (are_few_ticks said tail) cause.Load) (item.Tail tail) (unless-holds (are_few_ticks said tail) cause.Load load)) (λ number. refl)
