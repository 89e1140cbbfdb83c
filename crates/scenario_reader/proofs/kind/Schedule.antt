-- The line `schedule` and its `do` lines: what one that passes says may be added; and those of a plan's schedule are read, each with the number of its line.
use Rattle.std.proofs.Common.{ℕ, ◌≡◌, suc, ◌<◌, ◌≤◌, Bool, true, false, not, ◌&&◌, List, [], ◌∷◌, ◌++◌, length, map, Option, Some, None, Ok, is_some, get_or, refl, sym, ◌∙◌, ap, subst, inl, inr, append_assoc, arith}
use Rattle.std.proofs.lemmas.Bool.{and_parts, not-true}
use Rattle.std.proofs.lemmas.List.{append-nil, length-map}
use Rattle.std.proofs.lemmas.List.Quantifiers.{position-Some}
use Rattle.std.proofs.lemmas.Option.{slice_get_cases}
use Rattle.std.specs.List.{slice_get}
use Rattle.std.specs.Prelude.{position}
use Rattle.net_units.specs.Numbers.{actor_number, actor_at}
use Rattle.net_units.specs.Text.{is_name}
use Rattle.net_units.specs.declared.numbers.ActorNo.{ActorNo}
use Rattle.link_steps.specs.Lists.{Each}
use Rattle.link_steps.proofs.ListParts.{Each-at}
use Rattle.call_script.specs.ActorNames.{name_of_actor}
use Rattle.call_script.specs.Parts.{PlanParts}
use Rattle.call_script.specs.Rules.{is_named, are_distinct, caller_names}
use Rattle.call_script.specs.declared.entries.CallerEntry.{CallerEntry}
use Rattle.call_script.specs.declared.schedule.Do.{Do}
use Rattle.call_script.specs.declared.schedule.Schedule.{Schedule}
use Rattle.call_script.specs.declared.version.Version.{Version}
use Rattle.line_forms.specs.Fitting.{Fits, FitsForm}
use Rattle.line_forms.specs.Values.{field_of, with_ones}
use Rattle.line_forms.specs.declared.slot.Slot.TheVariants as slot
use Rattle.line_forms.specs.declared.value.FieldValue.{FieldValue}
use Rattle.line_forms.specs.declared.value.FieldValue.TheVariants as value
use Rattle.line_forms.specs.declared.value.Values.{Values}
use Rattle.line_forms.specs.declared.word.Keyword.TheVariants as word
use Rattle.line_forms.proofs.FitsByPlace.{number-fits, actor-fits}
use Rattle.text_writer.specs.Lines.{do_words}
use Rattle.scenario_reader.specs.BothWays.{unnumbered, SameSchedule}
use Rattle.scenario_reader.specs.Drafts.{Said, is_complete, parts_said, schedule_said}
use Rattle.scenario_reader.specs.Fields.{line_of, are_fields}
use Rattle.scenario_reader.specs.Grammar.{judge}
use Rattle.scenario_reader.specs.Kept.{IsDo}
use Rattle.scenario_reader.specs.Known.{names_said}
use Rattle.scenario_reader.specs.declared.item.Item.{Item}
use Rattle.scenario_reader.specs.declared.item.Item.TheVariants as item
use Rattle.scenario_reader.specs.line.Schedule.{schedule_form, do_form, actor_in, actor_said, do_by, do_says, do_fields, schedule_fields, schedule_lines, MayPutSchedule}
use Rattle.scenario_reader.specs.line.Table.{MayAdd}
use Rattle.scenario_reader.proofs.Back.NamedBack.{position-back}
use Rattle.scenario_reader.proofs.Passing.PassingLines.{judged-ok}
use Rattle.scenario_reader.proofs.Passing.ReadBefore.{headed-is, is_some-said}
use Rattle.scenario_reader.proofs.Passing.ReadByForms.{first-form, line-reads, line-judged}
use Rattle.scenario_reader.proofs.Back.SaysBack.{whole, Leads, leads-on, leads-more, leads-nothing, Reads}
use Rattle.scenario_reader.proofs.Finding.ShapeOfNumbers.{actor-is}

-- ---- what a line says may be added

pub schedule-may : (version : Version) (said : Said) → said.version ≡ Some version → (is_some said.tail && not said.written) ≡ true → MayPutSchedule said
schedule-may version said v stands =
    let may = and_parts (is_some said.tail) (not said.written) stands in
    record { headed = headed-is said version v; tailed = is_some-said said.tail may.0; unwritten = not-true said.written may.1 }

-- the actor that a field names is a caller or the plane
actor-within : (said : Said) (v : FieldValue) → Fits (names_said said) 0 slot.Actor v → actor_in said v ≤ length said.callers
actor-within said value.Plane fits = omega arith
actor-within said (value.Known name number) fits =
    let within = (position-Some (is_named name) (caller_names said.callers) number [] fits.1).0 in
    omega (arith, within, length-map said.callers (λ (c : CallerEntry). c.name))
actor-within said v fits = absurd fits

pub actor_few : (said : Said) (values : Values) → FitsForm (names_said said) do_form values → actor_in said (get_or values.ones 0 value.Plane) ≤ length said.callers
actor_few said values fits = actor-within said (get_or values.ones 0 value.Plane) (actor-fits (names_said said) do_form values 0 fits refl)

-- so its number is small
pub actor_small : (said : Said) (values : Values) → FitsForm (names_said said) do_form values → length said.callers ≤ 64 → actor_said said values ≤ 64
actor_small said values fits few = (let within = actor_few said values fits in omega (arith, within, few))

pub do-may : (version : Version) (said : Said) (number : ℕ) (values : Values) (what : Item) → said.version ≡ Some version → said.written ≡ true
    → FitsForm (names_said said) do_form values → do_says said number values ≡ Ok what → MayAdd said what
do-may version said number values what v written fits says =
    let same = (judged-ok None (item.Do (do_by said number values)) what says).1 in
    let within = actor_few said values fits in
    let count = number-fits (names_said said) do_form values 1 1 1048576 fits refl in
    subst (MayAdd said) same (record { headed = headed-is said version v; written = written; is = record { actor = omega (arith, within); least = count.least; most = count.most } })

-- ---- actors

-- an actor of the plan goes by this value
pub record IsFound (callers : List CallerEntry) (n : ℕ) (found : Option CallerEntry) : Type 0 where
  pub value : FieldValue
  pub field : name_of_actor found ≡ field_of value
  pub fits : (said : Said) → said.callers ≡ callers → Fits (names_said said) 0 slot.Actor value
  pub actor : (said : Said) → said.callers ≡ callers → actor_in said value ≡ n

actor-back : (callers : List CallerEntry) (n : ℕ) → Each (λ (caller : CallerEntry). is_name caller.name ≡ true) callers → are_distinct (caller_names callers) ≡ true → n ≤ length callers → IsFound callers n (slice_get callers n)
actor-back callers n names apart within =
    elim (slice_get_cases callers n).1 [
      | inl at ↦ (
          let name = Each-at (λ (caller : CallerEntry). is_name caller.name ≡ true) callers n at.0 names at.2 in
          let place = position-back (λ (c : CallerEntry). c.name) callers n at.0 apart at.2 in
          subst (λ (found : Option CallerEntry). IsFound callers n found) (sym at.2) (record {
            value = value.Known at.0.name n;
            field = refl;
            fits = λ said same. (name, ap (λ (cs : List CallerEntry). position (is_named at.0.name) (caller_names cs)) same ∙ place);
            actor = λ said same. refl;
          }))
      | inr past ↦ (
          let last : length callers ≡ n = (let beyond = past.0 in omega (arith, beyond, within)) in
          subst (λ (found : Option CallerEntry). IsFound callers n found) (sym past.1) (record {
            value = value.Plane;
            field = refl;
            fits = λ said same. tt;
            actor = λ said same. ap (λ (cs : List CallerEntry). length cs) same ∙ last;
          }))
    ]

-- ---- items

-- what was read, with these items of a schedule
abbrev pub scheduled : PlanParts → List Do → Said
scheduled parts items = record { version = Some parts.version; links = parts.links; groups = parts.groups; requests = parts.requests; callers = parts.callers; rounds = Some parts.rounds; tail = Some parts.tail; written = true; items = items }

-- an item that was read on the line of this number
abbrev numbered : ℕ → Do → Do
numbered number it = record { line = number; actor = it.actor; count = it.count }

item-judged : (parts : PlanParts) (done : List Do) (it : Do) (number : ℕ) → Each (λ (caller : CallerEntry). is_name caller.name ≡ true) parts.callers → are_distinct (caller_names parts.callers) ≡ true → length parts.callers ≤ 64 → IsDo parts.callers it
    → (are_fields (do_fields parts.callers it) ≡ true) × (judge (scheduled parts done) number (line_of (do_fields parts.callers it)) ≡ Ok (item.Do (numbered number it)))
item-judged parts done it number names apart few is =
    let said = scheduled parts done in
    let n = actor_number it.actor in
    let actor = actor-back parts.callers (actor_number it.actor) names apart is.actor in
    let values = with_ones (actor.value ∷ value.Number it.count ∷ []) in
    let most = is.most in
    let fits : FitsForm (names_said said) do_form values = (actor.fits said refl, (record { least = is.least; most = most; short = omega (arith, most) }, tt)) in
    let small : actor_number it.actor < 65 = (let below = is.actor in omega (arith, below, few)) in
    let same : actor_at (actor_number it.actor) ≡ it.actor = sym (actor-is it.actor n small refl) in
    let says : do_says said number values ≡ Ok (item.Do (numbered number it)) =
    ap (λ (k : ℕ). Ok (item.Do (record { line = number; actor = actor_at k; count = it.count }))) (actor.actor said refl) ∙ ap (λ (a : ActorNo). Ok (item.Do (record { line = number; actor = a; count = it.count }))) same in
    subst (λ (field : List ℕ). (are_fields (do_words field it.count) ≡ true) × (judge said number (line_of (do_words field it.count)) ≡ Ok (item.Do (numbered number it)))) (sym actor.field)
    (line-judged parts.version said word.Do do_form values number (item.Do (numbered number it)) (record {
      headed = refl;
      stands = refl;
      is = refl;
      fits = fits;
      begins = refl;
      counts = refl;
      read = first-form (names_said said) do_form [] values refl fits;
    }) says refl)

-- lines that lead to a draft of which this holds
pub record SomeLead (lines : List (List (List ℕ))) (said : Said) (P : Said → Type 0) (count : ℕ) : Type 0 where
  pub end : ℕ
  pub after : Said
  pub leads : Leads count lines said end after
  pub holds : P after

pub then-some : (xs ys : List (List (List ℕ))) (said between : Said) (P : Said → Type 0) → Reads xs said between → ((n : ℕ) → SomeLead ys between P n) → (n : ℕ) → SomeLead (xs ++ ys) said P n
then-some xs ys said between P first rest = λ n.
    let one = first n in
    let two = rest one.end in
    record { end = two.end; after = two.after; leads = leads-on xs ys n one.end two.end said between two.after one.leads two.leads; holds = two.holds }

-- the items after those done
record ItemsRead (parts : PlanParts) (done items : List Do) (after : Said) : Type 0 where
  again : List Do
  is : after ≡ scheduled parts (done ++ again)
  same : map unnumbered again ≡ map unnumbered items

items-read : (parts : PlanParts) (done items : List Do) (count : ℕ) → Each (λ (caller : CallerEntry). is_name caller.name ≡ true) parts.callers → are_distinct (caller_names parts.callers) ≡ true → length parts.callers ≤ 64 → Each (IsDo parts.callers) items
    → SomeLead (map (do_fields parts.callers) items) (scheduled parts done) (ItemsRead parts done items) count
items-read parts done [] count names apart few each = record { end = count; after = scheduled parts done; leads = leads-nothing count (scheduled parts done); holds = record { again = []; is = ap (scheduled parts) (sym (append-nil done)); same = refl } }
items-read parts done (it ∷ items) count names apart few each =
    let one = item-judged parts done it (suc count) names apart few each.0 in
    let rest = items-read parts (done ++ numbered (suc count) it ∷ []) items (suc count) names apart few each.1 in
    record {
      end = rest.end;
      after = rest.after;
      leads = leads-more (do_fields parts.callers it) (map (do_fields parts.callers) items) count rest.end (scheduled parts done) rest.after (item.Do (numbered (suc count) it)) one.0 one.1 rest.leads;
      holds = record {
        again = numbered (suc count) it ∷ rest.holds.again;
        is = rest.holds.is ∙ ap (scheduled parts) (append_assoc done (numbered (suc count) it ∷ []) rest.holds.again);
        same = ap (λ (others : List Do). unnumbered it ∷ others) rest.holds.same;
      };
    }

-- ---- the schedule

-- what was read is this plan with this schedule
pub record IsWhole (parts : PlanParts) (schedule : Schedule) (after : Said) : Type 0 where
  pub complete : is_complete after ≡ true
  pub parts_are : parts_said after ≡ parts
  pub same : SameSchedule (schedule_said after) schedule

schedule-read : (parts : PlanParts) → Reads (schedule_fields ∷ []) (whole parts.version parts.links parts.groups parts.requests parts.callers parts.rounds parts.tail) (scheduled parts [])
schedule-read parts =
    let said = whole parts.version parts.links parts.groups parts.requests parts.callers parts.rounds parts.tail in
    line-reads parts.version said word.Schedule schedule_form (with_ones []) item.Schedule
    (record { headed = refl; stands = refl; is = refl; fits = tt; begins = refl; counts = refl; read = first-form (names_said said) schedule_form [] (with_ones []) refl tt })
    (λ number. refl) (λ number. refl)

pub schedule-back : (parts : PlanParts) (schedule : Schedule) → Each (λ (caller : CallerEntry). is_name caller.name ≡ true) parts.callers → are_distinct (caller_names parts.callers) ≡ true → length parts.callers ≤ 64 → Each (IsDo parts.callers) schedule.items → (schedule.written ≡ false → schedule.items ≡ [])
    → (n : ℕ) → SomeLead (schedule_lines parts.callers schedule) (whole parts.version parts.links parts.groups parts.requests parts.callers parts.rounds parts.tail) (IsWhole parts schedule) n
schedule-back parts schedule names apart few each unwritten = by schedule.written schedule.items each unwritten where
  done : (items : List Do) (after : Said) → ItemsRead parts [] items after → IsWhole parts (record { written = true; items = items }) after
  done items after read = subst (IsWhole parts (record { written = true; items = items })) (sym read.is) (record { complete = refl; parts_are = refl; same = record { written = refl; items = read.same } })

  by : (written : Bool) (items : List Do) → Each (IsDo parts.callers) items → (written ≡ false → items ≡ [])
      → (n : ℕ) → SomeLead (schedule_lines parts.callers (record { written = written; items = items })) (whole parts.version parts.links parts.groups parts.requests parts.callers parts.rounds parts.tail) (IsWhole parts (record { written = written; items = items })) n
  by true items all none = then-some (schedule_fields ∷ []) (map (do_fields parts.callers) items) (whole parts.version parts.links parts.groups parts.requests parts.callers parts.rounds parts.tail) (scheduled parts []) (IsWhole parts (record { written = true; items = items })) (schedule-read parts)
      (λ n. let read = items-read parts [] items n names apart few all in record { end = read.end; after = read.after; leads = read.leads; holds = done items read.after read.holds })
  by false items all none = λ n. record {
    end = n;
    after = whole parts.version parts.links parts.groups parts.requests parts.callers parts.rounds parts.tail;
    leads = leads-nothing n (whole parts.version parts.links parts.groups parts.requests parts.callers parts.rounds parts.tail);
    holds = record { complete = refl; parts_are = refl; same = record { written = refl; items = ap (map unnumbered) (sym (none refl)) } };
  }
