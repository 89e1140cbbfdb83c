-- The line `schedule`, and those of its items after it: do ACTOR COUNT. The actor is a caller or the plane.
use Rattle.std.specs.Prelude.{ℕ, ◌≡◌, true, false, if◌then◌else◌, None, Result, Ok, List, [], ◌∷◌, map, length, slice_index_or}
use Rattle.std.specs.List.{flat_map, slice_get}
use Rattle.net_units.specs.Limits.{most_steps}
use Rattle.net_units.specs.Numbers.{actor_at, actor_number}
use Rattle.call_script.specs.ActorNames.{name_of_actor}
use Rattle.call_script.specs.declared.entries.CallerEntry.{CallerEntry}
use Rattle.call_script.specs.declared.schedule.Do.{Do}
use Rattle.call_script.specs.declared.schedule.Schedule.{Schedule}
use Rattle.text_writer.specs.Lines.{do_words, whole_line}
use Rattle.line_forms.specs.Values.{number_in, number_at, with_ones}
use Rattle.line_forms.specs.Writing.{fields_with}
use Rattle.line_forms.specs.declared.form.Part.{Part}
use Rattle.line_forms.specs.declared.form.Part.TheVariants as part
use Rattle.line_forms.specs.declared.slot.Slot.TheVariants as slot
use Rattle.line_forms.specs.declared.value.FieldValue.{FieldValue}
use Rattle.line_forms.specs.declared.value.FieldValue.TheVariants as value
use Rattle.line_forms.specs.declared.value.Values.{Values}
use Rattle.line_forms.specs.declared.word.Keyword.TheVariants as word
use Rattle.scenario_reader.specs.Drafts.{Said}
use Rattle.scenario_reader.specs.Kept.{IsDo}
use Rattle.scenario_reader.specs.declared.cause.LineCause.{LineCause}
use Rattle.scenario_reader.specs.declared.item.Item.{Item}
use Rattle.scenario_reader.specs.declared.item.Item.TheVariants as item

abbrev pub schedule_form : List Part
schedule_form = part.Word word.Schedule ∷ []

abbrev pub do_form : List Part
do_form = part.Word word.Do ∷ part.One slot.Actor ∷ part.One (slot.Number 1 most_steps) ∷ []

-- the number of an actor, which for the plane is after those of the callers
abbrev pub actor_in : Said → FieldValue → ℕ
actor_in said value.Plane = length said.callers
actor_in said (value.Known name number) = number
actor_in said other = number_in other

abbrev pub actor_said : Said → Values → ℕ
actor_said said values = actor_in said (slice_index_or values.ones 0 value.Plane)

-- the steps of an actor on the line of this number
abbrev pub do_by : Said → ℕ → Values → Do
do_by said number values = record { line = number; actor = actor_at (actor_said said values); count = number_at values.ones 1 }

abbrev pub do_says : Said → ℕ → Values → Result Item LineCause
do_says said number values = Ok (item.Do (do_by said number values))

pub record MayPutSchedule (said : Said) : Type 0 where
  pub headed : said.version ≡ None → ⊥
  pub tailed : said.tail ≡ None → ⊥
  pub unwritten : said.written ≡ false

pub record MayPutDo (said : Said) (what : Do) : Type 0 where
  pub headed : said.version ≡ None → ⊥
  pub written : said.written ≡ true
  pub is : IsDo said.callers what

abbrev pub do_fields : List CallerEntry → Do → List (List ℕ)
do_fields callers item = do_words (name_of_actor (slice_get callers (actor_number item.actor))) item.count

abbrev pub schedule_fields : List (List ℕ)
schedule_fields = fields_with schedule_form (with_ones [])

abbrev pub schedule_lines : List CallerEntry → Schedule → List (List (List ℕ))
schedule_lines callers schedule = if schedule.written then schedule_fields ∷ map (do_fields callers) schedule.items else []

unfoldable pub do_text : List CallerEntry → Do → List ℕ
do_text callers item = whole_line (do_fields callers item)

unfoldable pub schedule_text : List CallerEntry → Schedule → List ℕ
schedule_text callers schedule = flat_map whole_line (schedule_lines callers schedule)
