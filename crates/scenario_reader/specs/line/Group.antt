-- The line of a group: group NAME.
use Rattle.std.specs.Prelude.{ℕ, ◌-◌, nat_lt, Option, Some, None, Result, List, [], ◌∷◌, length, option_map, unwrap_or}
use Rattle.std.specs.List.{slice_get}
use Rattle.call_script.specs.Groups.{most_groups}
use Rattle.call_script.specs.Growing.{MayAddGroup}
use Rattle.text_writer.specs.Lines.{whole_line}
use Rattle.line_forms.specs.Values.{name_at, with_ones}
use Rattle.line_forms.specs.Writing.{fields_with}
use Rattle.line_forms.specs.declared.form.Part.{Part}
use Rattle.line_forms.specs.declared.form.Part.TheVariants as part
use Rattle.line_forms.specs.declared.known.Set.TheVariants as set
use Rattle.line_forms.specs.declared.slot.Slot.TheVariants as slot
use Rattle.line_forms.specs.declared.value.FieldValue.{FieldValue}
use Rattle.line_forms.specs.declared.value.FieldValue.TheVariants as value
use Rattle.line_forms.specs.declared.value.Values.{Values}
use Rattle.line_forms.specs.declared.word.Keyword.TheVariants as word
use Rattle.scenario_reader.specs.Causes.{unless, stated}
use Rattle.scenario_reader.specs.Drafts.{Said, parts_said}
use Rattle.scenario_reader.specs.declared.cause.LineCause.{LineCause}
use Rattle.scenario_reader.specs.declared.cause.LineCause.TheVariants as cause
use Rattle.scenario_reader.specs.declared.item.Item.{Item}
use Rattle.scenario_reader.specs.declared.item.Item.TheVariants as item
use Rattle.scenario_reader.specs.line.Before.{HasALink}

abbrev pub group_form : List Part
group_form = part.Word word.Group ∷ part.One (slot.New set.Groups) ∷ []

-- the group that a line says, where there are fewer than four
abbrev pub group_says : Said → Values → Result Item LineCause
group_says said values = stated (unless (nat_lt (length said.groups) most_groups) cause.Many) (option_map item.Group (name_at values.ones 0))

pub record MayPutGroup (said : Said) (name : List ℕ) : Type 0 where
  pub before : HasALink said
  pub group : MayAddGroup (parts_said said) name

abbrev pub group_fields : List ℕ → List (List ℕ)
group_fields name = fields_with group_form (with_ones (value.Name name ∷ []))

-- what a field says that names the group of this number, from 1, if there is one
abbrev pub as_group : ℕ → List ℕ → FieldValue
as_group group name = value.Known name group

abbrev pub group_value : List (List ℕ) → ℕ → Option FieldValue
group_value groups group = option_map (as_group group) (slice_get groups (group - 1))

-- its name
abbrev pub group_name : List (List ℕ) → ℕ → List ℕ
group_name groups group = unwrap_or (slice_get groups (group - 1)) []

-- the value, if there is one
abbrev pub values_if : Option FieldValue → List FieldValue
values_if None = []
values_if (Some value) = value ∷ []

unfoldable pub group_text : List ℕ → List ℕ
group_text name = whole_line (group_fields name)
