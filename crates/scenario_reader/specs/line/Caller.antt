-- The line of a caller: caller NAME; and from version five on caller NAME group GROUP, where GROUP is the name of a group above. A caller
-- whose line names no group is of none, which has the number 0.
use Rattle.std.specs.Prelude.{ℕ, nat_eq, nat_lt, if◌then◌else◌, Option, Some, None, Result, List, [], ◌∷◌, length, option_map}
use Rattle.net_units.specs.Limits.{most_callers}
use Rattle.call_script.specs.Growing.{MayAddCaller}
use Rattle.call_script.specs.Versions.{has_groups}
use Rattle.call_script.specs.declared.version.Version.{Version}
use Rattle.line_forms.specs.Values.{name_at, number_at, with_ones}
use Rattle.line_forms.specs.Writing.{fields_with}
use Rattle.line_forms.specs.declared.form.Part.{Part}
use Rattle.line_forms.specs.declared.form.Part.TheVariants as part
use Rattle.line_forms.specs.declared.known.Set.TheVariants as set
use Rattle.line_forms.specs.declared.slot.Slot.TheVariants as slot
use Rattle.line_forms.specs.declared.value.FieldValue.{FieldValue}
use Rattle.line_forms.specs.declared.value.FieldValue.TheVariants as value
use Rattle.line_forms.specs.declared.value.Values.{Values}
use Rattle.line_forms.specs.declared.word.Keyword.TheVariants as word
use Rattle.scenario_reader.specs.Causes.{unless, stated}
use Rattle.scenario_reader.specs.Drafts.{Said, parts_said}
use Rattle.scenario_reader.specs.declared.cause.LineCause.{LineCause}
use Rattle.scenario_reader.specs.declared.cause.LineCause.TheVariants as cause
use Rattle.scenario_reader.specs.declared.item.Item.{Item}
use Rattle.scenario_reader.specs.declared.item.Item.TheVariants as item
use Rattle.scenario_reader.specs.line.Before.{HasALink}
use Rattle.scenario_reader.specs.line.Group.{group_value}

abbrev pub caller_form : List Part
caller_form = part.Word word.Caller ∷ part.One (slot.New set.Callers) ∷ []

abbrev pub member_form : List Part
member_form = part.Word word.Caller ∷ part.One (slot.New set.Callers) ∷ part.Word word.Group ∷ part.One (slot.Known set.Groups) ∷ []

-- the forms that a version has
abbrev pub caller_forms : Version → List (List Part)
caller_forms version = if has_groups version then caller_form ∷ member_form ∷ [] else caller_form ∷ []

-- the caller that a line says, where there are few enough
abbrev pub caller_of : Values → List ℕ → Item
caller_of values name = item.Caller name (number_at values.ones 1)

abbrev pub caller_says : Said → Values → Result Item LineCause
caller_says said values = stated (unless (nat_lt (length said.callers) most_callers) cause.Many) (option_map (caller_of values) (name_at values.ones 0))

pub record MayPutCaller (said : Said) (name : List ℕ) (group : ℕ) : Type 0 where
  pub before : HasALink said
  pub caller : MayAddCaller (parts_said said) name group

-- what the field of its group says, where it is of one
abbrev pub member_value : List (List ℕ) → ℕ → Option FieldValue
member_value groups group = if nat_eq group 0 then None else group_value groups group

abbrev pub fields_of_member : List ℕ → Option FieldValue → List (List ℕ)
fields_of_member name None = fields_with caller_form (with_ones (value.Name name ∷ []))
fields_of_member name (Some member) = fields_with member_form (with_ones (value.Name name ∷ member ∷ []))

abbrev pub caller_fields : List (List ℕ) → List ℕ → ℕ → List (List ℕ)
caller_fields groups name group = fields_of_member name (member_value groups group)
