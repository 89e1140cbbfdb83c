-- The line of a pour of best-effort packets over a link, from version three on: pour LINK COUNT GAP SIZE.
use Rattle.std.specs.Prelude.{ℕ, Option, Result, List, [], ◌∷◌, option_map}
use Rattle.std.specs.List.{slice_get}
use Rattle.net_units.specs.Numbers.{link_number}
use Rattle.call_script.specs.Rules.{takes_best_effort}
use Rattle.call_script.specs.declared.entries.LinkEntry.{LinkEntry}
use Rattle.call_script.specs.declared.operations.Op.TheVariants as op
use Rattle.line_forms.specs.Values.{number_at, with_ones}
use Rattle.line_forms.specs.Writing.{fields_with}
use Rattle.line_forms.specs.declared.form.Part.{Part}
use Rattle.line_forms.specs.declared.form.Part.TheVariants as part
use Rattle.line_forms.specs.declared.known.Set.TheVariants as set
use Rattle.line_forms.specs.declared.slot.Slot.TheVariants as slot
use Rattle.line_forms.specs.declared.value.FieldValue.TheVariants as value
use Rattle.line_forms.specs.declared.value.Values.{Values}
use Rattle.line_forms.specs.declared.word.Keyword.TheVariants as word
use Rattle.scenario_reader.specs.Causes.{unless, first_cause, stated}
use Rattle.scenario_reader.specs.Drafts.{Said}
use Rattle.scenario_reader.specs.declared.cause.LineCause.{LineCause}
use Rattle.scenario_reader.specs.declared.cause.LineCause.TheVariants as cause
use Rattle.scenario_reader.specs.declared.item.Item.{Item}
use Rattle.scenario_reader.specs.declared.item.Item.TheVariants as item
use Rattle.scenario_reader.specs.line.Using.{packets_end, load_rule}

abbrev pub pour_form : List Part
pour_form = part.Word word.Pour ∷ part.One (slot.Known set.Links) ∷ packets_end

-- the pour over a link
abbrev pub pour_over : Values → LinkEntry → Item
pour_over values entry = item.Op (op.Pour entry.shape.link (number_at values.ones 1) (number_at values.ones 2) (number_at values.ones 3))

-- what the line says of the link that it names
abbrev pub pour_for : Said → Option LinkEntry → Values → Result Item LineCause
pour_for said entry values = stated (first_cause (
    load_rule said (number_at values.ones 1)
    ∷ unless (takes_best_effort entry) cause.Best
    ∷ [])) (option_map (pour_over values) entry)

abbrev pub pour_says : Said → Values → Result Item LineCause
pour_says said values = pour_for said (slice_get said.links (number_at values.ones 0)) values

abbrev pub pour_fields : ℕ → ℕ → ℕ → LinkEntry → List (List ℕ)
pour_fields count gap size entry = fields_with pour_form (with_ones (value.Known entry.name (link_number entry.shape.link) ∷ value.Number count ∷ value.Number gap ∷ value.Number size ∷ []))
