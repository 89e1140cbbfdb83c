-- The line that closes a request: close NAME.
use Rattle.std.specs.Prelude.{ℕ, not, Option, Result, List, [], ◌∷◌, option_map}
use Rattle.std.specs.List.{slice_get}
use Rattle.call_script.specs.declared.entries.RequestEntry.{RequestEntry}
use Rattle.call_script.specs.declared.operations.Op.TheVariants as op
use Rattle.line_forms.specs.Values.{number_at, with_ones}
use Rattle.line_forms.specs.Writing.{fields_with}
use Rattle.line_forms.specs.declared.form.Part.{Part}
use Rattle.line_forms.specs.declared.form.Part.TheVariants as part
use Rattle.line_forms.specs.declared.known.Set.TheVariants as set
use Rattle.line_forms.specs.declared.slot.Slot.TheVariants as slot
use Rattle.line_forms.specs.declared.value.Values.{Values}
use Rattle.line_forms.specs.declared.word.Keyword.TheVariants as word
use Rattle.scenario_reader.specs.Causes.{unless, stated}
use Rattle.scenario_reader.specs.Drafts.{Said}
use Rattle.scenario_reader.specs.declared.cause.LineCause.{LineCause}
use Rattle.scenario_reader.specs.declared.cause.LineCause.TheVariants as cause
use Rattle.scenario_reader.specs.declared.item.Item.{Item}
use Rattle.scenario_reader.specs.declared.item.Item.TheVariants as item
use Rattle.scenario_reader.specs.line.Using.{request_value, is_closed_request}

abbrev pub close_form : List Part
close_form = part.Word word.Close ∷ part.One (slot.Known set.OwnRequests) ∷ []

abbrev pub close_of : RequestEntry → Item
close_of entry = item.Op (op.Close entry.request.chan)

-- what the line says of the request that it names
abbrev pub close_for : Said → Option RequestEntry → Result Item LineCause
close_for said entry = stated (unless (not (is_closed_request said entry)) cause.Closed) (option_map close_of entry)

abbrev pub close_says : Said → Values → Result Item LineCause
close_says said values = close_for said (slice_get said.requests (number_at values.ones 0))

abbrev pub close_fields : RequestEntry → List (List ℕ)
close_fields entry = fields_with close_form (with_ones (request_value entry ∷ []))
