-- The line of a send on a request: send NAME COUNT GAP SIZE.
use Rattle.std.specs.Prelude.{ℕ, ◌*◌, not, Option, Result, List, [], ◌∷◌, option_map}
use Rattle.std.specs.List.{slice_get}
use Rattle.call_script.specs.Rules.{hops_of}
use Rattle.call_script.specs.declared.entries.RequestEntry.{RequestEntry}
use Rattle.call_script.specs.declared.operations.Op.TheVariants as op
use Rattle.line_forms.specs.Values.{number_at, with_ones}
use Rattle.line_forms.specs.Writing.{fields_with}
use Rattle.line_forms.specs.declared.form.Part.{Part}
use Rattle.line_forms.specs.declared.form.Part.TheVariants as part
use Rattle.line_forms.specs.declared.known.Set.TheVariants as set
use Rattle.line_forms.specs.declared.slot.Slot.TheVariants as slot
use Rattle.line_forms.specs.declared.value.FieldValue.TheVariants as value
use Rattle.line_forms.specs.declared.value.Values.{Values}
use Rattle.line_forms.specs.declared.word.Keyword.TheVariants as word
use Rattle.scenario_reader.specs.Causes.{unless, first_cause, stated}
use Rattle.scenario_reader.specs.Drafts.{Said}
use Rattle.scenario_reader.specs.declared.cause.LineCause.{LineCause}
use Rattle.scenario_reader.specs.declared.cause.LineCause.TheVariants as cause
use Rattle.scenario_reader.specs.declared.item.Item.{Item}
use Rattle.scenario_reader.specs.declared.item.Item.TheVariants as item
use Rattle.scenario_reader.specs.line.Using.{packets_end, request_value, is_over_request, load_rule}

abbrev pub send_form : List Part
send_form = part.Word word.Send ∷ part.One (slot.Known set.OwnRequests) ∷ packets_end

-- the send on a request
abbrev pub send_on : Values → RequestEntry → Item
send_on values entry = item.Op (op.Send entry.request.chan (number_at values.ones 1) (number_at values.ones 2) (number_at values.ones 3))

-- what the line says of the request that it names
abbrev pub send_for : Said → Option RequestEntry → Values → Result Item LineCause
send_for said entry values = stated (first_cause (
    unless (not (is_over_request said entry)) cause.Closed
    ∷ load_rule said (number_at values.ones 1 * hops_of entry)
    ∷ [])) (option_map (send_on values) entry)

abbrev pub send_says : Said → Values → Result Item LineCause
send_says said values = send_for said (slice_get said.requests (number_at values.ones 0)) values

abbrev pub send_fields : ℕ → ℕ → ℕ → RequestEntry → List (List ℕ)
send_fields count gap size entry = fields_with send_form (with_ones (request_value entry ∷ value.Number count ∷ value.Number gap ∷ value.Number size ∷ []))
