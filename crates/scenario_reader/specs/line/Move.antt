-- The line of a move from one request to another, from version six on: move OLD NEW.
use Rattle.std.specs.Prelude.{ℕ, ◌*◌, Bool, false, nat_eq, not, ◌&&◌, Option, Some, None, Result, List, [], ◌∷◌}
use Rattle.std.specs.List.{slice_get}
use Rattle.net_units.specs.Numbers.{channel_number}
use Rattle.call_script.specs.Rules.{hops_of, may_move}
use Rattle.call_script.specs.declared.entries.RequestEntry.{RequestEntry}
use Rattle.call_script.specs.declared.operations.Op.TheVariants as op
use Rattle.line_forms.specs.Values.{number_at, with_ones}
use Rattle.line_forms.specs.Writing.{fields_with}
use Rattle.line_forms.specs.declared.form.Part.{Part}
use Rattle.line_forms.specs.declared.form.Part.TheVariants as part
use Rattle.line_forms.specs.declared.known.Set.TheVariants as set
use Rattle.line_forms.specs.declared.slot.Slot.TheVariants as slot
use Rattle.line_forms.specs.declared.value.Values.{Values}
use Rattle.line_forms.specs.declared.word.Keyword.TheVariants as word
use Rattle.scenario_reader.specs.Causes.{unless, first_cause, stated}
use Rattle.scenario_reader.specs.Drafts.{Said}
use Rattle.scenario_reader.specs.declared.cause.LineCause.{LineCause}
use Rattle.scenario_reader.specs.declared.cause.LineCause.TheVariants as cause
use Rattle.scenario_reader.specs.declared.item.Item.{Item}
use Rattle.scenario_reader.specs.declared.item.Item.TheVariants as item
use Rattle.scenario_reader.specs.Drafts.{is_used, is_joined_to, uses_said}
use Rattle.scenario_reader.specs.line.Using.{request_value, is_over_request, load_rule}

abbrev pub move_form : List Part
move_form = part.Word word.Move ∷ part.One (slot.Known set.OwnRequests) ∷ part.One (slot.Known set.OwnRequests) ∷ []

-- packets may move from the one request to the other, which is another one, and wasn't used or joined above
abbrev pub may_join : Said → Option RequestEntry → Option RequestEntry → Bool
may_join said None new = false
may_join said (Some old) None = false
may_join said (Some old) (Some new) =
    may_move said.links (Some old) (Some new) && not (nat_eq (channel_number old.request.chan) (channel_number new.request.chan)) && not (is_used said new.request.chan) && not (is_joined_to said new.request.chan)

-- what a request has to carry
abbrev pub carried : Said → Option RequestEntry → ℕ
carried said None = 0
carried said (Some entry) = (uses_said said entry.request.chan).load

-- the move between two requests
abbrev pub move_between : Option RequestEntry → Option RequestEntry → Option Item
move_between None new = None
move_between (Some old) None = None
move_between (Some old) (Some new) = Some (item.Op (op.Move old.request.chan new.request.chan))

-- what the line says of the two requests that it names
abbrev pub move_for : Said → Option RequestEntry → Option RequestEntry → Result Item LineCause
move_for said old new = stated (first_cause (
    unless (not (is_over_request said old)) cause.Closed
    ∷ unless (may_join said old new) cause.Move
    ∷ load_rule said (carried said old * hops_of new)
    ∷ [])) (move_between old new)

abbrev pub move_says : Said → Values → Result Item LineCause
move_says said values = move_for said (slice_get said.requests (number_at values.ones 0)) (slice_get said.requests (number_at values.ones 1))

abbrev pub move_fields : RequestEntry → RequestEntry → List (List ℕ)
move_fields old new = fields_with move_form (with_ones (request_value old ∷ request_value new ∷ []))

-- that of a move between two requests, if they are there
abbrev pub fields_between : Option RequestEntry → Option RequestEntry → Option (List (List ℕ))
fields_between None new = None
fields_between (Some old) None = None
fields_between (Some old) (Some new) = Some (move_fields old new)
