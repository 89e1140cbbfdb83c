-- What the lines of a caller's operations have in common: packets have a count, a gap and a size; a request may be used until it is
-- closed, or left by a move; and with the packets the load of all is within the limit.
use Rattle.std.specs.Prelude.{ℕ, ◌≡◌, ◌+◌, Bool, false, nat_le, ◌||◌, Option, Some, None, List, [], ◌∷◌, option_map}
use Rattle.net_units.specs.Limits.{most_packets, most_gap, most_size}
use Rattle.net_units.specs.Numbers.{channel_number}
use Rattle.call_script.specs.Rules.{load_in}
use Rattle.call_script.specs.declared.entries.RequestEntry.{RequestEntry}
use Rattle.line_forms.specs.Values.{number_at}
use Rattle.line_forms.specs.declared.form.Part.{Part}
use Rattle.line_forms.specs.declared.form.Part.TheVariants as part
use Rattle.line_forms.specs.declared.slot.Slot.TheVariants as slot
use Rattle.line_forms.specs.declared.value.FieldValue.{FieldValue}
use Rattle.line_forms.specs.declared.value.FieldValue.TheVariants as value
use Rattle.scenario_reader.specs.Causes.{Rule, unless}
use Rattle.scenario_reader.specs.Drafts.{Said, own_request, is_closed, is_left}
use Rattle.scenario_reader.specs.Known.{channel_of}
use Rattle.scenario_reader.specs.declared.cause.LineCause.TheVariants as cause

-- the count, the gap and the size of a send or a pour, each in its range
abbrev pub packets_end : List Part
packets_end = part.One (slot.Number 1 most_packets) ∷ part.One (slot.Number 1 most_gap) ∷ part.One (slot.Number 1 most_size) ∷ []

-- what a field says that names a request
abbrev pub request_value : RequestEntry → FieldValue
request_value entry = value.Known entry.name (channel_number entry.request.chan)

-- a request that the last caller has opened
pub record IsOwn (said : Said) (entry : RequestEntry) : Type 0 where
  pub name : List ℕ
  pub own : own_request said name ≡ Some entry

-- the values of a line name one, by its channel
pub record SaysOwn (said : Said) (ones : List FieldValue) (place : ℕ) : Type 0 where
  pub name : List ℕ
  pub known : option_map channel_of (own_request said name) ≡ Some (number_at ones place)

-- the request was closed above
abbrev pub is_closed_request : Said → Option RequestEntry → Bool
is_closed_request said None = false
is_closed_request said (Some entry) = is_closed said entry.request.chan

-- or left by a move
abbrev pub is_over_request : Said → Option RequestEntry → Bool
is_over_request said None = false
is_over_request said (Some entry) = is_closed said entry.request.chan || is_left said entry.request.chan

-- with these packets more, the load of all is within the limit
abbrev pub load_rule : Said → ℕ → Rule
load_rule said packets = unless (nat_le (load_in said.requests said.callers + packets) most_packets) cause.Load
