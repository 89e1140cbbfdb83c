-- An audit's input is a scenario, the line `report`, the lines of a report, and its table of packets. Of the report's lines those
-- that begin with `accept ` are read: each states the levels with which a request was accepted. Such a line is right where it has
-- the form `accept NAME delay SUM levels L1 .. Lh` with a known request, which no such line above has named, with one level of the
-- link for each hop of its route, with the sum of their bounds and propagations, and where the destination denies nothing: the sum
-- is within the delay that was asked for, and under delay-jitter control the last hop's bound is within the jitter.
use Rattle.std.specs.Prelude.{ℕ, Bool, true, false, nat_eq, ◌&&◌, if◌then◌else◌, Option, Some, None, List, [], ◌∷◌, codes, drop, is_none, length, map, option_map}
use Rattle.std.specs.List.{slice_index_or, starts_with}
use Rattle.net_units.specs.Limits.{most_delay}
use Rattle.net_units.specs.Numbers.{channel_number}
use Rattle.net_units.specs.Text.{is_name}
use Rattle.net_units.specs.declared.numbers.ChanNo.{ChanNo}
use Rattle.hop_reservation.specs.Offers.{delay_over}
use Rattle.hop_reservation.specs.declared.route.Hop.{Hop}
use Rattle.relaxation.specs.Allotment.{denial_of}
use Rattle.setup_protocol.specs.Requests.{jitter_of}
use Rattle.setup_protocol.specs.declared.request.Request.{Request}
use Rattle.call_script.specs.declared.entries.RequestEntry.{RequestEntry}
use Rattle.scenario_reader.specs.Decimal.{value_of}
use Rattle.scenario_reader.specs.Drafts.{request_named}
use Rattle.scenario_reader.specs.Fields.{field_at}
use Rattle.scenario_reader.specs.Forms.{is_word, number_rule}
use Rattle.line_forms.specs.declared.word.Keyword.TheVariants as word

-- a line of a report that is read
abbrev pub tells_acceptance : List ℕ → Bool
tells_acceptance line = starts_with nat_eq line (codes "accept ")

-- its fixed words after the first
abbrev pub has_accept_words : List (List ℕ) → Bool
has_accept_words fields = is_word word.Delay (field_at fields 2) && is_word word.Levels (field_at fields 4)

-- a field that is a number up to this one
abbrev pub is_up_to : ℕ → List ℕ → Bool
is_up_to most field = is_none (number_rule 0 most field)

-- a field that is a level of a hop's link
abbrev pub is_level_field : Hop → List ℕ → Bool
is_level_field hop field = is_none (number_rule 1 (length hop.bounds) field)

-- one for each hop
abbrev pub are_level_fields : List Hop → List (List ℕ) → Bool
are_level_fields [] [] = true
are_level_fields [] (field ∷ fields) = false
are_level_fields (hop ∷ hops) [] = false
are_level_fields (hop ∷ hops) (field ∷ fields) = is_level_field hop field && are_level_fields hops fields

-- the levels that a line tells
abbrev pub levels_told : List (List ℕ) → List ℕ
levels_told fields = map value_of (drop 5 fields)

-- the levels have this sum, and the destination denies nothing
abbrev pub are_within : Request → List ℕ → ℕ → Bool
are_within request levels sum = nat_eq sum (delay_over request.route levels) && is_none (denial_of request.route levels request.delay (jitter_of request.control))

-- the line tells levels with which this request can have been accepted
abbrev pub accepts : Request → List (List ℕ) → Bool
accepts request fields =
    has_accept_words fields
    && are_level_fields request.route (drop 5 fields)
    && is_up_to most_delay (field_at fields 3)
    && are_within request (levels_told fields) (value_of (field_at fields 3))

-- the request whose name a field is
abbrev pub request_in : List RequestEntry → List ℕ → Option RequestEntry
request_in requests field = if is_name field then request_named requests field else None

-- its channel
abbrev pub channel_of : RequestEntry → ChanNo
channel_of entry = entry.request.chan

abbrev pub channel_in : List RequestEntry → List ℕ → Option ChanNo
channel_in requests field = option_map channel_of (request_in requests field)

-- no line has accepted the request of this number
abbrev pub is_untold : List (Option (List ℕ)) → ℕ → Bool
is_untold levels number = is_none (slice_index_or levels number None)

-- what a line tells: the number of a request, and the levels with which it was accepted
pub record Acceptance : Type 0 where
  pub request : ℕ
  pub levels : List ℕ

-- that of a request, where there is one
abbrev pub acceptance_of : List (Option (List ℕ)) → List (List ℕ) → Option RequestEntry → Option Acceptance
acceptance_of levels fields None = None
acceptance_of levels fields (Some entry) =
    if is_untold levels (channel_number entry.request.chan) && accepts entry.request fields
    then Some (record { request = channel_number entry.request.chan; levels = levels_told fields })
    else None

-- what a line of these fields tells after those above, if it is right
abbrev pub acceptance_in : List RequestEntry → List (Option (List ℕ)) → List (List ℕ) → Option Acceptance
acceptance_in requests levels fields = acceptance_of levels fields (request_in requests (field_at fields 1))
