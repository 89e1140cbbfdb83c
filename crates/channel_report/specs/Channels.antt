-- The line of a channel that was established: the packets that its source has offered, whether these keep the contract, the packets
-- delivered, the least and the greatest of their delays, and the sends that were refused.
use Rattle.std.specs.Prelude.{ℕ, Bool, true, false, if◌then◌else◌, Option, Some, None, List, [], ◌∷◌, length, codes}
use Rattle.std.specs.List.{flat_map}
use Rattle.std.specs.Fmt.{decimal}
use Rattle.traffic_contract.specs.Keeping.{keeps}
use Rattle.net_units.specs.Numbers.{channel_number}
use Rattle.setup_protocol.specs.Laws.{is_accepted}
use Rattle.setup_protocol.specs.Setup.{Outcome}
use Rattle.call_script.specs.Parts.{PlanParts}
use Rattle.call_script.specs.declared.entries.RequestEntry.{RequestEntry}
use Rattle.run_record.specs.Runs.{part_of}
use Rattle.run_record.specs.declared.done.Done.{Done}
use Rattle.run_record.specs.declared.rows.HopRow.{HopRow}
use Rattle.channel_report.specs.Delays.{delays_in, least_of, worst_of}
use Rattle.text_writer.specs.Lines.{whole_line}
use Rattle.channel_report.specs.Sources.{first_link, offered_in, refused_in}
use Rattle.channel_report.specs.Verdicts.{verdict_in}

-- whether a source keeps its contract
abbrev pub keeping : Bool → List ℕ
keeping true = codes "keeps"
keeping false = codes "breaks"

-- a number, where there is one
abbrev pub number_or_dash : Option ℕ → List ℕ
number_or_dash None = codes "-"
number_or_dash (Some n) = decimal n

-- channel NAME offered O keeps delivered P least A worst B refused F
abbrev pub told_channel : List ℕ → ℕ → Bool → ℕ → Option ℕ → Option ℕ → ℕ → List ℕ
told_channel name offered keeps delivered least worst refused = whole_line (
    codes "channel" ∷ name
    ∷ codes "offered" ∷ decimal offered
    ∷ keeping keeps
    ∷ codes "delivered" ∷ decimal delivered
    ∷ codes "least" ∷ number_or_dash least
    ∷ codes "worst" ∷ number_or_dash worst
    ∷ codes "refused" ∷ decimal refused
    ∷ [])

-- the ticks that the source of a request's channel has offered, and the sends on it that were refused
abbrev pub offered_for : List Done → RequestEntry → List ℕ
offered_for run entry = offered_in (channel_number entry.request.chan) (part_of (first_link entry.request.route) run)

abbrev pub sends_refused : List Done → RequestEntry → ℕ
sends_refused run entry = refused_in (channel_number entry.request.chan) (part_of (first_link entry.request.route) run)

-- the line of an established channel, in a run that has these departures
abbrev pub established_line : List HopRow → List Done → RequestEntry → List ℕ
established_line departures run entry = told_channel entry.name
    (length (offered_for run entry))
    (keeps entry.request.contract (offered_for run entry))
    (length (delays_in entry.request departures))
    (least_of (delays_in entry.request departures))
    (worst_of (delays_in entry.request departures))
    (sends_refused run entry)

-- whether a request was accepted
abbrev pub was_accepted : Option Outcome → Bool
was_accepted None = false
was_accepted (Some outcome) = is_accepted outcome

abbrev pub channel_line : List HopRow → List Done → RequestEntry → List ℕ
channel_line departures run entry = if was_accepted (verdict_in run entry) then established_line departures run entry else []

-- those of all requests of a plan
abbrev pub channel_lines : PlanParts → List HopRow → List Done → List ℕ
channel_lines parts departures run = flat_map (channel_line departures run) parts.requests
