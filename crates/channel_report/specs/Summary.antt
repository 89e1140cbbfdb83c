-- The summary of a run of a plan that was made from a number and a size: one line, which states how many of the plan's requests
-- were accepted, how many were denied, how many packets of all channels were delivered, and how many steps the run has. What a
-- request has come to, and which packets were delivered, is as the report states it. So a request that is still pending is neither
-- accepted nor denied, and a packet on its way isn't delivered.
use Rattle.std.specs.Prelude.{ℕ, ◌+◌, Bool, true, false, Option, Some, None, List, [], ◌∷◌, length, reverse, codes}
use Rattle.std.specs.Fmt.{decimal}
use Rattle.traffic_contract.specs.Admission.{total}
use Rattle.setup_protocol.specs.Setup.{Outcome, Accepts, Denies}
use Rattle.call_script.specs.Parts.{PlanParts}
use Rattle.call_script.specs.declared.entries.RequestEntry.{RequestEntry}
use Rattle.run_record.specs.declared.done.Done.{Done}
use Rattle.run_record.specs.declared.rows.HopRow.{HopRow}
use Rattle.channel_report.specs.Channels.{was_accepted}
use Rattle.channel_report.specs.Delays.{delays_in, departures_of}
use Rattle.text_writer.specs.Lines.{whole_line}
use Rattle.channel_report.specs.Links.{one_if}
use Rattle.channel_report.specs.Verdicts.{verdict_in}
use Rattle.channel_report.specs.declared.summary.Sums.{Sums}

-- ---- one request

-- whether a request was denied
abbrev pub is_denied : Option Outcome → Bool
is_denied None = false
is_denied (Some (Accepts levels delay)) = false
is_denied (Some (Denies deny)) = true

-- one, where the request was accepted or denied in a run that is listed newest first
abbrev pub accepts : List Done → RequestEntry → ℕ
accepts run entry = one_if (was_accepted (verdict_in run entry))

abbrev pub denies : List Done → RequestEntry → ℕ
denies run entry = one_if (is_denied (verdict_in run entry))

-- how many packets of its channel were delivered
abbrev pub delivers : List HopRow → RequestEntry → ℕ
delivers departures entry = length (delays_in entry.request departures)

-- ---- all requests

abbrev pub sums_of : List HopRow → List Done → List RequestEntry → Sums
sums_of departures run requests = record { accepted = total (accepts run) requests; denied = total (denies run) requests; delivered = total (delivers departures) requests }

-- with one more request
abbrev pub with_request : Option Outcome → ℕ → Sums → Sums
with_request outcome delivered sums = record {
  accepted = sums.accepted + one_if (was_accepted outcome);
  denied = sums.denied + one_if (is_denied outcome);
  delivered = sums.delivered + delivered;
}

-- ---- the line

-- made NUMBER SIZE accepted A denied D delivered P steps N
abbrev pub told_summary : ℕ → ℕ → Sums → ℕ → List ℕ
told_summary number size sums steps = whole_line (
    codes "made" ∷ decimal number ∷ decimal size
    ∷ codes "accepted" ∷ decimal sums.accepted
    ∷ codes "denied" ∷ decimal sums.denied
    ∷ codes "delivered" ∷ decimal sums.delivered
    ∷ codes "steps" ∷ decimal steps
    ∷ [])

-- that of a run of a plan, whose entries are listed in the order of time
abbrev pub summary_of : ℕ → ℕ → PlanParts → List Done → List ℕ
summary_of number size parts entries = told_summary number size (sums_of (departures_of entries) (reverse entries) parts.requests) (length entries)
