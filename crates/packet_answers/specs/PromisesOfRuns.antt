-- What the accepted channels of a run were promised, in the order of their requests: the contract, the delay of the acceptance, and under
-- delay-jitter control the bound of the last hop. Where the moments of a table are rounded to ticks, two delays may differ by some more.
use Rattle.std.specs.Prelude.{ℕ, ◌+◌, min, ◌-◌, ◌^◌, Option, Some, None, List, [], ◌∷◌, option_map}
use Rattle.std.specs.List.{flat_map}
use Rattle.hop_reservation.specs.declared.route.Hop.{Hop}
use Rattle.relaxation.specs.Allotment.{bound_at_end}
use Rattle.setup_protocol.specs.Setup.{Outcome, Accepts}
use Rattle.setup_protocol.specs.declared.request.Control.{Control}
use Rattle.setup_protocol.specs.declared.request.Control.TheVariants.{Rate, Jitter}
use Rattle.setup_protocol.specs.declared.request.Request.{Request}
use Rattle.call_script.specs.declared.entries.RequestEntry.{RequestEntry}
use Rattle.run_record.specs.declared.done.Done.{Done}
use Rattle.channel_report.specs.Verdicts.{verdict_in}
use Rattle.packet_audit.specs.declared.rows.Promise.{Promise}

abbrev pub jitter_promised : Control → List Hop → List ℕ → Option ℕ
jitter_promised Rate route levels = None
jitter_promised (Jitter bound) route levels = Some (bound_at_end route levels)

-- what a request with this outcome was promised
abbrev pub promised_to : Request → Option Outcome → Option Promise
promised_to request (Some (Accepts levels delay)) = Some (record { contract = request.contract; delay = delay; jitter = jitter_promised request.control request.route levels })
promised_to request _ = None

abbrev pub listed : Option Promise → List Promise
listed None = []
listed (Some promise) = promise ∷ []

-- what the requests were promised in a run
abbrev pub promise_in : List Done → RequestEntry → List Promise
promise_in run entry = listed (promised_to entry.request (verdict_in run entry))

abbrev pub promises_in : List RequestEntry → List Done → List Promise
promises_in requests run = flat_map (promise_in run) requests

-- a jitter, where delays are known but for so many ticks
abbrev pub wider : ℕ → ℕ → ℕ
wider by jitter = min (jitter + by) (2 ^ 64 - 1)

abbrev pub widened_by : ℕ → Promise → Promise
widened_by by promise = record promise { jitter = option_map (wider by) promise.jitter }
