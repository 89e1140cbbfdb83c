-- A question about requests is put to a plan's requests alone: all callers do no more than open them, each caller in its order and one
-- after the other, so that all channels which are accepted are held at once. Nothing is sent, moved or closed, and the plane makes no round. A
-- question may want another delay, or another jitter, for one of the requests.
use Rattle.std.specs.Prelude.{ℕ, Bool, true, false, nat_eq, if◌then◌else◌, List, [], ◌∷◌, map}
use Rattle.net_units.specs.Numbers.{channel_number}
use Rattle.setup_protocol.specs.declared.request.Control.{Control}
use Rattle.setup_protocol.specs.declared.request.Control.TheVariants.{Jitter as JitterControl}
use Rattle.setup_protocol.specs.declared.request.Request.{Request}
use Rattle.call_script.specs.Parts.{PlanParts}
use Rattle.call_script.specs.declared.entries.RequestEntry.{RequestEntry}
use Rattle.call_script.specs.declared.entries.CallerEntry.{CallerEntry}
use Rattle.call_script.specs.declared.operations.Op.{Op}
use Rattle.call_script.specs.declared.operations.Op.TheVariants.{Open}
use Rattle.question_plans.specs.declared.change.Change.{Change}
use Rattle.question_plans.specs.declared.change.Change.TheVariants.{Nothing, Delay, Jitter}

-- ---- what a caller opens

abbrev pub is_open : Op → Bool
is_open (Open chan) = true
is_open _ = false

-- the opens among these operations
unfoldable pub opens_in : List Op → List Op
opens_in [] = []
opens_in (op ∷ ops) = if is_open op then op ∷ opens_in ops else opens_in ops

abbrev pub opens_of : CallerEntry → CallerEntry
opens_of caller = record { name = caller.name; group = caller.group; ops = opens_in caller.ops }

-- ---- what is wanted for the request of a channel in place of what the plan says

abbrev pub delay_in : Change → ℕ → ℕ → ℕ
delay_in Nothing chan delay = delay
delay_in (Delay number wanted) chan delay = if nat_eq chan number then wanted else delay
delay_in (Jitter number wanted) chan delay = delay

abbrev pub control_in : Change → ℕ → Control → Control
control_in Nothing chan control = control
control_in (Delay number wanted) chan control = control
control_in (Jitter number wanted) chan control = if nat_eq chan number then JitterControl wanted else control

abbrev pub changed_request : Change → Request → Request
changed_request change request =
    record request { control = control_in change (channel_number request.chan) request.control; delay = delay_in change (channel_number request.chan) request.delay }

abbrev pub changed : Change → RequestEntry → RequestEntry
changed change entry = record entry { request = changed_request change entry.request }

-- ---- the plan of the question

abbrev pub alone_of : Change → PlanParts → PlanParts
alone_of change parts = record {
  version = parts.version;
  links = parts.links;
  groups = parts.groups;
  requests = map (changed change) parts.requests;
  callers = map opens_of parts.callers;
  rounds = 0;
  tail = 0;
}
