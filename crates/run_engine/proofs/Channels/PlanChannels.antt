-- The channel of a plan's request in each run of the plan: it is asked once at each hop of its route, on the request's terms, and its
-- packets leave each hop in the order of their numbers.
use Rattle.std.proofs.Common.{◌≡◌, ℕ, List, Some}
use Rattle.run_engine.proofs.Words.{slice_get, actor_number, channel_number, link_number, RequestFits, network_of, PlanParts, IsPlan, Done, IsRun, ChannelAsked, terms_at, HopAt}
use Rattle.call_script.proofs.OneOwner.{all-owned, owned-by}
use Rattle.call_script.proofs.PlansFit.{plan-fits, request-fits}
use Rattle.call_script.specs.declared.entries.RequestEntry.{RequestEntry}
use Rattle.run_engine.proofs.Channels.Leaving.{Leaving, run-leaves}
use Rattle.run_engine.proofs.Replies.RunCloses.{fully-asked}

pub request-sound : (plan : PlanParts) (c : ℕ) (entry : RequestEntry) → IsPlan plan → slice_get plan.requests c ≡ Some entry → RequestFits (network_of plan).links entry.request
unfolding network_of
request-sound plan c entry is requested = request-fits plan c entry is requested

pub request-asked : (plan : PlanParts) (c : ℕ) (entry : RequestEntry) → IsPlan plan → slice_get plan.requests c ≡ Some entry → (run : List Done) → IsRun (network_of plan) run → ChannelAsked entry.request run
request-asked plan c entry is requested = fully-asked (network_of plan) entry.request (actor_number entry.caller) (plan-fits plan is) (request-sound plan c entry is requested) (owned-by plan c entry is requested)

-- whatever offers tell the rows' hops
pub hop-leaves : (plan : PlanParts) (c : ℕ) (entry : RequestEntry) (i : ℕ) (at : HopAt (network_of plan) entry.request i) (whole run : List Done) → IsPlan plan → slice_get plan.requests c ≡ Some entry → IsRun (network_of plan) run
    → Leaving at.link.shape (channel_number entry.request.chan) (link_number at.hop.link) whole run
hop-leaves plan c entry i at whole run is requested run_is =
    run-leaves (network_of plan) (terms_at entry.request i) (channel_number entry.request.chan) (link_number at.hop.link) at.link whole run (plan-fits plan is) (all-owned plan is) at.linked
    (λ past past_is. (let asked = request-asked plan c entry is requested past past_is in (asked.names i at.hop at.stands, asked.once (link_number at.hop.link)))) run_is
