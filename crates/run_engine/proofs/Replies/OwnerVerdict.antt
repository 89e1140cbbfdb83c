-- The caller that opens a request is one of the actors, and what the request has come to, as this caller knows it, is the verdict
-- over the replies of the run.
use Rattle.std.proofs.Common.{◌≡◌, ℕ, ◌<◌, Option, Some, List, length, sym, ap, ◌∙◌, arith}
use Rattle.run_engine.proofs.Words.{same_Some, slice_get, actor_number, channel_number, Outcome, verdict_of, PlanParts, IsPlan, moved_off, outcome_in, standing_of, network_of, Shifted, IsRun, replies_to, Done, moved_in}
use Rattle.call_script.proofs.PlansFit.{request-fits}
use Rattle.call_script.proofs.OneOwner.{owned-by}
use Rattle.call_script.specs.Standing.{standing_in}
use Rattle.call_script.specs.declared.entries.RequestEntry.{RequestEntry}
use Rattle.run_engine.specs.replies.Verdicts.{setup_replies}
use Rattle.run_engine.proofs.Keeping.KeptActors.{plane-number}
use Rattle.run_engine.proofs.Keeping.Lookups.{held}
use Rattle.run_engine.proofs.Replies.VerdictHolds.{verdicts-follow}

pub owner-within : (parts : PlanParts) (number : ℕ) (entry : RequestEntry) → IsPlan parts → slice_get parts.requests number ≡ Some entry → actor_number entry.caller < length parts.callers
owner-within parts number entry plan found =
    let owned = owned-by parts number entry plan found in
    omega (arith, owned.inside, plane-number parts)

pub owner-verdict : (parts : PlanParts) (number : ℕ) (entry : RequestEntry) (run : List Done) → IsPlan parts → slice_get parts.requests number ≡ Some entry → IsRun (network_of parts) run
    → outcome_in entry.request.chan (standing_in parts (actor_number entry.caller) (replies_to (actor_number entry.caller) run)).outcomes ≡ verdict_of entry.request (setup_replies (channel_number entry.request.chan) run)
unfolding network_of
owner-verdict parts number entry run plan found is =
    let owned = owned-by parts number entry plan found in
    let script = held (network_of parts).scripts (actor_number entry.caller) owned.inside in
    ap (λ tasks. outcome_in entry.request.chan (standing_of tasks (replies_to (actor_number entry.caller) run)).outcomes) script.found
    ∙ verdicts-follow (network_of parts) entry.request (actor_number entry.caller) script.item run (request-fits parts number entry plan found) owned is script.found

-- the same of the entry that was read at an index
pub read-verdict : (parts : PlanParts) (number : ℕ) (read entry : RequestEntry) (run : List Done) (outcome : Option Outcome) (owner : ℕ) → IsPlan parts → slice_get parts.requests number ≡ Some read → slice_get parts.requests number ≡ Some entry → IsRun (network_of parts) run → owner ≡ actor_number read.caller
    → outcome ≡ outcome_in read.request.chan (standing_in parts owner (replies_to (actor_number read.caller) run)).outcomes → outcome ≡ verdict_of entry.request (setup_replies (channel_number entry.request.chan) run)
read-verdict parts number read entry run outcome owner plan found same is owns known =
    known ∙ ap (λ n. outcome_in read.request.chan (standing_in parts n (replies_to (actor_number read.caller) run)).outcomes) owns ∙ owner-verdict parts number read run plan found is
    ∙ ap (λ (e : RequestEntry). verdict_of e.request (setup_replies (channel_number e.request.chan) run)) (same_Some read entry (sym found ∙ same))

-- and what a move from its channel has come to
pub read-moved : (parts : PlanParts) (number : ℕ) (read entry : RequestEntry) (run : List Done) (told : Option Shifted) (owner : ℕ) → slice_get parts.requests number ≡ Some read → slice_get parts.requests number ≡ Some entry → owner ≡ actor_number read.caller
    → told ≡ moved_off read.request.chan (standing_in parts owner (replies_to (actor_number read.caller) run)).outcomes → told ≡ moved_in parts run entry
read-moved parts number read entry run told owner found same owns known =
    known ∙ ap (λ n. moved_off read.request.chan (standing_in parts n (replies_to (actor_number read.caller) run)).outcomes) owns ∙ ap (moved_in parts run) (same_Some read entry (sym found ∙ same))
