-- The levels with which the requests of a plan were accepted in a run of it keep what the requests ask for.
use Rattle.std.proofs.Common.{◌≡◌, ℕ, zero, suc, List, [], ◌∷◌, length, Option, Some, None, sym, ap, ◌∙◌, subst}
use Rattle.run_engine.proofs.Words.{same_Some, slice_get, actor_number, channel_number, delay_over, Outcome, Accepts, Denies, verdict_of, PlanParts, IsPlan, network_of, Done, IsRun}
use Rattle.net_units.specs.Allotted.{levels_of}
use Rattle.net_units.specs.declared.levels.Levels.{Levels}
use Rattle.link_steps.proofs.ListParts.{stands-at}
use Rattle.setup_protocol.specs.Laws.{KeepsRequest}
use Rattle.call_script.specs.declared.entries.RequestEntry.{RequestEntry}
use Rattle.call_script.proofs.PlansFit.{plan-fits}
use Rattle.call_script.proofs.OneOwner.{owned-by}
use Rattle.run_engine.specs.replies.Verdicts.{setup_replies}
use Rattle.interleave_core.proofs.Channels.KeptRequest.{accepted-kept}
use Rattle.run_engine.proofs.Replies.VerdictHolds.{verdicts-follow}
use Rattle.call_script.specs.Accepted.{AreAccepted}
use Rattle.audit_laws.specs.RunLevels.{AreLevelsFor, AreLevelsOf}
use Rattle.trace_audit.specs.Terms.{levels_given}
use Rattle.run_engine.proofs.Channels.PlanChannels.{request-sound}

given-told : (levels : List (Option Levels)) (c : ℕ) (given : Levels) → slice_get levels c ≡ Some (Some given) → levels_given levels c ≡ Some given
given-told [] c given is = absurd (let clash : None ≡ Some (Some given) = is in cc)
given-told (first ∷ levels) zero given is = same_Some first (Some given) is
given-told (first ∷ levels) (suc c) given is = given-told levels c given is

outcome-for : (outcome : Option Outcome) (found : Option Levels) (given : Levels) → AreLevelsFor outcome found → found ≡ Some given → (delay : ℕ) × (outcome ≡ Some (Accepts (levels_of given) delay))
outcome-for (Some (Accepts levels delay)) (Some own) given are is = (delay, ap (λ ls. Some (Accepts ls delay)) (sym are ∙ ap levels_of (same_Some own given is)))
outcome-for (Some (Accepts levels delay)) None given are is = absurd are
outcome-for (Some (Denies deny)) (Some own) given are is = absurd are
outcome-for (Some (Denies deny)) None given are is = cc
outcome-for None (Some own) given are is = absurd are
outcome-for None None given are is = cc

keep-for : (plan : PlanParts) (run : List Done) (levels : List (Option Levels)) (c : ℕ) (entry : RequestEntry) (given : Levels) → IsPlan plan → IsRun (network_of plan) run → AreLevelsOf plan run levels → slice_get plan.requests c ≡ Some entry → slice_get levels c ≡ Some (Some given) → KeepsRequest entry.request (levels_of given) (delay_over entry.request.route (levels_of given))
keep-for plan run levels c entry given is run_is are requested accepted =
    let full = owned-by plan c entry is requested in
    let sound = request-sound plan c entry is requested in
    let script = stands-at (network_of plan).scripts (actor_number entry.caller) full.inside in
    let outcome = outcome-for (verdict_of entry.request (setup_replies (channel_number entry.request.chan) run)) (levels_given levels c) given (are.are c entry requested) (given-told levels c given accepted) in
    let known = verdicts-follow (network_of plan) entry.request (actor_number entry.caller) script.0 run sound full run_is script.1 ∙ outcome.1 in
    let sums = accepted-kept (network_of plan) entry.request (actor_number entry.caller) run script.0 (levels_of given) outcome.0 (plan-fits plan is) sound full run_is script.1 known in
    subst (KeepsRequest entry.request (levels_of given)) sums.sum sums.keeps

pub run-accepted : (plan : PlanParts) (run : List Done) (levels : List (Option Levels)) → IsPlan plan → IsRun (network_of plan) run → AreLevelsOf plan run levels → length levels ≡ length plan.requests → AreAccepted plan levels
run-accepted plan run levels is run_is are count = record {
  count = count;
  keep = λ c entry given requested accepted. keep-for plan run levels c entry given is run_is are requested accepted;
}
