-- The levels with which the requests of a plan were accepted in a run, as an audit takes them.
use Rattle.std.proofs.Common.{◌≡◌, ℕ, zero, suc, ◌≤◌, List, [], ◌∷◌, length, map, take, Option, Some, None, refl, sym, ap, ◌∙◌, subst, arith}
use Rattle.run_engine.proofs.Words.{take_all, length-map, same_Some, slice_get, actor_number, channel_number, level_number, AreLevels, Hop, Each, IsHopOf, Outcome, Accepts, Denies, verdict_of, PlanParts, IsPlan, network_of, Done, IsRun}
use Rattle.std.proofs.Math.Nat.{min-le_left}
use Rattle.std.specs.Prelude.{min, slice_index_or}
use Rattle.net_units.specs.Allotted.{levels_of}
use Rattle.net_units.specs.declared.levels.Levels.{Levels}
use Rattle.net_units.proofs.BoundsInOrder.{bounds-parts}
use Rattle.link_steps.specs.Levels.{level_of}
use Rattle.link_steps.proofs.LevelByNumber.{level_of-number}
use Rattle.link_steps.proofs.ListParts.{stands-at}
use Rattle.call_script.specs.declared.entries.RequestEntry.{RequestEntry}
use Rattle.call_script.proofs.PlansFit.{plan-fits}
use Rattle.call_script.proofs.OneOwner.{owned-by}
use Rattle.run_engine.specs.replies.Verdicts.{setup_replies}
use Rattle.interleave_core.proofs.Channels.KeptRequest.{accepted-kept}
use Rattle.run_engine.proofs.Replies.VerdictHolds.{verdicts-follow}
use Rattle.audit_laws.specs.RunLevels.{AreLevelsFor, AreLevelsOf}
use Rattle.run_engine.proofs.Channels.PlanChannels.{request-sound}

-- ---- the levels of one request

abbrev pub as_levels : List ℕ → Levels
as_levels levels = record { levels = map level_of levels; len = min 16 (length levels); fits = min-le_left 16 (length levels) }

abbrev pub given_in : Option Outcome → Option Levels
given_in (Some (Accepts levels delay)) = Some (as_levels levels)
given_in (Some (Denies deny)) = None
given_in None = None

pub record IsNumber (level : ℕ) : Type 0 where
  pub least : 1 ≤ level
  pub most : level ≤ 8

numbers-same : (levels : List ℕ) → Each IsNumber levels → map level_number (map level_of levels) ≡ levels
numbers-same [] each = refl
numbers-same (level ∷ levels) each = ap (λ n. n ∷ map level_number (map level_of levels)) (level_of-number level each.0.least each.0.most) ∙ ap (λ ls. level ∷ ls) (numbers-same levels each.1)

levels-same : (levels : List ℕ) → length levels ≤ 16 → Each IsNumber levels → levels_of (as_levels levels) ≡ levels
levels-same levels few each =
    let long = length-map levels level_of in
    let all : take (min 16 (length levels)) (map level_of levels) ≡ map level_of levels = take_all (min 16 (length levels)) (map level_of levels) (omega (arith, few, long)) in
    ap (λ ls. map level_number ls) all ∙ numbers-same levels each

-- the levels of a route's hops are levels of links
are-numbers : (links : List _) (route : List Hop) (levels : List ℕ) → Each (IsHopOf links) route → AreLevels route levels → Each IsNumber levels
unfolding AreLevels
are-numbers links route [] hops are = tt
are-numbers links [] (level ∷ levels) hops are = absurd are
are-numbers links (hop ∷ route) (level ∷ levels) hops are = (
  record {
    least = are.0.least;
    most = (let bounds : length hop.bounds ≡ length hops.0.link.shape.bounds = ap length hops.0.bounds in let few = (bounds-parts hops.0.link.shape.bounds hops.0.link.shape.bounds_rise).most in let most = are.0.most in omega (arith, bounds, few, most));
  },
  are-numbers links route levels hops.1 are.1,
)

-- ---- those of a plan

abbrev pub levels_in : PlanParts → List Done → List (Option Levels)
levels_in plan run = map (λ (entry : RequestEntry). given_in (verdict_of entry.request (setup_replies (channel_number entry.request.chan) run))) plan.requests

at-entry : {X : Type 0} (f : RequestEntry → Option X) (requests : List RequestEntry) (c : ℕ) (entry : RequestEntry) → slice_get requests c ≡ Some entry → slice_index_or (map f requests) c None ≡ f entry
at-entry f [] c entry is = absurd (let clash : None ≡ Some entry = is in cc)
at-entry f (first ∷ requests) zero entry is = ap f (same_Some first entry is)
at-entry f (first ∷ requests) (suc c) entry is = at-entry f requests c entry is

for-outcome : (outcome : Option Outcome) → ((levels : List ℕ) (delay : ℕ) → outcome ≡ Some (Accepts levels delay) → levels_of (as_levels levels) ≡ levels) → AreLevelsFor outcome (given_in outcome)
for-outcome (Some (Accepts levels delay)) same = same levels delay refl
for-outcome (Some (Denies deny)) same = tt
for-outcome None same = tt

pub levels-are : (plan : PlanParts) (run : List Done) → IsPlan plan → IsRun (network_of plan) run → AreLevelsOf plan run (levels_in plan run)
levels-are plan run is run_is = record {
  are = λ c entry requested. subst (AreLevelsFor (verdict_of entry.request (setup_replies (channel_number entry.request.chan) run))) (sym (at-entry (λ (e : RequestEntry). given_in (verdict_of e.request (setup_replies (channel_number e.request.chan) run))) plan.requests c entry requested))
      (for-outcome (verdict_of entry.request (setup_replies (channel_number entry.request.chan) run)) (λ levels delay accepted. one c entry requested levels delay accepted));
} where
  one : (c : ℕ) (entry : RequestEntry) → slice_get plan.requests c ≡ Some entry → (levels : List ℕ) (delay : ℕ) → verdict_of entry.request (setup_replies (channel_number entry.request.chan) run) ≡ Some (Accepts levels delay) → levels_of (as_levels levels) ≡ levels
  one c entry requested levels delay accepted =
      let full = owned-by plan c entry is requested in
      let sound = request-sound plan c entry is requested in
      let script = stands-at (network_of plan).scripts (actor_number entry.caller) full.inside in
      let known = verdicts-follow (network_of plan) entry.request (actor_number entry.caller) script.0 run sound full run_is script.1 ∙ accepted in
      let keeps = (accepted-kept (network_of plan) entry.request (actor_number entry.caller) run script.0 levels delay (plan-fits plan is) sound full run_is script.1 known).keeps in
      let whole = keeps.have_levels.whole in
      let short = sound.route.most in
      levels-same levels (omega (arith, whole, short)) (are-numbers (network_of plan).links entry.request.route levels sound.hops keeps.have_levels.are_levels)
