-- A caller with a pass that has made no step is before its first operation. After its last one it has made all.
use Rattle.std.proofs.Common.{◌≡◌, ℕ, ◌≤◌, Option, None, List, [], ◌++◌, map, reverse, take, drop, length, Some, refl, sym, ap, ◌∙◌, subst, arith}
use Rattle.std.proofs.lemmas.List.{drop_all}
use Rattle.std.proofs.lemmas.Option.{same_Some, slice_get-map}
use Rattle.std.specs.Prelude.{option_map}
use Rattle.std.specs.List.{slice_get}
use Rattle.net_units.specs.Numbers.{actor_number}
use Rattle.link_steps.proofs.ListParts.{Each-at}
use Rattle.setup_protocol.specs.declared.request.Request.{Request}
use Rattle.link_ledger.specs.Tokens.{Token}
use Rattle.shared_network.specs.Calls.{HasNone, reply_in}
use Rattle.call_script.specs.Parts.{PlanParts}
use Rattle.call_script.specs.Plans.{HasTerms, IsPlan}
use Rattle.call_script.specs.Scripts.{ask_at, begun, from_step, standing}
use Rattle.call_script.specs.Standing.{requests_of}
use Rattle.call_script.specs.Tasks.{network_of, request_of, tasks_of}
use Rattle.call_script.specs.declared.entries.CallerEntry.{CallerEntry}
use Rattle.call_script.specs.declared.entries.RequestEntry.{RequestEntry}
use Rattle.call_script.specs.declared.tasks.Task.{Task}
use Rattle.run_engine.specs.runs.Parts.{IsAsked}
use Rattle.race_run.specs.Callers.{StandsBetween, PacketsStand, CallerIsAt, HasOps}
use Rattle.call_script.specs.Channels.{AreTold}
use Rattle.call_script.specs.declared.channels.Channel.{Channel}
use Rattle.race_run.specs.Whole.{HasMadeAll, own_done}
use Rattle.race_run.proofs.Operations.BetweenOperations.{caller-tasks, tasks-none}
use Rattle.race_run.proofs.Operations.PacketsLearnt.{packets-first}
use Rattle.race_run.proofs.Operations.TaskEntries.{caller-next}

-- ---- before the first operation

-- each request may send a packet of one unit
least-sizes : (parts : PlanParts) → IsPlan parts → (c : ℕ) (request : Request) → slice_get (network_of parts).requests c ≡ Some request → 1 ≤ request.contract.smax
unfolding network_of
least-sizes parts plan c request found = by (slice_get parts.requests c) refl (sym (slice_get-map request_of parts.requests c) ∙ found) where
  by : (there : Option RequestEntry) → slice_get parts.requests c ≡ there → option_map request_of there ≡ Some request → 1 ≤ request.contract.smax
  by None at is = absurd (let clash : None ≡ Some request = is in cc)
  by (Some entry) at is = subst (λ (r : Request). 1 ≤ r.contract.smax) (same_Some (request_of entry) request is) (Each-at HasTerms parts.requests c entry plan.terms at).contract.smax_least

between-first : (parts : PlanParts) (rest : List Task) (pass : Token) (channels : List Channel) → IsPlan parts → pass.own ≡ [] → AreTold channels [] → StandsBetween (network_of parts) [] rest pass channels
unfolding standing
between-first parts rest pass channels plan none told = record {
  outcomes = [];
  asked = subst (λ own. IsAsked (network_of parts) (actor_number pass.actor) (reverse (map (own_done pass.actor) own))) (sym none) tt;
  stands = ap (λ own. standing rest (reverse (map reply_in own))) none;
  known = told;
  fresh = λ chan off. subst (HasNone chan) (sym none) tt;
  live = λ request has. absurd has;
  packets = subst (λ own. PacketsStand (network_of parts).requests [] own []) (sym none) (packets-first (network_of parts).requests (least-sizes parts plan));
}

pub script-begins : (parts : PlanParts) (caller : ℕ) (entry : CallerEntry) (pass : Token) (channels : List Channel) → IsPlan parts → slice_get parts.callers caller ≡ Some entry → actor_number pass.actor ≡ caller → pass.own ≡ [] → length channels ≡ length parts.requests → AreTold channels [] → CallerIsAt parts caller 0 pass channels
script-begins parts caller entry pass channels plan found is none all told = record {
  entry = entry;
  found = found;
  is = is;
  all = all;
  between = subst (λ front. StandsBetween (network_of parts) front (tasks_of (requests_of parts) entry.ops) pass channels) (sym (tasks-none (requests_of parts))) (between-first parts (tasks_of (requests_of parts) entry.ops) pass channels plan none told);
}

-- ---- after the last one

pub script-ends : (parts : PlanParts) (caller place count : ℕ) (pass : Token) (channels : List Channel) → CallerIsAt parts caller place pass channels → HasOps parts caller count → count ≤ place → HasMadeAll (network_of parts) pass
unfolding from_step
script-ends parts caller place count pass channels at ops past =
    let entry = at.entry in
    let same : ops.entry ≡ entry = same_Some ops.entry entry (sym ops.found ∙ at.found) in
    let whole : length entry.ops ≡ count = ap (λ (e : CallerEntry). length e.ops) (sym same) ∙ ops.all in
    let none : tasks_of (requests_of parts) (drop place entry.ops) ≡ [] = ap (tasks_of (requests_of parts)) (drop_all place entry.ops (omega (arith, whole, past))) ∙ tasks-none (requests_of parts) in
    record {
      asked = at.between.asked;
      over = caller-next (network_of parts) pass.actor (tasks_of (requests_of parts) (take place entry.ops) ++ tasks_of (requests_of parts) (drop place entry.ops)) (reverse (map reply_in pass.own)) (caller-tasks parts caller place pass channels at) ∙ ap ask_at at.between.stands ∙ ap (λ tasks. ask_at (begun at.between.outcomes tasks)) none;
    }
