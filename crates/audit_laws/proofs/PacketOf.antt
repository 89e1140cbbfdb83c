-- In the run of a plan each packet of a channel is of one of the plan's requests, which was accepted, at a hop of its route.
use Rattle.std.proofs.Common.{◌≡◌, ◌≢◌, ℕ, ◌≤◌, true, List, length, map, Option, Some, None, refl, sym, ap, ◌∙◌, subst, arith}
use Rattle.run_engine.proofs.Words.{same_Some, slice_get_within, slice_get, link_number, actor_number, channel_number, Hop, Each, Among, Arrival, Link, RequestFits, Outcome, Accepts, Denies, offers_in, verdict_of, Request, is_of_channel, OwnedFully, TaskOff, IsUnnamed, PlanParts, IsPlan, Network, request_of, tasks_of, script_of, network_of, Task, Done, packets_on, ChannelAsked, HopAt, packets_at, IsRun}
use Rattle.net_units.specs.Allotted.{levels_of}
use Rattle.net_units.specs.declared.levels.Levels.{Levels}
use Rattle.link_steps.proofs.ListParts.{comes-from, stands-at}
use Rattle.link_steps.proofs.PacketRows.{Among-passes}
use Rattle.setup_protocol.proofs.SettledRequest.{accepted-passed}
use Rattle.call_script.specs.declared.entries.RequestEntry.{RequestEntry}
use Rattle.call_script.specs.declared.operations.Op.{Op}
use Rattle.call_script.proofs.PlansFit.{plan-fits}
use Rattle.call_script.proofs.OperationTable.{tasks-hold}
use Rattle.call_script.proofs.OneOwner.{owned-by}
use Rattle.run_engine.specs.replies.Verdicts.{setup_replies}
use Rattle.interleave_core.proofs.Channels.AcceptedOnly.{taken-accepted}
use Rattle.run_engine.proofs.Channels.ChannelsAt.{packet-offered}
use Rattle.interleave_core.proofs.Channels.GuaranteeLaw.{unnamed-packet, own-channel, some-there}
use Rattle.run_engine.proofs.Channels.HopsAt.{hop-at, HaveLevelsAt}
use Rattle.interleave_core.proofs.Flights.ReadyRun.{counts-first}
use Rattle.run_engine.proofs.Replies.RunCloses.{owned-once}
use Rattle.run_engine.proofs.Replies.RunGoes.{accepted-levels}
use Rattle.run_engine.proofs.Replies.VerdictHolds.{verdicts-follow}
use Rattle.audit_laws.specs.RunLevels.{AreLevelsFor, AreLevelsOf}
use Rattle.trace_audit.specs.Terms.{levels_given}
use Rattle.run_engine.proofs.Channels.PlanChannels.{request-asked, request-sound}

-- ---- a channel without a request has no task

task-off-none : (c : ℕ) (requests : List RequestEntry) (n : ℕ) → ((k : ℕ) (entry : RequestEntry) → slice_get requests k ≡ Some entry → channel_number entry.request.chan ≡ k) → slice_get requests c ≡ None → (request : Request) → slice_get (map request_of requests) n ≡ Some request → channel_number request.chan ≢ c
task-off-none c requests n planned none request found same =
    let from = comes-from request_of requests n request found in
    let number : channel_number request.chan ≡ n = ap (λ (r : Request). channel_number r.chan) (sym from.is) ∙ planned n from.from from.found in
    let at : slice_get requests c ≡ Some from.from = ap (slice_get requests) (sym same ∙ number) ∙ from.found in
    absurd (let clash : None ≡ Some from.from = sym none ∙ at in cc)

ops-off-none : (c : ℕ) (requests : List RequestEntry) → ((k : ℕ) (entry : RequestEntry) → slice_get requests k ≡ Some entry → channel_number entry.request.chan ≡ k) → slice_get requests c ≡ None → (ops : List Op) → Each (TaskOff c) (tasks_of (map request_of requests) ops)
ops-off-none c requests planned none ops = tasks-hold (TaskOff c) (map request_of requests) (record {
  opens = λ n request such found. off n request found;
  sends = λ n request link count gap size such found. off n request found;
  closes = λ n request such found. off n request found;
  pours = λ link count gap size. tt;
  moves = λ o n old new such also leaves joins. (off o old leaves, off n new joins);
}) ops where
  off : (n : ℕ) (request : Request) → slice_get (map request_of requests) n ≡ Some request → channel_number request.chan ≢ c
  off n request found = task-off-none c requests n planned none request found

unnamed : (plan : PlanParts) (c : ℕ) → IsPlan plan → slice_get plan.requests c ≡ None → IsUnnamed (network_of plan) c
unfolding network_of
unnamed plan c is none actor tasks found =
    let from = comes-from (script_of (map request_of plan.requests)) plan.callers actor tasks found in
    subst (Each (TaskOff c)) from.is (ops-off-none c plan.requests is.planned.requests none from.from.ops)

-- ---- the request of a packet

pub record PacketOf (plan : PlanParts) (run : List Done) (levels : List (Option Levels)) (n : ℕ) (link : Link) (p : Arrival) : Type 0 where
  pub entry : RequestEntry
  pub requested : slice_get plan.requests (channel_number p.chan) ≡ Some entry
  pub chan : channel_number entry.request.chan ≡ channel_number p.chan
  pub sound : RequestFits (network_of plan).links entry.request
  pub full : OwnedFully (network_of plan) entry.request (actor_number entry.caller)
  pub tasks : List Task
  pub script : slice_get (network_of plan).scripts (actor_number entry.caller) ≡ Some tasks
  pub asked : (past : List Done) → IsRun (network_of plan) past → ChannelAsked entry.request past
  pub index : ℕ
  pub at : HopAt (network_of plan) entry.request index
  pub on : link_number at.hop.link ≡ n
  pub given : Levels
  pub accepted : levels_given levels (channel_number p.chan) ≡ Some given
  pub have : HaveLevelsAt (network_of plan) entry.request (levels_of given) run
  pub offered : length entry.request.route ≤ length (offers_in (setup_replies (channel_number entry.request.chan) run))
  pub mine : is_of_channel (channel_number entry.request.chan) p ≡ true

levels-for : (outcome : Option Outcome) (found : Option Levels) (ls : List ℕ) (delay : ℕ) → AreLevelsFor outcome found → outcome ≡ Some (Accepts ls delay) → (given : Levels) × (found ≡ Some given) × (levels_of given ≡ ls)
levels-for (Some (Accepts levels delay)) (Some given) ls own are is = (given, refl, are ∙ same-levels levels ls delay own is) where
  same-levels : (a b : List ℕ) (x y : ℕ) → ◌≡◌ {A = Option Outcome} (Some (Accepts a x)) (Some (Accepts b y)) → a ≡ b
  same-levels a b x y same = cc
levels-for (Some (Accepts levels delay)) None ls own are is = absurd are
levels-for (Some (Denies deny)) found ls own are is = cc
levels-for None found ls own are is = cc

of-entry : (plan : PlanParts) (run : List Done) (levels : List (Option Levels)) (n : ℕ) (link : Link) (p : Arrival) (entry : RequestEntry) → IsPlan plan → IsRun (network_of plan) run → AreLevelsOf plan run levels → slice_get (network_of plan).links n ≡ Some link → Among p (packets_on link n run) → 1 ≤ p.number → slice_get plan.requests (channel_number p.chan) ≡ Some entry → RequestFits (network_of plan).links entry.request → PacketOf plan run levels n link p
of-entry plan run levels n link p entry is run_is are linked among numbered requested sound =
    let network : Network = network_of plan in
    let fits = plan-fits plan is in
    let full = owned-by plan (channel_number p.chan) entry is requested in
    let owner : ℕ = actor_number entry.caller in
    let once = owned-once (network_of plan) entry.request (actor_number entry.caller) full in
    let asked = request-asked plan (channel_number p.chan) entry is requested in
    let chan : channel_number entry.request.chan ≡ channel_number p.chan = is.planned.requests (channel_number p.chan) entry requested in
    let mine : is_of_channel (channel_number entry.request.chan) p ≡ true = subst (λ c. is_of_channel c p ≡ true) (sym chan) (own-channel p numbered) in
    let row = packet-offered (network_of plan) entry.request run n link p fits run_is (asked run run_is) sound linked mine among in
    let hop = hop-at (network_of plan) entry.request row.route.index sound (slice_get_within entry.request.route row.route.index row.route.hop row.route.stands) in
    let first = hop-at (network_of plan) entry.request 0 sound sound.route.least in
    let on : link_number hop.hop.link ≡ n = ap (λ (h : Hop). link_number h.link) (same_Some hop.hop row.route.hop (sym hop.stands ∙ row.route.stands)) ∙ row.route.number in
    let same : hop.link ≡ link = same_Some hop.link link (sym hop.linked ∙ ap (slice_get (network_of plan).links) on ∙ linked) in
    let there : Among p (packets_on hop.link (link_number hop.hop.link) run) = subst (λ l. Among p (packets_on l (link_number hop.hop.link) run)) (sym same) (subst (λ m. Among p (packets_on link m run)) (sym on) among) in
    let some = some-there p (packets_at (network_of plan) entry.request row.route.index hop run) (Among-passes (is_of_channel (channel_number entry.request.chan)) p (packets_on hop.link (link_number hop.hop.link) run) mine there) in
    let fewer = counts-first (network_of plan) entry.request first row.route.index hop run fits sound asked run_is in
    let script = stands-at (network_of plan).scripts (actor_number entry.caller) full.inside in
    let accepted = taken-accepted (network_of plan) entry.request (actor_number entry.caller) first run fits sound full run_is (omega (arith, some, fewer)) script.0 script.1 in
    let verdict : verdict_of entry.request (setup_replies (channel_number entry.request.chan) run) ≡ Some (Accepts accepted.levels accepted.delay) = sym (verdicts-follow (network_of plan) entry.request (actor_number entry.caller) script.0 run sound full run_is script.1) ∙ accepted.is in
    let found = levels-for (verdict_of entry.request (setup_replies (channel_number entry.request.chan) run)) (levels_given levels (channel_number p.chan)) accepted.levels accepted.delay (are.are (channel_number p.chan) entry requested) verdict in
    let passed = (accepted-passed entry.request (setup_replies (channel_number entry.request.chan) run) (Accepts accepted.levels accepted.delay) verdict).0 refl in
    let have = (accepted-levels (network_of plan) entry.request (actor_number entry.caller) run script.0 accepted.levels accepted.delay fits sound once run_is script.1 accepted.is).0 in
    record {
      entry = entry;
      requested = requested;
      chan = chan;
      sound = sound;
      full = full;
      tasks = script.0;
      script = script.1;
      asked = asked;
      index = row.route.index;
      at = hop;
      on = on;
      given = found.0;
      accepted = found.1;
      have = subst (λ ls. HaveLevelsAt (network_of plan) entry.request ls run) (sym found.2) have;
      offered = passed.all_offer;
      mine = mine;
    }

pub packet-of : (plan : PlanParts) (run : List Done) (levels : List (Option Levels)) (n : ℕ) (link : Link) (p : Arrival) → IsPlan plan → IsRun (network_of plan) run → AreLevelsOf plan run levels → slice_get (network_of plan).links n ≡ Some link → Among p (packets_on link n run) → 1 ≤ p.number → PacketOf plan run levels n link p
packet-of plan run levels n link p is run_is are linked among numbered = by-entry (slice_get plan.requests (channel_number p.chan)) refl where
  by-entry : (found : Option RequestEntry) → slice_get plan.requests (channel_number p.chan) ≡ found → PacketOf plan run levels n link p
  by-entry None none = absurd (unnamed-packet (network_of plan) n link p run (plan-fits plan is) run_is linked among (own-channel p numbered) (unnamed plan (channel_number p.chan) is none))
  by-entry (Some entry) some = of-entry plan run levels n link p entry is run_is are linked among numbered some (request-sound plan (channel_number p.chan) entry is some)
