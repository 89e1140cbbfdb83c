-- An operation of a caller, where it stands in the script: its task, whose its channel is, and what is kept of it.
use Rattle.std.proofs.Common.{◌≡◌, ℕ, ◌+◌, ◌<◌, true, false, List, [], ◌∷◌, ◌++◌, map, length, Bool, Option, Some, None, refl, sym, ap, ◌∙◌, subst, inl, inr, arith}
use Rattle.std.proofs.lemmas.Bool.{cases_eq}
use Rattle.std.proofs.lemmas.Option.{same_Some, slice_get-map, slice_get_within}
use Rattle.std.specs.List.{slice_get}
use Rattle.std.specs.Prelude.{not, option_map}
use Rattle.net_units.specs.Numbers.{actor_number, channel_number}
use Rattle.net_units.specs.declared.numbers.ActorNo.{ActorNo}
use Rattle.net_units.specs.declared.numbers.ChanNo.{ChanNo}
use Rattle.link_steps.specs.Lists.{Each}
use Rattle.link_steps.specs.Split.{Link}
use Rattle.link_steps.specs.declared.asks.Ask.{Ask}
use Rattle.link_steps.specs.declared.replies.Reply.{Reply}
use Rattle.shared_network.specs.Added.{Asked, asked_in}
use Rattle.net_units.specs.declared.numbers.LinkNo.{LinkNo}
use Rattle.setup_protocol.specs.declared.request.Request.{Request}
use Rattle.link_ledger.specs.Owners.{IsOwner}
use Rattle.link_ledger.specs.Tokens.{Token}
use Rattle.link_ledger.specs.declared.entries.OwnEntry.{OwnEntry}
use Rattle.shared_network.specs.Calls.{Follows, reply_in}
use Rattle.setup_protocol.specs.Hops.{IsHopOf}
use Rattle.call_script.specs.Fits.{TaskFits}
use Rattle.call_script.specs.Owners.{TaskOff, FullScript}
use Rattle.call_script.specs.Parts.{PlanParts}
use Rattle.call_script.specs.Plans.{IsPlan}
use Rattle.call_script.specs.Scripts.{is_established}
use Rattle.call_script.specs.Standing.{requests_of}
use Rattle.call_script.specs.Tasks.{Network, network_of, request_of, send_on, task_for, task_of, with_task}
use Rattle.call_script.specs.declared.entries.RequestEntry.{RequestEntry}
use Rattle.call_script.specs.declared.operations.Op.{Op}
use Rattle.call_script.specs.declared.tasks.Task.{Task}
use Rattle.call_script.proofs.PlansFit.{request-fits, plan-fits}
use Rattle.call_script.proofs.OneOwner.{owned-by}
use Rattle.call_script.proofs.RulesAreKept.{not-true}
use Rattle.race_run.specs.Callers.{StandsBetween, CallerIsAt, HasOp, IsNetworkOf, caller_of}
use Rattle.race_run.proofs.Operations.BetweenOperations.{here, between-none}
use Rattle.race_run.proofs.Operations.ChannelsInScript.{Names, named-off, each-middle}
use Rattle.race_run.proofs.Operations.TaskEntries.{HasTasks}
use Rattle.link_steps.proofs.ListParts.{Each-at}
use Rattle.net_units.proofs.KnownByNumber.{same-actor}
use Rattle.call_script.specs.Channels.{Told, channel_in}
use Rattle.call_script.specs.declared.channels.Channel.{Channel}

-- ---- the task of an operation

-- the caller before an operation that is this task
pub record HereAt (parts : PlanParts) (caller place : ℕ) (task : Task) (pass : Token) (channels : List Channel) : Type 0 where
  pub front : List Task
  pub rest : List Task
  pub tasks : HasTasks (network_of parts) pass.actor (front ++ task ∷ rest)
  pub between : StandsBetween (network_of parts) front (task ∷ rest) pass channels
  pub next : (pass' : Token) (channels' : List Channel) → pass'.actor ≡ pass.actor → length channels' ≡ length channels → StandsBetween (network_of parts) (front ++ task ∷ []) rest pass' channels' → CallerIsAt parts caller (place + 1) pass' channels'

here-at : (parts : PlanParts) (caller place : ℕ) (op : Op) (task : Option Task) (is : Task) (pass : Token) (channels : List Channel) → task ≡ Some is
    → (front rest : List Task) → HasTasks (network_of parts) pass.actor (front ++ with_task task rest) → StandsBetween (network_of parts) front (with_task task rest) pass channels
    → ((pass' : Token) (channels' : List Channel) → pass'.actor ≡ pass.actor → length channels' ≡ length channels → StandsBetween (network_of parts) (front ++ with_task task []) rest pass' channels' → CallerIsAt parts caller (place + 1) pass' channels') → HereAt parts caller place is pass channels
here-at parts caller place op None is pass channels same front rest tasks between next = absurd (let clash : None ≡ Some is = same in cc)
here-at parts caller place op (Some task) is pass channels same front rest tasks between next =
    let t : task ≡ is = same_Some task is same in
    record {
      front = front;
      rest = rest;
      tasks = subst (λ t. HasTasks (network_of parts) pass.actor (front ++ t ∷ rest)) t tasks;
      between = subst (λ t. StandsBetween (network_of parts) front (t ∷ rest) pass channels) t between;
      next = λ pass' channels' by long stands. next pass' channels' by long (subst (λ t. StandsBetween (network_of parts) (front ++ t ∷ []) rest pass' channels') (sym t) stands);
    }

pub here-with : (parts : PlanParts) (caller place : ℕ) (op : Op) (task : Task) (pass : Token) (channels : List Channel) → CallerIsAt parts caller place pass channels → HasOp parts caller place op → task_of (requests_of parts) op ≡ Some task → HereAt parts caller place task pass channels
here-with parts caller place op task pass channels at has is =
    let h = here parts caller place op pass channels at has in
    here-at parts caller place op (task_of (requests_of parts) op) task pass channels is h.front h.rest h.tasks h.between h.next

pub request-at : (parts : PlanParts) (own : Request → Task) (c : ℕ) (entry : RequestEntry) → slice_get parts.requests c ≡ Some entry → option_map own (slice_get (requests_of parts) c) ≡ Some (own entry.request)
request-at parts own c entry found = ap (option_map own) (slice_get-map request_of parts.requests c ∙ ap (option_map request_of) found)

pub request-none : (parts : PlanParts) (own : Request → Task) (c : ℕ) → slice_get parts.requests c ≡ None → option_map own (slice_get (requests_of parts) c) ≡ None
request-none parts own c none = ap (option_map own) (slice_get-map request_of parts.requests c ∙ ap (option_map request_of) none)

pub send-none : (parts : PlanParts) (count gap size c : ℕ) → slice_get parts.requests c ≡ None → task_for (send_on count gap size) (slice_get (requests_of parts) c) ≡ None
send-none parts count gap size c none = ap (task_for (send_on count gap size)) (slice_get-map request_of parts.requests c ∙ ap (option_map request_of) none)

-- ---- over an operation that is no task

pub none-passed : (parts : PlanParts) (caller place : ℕ) (op : Op) (pass : Token) (channels : List Channel) → CallerIsAt parts caller place pass channels → HasOp parts caller place op → task_of (requests_of parts) op ≡ None → CallerIsAt parts caller (place + 1) pass channels
none-passed parts caller place op pass channels at has none =
    let h = here parts caller place op pass channels at has in
    h.next pass channels refl refl (subst (λ ts. StandsBetween (network_of parts) (h.front ++ ts) h.rest pass channels) (ap (λ t. with_task t []) (sym none)) (between-none (network_of parts) h.front h.rest pass channels (subst (λ ts. StandsBetween (network_of parts) h.front ts pass channels) (ap (λ t. with_task t h.rest) none) h.between)))

-- ---- whose a channel is

owner-is : (parts : PlanParts) (c : ℕ) (entry : RequestEntry) (actor : ActorNo) (front : List Task) (task : Task) (rest : List Task) → IsPlan parts → slice_get parts.requests c ≡ Some entry → HasTasks (network_of parts) actor (front ++ task ∷ rest) → Names entry.request task → entry.caller ≡ actor
owner-is parts c entry actor front task rest plan found tasks names =
    let owned = owned-by parts c entry plan found in
    same-actor entry.caller actor (elim (cases_eq (actor_number entry.caller) (actor_number actor)) [
      | inl same ↦ same
      | inr other ↦ absurd (named-off entry.request task names (each-middle (TaskOff (channel_number entry.request.chan)) front task rest (owned.others (actor_number actor) (front ++ task ∷ rest) (λ is. other (sym is)) tasks.found)))
    ])

pub full-script : (parts : PlanParts) (c : ℕ) (entry : RequestEntry) (actor : ActorNo) (front : List Task) (task : Task) (rest : List Task) → IsPlan parts → slice_get parts.requests c ≡ Some entry → HasTasks (network_of parts) actor (front ++ task ∷ rest) → Names entry.request task → FullScript entry.request (front ++ task ∷ rest)
full-script parts c entry actor front task rest plan found tasks names =
    (owned-by parts c entry plan found).own (front ++ task ∷ rest) (ap (λ a. slice_get (network_of parts).scripts (actor_number a)) (owner-is parts c entry actor front task rest plan found tasks names) ∙ tasks.found)

is-owner : (parts : PlanParts) (links : List Link) (owners : List ActorNo) (c : ℕ) (entry : RequestEntry) (actor : ActorNo) → IsPlan parts → IsNetworkOf parts links owners → slice_get parts.requests c ≡ Some entry → entry.caller ≡ actor → IsOwner owners actor entry.request.chan
is-owner parts links owners c entry actor plan network found same =
    ap (λ os. slice_get os (channel_number entry.request.chan)) network.owners_are ∙ ap (slice_get (map caller_of parts.requests)) (plan.planned.requests c entry found) ∙ slice_get-map caller_of parts.requests c ∙ ap (option_map caller_of) found ∙ ap Some same

-- the hops of a request are over links of the network
pub hops-of : (parts : PlanParts) (links : List Link) (owners : List ActorNo) (c : ℕ) (entry : RequestEntry) → IsPlan parts → IsNetworkOf parts links owners → slice_get parts.requests c ≡ Some entry → Each (IsHopOf links) entry.request.route
unfolding network_of
hops-of parts links owners c entry plan network found =
    subst (λ ls. Each (IsHopOf ls) entry.request.route) (sym network.links_are)
    (request-fits parts c entry plan found).hops

pub owner-at : (parts : PlanParts) (links : List Link) (owners : List ActorNo) (caller place c : ℕ) (entry : RequestEntry) (task : Task) (pass : Token) (channels : List Channel) → IsPlan parts → IsNetworkOf parts links owners → HereAt parts caller place task pass channels → slice_get parts.requests c ≡ Some entry → Names entry.request task → IsOwner owners pass.actor entry.request.chan
owner-at parts links owners caller place c entry task pass channels plan network h found names =
    is-owner parts links owners c entry pass.actor plan network found (owner-is parts c entry pass.actor h.front task h.rest plan found h.tasks names)

-- ---- what fits

pub task-fits : (parts : PlanParts) (caller place : ℕ) (task : Task) (pass : Token) (channels : List Channel) → IsPlan parts → HereAt parts caller place task pass channels → TaskFits (network_of parts).links task
task-fits parts caller place task pass channels plan h =
    each-middle (TaskFits (network_of parts).links) h.front task h.rest (Each-at (Each (TaskFits (network_of parts).links)) (network_of parts).scripts (actor_number pass.actor) (h.front ++ task ∷ h.rest) (plan-fits parts plan).tasks h.tasks.found)

-- ---- what is kept of a channel

-- it is established, or not, as was learnt
pub established-told : (network : Network) (front rest : List Task) (pass : Token) (channels : List Channel) (chan : ChanNo) (told : Bool) → (between : StandsBetween network front rest pass channels) → (channel_in channels chan).established ≡ told → is_established chan between.outcomes ≡ told
established-told network front rest pass channels chan told between is = sym (ap (λ (t : Told). t.established) (between.known chan)) ∙ is

-- as it was looked up
pub looked-on : (channels : List Channel) (chan : ChanNo) (kept : Channel) → kept ≡ channel_in channels chan → not kept.established ≡ false → (channel_in channels chan).established ≡ true
looked-on channels chan kept is on = sym (ap (λ (c : Channel). c.established) is) ∙ by kept.established on where
  by : (b : Bool) → not b ≡ false → b ≡ true
  by true same = refl
  by false same = cc

pub looked-off : (channels : List Channel) (chan : ChanNo) (kept : Channel) → kept ≡ channel_in channels chan → not kept.established ≡ true → (channel_in channels chan).established ≡ false
looked-off channels chan kept is off = sym (ap (λ (c : Channel). c.established) is) ∙ not-true kept.established off

-- each request's channel is kept
pub kept-inside : (parts : PlanParts) (caller place c : ℕ) (entry : RequestEntry) (pass : Token) (channels : List Channel) → IsPlan parts → CallerIsAt parts caller place pass channels → slice_get parts.requests c ≡ Some entry → channel_number entry.request.chan < length channels
kept-inside parts caller place c entry pass channels plan at found = (let low = slice_get_within parts.requests c entry found in let all = at.all in let number = plan.planned.requests c entry found in omega (arith, low, all, number))

-- the requests of a plan stand in the order of their channels' numbers
pub ordered : (parts : PlanParts) → IsPlan parts → (n : ℕ) (request : Request) → slice_get (network_of parts).requests n ≡ Some request → channel_number request.chan ≡ n
unfolding network_of
ordered parts plan n request found = by (slice_get parts.requests n) refl (sym (slice_get-map request_of parts.requests n) ∙ found) where
  by : (there : Option RequestEntry) → slice_get parts.requests n ≡ there → option_map request_of there ≡ Some request → channel_number request.chan ≡ n
  by None at is = absurd (let clash : None ≡ Some request = is in cc)
  by (Some entry) at is = subst (λ (r : Request). channel_number r.chan ≡ n) (same_Some (request_of entry) request is) (plan.planned.requests n entry at)

pub there-at : (parts : PlanParts) (c : ℕ) (entry : RequestEntry) → IsPlan parts → slice_get parts.requests c ≡ Some entry → slice_get (network_of parts).requests (channel_number entry.request.chan) ≡ Some entry.request
unfolding network_of
there-at parts c entry plan found = ap (slice_get (map request_of parts.requests)) (plan.planned.requests c entry found) ∙ slice_get-map request_of parts.requests c ∙ ap (option_map request_of) found

-- ---- one entry

pub record IsOne (entries : List OwnEntry) (one : Asked) : Type 0 where
  pub entry : OwnEntry
  pub are : entries ≡ entry ∷ []
  pub is : asked_in entry ≡ one

one-entry : (entries : List OwnEntry) (one : Asked) → map asked_in entries ≡ one ∷ [] → IsOne entries one
one-entry [] one same = cc
one-entry (e ∷ []) one same = record { entry = e; are = refl; is = first e one same } where
  first : (e : OwnEntry) (one : Asked) → asked_in e ∷ [] ≡ one ∷ [] → asked_in e ≡ one
  first e one same = cc
one-entry (e ∷ f ∷ entries) one same = absurd (let long = ap length same in omega (arith, long))

-- it follows where the task asks this first
pub one-follows : (next : List Reply → Option (LinkNo × Ask)) (entries : List OwnEntry) (one : Asked) → map asked_in entries ≡ one ∷ [] → next [] ≡ Some (one.link, one.ask) → Follows next [] entries
unfolding Follows
one-follows next entries one same asks =
    let it = one-entry entries one same in
    let link : it.entry.link ≡ one.link = ap (λ (a : Asked). a.link) it.is in
    let ask : it.entry.ask ≡ one.ask = ap (λ (a : Asked). a.ask) it.is in
    subst (Follows next []) (sym it.are) ((asks ∙ ap (λ l. Some (l, one.ask)) (sym link) ∙ ap (λ a. Some (it.entry.link, a)) (sym ask)), tt)

pub one-some : (entries : List OwnEntry) (one : Asked) → map asked_in entries ≡ one ∷ [] → entries ≡ [] → ⊥
one-some entries one same none = (let clash : map asked_in [] ≡ one ∷ [] = ap (map asked_in) (sym none) ∙ same in cc)

pub one-reply : (entries : List OwnEntry) (one : Asked) → map asked_in entries ≡ one ∷ [] → map reply_in entries ≡ one.reply ∷ []
one-reply entries one same =
    let it = one-entry entries one same in
    ap (map reply_in) it.are ∙ ap (λ (a : Asked). a.reply ∷ []) it.is
