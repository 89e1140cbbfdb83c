-- A caller between two operations goes on over one task: one that takes no step, and one that is made.
use Rattle.std.proofs.Common.{◌≡◌, ℕ, ◌+◌, true, false, List, [], ◌∷◌, ◌++◌, map, reverse, take, drop, length, Option, Some, None, refl, sym, ap, ◌∙◌, subst, arith}
use Rattle.std.proofs.lemmas.Bool.{ne_eqb}
use Rattle.std.proofs.lemmas.List.{append_assoc, append-nil, length-map, take-append-drop}
use Rattle.std.proofs.lemmas.Option.{same_Some, slice_get-map, slice_get_within}
use Rattle.std.specs.List.{slice_get}
use Rattle.std.specs.Prelude.{option_map}
use Rattle.net_units.specs.Numbers.{actor_number, channel_number}
use Rattle.net_units.specs.declared.numbers.ChanNo.{ChanNo}
use Rattle.link_steps.specs.Lists.{Each}
use Rattle.step_stamp.specs.Lists.{Has}
use Rattle.setup_protocol.specs.declared.request.Request.{Request}
use Rattle.link_ledger.specs.Tokens.{Token}
use Rattle.link_ledger.specs.declared.entries.OwnEntry.{OwnEntry}
use Rattle.shared_network.specs.Calls.{HasNone, IsEstablished, Follows, reply_in}
use Rattle.call_script.specs.Owners.{TaskOff}
use Rattle.call_script.specs.Parts.{PlanParts}
use Rattle.call_script.specs.Scripts.{Learnt, begun, from_step, is_established, outcome_by, standing, takes_step, ready, task_ask}
use Rattle.call_script.specs.Standing.{requests_of}
use Rattle.call_script.specs.Tasks.{Network, network_of, script_of, task_of, tasks_of, with_task}
use Rattle.call_script.specs.declared.entries.CallerEntry.{CallerEntry}
use Rattle.call_script.specs.declared.operations.Op.{Op}
use Rattle.call_script.specs.declared.tasks.Task.{Task}
use Rattle.call_script.specs.declared.tasks.Task.TheVariants.{Opens}
use Rattle.call_script.proofs.Walks.{left-at, before-at, read-at}
use Rattle.race_run.specs.Callers.{StandsBetween, CallerIsAt, HasOp, LeavesOpen, PacketsStand}
use Rattle.call_script.specs.Channels.{AreTold}
use Rattle.call_script.specs.declared.channels.Channel.{Channel}
use Rattle.race_run.proofs.Operations.PacketsLearnt.{packets-skip}
use Rattle.race_run.proofs.Operations.ChannelsInScript.{each-front, has-front}
use Rattle.race_run.proofs.Operations.TaskEntries.{HasTasks, Past, task-made}

-- ---- a script at a place

with-append : (task : Option Task) (xs ys : List Task) → with_task task (xs ++ ys) ≡ with_task task xs ++ ys
with-append None xs ys = refl
with-append (Some task) xs ys = refl

tasks-append : (requests : List Request) (xs ys : List Op) → tasks_of requests (xs ++ ys) ≡ tasks_of requests xs ++ tasks_of requests ys
unfolding tasks_of
tasks-append requests [] ys = refl
tasks-append requests (op ∷ xs) ys = ap (with_task (task_of requests op)) (tasks-append requests xs ys) ∙ with-append (task_of requests op) (tasks_of requests xs) (tasks_of requests ys)

tasks-one : (requests : List Request) (op : Op) (ops : List Op) → tasks_of requests (op ∷ ops) ≡ with_task (task_of requests op) (tasks_of requests ops)
unfolding tasks_of
tasks-one requests op ops = refl

pub tasks-none : (requests : List Request) → tasks_of requests [] ≡ []
unfolding tasks_of
tasks-none requests = refl

-- the tasks of a caller at a place of its script
pub caller-tasks : (parts : PlanParts) (caller place : ℕ) (pass : Token) (channels : List Channel) (at : CallerIsAt parts caller place pass channels)
    → HasTasks (network_of parts) pass.actor (tasks_of (requests_of parts) (take place at.entry.ops) ++ tasks_of (requests_of parts) (drop place at.entry.ops))
unfolding network_of
caller-tasks parts caller place pass channels at =
    let requests = requests_of parts in
    let entry = at.entry in
    let all : tasks_of requests (take place entry.ops) ++ tasks_of requests (drop place entry.ops) ≡ tasks_of requests entry.ops = sym (tasks-append requests (take place entry.ops) (drop place entry.ops)) ∙ ap (tasks_of requests) (take-append-drop place entry.ops) in
    record {
      caller = ne_eqb (actor_number pass.actor) (length (map (script_of requests) parts.callers)) (λ clash. absurd (let low = slice_get_within parts.callers caller entry at.found in let number = at.is in let count = length-map parts.callers (script_of requests) in omega (arith, low, number, count, clash)));
      found = ap (slice_get (map (script_of requests) parts.callers)) at.is ∙ slice_get-map (script_of requests) parts.callers caller ∙ ap (option_map (script_of requests)) at.found ∙ ap Some (sym all);
    }

-- the caller before an operation: what its script has before and after it, and that it goes on after it
pub record Here (parts : PlanParts) (caller place : ℕ) (op : Op) (pass : Token) (channels : List Channel) : Type 0 where
  pub front : List Task
  pub rest : List Task
  pub tasks : HasTasks (network_of parts) pass.actor (front ++ with_task (task_of (requests_of parts) op) rest)
  pub between : StandsBetween (network_of parts) front (with_task (task_of (requests_of parts) op) rest) pass channels
  pub next : (pass' : Token) (channels' : List Channel) → pass'.actor ≡ pass.actor → length channels' ≡ length channels → StandsBetween (network_of parts) (front ++ with_task (task_of (requests_of parts) op) []) rest pass' channels' → CallerIsAt parts caller (place + 1) pass' channels'

pub here : (parts : PlanParts) (caller place : ℕ) (op : Op) (pass : Token) (channels : List Channel) → CallerIsAt parts caller place pass channels → HasOp parts caller place op → Here parts caller place op pass channels
unfolding network_of
here parts caller place op pass channels at has =
    let requests = requests_of parts in
    let entry = at.entry in
    let same : has.entry ≡ entry = same_Some has.entry entry (sym has.found ∙ at.found) in
    let op_at : slice_get entry.ops place ≡ Some op = ap (λ (e : CallerEntry). slice_get e.ops place) (sym same) ∙ has.here in
    let inside = slice_get_within entry.ops place op op_at in
    let is = read-at entry.ops place op op_at in
    let task = task_of requests op in
    let after : tasks_of requests (drop place entry.ops) ≡ with_task task (tasks_of requests (drop (place + 1) entry.ops)) = ap (tasks_of requests) (left-at entry.ops place op inside is) ∙ tasks-one requests op (drop (place + 1) entry.ops) in
    let before : tasks_of requests (take (place + 1) entry.ops) ≡ tasks_of requests (take place entry.ops) ++ with_task task [] = ap (tasks_of requests) (before-at entry.ops place op inside is) ∙ tasks-append requests (take place entry.ops) (op ∷ []) ∙ ap (λ ts. tasks_of requests (take place entry.ops) ++ ts) (tasks-one requests op [] ∙ ap (with_task task) (tasks-none requests)) in
    record {
      front = tasks_of requests (take place entry.ops);
      rest = tasks_of requests (drop (place + 1) entry.ops);
      tasks = subst (λ ts. HasTasks (network_of parts) pass.actor (tasks_of requests (take place entry.ops) ++ ts)) after (caller-tasks parts caller place pass channels at);
      between = subst (λ rest. StandsBetween (network_of parts) (tasks_of requests (take place entry.ops)) rest pass channels) after at.between;
      next = λ pass' channels' by long between. record {
        entry = entry;
        found = at.found;
        is = ap actor_number by ∙ at.is;
        all = long ∙ at.all;
        between = subst (λ front. StandsBetween (network_of parts) front (tasks_of requests (drop (place + 1) entry.ops)) pass' channels') (sym before) between;
      };
    }

-- ---- over no task, and over one that takes no step

pub between-none : (network : Network) (front rest : List Task) (pass : Token) (channels : List Channel) → StandsBetween network front rest pass channels → StandsBetween network (front ++ []) rest pass channels
between-none network front rest pass channels between = subst (λ ts. StandsBetween network ts rest pass channels) (sym (append-nil front)) between

begun-over : (outcomes : List Learnt) (task : Task) (rest : List Task) → takes_step outcomes task ≡ false → begun outcomes (task ∷ rest) ≡ begun outcomes rest
unfolding from_step
begun-over outcomes task rest passes = rw passes refl

begun-at : (outcomes : List Learnt) (task : Task) (rest : List Task) → takes_step outcomes task ≡ true → begun outcomes (task ∷ rest) ≡ record { tasks = ready outcomes task ∷ rest; replies = []; outcomes = outcomes }
unfolding from_step
begun-at outcomes task rest takes = rw takes refl

pub between-skipped : (network : Network) (front : List Task) (task : Task) (rest : List Task) (pass : Token) (channels : List Channel) (between : StandsBetween network front (task ∷ rest) pass channels) → takes_step between.outcomes task ≡ false → ((request : Request) → task ≡ Opens request → ⊥) → StandsBetween network (front ++ task ∷ []) rest pass channels
between-skipped network front task rest pass channels between passes apart = record {
  outcomes = between.outcomes;
  asked = between.asked;
  stands = ap (λ ts. standing ts (reverse (map reply_in pass.own))) (append_assoc front (task ∷ []) rest) ∙ between.stands ∙ begun-over between.outcomes task rest passes;
  known = between.known;
  fresh = λ chan each. between.fresh chan (each-front _ front task each).0;
  live = λ request has each is. between.live request (has-front (Opens request) front task has (apart request)) (each-front _ front task each).0 is;
  packets = packets-skip network.requests front task pass.own between.outcomes between.packets;
}

-- ---- over one that is made

-- what a task that is made leaves of the rest
pub record Leaves (requests : List Request) (front : List Task) (task : Task) (pass pass' : Token) (outcomes : List Learnt) (channels : List Channel) : Type 0 where
  pub known : AreTold channels outcomes
  pub fresh : (chan : ChanNo) → TaskOff (channel_number chan) task → HasNone chan pass.own → HasNone chan pass'.own
  pub live : (request : Request) → Has (Opens request) (front ++ task ∷ []) → Each (LeavesOpen (channel_number request.chan)) (front ++ task ∷ []) → is_established request.chan outcomes ≡ true → IsEstablished request pass'.own
  pub packets : PacketsStand requests (front ++ task ∷ []) pass'.own outcomes

pub between-made : (network : Network) (front : List Task) (task own : Task) (rest : List Task) (pass pass' : Token) (channels channels' : List Channel) (entries : List OwnEntry) (between : StandsBetween network front (task ∷ rest) pass channels) → HasTasks network pass.actor (front ++ task ∷ rest) → pass'.actor ≡ pass.actor → pass'.own ≡ pass.own ++ entries
    → takes_step between.outcomes task ≡ true → ready between.outcomes task ≡ own → Follows (task_ask own) [] entries → task_ask own (map reply_in entries) ≡ None → (entries ≡ [] → ⊥) → Leaves network.requests front task pass pass' (outcome_by own (map reply_in entries) ++ between.outcomes) channels' → StandsBetween network (front ++ task ∷ []) rest pass' channels'
between-made network front task own rest pass pass' channels channels' [] between tasks by added takes begins follows none some leaves = absurd (some refl)
between-made network front task own rest pass pass' channels channels' (e ∷ left) between tasks by added takes begins follows none some leaves =
    let past : Past network (front ++ task ∷ rest) pass.actor pass.own (record { tasks = own ∷ rest; replies = []; outcomes = between.outcomes }) = record { asked = between.asked; stands = between.stands ∙ begun-at between.outcomes task rest takes ∙ ap (λ t. record { tasks = t ∷ rest; replies = []; outcomes = between.outcomes }) begins } in
    let made = task-made network pass.actor (front ++ task ∷ rest) between.outcomes own rest pass.own [] e left pass'.own (map reply_in (e ∷ left)) tasks past follows added refl none in
    let mine = subst (λ a. Past network (front ++ task ∷ rest) a pass'.own (begun (outcome_by own (map reply_in (e ∷ left)) ++ between.outcomes) rest)) (sym by) made in
    record {
      outcomes = outcome_by own (map reply_in (e ∷ left)) ++ between.outcomes;
      asked = mine.asked;
      stands = ap (λ ts. standing ts (reverse (map reply_in pass'.own))) (append_assoc front (task ∷ []) rest) ∙ mine.stands;
      known = leaves.known;
      fresh = λ chan each. (let both = each-front _ front task each in leaves.fresh chan both.1 (between.fresh chan both.0));
      live = leaves.live;
      packets = leaves.packets;
    }
