-- Each channel of a plan has one owner: one caller opens its request, may move packets onto it, sends on it, and then may close
-- it or move packets from it; and no other caller names it.
use Rattle.std.proofs.Common.{◌≡◌, ◌≢◌, ℕ, suc, ◌<◌, ◌⊎◌, Bool, true, false, not, Option, Some, None, List, [], ◌∷◌, ◌++◌, map, refl, sym, ap, ◌∙◌, subst, inl, inr, nat_eq, option_map, arith}
use Rattle.std.proofs.lemmas.Bool.{eqb-false, eq-eqb, ne_eqb, and_parts}
use Rattle.std.proofs.lemmas.List.{append_assoc, length-map}
use Rattle.std.proofs.lemmas.List.Folds.{list_any-append}
use Rattle.std.proofs.lemmas.Option.{slice_get-map, same_Some}
use Rattle.std.specs.List.{list_all, list_any, slice_get}
use Rattle.std.specs.Prelude.{◌||◌}
use Rattle.net_units.specs.Numbers.{actor_number, channel_number}
use Rattle.net_units.specs.declared.numbers.ChanNo.{ChanNo}
use Rattle.net_units.proofs.ByCases.{no-both}
use Rattle.hop_reservation.specs.declared.route.Hop.{Hop}
use Rattle.link_steps.specs.Lists.{Each}
use Rattle.setup_protocol.specs.declared.request.Request.{Request}
use Rattle.call_script.specs.Operations.{attributes_of}
use Rattle.call_script.specs.Owners.{TaskOff, IsSendOn, IsMoveFrom, IsMoveOnto, ClosesOnce, SendsOnce, UsedOnce, FullScript, OwnedFully, IsOwned, IsUnnamed, AllOwned}
use Rattle.call_script.specs.Parts.{PlanParts, opening_by, openings_in, ArePlanned}
use Rattle.call_script.specs.Plans.{IsPlan}
use Rattle.call_script.specs.Rules.{each_after, named, hits, is_in, is_after, is_apart, may_move, fits_between, move_is_fit}
use Rattle.call_script.specs.Tasks.{request_of, send_on, task_for, move_for, task_of, with_task, tasks_of, script_of, network_of}
use Rattle.call_script.specs.declared.entries.CallerEntry.{CallerEntry}
use Rattle.call_script.specs.declared.entries.LinkEntry.{LinkEntry}
use Rattle.call_script.specs.declared.entries.RequestEntry.{RequestEntry}
use Rattle.call_script.specs.declared.operations.Op.{Op}
use Rattle.call_script.specs.declared.roles.Role.{Role}
use Rattle.call_script.specs.declared.roles.Role.TheVariants as role
use Rattle.call_script.specs.declared.tasks.Task.{Task}
use Rattle.call_script.specs.declared.tasks.Task.TheVariants.{Opens, Sends, Closes, Moves}
use Rattle.link_steps.proofs.ListParts.{Each-at, comes-from}
use Rattle.call_script.proofs.PlansFit.{request-fits}
use Rattle.call_script.proofs.OperationTable.{ChannelIf, TaskIf, with-task, AreInOrder, OpOff, task-off, AreApart, IsApartMove, IsTo, OpIs, IsOff, Opening, Sending, Closing, Leaving, Joining, op-is}
use Rattle.call_script.proofs.OpeningsInOrder.{OpeningsAreNumbered, caller-numbered, IsOpenedBy, opened-has, owner-inside}
use Rattle.call_script.proofs.RulesAreKept.{not-true, each-of, keeps-rules, used-in, unclosed-in, moves-in}
use Rattle.std.proofs.Math.Bool.{or-true}

-- ---- weaker scripts

-- where a request was left by a move, its closing alone is left; and where it may be moved onto, it may be sent on
pub closes-sends : (request : Request) (tasks : List Task) → ClosesOnce request tasks → SendsOnce request tasks
closes-sends request [] closes = tt
closes-sends request (task ∷ tasks) (inl off) = inl (off.0, closes-sends request tasks off.1)
closes-sends request (task ∷ tasks) (inr own) = inr (inr (inl own))

pub sends-used : (request : Request) (tasks : List Task) → SendsOnce request tasks → UsedOnce request tasks
sends-used request [] sends = tt
sends-used request (task ∷ tasks) (inl off) = inl (off.0, sends-used request tasks off.1)
sends-used request (task ∷ tasks) (inr own) = inr (inr own)

-- ---- what an operation says of those above

pub twice-not : (b : Bool) → not (not b) ≡ true → b ≡ true
twice-not true holds = refl
twice-not false holds = cc

-- a channel to which it is `asks` is one to which one above is `adds`
pub after-has : (asks adds : Role) (above : List Op) (op : Op) (c : ℕ) → named asks op ≡ Some c → is_after asks adds above op ≡ true
    → list_any (is_in adds c) above ≡ true
after-has asks adds above op c is after = twice-not (list_any (is_in adds c) above) (rw is at after)

-- or none is
pub apart-none : (asks adds : Role) (above : List Op) (op : Op) (c : ℕ) → named asks op ≡ Some c → is_apart asks adds above op ≡ true
    → list_any (is_in adds c) above ≡ false
apart-none asks adds above op c is apart = not-true (list_any (is_in adds c) above) (rw is at apart)

-- one operation more
any-end : (test : Op → Bool) (above : List Op) (op : Op) → list_any test (above ++ op ∷ []) ≡ (list_any test above || (test op || false))
any-end test above op = list_any-append test above (op ∷ [])

pub any-later : (test : Op → Bool) (above rest : List Op) → list_any test above ≡ true → list_any test (above ++ rest) ≡ true
any-later test above rest any = list_any-append test above rest ∙ ap (λ b. b || list_any test rest) any

any-here : (test : Op → Bool) (above : List Op) (op : Op) (rest : List Op) → test op ≡ true → list_any test (above ++ op ∷ rest) ≡ true
any-here test above op rest holds = list_any-append test above (op ∷ rest) ∙ ap (λ b. list_any test above || (b || list_any test rest)) holds ∙ or-true (list_any test above)

-- it is this to its channel
in-own : (role : Role) (c : ℕ) (op : Op) → named role op ≡ Some c → is_in role c op ≡ true
in-own role c op is = rw is (eq-eqb c c refl)

pub now-has : (role : Role) (c : ℕ) (above : List Op) (op : Op) → named role op ≡ Some c → list_any (is_in role c) (above ++ op ∷ []) ≡ true
now-has role c above op is = any-here (is_in role c) above op [] (in-own role c op is)

-- ---- what a script keeps

-- an operation keeps the rules, after those above
record OpKeeps (above : List Op) (op : Op) : Type 0 where
  opened : is_after role.Uses role.Opens above op ≡ true
  onto_opened : is_after role.Joins role.Opens above op ≡ true
  unclosed : is_apart role.Uses role.Closes above op ≡ true
  unleft : is_apart role.Keeps role.Leaves above op ≡ true
  unused : is_apart role.Joins role.Uses above op ≡ true
  unjoined : is_apart role.Joins role.Joins above op ≡ true
  apart : IsApartMove op

-- so do the operations from here on
record KeepsOrder (above ops : List Op) : Type 0 where
  opened : each_after (is_after role.Uses role.Opens) above ops ≡ true
  onto_opened : each_after (is_after role.Joins role.Opens) above ops ≡ true
  unclosed : each_after (is_apart role.Uses role.Closes) above ops ≡ true
  unleft : each_after (is_apart role.Keeps role.Leaves) above ops ≡ true
  unused : each_after (is_apart role.Joins role.Uses) above ops ≡ true
  unjoined : each_after (is_apart role.Joins role.Joins) above ops ≡ true
  apart : Each IsApartMove ops

-- the first one does, and those after it
each-first : (test : List Op → Op → Bool) (above : List Op) (op : Op) (ops : List Op) → each_after test above (op ∷ ops) ≡ true
    → (test above op ≡ true) × (each_after test (above ++ op ∷ []) ops ≡ true)
unfolding each_after
each-first test above op ops each = and_parts (test above op) (each_after test (above ++ op ∷ []) ops) each

order-first : (above : List Op) (op : Op) (ops : List Op) → KeepsOrder above (op ∷ ops) → OpKeeps above op
order-first above op ops keeps = record {
  opened = (each-first (is_after role.Uses role.Opens) above op ops keeps.opened).0;
  onto_opened = (each-first (is_after role.Joins role.Opens) above op ops keeps.onto_opened).0;
  unclosed = (each-first (is_apart role.Uses role.Closes) above op ops keeps.unclosed).0;
  unleft = (each-first (is_apart role.Keeps role.Leaves) above op ops keeps.unleft).0;
  unused = (each-first (is_apart role.Joins role.Uses) above op ops keeps.unused).0;
  unjoined = (each-first (is_apart role.Joins role.Joins) above op ops keeps.unjoined).0;
  apart = keeps.apart.0;
}

order-rest : (above : List Op) (op : Op) (ops : List Op) → KeepsOrder above (op ∷ ops) → KeepsOrder (above ++ op ∷ []) ops
order-rest above op ops keeps = record {
  opened = (each-first (is_after role.Uses role.Opens) above op ops keeps.opened).1;
  onto_opened = (each-first (is_after role.Joins role.Opens) above op ops keeps.onto_opened).1;
  unclosed = (each-first (is_apart role.Uses role.Closes) above op ops keeps.unclosed).1;
  unleft = (each-first (is_apart role.Keeps role.Leaves) above op ops keeps.unleft).1;
  unused = (each-first (is_apart role.Joins role.Uses) above op ops keeps.unused).1;
  unjoined = (each-first (is_apart role.Joins role.Joins) above op ops keeps.unjoined).1;
  apart = keeps.apart.1;
}

-- ---- other callers

each-off : (c : ℕ) (task : Option Task) (tasks : List Task) → TaskIf (TaskOff c) task → Each (TaskOff c) tasks
    → Each (TaskOff c) (with_task task tasks)
each-off c task tasks off each = with-task (TaskOff c) (Each (TaskOff c)) task tasks off (λ own one. (one, each)) each

-- a script whose channels are all others names another channel in each operation
ops-off : (c : ℕ) (requests : List Request) (above ops : List Op) → AreInOrder requests → KeepsOrder above ops
    → ((chan : ℕ) → list_any (is_in role.Opens chan) (above ++ ops) ≡ true → chan ≢ c) → Each (TaskOff c) (tasks_of requests ops)
unfolding tasks_of
ops-off c requests above [] ordered keeps others = tt
ops-off c requests above (op ∷ ops) ordered keeps others =
    each-off c (task_of requests op) (tasks_of requests ops) (task-off c requests op ordered (off (op-is c op keeps.apart.0)))
    (ops-off c requests (above ++ op ∷ []) ops ordered (order-rest above op ops keeps) (λ chan any. others chan (subst (λ os. list_any (is_in role.Opens chan) os ≡ true) (append_assoc above (op ∷ []) ops) any))) where
      first : OpKeeps above op
      first = order-first above op ops keeps

      opened-above : list_any (is_in role.Opens c) above ≡ true → ⊥
      opened-above any = others c (any-later (is_in role.Opens c) above (op ∷ ops) any) refl

      used : named role.Uses op ≡ Some c → ⊥
      used is = opened-above (after-has role.Uses role.Opens above op c is first.opened)

      off : OpIs c op → OpOff c op
      off (IsOff other) = other
      off (Opening opens task) = absurd (others c (any-here (is_in role.Opens c) above op ops (in-own role.Opens c op opens)) refl)
      off (Sending count gap size uses kept task) = absurd (used uses)
      off (Closing uses closes task) = absurd (used uses)
      off (Leaving n other uses kept leaves task) = absurd (used uses)
      off (Joining o other joins task) = absurd (opened-above (after-has role.Joins role.Opens above op c joins first.onto_opened))

-- ---- the owner

-- what the requests of a script are: each has the number of its place, and one is the owner's
record IsAt (requests : List Request) (request : Request) : Type 0 where
  ordered : AreInOrder requests
  found : slice_get requests (channel_number request.chan) ≡ Some request

abbrev number_of : Request → ℕ
number_of request = channel_number request.chan

-- a task of that request
own-task : (requests : List Request) (request : Request) (own : Request → Task) → IsAt requests request
    → option_map own (slice_get requests (number_of request)) ≡ Some (own request)
own-task requests request own at = ap (option_map own) at.found

-- a send on that request is one at the first hop of its route, if that is there
own-send : (P : Request → List Task → Type 0) (requests : List Request) (request : Request) (count gap size : ℕ) (tasks : List Task)
    → IsAt requests request → P request tasks → ((task : Task) → IsSendOn request task → P request (task ∷ tasks))
    → P request (with_task (task_for (send_on count gap size) (slice_get requests (number_of request))) tasks)
own-send P requests request count gap size tasks at rest sent =
    subst (λ found. P request (with_task (task_for (send_on count gap size) found) tasks)) (sym at.found) (by (slice_get request.route 0) refl) where
      by : (hop : Option Hop) → slice_get request.route 0 ≡ hop → P request (with_task (option_map (λ (h : Hop). Sends h.link (Some request.chan) count gap size) hop) tasks)
      by None is = rest
      by (Some hop) is = sent (Sends hop.link (Some request.chan) count gap size) (record { hop = hop; count = count; gap = gap; size = size; stands = is; is = refl })

-- a move from that request
own-from : (P : Request → List Task → Type 0) (requests : List Request) (request : Request) (n : ℕ) (tasks : List Task)
    → IsAt requests request → n ≢ number_of request → P request tasks → ((task : Task) → IsMoveFrom request task → P request (task ∷ tasks))
    → P request (with_task (move_for (slice_get requests (number_of request)) (slice_get requests n)) tasks)
own-from P requests request n tasks at other rest moved =
    subst (λ found. P request (with_task (move_for found (slice_get requests n)) tasks)) (sym at.found) (by (slice_get requests n) refl) where
      by : (new : Option Request) → slice_get requests n ≡ new → P request (with_task (move_for (Some request) new) tasks)
      by None is = rest
      by (Some new) is = moved (Moves request new 1 1) (record { new = new; gap = 1; size = 1; is = refl; other = λ also. other (sym (at.ordered n new is) ∙ also) })

-- and one onto it
own-onto : (P : Request → List Task → Type 0) (requests : List Request) (request : Request) (o : ℕ) (tasks : List Task)
    → IsAt requests request → o ≢ number_of request → P request tasks → ((task : Task) → IsMoveOnto request task → P request (task ∷ tasks))
    → P request (with_task (move_for (slice_get requests o) (slice_get requests (number_of request))) tasks)
own-onto P requests request o tasks at other rest moved =
    subst (λ found. P request (with_task (move_for (slice_get requests o) found) tasks)) (sym at.found) (by (slice_get requests o) refl) where
      by : (old : Option Request) → slice_get requests o ≡ old → P request (with_task (move_for old (Some request)) tasks)
      by None is = rest
      by (Some old) is = moved (Moves old request 1 1) (record { old = old; gap = 1; size = 1; is = refl; other = λ also. other (sym (at.ordered o old is) ∙ also) })

-- ---- the operations of the owner

-- an operation opens another channel, or none
abbrev OpenOff : ℕ → Op → Type 0
OpenOff c op = ChannelIf (λ n. n ≢ c) (attributes_of op).opens

opens-off : (c : ℕ) (op : Op) → OpenOff c op → IsTo role.Opens c op → ⊥
opens-off c op off is = by (attributes_of op).opens off is where
  by : (opens : Option ChanNo) → ChannelIf (λ n. n ≢ c) opens → option_map channel_number opens ≡ Some c → ⊥
  by None other same = (let clash' : None ≡ Some c = same in cc)
  by (Some chan) other same = other (same_Some (channel_number chan) c same)

numbered-off : (n c m : ℕ) (ops : List Op) → c < m → OpeningsAreNumbered m (openings_in n ops) → Each (OpenOff c) ops
unfolding openings_in
numbered-off n c m [] below are = tt
numbered-off n c m (op ∷ ops) below are = by (attributes_of op).opens are (λ from less. numbered-off n c from ops less) where
  by : (opens : Option ChanNo) → OpeningsAreNumbered m (opening_by n opens ++ openings_in n ops) → ((from : ℕ) → c < from → OpeningsAreNumbered from (openings_in n ops) → Each (OpenOff c) ops) → ChannelIf (λ n. n ≢ c) opens × Each (OpenOff c) ops
  by None own rest = (tt, rest m below own)
  by (Some chan) own rest = (let number : channel_number chan ≡ m = own.0 in (λ same. absurd (omega (arith, number, same, below)), rest (suc m) (omega (arith, below)) own.1))

-- once the channel is closed, no operation names it
closed-off : (c : ℕ) (requests : List Request) (above ops : List Op) → AreInOrder requests → Each (OpenOff c) ops
    → list_any (is_in role.Closes c) above ≡ true → list_any (is_in role.Uses c) above ≡ true → KeepsOrder above ops
    → Each (TaskOff c) (tasks_of requests ops)
unfolding tasks_of
closed-off c requests above [] ordered unopened closed used keeps = tt
closed-off c requests above (op ∷ ops) ordered unopened closed used keeps =
    each-off c (task_of requests op) (tasks_of requests ops) (task-off c requests op ordered (off (op-is c op keeps.apart.0)))
    (closed-off c requests (above ++ op ∷ []) ops ordered unopened.1 (any-later (is_in role.Closes c) above (op ∷ []) closed) (any-later (is_in role.Uses c) above (op ∷ []) used) (order-rest above op ops keeps)) where
      first : OpKeeps above op
      first = order-first above op ops keeps

      uses-not : IsTo role.Uses c op → ⊥
      uses-not is = no-both (list_any (is_in role.Closes c) above) closed (apart-none role.Uses role.Closes above op c is first.unclosed)

      off : OpIs c op → OpOff c op
      off (IsOff other) = other
      off (Opening opens task) = absurd (opens-off c op unopened.0 opens)
      off (Sending count gap size uses kept task) = absurd (uses-not uses)
      off (Closing uses closes task) = absurd (uses-not uses)
      off (Leaving n other uses kept leaves task) = absurd (uses-not uses)
      off (Joining o other joins task) = absurd (no-both (list_any (is_in role.Uses c) above) used (apart-none role.Joins role.Uses above op c joins first.unused))

-- a closing of the request, after which no operation names it
own-close : (requests : List Request) (request : Request) (above ops : List Op) (op : Op) → IsAt requests request
    → Each (OpenOff (number_of request)) ops → IsTo role.Uses (number_of request) op → IsTo role.Closes (number_of request) op
    → KeepsOrder (above ++ op ∷ []) ops → Each (TaskOff (number_of request)) (tasks_of requests ops)
own-close requests request above ops op at unopened uses closes keeps =
    closed-off (number_of request) requests (above ++ op ∷ []) ops at.ordered unopened (now-has role.Closes (number_of request) above op closes) (now-has role.Uses (number_of request) above op uses) keeps

-- the task of a closing
close-task : (requests : List Request) (request : Request) (op : Op) → IsAt requests request
    → task_of requests op ≡ option_map (λ (r : Request). Closes r) (slice_get requests (number_of request))
    → task_of requests op ≡ Some (Closes request)
close-task requests request op at task = task ∙ own-task requests request (λ r. Closes r) at

-- once a move has left it, it may be closed alone
left-closes : (requests : List Request) (request : Request) (above ops : List Op) → IsAt requests request
    → Each (OpenOff (number_of request)) ops → list_any (is_in role.Leaves (number_of request)) above ≡ true
    → list_any (is_in role.Uses (number_of request)) above ≡ true → KeepsOrder above ops → ClosesOnce request (tasks_of requests ops)
unfolding tasks_of
left-closes requests request above [] at unopened left used keeps = tt
left-closes requests request above (op ∷ ops) at unopened left used keeps =
    by (left-closes requests request (above ++ op ∷ []) ops at unopened.1 (any-later (is_in role.Leaves (number_of request)) above (op ∷ []) left) (any-later (is_in role.Uses (number_of request)) above (op ∷ []) used) (order-rest above op ops keeps))
    (op-is (number_of request) op keeps.apart.0) where
      first : OpKeeps above op
      first = order-first above op ops keeps

      keeps-not : IsTo role.Keeps (number_of request) op → ⊥
      keeps-not is = no-both (list_any (is_in role.Leaves (number_of request)) above) left (apart-none role.Keeps role.Leaves above op (number_of request) is first.unleft)

      by : ClosesOnce request (tasks_of requests ops) → OpIs (number_of request) op → ClosesOnce request (with_task (task_of requests op) (tasks_of requests ops))
      by rest (IsOff other) = with-task (TaskOff (number_of request)) (ClosesOnce request) (task_of requests op) (tasks_of requests ops) (task-off (number_of request) requests op at.ordered other) (λ own off. inl (off, rest)) rest
      by rest (Opening opens task) = absurd (opens-off (number_of request) op unopened.0 opens)
      by rest (Sending count gap size uses kept task) = absurd (keeps-not kept)
      by rest (Closing uses closes task) = subst (λ t. ClosesOnce request (with_task t (tasks_of requests ops))) (sym (close-task requests request op at (task requests))) (inr (refl, own-close requests request above ops op at unopened.1 uses closes (order-rest above op ops keeps)))
      by rest (Leaving n other uses kept leaves task) = absurd (keeps-not kept)
      by rest (Joining o other joins task) = absurd (no-both (list_any (is_in role.Uses (number_of request)) above) used (apart-none role.Joins role.Uses above op (number_of request) joins first.unused))

-- a move from the request, after which it may be closed alone
own-left : (requests : List Request) (request : Request) (above ops : List Op) (op : Op) → IsAt requests request
    → Each (OpenOff (number_of request)) ops → IsTo role.Uses (number_of request) op → IsTo role.Leaves (number_of request) op
    → KeepsOrder (above ++ op ∷ []) ops → ClosesOnce request (tasks_of requests ops)
own-left requests request above ops op at unopened uses leaves keeps =
    left-closes requests request (above ++ op ∷ []) ops at unopened (now-has role.Leaves (number_of request) above op leaves) (now-has role.Uses (number_of request) above op uses) keeps

-- what is used or joined stays so
named-later : (c : ℕ) (above : List Op) (op : Op)
    → (list_any (is_in role.Uses c) above ≡ true) ⊎ (list_any (is_in role.Joins c) above ≡ true)
    → (list_any (is_in role.Uses c) (above ++ op ∷ []) ≡ true) ⊎ (list_any (is_in role.Joins c) (above ++ op ∷ []) ≡ true)
named-later c above op (inl any) = inl (any-later (is_in role.Uses c) above (op ∷ []) any)
named-later c above op (inr any) = inr (any-later (is_in role.Joins c) above (op ∷ []) any)

-- once it is used or joined, it may be sent on, and then closed or left
used-sends : (requests : List Request) (request : Request) (above ops : List Op) → IsAt requests request
    → Each (OpenOff (number_of request)) ops
    → (list_any (is_in role.Uses (number_of request)) above ≡ true) ⊎ (list_any (is_in role.Joins (number_of request)) above ≡ true)
    → KeepsOrder above ops → SendsOnce request (tasks_of requests ops)
unfolding tasks_of
used-sends requests request above [] at unopened used keeps = tt
used-sends requests request above (op ∷ ops) at unopened used keeps =
    by (used-sends requests request (above ++ op ∷ []) ops at unopened.1 (named-later (number_of request) above op used) (order-rest above op ops keeps)) (op-is (number_of request) op keeps.apart.0) where
      first : OpKeeps above op
      first = order-first above op ops keeps

      joins-not : IsTo role.Joins (number_of request) op → (list_any (is_in role.Uses (number_of request)) above ≡ true) ⊎ (list_any (is_in role.Joins (number_of request)) above ≡ true) → ⊥
      joins-not is (inl any) = no-both (list_any (is_in role.Uses (number_of request)) above) any (apart-none role.Joins role.Uses above op (number_of request) is first.unused)
      joins-not is (inr any) = no-both (list_any (is_in role.Joins (number_of request)) above) any (apart-none role.Joins role.Joins above op (number_of request) is first.unjoined)

      by : SendsOnce request (tasks_of requests ops) → OpIs (number_of request) op → SendsOnce request (with_task (task_of requests op) (tasks_of requests ops))
      by rest (IsOff other) = with-task (TaskOff (number_of request)) (SendsOnce request) (task_of requests op) (tasks_of requests ops) (task-off (number_of request) requests op at.ordered other) (λ own off. inl (off, rest)) rest
      by rest (Opening opens task) = absurd (opens-off (number_of request) op unopened.0 opens)
      by rest (Sending count gap size uses kept task) =
          subst (λ t. SendsOnce request (with_task t (tasks_of requests ops))) (sym (task requests)) (own-send SendsOnce requests request count gap size (tasks_of requests ops) at rest (λ t send. inr (inl (send, rest))))
      by rest (Closing uses closes task) =
          subst (λ t. SendsOnce request (with_task t (tasks_of requests ops))) (sym (close-task requests request op at (task requests))) (inr (inr (inl (refl, own-close requests request above ops op at unopened.1 uses closes (order-rest above op ops keeps)))))
      by rest (Leaving n other uses kept leaves task) =
          (let closes = own-left requests request above ops op at unopened.1 uses leaves (order-rest above op ops keeps) in
          subst (λ t. SendsOnce request (with_task t (tasks_of requests ops))) (sym (task requests)) (own-from SendsOnce requests request n (tasks_of requests ops) at other rest (λ t move. inr (inr (inr (move, closes))))))
      by rest (Joining o other joins task) = absurd (joins-not joins used)

-- once it is opened, it may be joined before it is used
opened-used : (requests : List Request) (request : Request) (above ops : List Op) → IsAt requests request
    → Each (OpenOff (number_of request)) ops → KeepsOrder above ops → UsedOnce request (tasks_of requests ops)
unfolding tasks_of
opened-used requests request above [] at unopened keeps = tt
opened-used requests request above (op ∷ ops) at unopened keeps =
    by (opened-used requests request (above ++ op ∷ []) ops at unopened.1 (order-rest above op ops keeps)) (op-is (number_of request) op keeps.apart.0) where
      sends-by : (list_any (is_in role.Uses (number_of request)) (above ++ op ∷ []) ≡ true) ⊎ (list_any (is_in role.Joins (number_of request)) (above ++ op ∷ []) ≡ true) → SendsOnce request (tasks_of requests ops)
      sends-by used = used-sends requests request (above ++ op ∷ []) ops at unopened.1 used (order-rest above op ops keeps)

      by : UsedOnce request (tasks_of requests ops) → OpIs (number_of request) op → UsedOnce request (with_task (task_of requests op) (tasks_of requests ops))
      by rest (IsOff other) = with-task (TaskOff (number_of request)) (UsedOnce request) (task_of requests op) (tasks_of requests ops) (task-off (number_of request) requests op at.ordered other) (λ own off. inl (off, rest)) rest
      by rest (Opening opens task) = absurd (opens-off (number_of request) op unopened.0 opens)
      by rest (Sending count gap size uses kept task) =
          (let sends = sends-by (inl (now-has role.Uses (number_of request) above op uses)) in
          subst (λ t. UsedOnce request (with_task t (tasks_of requests ops))) (sym (task requests)) (own-send UsedOnce requests request count gap size (tasks_of requests ops) at rest (λ t send. inr (inr (inl (send, sends))))))
      by rest (Closing uses closes task) =
          subst (λ t. UsedOnce request (with_task t (tasks_of requests ops))) (sym (close-task requests request op at (task requests))) (inr (inr (inr (inl (refl, own-close requests request above ops op at unopened.1 uses closes (order-rest above op ops keeps))))))
      by rest (Leaving n other uses kept leaves task) =
          (let closes = own-left requests request above ops op at unopened.1 uses leaves (order-rest above op ops keeps) in
          subst (λ t. UsedOnce request (with_task t (tasks_of requests ops))) (sym (task requests)) (own-from UsedOnce requests request n (tasks_of requests ops) at other rest (λ t move. inr (inr (inr (inr (move, closes)))))))
      by rest (Joining o other joins task) =
          (let sends = sends-by (inr (now-has role.Joins (number_of request) above op joins)) in
          subst (λ t. UsedOnce request (with_task t (tasks_of requests ops))) (sym (task requests)) (own-onto UsedOnce requests request o (tasks_of requests ops) at other rest (λ t move. inr (inl (move, sends)))))

-- it isn't opened by an operation that doesn't open it
same-opened : (c : ℕ) (above : List Op) (op : Op) → is_in role.Opens c op ≡ false → list_any (is_in role.Opens c) above ≡ false
    → list_any (is_in role.Opens c) (above ++ op ∷ []) ≡ false
same-opened c above op other was = any-end (is_in role.Opens c) above op ∙ ap (λ b. list_any (is_in role.Opens c) above || (b || false)) other ∙ ap (λ b. b || (false || false)) was

-- an operation that is none of the channel's opens another one or none
opens-other : (c : ℕ) (op : Op) → OpOff c op → is_in role.Opens c op ≡ false
opens-other c op off = by (attributes_of op).opens off.opens where
  by : (opens : Option ChanNo) → ChannelIf (λ n. n ≢ c) opens → hits (λ own. nat_eq own c) (option_map channel_number opens) ≡ false
  by None other = refl
  by (Some chan) other = ne_eqb (channel_number chan) c other

-- the openings after an operation are numbered
after-numbered : (n m : ℕ) (op : Op) (ops : List Op) → OpeningsAreNumbered m (openings_in n (op ∷ ops))
    → (from : ℕ) × OpeningsAreNumbered from (openings_in n ops)
unfolding openings_in
after-numbered n m op ops are = by (attributes_of op).opens are where
  by : (opens : Option ChanNo) → OpeningsAreNumbered m (opening_by n opens ++ openings_in n ops) → (from : ℕ) × OpeningsAreNumbered from (openings_in n ops)
  by None own = (m, own)
  by (Some chan) own = (suc m, own.1)

open-numbered : (n m c : ℕ) (op : Op) (ops : List Op) → IsTo role.Opens c op → OpeningsAreNumbered m (openings_in n (op ∷ ops))
    → (c ≡ m) × OpeningsAreNumbered (suc m) (openings_in n ops)
unfolding openings_in
open-numbered n m c op ops is are = by (attributes_of op).opens is are where
  by : (opens : Option ChanNo) → option_map channel_number opens ≡ Some c → OpeningsAreNumbered m (opening_by n opens ++ openings_in n ops) → (c ≡ m) × OpeningsAreNumbered (suc m) (openings_in n ops)
  by None same own = absurd (let clash' : None ≡ Some c = same in cc)
  by (Some chan) same own = (sym (same_Some (channel_number chan) c same) ∙ own.0, own.1)

-- before it is opened, no operation names it
early-full : (n m : ℕ) (requests : List Request) (request : Request) (above ops : List Op) → IsAt requests request
    → OpeningsAreNumbered m (openings_in n ops) → list_any (is_in role.Opens (number_of request)) above ≡ false → KeepsOrder above ops
    → FullScript request (tasks_of requests ops)
unfolding tasks_of
early-full n m requests request above [] at are none keeps = tt
early-full n m requests request above (op ∷ ops) at are none keeps =
    by (λ from numbered unopened. early-full n from requests request (above ++ op ∷ []) ops at numbered unopened (order-rest above op ops keeps)) (op-is (number_of request) op keeps.apart.0) where
      first : OpKeeps above op
      first = order-first above op ops keeps

      unopened : list_any (is_in role.Opens (number_of request)) above ≡ true → ⊥
      unopened any = no-both (list_any (is_in role.Opens (number_of request)) above) any none

      uses-not : IsTo role.Uses (number_of request) op → ⊥
      uses-not is = unopened (after-has role.Uses role.Opens above op (number_of request) is first.opened)

      by : ((from : ℕ) → OpeningsAreNumbered from (openings_in n ops) → list_any (is_in role.Opens (number_of request)) (above ++ op ∷ []) ≡ false → FullScript request (tasks_of requests ops)) → OpIs (number_of request) op → FullScript request (with_task (task_of requests op) (tasks_of requests ops))
      by more (IsOff other) =
          (let rest = after-numbered n m op ops are in
          let full = more rest.0 rest.1 (same-opened (number_of request) above op (opens-other (number_of request) op other) none) in
          with-task (TaskOff (number_of request)) (FullScript request) (task_of requests op) (tasks_of requests ops) (task-off (number_of request) requests op at.ordered other) (λ own off. inl (off, full)) full)
      by more (Opening opens task) =
          (let now = open-numbered n m (number_of request) op ops opens are in
          let own = task requests ∙ own-task requests request (λ r. Opens r) at in
          let number = now.0 in
          subst (λ t. FullScript request (with_task t (tasks_of requests ops))) (sym own)
          (inr (refl, opened-used requests request (above ++ op ∷ []) ops at (numbered-off n (number_of request) (suc m) ops (omega (arith, number)) now.1) (order-rest above op ops keeps))))
      by more (Sending count gap size uses kept task) = absurd (uses-not uses)
      by more (Closing uses closes task) = absurd (uses-not uses)
      by more (Leaving k other uses kept leaves task) = absurd (uses-not uses)
      by more (Joining o other joins task) = absurd (unopened (after-has role.Joins role.Opens above op (number_of request) joins first.onto_opened))

-- ---- plans

in-order : (parts : PlanParts) → ArePlanned parts → AreInOrder (map request_of parts.requests)
in-order parts planned n request found =
    let at = comes-from request_of parts.requests n request found in
    ap (λ (r : Request). channel_number r.chan) (sym at.is) ∙ planned.requests n at.from at.found

-- a move that fits is between two channels
fit-apart : (links : List LinkEntry) (requests : List RequestEntry) (ops : List Op) → list_all (move_is_fit links requests) ops ≡ true
    → Each IsApartMove ops
fit-apart links requests [] all = tt
fit-apart links requests (op ∷ ops) all =
    (let split = and_parts (move_is_fit links requests op) (list_all (move_is_fit links requests) ops) all in (between (attributes_of op).leaves (attributes_of op).joins split.0, fit-apart links requests ops split.1)) where
      between : (leaves joins : Option ChanNo) → fits_between links requests leaves joins ≡ true → AreApart leaves joins
      between None joins fit = tt
      between (Some old) None fit = tt
      between (Some old) (Some new) fit = eqb-false (channel_number old) (channel_number new) (not-true (nat_eq (channel_number old) (channel_number new)) (and_parts (may_move links (slice_get requests (channel_number old)) (slice_get requests (channel_number new))) _ fit).1)

-- the script of a caller keeps the rules on its operations
keeps-order : (parts : PlanParts) (n : ℕ) (caller : CallerEntry) → IsPlan parts → slice_get parts.callers n ≡ Some caller
    → KeepsOrder [] caller.ops
keeps-order parts n caller plan found =
    let rules = keeps-rules parts plan.kept in
    let there = used-in parts rules.there in
    let unclosed = unclosed-in parts rules.unclosed in
    let moves = moves-in parts rules.moves in
    record {
      opened = each (is_after role.Uses role.Opens) there.opened;
      onto_opened = each (is_after role.Joins role.Opens) there.onto_opened;
      unclosed = each (is_apart role.Uses role.Closes) unclosed.closed;
      unleft = each (is_apart role.Keeps role.Leaves) unclosed.left;
      unused = each (is_apart role.Joins role.Uses) moves.unused;
      unjoined = each (is_apart role.Joins role.Joins) moves.unjoined;
      apart = fit-apart parts.links parts.requests caller.ops (Each-at (λ (c : CallerEntry). list_all (move_is_fit parts.links parts.requests) c.ops ≡ true) parts.callers n caller (each-of (λ (c : CallerEntry). list_all (move_is_fit parts.links parts.requests) c.ops) parts.callers moves.fit) found);
    } where
      each : (test : List Op → Op → Bool) → list_all (λ (c : CallerEntry). each_after test [] c.ops) parts.callers ≡ true → each_after test [] caller.ops ≡ true
      each test all = Each-at (λ (c : CallerEntry). each_after test [] c.ops ≡ true) parts.callers n caller (each-of (λ (c : CallerEntry). each_after test [] c.ops) parts.callers all) found

-- a caller that opens other channels alone names others alone
caller-off : (parts : PlanParts) (c n : ℕ) (tasks : List Task) → IsPlan parts → (IsOpenedBy parts n c → ⊥)
    → slice_get (map (script_of (map request_of parts.requests)) parts.callers) n ≡ Some tasks → Each (TaskOff c) tasks
caller-off parts c n tasks plan other found =
    let at = comes-from (script_of (map request_of parts.requests)) parts.callers n tasks found in
    subst (Each (TaskOff c)) at.is
    (ops-off c (map request_of parts.requests) [] at.from.ops (in-order parts plan.planned) (keeps-order parts n at.from plan at.found)
    (λ chan any same. other (subst (IsOpenedBy parts n) same (opened-has parts n chan at.from plan.planned at.found any))))

pub owned-by : (parts : PlanParts) (c : ℕ) (entry : RequestEntry) → IsPlan parts → slice_get parts.requests c ≡ Some entry
    → OwnedFully (network_of parts) entry.request (actor_number entry.caller)
unfolding network_of
owned-by parts c entry plan found =
    let number : channel_number entry.request.chan ≡ c = plan.planned.requests c entry found in
    let inside = owner-inside parts c entry plan.planned found in
    record {
      inside = omega (arith, inside, length-map parts.callers (script_of (map request_of parts.requests)));
      own = λ tasks at. own tasks at number;
      others = λ actor tasks other at.
          caller-off parts (channel_number entry.request.chan) actor tasks plan (λ by. other (sym (by.by) ∙ ap (λ (e : RequestEntry). actor_number e.caller) (same_Some by.entry entry (sym by.found ∙ ap (slice_get parts.requests) number ∙ found)))) at;
    } where
      own : (tasks : List Task) → slice_get (map (script_of (map request_of parts.requests)) parts.callers) (actor_number entry.caller) ≡ Some tasks → channel_number entry.request.chan ≡ c → FullScript entry.request tasks
      own tasks at number =
          (let from = comes-from (script_of (map request_of parts.requests)) parts.callers (actor_number entry.caller) tasks at in
          let numbered = caller-numbered parts (actor_number entry.caller) from.from plan.planned from.found in
          let order = keeps-order parts (actor_number entry.caller) from.from plan from.found in
          subst (FullScript entry.request) from.is
          (early-full (actor_number entry.caller) numbered.0 (map request_of parts.requests) entry.request [] from.from.ops
          (record { ordered = in-order parts plan.planned; found = slice_get-map request_of parts.requests (channel_number entry.request.chan) ∙ ap (λ k. option_map request_of (slice_get parts.requests k)) number ∙ ap (option_map request_of) found })
          numbered.1 refl order))

pub all-owned : (parts : PlanParts) → IsPlan parts → AllOwned (network_of parts)
unfolding network_of
all-owned parts plan c = by (slice_get parts.requests c) refl where
  by : (found : Option RequestEntry) → slice_get parts.requests c ≡ found → IsOwned (network_of parts) c ⊎ IsUnnamed (network_of parts) c
  by None none = inr (λ actor tasks at. caller-off parts c actor tasks plan (λ opened. (let no-both : None ≡ Some opened.entry = sym none ∙ opened.found in cc)) at)
  by (Some entry) some = inl (record {
    request = entry.request;
    owner = actor_number entry.caller;
    sound = request-fits parts c entry plan some;
    full = owned-by parts c entry plan some;
    chan = plan.planned.requests c entry some;
  })
