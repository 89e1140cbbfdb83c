-- What a caller has learnt of the packets that were planned last is what its own entries tell: at the beginning, and over each task.
use Rattle.std.proofs.Common.{◌≡◌, ℕ, ◌≤◌, Bool, true, false, cond, List, [], ◌∷◌, ◌++◌, map, Option, Some, None, refl, sym, ap, ◌∙◌, subst, inl, inr, arith}
use Rattle.std.proofs.lemmas.Bool.{cases_Bool, eqb-true, eqb-false}
use Rattle.std.proofs.lemmas.Option.{same_Some}
use Rattle.std.specs.List.{slice_get}
use Rattle.std.specs.Prelude.{nat_eq, not, ◌&&◌}
use Rattle.net_units.specs.Numbers.{channel_number}
use Rattle.net_units.specs.declared.numbers.ChanNo.{ChanNo}
use Rattle.net_units.specs.declared.numbers.LinkNo.{LinkNo}
use Rattle.channel_laws.specs.Unsent.{IsUnsent}
use Rattle.channel_move.specs.Moving.{Move, told_by, next_of_move}
use Rattle.channel_move.specs.declared.shifted.Shifted.{Shifted}
use Rattle.link_ledger.specs.declared.entries.OwnEntry.{OwnEntry}
use Rattle.link_steps.specs.Legal.{SubmitFits}
use Rattle.link_steps.specs.Lists.{Each}
use Rattle.link_steps.specs.declared.asks.Ask.TheVariants.{Submit}
use Rattle.link_steps.specs.declared.replies.Reply.{Reply}
use Rattle.link_steps.specs.declared.replies.Reply.TheVariants as Is
use Rattle.setup_protocol.specs.declared.request.Request.{Request}
use Rattle.shared_network.specs.Added.{Asked, asked_in}
use Rattle.shared_network.specs.Calls.{Follows}
use Rattle.shared_network.specs.Shifts.{NoneSubmitted, Packets, last_planned, planned_after, planned_with}
use Rattle.shared_network.proofs.CallSteps.LastPlanned.{sent-with, planned-own, move-planned, unshifted-unsent}
use Rattle.shared_network.proofs.CallSteps.SubmitsOfCalls.{unsent-stays, planned-stays, one-unsent, move-unsent}
use Rattle.call_script.specs.Scripts.{Learnt, Settles, PlannedOn, MovedTo, is_that, last_packets, newest, planned_as, move_between}
use Rattle.call_script.specs.Scripts.{Packets as LastPackets}
use Rattle.call_script.specs.declared.tasks.Task.{Task}
use Rattle.call_script.specs.declared.tasks.Task.TheVariants.{Sends, Moves}
use Rattle.race_run.specs.Callers.{LeavesUnsent, PacketsStand}
use Rattle.race_run.proofs.Operations.ChannelsInScript.{each-front}

-- ---- at the beginning

one-fits : SubmitFits 1 1 1
one-fits = record { count_least = omega arith; count_most = omega arith; gap_least = omega arith; gap_most = omega arith; size_least = omega arith; size_most = omega arith }

pub packets-first : (requests : List Request) → ((c : ℕ) (request : Request) → slice_get requests c ≡ Some request → 1 ≤ request.contract.smax) → PacketsStand requests [] [] []
unfolding newest last_packets planned_after
packets-first requests least = record {
  last = λ chan p told. absurd (let clash : None ≡ Some p = told in cc);
  range = λ chan. one-fits;
  small = least;
  unsent = λ chan each. tt;
}

-- ---- over a task that submits nothing

pub packets-stay : (requests : List Request) (front : List Task) (task : Task) (own own' entries : List OwnEntry) (outcomes outcomes' : List Learnt) → own' ≡ own ++ entries → ((chan : ChanNo) → NoneSubmitted chan entries) → ((chan : ChanNo) → last_packets chan outcomes' ≡ last_packets chan outcomes)
    → PacketsStand requests front own outcomes → PacketsStand requests (front ++ task ∷ []) own' outcomes'
packets-stay requests front task own own' entries outcomes outcomes' is none same was = record {
  last = λ chan p told. subst (λ (q : LastPackets). (q.gap ≡ p.gap) × (q.size ≡ p.size)) (sym (same chan)) (was.last chan p (sym (planned-stays chan own own' entries is (none chan)) ∙ told));
  range = λ chan. subst (λ (q : LastPackets). SubmitFits 1 q.gap q.size) (sym (same chan)) (was.range chan);
  small = λ c request found. subst (λ (q : LastPackets). q.size ≤ request.contract.smax) (sym (same request.chan)) (was.small c request found);
  unsent = λ chan each. unsent-stays chan own own' entries is (none chan) (was.unsent chan (each-front _ front task each).0);
}

-- over one that takes no step
pub packets-skip : (requests : List Request) (front : List Task) (task : Task) (own : List OwnEntry) (outcomes : List Learnt) → PacketsStand requests front own outcomes → PacketsStand requests (front ++ task ∷ []) own outcomes
packets-skip requests front task own outcomes was = record { last = was.last; range = was.range; small = was.small; unsent = λ chan each. was.unsent chan (each-front _ front task each).0 }

-- a verdict tells nothing of packets
pub settled-packets : (chan own : ChanNo) (outcome : _) (outcomes : List Learnt) → last_packets chan (Settles own outcome ∷ outcomes) ≡ last_packets chan outcomes
unfolding newest last_packets
settled-packets chan own outcome outcomes = refl

-- ---- what notes of packets tell

abbrev these : ℕ → ℕ → LastPackets
these gap size = record { gap = gap; size = size }

planned-packets : (chan own : ChanNo) (gap size : ℕ) (outcomes : List Learnt) → last_packets chan (PlannedOn own gap size ∷ outcomes) ≡ cond (is_that chan own) (these gap size) (last_packets chan outcomes)
unfolding newest last_packets
planned-packets chan own gap size outcomes = elim (cases_Bool (is_that chan own)) [ inl is ↦ rw is refl | inr is ↦ rw is refl ]

moved-packets : (chan old new : ChanNo) (told : Shifted) (gap size : ℕ) (outcomes : List Learnt) → last_packets chan (MovedTo old new told gap size ∷ outcomes) ≡ cond (is_that chan new && not (nat_eq told.shifted 0)) (these gap size) (last_packets chan outcomes)
unfolding newest last_packets
moved-packets chan old new told gap size outcomes = elim (cases_Bool (is_that chan new && not (nat_eq told.shifted 0))) [ inl is ↦ rw is refl | inr is ↦ rw is refl ]

-- what holds of both holds
of-either : (P : LastPackets → Type 0) (b : Bool) (one other : LastPackets) → (b ≡ true → P one) → (b ≡ false → P other) → P (cond b one other)
of-either P true one other holds holds' = holds refl
of-either P false one other holds holds' = holds' refl

-- the last packets of a channel that a note names are within the contract of its request
note-small : (requests : List Request) (own : Request) (size : ℕ) → ((n : ℕ) (request : Request) → slice_get requests n ≡ Some request → channel_number request.chan ≡ n) → slice_get requests (channel_number own.chan) ≡ Some own → size ≤ own.contract.smax
    → (c : ℕ) (request : Request) → slice_get requests c ≡ Some request → is_that request.chan own.chan ≡ true → size ≤ request.contract.smax
note-small requests own size ordered there small c request found that =
    let at : channel_number own.chan ≡ c = eqb-true (channel_number own.chan) (channel_number request.chan) that ∙ ordered c request found in
    let same : own ≡ request = same_Some own request (sym there ∙ ap (slice_get requests) at ∙ found) in
    let smax = ap (λ (r : Request). r.contract.smax) same in
    omega (arith, small, smax)

-- ---- over a send

-- it is planned, or it isn't and tells nothing
data Told (own : ChanNo) (gap size : ℕ) (reply : Reply) : Type 0 where
  IsPlanned : (clock : ℕ) → reply ≡ Is.Planned clock → Told own gap size reply
  IsNot : planned_as (Some own) gap size (reply ∷ []) ≡ [] → ((c count : ℕ) (last : Option Packets) → planned_with c last (Submit own count gap size) reply ≡ last) → Told own gap size reply

told : (own : ChanNo) (gap size : ℕ) (reply : Reply) → Told own gap size reply
told own gap size (Is.Planned clock) = IsPlanned clock refl
told own gap size (Is.Offer level reach) = IsNot refl (λ c count last. refl)
told own gap size (Is.Relaxed clock) = IsNot refl (λ c count last. refl)
told own gap size Is.Denied = IsNot refl (λ c count last. refl)
told own gap size (Is.Closing count cancelled) = IsNot refl (λ c count last. refl)
told own gap size (Is.Taken clock eligible) = IsNot refl (λ c count last. refl)
told own gap size (Is.Ticked clock full sent best_sent best_lost) = IsNot refl (λ c count last. refl)
told own gap size (Is.Refused refusal) = IsNot refl (λ c count last. refl)

module _ (requests : List Request) (front : List Task) (link : LinkNo) (own_request : Request) (count gap size : ℕ) (reply : Reply) (own own' entries : List OwnEntry) (outcomes : List Learnt)
    (ordered : (n : ℕ) (request : Request) → slice_get requests n ≡ Some request → channel_number request.chan ≡ n) (there : slice_get requests (channel_number own_request.chan) ≡ Some own_request) (fits : SubmitFits count gap size) (small : (clock : ℕ) → reply ≡ Is.Planned clock → size ≤ own_request.contract.smax)
    (is : own' ≡ own ++ entries) (are : map asked_in entries ≡ record { link = link; ask = Submit own_request.chan count gap size; reply = reply } ∷ []) (was : PacketsStand requests front own outcomes) where
  abbrev asked : Asked
  asked = record { link = link; ask = Submit own_request.chan count gap size; reply = reply }

  abbrev task : Task
  task = Sends link (Some own_request.chan) count gap size

  abbrev on : ChanNo → Bool
  on chan = is_that chan own_request.chan

  still-unsent : (chan : ChanNo) → Each (LeavesUnsent (channel_number chan)) (front ++ task ∷ []) → NoneSubmitted chan own'
  still-unsent chan each = (let both = each-front _ front task each in unsent-stays chan own own' entries is (one-unsent (channel_number chan) entries asked are both.1) (was.unsent chan both.0))

  -- where the submit isn't planned
  unplanned : ((c : ℕ) (last : Option Packets) → planned_with c last (Submit own_request.chan count gap size) reply ≡ last) → PacketsStand requests (front ++ task ∷ []) own' outcomes
  unplanned silent = record {
    last = λ chan p same. was.last chan p (sym (sent-with chan own own' entries asked is are ∙ silent (channel_number chan) (last_planned chan own)) ∙ same);
    range = was.range;
    small = was.small;
    unsent = still-unsent;
  }

  -- where it is
  module _ (clock : ℕ) (planned : reply ≡ Is.Planned clock) where
    last-own : (chan : ChanNo) (p : Packets) → on chan ≡ true → last_planned chan own' ≡ Some p → (gap ≡ p.gap) × (size ≡ p.size)
    last-own chan p that same =
        let told = sent-with chan own own' entries asked is are ∙ ap (planned_with (channel_number chan) (last_planned chan own) (Submit own_request.chan count gap size)) planned ∙ planned-own chan own_request.chan (last_planned chan own) count gap size clock (eqb-true (channel_number own_request.chan) (channel_number chan) that) in
        let one : record { gap = gap; size = size } ≡ p = same_Some _ p (sym told ∙ same) in
        (ap (λ (q : Packets). q.gap) one, ap (λ (q : Packets). q.size) one)

    last-other : (chan : ChanNo) → on chan ≡ false → last_planned chan own' ≡ last_planned chan own
    last-other chan other = planned-stays chan own own' entries is (one-unsent (channel_number chan) entries asked are (eqb-false (channel_number own_request.chan) (channel_number chan) other))

    planned-stand : PacketsStand requests (front ++ task ∷ []) own' (PlannedOn own_request.chan gap size ∷ outcomes)
    planned-stand = record {
      last = λ chan p same. subst (λ (q : LastPackets). (q.gap ≡ p.gap) × (q.size ≡ p.size)) (sym (planned-packets chan own_request.chan gap size outcomes))
          (of-either (λ q. (q.gap ≡ p.gap) × (q.size ≡ p.size)) (on chan) (these gap size) (last_packets chan outcomes) (λ that. last-own chan p that same) (λ other. was.last chan p (sym (last-other chan other) ∙ same)));
      range = λ chan. subst (λ (q : LastPackets). SubmitFits 1 q.gap q.size) (sym (planned-packets chan own_request.chan gap size outcomes))
          (of-either (λ q. SubmitFits 1 q.gap q.size) (on chan) (these gap size) (last_packets chan outcomes)
          (λ that. record { count_least = omega arith; count_most = omega arith; gap_least = fits.gap_least; gap_most = fits.gap_most; size_least = fits.size_least; size_most = fits.size_most })
          (λ other. was.range chan));
      small = λ c request found. subst (λ (q : LastPackets). q.size ≤ request.contract.smax) (sym (planned-packets request.chan own_request.chan gap size outcomes))
          (of-either (λ q. q.size ≤ request.contract.smax) (on request.chan) (these gap size) (last_packets request.chan outcomes)
          (λ that. note-small requests own_request size ordered there (small clock planned) c request found that)
          (λ other. was.small c request found));
      unsent = still-unsent;
    }

  pub packets-sent : PacketsStand requests (front ++ task ∷ []) own' (planned_as (Some own_request.chan) gap size (reply ∷ []) ++ outcomes)
  packets-sent = by (told own_request.chan gap size reply) where
    by : Told own_request.chan gap size reply → PacketsStand requests (front ++ task ∷ []) own' (planned_as (Some own_request.chan) gap size (reply ∷ []) ++ outcomes)
    by (IsNot none silent) = subst (λ notes. PacketsStand requests (front ++ task ∷ []) own' (notes ++ outcomes)) (sym none) (unplanned (λ c last. silent c count last))
    by (IsPlanned clock planned) = subst (λ r. PacketsStand requests (front ++ task ∷ []) own' (planned_as (Some own_request.chan) gap size (r ∷ []) ++ outcomes)) (sym planned) (planned-stand clock planned)

-- ---- over a move

-- on a channel where it hasn't, it submits nothing
none-moved : (move : Move) (chan : ChanNo) (told : Shifted) (e : OwnEntry) (entries : List OwnEntry) → told_by e.reply ≡ told → Follows (next_of_move move) [] (e ∷ entries) → (is_that chan move.joining && not (nat_eq told.shifted 0)) ≡ false → NoneSubmitted chan (e ∷ entries)
none-moved move chan told e entries is follows none =
    elim (cases_Bool (is_that chan move.joining)) [
      | inl joins ↦ (let zero : nat_eq told.shifted 0 ≡ true = off (nat_eq told.shifted 0) (rw joins at none) in unshifted-unsent move (channel_number chan) e entries (ap (λ (t : Shifted). nat_eq t.shifted 0) is ∙ zero) follows)
      | inr other ↦ move-unsent move (channel_number chan) (e ∷ entries) (eqb-false (channel_number move.joining) (channel_number chan) other) follows
    ] where
      off : (b : Bool) → not b ≡ false → b ≡ true
      off true is = refl
      off false is = cc

first-true : (a b : Bool) → (a && b) ≡ true → a ≡ true
first-true true b both = refl
first-true false b both = cc

module _ (requests : List Request) (front : List Task) (old new : Request) (gap size : ℕ) (told : Shifted) (own own' : List OwnEntry) (e : OwnEntry) (entries : List OwnEntry) (outcomes : List Learnt) (task_gap task_size : ℕ)
    (ordered : (n : ℕ) (request : Request) → slice_get requests n ≡ Some request → channel_number request.chan ≡ n) (there : slice_get requests (channel_number new.chan) ≡ Some new) (fits : SubmitFits 1 gap size) (small : size ≤ new.contract.smax) (unsent : NoneSubmitted new.chan own)
    (is : own' ≡ own ++ e ∷ entries) (follows : Follows (next_of_move (move_between old new gap size)) [] (e ∷ entries)) (tells : told_by e.reply ≡ told) (was : PacketsStand requests front own outcomes) where
  abbrev move : Move
  move = move_between old new gap size

  -- whether it has planned packets on a channel
  abbrev onto : ChanNo → Bool
  onto chan = is_that chan new.chan && not (nat_eq told.shifted 0)

  last-onto : (chan : ChanNo) (p : Packets) → onto chan ≡ true → last_planned chan own' ≡ Some p → (gap ≡ p.gap) × (size ≡ p.size)
  last-onto chan p that same =
      move-planned move chan own own' (e ∷ entries) is follows (subst (λ n. Each (λ (x : OwnEntry). IsUnsent n x.ask) own) (eqb-true (channel_number new.chan) (channel_number chan) (first-true (is_that chan new.chan) (not (nat_eq told.shifted 0)) that)) unsent) p same

  pub packets-moved : PacketsStand requests (front ++ Moves old new task_gap task_size ∷ []) own' (MovedTo old.chan new.chan told gap size ∷ outcomes)
  packets-moved = record {
    last = λ chan p same. subst (λ (q : LastPackets). (q.gap ≡ p.gap) × (q.size ≡ p.size)) (sym (moved-packets chan old.chan new.chan told gap size outcomes))
        (of-either (λ q. (q.gap ≡ p.gap) × (q.size ≡ p.size)) (onto chan) (these gap size) (last_packets chan outcomes) (λ that. last-onto chan p that same)
        (λ other. was.last chan p (sym (planned-stays chan own own' (e ∷ entries) is (none-moved move chan told e entries tells follows other)) ∙ same)));
    range = λ chan. subst (λ (q : LastPackets). SubmitFits 1 q.gap q.size) (sym (moved-packets chan old.chan new.chan told gap size outcomes))
        (of-either (λ q. SubmitFits 1 q.gap q.size) (onto chan) (these gap size) (last_packets chan outcomes) (λ that. fits) (λ other. was.range chan));
    small = λ c request found. subst (λ (q : LastPackets). q.size ≤ request.contract.smax) (sym (moved-packets request.chan old.chan new.chan told gap size outcomes))
        (of-either (λ q. q.size ≤ request.contract.smax) (onto request.chan) (these gap size) (last_packets request.chan outcomes)
        (λ that. note-small requests new size ordered there small c request found (first-true (is_that request.chan new.chan) (not (nat_eq told.shifted 0)) that))
        (λ other. was.small c request found));
    unsent = λ chan each. (let both = each-front _ front (Moves old new task_gap task_size) each in unsent-stays chan own own' (e ∷ entries) is (move-unsent move (channel_number chan) (e ∷ entries) both.1 follows) (was.unsent chan both.0));
  }
