-- A move, from what the network promises: its conditions hold, and the caller is at its next operation.
use Rattle.std.proofs.Common.{◌≡◌, ◌≢◌, ℕ, ◌+◌, ◌≤◌, true, false, List, [], ◌∷◌, ◌++◌, map, length, ◌⊎◌, Option, Some, None, refl, sym, ap, ◌∙◌, subst, inl, inr, arith}
use Rattle.std.proofs.lemmas.Bool.{eq-eqb, ne_eqb, cases_eq, and_right}
use Rattle.std.proofs.lemmas.Option.{same_Some, slice_get-map}
use Rattle.std.specs.List.{slice_get}
use Rattle.std.specs.Prelude.{option_map, ◌&&◌}
use Rattle.net_units.specs.Numbers.{channel_number}
use Rattle.net_units.specs.declared.numbers.ActorNo.{ActorNo}
use Rattle.net_units.specs.declared.numbers.ChanNo.{ChanNo}
use Rattle.link_steps.specs.Split.{Link}
use Rattle.link_steps.specs.declared.asks.Ask.{Ask}
use Rattle.shared_network.specs.Shifts.{MayShift, NoneSubmitted, WerePlanned, Shifts}
use Rattle.channel_move.specs.Moving.{Move as Moving, first_told, next_of_move, at_end, told_by}
use Rattle.channel_move.specs.declared.mover.Mover.{Mover}
use Rattle.channel_move.specs.declared.shifted.Shifted.{Shifted}
use Rattle.link_steps.specs.Legal.{SubmitFits}
use Rattle.net_units.specs.declared.numbers.LinkNo.{LinkNo}
use Rattle.setup_protocol.specs.declared.request.Request.{Request}
use Rattle.link_ledger.specs.Tokens.{Token}
use Rattle.link_ledger.specs.declared.entries.OwnEntry.{OwnEntry}
use Rattle.shared_network.specs.Calls.{OthersStay, IsEstablished, Follows, reply_in}
use Rattle.call_script.specs.Fits.{MoveFits}
use Rattle.call_script.specs.Owners.{FullScript}
use Rattle.call_script.specs.Parts.{PlanParts}
use Rattle.call_script.specs.Plans.{IsPlan}
use Rattle.call_script.specs.Scripts.{Learnt, MovedTo, newest, is_established, last_packets, move_between, ready, takes_step, task_ask}
use Rattle.call_script.specs.Standing.{requests_of}
use Rattle.call_script.specs.Tasks.{network_of, request_of, move_for, task_of}
use Rattle.call_script.specs.declared.entries.RequestEntry.{RequestEntry}
use Rattle.call_script.specs.declared.operations.Op.TheVariants.{Move}
use Rattle.call_script.specs.declared.tasks.Task.{Task}
use Rattle.call_script.specs.declared.tasks.Task.TheVariants.{Opens, Moves}
use Rattle.race_run.specs.Callers.{CallerIsAt, HasOp, IsNetworkOf}
use Rattle.race_run.proofs.Operations.BetweenOperations.{Leaves, between-skipped, between-made}
use Rattle.race_run.proofs.Operations.ChannelsInScript.{AMoveFrom, AMoveOnto, ByMoveFrom, ByMoveOnto, joined-unsent, each-front, has-front, used-live}
use Rattle.call_script.specs.Channels.{Told, AreTold, channel_in}
use Rattle.call_script.specs.declared.channels.Channel.{Channel}
use Rattle.race_run.proofs.Operations.OperationAtPlace.{HereAt, here-with, full-script, owner-at, hops-of, task-fits, established-told, ordered, there-at}
use Rattle.race_run.proofs.Operations.PacketsLearnt.{packets-moved}

request-is : (parts : PlanParts) (c : ℕ) (entry : RequestEntry) → slice_get parts.requests c ≡ Some entry → slice_get (requests_of parts) c ≡ Some entry.request
request-is parts c entry found = slice_get-map request_of parts.requests c ∙ ap (option_map request_of) found

request-missing : (parts : PlanParts) (c : ℕ) → slice_get parts.requests c ≡ None → slice_get (requests_of parts) c ≡ None
request-missing parts c none = slice_get-map request_of parts.requests c ∙ ap (option_map request_of) none

-- ---- what a move tells of who is established

left-off : (old new chan : ChanNo) (told : Shifted) (gap size : ℕ) (outcomes : List Learnt) → channel_number old ≡ channel_number chan → is_established chan (MovedTo old new told gap size ∷ outcomes) ≡ false
unfolding is_established newest
left-off old new chan told gap size outcomes same = rw (eq-eqb (channel_number old) (channel_number chan) same) refl

left-other : (old new chan : ChanNo) (told : Shifted) (gap size : ℕ) (outcomes : List Learnt) → channel_number old ≢ channel_number chan → is_established chan (MovedTo old new told gap size ∷ outcomes) ≡ is_established chan outcomes
unfolding is_established newest
left-other old new chan told gap size outcomes other = rw (ne_eqb (channel_number old) (channel_number chan) other) refl

-- ---- its task

move-at : (parts : PlanParts) (caller place : ℕ) (chan onto : ChanNo) (old new : RequestEntry) (pass : Token) (channels : List Channel) → CallerIsAt parts caller place pass channels → HasOp parts caller place (Move chan onto) → slice_get parts.requests (channel_number chan) ≡ Some old → slice_get parts.requests (channel_number onto) ≡ Some new
    → HereAt parts caller place (Moves old.request new.request 1 1) pass channels
move-at parts caller place chan onto old new pass channels at has found found_new =
    here-with parts caller place (Move chan onto) (Moves old.request new.request 1 1) pass channels at has (λ i. move_for (request-is parts (channel_number chan) old found i) (request-is parts (channel_number onto) new found_new i))

moves-apart : (old new other : Request) (gap size : ℕ) → Moves old new gap size ≡ Opens other → ⊥
moves-apart old new other gap size same = cc

-- ---- where it makes no step

-- one of the requests isn't there
pub move-none : (parts : PlanParts) (chan onto : ChanNo) → slice_get parts.requests (channel_number chan) ≡ None → task_of (requests_of parts) (Move chan onto) ≡ None
move-none parts chan onto none = ap (λ found. move_for found (slice_get (requests_of parts) (channel_number onto))) (request-missing parts (channel_number chan) none)

pub move-none-new : (parts : PlanParts) (chan onto : ChanNo) → slice_get parts.requests (channel_number onto) ≡ None → task_of (requests_of parts) (Move chan onto) ≡ None
move-none-new parts chan onto none = ap (move_for (slice_get (requests_of parts) (channel_number chan))) (request-missing parts (channel_number onto) none) ∙ by (slice_get (requests_of parts) (channel_number chan)) where
  by : (found : Option Request) → move_for found None ≡ None
  by None = refl
  by (Some old) = refl

-- or isn't established
pub move-passed : (parts : PlanParts) (caller place : ℕ) (chan onto : ChanNo) (old new : RequestEntry) (pass : Token) (channels : List Channel) → CallerIsAt parts caller place pass channels → HasOp parts caller place (Move chan onto) → slice_get parts.requests (channel_number chan) ≡ Some old → slice_get parts.requests (channel_number onto) ≡ Some new
    → ((channel_in channels old.request.chan).established ≡ false) ⊎ ((channel_in channels new.request.chan).established ≡ false) → CallerIsAt parts caller (place + 1) pass channels
move-passed parts caller place chan onto old new pass channels at has found found_new off =
    let h = move-at parts caller place chan onto old new pass channels at has found found_new in
    let passes : takes_step h.between.outcomes (Moves old.request new.request 1 1) ≡ false = elim off [
      | inl is ↦ (let told = established-told (network_of parts) h.front _ pass channels old.request.chan false h.between is in ap (λ b. b && is_established new.request.chan h.between.outcomes) told)
      | inr is ↦ and_right (is_established old.request.chan h.between.outcomes) (is_established new.request.chan h.between.outcomes) (established-told (network_of parts) h.front _ pass channels new.request.chan false h.between is)
    ] in
    h.next pass channels refl refl (between-skipped (network_of parts) h.front (Moves old.request new.request 1 1) h.rest pass channels h.between passes (λ request same. moves-apart old.request new.request request 1 1 same))

-- ---- where it makes its steps

-- the move between two requests of the packets that were planned last on the first
abbrev pub move_of_last : List Channel → Request → Request → Moving
move_of_last channels old new = move_between old new (channel_in channels old.chan).gap (channel_in channels old.chan).size

module _ (parts : PlanParts) (links : List Link) (owners : List ActorNo) (caller place : ℕ) (chan onto : ChanNo) (old new : RequestEntry) (pass : Token) (channels : List Channel) (plan : IsPlan parts) (network : IsNetworkOf parts links owners) (at : CallerIsAt parts caller place pass channels) (has : HasOp parts caller place (Move chan onto))
    (found : slice_get parts.requests (channel_number chan) ≡ Some old) (found_new : slice_get parts.requests (channel_number onto) ≡ Some new) (open_old : (channel_in channels old.request.chan).established ≡ true) (open_new : (channel_in channels new.request.chan).established ≡ true) where
  abbrev task : Task
  task = Moves old.request new.request 1 1

  here-at : HereAt parts caller place task pass channels
  here-at = move-at parts caller place chan onto old new pass channels at has found found_new

  fits : MoveFits (network_of parts).links old.request new.request 1 1
  fits = task-fits parts caller place task pass channels plan here-at

  live-old : IsEstablished old.request pass.own
  live-old =
      let live = used-live old.request here-at.front task here-at.rest (ByMoveFrom new.request 1 1) (full-script parts (channel_number chan) old pass.actor here-at.front task here-at.rest plan found here-at.tasks (AMoveFrom new.request 1 1)) in
      here-at.between.live old.request live.opened live.unclosed (established-told (network_of parts) here-at.front _ pass channels old.request.chan true here-at.between open_old)

  full-new : FullScript new.request (here-at.front ++ task ∷ here-at.rest)
  full-new = full-script parts (channel_number onto) new pass.actor here-at.front task here-at.rest plan found_new here-at.tasks (AMoveOnto old.request 1 1)

  live-new : IsEstablished new.request pass.own
  live-new =
      let live = used-live new.request here-at.front task here-at.rest (ByMoveOnto old.request 1 1) full-new in
      here-at.between.live new.request live.opened live.unclosed (established-told (network_of parts) here-at.front _ pass channels new.request.chan true here-at.between open_new)

  -- the packets are those that were learnt
  gap-is : (channel_in channels old.request.chan).gap ≡ (last_packets old.request.chan here-at.between.outcomes).gap
  gap-is = ap (λ (t : Told). t.packets.gap) (here-at.between.known old.request.chan)

  size-is : (channel_in channels old.request.chan).size ≡ (last_packets old.request.chan here-at.between.outcomes).size
  size-is = ap (λ (t : Told). t.packets.size) (here-at.between.known old.request.chan)

  in-range : SubmitFits 1 (channel_in channels old.request.chan).gap (channel_in channels old.request.chan).size
  in-range = subst (λ (p : ℕ × ℕ). SubmitFits 1 p.0 p.1) (λ i. (sym gap-is i, sym size-is i)) (here-at.between.packets.range old.request.chan)

  size-kept : (channel_in channels old.request.chan).size ≤ new.request.contract.smax
  size-kept =
      let small = here-at.between.packets.small (channel_number old.request.chan) old.request (there-at parts (channel_number chan) old plan found) in
      let same = ap (λ k. k.smax) fits.same in
      let is = size-is in
      omega (arith, small, same, is)

  unsent : NoneSubmitted new.request.chan pass.own
  unsent = here-at.between.packets.unsent new.request.chan (joined-unsent new.request old.request 1 1 here-at.front here-at.rest fits.apart full-new)

  may-shift-last : MayShift owners links pass (move_of_last channels old.request new.request)
  may-shift-last = record {
    packets = in-range;
    apart = λ same. fits.apart (sym same);
    owned_leaving = owner-at parts links owners caller place (channel_number chan) old task pass channels plan network here-at found (AMoveFrom new.request 1 1);
    owned_joining = owner-at parts links owners caller place (channel_number onto) new task pass channels plan network here-at found_new (AMoveOnto old.request 1 1);
    hops_leaving = hops-of parts links owners (channel_number chan) old plan network found;
    hops_joining = hops-of parts links owners (channel_number onto) new plan network found_new;
    leaving = record { contract = old.request.contract; holds = live-old };
    joining = record { contract = new.request.contract; holds = live-new; small = size-kept };
    unsent = unsent;
    last = subst (λ (p : ℕ × ℕ). WerePlanned old.request.chan p.0 p.1 pass.own) (λ i. (sym gap-is i, sym size-is i)) (here-at.between.packets.last old.request.chan);
  }

  pub may-shift : (move : Moving) → move ≡ move_of_last channels old.request new.request → MayShift owners links pass move
  may-shift move is = subst (MayShift owners links pass) (sym is) may-shift-last

  module _ (pass' : Token) (channels' : List Channel) (mover : Mover) (told : Shifted) (by : pass'.actor ≡ pass.actor) (others : OthersStay old.request.chan pass.own pass'.own) (count_is : length channels' ≡ length channels)
      (learns : (outcomes : List Learnt) → AreTold channels outcomes → AreTold channels' (MovedTo old.request.chan new.request.chan told (channel_in channels old.request.chan).gap (channel_in channels old.request.chan).size ∷ outcomes)) where
    abbrev gap : ℕ
    gap = (channel_in channels old.request.chan).gap

    abbrev size : ℕ
    size = (channel_in channels old.request.chan).size

    abbrev own_task : Task
    own_task = Moves old.request new.request gap size

    at-end : (next : Option (LinkNo × Ask)) (first : Option Shifted) → at_end next first ≡ Some told → (next ≡ None) × (first ≡ Some told)
    at-end None first is = (refl, is)
    at-end (Some to) first is = cc

    leaves : (e : OwnEntry) (entries : List OwnEntry) → pass'.own ≡ pass.own ++ e ∷ entries → Follows (task_ask own_task) [] (e ∷ entries) → told_by e.reply ≡ told
        → Leaves (network_of parts).requests here-at.front task pass pass' (MovedTo old.request.chan new.request.chan told gap size ∷ here-at.between.outcomes) channels'
    leaves e entries own follows tells = record {
      known = learns here-at.between.outcomes here-at.between.known;
      fresh = λ c off had. others.unopened c (λ same. off.0 (sym same)) had;
      live = λ request had each accepts. elim (cases_eq (channel_number old.request.chan) (channel_number request.chan)) [
        | inl same ↦ absurd (let clash : false ≡ true = sym (left-off old.request.chan new.request.chan request.chan told gap size here-at.between.outcomes same) ∙ accepts in cc)
        | inr other ↦ others.established request (λ same. other (sym same)) (here-at.between.live request (has-front (Opens request) here-at.front task had (λ same. moves-apart old.request new.request request 1 1 same)) (each-front _ here-at.front task each).0
            (sym (left-other old.request.chan new.request.chan request.chan told gap size here-at.between.outcomes other) ∙ accepts))
      ];
      packets = packets-moved (network_of parts).requests here-at.front old.request new.request gap size told pass.own pass'.own e entries here-at.between.outcomes 1 1 (ordered parts plan) (there-at parts (channel_number onto) new plan found_new) in-range size-kept unsent own follows tells here-at.between.packets;
    }

    takes : takes_step here-at.between.outcomes task ≡ true
    takes = λ i. (established-told (network_of parts) here-at.front _ pass channels old.request.chan true here-at.between open_old i && established-told (network_of parts) here-at.front _ pass channels new.request.chan true here-at.between open_new i)

    begins : ready here-at.between.outcomes task ≡ own_task
    begins = λ i. Moves old.request new.request (sym gap-is i) (sym size-is i)

    goes-on : (entries : List OwnEntry) → pass'.own ≡ pass.own ++ entries → Follows (task_ask own_task) [] entries → (task_ask own_task (map reply_in entries) ≡ None) × (first_told (map reply_in entries) ≡ Some told) → CallerIsAt parts caller (place + 1) pass' channels'
    goes-on [] own follows ends = absurd (let clash : None ≡ Some told = ends.1 in cc)
    goes-on (e ∷ entries) own follows ends =
        let tells : told_by e.reply ≡ told = same_Some (told_by e.reply) told ends.1 in
        here-at.next pass' channels' by count_is
        (between-made (network_of parts) here-at.front task own_task here-at.rest pass pass' channels channels' (e ∷ entries) here-at.between here-at.tasks by own takes begins follows ends.0 (λ empty. cc)
        (subst (λ (t : Shifted). Leaves (network_of parts).requests here-at.front task pass pass' (MovedTo old.request.chan new.request.chan t gap size ∷ here-at.between.outcomes) channels') (sym tells) (leaves e entries own follows tells)))

    pub move-over : (move : Moving) → move ≡ move_of_last channels old.request new.request → Shifts move mover pass pass' told → CallerIsAt parts caller (place + 1) pass' channels'
    move-over move is moved =
        let so = subst (λ m. Shifts m mover pass pass' told) is moved in
        goes-on so.entries so.own so.follows (at-end (next_of_move (move_of_last channels old.request new.request) (map reply_in so.entries)) (first_told (map reply_in so.entries)) so.told_is)
