-- An open, from what the setup promises: the caller is at its next operation.
use Rattle.std.proofs.Common.{◌≡◌, ◌≢◌, ℕ, ◌+◌, true, List, [], ◌∷◌, ◌++◌, map, length, Some, None, refl, sym, ap, ◌∙◌, subst, inl, inr}
use Rattle.std.proofs.lemmas.Bool.{eq-eqb, ne_eqb}
use Rattle.std.specs.List.{slice_get}
use Rattle.net_units.specs.Numbers.{channel_number}
use Rattle.net_units.specs.declared.numbers.ActorNo.{ActorNo}
use Rattle.net_units.specs.declared.numbers.ChanNo.{ChanNo}
use Rattle.link_steps.specs.Lists.{Each}
use Rattle.link_steps.specs.Split.{Link}
use Rattle.step_stamp.specs.Lists.{Has}
use Rattle.step_stamp.proofs.ListMembers.{each-has, has-split}
use Rattle.setup_protocol.specs.Laws.{is_accepted}
use Rattle.setup_protocol.specs.Setup.{Outcome, Progress, Settled, asked, settled_in, progress_of, verdict_of}
use Rattle.setup_protocol.specs.declared.request.Request.{Request}
use Rattle.link_ledger.specs.Owners.{IsOwner}
use Rattle.link_ledger.specs.Tokens.{Token}
use Rattle.shared_network.specs.Calls.{OthersStay, HasNone, IsEstablished, SetsUp, reply_in}
use Rattle.call_script.specs.Owners.{TaskOff}
use Rattle.call_script.specs.Parts.{PlanParts}
use Rattle.call_script.specs.Plans.{IsPlan}
use Rattle.call_script.specs.Scripts.{Learnt, Settles, newest, is_established, outcome_by, settled_as}
use Rattle.call_script.specs.Tasks.{network_of}
use Rattle.call_script.specs.declared.entries.RequestEntry.{RequestEntry}
use Rattle.call_script.specs.declared.operations.Op.TheVariants.{Open}
use Rattle.call_script.specs.declared.tasks.Task.TheVariants.{Opens}
use Rattle.race_run.specs.Callers.{CallerIsAt, HasOp, IsNetworkOf}
use Rattle.race_run.proofs.Operations.BetweenOperations.{Leaves, between-made}
use Rattle.race_run.proofs.Operations.ChannelsInScript.{AnOpen, each-front, opened-once}
use Rattle.setup_protocol.proofs.SetupAdvances.{none-settled}
use Rattle.call_script.specs.Channels.{AreTold}
use Rattle.call_script.specs.declared.channels.Channel.{Channel}
use Rattle.call_script.proofs.PlansFit.{route-least}
use Rattle.race_run.proofs.Operations.OperationAtPlace.{HereAt, here-with, request-at, full-script, owner-at}
use Rattle.race_run.proofs.Operations.PacketsLearnt.{packets-stay, settled-packets}
use Rattle.shared_network.proofs.CallSteps.SubmitsOfCalls.{setup-unsent}

open-at : (parts : PlanParts) (caller place : ℕ) (chan : ChanNo) (entry : RequestEntry) (pass : Token) (channels : List Channel) → CallerIsAt parts caller place pass channels → HasOp parts caller place (Open chan) → slice_get parts.requests (channel_number chan) ≡ Some entry → HereAt parts caller place (Opens entry.request) pass channels
open-at parts caller place chan entry pass channels at has found = here-with parts caller place (Open chan) (Opens entry.request) pass channels at has (request-at parts (λ request. Opens request) (channel_number chan) entry found)

pub open-owner : (parts : PlanParts) (links : List Link) (owners : List ActorNo) (caller place : ℕ) (chan : ChanNo) (entry : RequestEntry) (pass : Token) (channels : List Channel) → IsPlan parts → IsNetworkOf parts links owners → CallerIsAt parts caller place pass channels → HasOp parts caller place (Open chan) → slice_get parts.requests (channel_number chan) ≡ Some entry → IsOwner owners pass.actor entry.request.chan
open-owner parts links owners caller place chan entry pass channels plan network at has found =
    owner-at parts links owners caller place (channel_number chan) entry (Opens entry.request) pass channels plan network (open-at parts caller place chan entry pass channels at has found) found AnOpen

open-off : (parts : PlanParts) (caller place : ℕ) (chan : ChanNo) (entry : RequestEntry) (pass : Token) (channels : List Channel) → IsPlan parts → (h : HereAt parts caller place (Opens entry.request) pass channels) → slice_get parts.requests (channel_number chan) ≡ Some entry → Each (TaskOff (channel_number entry.request.chan)) h.front
open-off parts caller place chan entry pass channels plan h found = opened-once entry.request h.front h.rest (full-script parts (channel_number chan) entry pass.actor h.front (Opens entry.request) h.rest plan found h.tasks AnOpen)

pub open-new : (parts : PlanParts) (caller place : ℕ) (chan : ChanNo) (entry : RequestEntry) (pass : Token) (channels : List Channel) → IsPlan parts → CallerIsAt parts caller place pass channels → HasOp parts caller place (Open chan) → slice_get parts.requests (channel_number chan) ≡ Some entry → HasNone entry.request.chan pass.own
open-new parts caller place chan entry pass channels plan at has found =
    let h = open-at parts caller place chan entry pass channels at has found in
    h.between.fresh entry.request.chan (open-off parts caller place chan entry pass channels plan h found)

settled-none : (request : Request) (progress : Progress) (outcome : Outcome) → settled_in progress ≡ Some outcome → asked request progress ≡ None
settled-none request (Settled o) outcome is = refl
settled-none request progress outcome is = cc

same-open : (one other : Request) → Opens one ≡ Opens other → one ≡ other
same-open one other same = cc

established-first : (chan : ChanNo) (outcome : Outcome) (outcomes : List Learnt) (c : ChanNo) → channel_number chan ≡ channel_number c → is_established c (Settles chan outcome ∷ outcomes) ≡ is_accepted outcome
unfolding is_established newest
established-first chan outcome outcomes c same = rw (eq-eqb (channel_number chan) (channel_number c) same) refl

established-later : (chan : ChanNo) (outcome : Outcome) (outcomes : List Learnt) (c : ChanNo) → channel_number chan ≢ channel_number c → is_established c (Settles chan outcome ∷ outcomes) ≡ is_established c outcomes
unfolding is_established newest
established-later chan outcome outcomes c other = rw (ne_eqb (channel_number chan) (channel_number c) other) refl

-- what a setup promises of the pass
pub record OpensBy (request : Request) (pass pass' : Token) (outcome : Outcome) : Type 0 where
  pub by : pass'.actor ≡ pass.actor
  pub made : SetsUp request pass pass' outcome
  pub established : is_accepted outcome ≡ true → IsEstablished request pass'.own
  pub others : OthersStay request.chan pass.own pass'.own

pub open-over : (parts : PlanParts) (caller place : ℕ) (chan : ChanNo) (entry : RequestEntry) (pass pass' : Token) (channels channels' : List Channel) (outcome : Outcome) → IsPlan parts → CallerIsAt parts caller place pass channels → HasOp parts caller place (Open chan) → slice_get parts.requests (channel_number chan) ≡ Some entry
    → OpensBy entry.request pass pass' outcome → length channels' ≡ length channels → ((outcomes : List Learnt) → AreTold channels outcomes → AreTold channels' (Settles entry.request.chan outcome ∷ outcomes)) → CallerIsAt parts caller (place + 1) pass' channels'
open-over parts caller place chan entry pass pass' channels channels' outcome plan at has found opened count told =
    let h = open-at parts caller place chan entry pass channels at has found in
    let off = open-off parts caller place chan entry pass channels plan h found in
    let entries = opened.made.entries in
    let ends = opened.made.verdict in
    let outcomes : outcome_by (Opens entry.request) (map reply_in entries) ≡ Settles entry.request.chan outcome ∷ [] = ap (settled_as entry.request) ends in
    let some : entries ≡ [] → ⊥ = λ none. (let early : verdict_of entry.request [] ≡ Some outcome = ap (λ es. verdict_of entry.request (map reply_in es)) (sym none) ∙ ends in let open_yet = none-settled entry.request (route-least parts (channel_number chan) entry plan found) in let clash : None ≡ Some outcome = sym open_yet ∙ early in cc) in
    h.next pass' channels' opened.by count
    (between-made (network_of parts) h.front (Opens entry.request) (Opens entry.request) h.rest pass pass' channels channels' entries h.between h.tasks opened.by opened.made.own refl refl opened.made.follows (settled-none entry.request (progress_of entry.request (map reply_in entries)) outcome ends) some
    (subst (λ os. Leaves (network_of parts).requests h.front (Opens entry.request) pass pass' (os ++ h.between.outcomes) channels') (sym outcomes) (record {
      known = told h.between.outcomes h.between.known;
      fresh = λ c task_off none. opened.others.unopened c (λ same. task_off (sym same)) none;
      live = λ request has each accepts. elim (has-split (Opens request) h.front (Opens entry.request ∷ []) has) [
        | inl before ↦
            (let other : channel_number request.chan ≢ channel_number entry.request.chan = each-has (TaskOff (channel_number entry.request.chan)) (Opens request) h.front off before in
            opened.others.established request other (h.between.live request before (each-front _ h.front (Opens entry.request) each).0 (sym (established-later entry.request.chan outcome h.between.outcomes request.chan (λ same. other (sym same))) ∙ accepts)))
        | inr now ↦ last-one request now accepts
      ];
      packets = packets-stay (network_of parts).requests h.front (Opens entry.request) pass.own pass'.own entries h.between.outcomes (Settles entry.request.chan outcome ∷ h.between.outcomes) opened.made.own
          (λ c. setup-unsent entry.request (channel_number c) entries opened.made.follows) (λ c. settled-packets c entry.request.chan outcome h.between.outcomes) h.between.packets;
    }))) where
      last-one : (request : Request) → Has (Opens request) (Opens entry.request ∷ []) → is_established request.chan (Settles entry.request.chan outcome ∷ (open-at parts caller place chan entry pass channels at has found).between.outcomes) ≡ true → IsEstablished request pass'.own
      last-one request (inr none) accepts = absurd none
      last-one request (inl same) accepts =
          (let one : entry.request ≡ request = same-open entry.request request same in
          subst (λ r. IsEstablished r pass'.own) one (opened.established (sym (established-first entry.request.chan outcome _ request.chan (ap (λ (r : Request). channel_number r.chan) one)) ∙ accepts)))
