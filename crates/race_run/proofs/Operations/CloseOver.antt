-- A close, from what the teardown promises: the caller is at its next operation.
use Rattle.std.proofs.Common.{◌≡◌, ℕ, ◌+◌, true, false, List, map, length, Some, None, refl, sym, ap, ◌∙◌, arith}
use Rattle.std.proofs.lemmas.List.{length-map}
use Rattle.std.proofs.lemmas.Option.{slice_get_past}
use Rattle.std.specs.List.{slice_get}
use Rattle.net_units.specs.Numbers.{channel_number}
use Rattle.net_units.specs.declared.numbers.ActorNo.{ActorNo}
use Rattle.net_units.specs.declared.numbers.ChanNo.{ChanNo}
use Rattle.link_steps.specs.Split.{Link}
use Rattle.link_steps.specs.declared.asks.Ask.TheVariants.{Release}
use Rattle.setup_protocol.specs.Setup.{asked_of}
use Rattle.setup_protocol.specs.Teardown.{first_count}
use Rattle.setup_protocol.specs.declared.request.Request.{Request}
use Rattle.link_ledger.specs.Owners.{IsOwner}
use Rattle.link_ledger.specs.Tokens.{Token}
use Rattle.shared_network.specs.Calls.{OthersStay, IsEstablished, TearsDown, reply_in}
use Rattle.call_script.specs.Parts.{PlanParts}
use Rattle.call_script.specs.Plans.{IsPlan}
use Rattle.call_script.specs.Scripts.{task_ask}
use Rattle.call_script.specs.Tasks.{network_of}
use Rattle.call_script.specs.declared.entries.RequestEntry.{RequestEntry}
use Rattle.call_script.specs.declared.operations.Op.TheVariants.{Close}
use Rattle.call_script.specs.declared.tasks.Task.TheVariants.{Opens, Closes}
use Rattle.race_run.specs.Callers.{CallerIsAt, HasOp, IsNetworkOf}
use Rattle.race_run.proofs.Operations.BetweenOperations.{between-skipped, between-made}
use Rattle.race_run.proofs.Operations.ChannelsInScript.{AClose, ByClose, each-front, has-front, used-live}
use Rattle.call_script.specs.Channels.{channel_in}
use Rattle.call_script.specs.declared.channels.Channel.{Channel}
use Rattle.call_script.proofs.PlansFit.{route-least}
use Rattle.race_run.proofs.Operations.OperationAtPlace.{HereAt, here-with, request-at, full-script, owner-at, established-told}
use Rattle.race_run.proofs.Operations.PacketsLearnt.{packets-stay}
use Rattle.shared_network.proofs.CallSteps.SubmitsOfCalls.{teardown-unsent}

close-at : (parts : PlanParts) (caller place : ℕ) (chan : ChanNo) (entry : RequestEntry) (pass : Token) (channels : List Channel) → CallerIsAt parts caller place pass channels → HasOp parts caller place (Close chan) → slice_get parts.requests (channel_number chan) ≡ Some entry → HereAt parts caller place (Closes entry.request) pass channels
close-at parts caller place chan entry pass channels at has found = here-with parts caller place (Close chan) (Closes entry.request) pass channels at has (request-at parts (λ request. Closes request) (channel_number chan) entry found)

closes-apart : (one other : Request) → Closes one ≡ Opens other → ⊥
closes-apart one other same = cc

pub close-passed : (parts : PlanParts) (caller place : ℕ) (chan : ChanNo) (entry : RequestEntry) (pass : Token) (channels : List Channel) → IsPlan parts → CallerIsAt parts caller place pass channels → HasOp parts caller place (Close chan) → slice_get parts.requests (channel_number chan) ≡ Some entry → (channel_in channels entry.request.chan).established ≡ false → CallerIsAt parts caller (place + 1) pass channels
close-passed parts caller place chan entry pass channels plan at has found is =
    let h = close-at parts caller place chan entry pass channels at has found in
    h.next pass channels refl refl (between-skipped (network_of parts) h.front (Closes entry.request) h.rest pass channels h.between (established-told (network_of parts) h.front _ pass channels entry.request.chan false h.between is) (λ request same. closes-apart entry.request request same))

pub close-owner : (parts : PlanParts) (links : List Link) (owners : List ActorNo) (caller place : ℕ) (chan : ChanNo) (entry : RequestEntry) (pass : Token) (channels : List Channel) → IsPlan parts → IsNetworkOf parts links owners → CallerIsAt parts caller place pass channels → HasOp parts caller place (Close chan) → slice_get parts.requests (channel_number chan) ≡ Some entry → IsOwner owners pass.actor entry.request.chan
close-owner parts links owners caller place chan entry pass channels plan network at has found =
    owner-at parts links owners caller place (channel_number chan) entry (Closes entry.request) pass channels plan network (close-at parts caller place chan entry pass channels at has found) found AClose

pub close-established : (parts : PlanParts) (caller place : ℕ) (chan : ChanNo) (entry : RequestEntry) (pass : Token) (channels : List Channel) → IsPlan parts → CallerIsAt parts caller place pass channels → HasOp parts caller place (Close chan) → slice_get parts.requests (channel_number chan) ≡ Some entry → (channel_in channels entry.request.chan).established ≡ true → IsEstablished entry.request pass.own
close-established parts caller place chan entry pass channels plan at has found is =
    let h = close-at parts caller place chan entry pass channels at has found in
    let live = used-live entry.request h.front (Closes entry.request) h.rest ByClose (full-script parts (channel_number chan) entry pass.actor h.front (Closes entry.request) h.rest plan found h.tasks AClose) in
    h.between.live entry.request live.opened live.unclosed (established-told (network_of parts) h.front _ pass channels entry.request.chan true h.between is)

pub close-over : (parts : PlanParts) (caller place : ℕ) (chan : ChanNo) (entry : RequestEntry) (count : ℕ) (pass pass' : Token) (channels : List Channel) → IsPlan parts → CallerIsAt parts caller place pass channels → HasOp parts caller place (Close chan) → slice_get parts.requests (channel_number chan) ≡ Some entry → (channel_in channels entry.request.chan).established ≡ true
    → pass'.actor ≡ pass.actor → TearsDown entry.request pass pass' count → OthersStay entry.request.chan pass.own pass'.own → CallerIsAt parts caller (place + 1) pass' channels
close-over parts caller place chan entry count pass pass' channels plan at has found is by torn others =
    let h = close-at parts caller place chan entry pass channels at has found in
    let task = Closes entry.request in
    let long : length (map reply_in torn.entries) ≡ length entry.request.route = length-map torn.entries reply_in ∙ torn.whole in
    let none : task_ask task (map reply_in torn.entries) ≡ None = ap (λ found. asked_of found (λ hop. Release entry.request.chan (first_count (map reply_in torn.entries)))) (slice_get_past entry.request.route (length (map reply_in torn.entries)) (omega (arith, long))) in
    let least = route-least parts (channel_number chan) entry plan found in
    h.next pass' channels by refl
    (between-made (network_of parts) h.front task task h.rest pass pass' channels channels torn.entries h.between h.tasks by torn.own (established-told (network_of parts) h.front _ pass channels entry.request.chan true h.between is) refl torn.follows none (λ empty. absurd (let size = torn.whole in let zero_long : length torn.entries ≡ 0 = ap length empty in omega (arith, least, size, zero_long))) (record {
      known = h.between.known;
      fresh = λ c off had. others.unopened c (λ same. off (sym same)) had;
      live = λ request has each accepts. (let both = each-front _ h.front task each in others.established request (λ same. both.1 (sym same)) (h.between.live request (has-front (Opens request) h.front task has (λ same. closes-apart entry.request request same)) both.0 accepts));
      packets = packets-stay (network_of parts).requests h.front task pass.own pass'.own torn.entries h.between.outcomes h.between.outcomes torn.own (λ c. teardown-unsent entry.request (channel_number c) torn.entries torn.follows) (λ c. refl) h.between.packets;
    }))
