-- A send, on a channel or of best-effort packets, from what the submit promises: the caller is at its next operation.
use Rattle.std.proofs.Common.{◌≡◌, ℕ, ◌+◌, ◌<◌, ◌≤◌, true, false, List, [], ◌∷◌, ◌++◌, map, length, Option, Some, None, refl, sym, ap, ◌∙◌, subst, inl, inr, arith}
use Rattle.std.proofs.lemmas.Option.{same_Some, slice_get-map, slice_get_cases, slice_get_within}
use Rattle.std.specs.List.{slice_get}
use Rattle.std.specs.Prelude.{option_map}
use Rattle.net_units.specs.Numbers.{channel_number, link_number}
use Rattle.net_units.specs.declared.numbers.ActorNo.{ActorNo}
use Rattle.net_units.specs.declared.numbers.ChanNo.{ChanNo}
use Rattle.hop_reservation.specs.declared.route.Hop.{Hop}
use Rattle.link_steps.specs.Legal.{AskFits}
use Rattle.link_steps.specs.Split.{Link}
use Rattle.link_steps.specs.declared.asks.Ask.TheVariants.{Submit}
use Rattle.link_steps.specs.declared.replies.Reply.{Reply}
use Rattle.channel_laws.specs.Asks.{IsOff}
use Rattle.shared_network.specs.Added.{Adds, Asked}
use Rattle.shared_network.specs.Shifts.{KeepsContract}
use Rattle.link_steps.specs.declared.replies.Reply.TheVariants as Is
use Rattle.shared_network.specs.Sight.{FitsAt}
use Rattle.net_units.specs.declared.numbers.LinkNo.{LinkNo}
use Rattle.setup_protocol.specs.declared.request.Request.{Request}
use Rattle.link_ledger.specs.Owners.{IsOwner}
use Rattle.link_ledger.specs.Tokens.{Token}
use Rattle.link_ledger.specs.declared.entries.OwnEntry.{OwnEntry}
use Rattle.shared_network.specs.Calls.{HasNone, IsEstablished, reply_in}
use Rattle.setup_protocol.specs.Hops.{IsHopOf}
use Rattle.call_script.specs.Fits.{SendFits}
use Rattle.call_script.specs.Parts.{PlanParts}
use Rattle.call_script.specs.Plans.{IsPlan}
use Rattle.call_script.specs.Scripts.{Learnt, packets_ask, planned_as, task_ask}
use Rattle.call_script.specs.Tasks.{network_of, request_of, send_on, task_for}
use Rattle.call_script.specs.declared.entries.RequestEntry.{RequestEntry}
use Rattle.call_script.specs.declared.operations.Op.TheVariants.{Send}
use Rattle.call_script.specs.declared.tasks.Task.{Task}
use Rattle.call_script.specs.declared.tasks.Task.TheVariants.{Opens, Sends}
use Rattle.run_engine.proofs.Replies.ClosingStands.{planned-established}
use Rattle.race_run.specs.Callers.{CallerIsAt, HasOp, IsNetworkOf}
use Rattle.race_run.proofs.Operations.BetweenOperations.{Leaves, between-skipped, between-made}
use Rattle.race_run.proofs.Operations.ChannelsInScript.{ASend, BySend, each-front, has-front, used-live}
use Rattle.link_steps.proofs.ListParts.{Each-at}
use Rattle.call_script.specs.Channels.{AreTold, channel_in}
use Rattle.call_script.specs.declared.channels.Channel.{Channel}
use Rattle.call_script.proofs.PlansFit.{route-least}
use Rattle.race_run.proofs.Operations.OperationAtPlace.{HereAt, here-with, full-script, owner-at, hops-of, task-fits, established-told, ordered, there-at, one-follows, one-some, one-reply}
use Rattle.race_run.proofs.Operations.PacketsLearnt.{packets-stay, packets-sent}
use Rattle.shared_network.proofs.CallSteps.SubmitsOfCalls.{one-unsent}

-- ---- sending

-- the first hop of a request
record FirstHop (request : Request) : Type 0 where
  hop : Hop
  is : slice_get request.route 0 ≡ Some hop

first-hop : (parts : PlanParts) (c : ℕ) (entry : RequestEntry) → IsPlan parts → slice_get parts.requests c ≡ Some entry → FirstHop entry.request
first-hop parts c entry plan found =
    let least = route-least parts c entry plan found in
    elim (slice_get_cases entry.request.route 0).1 [
      | inl at ↦ record { hop = at.0; is = at.2 }
      | inr past ↦ absurd (omega (arith, past.0, least))
    ]

abbrev send_task : Request → Hop → ℕ → ℕ → ℕ → Task
send_task request hop count gap size = Sends hop.link (Some request.chan) count gap size

send-at : (parts : PlanParts) (caller place : ℕ) (chan : ChanNo) (count gap size : ℕ) (entry : RequestEntry) (hop : Hop) (pass : Token) (channels : List Channel) → CallerIsAt parts caller place pass channels → HasOp parts caller place (Send chan count gap size) → slice_get parts.requests (channel_number chan) ≡ Some entry → slice_get entry.request.route 0 ≡ Some hop
    → HereAt parts caller place (send_task entry.request hop count gap size) pass channels
send-at parts caller place chan count gap size entry hop pass channels at has found first =
    here-with parts caller place (Send chan count gap size) (send_task entry.request hop count gap size) pass channels at has
    (ap (task_for (send_on count gap size)) (slice_get-map request_of parts.requests (channel_number chan) ∙ ap (option_map request_of) found) ∙ ap (option_map (λ (h : Hop). send_task entry.request h count gap size)) first)

sends-apart : (link : LinkNo) (chan : Option ChanNo) (other : Request) (count gap size : ℕ) → Sends link chan count gap size ≡ Opens other → ⊥
sends-apart link chan other count gap size same = cc

pub send-passed : (parts : PlanParts) (caller place : ℕ) (chan : ChanNo) (count gap size : ℕ) (entry : RequestEntry) (pass : Token) (channels : List Channel) → IsPlan parts → CallerIsAt parts caller place pass channels → HasOp parts caller place (Send chan count gap size) → slice_get parts.requests (channel_number chan) ≡ Some entry → (channel_in channels entry.request.chan).established ≡ false → CallerIsAt parts caller (place + 1) pass channels
send-passed parts caller place chan count gap size entry pass channels plan at has found is =
    let first = first-hop parts (channel_number chan) entry plan found in
    let h = send-at parts caller place chan count gap size entry first.hop pass channels at has found first.is in
    h.next pass channels refl refl (between-skipped (network_of parts) h.front (send_task entry.request first.hop count gap size) h.rest pass channels h.between (established-told (network_of parts) h.front _ pass channels entry.request.chan false h.between is) (λ request same. sends-apart first.hop.link (Some entry.request.chan) request count gap size same))

pub send-owner : (parts : PlanParts) (links : List Link) (owners : List ActorNo) (caller place : ℕ) (chan : ChanNo) (count gap size : ℕ) (entry : RequestEntry) (pass : Token) (channels : List Channel) → IsPlan parts → IsNetworkOf parts links owners → CallerIsAt parts caller place pass channels → HasOp parts caller place (Send chan count gap size) → slice_get parts.requests (channel_number chan) ≡ Some entry → IsOwner owners pass.actor entry.request.chan
send-owner parts links owners caller place chan count gap size entry pass channels plan network at has found =
    let first = first-hop parts (channel_number chan) entry plan found in
    owner-at parts links owners caller place (channel_number chan) entry (send_task entry.request first.hop count gap size) pass channels plan network (send-at parts caller place chan count gap size entry first.hop pass channels at has found first.is) found (ASend first.hop.link count gap size)

-- the first hop is over a link of the network
pub send-there : (parts : PlanParts) (links : List Link) (owners : List ActorNo) (c : ℕ) (entry : RequestEntry) (hop : Hop) → IsPlan parts → IsNetworkOf parts links owners → slice_get parts.requests c ≡ Some entry → slice_get entry.request.route 0 ≡ Some hop → link_number hop.link < length links
send-there parts links owners c entry hop plan network found first =
    let of : IsHopOf links hop = Each-at (IsHopOf links) entry.request.route 0 hop (hops-of parts links owners c entry plan network found) first in
    slice_get_within links (link_number hop.link) of.link of.linked

pub send-fits : (parts : PlanParts) (links : List Link) (caller place : ℕ) (chan : ChanNo) (count gap size : ℕ) (entry : RequestEntry) (pass : Token) (channels : List Channel) (l : ℕ) → IsPlan parts → CallerIsAt parts caller place pass channels → HasOp parts caller place (Send chan count gap size) → slice_get parts.requests (channel_number chan) ≡ Some entry → FitsAt links l (Submit entry.request.chan count gap size)
send-fits parts links caller place chan count gap size entry pass channels l plan at has found =
    let first = first-hop parts (channel_number chan) entry plan found in
    let h = send-at parts caller place chan count gap size entry first.hop pass channels at has found first.is in
    let fits : SendFits (network_of parts).links first.hop.link (Some entry.request.chan) count gap size = task-fits parts caller place (send_task entry.request first.hop count gap size) pass channels plan h in
    λ link there. fits.packets

pub send-over : (parts : PlanParts) (caller place : ℕ) (chan : ChanNo) (count gap size : ℕ) (entry : RequestEntry) (hop : Hop) (reply : Reply) (pass pass' : Token) (channels channels' : List Channel) → IsPlan parts → CallerIsAt parts caller place pass channels → HasOp parts caller place (Send chan count gap size) → slice_get parts.requests (channel_number chan) ≡ Some entry
    → (channel_in channels entry.request.chan).established ≡ true → slice_get entry.request.route 0 ≡ Some hop → pass'.actor ≡ pass.actor → Adds pass pass' (record { link = hop.link; ask = Submit entry.request.chan count gap size; reply = reply } ∷ [])
    → ((request : Request) → IsEstablished request pass.own → IsEstablished request pass'.own) → ((c : ChanNo) → IsOff (channel_number c) (Submit entry.request.chan count gap size) → HasNone c pass.own → HasNone c pass'.own) → KeepsContract hop.link (Submit entry.request.chan count gap size) reply pass.own
    → length channels' ≡ length channels → ((outcomes : List Learnt) → AreTold channels outcomes → AreTold channels' (planned_as (Some entry.request.chan) gap size (reply ∷ []) ++ outcomes)) → CallerIsAt parts caller (place + 1) pass' channels'
send-over parts caller place chan count gap size entry hop reply pass pass' channels channels' plan at has found is first by made established unopened small count_is told =
    let h = send-at parts caller place chan count gap size entry hop pass channels at has found first in
    let task = send_task entry.request hop count gap size in
    let one : Asked = record { link = hop.link; ask = Submit entry.request.chan count gap size; reply = reply } in
    let replies = one-reply made.entries one made.are in
    let none : task_ask task (map reply_in made.entries) ≡ None = ap (task_ask task) replies in
    let fits : SendFits (network_of parts).links hop.link (Some entry.request.chan) count gap size = task-fits parts caller place task pass channels plan h in
    let live = used-live entry.request h.front task h.rest (BySend hop.link count gap size) (full-script parts (channel_number chan) entry pass.actor h.front task h.rest plan found h.tasks (ASend hop.link count gap size)) in
    let told_is = established-told (network_of parts) h.front _ pass channels entry.request.chan true h.between is in
    h.next pass' channels' by count_is
    (between-made (network_of parts) h.front task task h.rest pass pass' channels channels' made.entries h.between h.tasks by made.own told_is refl (one-follows (task_ask task) made.entries one made.are refl) none (one-some made.entries one made.are)
    (subst (λ rs. Leaves (network_of parts).requests h.front task pass pass' (planned_as (Some entry.request.chan) gap size rs ++ h.between.outcomes) channels') (sym replies) (record {
      known = told h.between.outcomes h.between.known;
      fresh = λ c off had. unopened c off had;
      live = λ request had each accepts. established request (h.between.live request (has-front (Opens request) h.front task had (λ same. sends-apart hop.link (Some entry.request.chan) request count gap size same)) (each-front _ h.front task each).0 (sym (planned-established request.chan (Some entry.request.chan) gap size (reply ∷ []) h.between.outcomes) ∙ accepts));
      packets = packets-sent (network_of parts).requests h.front hop.link entry.request count gap size reply pass.own pass'.own made.entries h.between.outcomes (ordered parts plan) (there-at parts (channel_number chan) entry plan found) fits.packets
          (λ clock planned. within hop.link entry.request count gap size clock reply pass.own planned small hop first (h.between.live entry.request live.opened live.unclosed told_is) refl) made.own made.are h.between.packets;
    }))) where
      within : (link : LinkNo) (request : Request) (count gap size clock : ℕ) (reply : Reply) (own : List OwnEntry) → reply ≡ Is.Planned clock → KeepsContract link (Submit request.chan count gap size) reply own → (hop : Hop) → slice_get request.route 0 ≡ Some hop → IsEstablished request own → hop.link ≡ link → size ≤ request.contract.smax
      within link request count gap size clock reply own planned small hop first live on = subst (λ r. KeepsContract link (Submit request.chan count gap size) r own) planned small request.route request.contract hop first on live

-- ---- sending best-effort packets

pub best-there : (parts : PlanParts) (links : List Link) (owners : List ActorNo) (caller place : ℕ) (link : LinkNo) (count gap size : ℕ) (pass : Token) (channels : List Channel) → IsPlan parts → IsNetworkOf parts links owners → HereAt parts caller place (Sends link None count gap size) pass channels → link_number link < length links
best-there parts links owners caller place link count gap size pass channels plan network here =
    let fits : SendFits (network_of parts).links link None count gap size = task-fits parts caller place (Sends link None count gap size) pass channels plan here in
    subst (λ (ls : List Link). link_number link < length ls) (sym network.links_are) (slice_get_within (network_of parts).links (link_number link) fits.link fits.linked)

pub best-fits : (parts : PlanParts) (links : List Link) (owners : List ActorNo) (caller place : ℕ) (link : LinkNo) (count gap size : ℕ) (pass : Token) (channels : List Channel) → IsPlan parts → IsNetworkOf parts links owners → HereAt parts caller place (Sends link None count gap size) pass channels → FitsAt links (link_number link) (packets_ask None count gap size)
best-fits parts links owners caller place link count gap size pass channels plan network here =
    let fits : SendFits (network_of parts).links link None count gap size = task-fits parts caller place (Sends link None count gap size) pass channels plan here in
    λ found there. (let same : fits.link ≡ found = same_Some fits.link found (sym fits.linked ∙ ap (λ (ls : List Link). slice_get ls (link_number link)) (sym network.links_are) ∙ there) in
    subst (λ (l : Link). AskFits l.shape (packets_ask None count gap size)) same fits.packets)

pub best-over : (parts : PlanParts) (caller place : ℕ) (link : LinkNo) (count gap size : ℕ) (reply : Reply) (pass pass' : Token) (channels : List Channel) → HereAt parts caller place (Sends link None count gap size) pass channels
    → pass'.actor ≡ pass.actor → Adds pass pass' (record { link = link; ask = packets_ask None count gap size; reply = reply } ∷ [])
    → ((request : Request) → IsEstablished request pass.own → IsEstablished request pass'.own) → ((c : ChanNo) → IsOff (channel_number c) (packets_ask None count gap size) → HasNone c pass.own → HasNone c pass'.own) → CallerIsAt parts caller (place + 1) pass' channels
best-over parts caller place link count gap size reply pass pass' channels h by made established unopened =
    let task = Sends link None count gap size in
    let one : Asked = record { link = link; ask = packets_ask None count gap size; reply = reply } in
    let none : task_ask task (map reply_in made.entries) ≡ None = ap (task_ask task) (one-reply made.entries one made.are) in
    h.next pass' channels by refl
    (between-made (network_of parts) h.front task task h.rest pass pass' channels channels made.entries h.between h.tasks by made.own refl refl (one-follows (task_ask task) made.entries one made.are refl) none (one-some made.entries one made.are) (record {
      known = h.between.known;
      fresh = λ c off had. unopened c tt had;
      live = λ request had each accepts. established request (h.between.live request (has-front (Opens request) h.front task had (λ same. sends-apart link None request count gap size same)) (each-front _ h.front task each).0 accepts);
      packets = packets-stay (network_of parts).requests h.front task pass.own pass'.own made.entries h.between.outcomes h.between.outcomes made.own (λ c. one-unsent (channel_number c) made.entries one made.are tt) (λ c. refl) h.between.packets;
    }))
