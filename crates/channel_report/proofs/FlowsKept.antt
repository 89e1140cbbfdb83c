-- What is kept of the packets of all channels after one more row, and after one more entry of a run.
use Rattle.std.proofs.Common.{◌≡◌, ◌≢◌, ℕ, suc, ◌+◌, ◌-◌, ◌≤◌, Bool, true, false, Option, Some, None, List, [], ◌∷◌, ◌++◌, length, map, set, reverse, refl, sym, ap, ◌∙◌, subst, inl, inr, arith, append-nil, length-append, length-set}
use Rattle.std.proofs.lemmas.Bool.{cases_eq, eq-eqb, ne_eqb}
use Rattle.std.proofs.lemmas.List.{length-map, reverse-append}
use Rattle.std.proofs.lemmas.Option.{same_Some, slice_get_within}
use Rattle.std.specs.List.{slice_get}
use Rattle.std.specs.Prelude.{nat_eq}
use Rattle.net_units.specs.Numbers.{channel_number, link_number}
use Rattle.net_units.specs.declared.numbers.LinkNo.{LinkNo}
use Rattle.hop_reservation.specs.declared.route.Hop.{Hop}
use Rattle.link_steps.proofs.ListParts.{comes-from}
use Rattle.link_steps.specs.declared.replies.Reply.{Reply}
use Rattle.link_steps.specs.declared.replies.Reply.TheVariants as Is
use Rattle.link_steps.specs.declared.replies.Sent.{Sent}
use Rattle.setup_protocol.specs.declared.request.Request.{Request}
use Rattle.call_script.specs.Parts.{PlanParts}
use Rattle.call_script.specs.Plans.{IsPlan}
use Rattle.call_script.specs.Tasks.{network_of}
use Rattle.call_script.specs.declared.entries.RequestEntry.{RequestEntry}
use Rattle.run_engine.proofs.Keeping.Lookups.{get-push, get-set-other, get-set-same, held}
use Rattle.run_engine.specs.channels.Departures.{is_over}
use Rattle.run_engine.specs.runs.Runs.{IsRun}
use Rattle.run_record.specs.Rows.{departures_in, row_of, rows_by}
use Rattle.run_record.proofs.KeptRows.{departures-more}
use Rattle.run_record.specs.declared.done.Done.{Done}
use Rattle.run_record.specs.declared.rows.HopRow.{HopRow}
use Rattle.channel_report.proofs.ChannelTallies.{first-at}
use Rattle.channel_report.proofs.PairedDelays.{paired-are}
use Rattle.channel_report.specs.DelayTallies.{AreDelayTallies, delay_tally_of, with_delay}
use Rattle.channel_report.specs.Delays.{delay_if, departures_of, last_link, last_prop, least_of, link_at, prop_of, worst_of}
use Rattle.channel_report.specs.Flows.{AreFlows, KeepsFlow}
use Rattle.channel_report.specs.Pairing.{arrival_if, arrivals_of, paired_of}
use Rattle.channel_report.specs.Sources.{first_link}
use Rattle.channel_report.specs.declared.delay_tally.DelayTally.{DelayTally}
use Rattle.channel_report.specs.declared.flow.Flow.{Flow}

-- ---- one flow

-- before the first packet
pub flow-begins : (c : ℕ) (request : Request) (route : List Hop) (first last : Hop) (len : ℕ) (flow : Flow) → request.route ≡ route → slice_get route 0 ≡ Some first → len ≡ length route → slice_get route (len - 1) ≡ Some last
    → flow.first ≡ first.link → flow.last ≡ last.link → flow.prop ≡ last.prop → flow.arrivals.items ≡ [] → flow.delays ≡ delay_tally_of [] → KeepsFlow c request [] flow
unfolding arrivals_of paired_of
flow-begins c request route first last len flow same begins long ends is_first is_last is_prop none bare =
    let end : slice_get request.route (length request.route - 1) ≡ Some last = ap (λ (r : List Hop). slice_get r (length r - 1)) same ∙ ap (λ n. slice_get route (n - 1)) (sym long) ∙ ends in
    record {
      first = ap link_number is_first ∙ sym (first-at request.route first (ap (λ (r : List Hop). slice_get r 0) same ∙ begins));
      last = ap link_number is_last ∙ sym (ap link_at end);
      prop = is_prop ∙ sym (ap prop_of end);
      arrivals = none;
      delays = bare;
    }

-- a delay more
pub delay-more : (delay : ℕ) (delays : List ℕ) → with_delay delay (delay_tally_of delays) ≡ delay_tally_of (delay ∷ delays)
unfolding least_of worst_of
delay-more delay delays = (let more : length delays + 1 ≡ suc (length delays) = omega arith in rw more refl)

-- after a packet of the channel has left a link
pub flow-more : (c : ℕ) (request : Request) (rows : List HopRow) (old new : Flow) (links : List ℕ) (link : LinkNo) (clock : ℕ) (sent : Sent) → channel_number sent.packet.chan ≡ c → KeepsFlow c request rows old
    → new.first ≡ old.first → new.last ≡ old.last → new.prop ≡ old.prop
    → new.arrivals.items ≡ old.arrivals.items ++ arrival_if (nat_eq (link_number link) (link_number old.first)) sent.at
    → ((delays : List ℕ) → old.delays ≡ delay_tally_of delays → new.delays ≡ delay_tally_of (delay_if (nat_eq (link_number link) (link_number old.last)) old.prop (suc clock) (slice_get new.arrivals.items (sent.packet.number - 1)) ++ delays))
    → KeepsFlow c request (row_of links link clock sent ∷ rows) new
unfolding arrivals_of paired_of
flow-more c request rows old new links link clock sent own keeps first last prop arrivals delays =
    let chan = eq-eqb (channel_number sent.packet.chan) c own in
    let at_first : is_over c (first_link request.route) (row_of links link clock sent) ≡ nat_eq (link_number link) (link_number old.first) = rw chan (ap (nat_eq (link_number link)) (sym keeps.first)) in
    let at_last : is_over c (last_link request.route) (row_of links link clock sent) ≡ nat_eq (link_number link) (link_number old.last) = rw chan (ap (nat_eq (link_number link)) (sym keeps.last)) in
    let kept : new.arrivals.items ≡ arrivals_of c request (row_of links link clock sent ∷ rows) =
    arrivals ∙ ap (λ front. front ++ arrival_if (nat_eq (link_number link) (link_number old.first)) sent.at) keeps.arrivals
    ∙ ap (λ b. arrivals_of c request rows ++ arrival_if b sent.at) (sym at_first) in
    record {
      first = ap link_number first ∙ keeps.first;
      last = ap link_number last ∙ keeps.last;
      prop = prop ∙ keeps.prop;
      arrivals = kept;
      delays = delays (paired_of c request rows) keeps.delays
          ∙ ap (λ b. delay_tally_of (delay_if b old.prop (suc clock) (slice_get new.arrivals.items (sent.packet.number - 1)) ++ paired_of c request rows)) (sym at_last)
          ∙ ap (λ p. delay_tally_of (delay_if (is_over c (last_link request.route) (row_of links link clock sent)) p (suc clock) (slice_get new.arrivals.items (sent.packet.number - 1)) ++ paired_of c request rows)) keeps.prop
          ∙ ap (λ xs. delay_tally_of (delay_if (is_over c (last_link request.route) (row_of links link clock sent)) (last_prop request.route) (suc clock) (slice_get xs (sent.packet.number - 1)) ++ paired_of c request rows)) kept;
    }

-- a row of another channel
flow-off : (n : ℕ) (request : Request) (rows : List HopRow) (row : HopRow) (flow : Flow) → channel_number row.chan ≢ n → KeepsFlow n request rows flow → KeepsFlow n request (row ∷ rows) flow
unfolding arrivals_of paired_of
flow-off n request rows row flow other keeps =
    let off = ne_eqb (channel_number row.chan) n other in
    record {
      first = keeps.first;
      last = keeps.last;
      prop = keeps.prop;
      arrivals = rw off (keeps.arrivals ∙ sym (append-nil (arrivals_of n request rows)));
      delays = rw off keeps.delays;
    }

-- ---- all flows

pub flows-more : (requests : List RequestEntry) (rows : List HopRow) (row : HopRow) (old : List Flow) (place : ℕ) (was new : Flow) → AreFlows requests rows old → channel_number row.chan ≡ place → slice_get old place ≡ Some was
    → ((request : Request) → KeepsFlow place request rows was → KeepsFlow place request (row ∷ rows) new) → AreFlows requests (row ∷ rows) (set old place new)
flows-more requests rows row old place was new are own at goes = record {
  all = length-set old place new ∙ are.all;
  tells = λ n entry flow found put. elim (cases_eq n place) [
    | inl here ↦
        (let here_entry : slice_get requests place ≡ Some entry = ap (slice_get requests) (sym here) ∙ found in
        let same : flow ≡ new = get-set-same old place new flow (ap (slice_get (set old place new)) (sym here) ∙ put) in
        subst (λ m. KeepsFlow m entry.request (row ∷ rows) flow) (sym here) (subst (KeepsFlow place entry.request (row ∷ rows)) (sym same) (goes entry.request (are.tells place entry was here_entry at))))
    | inr apart ↦ flow-off n entry.request rows row flow (λ same. apart (sym same ∙ own)) (are.tells n entry flow found (sym (get-set-other old place n new apart) ∙ put))
  ];
}

-- one more, before the first packet
pub flows-push : (requests : List RequestEntry) (flows : List Flow) (entry : RequestEntry) (new : Flow) → slice_get requests (length flows) ≡ Some entry → KeepsFlow (length flows) entry.request [] new
    → ((n : ℕ) (own : RequestEntry) (flow : Flow) → slice_get requests n ≡ Some own → slice_get flows n ≡ Some flow → KeepsFlow n own.request [] flow)
    → (n : ℕ) (own : RequestEntry) (flow : Flow) → slice_get requests n ≡ Some own → slice_get (flows ++ new ∷ []) n ≡ Some flow → KeepsFlow n own.request [] flow
flows-push requests flows entry new here keeps before n own flow found at =
    elim (get-push flows new n flow at) [
      | inl there ↦ before n own flow found there
      | inr last ↦
          (let same : entry ≡ own = same_Some entry own (sym here ∙ ap (slice_get requests) (sym last.0) ∙ found) in
          subst (KeepsFlow n own.request []) (sym last.1) (subst (λ m. KeepsFlow m own.request [] new) (sym last.0) (subst (λ (e : RequestEntry). KeepsFlow (length flows) e.request [] new) same keeps)))
    ]

pub flows-are : (requests read : List RequestEntry) (flows : List Flow) → read ≡ requests → length flows ≡ length read
    → ((n : ℕ) (entry : RequestEntry) (flow : Flow) → slice_get read n ≡ Some entry → slice_get flows n ≡ Some flow → KeepsFlow n entry.request [] flow) → AreFlows requests [] flows
flows-are requests read flows same long keeps = record {
  all = long ∙ ap length same;
  tells = λ n entry flow found at. keeps n entry flow (ap (λ es. slice_get es n) same ∙ found) at;
}

-- a packet of a channel that no request has
pub flows-off : (requests : List RequestEntry) (rows : List HopRow) (row : HopRow) (flows : List Flow) → AreFlows requests rows flows → length flows ≤ channel_number row.chan → AreFlows requests (row ∷ rows) flows
flows-off requests rows row flows are over = record {
  all = are.all;
  tells = λ n entry flow found at. flow-off n entry.request rows row flow (λ same. (let inside = within flows n flow at in omega (arith, inside, over, same))) (are.tells n entry flow found at);
} where
  within : (fs : List Flow) (n : ℕ) (flow : Flow) → slice_get fs n ≡ Some flow → suc n ≤ length fs
  within fs n flow at = slice_get_within fs n flow at

-- few were delivered
delay-few : (leaves : Bool) (prop departed : ℕ) (arrival : Option ℕ) → length (delay_if leaves prop departed arrival) ≤ 1
delay-few true prop departed None = omega arith
delay-few true prop departed (Some at) = omega arith
delay-few false prop departed arrival = omega arith

paired-few : (c : ℕ) (request : Request) (rows : List HopRow) → length (paired_of c request rows) ≤ length rows
unfolding paired_of
paired-few c request [] = omega arith
paired-few c request (row ∷ rows) =
    let some = delay-few (is_over c (last_link request.route) row) (last_prop request.route) row.departed (slice_get (arrivals_of c request (row ∷ rows)) (row.number - 1)) in
    let rest = paired-few c request rows in
    let both = length-append (delay_if (is_over c (last_link request.route) row) (last_prop request.route) row.departed (slice_get (arrivals_of c request (row ∷ rows)) (row.number - 1))) (paired_of c request rows) in
    omega (arith, some, rest, both)

pub flow-few : (requests : List RequestEntry) (rows : List HopRow) (flows : List Flow) (place : ℕ) (flow : Flow) → AreFlows requests rows flows → slice_get flows place ≡ Some flow → flow.delays.delivered ≤ length rows
flow-few requests rows flows place flow are at =
    let inside = slice_get_within flows place flow at in
    let all = are.all in
    let entry = held requests place (omega (arith, inside, all)) in
    let keeps = are.tells place entry.item flow entry.found at in
    let few = paired-few place entry.item.request rows in
    let same : flow.delays.delivered ≡ length (paired_of place entry.item.request rows) = ap (λ (t : DelayTally). t.delivered) keeps.delays in
    omega (arith, few, same)

-- ---- the rows of a run

one-turned : (whole : List Done) (link : LinkNo) (reply : Reply) → reverse (rows_by whole link reply) ≡ rows_by whole link reply
one-turned whole link (Is.Ticked clock full (Some sent) best_sent best_lost) = refl
one-turned whole link (Is.Ticked clock full None best_sent best_lost) = refl
one-turned whole link _ = refl

-- an entry's row comes last in the order of time
pub rows-turned : (whole past : List Done) (done : Done) → reverse (departures_in whole (reverse (done ∷ past))) ≡ rows_by whole done.link done.reply ++ reverse (departures_in whole (reverse past))
rows-turned whole past done =
    ap (λ entries. reverse (departures_in whole entries)) (reverse-append (done ∷ []) past)
    ∙ ap reverse (departures-more whole (reverse past) done)
    ∙ reverse-append (departures_in whole (reverse past)) (rows_by whole done.link done.reply)
    ∙ ap (λ rows. rows ++ reverse (departures_in whole (reverse past))) (one-turned whole done.link done.reply)

row-few : (whole : List Done) (link : LinkNo) (reply : Reply) → length (rows_by whole link reply) ≤ 1
row-few whole link (Is.Ticked clock full (Some sent) best_sent best_lost) = omega arith
row-few whole link (Is.Ticked clock full None best_sent best_lost) = omega arith
row-few whole link _ = omega arith

pub rows-few : (whole past : List Done) → length (reverse (departures_in whole (reverse past))) ≤ length past
unfolding departures_in
rows-few whole [] = omega arith
rows-few whole (done ∷ past) =
    let rest = rows-few whole past in
    let one = row-few whole done.link done.reply in
    let both = ap length (rows-turned whole past done) ∙ length-append (rows_by whole done.link done.reply) (reverse (departures_in whole (reverse past))) in
    omega (arith, rest, one, both)

-- an entry that tells no row
pub flows-stay : (requests : List RequestEntry) (past : List Done) (done : Done) (flows : List Flow) → ((run : List Done) → rows_by run done.link done.reply ≡ []) → ((whole : List Done) → AreFlows requests (reverse (departures_in whole (reverse past))) flows)
    → (whole : List Done) → AreFlows requests (reverse (departures_in whole (reverse (done ∷ past)))) flows
flows-stay requests past done flows none are whole =
    subst (λ rows. AreFlows requests rows flows) (sym (rows-turned whole past done ∙ ap (λ rows. rows ++ reverse (departures_in whole (reverse past))) (none whole))) (are whole)

pub flows-go_on : (requests : List RequestEntry) (past : List Done) (done : Done) (old new : List Flow) → ((rows : List HopRow) (whole : List Done) → AreFlows requests rows old → AreFlows requests (rows_by whole done.link done.reply ++ rows) new) → ((whole : List Done) → AreFlows requests (reverse (departures_in whole (reverse past))) old)
    → (whole : List Done) → AreFlows requests (reverse (departures_in whole (reverse (done ∷ past)))) new
flows-go_on requests past done old new goes are whole =
    subst (λ rows. AreFlows requests rows new) (sym (rows-turned whole past done)) (goes (reverse (departures_in whole (reverse past))) whole (are whole))

-- ---- so they tell the delays of the run

pub found-delays : (parts : PlanParts) (run : List Done) (flows : List Flow) (tallies : List DelayTally) → IsPlan parts → IsRun (network_of parts) run → AreFlows parts.requests (reverse (departures_of (reverse run))) flows → tallies ≡ map (λ (flow : Flow). flow.delays) flows
    → AreDelayTallies parts.requests (reverse (departures_of (reverse run))) tallies
found-delays parts run flows tallies plan is_run are is = record {
  all = ap length is ∙ length-map flows (λ (flow : Flow). flow.delays) ∙ are.all;
  tells = λ n entry tally found at.
      let from = comes-from (λ (flow : Flow). flow.delays) flows n tally (ap (λ ts. slice_get ts n) (sym is) ∙ at) in
      let keeps = are.tells n entry from.from found from.found in
      let number : n ≡ channel_number entry.request.chan = sym (plan.planned.requests n entry found) in
      sym from.is ∙ keeps.delays ∙ ap delay_tally_of (ap (λ c. paired_of c entry.request (reverse (departures_of (reverse run)))) number ∙ paired-are parts n entry plan found run is_run);
}
