-- Each turn adds to what the rows before it have done.
use Rattle.std.proofs.Common.{◌≡◌, ℕ, List, ◌+◌, ◌++◌, ◌<◌, ◌≤◌, suc, length, get_or, set, drop, refl, sym, ap, ◌∙◌, subst, arith}
use Rattle.link_server.proofs.Words.{account_packet, account_after_step, SourceStep, taken_by, dropped_by, Arrival, QueueAccount, row_in, IsWithinLevels, ServedRow}
use Rattle.std.proofs.lemmas.List.{get_or_past, length-append, length-map, length-set}
use Rattle.link_steps.proofs.SearchAndFilter.{Each-if}
use Rattle.link_server.proofs.Replies.Account.{queue-same}
use Rattle.std.proofs.Math.Seq.{map-set_same}
use Rattle.link_server.specs.Departed.{IsCounted, departed_in}
use Rattle.link_server.specs.Planned.{IsPlannedFrom}
use Rattle.link_server.specs.Sources.{own_step, step_in, brought_by, IsReady}
use Rattle.link_server.proofs.Departed.Rows.{counted-at}
use Rattle.link_server.proofs.Sourcing.Steps.{step-counted}
use Rattle.link_server.proofs.Sourcing.Rows.{HaveStepped, StandsStepped, same-row, one-stepped, all-stepped, ready-now, packets-now, lost-more, lost-same}
use Rattle.link_server.proofs.Sourcing.Turns.{first-turn, next-turn, turn-inside, turn-due, stepped-later, told-after, room-after, all-turned}
use Rattle.link_server.proofs.table.sources.take_turns.Goals as goal
use Rattle.link_server.proofs.table.sources.take_turns.Goals.{After-loop-place, After-index_mut-row, then-take_source_packet, else-take_source_packet}

pub loop-place-init : goal.loop-place-init
loop-place-init c =
    let room = c.requires.called.room in
    record {
      stepped = first-turn c.args.bounds.now c.args.queue.now.here c.args.clock c.args.queue.now.taken c.args.calendar.now c.args.turns.now c.args.rows.now.items c.requires.called c.requires.later;
      keys = refl;
      long = refl;
      begun = c.requires.called.begun;
      told = c.requires.called.told;
      spare = omega (arith, room);
      kept = refl;
      looked = c.requires.may.looked;
      departed = refl;
    }

-- ---- the row whose turn it is

pub key_at-key-requires : goal.key_at-key-requires
key_at-key-requires c = turn-inside c.args.turns.now c.args.rows.now.items c.loop-place.rows.items c.loop-place.place-index c.requires.called.rising c.loop-place.invariant.long c.loop-place-test.true

abbrev place : After-index_mut-row → ℕ
place c = get_or c.args.turns.now c.loop-place.place-index 0

abbrev row : After-index_mut-row → ServedRow
row c = get_or c.loop-place.rows.items (place c) c.index_mut-row.result.now

-- what its source does
abbrev step : After-index_mut-row → SourceStep
step c = step_in c.args.bounds.now c.args.queue.now.here c.args.clock (row c)

inside : (c : After-index_mut-row) → place c < length c.loop-place.rows.items
inside c = turn-inside c.args.turns.now c.args.rows.now.items c.loop-place.rows.items c.loop-place.place-index c.requires.called.rising c.loop-place.invariant.long c.loop-place-test.true

pub index_mut-row-requires : goal.index_mut-row-requires
index_mut-row-requires c =
    subst (λ n. n < length c.loop-place.rows.items) (sym c.key_at-key.ensures) (turn-inside c.args.turns.now c.args.rows.now.items c.loop-place.rows.items c.loop-place.place-index c.requires.called.rising c.loop-place.invariant.long c.loop-place-test.true)

-- the row under the key is the one at the place
own : (c : After-index_mut-row) → c.index_mut-row.result.now ≡ row c
own c = c.index_mut-row.ensures.value ∙ ap (λ n. get_or c.loop-place.rows.items n c.index_mut-row.result.now) c.key_at-key.ensures

-- those before it have made their steps, and it is as it was
so : (c : After-index_mut-row) → HaveStepped c.args.bounds.now c.args.queue.now.here c.args.clock c.args.queue.now.taken c.args.rows.now.items (place c) c.loop-place.rows.items c.loop-place.queue.here c.loop-place.queue.taken c.loop-place.lost
so c = turn-due c.args.bounds.now c.args.queue.now.here c.args.clock c.args.queue.now.taken c.args.turns.now c.args.rows.now.items c.loop-place.place-index c.loop-place.rows.items c.loop-place.queue.here c.loop-place.queue.taken c.loop-place.lost c.loop-place-test.true c.loop-place.invariant.stepped

was : (c : After-index_mut-row) → c.index_mut-row.result.now ≡ get_or c.args.rows.now.items (place c) c.index_mut-row.result.now
was c = own c ∙ same-row c.args.rows.now.items (place c) c.loop-place.rows.items c.index_mut-row.result.now (so c).after

step-is : (c : After-index_mut-row) → own_step c.args.bounds.now c.args.clock c.index_mut-row.result.now ≡ step c
step-is c =
    let here = c.args.queue.now.here in
    let d = c.index_mut-row.result.now in
    step-counted c.args.bounds.now here c.args.clock d
    (subst (λ (row : ServedRow). IsCounted here (row_in row) row.departed) (sym (was c)) (counted-at here c.args.rows.now.items (place c) d (subst (λ n. place c < n) c.loop-place.invariant.long (inside c)) c.requires.counted))
    ∙ ap (step_in c.args.bounds.now here c.args.clock) (own c)

pub take_source_packet-requires-clause-ready : goal.take_source_packet-requires-clause-ready
take_source_packet-requires-clause-ready c =
    let at = (goal.at.take_source_packet-requires-clause-ready c).After-index_mut-row in
    subst (λ row. IsReady c.args.clock (row_in row)) (sym (own at))
    (ready-now c.args.clock c.args.rows.now.items (place at) c.loop-place.rows.items c.index_mut-row.result.now (so at).after c.requires.may.ready (inside at))

pub take_source_packet-requires-clause-within : goal.take_source_packet-requires-clause-within
take_source_packet-requires-clause-within c =
    let at = (goal.at.take_source_packet-requires-clause-within c).After-index_mut-row in
    subst (IsWithinLevels (length c.args.bounds.now)) (sym (was at)) (c.requires.within (place at) c.index_mut-row.result.now (subst (λ n. place at < n) c.loop-place.invariant.long (inside at)))

-- its packet is one of those for which there is room
fits : (c : After-index_mut-row) → taken_by (step c) ≤ length (brought_by c.args.bounds.now c.args.queue.now.here c.args.clock c.loop-place.queue.taken (drop (place c) c.args.rows.now.items))
fits c = packets-now c.args.bounds.now c.args.queue.now.here c.args.clock c.loop-place.queue.taken c.args.rows.now.items (place c) c.loop-place.rows.items c.index_mut-row.result.now (so c).after (inside c)

pub take_source_packet-requires-clause-room : goal.take_source_packet-requires-clause-room
take_source_packet-requires-clause-room c =
    let here = c.args.queue.now.here in
    let at = (goal.at.take_source_packet-requires-clause-room c).After-index_mut-row in
    let one = ap taken_by (step-is at) in
    let fits = fits at in
    let all = ap length (so at).here in
    let now = length-append c.loop-place.queue.here (brought_by c.args.bounds.now here c.args.clock c.loop-place.queue.taken (drop (place at) c.args.rows.now.items)) in
    let whole = length-append here (brought_by c.args.bounds.now here c.args.clock c.args.queue.now.taken c.args.rows.now.items) in
    let room = ap (λ (queue : QueueAccount). queue.room) c.loop-place.invariant.kept in
    let most = c.requires.may.room in
    omega (arith, one, fits, all, now, whole, room, most)

pub take_source_packet-requires-clause-numbers : goal.take_source_packet-requires-clause-numbers
take_source_packet-requires-clause-numbers c =
    let at = (goal.at.take_source_packet-requires-clause-numbers c).After-index_mut-row in
    let one = ap taken_by (step-is at) in
    let fits = fits at in
    let all = (so at).taken in
    let most = c.requires.may.numbers in
    omega (arith, one, fits, all, most)

pub overflow_add-lost : goal.overflow_add-lost
overflow_add-lost c =
    let at = (goal.at.overflow_add-lost c).After-index_mut-row in
    let few = (so at).few in
    let within = inside at in
    let many = length-map c.args.rows.now.items row_in in
    let most = c.requires.may.few in
    omega (arith, few, within, many, c.loop-place.invariant.long, most)

-- ---- the step of a turn

pub put_plan-requires-clause-ahead : goal.put_plan-requires-clause-ahead
put_plan-requires-clause-ahead c =
    let at = (goal.at.put_plan-requires-clause-ahead c).After-index_mut-row in
    let later = stepped-later _ c.args.clock (suc c.loop-place.queue.taken) (row_in c.take_source_packet.new.row) (row_in c.index_mut-row.result.now) c.take_source_packet.ensures.row in
    Each-if (IsPlannedFrom (suc c.args.clock)) (IsPlannedFrom c.loop-place.calendar.clock) (row_in c.take_source_packet.new.row).left (λ p from. (let begun = c.loop-place.invariant.begun in omega (arith, from, begun))) later

pub put_plan-requires-clause-room : goal.put_plan-requires-clause-room
put_plan-requires-clause-room c =
    let room = c.loop-place.invariant.spare in
    omega (arith, room, c.loop-place-test.true)

-- a turn changes no other part of the queue either
still-kept : (first old new : QueueAccount) (taken : ℕ) (here : List Arrival) → old ≡ record first { taken = old.taken; here = old.here; looked = old.looked } → new ≡ record old { taken = taken; here = here; looked = new.looked }
    → new ≡ record first { taken = new.taken; here = new.here; looked = new.looked }
still-kept first old new taken here before kept =
    queue-same new (record first { taken = new.taken; here = new.here; looked = new.looked }) refl refl
    (ap (λ (queue : QueueAccount). queue.on) kept ∙ ap (λ (queue : QueueAccount). queue.on) before)
    (ap (λ (queue : QueueAccount). queue.best) kept ∙ ap (λ (queue : QueueAccount). queue.best) before)
    (ap (λ (queue : QueueAccount). queue.room) kept ∙ ap (λ (queue : QueueAccount). queue.room) before) refl
    (ap (λ (queue : QueueAccount). queue.bounds) kept ∙ ap (λ (queue : QueueAccount). queue.bounds) before)
    (ap (λ (queue : QueueAccount). queue.rate) kept ∙ ap (λ (queue : QueueAccount). queue.rate) before)

pub loop-place-preserved : goal.loop-place-preserved
loop-place-preserved c =
    let at = (goal.at.loop-place-preserved c).After-index_mut-row in
    let was = c.loop-place.invariant in
    let rows = c.loop-place.rows.items in
    let queue = c.loop-place.queue in
    let d = c.index_mut-row.result.now in
    let new = c.take_source_packet.new.row in
    let here = c.take_source_packet.new.queue.here in
    let made = c.take_source_packet.ensures in
    let is = step-is at in
    let own = own at in
    let changed : row_in new ≡ account_after_step (step at) c.args.clock (suc queue.taken) (row_in (row at)) =
    made.row ∙ ap (λ s. account_after_step s c.args.clock (suc queue.taken) (row_in d)) is ∙ ap (λ r. account_after_step (step at) c.args.clock (suc queue.taken) (row_in r)) own in
    let brought : here ≡ queue.here ++ account_packet (step at) c.args.clock (suc queue.taken) (row_in (row at)) =
    ap (λ (q : QueueAccount). q.here) made.kept ∙ ap (λ s. queue.here ++ account_packet s c.args.clock (suc queue.taken) (row_in d)) is ∙ ap (λ r. queue.here ++ account_packet (step at) c.args.clock (suc queue.taken) (row_in r)) own in
    let taken = ap (λ (q : QueueAccount). q.taken) made.kept ∙ ap (λ s. queue.taken + taken_by s) is in
    let counted = made.lost ∙ ap dropped_by is in
    let lost : c.if-take_source_packet.lost ≡ c.loop-place.lost + dropped_by (step at) = elim c.if-take_source_packet.branch [
      | then-take_source_packet w ↦ lost-more c.take_source_packet.result c.loop-place.lost _ _ counted w.if-take_source_packet.true w.lost-is
      | else-take_source_packet w ↦ lost-same c.take_source_packet.result c.loop-place.lost _ _ counted w.if-take_source_packet.false w.lost-is
    ] in
    let same = length-set rows (place at) new in
    rw c.key_at-key.ensures (record {
      stepped =
          next-turn c.args.bounds.now c.args.queue.now.here c.args.clock c.args.queue.now.taken c.args.calendar.now c.args.turns.now c.args.rows.now.items c.loop-place.place-index (set rows (place at) new) here c.take_source_packet.new.queue.taken c.if-take_source_packet.lost
          c.requires.called c.requires.later (same ∙ was.long) c.loop-place-test.true
          (one-stepped c.args.bounds.now c.args.queue.now.here c.args.clock c.args.queue.now.taken c.args.rows.now.items (place at) rows queue.here queue.taken c.loop-place.lost d new here c.take_source_packet.new.queue.taken c.if-take_source_packet.lost
          (so at) (inside at) changed brought taken lost);
      keys = was.keys;
      long = same ∙ was.long;
      begun = (let begun = was.begun in omega (arith, begun, c.put_plan.ensures.clock));
      told = told-after c.args.turns.now c.loop-place.place-index c.loop-place.calendar.entries c.put_plan.new.calendar.entries rows new c.loop-place-test.true (inside at) was.told c.put_plan.ensures.others c.put_plan.ensures.own;
      spare = room-after (length c.args.turns.now) c.loop-place.place-index c.loop-place.calendar c.put_plan.new.calendar rows (place at) new d c.loop-place-test.true (inside at) was.spare c.put_plan.ensures.room;
      kept = still-kept c.args.queue.now queue c.take_source_packet.new.queue _ _ was.kept made.kept;
      looked = made.looked;
      departed = map-set_same departed_in rows (place at) new d (made.departed ∙ ap departed_in own) ∙ was.departed;
    })

-- the loop has gone through all turns
stepped : (c : After-loop-place) → StandsStepped c.args.bounds.now c.args.queue.now.here c.args.clock c.args.queue.now.taken c.args.rows.now.items c.loop-place.rows.items c.loop-place.queue.here c.loop-place.queue.taken c.loop-place.lost
stepped c =
    let end : get_or c.args.turns.now c.loop-place.place-index (length c.args.rows.now.items) ≡ length c.args.rows.now.items = get_or_past c.args.turns.now c.loop-place.place-index (length c.args.rows.now.items) (omega (arith, c.loop-place-test.false)) in
    all-stepped c.args.bounds.now c.args.queue.now.here c.args.clock c.args.queue.now.taken c.args.rows.now.items (get_or c.args.turns.now c.loop-place.place-index (length c.args.rows.now.items)) c.loop-place.rows.items c.loop-place.queue.here c.loop-place.queue.taken c.loop-place.lost
    c.loop-place.invariant.stepped (omega (arith, end)) (omega (arith, end, c.loop-place.invariant.long))

pub returns-clause-lost : goal.returns-clause-lost
returns-clause-lost c = (stepped c).lost

pub returns-clause-rows : goal.returns-clause-rows
returns-clause-rows c = (stepped c).all

pub returns-clause-kept : goal.returns-clause-kept
returns-clause-kept c =
    let was = c.args.queue.now in
    let now = c.loop-place.queue in
    let all = stepped (goal.at.returns-clause-kept c).After-loop-place in
    c.loop-place.invariant.kept
    ∙ ap (λ n. record was { taken = n; here = now.here; looked = now.looked }) all.taken
    ∙ ap (λ here. record was { taken = was.taken + length (brought_by c.args.bounds.now was.here c.args.clock was.taken c.args.rows.now.items); here = here; looked = now.looked }) all.here

pub returns-clause-planned : goal.returns-clause-planned
returns-clause-planned c = all-turned c.args.clock c.loop-place.calendar c.args.turns.now c.loop-place.place-index c.loop-place.rows.items c.loop-place.invariant.begun (omega (arith, c.loop-place-test.false)) c.loop-place.invariant.told c.loop-place.invariant.spare
