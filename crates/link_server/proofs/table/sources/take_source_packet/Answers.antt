-- The row's step is found from its plan and its slots; what each step makes of the row and the packets is then said by
-- the account.
use Rattle.std.proofs.Common.{◌≡◌, ◌+◌, ◌++◌, [], ◌∷◌, suc, true, refl, sym, ap, ◌∙◌, arith}
use Rattle.std.proofs.lemmas.List.{append-nil}
use Rattle.link_server.proofs.Words.{dropped_by, taken_by, Arrival, QueueAccount, account_packet, reservation_in, row_in}
use Rattle.link_steps.specs.Sources.SourceStep.{Rests, Brings, Drops}
use Rattle.link_steps.proofs.AccountOfRows.{eligible-from}
use Rattle.link_server.specs.Packets.{arrival_in}
use Rattle.link_server.specs.Sources.{own_step}
use Rattle.link_server.proofs.Replies.Account.{queue-same}
use Rattle.link_server.proofs.Sourcing.Steps.{step-rests, step-loses, step-brings, brought-here, brought-row}
use Rattle.link_server.proofs.table.sources.take_source_packet.Goals as goal
use Rattle.link_server.proofs.table.sources.take_source_packet.Goals.{After-has_slot}

-- where it takes none, the queue is as it was
same-kept : (queue : QueueAccount) → queue ≡ record queue { taken = queue.taken + 0; here = queue.here ++ []; looked = queue.looked }
same-kept queue =
    let same : queue.taken ≡ queue.taken + 0 = omega arith in
    queue-same queue (record queue { taken = queue.taken + 0; here = queue.here ++ [] }) same (sym (append-nil queue.here)) refl refl refl refl refl refl

rests : (c : goal.In_default) → own_step c.args.bounds.now c.args.clock c.args.row.now ≡ Rests
rests c = step-rests c.args.bounds.now c.args.clock c.args.row.now c.in_default.ensures.size

pub returns-in_default-clause-lost : goal.returns-in_default-clause-lost
returns-in_default-clause-lost c = ap dropped_by (sym (rests c))

pub returns-in_default-clause-row : goal.returns-in_default-clause-row
returns-in_default-clause-row c = rw (rests c) (c.next_planned.ensures.row)

pub returns-in_default-clause-kept : goal.returns-in_default-clause-kept
returns-in_default-clause-kept c = rw (rests c) (same-kept c.args.queue.now)

loses : (c : goal.Then-not-has_slot) → own_step c.args.bounds.now c.args.clock c.args.row.now ≡ Drops
loses c = step-loses c.args.bounds.now c.args.clock c.in-Some.size c.has_slot.result c.args.row.now c.next_planned.new.self c.in-Some.ensures.size c.next_planned.ensures.departed c.next_planned.ensures.row c.has_slot.ensures c.if-not-has_slot.true

pub returns-then-not-has_slot-clause-lost : goal.returns-then-not-has_slot-clause-lost
returns-then-not-has_slot-clause-lost c = ap dropped_by (sym (loses c))

pub returns-then-not-has_slot-clause-row : goal.returns-then-not-has_slot-clause-row
returns-then-not-has_slot-clause-row c = rw (loses c) (c.next_planned.ensures.row)

pub returns-then-not-has_slot-clause-kept : goal.returns-then-not-has_slot-clause-kept
returns-then-not-has_slot-clause-kept c = rw (loses c) (same-kept c.args.queue.now)

brings : (c : After-has_slot) → c.has_slot.result ≡ true → own_step c.args.bounds.now c.args.clock c.args.row.now ≡ Brings c.in-Some.size
brings c free = step-brings c.args.bounds.now c.args.clock c.in-Some.size c.has_slot.result c.args.row.now c.next_planned.new.self c.in-Some.ensures.size c.next_planned.ensures.departed c.next_planned.ensures.row c.has_slot.ensures free

pub overflow_add-taken : goal.overflow_add-taken
overflow_add-taken c =
    let one : taken_by (own_step c.args.bounds.now c.args.clock c.args.row.now) ≡ 1 = ap taken_by (brings (goal.at.overflow_add-taken c).After-has_slot c.if-not-has_slot.false) in
    omega (arith, one, c.requires.numbers, c.taken.ensures)

pub push-requires-clause-room : goal.push-requires-clause-room
push-requires-clause-room c =
    let one : taken_by (own_step c.args.bounds.now c.args.clock c.args.row.now) ≡ 1 = ap taken_by (brings (goal.at.push-requires-clause-room c).After-has_slot c.if-not-has_slot.false) in
    omega (arith, one, c.requires.room)

pub push-requires-clause-eligible : goal.push-requires-clause-eligible
push-requires-clause-eligible c =
    let own = ap (λ (p : Arrival). p.eligible) c.take-packet.ensures.packet in
    let from = eligible-from (reservation_in c.next_planned.new.self) (row_in c.next_planned.new.self).recent c.args.clock 0 in
    omega (arith, own, from)

pub returns-clause-lost : goal.returns-clause-lost
returns-clause-lost c = ap dropped_by (sym (brings (goal.at.returns-clause-lost c).After-has_slot c.if-not-has_slot.false))

pub returns-clause-row : goal.returns-clause-row
returns-clause-row c =
    rw (brings (goal.at.returns-clause-row c).After-has_slot c.if-not-has_slot.false)
    (brought-row c.args.clock c.in-Some.size c.args.queue.now.taken (c.taken.result + 1) c.take-packet.new.self c.next_planned.new.self c.args.row.now (ap (λ n. n + 1) c.taken.ensures) c.next_planned.ensures.row c.take-packet.ensures.row)

pub returns-clause-kept : goal.returns-clause-kept
returns-clause-kept c =
    let free = c.if-not-has_slot.false in
    let was = c.args.queue.now in
    let here : was.here ++ arrival_in c.take-packet.result ∷ [] ≡ was.here ++ account_packet (Brings c.in-Some.size) c.args.clock (suc was.taken) (row_in c.args.row.now) =
    brought-here c.args.clock c.in-Some.size was.taken (c.taken.result + 1) was.here c.take-packet.result c.next_planned.new.self c.args.row.now (ap (λ n. n + 1) c.taken.ensures) c.next_planned.ensures.row c.take-packet.ensures.packet in
    rw (brings (goal.at.returns-clause-kept c).After-has_slot free) (c.push.ensures.kept ∙ ap (λ all. record was { taken = was.taken + 1; here = all; looked = c.push.new.self.looked }) here)
