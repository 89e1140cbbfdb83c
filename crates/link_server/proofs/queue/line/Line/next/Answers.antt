-- The first key of the queues is that of the next packet, since those in the calendar are eligible later.
use Rattle.std.proofs.Common.{◌++◌, length, sym, ap, ◌∙◌, subst, arith}
use Rattle.link_server.specs.Keys.{packet_told, packets_at, queues_at, keys_of, AreKeyed, AreInOrder}
use Rattle.link_server.specs.Line.{waiting_in, later_in, AreAfter, IsNext}
use Rattle.link_server.specs.Queues.{joined}
use Rattle.link_server.specs.Ready.{queues_of}
use Rattle.link_server.proofs.Waiting.Keys.{first-held, is-held, keyed-left}
use Rattle.link_server.proofs.Waiting.First.{none-next, left-order, left-next}
use Rattle.link_server.proofs.Waiting.Queues.{after-none, length-after}
use Rattle.link_server.proofs.queue.line.Line.next.Goals as goal

pub invariant_of-self : goal.invariant_of-self
invariant_of-self c =
    let l = c.look.new.self in
    let same = c.in_err-key.ensures.left ∙ after-none (queues_of l.ready) (sym c.in_err-key.ensures.first) in
    let nine = l.nine in
    let holds = l.ready_holds in
    record {
      keyed = subst (AreKeyed l.packets.slots l.later.entries) (sym same) l.keyed;
      in_order = subst (λ queues. AreInOrder (packets_at l.packets.slots (keys_of l.later.entries)) (queues_at l.packets.slots queues) l.until) (sym same) l.in_order;
      nine = ap length same ∙ nine;
      looked = l.looked;
      packets_hold = l.packets_hold;
      keys_fit = l.keys_fit;
      later_holds = l.later_holds;
      ready_holds = omega (arith, holds, c.in_err-key.ensures.room);
    }

pub returns-in_err-key-clause-none : goal.returns-in_err-key-clause-none
returns-in_err-key-clause-none c =
    let l = c.look.new.self in
    rw c.from_residual.ensures
    (none-next l.packets.slots (waiting_in c.args.self.now) (later_in l) (queues_of l.ready) (queues_of c.pick.new.self) c.args.tick c.in_err-key.ensures.first c.in_err-key.ensures.left c.look.ensures.after c.look.ensures.waiting)

pub remove-requires : goal.remove-requires
remove-requires c =
    let l = c.look.new.self in
    is-held l.packets.slots c.in_ok-key.key (first-held l.packets.slots l.later.entries (queues_of l.ready) c.in_ok-key.key l.keyed (sym c.in_ok-key.ensures.first)).0

pub invariant_of-self-2 : goal.invariant_of-self-2
invariant_of-self-2 c =
    let l = c.look.new.self in
    let nine = l.nine in
    let packets_hold = l.packets_hold in
    let keys_fit = l.keys_fit in
    let ready_holds = l.ready_holds in
    record {
      keyed = subst (AreKeyed c.remove.new.self.slots l.later.entries) (sym c.in_ok-key.ensures.left) (keyed-left l.packets c.remove.new.self l.later.entries (queues_of l.ready) c.in_ok-key.key l.keyed (sym c.in_ok-key.ensures.first) c.remove.ensures.updates c.remove.ensures.len);
      in_order = left-order l.packets c.remove.new.self l.later.entries (queues_of l.ready) (queues_of c.pick.new.self) c.in_ok-key.key l.until l.keyed l.in_order (sym c.in_ok-key.ensures.first) c.in_ok-key.ensures.left c.remove.ensures.updates;
      nine = ap length c.in_ok-key.ensures.left ∙ length-after (queues_of l.ready) ∙ nine;
      looked = l.looked;
      packets_hold = omega (arith, packets_hold, c.remove.ensures.capacity);
      keys_fit = omega (arith, keys_fit, c.remove.ensures.capacity);
      later_holds = l.later_holds;
      ready_holds = omega (arith, ready_holds, c.in_ok-key.ensures.room);
    }

pub returns-clause-next : goal.returns-clause-next
returns-clause-next c =
    let l = c.look.new.self in
    subst (λ tick. IsNext tick (waiting_in c.args.self.now) (packets_at c.remove.new.self.slots (keys_of l.later.entries) ++ joined (queues_at c.remove.new.self.slots (queues_of c.pick.new.self))) c.remove.result) c.look.ensures.until
    (left-next l.packets c.remove.new.self l.later.entries (queues_of l.ready) (queues_of c.pick.new.self) c.in_ok-key.key l.until l.keyed l.in_order (sym c.in_ok-key.ensures.first) c.in_ok-key.ensures.left c.remove.ensures.updates
    (waiting_in c.args.self.now) c.remove.result (ap packet_told c.remove.ensures.value) (subst (λ tick. AreAfter tick (later_in l)) (sym c.look.ensures.until) c.look.ensures.after) c.look.ensures.waiting)
