-- The packet comes under a new key, at the end of the queue of its level: it is ahead of all that aren't ready, and the newest.
use Rattle.std.proofs.Common.{◌≡◌, ◌-◌, ◌<◌, ◌++◌, ◌∷◌, length, sym, ap, ◌∙◌, subst, arith}
use Rattle.std.proofs.lemmas.List.{length-append, length-map}
use Rattle.link_server.proofs.Words.{IsPermutation}
use Rattle.link_server.specs.Keys.{keys_of, packets_at, queues_at, AreKeyed, AreInOrder}
use Rattle.link_server.specs.Queues.{joined, pushed}
use Rattle.link_server.specs.Ready.{queues_of}
use Rattle.link_server.proofs.Waiting.Keys.{keyed-ready, packets-ready, long-packets}
use Rattle.link_server.proofs.Waiting.Queues.{comes-into, length-pushed}
use Rattle.link_server.proofs.Waiting.Order.{order-ready}
use Rattle.link_server.proofs.queue.line.Line.push_ready.Goals as goal
use Rattle.link_server.proofs.queue.line.Line.push_ready.Goals.{Start, After-push}

pub insert_reserved-key-requires : goal.insert_reserved-key-requires
insert_reserved-key-requires c =
    let counted = c.args.self.now.keyed.counted in
    let long = long-packets c.args.self.now.packets.slots c.args.self.now.later.entries (queues_of c.args.self.now.ready) in
    let hold = c.args.self.now.packets_hold in
    omega (arith, counted, long, hold, c.requires.room)

pub push-requires-clause-room : goal.push-requires-clause-room
push-requires-clause-room c =
    let all = long-packets c.args.self.now.packets.slots c.args.self.now.later.entries (queues_of c.args.self.now.ready) in
    let keys = length-append (keys_of c.args.self.now.later.entries) (joined (queues_of c.args.self.now.ready)) in
    let holds = c.args.self.now.ready_holds in
    omega (arith, all, keys, holds, c.requires.room)

inside : (c : Start) → c.args.packet.now.level - 1 < length (queues_of c.args.self.now.ready)
inside c = let nine = c.args.self.now.nine in let least = c.args.packet.now.has_level in let most = c.args.packet.now.has_most in omega (arith, nine, least, most)

packets : (c : After-push) → packets_at c.insert_reserved-key.new.self.slots (keys_of c.args.self.now.later.entries) ≡ packets_at c.args.self.now.packets.slots (keys_of c.args.self.now.later.entries)
packets c =
    (packets-ready c.args.self.now.packets c.insert_reserved-key.new.self c.args.self.now.later.entries (queues_of c.args.self.now.ready) c.insert_reserved-key.result (c.args.packet.now.level - 1) c.args.packet.now c.args.self.now.keyed c.insert_reserved-key.ensures.was_vacant c.insert_reserved-key.ensures.updates).0

queues : (c : After-push) → queues_at c.insert_reserved-key.new.self.slots (queues_of c.push.new.self) ≡ pushed (queues_at c.args.self.now.packets.slots (queues_of c.args.self.now.ready)) (c.args.packet.now.level - 1) c.args.packet.now
queues c =
    ap (queues_at c.insert_reserved-key.new.self.slots) c.push.ensures.queues
    ∙ (packets-ready c.args.self.now.packets c.insert_reserved-key.new.self c.args.self.now.later.entries (queues_of c.args.self.now.ready) c.insert_reserved-key.result (c.args.packet.now.level - 1) c.args.packet.now c.args.self.now.keyed c.insert_reserved-key.ensures.was_vacant c.insert_reserved-key.ensures.updates).1

pub invariant_of-self : goal.invariant_of-self
invariant_of-self c =
    let at = goal.at.invariant_of-self c in
    let later = packets_at c.args.self.now.packets.slots (keys_of c.args.self.now.later.entries) in
    let ready = queues_at c.args.self.now.packets.slots (queues_of c.args.self.now.ready) in
    let nine = c.args.self.now.nine in
    let packets_hold = c.args.self.now.packets_hold in
    let keys_fit = c.args.self.now.keys_fit in
    let ready_holds = c.args.self.now.ready_holds in
    record {
      keyed =
          subst (λ qs. AreKeyed c.insert_reserved-key.new.self.slots c.args.self.now.later.entries qs) (sym c.push.ensures.queues)
          (keyed-ready c.args.self.now.packets c.insert_reserved-key.new.self c.args.self.now.later.entries (queues_of c.args.self.now.ready) c.insert_reserved-key.result (c.args.packet.now.level - 1) c.args.packet.now (inside at.Start) c.args.self.now.keyed c.insert_reserved-key.ensures.was_vacant c.insert_reserved-key.ensures.updates c.insert_reserved-key.ensures.len);
      in_order =
          subst (λ rs. AreInOrder rs (queues_at c.insert_reserved-key.new.self.slots (queues_of c.push.new.self)) c.args.self.now.until) (sym (packets at.After-push))
          (subst (λ qs. AreInOrder later qs c.args.self.now.until) (sym (queues at.After-push))
          (order-ready later ready c.args.self.now.until c.args.packet.now c.args.self.now.in_order c.requires.eligible c.requires.after c.requires.newest));
      nine = ap length c.push.ensures.queues ∙ length-pushed (queues_of c.args.self.now.ready) (c.args.packet.now.level - 1) c.insert_reserved-key.result ∙ nine;
      looked = c.args.self.now.looked;
      packets_hold = omega (arith, packets_hold, c.insert_reserved-key.ensures.capacity);
      keys_fit = omega (arith, keys_fit, c.insert_reserved-key.ensures.capacity);
      later_holds = c.args.self.now.later_holds;
      ready_holds = omega (arith, ready_holds, c.push.ensures.room);
    }

pub returns-clause-waiting : goal.returns-clause-waiting
returns-clause-waiting c =
    let at = goal.at.returns-clause-waiting c in
    let later = packets_at c.args.self.now.packets.slots (keys_of c.args.self.now.later.entries) in
    let ready = queues_at c.args.self.now.packets.slots (queues_of c.args.self.now.ready) in
    let long = length-map (queues_of c.args.self.now.ready) (packets_at c.args.self.now.packets.slots) in
    let own = inside at.Start in
    subst (λ rs. IsPermutation (c.args.packet.now ∷ (later ++ joined ready)) (rs ++ joined (queues_at c.insert_reserved-key.new.self.slots (queues_of c.push.new.self)))) (sym (packets at.After-push))
    (subst (λ qs. IsPermutation (c.args.packet.now ∷ (later ++ joined ready)) (later ++ joined qs)) (sym (queues at.After-push)) (comes-into later ready (c.args.packet.now.level - 1) c.args.packet.now (omega (arith, long, own))))
