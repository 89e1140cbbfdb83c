-- The packet comes under a new key, which is put in the calendar.
use Rattle.std.proofs.Common.{◌≡◌, ◌++◌, ◌∷◌, [], length, sym, ap, ◌∙◌, subst, arith}
use Rattle.std.proofs.lemmas.List.{length-append}
use Rattle.link_server.proofs.Words.{IsPermutation, Timetable}
use Rattle.link_server.specs.Keys.{keys_of, packets_at, queues_at, AreKeyed, AreInOrder}
use Rattle.link_server.specs.Queues.{joined}
use Rattle.link_server.specs.Ready.{queues_of}
use Rattle.link_server.proofs.Waiting.Keys.{keyed-came, packets-came, long-packets}
use Rattle.link_server.proofs.Waiting.Queues.{comes-before}
use Rattle.link_server.proofs.Waiting.Order.{order-came}
use Rattle.link_server.proofs.queue.line.Line.push_later.Goals as goal
use Rattle.link_server.proofs.queue.line.Line.push_later.Goals.{After-put}

pub insert_reserved-key-requires : goal.insert_reserved-key-requires
insert_reserved-key-requires c =
    let counted = c.args.self.now.keyed.counted in
    let long = long-packets c.args.self.now.packets.slots c.args.self.now.later.entries (queues_of c.args.self.now.ready) in
    let hold = c.args.self.now.packets_hold in
    omega (arith, counted, long, hold, c.requires.room)

entries : (c : After-put) → c.put.new.self.entries ≡ c.args.self.now.later.entries ++ (c.args.packet.now.eligible, c.insert_reserved-key.result) ∷ []
entries c = ap (λ (s : Timetable). s.entries) c.put.ensures

packets : (c : After-put) → packets_at c.insert_reserved-key.new.self.slots (keys_of c.put.new.self.entries) ≡ packets_at c.args.self.now.packets.slots (keys_of c.args.self.now.later.entries) ++ c.args.packet.now ∷ []
packets c =
    ap (λ es. packets_at c.insert_reserved-key.new.self.slots (keys_of es)) (entries c)
    ∙ (packets-came c.args.self.now.packets c.insert_reserved-key.new.self c.args.self.now.later.entries (queues_of c.args.self.now.ready) c.insert_reserved-key.result c.args.packet.now c.args.self.now.keyed c.insert_reserved-key.ensures.was_vacant c.insert_reserved-key.ensures.updates).0

queues : (c : After-put) → queues_at c.insert_reserved-key.new.self.slots (queues_of c.args.self.now.ready) ≡ queues_at c.args.self.now.packets.slots (queues_of c.args.self.now.ready)
queues c =
    (packets-came c.args.self.now.packets c.insert_reserved-key.new.self c.args.self.now.later.entries (queues_of c.args.self.now.ready) c.insert_reserved-key.result c.args.packet.now c.args.self.now.keyed c.insert_reserved-key.ensures.was_vacant c.insert_reserved-key.ensures.updates).1

pub invariant_of-self : goal.invariant_of-self
invariant_of-self c =
    let later = packets_at c.args.self.now.packets.slots (keys_of c.args.self.now.later.entries) in
    let ready = queues_at c.args.self.now.packets.slots (queues_of c.args.self.now.ready) in
    let come = entries c in
    let spare = ap (λ (s : Timetable). s.spare) c.put.ensures in
    let clock = ap (λ (s : Timetable). s.clock) c.put.ensures in
    let long = ap length come ∙ length-append c.args.self.now.later.entries ((c.args.packet.now.eligible, c.insert_reserved-key.result) ∷ []) in
    let looked = c.args.self.now.looked in
    let packets_hold = c.args.self.now.packets_hold in
    let later_holds = c.args.self.now.later_holds in
    let keys_fit = c.args.self.now.keys_fit in
    record {
      keyed =
          subst (λ es. AreKeyed c.insert_reserved-key.new.self.slots es (queues_of c.args.self.now.ready)) (sym come)
          (keyed-came c.args.self.now.packets c.insert_reserved-key.new.self c.args.self.now.later.entries (queues_of c.args.self.now.ready) c.insert_reserved-key.result c.args.packet.now c.args.self.now.keyed c.insert_reserved-key.ensures.was_vacant c.insert_reserved-key.ensures.updates c.insert_reserved-key.ensures.len);
      in_order =
          subst (λ rs. AreInOrder rs (queues_at c.insert_reserved-key.new.self.slots (queues_of c.args.self.now.ready)) c.args.self.now.until) (sym (packets c))
          (subst (λ qs. AreInOrder (later ++ c.args.packet.now ∷ []) qs c.args.self.now.until) (sym (queues c))
          (order-came later ready c.args.self.now.until c.args.packet.now c.args.self.now.in_order c.requires.eligible c.requires.newest));
      nine = c.args.self.now.nine;
      looked = omega (arith, looked, clock);
      packets_hold = omega (arith, packets_hold, c.insert_reserved-key.ensures.capacity);
      keys_fit = omega (arith, keys_fit, c.insert_reserved-key.ensures.capacity);
      later_holds = omega (arith, later_holds, spare, long);
      ready_holds = c.args.self.now.ready_holds;
    }

pub returns-clause-waiting : goal.returns-clause-waiting
returns-clause-waiting c =
    let later = packets_at c.args.self.now.packets.slots (keys_of c.args.self.now.later.entries) in
    let ready = queues_at c.args.self.now.packets.slots (queues_of c.args.self.now.ready) in
    let at = (goal.at.returns-clause-waiting c).After-put in
    subst (λ rs. IsPermutation (c.args.packet.now ∷ (later ++ joined ready)) (rs ++ joined (queues_at c.insert_reserved-key.new.self.slots (queues_of c.args.self.now.ready)))) (sym (packets at))
    (subst (λ qs. IsPermutation (c.args.packet.now ∷ (later ++ joined ready)) ((later ++ c.args.packet.now ∷ []) ++ joined qs)) (sym (queues at)) (comes-before later c.args.packet.now (joined ready)))
