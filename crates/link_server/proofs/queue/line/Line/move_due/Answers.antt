-- The key that is due first goes from the calendar to the queue of its level.
use Rattle.std.proofs.Common.{◌≡◌, ◌-◌, ◌<◌, ◌++◌, length, refl, sym, ap, ◌∙◌, subst, arith}
use Rattle.std.proofs.lemmas.List.{length-append, length-map}
use Rattle.link_server.proofs.Words.{IsPermutation}
use Rattle.link_server.specs.Keys.{packet_told, packet_at, packets_at, queues_at, keys_of, AreKeyed, AreInOrder}
use Rattle.link_server.specs.Line.{AreAfter}
use Rattle.link_server.specs.Queues.{joined}
use Rattle.link_server.specs.Ready.{queues_of}
use Rattle.link_server.proofs.Waiting.Keys.{is-held, long-packets}
use Rattle.link_server.proofs.Waiting.Due.{all-after, due-held, due-one, due-fewer, due-keyed, due-packets, due-order}
use Rattle.link_server.proofs.Waiting.Queues.{length-pushed}
use Rattle.link_server.proofs.queue.line.Line.move_due.Goals as goal
use Rattle.link_server.proofs.queue.line.Line.move_due.Goals.{After-index}

pub returns-in_default-clause-after : goal.returns-in_default-clause-after
returns-in_default-clause-after c = λ none.
    let slots = c.args.self.now.packets.slots in
    subst (λ entries. AreAfter c.args.self.now.until (packets_at slots (keys_of entries))) (sym c.in_default.ensures.stay)
    (all-after slots c.args.self.now.later.entries c.args.self.now.until c.args.self.now.keyed.under (c.in_default.ensures.none.0 refl))

pub index-requires : goal.index-requires
index-requires c =
    is-held c.args.self.now.packets.slots c.in-Some.key
    (due-held c.args.self.now.packets.slots c.args.self.now.later.entries c.take_due.new.self.entries (queues_of c.args.self.now.ready) c.args.self.now.until c.in-Some.key c.in-Some.ensures.taken c.args.self.now.keyed)

-- the packet under the key
told : (c : After-index) → packet_at c.args.self.now.packets.slots c.in-Some.key ≡ c.index.result.now
told c = ap packet_told c.index.ensures

fewer : (c : After-index) → length (packets_at c.args.self.now.packets.slots (keys_of c.take_due.new.self.entries)) < length (packets_at c.args.self.now.packets.slots (keys_of c.args.self.now.later.entries))
fewer c =
    due-fewer c.args.self.now.packets.slots c.args.self.now.later.entries c.take_due.new.self.entries (queues_of c.args.self.now.ready) c.args.self.now.until c.in-Some.key c.index.result.now c.in-Some.ensures.taken c.args.self.now.keyed c.args.self.now.in_order (told c)

inside : (c : After-index) → c.index.result.now.level - 1 < length (queues_of c.args.self.now.ready)
inside c = let nine = c.args.self.now.nine in let least = c.index.result.now.has_level in let most = c.index.result.now.has_most in omega (arith, nine, least, most)

pub push-requires-clause-least : goal.push-requires-clause-least
push-requires-clause-least c = c.index.result.now.has_level

pub push-requires-clause-most : goal.push-requires-clause-most
push-requires-clause-most c = c.index.result.now.has_most

pub push-requires-clause-room : goal.push-requires-clause-room
push-requires-clause-room c =
    let one = fewer (goal.at.push-requires-clause-room c).After-index in
    let slots = c.args.self.now.packets.slots in
    let all = long-packets slots c.args.self.now.later.entries (queues_of c.args.self.now.ready) in
    let keys = length-append (keys_of c.args.self.now.later.entries) (joined (queues_of c.args.self.now.ready)) in
    let later = length-map (keys_of c.args.self.now.later.entries) (packet_at slots) in
    let holds = c.args.self.now.ready_holds in
    omega (arith, one, all, keys, later, holds, c.requires.room)

pub invariant_of-self-2 : goal.invariant_of-self-2
invariant_of-self-2 c =
    let slots = c.args.self.now.packets.slots in
    let at = (goal.at.invariant_of-self-2 c).After-index in
    let put = c.push.ensures.queues in
    let nine = c.args.self.now.nine in
    let looked = c.args.self.now.looked in
    let later_holds = c.args.self.now.later_holds in
    let ready_holds = c.args.self.now.ready_holds in
    let one = due-one c.in-Some.ensures.taken in
    record {
      keyed =
          subst (λ queues. AreKeyed slots c.take_due.new.self.entries queues) (sym put)
          (due-keyed slots c.args.self.now.later.entries c.take_due.new.self.entries (queues_of c.args.self.now.ready) c.args.self.now.until c.in-Some.key c.index.result.now c.in-Some.ensures.taken c.args.self.now.keyed c.args.self.now.in_order (told at) (inside at));
      in_order =
          subst (λ queues. AreInOrder (packets_at slots (keys_of c.take_due.new.self.entries)) (queues_at slots queues) c.args.self.now.until) (sym put)
          (due-order slots c.args.self.now.later.entries c.take_due.new.self.entries (queues_of c.args.self.now.ready) c.args.self.now.until c.in-Some.key c.index.result.now c.in-Some.ensures.taken c.args.self.now.keyed c.args.self.now.in_order (told at));
      nine = ap length put ∙ length-pushed (queues_of c.args.self.now.ready) (c.index.result.now.level - 1) c.in-Some.key ∙ nine;
      looked = omega (arith, c.in-Some.ensures.clock);
      packets_hold = c.args.self.now.packets_hold;
      keys_fit = c.args.self.now.keys_fit;
      later_holds = omega (arith, later_holds, one, c.in-Some.ensures.spare);
      ready_holds = omega (arith, ready_holds, c.push.ensures.room);
    }

pub returns-clause-waiting : goal.returns-clause-waiting
returns-clause-waiting c =
    let slots = c.args.self.now.packets.slots in
    let at = (goal.at.returns-clause-waiting c).After-index in
    subst (λ queues. IsPermutation (packets_at slots (keys_of c.args.self.now.later.entries) ++ joined (queues_at slots (queues_of c.args.self.now.ready))) (packets_at slots (keys_of c.take_due.new.self.entries) ++ joined (queues_at slots queues))) (sym c.push.ensures.queues)
    (due-packets slots c.args.self.now.later.entries c.take_due.new.self.entries (queues_of c.args.self.now.ready) c.args.self.now.until c.in-Some.key c.index.result.now c.in-Some.ensures.taken c.args.self.now.keyed c.args.self.now.in_order (told at) (inside at))

pub returns-clause-fewer : goal.returns-clause-fewer
returns-clause-fewer c = λ yes. fewer (goal.at.returns-clause-fewer c).After-index
