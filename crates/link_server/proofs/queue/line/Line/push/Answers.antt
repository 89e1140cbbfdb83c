-- What is looked at keeps its packets, and none that isn't ready is eligible by then.
use Rattle.std.proofs.Common.{◌∷◌, [], sym, subst, arith}
use Rattle.std.proofs.lemmas.List.Sorted.{IsPermutation-append_right, IsPermutation-trans, length_permutation}
use Rattle.link_server.specs.Line.{waiting_in, later_in, AreAfter}
use Rattle.link_server.specs.Order.{ArrivedBefore}
use Rattle.link_server.proofs.queue.line.Line.push.Goals as goal
use Rattle.link_steps.proofs.ListParts.{Each-permuted}

pub push_later-requires-clause-eligible : goal.push_later-requires-clause-eligible
push_later-requires-clause-eligible c = omega (arith, c.requires.on, c.requires.eligible)

pub look-requires-clause-room : goal.look-requires-clause-room
look-requires-clause-room c = omega (arith, c.requires.room)

pub push_ready-requires : goal.push_ready-requires
push_ready-requires c =
    let same = length_permutation (waiting_in c.args.self.now) (waiting_in c.look.new.self) c.look.ensures.waiting in
    record {
      room = omega (arith, same, c.look.ensures.room, c.requires.room);
      eligible = (let past = c.if-packet-clock.false in omega (arith, past, c.requires.eligible, c.look.ensures.until));
      after = subst (λ tick. AreAfter tick (later_in c.look.new.self)) (sym c.look.ensures.until) c.look.ensures.after;
      newest = Each-permuted (λ s. ArrivedBefore s c.args.packet.now) (waiting_in c.args.self.now) (waiting_in c.look.new.self) c.look.ensures.waiting c.requires.newest;
    }

pub returns-clause-waiting : goal.returns-clause-waiting
returns-clause-waiting c =
    IsPermutation-trans (c.args.packet.now ∷ waiting_in c.args.self.now) (c.args.packet.now ∷ waiting_in c.look.new.self) (waiting_in c.push_ready.new.self)
    (IsPermutation-append_right (c.args.packet.now ∷ []) _ _ c.look.ensures.waiting) c.push_ready.ensures.waiting
