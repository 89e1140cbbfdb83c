use Rattle.std.proofs.Common.{rules, ◌≡◌, ◌+◌, ◌-◌, ℕ, List, ◌++◌, length, ap, ◌∙◌, subst, take, drop, arith}
use Rattle.byte_ends.specs.Gathering.{Gathers}
use Rattle.byte_ends.proofs.Gathering.{added-length, gathers-next, more-blocks, room-left, part-of-piece}
use Rattle.byte_ends.proofs.gather.Gather.push.Goals as goal

pub returns-in_err-make_room-clause-front : goal.returns-in_err-make_room-clause-front
returns-in_err-make_room-clause-front g c =
    let all = part-of-piece c.loop-done.done c.args.piece.now _ _ _ _ _ c.loop-done.invariant.gathers c.in_err-make_room.ensures.front in
    search (rules, all)

pub loop-done-preserved : goal.loop-done-preserved
loop-done-preserved g c =
    let count = c.min-count.result in
    let next : take ((c.loop-done.done + count) - c.loop-done.done) (drop c.loop-done.done c.args.piece.now) ≡ take count (drop c.loop-done.done c.args.piece.now) =
    ap (λ (n : ℕ). take n (drop c.loop-done.done c.args.piece.now)) (omega arith) in
    let gathered = gathers-next c.loop-done.done count c.args.piece.now _ _ _ _ _ _ _ next c.loop-done.invariant.gathers c.in_ok-make_room.ensures.ok in
    let less = room-left (length c.args.self.now) (length c.args.piece.now) c.loop-done.done (length c.loop-done.self) c.loop-done-test.true in
    let same : c.make_room.new.self ++ take ((c.loop-done.done + count) - c.loop-done.done) (drop c.loop-done.done c.args.piece.now) ≡ c.add_reserved.new.bytes.items = cc in
    record {
      within = omega arith;
      gathers = subst (λ (now : List ℕ). Gathers (g.K.Sink.written c.args.sink.now) (g.K.Sink.written c.make_room.new.sink) c.args.self.now now (take (c.loop-done.done + count) c.args.piece.now)) same gathered;
      counts = omega (arith, c.make_room.ensures.counts);
      unwritten = λ fits. c.make_room.ensures.unwritten (less fits (c.loop-done.invariant.fitting fits)) ∙ c.loop-done.invariant.unwritten fits;
      fitting = λ fits. added-length (length c.args.self.now) c.loop-done.done count c.loop-done.self c.make_room.new.self _ c.args.piece.now (omega arith) (c.make_room.ensures.kept (less fits (c.loop-done.invariant.fitting fits))) same (c.loop-done.invariant.fitting fits);
      blocks = more-blocks _ _ _ c.loop-done.invariant.blocks c.in_ok-make_room.ensures.blocks;
    }
