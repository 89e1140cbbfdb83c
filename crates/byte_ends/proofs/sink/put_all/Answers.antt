use Rattle.std.proofs.Common.{arith}
use Rattle.std.proofs.lemmas.List.{take_rest}
use Rattle.byte_ends.proofs.Putting.{PutSoFar-more}
use Rattle.byte_ends.proofs.sink.put_all.Goals as goal

pub loop-done-preserved : goal.loop-done-preserved
loop-done-preserved g c =
    let more = c.in-Wrote.ensures.writes in
    (PutSoFar-more _ _ _ _ _ _ _ _ _ _ (take_rest c.args.piece.now c.loop-done.done) c.loop-done.invariant.0 more, λ none. absurd (omega (arith, more.some)))
