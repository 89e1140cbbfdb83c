-- The move goes on.
use Rattle.std.proofs.Common.{refl, sym}
use Rattle.call_script.proofs.WorkByReplies.{moving-goes-on}
use Rattle.call_script.proofs.work.take_moving.Goals as goal

pub returns-in-None-clause-taken : goal.returns-in-None-clause-taken
returns-in-None-clause-taken c = λ one other own_gap own_size tasks replies was.
    moving-goes-on c.args.old c.args.new c.args.gap c.args.size c.args.mover.now c.take.new.self one other own_gap own_size tasks replies c.args.reply c.in-Ok.ensures.terms c.in-Ok.ensures.taken
    (c.in-None.ensures.left.0 refl) (sym c.in-None.ensures.told) was
