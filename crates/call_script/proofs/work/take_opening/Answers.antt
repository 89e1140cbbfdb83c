-- The setup goes on.
use Rattle.std.proofs.Common.{sym}
use Rattle.call_script.proofs.WorkByReplies.{opening-goes-on}
use Rattle.call_script.proofs.work.take_opening.Goals as goal

pub returns-in-None-clause-taken : goal.returns-in-None-clause-taken
returns-in-None-clause-taken c = λ request tasks replies was.
    opening-goes-on c.args.chan c.args.setup.now c.take.new.self request tasks replies c.args.reply c.in-Ok.ensures.request c.in-Ok.ensures.taken (sym c.in-None.ensures.value) was
