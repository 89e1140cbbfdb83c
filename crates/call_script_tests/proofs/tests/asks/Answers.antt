-- The caller stands for one more reply.
use Rattle.std.proofs.Common.{◌∷◌}
use Rattle.call_script_tests.proofs.tests.asks.Goals as goal

pub returns-in-Ok : goal.returns-in-Ok
returns-in-Ok g c = (c.args.reply ∷ c.requires.0, c.in-Ok.ensures.taken c.requires.0 c.requires.1)
