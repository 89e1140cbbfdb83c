use Rattle.std.proofs.Common.{◌-◌, length, refl, sym}
use Rattle.race_run.proofs.PieceSteps.OneMoreTurn.{ends-at}
use Rattle.race_run.proofs.turns.ends_with.Goals as goal

pub returns-in-Some : goal.returns-in-Some
returns-in-Some c =
    rw (c.get.ensures.value, c.get-in-Some.ensures.value) (sym (ends-at c.args.actor c.args.items.now (length c.args.items.now - 1) c.in-Some.last.now (sym c.in-Some.ensures.value) refl))
