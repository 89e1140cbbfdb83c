use Rattle.std.proofs.Common.{rules, refl}
use Rattle.tenet_app.specs.Auditing.{TableTold, TableUntold}
use Rattle.tenet_app.proofs.auditing.answer.Goals as goal

pub returns-in-Ok-clause-answers : goal.returns-in-Ok-clause-answers
returns-in-Ok-clause-answers g c =
    TableTold c.in-Ok.finding (record { value = c.in-Ok.ensures.value; sound = c.in-Ok.ensures.sound; kept = c.in-Ok.ensures.kept }) c.tell.ensures.tells

pub returns-in-Err-clause-answers : goal.returns-in-Err-clause-answers
returns-in-Err-clause-answers g c = TableUntold refl (search rules)
