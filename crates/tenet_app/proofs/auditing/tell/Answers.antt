use Rattle.std.proofs.Common.{◌∙◌}
use Rattle.tenet_app.proofs.WrittenAnswers.{part-of-front}
use Rattle.tenet_app.proofs.auditing.tell.Goals as goal

pub returns-clause-tells : goal.returns-clause-tells
returns-clause-tells g c = (c.in-Err-put_all.ensures.fault, part-of-front _ _ c.as_bytes.result.now _ (c.as_bytes.ensures.value ∙ c.in-Ok.ensures) c.in-Err-put_all.ensures.front)
