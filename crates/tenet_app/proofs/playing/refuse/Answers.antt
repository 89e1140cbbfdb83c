use Rattle.std.proofs.Common.{◌∙◌, refl}
use Rattle.tenet_app.specs.Playing.{FrontTold}
use Rattle.tenet_app.proofs.WrittenAnswers.{part-of-front}
use Rattle.tenet_app.proofs.playing.refuse.Goals as goal

pub returns-clause-tells : goal.returns-clause-tells
returns-clause-tells g c = FrontTold refl c.in-Err-put_all.ensures.fault (part-of-front _ _ c.as_bytes.result.now _ (c.as_bytes.ensures.value ∙ c.in-Ok.ensures) c.in-Err-put_all.ensures.front)
