use Rattle.tenet_app.proofs.WrittenAnswers.{part-of-front}
use Rattle.tenet_app.proofs.racing.write_line.Goals as goal

pub returns-in-Err : goal.returns-in-Err
returns-in-Err g c = (part-of-front _ _ c.as_bytes.result.now c.args.line.now c.as_bytes.ensures.value c.in-Err.ensures.front, c.in-Err.ensures.fault)
