use Rattle.std.proofs.Common.{Err, ap}
use Rattle.tenet_app.proofs.RaceWritten.{unread-stops}
use Rattle.tenet_app.proofs.racing.read.Goals as goal

pub returns-in-Err-clause-reads : goal.returns-in-Err-clause-reads
returns-in-Err-clause-reads g c =
    unread-stops _ _ c.refuse_reading.result c.in-Err.refusal c.in-Err.ensures.told
    (λ is. c.in-Err.ensures.fault (ap Err is)) (λ is. c.in-Err.ensures.passing (ap Err is)) c.refuse_reading.ensures.tells
