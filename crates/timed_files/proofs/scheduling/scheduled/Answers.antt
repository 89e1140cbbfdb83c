-- Its items are of the plan's actors.
use Rattle.timed_files.proofs.scheduling.scheduled.Goals as goal

pub returns-in-Ok : goal.returns-in-Ok
returns-in-Ok c = c.in-Ok.ensures.actors
