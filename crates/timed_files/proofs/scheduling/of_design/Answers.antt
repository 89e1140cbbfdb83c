-- Its items are of the plan's actors.
use Rattle.timed_files.proofs.scheduling.of_design.Goals as goal

pub written-requires : goal.written-requires
written-requires c = c.in_ok-made.ensures.actors
