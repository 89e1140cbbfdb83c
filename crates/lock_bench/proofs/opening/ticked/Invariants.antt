use Rattle.std.proofs.Common.{[], ◌∷◌}
use Rattle.link_steps.specs.Split.{whole}
use Rattle.step_stamp.specs.Seats.{stamps_table}
use Rattle.lock_bench.proofs.opening.ticked.Given as goal

abbrev pub ghosts-journal_of : goal.ghosts-journal_of
ghosts-journal_of g a = record { table = stamps_table a.stamps.now; owners = []; links = whole a.link.shape ∷ [] }
