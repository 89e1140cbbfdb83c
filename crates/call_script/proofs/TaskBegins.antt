-- A task as it begins is the task, but for the packets of a move.
use Rattle.std.proofs.Common.{ℕ, List}
use Rattle.setup_protocol.specs.declared.request.Request.{Request}
use Rattle.call_script.specs.Scripts.{Learnt, ready}
use Rattle.call_script.specs.declared.tasks.Task.{Task}
use Rattle.call_script.specs.declared.tasks.Task.TheVariants.{Opens, Sends, Closes, Moves}

-- what doesn't depend on these stays so
pub ready-keeps : (P : Task → Type 0) → ((old new : Request) (gap size other_gap other_size : ℕ) → P (Moves old new gap size) → P (Moves old new other_gap other_size)) → (outcomes : List Learnt) (task : Task) → P task → P (ready outcomes task)
ready-keeps P moves outcomes (Opens request) is = is
ready-keeps P moves outcomes (Sends link chan count gap size) is = is
ready-keeps P moves outcomes (Closes request) is = is
ready-keeps P moves outcomes (Moves old new gap size) is = moves old new gap size _ _ is
