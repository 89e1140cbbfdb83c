use Rattle.scenario_reader.proofs.Passing.ReadNames.{what-is-readable}
use Rattle.scenario_reader.proofs.laws.what_is_read_is_readable.Goals as goal

pub returns : goal.returns
returns c = what-is-readable
