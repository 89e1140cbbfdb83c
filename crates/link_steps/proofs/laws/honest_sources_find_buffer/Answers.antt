use Rattle.link_steps.proofs.SourceHistory.{source-guarantee}
use Rattle.link_steps.proofs.laws.honest_sources_find_buffer.Goals as goal

pub returns : goal.returns
returns c = source-guarantee
