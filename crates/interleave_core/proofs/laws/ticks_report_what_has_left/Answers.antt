use Rattle.interleave_core.proofs.Channels.SentRows.{sent-by}
use Rattle.interleave_core.proofs.laws.ticks_report_what_has_left.Goals as goal

pub returns : goal.returns
returns c = sent-by
