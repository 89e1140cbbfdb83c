use Rattle.field_units.proofs.StreamSpacing.{stream-keeps}
use Rattle.field_units.proofs.laws.a_stream_keeps_its_contract.Goals as goal

pub returns : goal.returns
returns c = stream-keeps
