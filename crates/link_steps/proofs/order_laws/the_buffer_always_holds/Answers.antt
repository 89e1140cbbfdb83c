use Rattle.link_steps.proofs.PacketsInBuffer.{buffer-holds}
use Rattle.link_steps.proofs.order_laws.the_buffer_always_holds.Goals as goal

pub returns : goal.returns
returns c = buffer-holds
