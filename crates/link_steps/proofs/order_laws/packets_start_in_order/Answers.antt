use Rattle.link_steps.proofs.StartsInOrder.{start-in-order}
use Rattle.link_steps.proofs.order_laws.packets_start_in_order.Goals as goal

pub returns : goal.returns
returns c = start-in-order
