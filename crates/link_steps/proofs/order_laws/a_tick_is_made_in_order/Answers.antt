use Rattle.link_steps.proofs.TickInOrder.{tick-in-order}
use Rattle.link_steps.proofs.order_laws.a_tick_is_made_in_order.Goals as goal

pub returns : goal.returns
returns c = tick-in-order
