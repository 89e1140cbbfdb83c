use Rattle.link_ledger.proofs.LinkStaysInOrder.{in_order-new}
use Rattle.link_ledger.proofs.held.Held.new.Goals as goal

pub invariant_of-result : goal.invariant_of-result
invariant_of-result g c = (c.requires.table, c.requires.rules, in_order-new _ _ _ _ c.new.ensures.items c.requires.empty (g.met.L.LinkStep.is_fit c.args.link _ c.requires.stands) c.requires.stands)
