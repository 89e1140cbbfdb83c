-- Each channel is blank.
use Rattle.std.proofs.Common.{[], replicate, sym, subst}
use Rattle.call_script.specs.Channels.{AreTold}
use Rattle.call_script.proofs.ChannelsAsLearnt.{none-told}
use Rattle.call_script.proofs.channels.Channels.new.Goals as goal

pub returns-clause-none : goal.returns-clause-none
returns-clause-none c =
    let items = c.in_ok-by_number.ensures.items_if_clones_equal (λ y same. same) in
    subst (λ xs. AreTold xs []) (sym items) (subst (λ b. AreTold (replicate c.args.count b) []) (sym c.blank.ensures) (none-told c.args.count))
