-- The bound is the definition's, and so no window of a list that keeps the contract has more entries.
use Rattle.std.proofs.Common.{◌≤◌, sym, subst, rules}
use Rattle.traffic_contract.specs.Contract.{most_in}
use Rattle.traffic_contract.specs.Window.{count_in}
use Rattle.traffic_contract.proofs.WindowsAreBounded.{count_in-le}
use Rattle.traffic_contract.proofs.contract.Contract.bound.Goals as goal

pub returns-clause-value : goal.returns-clause-value
unfolding most_in
returns-clause-value c = search rules

pub returns-clause-every_window : goal.returns-clause-every_window
returns-clause-every_window c =
    λ ticks from kept. subst (λ n. count_in ticks from c.args.w ≤ n) (sym (returns-clause-value c)) (count_in-le c.args.self.now ticks from c.args.w c.burst.ensures.valid kept)
