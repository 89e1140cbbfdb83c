-- What the code answers is the test, and the test says what the fact says, in both orders of the list.
use Rattle.std.proofs.Common.{sym, ◌∙◌, rules}
use Rattle.traffic_contract.specs.Keeping.{keeps}
use Rattle.traffic_contract.proofs.PartsKeepContract.{Decides-keeps}
use Rattle.traffic_contract.proofs.NewestFirst.{keeps-newest_first}
use Rattle.traffic_contract.proofs.contract.Contract.keeps.Goals as goal

pub returns-then-is_spaced-clause-test : goal.returns-then-is_spaced-clause-test
unfolding keeps
returns-then-is_spaced-clause-test c = search rules

pub returns-then-is_spaced-clause-fact : goal.returns-then-is_spaced-clause-fact
returns-then-is_spaced-clause-fact c =
    let e = returns-then-is_spaced-clause-test c in
    let told = Decides-keeps c.args.self.now c.args.ticks.now in
    (λ yes. told.0 (sym e ∙ yes), λ kept. e ∙ told.1 kept)

pub returns-then-is_spaced-clause-newest_first : goal.returns-then-is_spaced-clause-newest_first
returns-then-is_spaced-clause-newest_first c =
    returns-then-is_spaced-clause-test c ∙ keeps-newest_first c.args.self.now c.args.ticks.now c.burst.ensures.valid

pub returns-else-is_spaced-clause-test : goal.returns-else-is_spaced-clause-test
unfolding keeps
returns-else-is_spaced-clause-test c = search rules

pub returns-else-is_spaced-clause-fact : goal.returns-else-is_spaced-clause-fact
returns-else-is_spaced-clause-fact c =
    let e = returns-else-is_spaced-clause-test c in
    let told = Decides-keeps c.args.self.now c.args.ticks.now in
    (λ yes. told.0 (sym e ∙ yes), λ kept. e ∙ told.1 kept)

pub returns-else-is_spaced-clause-newest_first : goal.returns-else-is_spaced-clause-newest_first
returns-else-is_spaced-clause-newest_first c =
    returns-else-is_spaced-clause-test c ∙ keeps-newest_first c.args.self.now c.args.ticks.now (search rules)
