-- The regulator stands for the ticks that it keeps, and so its answer is right for all that it stands for.
use Rattle.std.proofs.Common.{◌≡◌, List, ℕ, ◌∷◌, refl, sym, ◌∙◌, ap, subst}
use Rattle.std.specs.Prelude.{reverse}
use Rattle.traffic_contract.specs.Eligible.{IsEligible, eligible, earliest_tick}
use Rattle.regulator_core.specs.Kept.{KeptTicks, RegulatorStandsFor, kept_ticks, regulator_with}
use Rattle.regulator_core.proofs.LatestOfThree.{eligible-le}
use Rattle.regulator_core.proofs.NewestSuffice.{eligible-stands, IsEligible-stands, StandsFor-answered, StandsFor-own}
use Rattle.regulator_core.proofs.regulator.Regulator.admit.Goals as goal

-- what the regulator keeps before the call
abbrev before : goal.After-push_front → KeptTicks
before c = kept_ticks c.self.inside.contract c.self.inside.kind c.self.inside.recent.items

abbrev low : goal.After-push_front → ℕ
low c = earliest_tick c.self.inside.kind c.args.at c.args.due

-- its answer, by what it keeps
answer-is : (c : goal.After-push_front) → c.least_eligible-eligible.result ≡ eligible c.self.inside.contract c.self.inside.recent.items (low c)
answer-is c =
    c.least_eligible-eligible.ensures.value ∙ ap (eligible c.self.inside.contract c.self.inside.recent.items) c.earliest.ensures

-- and as the least tick for a list that it stands for
answer-eligible : (c : goal.After-push_front) (past : List ℕ) → RegulatorStandsFor (before c) past → IsEligible c.self.inside.contract (reverse past) (low c) c.least_eligible-eligible.result
answer-eligible c past stands =
    subst (IsEligible c.self.inside.contract (reverse past) (low c)) (sym (answer-is c)) (IsEligible-stands (before c) past (low c) c.least_eligible-eligible.ensures.valid stands)

-- what it keeps afterwards
after-is : (c : goal.After-push_front) → kept_ticks c.self.inside.contract c.self.inside.kind c.push_front.new.self.items ≡ regulator_with (before c) c.least_eligible-eligible.result
after-is c = rw (c.push_front.ensures.items, c.self.invariant.0) refl

after-stands : (c : goal.After-push_front) (past : List ℕ) → RegulatorStandsFor (before c) past → RegulatorStandsFor (kept_ticks c.self.inside.contract c.self.inside.kind c.push_front.new.self.items) (c.least_eligible-eligible.result ∷ past)
after-stands c past stands =
    subst (λ kept. RegulatorStandsFor kept (c.least_eligible-eligible.result ∷ past)) (sym (after-is c))
    (StandsFor-answered (before c) past (low c) c.least_eligible-eligible.result stands (answer-eligible c past stands))

pub returns-clause-every_value : goal.returns-clause-every_value
returns-clause-every_value c =
    rw (← c.self.view_is) (λ past stands. answer-is c ∙ eligible-stands (before c) past (low c) c.least_eligible-eligible.ensures.valid stands)

pub returns-clause-every_list : goal.returns-clause-every_list
returns-clause-every_list c = rw (← c.self.view_is) (answer-eligible c)

pub returns-clause-stands : goal.returns-clause-stands
returns-clause-stands c = rw (← c.self.view_is) (after-stands c)

pub returns-clause-own : goal.returns-clause-own
returns-clause-own c = rw (← c.self.view_is) c.self.invariant.1

pub returns-clause-most : goal.returns-clause-most
returns-clause-most c =
    rw (← c.self.view_is, answer-is c) (eligible-le c.self.inside.contract c.self.inside.recent.items (low c) c.least_eligible-eligible.ensures.valid c.self.invariant.1.keeps)

pub invariant_of-self : goal.invariant_of-self
invariant_of-self c = (
  ap (λ ring. ring.capacity) c.push_front.ensures.items ∙ c.self.invariant.0,
  StandsFor-own _ _ (after-stands c c.self.inside.recent.items c.self.invariant.1),
)
