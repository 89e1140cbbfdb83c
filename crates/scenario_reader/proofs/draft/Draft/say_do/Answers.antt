use Rattle.std.proofs.Common.{refl, arith}
use Rattle.scenario_reader.proofs.Finding.ShapeOfNumbers.{actor-is}
use Rattle.scenario_reader.proofs.draft.Draft.say_do.Goals as goal

pub returns : goal.returns
returns c =
    let actor = actor-is c.unwrap.result c.actor_said-number.result (omega (arith, c.actor_said-number.ensures.small)) (rw c.unwrap.ensures at c.new.ensures.value) in
    rw (actor, c.actor_said-number.ensures.value, c.number.ensures) refl
