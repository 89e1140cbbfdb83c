use Rattle.std.proofs.Common.{subst, arith}
use Rattle.scenario_reader.specs.Kept.{IsDraft}
use Rattle.scenario_reader.proofs.kind.Caller.{member_small}
use Rattle.scenario_reader.proofs.draft.Draft.say_caller.Goals as goal

pub overflow_cast-group : goal.overflow_cast-group
overflow_cast-group c =
    let draft : IsDraft c.args.self.now = subst IsDraft c.self.view_is c.self.invariant.0 in
    let few = member_small c.args._version c.args.self.now c.args.values.now c.requires draft.keeps.groups.few in
    omega (arith, few, c.number-group.ensures)
