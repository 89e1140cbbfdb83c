use Rattle.std.proofs.Common.{subst}
use Rattle.scenario_reader.specs.Drafts.{parts_said}
use Rattle.scenario_reader.specs.Kept.{IsDraft}
use Rattle.scenario_reader.proofs.Auditing.AuditKeeps.{request-stands}
use Rattle.scenario_reader.proofs.draft.Draft.request_in.Goals as goal

pub returns-clause-there : goal.returns-clause-there
returns-clause-there c =
    let draft : IsDraft c.args.self.now = subst IsDraft c.self.view_is c.self.invariant.0 in
    request-stands (parts_said c.args.self.now) c.in_ok-name.name c.request_named.result draft.keeps.planned c.request_named.ensures
