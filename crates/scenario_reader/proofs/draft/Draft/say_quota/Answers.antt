use Rattle.std.proofs.Common.{sym, subst, Option}
use Rattle.call_script.specs.declared.entries.LinkEntry.{LinkEntry}
use Rattle.scenario_reader.specs.Causes.{AnswersWithRoom}
use Rattle.scenario_reader.specs.Kept.{IsDraft}
use Rattle.scenario_reader.specs.line.Quota.{quota_for}
use Rattle.scenario_reader.proofs.kind.Quota.{quota_small, link_there}
use Rattle.scenario_reader.proofs.draft.Draft.say_quota.Goals as goal

pub link_said-requires : goal.link_said-requires
link_said-requires c = link_there c.args.self.now c.args.values.now c.requires

pub quota_for-requires : goal.quota_for-requires
quota_for-requires c =
    let draft : IsDraft c.args.self.now = subst IsDraft c.self.view_is c.self.invariant.0 in
    record { fits = quota_small c.args.self.now c.args.values.now draft.keeps.groups.few c.requires }

pub returns : goal.returns
returns c = subst (λ (found : Option LinkEntry). AnswersWithRoom c.quota_for.result (quota_for found c.args.values.now)) (sym c.link_said.ensures) c.quota_for.ensures
